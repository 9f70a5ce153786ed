-- What a run names.
use Rattle.std.proofs.Common.{◌≡◌, ℕ, zero, suc, ◌+◌, ◌<◌, Bool, false, arith, ◌||◌, List, [], ◌∷◌, ◌++◌, length, map, take, get_or, refl, ap, ◌∙◌}
use Rattle.std.specs.Prelude.{bytes_eq, slice_index_or}
use Rattle.std.proofs.lemmas.List.{take_more, map-append}
use Rattle.arc_script.specs.Said.{Grouped}
use Rattle.arc_script.specs.Group.{group_names, group_immortals}
use Rattle.arc_script.specs.Lookups.{is_among}
use Rattle.arc_script_reader.specs.declared.group.GroupName.{GroupName}
use Rattle.arc_script_reader.specs.Ahead.{seen}
use Rattle.arc_script_reader.proofs.NameSteps.{known_more}

pub names_seen : (ns : List GroupName) → group_names (map seen ns) ≡ map (λ (n : GroupName). n.name.now) ns
names_seen [] = refl
names_seen (n ∷ ns) = ap (λ (later : List (List ℕ)). n.name.now ∷ later) (names_seen ns)

pub immortal_at : (ns : List GroupName) (i : ℕ) (d : GroupName) → i < length ns → (slice_index_or ns i d).immortal ≡ slice_index_or (group_immortals (map seen ns)) i false
immortal_at [] i d lt = absurd (omega arith)
immortal_at (n ∷ ns) zero d lt = refl
immortal_at (n ∷ ns) (suc i) d lt = immortal_at ns i d (omega arith)

pub known_next : (names : List GroupName) (i : ℕ) (d : GroupName) (q : List ℕ) (new old : Bool) → i < length names → old ≡ is_among (group_names (map seen (take i names))) q
    → new ≡ (bytes_eq q (get_or names i d).name.now || old) → new ≡ is_among (group_names (map seen (take (i + 1) names))) q
known_next names i d q new old h e f =
    let more = ap (λ (ns : List GroupName). group_names (map seen ns)) (take_more names i d h)
    ∙ (ap group_names (map-append seen (take i names) (get_or names i d ∷ [])) ∙ map-append (λ (g : Grouped). g.name) (map seen (take i names)) (seen (get_or names i d) ∷ [])) in
    rw more (known_more q (get_or names i d).name.now (group_names (map seen (take i names))) new old e f)
