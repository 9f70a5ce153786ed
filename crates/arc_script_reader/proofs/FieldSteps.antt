-- One field more whose name is none of those before.
use Rattle.std.proofs.Common.{◌≡◌, ℕ, ◌+◌, ◌<◌, Bool, true, false, ◌||◌, List, [], ◌∷◌, ◌++◌, length, map, take, drop, get_or, refl, sym, ap, ◌∙◌, add-one, drop-cons}
use Rattle.std.specs.Prelude.{not, bytes_eq}
use Rattle.std.proofs.lemmas.List.{take_more, map-append}
use Rattle.arc_script_reader.specs.declared.field.FieldWord.{FieldWord}
use Rattle.arc_script_reader.specs.Fields.{seen, name_of}
use Rattle.arc_script.specs.Lookups.{is_among, repeats}
use Rattle.arc_script_reader.proofs.NameSteps.{known_more, not_repeated}

abbrev pub names : List FieldWord → List (List ℕ)
names fs = map name_of (map seen fs)

names_more : (fs : List FieldWord) (i : ℕ) (d : FieldWord) → i < length fs → names (take (i + 1) fs) ≡ names (take i fs) ++ (get_or fs i d).name.now ∷ []
names_more fs i d h =
    ap names (take_more fs i d h) ∙ (ap (map name_of) (map-append seen (take i fs) (get_or fs i d ∷ [])) ∙ map-append name_of (map seen (take i fs)) (seen (get_or fs i d) ∷ []))

names_left : (fs : List FieldWord) (i : ℕ) (d : FieldWord) → i < length fs → names (drop i fs) ≡ (get_or fs i d).name.now ∷ names (drop (i + 1) fs)
names_left fs i d h = rw add-one (ap names (drop-cons fs i d h))

no_longer : (b : Bool) → not b ≡ true → b ≡ false
no_longer true e = absurd cc
no_longer false e = refl

pub known_next : (fs : List FieldWord) (i : ℕ) (d : FieldWord) (q : List ℕ) (new old : Bool) → i < length fs → old ≡ is_among (names (take i fs)) q
    → new ≡ (bytes_eq q (get_or fs i d).name.now || old) → new ≡ is_among (names (take (i + 1) fs)) q
known_next fs i d q new old h e f = rw (names_more fs i d h) (known_more q (get_or fs i d).name.now (names (take i fs)) new old e f)

pub said_next : (fs : List FieldWord) (i : ℕ) (d : FieldWord) (fresh old all : Bool) → i < length fs → old ≡ is_among (names (take i fs)) (get_or fs i d).name.now
    → fresh ≡ not old → fresh ≡ true → repeats (names (take i fs)) (names (drop i fs)) ≡ all → repeats (names (take (i + 1) fs)) (names (drop (i + 1) fs)) ≡ all
said_next fs i d fresh old all h e f g s =
    rw (names_more fs i d h) (not_repeated (names (take i fs)) (names (drop (i + 1) fs)) (get_or fs i d).name.now (sym e ∙ no_longer old (sym f ∙ g))
    ∙ (ap (repeats (names (take i fs))) (sym (names_left fs i d h)) ∙ s))
