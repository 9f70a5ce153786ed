-- What is no spelling.
use Rattle.std.proofs.Common.{◌≡◌, ◌<◌, ◌+◌, ℕ, ◌==◌, Bool, true, false, List, [], ◌∷◌, ◌++◌, Option, Some, None, refl, sym, ap, ◌∙◌, length, length-append, arith}
use Rattle.arc_model.specs.declared.answer.Answer.TheVariants as answers
use Rattle.arc_model.specs.declared.event.ObjectName.{ObjectName}
use Rattle.arc_model.specs.declared.event.CellName.TheVariants as cells
use Rattle.arc_model.specs.declared.event.Act.{Act}
use Rattle.arc_model.specs.declared.event.Act.TheVariants as acts
use Rattle.arc_model.specs.declared.shape.Kind.{Kind}
use Rattle.arc_model.specs.declared.shape.Kind.TheVariants.{Strong, Unowned, Weak}
use Rattle.arc_model.specs.Shapes.{HeapShape}
use Rattle.arc_model.specs.Cells.{same_kind}
use Rattle.arc_model.specs.History.{History}
use Rattle.arc_spelling.specs.Spelling.{Note, one_more_if, deinits_of, IsCascade}
use Rattle.arc_model.specs.References.{field_count}
use Rattle.arc_spelling.specs.Spelling.Note.{Did, Line, Name, Entry, NeedsEntry, Nil, Refers}
use Rattle.arc_spelling.specs.SpellingGains.{IsReady, IsGain}
use Rattle.arc_spelling.specs.SpellingGains.Spare.{Claimed}
use Rattle.arc_spelling.specs.SpellingGains.IsReady.{noted, claimed}
use Rattle.arc_spelling.specs.SpellingTies.{Ties}
use Rattle.arc_model.specs.References.{Reference}
use Rattle.arc_spelling.specs.SpellingTies.Causes.{Judged}
use Rattle.arc_spelling.specs.SpellingLaws.{is_claim, is_settling, claims_in, settled_in}
use Rattle.arc_spelling.proofs.SpellLaws.{deinits_whole, claims_settled}
use Rattle.arc_spelling.proofs.SpellHands.{hands_dropped}
use Rattle.arc_model.proofs.Judged.{mortal, by_one}
use Rattle.arc_spelling.proofs.SpellTies.{fact_now}

-- of two lists that differ in one name at the front, the front is that name
one-more : (later rest : List ObjectName) (a b : ObjectName) → a ∷ rest ≡ later ++ b ∷ rest → a ≡ b
one-more [] rest a b e = cc
one-more (x ∷ later) rest a b e = absurd (omega (arith, ap length e, length-append later (b ∷ rest)))

-- A deinit without its line.
no_line : (shape : HeapShape) (slot : ℕ) (before after : List Note) → deinits_of after ≡ deinits_of before → IsCascade shape slot before after → ⊥
no_line shape slot before after e c =
    let h = deinits_whole shape slot before after c in
    omega (arith, ap length (sym e ∙ h.told), length-append h.later (h.name ∷ deinits_of before))

-- A deinit that ends with a field neither read as nil nor taken.
field_forgotten : (shape : HeapShape) (slot : ℕ) (name : ObjectName) (before : List Note) → 0 < field_count shape name →
    IsCascade shape slot before (Did (acts.Finish slot false) ∷ Line (answers.Deinit name) ∷ Name slot name ∷ before) → ⊥
field_forgotten shape slot name before some c =
    let h = deinits_whole shape slot before (Did (acts.Finish slot false) ∷ Line (answers.Deinit name) ∷ Name slot name ∷ before) c in
    let f = h.fields in
    let e = ap (field_count shape) (one-more h.later (deinits_of before) name h.name h.told) in
    omega arith

-- The same where the slot ends.
field_forgotten_last : (shape : HeapShape) (slot : ℕ) (name : ObjectName) (before : List Note) → 0 < field_count shape name →
    IsCascade shape slot before (Did (acts.Vacate slot) ∷ Entry slot None ∷ Did (acts.Finish slot true) ∷ Line (answers.Deinit name) ∷ Name slot name ∷ before) → ⊥
field_forgotten_last shape slot name before some c =
    let h = deinits_whole shape slot before (Did (acts.Vacate slot) ∷ Entry slot None ∷ Did (acts.Finish slot true) ∷ Line (answers.Deinit name) ∷ Name slot name ∷ before) c in
    let f = h.fields in
    let e = ap (field_count shape) (one-more h.later (deinits_of before) name h.name h.told) in
    omega arith

-- A deinit that takes a reference out of a field and doesn't drop it.
taken_and_kept : (shape : HeapShape) (slot place k : ℕ) (kind : Kind) (name : ObjectName) (before : List Note) →
    IsCascade shape slot before
    (Did (acts.Finish slot false) ∷ Did (acts.Take slot 0 k) ∷ Refers (cells.Field slot 0) kind place ∷ Line (answers.Deinit name) ∷ Name slot name ∷ before) → ⊥
taken_and_kept shape slot place k kind name before c =
    let h = hands_dropped.cascades shape slot before (Did (acts.Finish slot false) ∷ Did (acts.Take slot 0 k) ∷ Refers (cells.Field slot 0) kind place ∷ Line (answers.Deinit name) ∷ Name slot name ∷ before) c in
    omega arith

-- A gain that claims an entry and neither publishes it nor gives it back.
claim_kept : (source list : Kind) (slot entry : ℕ) (act : Act) (before : List Note) → is_claim act ≡ false → is_settling act ≡ false →
    IsGain source slot list act [] before (Did act ∷ Did (acts.Claim entry) ∷ NeedsEntry slot list ∷ before) → ⊥
claim_kept source list slot entry act before no_claim settles_none g =
    let h = claims_settled.gains source slot list act [] before (Did act ∷ Did (acts.Claim entry) ∷ NeedsEntry slot list ∷ before) no_claim settles_none refl g in
    let a = ap (λ x. one_more_if x (claims_in before + 1)) no_claim in
    let c = ap (λ x. one_more_if x (settled_in before)) settles_none in
    omega arith

-- A gain from a weak reference that claims.
weak_claim : (list : Kind) (slot entry : ℕ) (before after : List Note) → IsReady Weak slot list (Claimed entry) before after → ⊥
weak_claim list slot entry before after (noted r e) = weak_claim list slot entry before _ r
weak_claim list slot entry before after (claimed r e) = absurd cc

-- one slot, one entry, one class with a strong field
abbrev one_field : HeapShape
one_field = record { slots = 2; entries = 1; caps = record { strong = 10; unowned = 10; wide = 11 }; classes = mortal (record { kind = Strong; class = 0 } ∷ []) ∷ []; globals = [] }

abbrev alone : History
alone = by_one (acts.New 1 0 0) ∷ []

-- A claim for an object with one strong reference, whose list isn't at its cap.
no_cause : (ns : List Note) → Ties Judged one_field 1 (NeedsEntry 0 Strong ∷ ns) alone → ⊥
no_cause ns t = let e = fact_now Judged one_field 1 (NeedsEntry 0 Strong) ns (by_one (acts.New 1 0 0)) [] refl refl t in absurd cc

-- values that a test tells apart
apart : {X : Type 0} (test : X → Bool) (x y : X) → test x ≡ true → test y ≡ false → x ≡ y → ⊥
apart test x y here there e = absurd (let f : true ≡ false = sym here ∙ ap test e ∙ there in cc)

abbrev is_strong : Option Reference → Bool
is_strong None = false
is_strong (Some r) = same_kind Strong r.kind

abbrev is_second : Option ObjectName → Bool
is_second None = false
is_second (Some name) = name.number == 2

-- A field that has a reference, passed over as nil.
abbrev holding : History
holding = by_one (acts.Drop 2 true) ∷ by_one (acts.Swap (cells.Field 1 0) (Some 1) None) ∷ by_one (acts.New 2 0 1) ∷ alone

not_nil : (ns : List Note) → Ties Judged one_field 1 (Nil (cells.Field 1 0) ∷ ns) holding → ⊥
not_nil ns t = let e = fact_now Judged one_field 1 (Nil (cells.Field 1 0)) ns (by_one (acts.Drop 2 true)) (by_one (acts.Swap (cells.Field 1 0) (Some 1) None) ∷ by_one (acts.New 2 0 1) ∷ alone) refl refl t in absurd cc

-- Its reference taken for an unowned one.
other_kind : (ns : List Note) → Ties Judged one_field 1 (Refers (cells.Field 1 0) Unowned 0 ∷ ns) holding → ⊥
other_kind ns t = apart is_strong (Some (record { kind = Strong; place = 0 })) (Some (record { kind = Unowned; place = 0 })) refl refl (fact_now Judged one_field 1 (Refers (cells.Field 1 0) Unowned 0) ns (by_one (acts.Drop 2 true)) (by_one (acts.Swap (cells.Field 1 0) (Some 1) None) ∷ by_one (acts.New 2 0 1) ∷ alone) refl refl t)

-- The deinit told of another object.
other_name : (ns : List Note) → Ties Judged one_field 1 (Name 1 (record { class = 0; thread = 1; number = 1 }) ∷ ns) holding → ⊥
other_name ns t = apart is_second (Some (record { class = 0; thread = 1; number = 2 })) (Some (record { class = 0; thread = 1; number = 1 })) refl refl (fact_now Judged one_field 1 (Name 1 (record { class = 0; thread = 1; number = 1 })) ns (by_one (acts.Drop 2 true)) (by_one (acts.Swap (cells.Field 1 0) (Some 1) None) ∷ by_one (acts.New 2 0 1) ∷ alone) refl refl t)

-- The slot of an object that has an entry, ended as if it had none.
abbrev in_entry : History
in_entry = by_one (acts.Side 0 0 Weak) ∷ by_one (acts.Claim 0) ∷ alone

entry_forgotten : (ns : List Note) → Ties Judged one_field 1 (Entry 0 None ∷ ns) in_entry → ⊥
entry_forgotten ns t = let e = fact_now Judged one_field 1 (Entry 0 None) ns (by_one (acts.Side 0 0 Weak)) (by_one (acts.Claim 0) ∷ alone) refl refl t in absurd cc
