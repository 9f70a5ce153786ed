-- No event changes the shape or how many threads there are.
use Rattle.std.proofs.Common.{◌≡◌, ℕ, Bool, true, false, length, Option, Some, None, Result, Ok, Err, refl, ap, ◌∙◌}
use Rattle.arc_model.specs.declared.event.Act.{Act}
use Rattle.arc_model.specs.declared.event.Act.TheVariants as acts
use Rattle.arc_model.specs.declared.event.CellName.{CellName}
use Rattle.arc_model.specs.declared.event.CellName.TheVariants as cells
use Rattle.arc_model.specs.declared.event.Got.TheVariants as got
use Rattle.arc_model.specs.declared.event.Event.{Event}
use Rattle.arc_model.specs.declared.event.Illegal.{Illegal}
use Rattle.arc_model.specs.declared.shape.Kind.{Kind}
use Rattle.arc_model.specs.declared.shape.Kind.TheVariants.{Strong, Unowned, Weak}
use Rattle.arc_heap_index.specs.declared.counted.Place.{Place}
use Rattle.arc_heap_index.specs.declared.counted.Held.{Held}
use Rattle.arc_heap_index.specs.declared.counted.Found.{Found}
use Rattle.arc_heap_index.specs.declared.mark.Mark.{Mark}
use Rattle.arc_heap.specs.declared.refusal.Refusal.{Refusal}
use Rattle.arc_heap.specs.declared.refusal.Refusal.TheVariants as refusals
use Rattle.arc_heap_index.specs.Counting.{raised}
use Rattle.arc_heap_judge.specs.Index.{Index, hand_at, cell_at, origin_at, hold, in_slot, with_entry, mark_of}
use Rattle.arc_heap.specs.Moving.{joins, joins_own, entry_goes, object_becomes, hand_goes, leaves, cell_becomes, put_hand, goes_in, comes_out, swapped, sided, finishes, vacates, goes_away, after_act, after_event}
use Rattle.arc_heap.specs.Applied.{Answers}
use Rattle.arc_heap_index.proofs.Places.{length-at_place}

abbrev pub Keeps : Index → Index → Type 0
Keeps new old = (new.shape ≡ old.shape) × (length new.marks ≡ length old.marks)

join : (ix : Index) (p : ℕ) (k : Kind) (w : Option Held) → Keeps (joins p k w ix) ix
join ix p k None = (refl, refl)
join ix p k (Some w) = (refl, refl)

join_own : (ix : Index) (p : ℕ) (w : Option Held) → Keeps (joins_own p w ix) ix
join_own ix p None = (refl, refl)
join_own ix p (Some w) = (refl, refl)

entry : (ix : Index) (p : ℕ) (last : Bool) (k : Kind) (m : Option ℕ) → Keeps (entry_goes p last k m ix) ix
entry ix p true Weak (Some e) = (refl, refl)
entry ix p true Weak None = (refl, refl)
entry ix p true Strong m = (refl, refl)
entry ix p true Unowned m = (refl, refl)
entry ix p false k m = (refl, refl)

leave : (ix : Index) (p h : ℕ) (last : Bool) (w : Option Held) → Keeps (leaves p h last w ix) ix
leave ix p h last None = (refl, refl)
leave ix p h last (Some w) = entry (object_becomes w.place.object (Rattle.arc_heap_index.specs.Counting.with_one_less p w.place.kind last w.counted) (hand_goes p h (Some w) ix)) p last w.place.kind w.counted.entry

side : (ix : Index) (e : ℕ) (w : Option Found) → Keeps (sided e w ix) ix
side ix e None = (refl, refl)
side ix e (Some w) = (refl, refl)

finish : (ix : Index) (p : ℕ) (last : Bool) (w : Option Found) → Keeps (finishes p last w ix) ix
finish ix p last None = (refl, refl)
finish ix p last (Some w) = (refl, refl)

vacate : (ix : Index) (p s : ℕ) (w : Option Found) → Keeps (vacates p s w ix) ix
vacate ix p s None = (refl, refl)
vacate ix p s (Some w) = (refl, refl)

gone : (ix : Index) (p e : ℕ) (last : Bool) (w : Option Found) → Keeps (goes_away p e last w ix) ix
gone ix p e last None = (refl, refl)
gone ix p e true (Some w) = (refl, refl)
gone ix p e false (Some w) = (refl, refl)

comes : (ix : Index) (p : ℕ) (took : Option ℕ) (w : Option Held) → Keeps (comes_out p took w ix) ix
comes ix p None w = (refl, refl)
comes ix p (Some k) None = (refl, refl)
comes ix p (Some k) (Some w) = (refl, refl)

goes : (ix : Index) (p : ℕ) (put : Option ℕ) → Keeps (goes_in p put ix) ix
goes ix p None = (refl, refl)
goes ix p (Some h) = go (hold ix (hand_at ix p h))
  where
    go : (w : Option Held) → Keeps (hand_goes p h w ix) ix
    go None = (refl, refl)
    go (Some w) = (refl, refl)

becomes : (ix : Index) (c : CellName) (place : Option Place) → Keeps (cell_becomes c place ix) ix
becomes ix (cells.Field s f) place = (refl, refl)
becomes ix (cells.Global g) place = (refl, refl)

swap : (ix : Index) (p : ℕ) (c : CellName) (put took : Option ℕ) → Keeps (swapped p c put took ix) ix
swap ix p c put took =
    let a = comes ix p took (hold ix (cell_at ix c)) in
    let b = goes (comes_out p took (hold ix (cell_at ix c)) ix) p put in
    let d = becomes (goes_in p put (comes_out p took (hold ix (cell_at ix c)) ix)) c (put_hand p put ix) in
    (d.0 ∙ b.0 ∙ a.0, d.1 ∙ b.1 ∙ a.1)

kept : (ix : Index) (p : ℕ) (act : Act) → Keeps (after_act ix p act) ix
kept ix p (acts.New k c s) = (refl, length-at_place p (λ (m : Mark). record m { made = raised k (mark_of ix p).made }) ix.marks)
kept ix p acts.Full = (refl, refl)
kept ix p (acts.Copy from k) = join_own ix p (hold ix (origin_at ix p from))
kept ix p (acts.UnownedOf h k) = join ix p Unowned (hold ix (hand_at ix p h))
kept ix p (acts.WeakOf h k) = join ix p Weak (hold ix (hand_at ix p h))
kept ix p (acts.Load h (got.Hand k)) = join ix p Strong (hold ix (hand_at ix p h))
kept ix p (acts.Load h got.Dead) = (refl, refl)
kept ix p (acts.Load h got.Nil) = (refl, refl)
kept ix p (acts.Drop h last) = leave ix p h last (hold ix (hand_at ix p h))
kept ix p (acts.CountFull k from) = (refl, refl)
kept ix p (acts.Claim e) = (refl, refl)
kept ix p acts.NoEntry = (refl, refl)
kept ix p (acts.Side s e why) = side ix e (in_slot ix s)
kept ix p (acts.Back e) = (refl, refl)
kept ix p (acts.Swap c put took) = swap ix p c put took
kept ix p (acts.Look c) = (refl, refl)
kept ix p (acts.Take s f k) = swap ix p (cells.Field s f) None (Some k)
kept ix p (acts.Finish s last) = finish ix p last (in_slot ix s)
kept ix p (acts.Vacate s) = vacate ix p s (in_slot ix s)
kept ix p (acts.Gone e last) = gone ix p e last (with_entry ix e)

kept_event : (ix : Index) (e : Event) → Keeps (after_event ix e) ix
kept_event ix e =
    let a = kept ix e.thread e.act in
    let new = after_act ix e.thread e.act in
    (a.0, length-at_place e.thread (λ (m : Mark). record { made = m.made; slots = new.slots.frees; entries = new.entries.frees }) new.marks ∙ a.1)

pub event_keeps : {R : Type 0} → (v : Option Illegal) (old new : Index) (e : Event) (fits : Bool) (result : Result R Refusal) → Answers v e.act fits old (after_event old e) new result → Keeps new old
event_keeps v old new e fits (Ok r) a = let k = kept_event old e in (ap (λ (ix : Index). ix.shape) a.2 ∙ k.0, ap (λ (ix : Index). length ix.marks) a.2 ∙ k.1)
event_keeps v old new e fits (Err (refusals.Illegal i)) a = (ap (λ (ix : Index). ix.shape) a.1, ap (λ (ix : Index). length ix.marks) a.1)
event_keeps v old new e fits (Err refusals.Memory) a = (ap (λ (ix : Index). ix.shape) a.2, ap (λ (ix : Index). length ix.marks) a.2)
