-- What the answer of one reference fewer rests on, by the list that counts it and by where the attempt is.
use Rattle.std.proofs.Common.{◌≡◌, ◌<◌, ℕ, Bool, true, false, cond, eqb, Option, Some, None, refl, ap, subst}
use Rattle.std.proofs.lemmas.Bool.{eqb-true}
use Rattle.std.specs.Prelude.{IfSome}
use Rattle.std.specs.Option.{unwrap_or}
use Rattle.arc_bits.specs.declared.packing.Word.{Word}
use Rattle.arc_bits.specs.declared.packing.Word.TheVariants.{Free, Counts, Slow, Immortal}
use Rattle.arc_bits.specs.Words.{unpacked}
use Rattle.arc_model.specs.declared.shape.Kind.{Kind}
use Rattle.arc_model.specs.declared.shape.Kind.TheVariants as kinds
use Rattle.arc_rule.specs.Extents.{Extent}
use Rattle.arc_rule.specs.Places.{IsPlace}
use Rattle.arc_rule.specs.declared.attempt.At.{At}
use Rattle.arc_rule.specs.declared.attempt.At.TheVariants.{Start, Loading, Exchanging, Ended}
use Rattle.arc_rule.specs.declared.plan.Next.{Next}
use Rattle.arc_rule.specs.declared.plan.Next.TheVariants as nexts
use Rattle.arc_rule.specs.Attempts.{takes_at, exchanging, turned_at, chosen, told_as, answer_at, turned_by, answer_by}
use Rattle.arc_plan.specs.Strong.{strong_down_row, strong_down_end}
use Rattle.arc_plan.specs.declared.strong.StrongDownAnswer.TheVariants as strongs
use Rattle.arc_plan.specs.Unowned.{unowned_down_row, unowned_down_end}
use Rattle.arc_plan.specs.declared.unowned.UnownedDownAnswer.TheVariants as unowneds
use Rattle.arc_side.specs.Entries.{entry_down_end}
use Rattle.arc_side.specs.declared.entry_down.EntryDownAnswer.TheVariants as entries
use Rattle.arc_side.specs.declared.down.DownAnswer.{DownAnswer}
use Rattle.arc_side.specs.declared.down.DownAnswer.TheVariants.{More, Last, Again}
use Rattle.arc_side.specs.Inline.{entry_named, entry_met, counted_at}
use Rattle.arc_side.specs.Downs.{Fall, IsFall, of_strong_down, of_unowned_down, of_entry_down, DownWordAt, down_choice_at, down_end_at, down_in, down_moved, down_place, down_takes, down_turned, down_answer}
use Rattle.arc_side.specs.Lasts.{DownSays, IsSameFall, LastInEntry, DownsTell}

-- the inline word was loaded
loaded_strong : (p : Fall) (w : ℕ) (o : Option Word) → DownSays p (turned_by down_moved p (down_in p (entry_named o)) (exchanging w (told_as of_strong_down (strong_down_row o)))) (Some w)
    (answer_by down_place (down_in p (entry_named o)) (chosen (down_place p) w (told_as of_strong_down (strong_down_row o))))
loaded_strong p w None = tt
loaded_strong p w (Some Free) = tt
loaded_strong p w (Some (Counts c)) = refl
loaded_strong p w (Some (Slow e)) = refl
loaded_strong p w (Some Immortal) = tt

loaded_unowned : (p : Fall) (w : ℕ) (o : Option Word) → DownSays p (turned_by down_moved p (down_in p (entry_named o)) (exchanging w (told_as of_unowned_down (unowned_down_row o)))) (Some w)
    (answer_by down_place (down_in p (entry_named o)) (chosen (down_place p) w (told_as of_unowned_down (unowned_down_row o))))
loaded_unowned p w None = tt
loaded_unowned p w (Some Free) = tt
loaded_unowned p w (Some (Counts c)) = refl
loaded_unowned p w (Some (Slow e)) = refl
loaded_unowned p w (Some Immortal) = tt

-- the exchange found its word
ended_strong : (p new : Fall) (seen next w : ℕ) → p.at ≡ Exchanging seen next → Some w ≡ Some seen → p.entry ≡ None → (o : Option Word) → unpacked seen ≡ o → DownSays p new (Some w) (nexts.Done (of_strong_down (strong_down_end o)))
ended_strong p new seen next w at found entry None e = tt
ended_strong p new seen next w at found entry (Some Free) e = tt
ended_strong p new seen next w at found entry (Some (Slow n)) e = tt
ended_strong p new seen next w at found entry (Some Immortal) e = tt
ended_strong p new seen next w at found entry (Some (Counts c)) e = go (eqb c.strong_extra 0)
  where
    go : (b : Bool) → DownSays p new (Some w) (nexts.Done (of_strong_down (cond b strongs.Last strongs.More)))
    go true = record { seen = seen; new = next; exchanged = at; found = found; entry_is = entry; counts = (c, e) }
    go false = tt

ended_unowned : (p new : Fall) (seen next w : ℕ) → p.at ≡ Exchanging seen next → Some w ≡ Some seen → p.entry ≡ None → (o : Option Word) → unpacked seen ≡ o → DownSays p new (Some w) (nexts.Done (of_unowned_down (unowned_down_end o)))
ended_unowned p new seen next w at found entry None e = tt
ended_unowned p new seen next w at found entry (Some Free) e = tt
ended_unowned p new seen next w at found entry (Some (Slow n)) e = tt
ended_unowned p new seen next w at found entry (Some Immortal) e = tt
ended_unowned p new seen next w at found entry (Some (Counts c)) e = go (eqb c.unowned 1)
  where
    go : (b : Bool) → DownSays p new (Some w) (nexts.Done (of_unowned_down (cond b unowneds.Last unowneds.More)))
    go true = record { seen = seen; new = next; exchanged = at; found = found; entry_is = entry; counts = (c, e) }
    go false = tt

ended_in_entry : (p new : Fall) (seen next w e : ℕ) → p.at ≡ Exchanging seen next → Some w ≡ Some seen → p.entry ≡ Some e → DownSays p new (Some w) (nexts.Done (of_entry_down e (entry_down_end seen)))
ended_in_entry p new seen next w e at found entry = go (eqb seen 1)
  where
    go : (b : Bool) → DownSays p new (Some w) (nexts.Done (of_entry_down e (cond b entries.Last entries.More)))
    go true = record { seen = seen; new = next; exchanged = at; found = found; entry_is = entry; counts = tt }
    go false = tt

ended : (p new : Fall) (seen next w : ℕ) → p.at ≡ Exchanging seen next → Some w ≡ Some seen → (entry : Option ℕ) → p.entry ≡ entry → (list : Kind) → DownSays p new (Some w) (nexts.Done (down_end_at entry list seen))
ended p new seen next w at found None e kinds.Strong = ended_strong p new seen next w at found e (unpacked seen) refl
ended p new seen next w at found None e kinds.Unowned = ended_unowned p new seen next w at found e (unpacked seen) refl
ended p new seen next w at found None e kinds.Weak = tt
ended p new seen next w at found (Some i) e list = ended_in_entry p new seen next w i at found e

-- an exchange was made, or failed
exchanged : (p new : Fall) (seen next w : ℕ) → p.at ≡ Exchanging seen next → (entry : Option ℕ) → p.entry ≡ entry → (list : Kind) →
    DownSays p new (Some w) (nexts.Done (cond (eqb w seen) (down_end_at entry list seen) (Again (record { seen = seen; found = w }))))
exchanged p new seen next w at entry e list = go (eqb w seen) refl
  where
    go : (b : Bool) → eqb w seen ≡ b → DownSays p new (Some w) (nexts.Done (cond b (down_end_at entry list seen) (Again (record { seen = seen; found = w }))))
    go true same = ended p new seen next w at (ap Some (eqb-true w seen same)) entry e list
    go false same = tt

-- by where it is, and where it counts
abbrev SaysAt : Fall → Option ℕ → At → Option ℕ → Kind → Type 0
SaysAt p last at entry list = DownSays p
    (turned_by down_moved p (down_in p (entry_met entry at last)) (turned_at (down_choice_at entry list) at (unwrap_or last 0))) last
    (answer_by down_place (down_in p (entry_met entry at last)) (answer_at (down_choice_at entry list) (down_end_at entry list) Again (down_place p) at (unwrap_or last 0)))

says_loaded : (p : Fall) (w : ℕ) (entry : Option ℕ) (list : Kind) → SaysAt p (Some w) Loading entry list
says_loaded p w None kinds.Strong = loaded_strong p w (unpacked w)
says_loaded p w None kinds.Unowned = loaded_unowned p w (unpacked w)
says_loaded p w None kinds.Weak = weak (unpacked w)
  where
    weak : (o : Option Word) → DownSays p (turned_by down_moved p (down_in p (entry_named o)) Ended) (Some w) (answer_by down_place (down_in p (entry_named o)) (nexts.Done (More None)))
    weak None = tt
    weak (Some Free) = tt
    weak (Some (Counts c)) = tt
    weak (Some (Slow e)) = refl
    weak (Some Immortal) = tt
says_loaded p w (Some e) list = refl

says_at : (p : Fall) (last : Option ℕ) (at : At) → p.at ≡ at → (entry : Option ℕ) → p.entry ≡ entry → (list : Kind) → takes_at (DownWordAt p entry list) at last → SaysAt p last at entry list
says_at p last Start at None e list takes = refl
says_at p last Start at (Some i) e list takes = refl
says_at p None Loading at entry e list takes = absurd takes
says_at p (Some w) Loading at entry e list takes = says_loaded p w entry list
says_at p None (Exchanging seen next) at entry e list takes = absurd (takes refl)
says_at p (Some w) (Exchanging seen next) at None e list takes = exchanged p (record p { at = Ended }) seen next w at None e list
says_at p (Some w) (Exchanging seen next) at (Some i) e list takes = exchanged p (record p { at = Ended }) seen next w at (Some i) e list
says_at p last Ended at entry e list takes = absurd takes

pub down_says : (p : Fall) (last : Option ℕ) → down_takes p last → DownSays p (down_turned p last) last (down_answer p last)
down_says p last takes = says_at p last p.at refl p.entry refl p.list takes

pub down_same : (p : Fall) (last : Option ℕ) → IsSameFall p (down_turned p last)
down_same p last = go (entry_met p.entry p.at last)
  where
    go : (o : Option ℕ) → IsSameFall p (turned_by down_moved p (down_in p o) (turned_at (down_choice_at p.entry p.list) p.at (unwrap_or last 0)))
    go None = record { layout = refl; slot = refl; list = refl }
    go (Some e) = record { layout = refl; slot = refl; list = refl }

entry_of_place : (layout : Extent) (list : Kind) (slot e : ℕ) → IsPlace layout (counted_at list slot (Some e)) → e < layout.entries
entry_of_place layout kinds.Strong slot e place = place
entry_of_place layout kinds.Unowned slot e place = place
entry_of_place layout kinds.Weak slot e place = place

last_in_entry : (p new : Fall) (last : Option ℕ) → IsPlace p.layout (counted_at p.list p.slot p.entry) → (a : Next DownAnswer) → DownSays p new last a → LastInEntry p.layout a
last_in_entry p new last place (nexts.Step step) says = tt
last_in_entry p new last place (nexts.Done (More entry)) says = tt
last_in_entry p new last place (nexts.Done (Again changed)) says = tt
last_in_entry p new last place (nexts.Done (Last entry)) says = go entry says.entry_is
  where
    go : (o : Option ℕ) → p.entry ≡ o → IfSome o (λ e. e < p.layout.entries)
    go None is = tt
    go (Some e) is = entry_of_place p.layout p.list p.slot e (subst (λ o. IsPlace p.layout (counted_at p.list p.slot o)) is place)

pub down_in_entry : (p : Fall) (last : Option ℕ) → IsFall p → down_takes p last → LastInEntry p.layout (down_answer p last)
down_in_entry p last is takes = last_in_entry p (down_turned p last) last is.place (down_answer p last) (down_says p last takes)

pub downs_tell : DownsTell
downs_tell = record { says = down_says; same = down_same; in_entry = down_in_entry }
