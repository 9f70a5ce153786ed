-- An attempt in the inline word or an entry is the attempt in the inline word, and where that names an entry, the one in the entry.
use Rattle.std.proofs.Common.{◌≡◌, ℕ, Bool, true, false, if◌then◌else◌, ◌==◌, Option, Some, None, refl, sym, ap, ◌∙◌, subst}
use Rattle.std.specs.Option.{unwrap_or}
use Rattle.arc_bits.specs.declared.packing.Word.{Word}
use Rattle.arc_bits.specs.declared.packing.Word.TheVariants.{Free, Counts, Slow, Immortal}
use Rattle.arc_bits.specs.Words.{packed, unpacked}
use Rattle.arc_bits.specs.Moves.{strong_more, unowned_more}
use Rattle.arc_model.specs.Shapes.{CapNumbers}
use Rattle.arc_model.specs.declared.shape.Kind.{Kind}
use Rattle.arc_model.specs.declared.shape.Kind.TheVariants as kinds
use Rattle.arc_rule.specs.declared.layout.Place.TheVariants.{Count, Strong, Unowned}
use Rattle.arc_rule.specs.declared.step.Step.TheVariants.{Load}
use Rattle.arc_rule.specs.declared.plan.Next.{Next}
use Rattle.arc_rule.specs.declared.plan.Next.TheVariants as nexts
use Rattle.arc_rule.specs.declared.attempt.At.{At}
use Rattle.arc_rule.specs.declared.attempt.At.TheVariants.{Start, Loading, Exchanging, Ended}
use Rattle.arc_rule.specs.declared.attempt.Choice.{Choice}
use Rattle.arc_rule.specs.declared.attempt.Choice.TheVariants.{Tell, Write}
use Rattle.arc_rule.specs.Attempts.{chosen, told_as, answer_by, turned_by, exchanging}
use Rattle.arc_rule.specs.Extents.{Extent}
use Rattle.arc_rule.specs.Places.{number}
use Rattle.arc_plan.specs.declared.strong.StrongUpAnswer.{StrongUpAnswer}
use Rattle.arc_plan.specs.declared.strong.StrongUpAnswer.TheVariants as strong_ups
use Rattle.arc_plan.specs.declared.strong.StrongDownAnswer.{StrongDownAnswer}
use Rattle.arc_plan.specs.declared.strong.StrongDownAnswer.TheVariants as strong_downs
use Rattle.arc_plan.specs.declared.unowned.UnownedUpAnswer.{UnownedUpAnswer}
use Rattle.arc_plan.specs.declared.unowned.UnownedUpAnswer.TheVariants as unowned_ups
use Rattle.arc_plan.specs.declared.unowned.UnownedDownAnswer.{UnownedDownAnswer}
use Rattle.arc_plan.specs.declared.unowned.UnownedDownAnswer.TheVariants as unowned_downs
use Rattle.arc_plan.specs.Strong.{strong_up_row, strong_up_turned, strong_up_answer, strong_down_row, strong_down_end, strong_down_turned, strong_down_answer}
use Rattle.arc_plan.specs.Unowned.{unowned_up_row, unowned_up_turned, unowned_up_answer, unowned_down_row, unowned_down_end, unowned_down_turned, unowned_down_answer}
use Rattle.arc_side.specs.declared.entry_up.EntryUpAnswer.{EntryUpAnswer}
use Rattle.arc_side.specs.declared.entry_up.EntryUpAnswer.TheVariants as entry_ups
use Rattle.arc_side.specs.declared.entry_down.EntryDownAnswer.{EntryDownAnswer}
use Rattle.arc_side.specs.declared.entry_down.EntryDownAnswer.TheVariants as entry_downs
use Rattle.arc_side.specs.declared.up.UpAnswer.{UpAnswer}
use Rattle.arc_side.specs.declared.up.UpAnswer.TheVariants as ups
use Rattle.arc_side.specs.declared.down.DownAnswer.{DownAnswer}
use Rattle.arc_side.specs.declared.down.DownAnswer.TheVariants as downs
use Rattle.arc_side.specs.Entries.{count_place, entry_up_row, entry_up_turned, entry_up_answer, entry_down_end, entry_down_turned, entry_down_answer}
use Rattle.arc_side.specs.Inline.{entry_named, entry_met}
use Rattle.arc_side.specs.Ups.{Rise, strong_rise, unowned_rise, entry_rise, of_strong_up, of_unowned_up, of_entry_up, up_in, up_place, up_moved, up_turned, up_answer}
use Rattle.arc_side.specs.Downs.{Fall, inline_fall, entry_fall, of_strong_down, of_unowned_down, of_entry_down, down_in, down_place, down_moved, down_turned, down_answer}

-- an attempt that has no entry yet, and one in an entry
abbrev pub inline_up : Extent → ℕ → Kind → CapNumbers → At → Rise
inline_up l s list caps at = record { layout = l; slot = s; list = list; caps = caps; entry = None; at = at }

abbrev pub entry_up : Extent → ℕ → Kind → CapNumbers → ℕ → At → Rise
entry_up l s list caps e at = record { layout = l; slot = s; list = list; caps = caps; entry = Some e; at = at }

abbrev pub inline_down : Extent → ℕ → Kind → At → Fall
inline_down l s list at = record { layout = l; slot = s; list = list; entry = None; at = at }

abbrev pub entry_down : Extent → ℕ → Kind → ℕ → At → Fall
entry_down l s list e at = record { layout = l; slot = s; list = list; entry = Some e; at = at }

-- What it asks for or answers where its part does so: behind Slow it loads the entry's count.
abbrev pub as_strong_up : Extent → Next StrongUpAnswer → Next UpAnswer
as_strong_up l (nexts.Step s) = nexts.Step s
as_strong_up l (nexts.Done (strong_ups.Slow e)) = nexts.Step (Load (number l (Strong e)))
as_strong_up l (nexts.Done strong_ups.Up) = nexts.Done ups.Up
as_strong_up l (nexts.Done strong_ups.Dead) = nexts.Done ups.Dead
as_strong_up l (nexts.Done strong_ups.AtCap) = nexts.Done ups.AtCap
as_strong_up l (nexts.Done (strong_ups.Again c)) = nexts.Done (ups.Again c)

abbrev pub as_unowned_up : Extent → Next UnownedUpAnswer → Next UpAnswer
as_unowned_up l (nexts.Step s) = nexts.Step s
as_unowned_up l (nexts.Done (unowned_ups.Slow e)) = nexts.Step (Load (number l (Unowned e)))
as_unowned_up l (nexts.Done unowned_ups.Up) = nexts.Done ups.Up
as_unowned_up l (nexts.Done unowned_ups.AtCap) = nexts.Done ups.AtCap
as_unowned_up l (nexts.Done (unowned_ups.Again c)) = nexts.Done (ups.Again c)

abbrev pub as_entry_up : Next EntryUpAnswer → Next UpAnswer
as_entry_up (nexts.Step s) = nexts.Step s
as_entry_up (nexts.Done a) = nexts.Done (of_entry_up a)

abbrev pub as_strong_down : Extent → Next StrongDownAnswer → Next DownAnswer
as_strong_down l (nexts.Step s) = nexts.Step s
as_strong_down l (nexts.Done (strong_downs.Slow e)) = nexts.Step (Load (number l (Strong e)))
as_strong_down l (nexts.Done strong_downs.More) = nexts.Done (downs.More None)
as_strong_down l (nexts.Done strong_downs.Last) = nexts.Done (downs.Last None)
as_strong_down l (nexts.Done (strong_downs.Again c)) = nexts.Done (downs.Again c)

abbrev pub as_unowned_down : Extent → Next UnownedDownAnswer → Next DownAnswer
as_unowned_down l (nexts.Step s) = nexts.Step s
as_unowned_down l (nexts.Done (unowned_downs.Slow e)) = nexts.Step (Load (number l (Unowned e)))
as_unowned_down l (nexts.Done unowned_downs.More) = nexts.Done (downs.More None)
as_unowned_down l (nexts.Done unowned_downs.Last) = nexts.Done (downs.Last None)
as_unowned_down l (nexts.Done (unowned_downs.Again c)) = nexts.Done (downs.Again c)

abbrev pub as_entry_down : ℕ → Next EntryDownAnswer → Next DownAnswer
as_entry_down e (nexts.Step s) = nexts.Step s
as_entry_down e (nexts.Done a) = nexts.Done (of_entry_down e a)

-- the choices on a word, one by one
strong_up_so : (l : Extent) (place w n : ℕ) (dead full : Bool)
    → chosen place w (told_as of_strong_up (if dead then Tell strong_ups.Dead else if full then Tell strong_ups.AtCap else Write n))
    ≡ as_strong_up l (chosen place w (if dead then Tell strong_ups.Dead else if full then Tell strong_ups.AtCap else Write n))
strong_up_so l place w n true full = refl
strong_up_so l place w n false true = refl
strong_up_so l place w n false false = refl

unowned_up_so : (l : Extent) (place w n : ℕ) (full : Bool)
    → chosen place w (told_as of_unowned_up (if full then Tell unowned_ups.AtCap else Write n))
    ≡ as_unowned_up l (chosen place w (if full then Tell unowned_ups.AtCap else Write n))
unowned_up_so l place w n true = refl
unowned_up_so l place w n false = refl

strong_up_word : (l : Extent) (s : ℕ) (caps : CapNumbers) (place w : ℕ) (u : Option Word)
    → answer_by up_place (up_in (inline_up l s kinds.Strong caps Loading) (entry_named u)) (chosen place w (told_as of_strong_up (strong_up_row caps.strong u)))
    ≡ as_strong_up l (chosen place w (strong_up_row caps.strong u))
strong_up_word l s caps place w (Some (Counts c)) = strong_up_so l place w (packed (Counts (strong_more c))) c.deiniting (c.strong_extra == caps.strong)
strong_up_word l s caps place w (Some (Slow e)) = refl
strong_up_word l s caps place w (Some Immortal) = refl
strong_up_word l s caps place w (Some Free) = refl
strong_up_word l s caps place w None = refl

unowned_up_word : (l : Extent) (s : ℕ) (caps : CapNumbers) (place w : ℕ) (u : Option Word)
    → answer_by up_place (up_in (inline_up l s kinds.Unowned caps Loading) (entry_named u)) (chosen place w (told_as of_unowned_up (unowned_up_row caps.unowned u)))
    ≡ as_unowned_up l (chosen place w (unowned_up_row caps.unowned u))
unowned_up_word l s caps place w (Some (Counts c)) = unowned_up_so l place w (packed (Counts (unowned_more c))) (c.unowned == caps.unowned)
unowned_up_word l s caps place w (Some (Slow e)) = refl
unowned_up_word l s caps place w (Some Immortal) = refl
unowned_up_word l s caps place w (Some Free) = refl
unowned_up_word l s caps place w None = refl

entry_up_word : (place w : ℕ) (r : Choice EntryUpAnswer) → chosen place w (told_as of_entry_up r) ≡ as_entry_up (chosen place w r)
entry_up_word place w (Tell a) = refl
entry_up_word place w (Write n) = refl

entry_up_goes : (l : Extent) (s : ℕ) (list : Kind) (caps : CapNumbers) (e w : ℕ) (r : Choice EntryUpAnswer)
    → up_moved (entry_up l s list caps e Loading) (exchanging w (told_as of_entry_up r)) ≡ entry_up l s list caps e (exchanging w r)
entry_up_goes l s list caps e w (Tell a) = refl
entry_up_goes l s list caps e w (Write n) = refl

-- after the exchange
strong_up_swap : (l : Extent) (seen w : ℕ) (same : Bool)
    → nexts.Done (if same then ups.Up else ups.Again (record { seen = seen; found = w })) ≡ as_strong_up l (nexts.Done (if same then strong_ups.Up else strong_ups.Again (record { seen = seen; found = w })))
strong_up_swap l seen w true = refl
strong_up_swap l seen w false = refl

unowned_up_swap : (l : Extent) (seen w : ℕ) (same : Bool)
    → nexts.Done (if same then ups.Up else ups.Again (record { seen = seen; found = w })) ≡ as_unowned_up l (nexts.Done (if same then unowned_ups.Up else unowned_ups.Again (record { seen = seen; found = w })))
unowned_up_swap l seen w true = refl
unowned_up_swap l seen w false = refl

entry_up_swap : (seen w : ℕ) (same : Bool)
    → nexts.Done (if same then ups.Up else ups.Again (record { seen = seen; found = w })) ≡ as_entry_up (nexts.Done (if same then entry_ups.Up else entry_ups.Again (record { seen = seen; found = w })))
entry_up_swap seen w true = refl
entry_up_swap seen w false = refl

-- before the load gave a word there is none to go on by
strong_up_unloaded : (l : Extent) (s : ℕ) (caps : CapNumbers)
    → up_answer (inline_up l s kinds.Strong caps Loading) None ≡ as_strong_up l (strong_up_answer (strong_rise (inline_up l s kinds.Strong caps Loading)) None)
unfolding unpacked
strong_up_unloaded l s caps = refl

unowned_up_unloaded : (l : Extent) (s : ℕ) (caps : CapNumbers)
    → up_answer (inline_up l s kinds.Unowned caps Loading) None ≡ as_unowned_up l (unowned_up_answer (unowned_rise (inline_up l s kinds.Unowned caps Loading)) None)
unfolding unpacked
unowned_up_unloaded l s caps = refl

-- one more: what it asks for or answers is what its part does
pub strong_up_says : (l : Extent) (s : ℕ) (caps : CapNumbers) (at : At) (last : Option ℕ)
    → up_answer (inline_up l s kinds.Strong caps at) last ≡ as_strong_up l (strong_up_answer (strong_rise (inline_up l s kinds.Strong caps at)) last)
strong_up_says l s caps Start last = refl
strong_up_says l s caps Loading None = strong_up_unloaded l s caps
strong_up_says l s caps Loading (Some w) = strong_up_word l s caps (number l (Count s)) w (unpacked w)
strong_up_says l s caps (Exchanging seen new) last = strong_up_swap l seen (unwrap_or last 0) (unwrap_or last 0 == seen)
strong_up_says l s caps Ended last = refl

pub unowned_up_says : (l : Extent) (s : ℕ) (caps : CapNumbers) (at : At) (last : Option ℕ)
    → up_answer (inline_up l s kinds.Unowned caps at) last ≡ as_unowned_up l (unowned_up_answer (unowned_rise (inline_up l s kinds.Unowned caps at)) last)
unowned_up_says l s caps Start last = refl
unowned_up_says l s caps Loading None = unowned_up_unloaded l s caps
unowned_up_says l s caps Loading (Some w) = unowned_up_word l s caps (number l (Count s)) w (unpacked w)
unowned_up_says l s caps (Exchanging seen new) last = unowned_up_swap l seen (unwrap_or last 0) (unwrap_or last 0 == seen)
unowned_up_says l s caps Ended last = refl

pub entry_up_says : (l : Extent) (s : ℕ) (list : Kind) (caps : CapNumbers) (e : ℕ) (at : At) (last : Option ℕ)
    → up_answer (entry_up l s list caps e at) last ≡ as_entry_up (entry_up_answer (entry_rise (entry_up l s list caps e at) e) last)
entry_up_says l s list caps e Start last = refl
entry_up_says l s list caps e Loading last = entry_up_word (number l (count_place list e)) (unwrap_or last 0) (entry_up_row list caps.wide (unwrap_or last 0))
entry_up_says l s list caps e (Exchanging seen new) last = entry_up_swap seen (unwrap_or last 0) (unwrap_or last 0 == seen)
entry_up_says l s list caps e Ended last = refl

-- and where it is then: with the part, or where that says Slow, before the entry's count as its attempt is after its start
pub entry_up_turns : (l : Extent) (s : ℕ) (list : Kind) (caps : CapNumbers) (e : ℕ) (at : At) (last : Option ℕ)
    → up_turned (entry_up l s list caps e at) last ≡ entry_up l s list caps e (entry_up_turned (entry_rise (entry_up l s list caps e at) e) last).at
entry_up_turns l s list caps e Start last = refl
entry_up_turns l s list caps e Loading last = entry_up_goes l s list caps e (unwrap_or last 0) (entry_up_row list caps.wide (unwrap_or last 0))
entry_up_turns l s list caps e (Exchanging seen new) last = refl
entry_up_turns l s list caps e Ended last = refl

-- so it is in the inline word, while that names no entry
exchanging_as : {A B : Type 0} (f : A → B) (w : ℕ) (r : Choice A) → exchanging w (told_as f r) ≡ exchanging w r
exchanging_as f w (Tell a) = refl
exchanging_as f w (Write n) = refl

up_stays : (p : Rise) (m : Option ℕ) (at : At) → m ≡ None → turned_by up_moved p (up_in p m) at ≡ up_moved p at
up_stays p None at is = refl
up_stays p (Some e) at is = absurd (cc)

up_goes : (p : Rise) (m : Option ℕ) (e : ℕ) (at : At) → m ≡ Some e → turned_by up_moved p (up_in p m) at ≡ record p { entry = Some e; at = Loading }
up_goes p m e at is = subst (λ (n : Option ℕ). turned_by up_moved p (up_in p n) at ≡ record p { entry = Some e; at = Loading }) (sym is) refl

pub strong_up_turns : (l : Extent) (s : ℕ) (caps : CapNumbers) (at : At) (last : Option ℕ) → entry_met None at last ≡ None
    → up_turned (inline_up l s kinds.Strong caps at) last ≡ inline_up l s kinds.Strong caps (strong_up_turned (strong_rise (inline_up l s kinds.Strong caps at)) last).at
strong_up_turns l s caps Start last is = refl
strong_up_turns l s caps Loading None is = ap (inline_up l s kinds.Strong caps) (exchanging_as of_strong_up 0 (strong_up_row caps.strong (unpacked 0)))
strong_up_turns l s caps Loading (Some w) is =
    up_stays (inline_up l s kinds.Strong caps Loading) (entry_named (unpacked w)) (exchanging w (told_as of_strong_up (strong_up_row caps.strong (unpacked w)))) is
    ∙ ap (inline_up l s kinds.Strong caps) (exchanging_as of_strong_up w (strong_up_row caps.strong (unpacked w)))
strong_up_turns l s caps (Exchanging seen new) last is = refl
strong_up_turns l s caps Ended last is = refl

pub unowned_up_turns : (l : Extent) (s : ℕ) (caps : CapNumbers) (at : At) (last : Option ℕ) → entry_met None at last ≡ None
    → up_turned (inline_up l s kinds.Unowned caps at) last ≡ inline_up l s kinds.Unowned caps (unowned_up_turned (unowned_rise (inline_up l s kinds.Unowned caps at)) last).at
unowned_up_turns l s caps Start last is = refl
unowned_up_turns l s caps Loading None is = ap (inline_up l s kinds.Unowned caps) (exchanging_as of_unowned_up 0 (unowned_up_row caps.unowned (unpacked 0)))
unowned_up_turns l s caps Loading (Some w) is =
    up_stays (inline_up l s kinds.Unowned caps Loading) (entry_named (unpacked w)) (exchanging w (told_as of_unowned_up (unowned_up_row caps.unowned (unpacked w)))) is
    ∙ ap (inline_up l s kinds.Unowned caps) (exchanging_as of_unowned_up w (unowned_up_row caps.unowned (unpacked w)))
unowned_up_turns l s caps (Exchanging seen new) last is = refl
unowned_up_turns l s caps Ended last is = refl

-- and where it names one, it waits for the entry's count
pub up_turns_on : (l : Extent) (s : ℕ) (list : Kind) (caps : CapNumbers) (at : At) (last : Option ℕ) (e : ℕ) → entry_met None at last ≡ Some e
    → up_turned (inline_up l s list caps at) last ≡ entry_up l s list caps e Loading
up_turns_on l s list caps at last e is = up_goes (inline_up l s list caps at) (entry_met None at last) e _ is

-- one fewer, likewise
strong_down_so : (l : Extent) (last : Bool) → nexts.Done (of_strong_down (if last then strong_downs.Last else strong_downs.More)) ≡ as_strong_down l (nexts.Done (if last then strong_downs.Last else strong_downs.More))
strong_down_so l true = refl
strong_down_so l false = refl

unowned_down_so : (l : Extent) (last : Bool) → nexts.Done (of_unowned_down (if last then unowned_downs.Last else unowned_downs.More)) ≡ as_unowned_down l (nexts.Done (if last then unowned_downs.Last else unowned_downs.More))
unowned_down_so l true = refl
unowned_down_so l false = refl

strong_down_word : (l : Extent) (s place w : ℕ) (u : Option Word)
    → answer_by down_place (down_in (inline_down l s kinds.Strong Loading) (entry_named u)) (chosen place w (told_as of_strong_down (strong_down_row u)))
    ≡ as_strong_down l (chosen place w (strong_down_row u))
strong_down_word l s place w (Some (Counts c)) = refl
strong_down_word l s place w (Some (Slow e)) = refl
strong_down_word l s place w (Some Immortal) = refl
strong_down_word l s place w (Some Free) = refl
strong_down_word l s place w None = refl

unowned_down_word : (l : Extent) (s place w : ℕ) (u : Option Word)
    → answer_by down_place (down_in (inline_down l s kinds.Unowned Loading) (entry_named u)) (chosen place w (told_as of_unowned_down (unowned_down_row u)))
    ≡ as_unowned_down l (chosen place w (unowned_down_row u))
unowned_down_word l s place w (Some (Counts c)) = refl
unowned_down_word l s place w (Some (Slow e)) = refl
unowned_down_word l s place w (Some Immortal) = refl
unowned_down_word l s place w (Some Free) = refl
unowned_down_word l s place w None = refl

strong_down_unloaded : (l : Extent) (s : ℕ)
    → down_answer (inline_down l s kinds.Strong Loading) None ≡ as_strong_down l (strong_down_answer (inline_fall (inline_down l s kinds.Strong Loading)) None)
unfolding unpacked
strong_down_unloaded l s = refl

unowned_down_unloaded : (l : Extent) (s : ℕ)
    → down_answer (inline_down l s kinds.Unowned Loading) None ≡ as_unowned_down l (unowned_down_answer (inline_fall (inline_down l s kinds.Unowned Loading)) None)
unfolding unpacked
unowned_down_unloaded l s = refl

strong_down_ends : (l : Extent) (u : Option Word) → nexts.Done (of_strong_down (strong_down_end u)) ≡ as_strong_down l (nexts.Done (strong_down_end u))
strong_down_ends l (Some (Counts c)) = strong_down_so l (c.strong_extra == 0)
strong_down_ends l (Some (Slow e)) = refl
strong_down_ends l (Some Immortal) = refl
strong_down_ends l (Some Free) = refl
strong_down_ends l None = refl

unowned_down_ends : (l : Extent) (u : Option Word) → nexts.Done (of_unowned_down (unowned_down_end u)) ≡ as_unowned_down l (nexts.Done (unowned_down_end u))
unowned_down_ends l (Some (Counts c)) = unowned_down_so l (c.unowned == 1)
unowned_down_ends l (Some (Slow e)) = refl
unowned_down_ends l (Some Immortal) = refl
unowned_down_ends l (Some Free) = refl
unowned_down_ends l None = refl

strong_down_swap : (l : Extent) (seen w : ℕ) (same : Bool)
    → nexts.Done (if same then of_strong_down (strong_down_end (unpacked seen)) else downs.Again (record { seen = seen; found = w }))
    ≡ as_strong_down l (nexts.Done (if same then strong_down_end (unpacked seen) else strong_downs.Again (record { seen = seen; found = w })))
strong_down_swap l seen w true = strong_down_ends l (unpacked seen)
strong_down_swap l seen w false = refl

unowned_down_swap : (l : Extent) (seen w : ℕ) (same : Bool)
    → nexts.Done (if same then of_unowned_down (unowned_down_end (unpacked seen)) else downs.Again (record { seen = seen; found = w }))
    ≡ as_unowned_down l (nexts.Done (if same then unowned_down_end (unpacked seen) else unowned_downs.Again (record { seen = seen; found = w })))
unowned_down_swap l seen w true = unowned_down_ends l (unpacked seen)
unowned_down_swap l seen w false = refl

entry_down_swap : (e seen w : ℕ) (same : Bool)
    → nexts.Done (if same then of_entry_down e (entry_down_end seen) else downs.Again (record { seen = seen; found = w }))
    ≡ as_entry_down e (nexts.Done (if same then entry_down_end seen else entry_downs.Again (record { seen = seen; found = w })))
entry_down_swap e seen w true = refl
entry_down_swap e seen w false = refl

pub strong_down_says : (l : Extent) (s : ℕ) (at : At) (last : Option ℕ)
    → down_answer (inline_down l s kinds.Strong at) last ≡ as_strong_down l (strong_down_answer (inline_fall (inline_down l s kinds.Strong at)) last)
strong_down_says l s Start last = refl
strong_down_says l s Loading None = strong_down_unloaded l s
strong_down_says l s Loading (Some w) = strong_down_word l s (number l (Count s)) w (unpacked w)
strong_down_says l s (Exchanging seen new) last = strong_down_swap l seen (unwrap_or last 0) (unwrap_or last 0 == seen)
strong_down_says l s Ended last = refl

pub unowned_down_says : (l : Extent) (s : ℕ) (at : At) (last : Option ℕ)
    → down_answer (inline_down l s kinds.Unowned at) last ≡ as_unowned_down l (unowned_down_answer (inline_fall (inline_down l s kinds.Unowned at)) last)
unowned_down_says l s Start last = refl
unowned_down_says l s Loading None = unowned_down_unloaded l s
unowned_down_says l s Loading (Some w) = unowned_down_word l s (number l (Count s)) w (unpacked w)
unowned_down_says l s (Exchanging seen new) last = unowned_down_swap l seen (unwrap_or last 0) (unwrap_or last 0 == seen)
unowned_down_says l s Ended last = refl

pub entry_down_says : (l : Extent) (s : ℕ) (list : Kind) (e : ℕ) (at : At) (last : Option ℕ)
    → down_answer (entry_down l s list e at) last ≡ as_entry_down e (entry_down_answer (entry_fall (entry_down l s list e at) e) last)
entry_down_says l s list e Start last = refl
entry_down_says l s list e Loading last = refl
entry_down_says l s list e (Exchanging seen new) last = entry_down_swap e seen (unwrap_or last 0) (unwrap_or last 0 == seen)
entry_down_says l s list e Ended last = refl

pub entry_down_turns : (l : Extent) (s : ℕ) (list : Kind) (e : ℕ) (at : At) (last : Option ℕ)
    → down_turned (entry_down l s list e at) last ≡ entry_down l s list e (entry_down_turned (entry_fall (entry_down l s list e at) e) last).at
entry_down_turns l s list e Start last = refl
entry_down_turns l s list e Loading last = refl
entry_down_turns l s list e (Exchanging seen new) last = refl
entry_down_turns l s list e Ended last = refl

down_stays : (p : Fall) (m : Option ℕ) (at : At) → m ≡ None → turned_by down_moved p (down_in p m) at ≡ down_moved p at
down_stays p None at is = refl
down_stays p (Some e) at is = absurd (cc)

down_goes : (p : Fall) (m : Option ℕ) (e : ℕ) (at : At) → m ≡ Some e → turned_by down_moved p (down_in p m) at ≡ record p { entry = Some e; at = Loading }
down_goes p m e at is = subst (λ (n : Option ℕ). turned_by down_moved p (down_in p n) at ≡ record p { entry = Some e; at = Loading }) (sym is) refl

pub strong_down_turns : (l : Extent) (s : ℕ) (at : At) (last : Option ℕ) → entry_met None at last ≡ None
    → down_turned (inline_down l s kinds.Strong at) last ≡ inline_down l s kinds.Strong (strong_down_turned (inline_fall (inline_down l s kinds.Strong at)) last).at
strong_down_turns l s Start last is = refl
strong_down_turns l s Loading None is = ap (inline_down l s kinds.Strong) (exchanging_as of_strong_down 0 (strong_down_row (unpacked 0)))
strong_down_turns l s Loading (Some w) is =
    down_stays (inline_down l s kinds.Strong Loading) (entry_named (unpacked w)) (exchanging w (told_as of_strong_down (strong_down_row (unpacked w)))) is
    ∙ ap (inline_down l s kinds.Strong) (exchanging_as of_strong_down w (strong_down_row (unpacked w)))
strong_down_turns l s (Exchanging seen new) last is = refl
strong_down_turns l s Ended last is = refl

pub unowned_down_turns : (l : Extent) (s : ℕ) (at : At) (last : Option ℕ) → entry_met None at last ≡ None
    → down_turned (inline_down l s kinds.Unowned at) last ≡ inline_down l s kinds.Unowned (unowned_down_turned (inline_fall (inline_down l s kinds.Unowned at)) last).at
unowned_down_turns l s Start last is = refl
unowned_down_turns l s Loading None is = ap (inline_down l s kinds.Unowned) (exchanging_as of_unowned_down 0 (unowned_down_row (unpacked 0)))
unowned_down_turns l s Loading (Some w) is =
    down_stays (inline_down l s kinds.Unowned Loading) (entry_named (unpacked w)) (exchanging w (told_as of_unowned_down (unowned_down_row (unpacked w)))) is
    ∙ ap (inline_down l s kinds.Unowned) (exchanging_as of_unowned_down w (unowned_down_row (unpacked w)))
unowned_down_turns l s (Exchanging seen new) last is = refl
unowned_down_turns l s Ended last is = refl

pub down_turns_on : (l : Extent) (s : ℕ) (list : Kind) (at : At) (last : Option ℕ) (e : ℕ) → entry_met None at last ≡ Some e
    → down_turned (inline_down l s list at) last ≡ entry_down l s list e Loading
down_turns_on l s list at last e is = down_goes (inline_down l s list at) (entry_met None at last) e _ is
