-- An attempt on one word, or on one word after another: it loads the word, and answers at once, exchanges the word for another or goes on.
use Rattle.std.specs.Prelude.{ℕ, suc, ◌≡◌, ◌≢◌, ◌<◌, ◌==◌, if◌then◌else◌, Option, Some, None, ⊤}
use Rattle.arc_rule.specs.declared.step.Step.{Step}
use Rattle.arc_rule.specs.declared.step.Step.TheVariants.{Load, Exchange}
use Rattle.arc_rule.specs.declared.step.Changed.{Changed}
use Rattle.arc_rule.specs.declared.plan.Next.{Next}
use Rattle.arc_rule.specs.declared.plan.Next.TheVariants as nexts
use Rattle.arc_rule.specs.Plans.{Reading}
use Rattle.arc_rule.specs.declared.attempt.At.{At}
use Rattle.arc_rule.specs.declared.attempt.At.TheVariants.{Start, Loading, Exchanging, Ended}
use Rattle.arc_rule.specs.declared.attempt.Choice.{Choice}
use Rattle.arc_rule.specs.declared.attempt.Choice.TheVariants.{Tell, Write}

-- what may be given: nothing at the start, a word of this kind for the load, and any word for the exchange
abbrev pub takes_at : (ℕ → Type 0) → At → Option ℕ → Type 0
takes_at Fits Start last = last ≡ None
takes_at Fits Loading None = ⊥
takes_at Fits Loading (Some w) = Fits w
takes_at Fits (Exchanging seen new) last = last ≢ None
takes_at Fits Ended last = ⊥

abbrev pub exchanging : {A : Type 0} → ℕ → Choice A → At
exchanging w (Tell a) = Ended
exchanging w (Write new) = Exchanging w new

-- where the attempt is after a word, at the same place
abbrev pub turned_at : {A : Type 0} → (ℕ → Choice A) → At → ℕ → At
turned_at row Start w = Loading
turned_at row Loading w = exchanging w (row w)
turned_at row (Exchanging seen new) w = Ended
turned_at row Ended w = Ended

abbrev pub chosen : {A : Type 0} → ℕ → ℕ → Choice A → Next A
chosen place w (Tell a) = nexts.Done a
chosen place w (Write new) = nexts.Step (Exchange place w new)

-- the choice with another answer in place of what it tells
abbrev pub told_as : {A B : Type 0} → (A → B) → Choice A → Choice B
told_as f (Tell a) = Tell (f a)
told_as f (Write new) = Write new

-- What it asks for or answers then: the load; what the row says of the word that the load gave; and where the exchange found that
-- word, the row's answer after it, else that the word has changed.
abbrev pub answer_at : {A : Type 0} → (ℕ → Choice A) → (ℕ → A) → (Changed → A) → ℕ → At → ℕ → Next A
answer_at row after again place Start w = nexts.Step (Load place)
answer_at row after again place Loading w = chosen place w (row w)
answer_at row after again place (Exchanging seen new) w = nexts.Done (if w == seen then after seen else again (record { seen = seen; found = w }))
answer_at row after again place Ended w = nexts.Step (Load place)

-- the attempt after a word, where it goes on to another word or doesn't: it loads that one
abbrev pub turned_by : {P : Type 0} → (P → At → P) → P → Option P → At → P
turned_by moved p None at = moved p at
turned_by moved p (Some next) at = moved next Loading

abbrev pub answer_by : {P A : Type 0} → (P → ℕ) → Option P → Next A → Next A
answer_by place None answer = answer
answer_by place (Some next) answer = nexts.Step (Load (place next))

-- an attempt on one word goes on to no other
abbrev pub goes_nowhere : {P : Type 0} → P → Option ℕ → Option P
goes_nowhere p last = None

-- the step whose word it waits for
abbrev pub asked_at : ℕ → At → Option Step
asked_at place Start = None
asked_at place Loading = Some (Load place)
asked_at place (Exchanging seen new) = Some (Exchange place seen new)
asked_at place Ended = None

-- how many steps it may still ask for, by how many it may ask for after its load and after its exchange
abbrev pub leaves_at : ℕ → ℕ → At → ℕ
leaves_at load_leaves exchange_leaves Start = suc load_leaves
leaves_at load_leaves exchange_leaves Loading = load_leaves
leaves_at load_leaves exchange_leaves (Exchanging seen new) = exchange_leaves
leaves_at load_leaves exchange_leaves Ended = 0

-- the same on one word
abbrev pub left_at : At → ℕ
left_at at = leaves_at 1 0 at

-- the word that its load gave, while the exchange is under way
abbrev pub rests_at : ℕ → At → Option Reading
rests_at place Start = None
rests_at place Loading = None
rests_at place (Exchanging seen new) = Some (record { place = place; word = seen })
rests_at place Ended = None

-- what is told at once isn't that the word has changed
abbrev pub TellsNoChange : {A : Type 0} → (A → Option Changed) → Choice A → Type 0
TellsNoChange changed (Tell a) = changed a ≡ None
TellsNoChange changed (Write new) = ⊤

-- the exchange that it asks for is one of the steps that its load leaves
abbrev pub ChoiceLeavesFewer : {A : Type 0} → ℕ → ℕ → Choice A → Type 0
ChoiceLeavesFewer load_leaves exchange_leaves (Tell a) = ⊤
ChoiceLeavesFewer load_leaves exchange_leaves (Write new) = exchange_leaves < load_leaves

-- so is the load of the word that it goes on to
abbrev pub OnwardLeavesFewer : {P : Type 0} → (P → ℕ) → ℕ → Option P → Type 0
OnwardLeavesFewer load_leaves left None = ⊤
OnwardLeavesFewer load_leaves left (Some next) = load_leaves next < left
