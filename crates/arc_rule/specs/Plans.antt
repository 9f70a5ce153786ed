-- What the contract of a plan speaks of.
use Rattle.std.specs.Prelude.{ℕ, ◌≡◌, ◌≢◌, ◌<◌, ◌⊎◌, List, length, Option, Some, None, ⊤}
use Rattle.arc_rule.specs.declared.step.Step.{Step}
use Rattle.arc_rule.specs.declared.step.Step.TheVariants as steps
use Rattle.arc_rule.specs.declared.step.Changed.{Changed}
use Rattle.arc_rule.specs.declared.plan.Next.{Next}
use Rattle.arc_rule.specs.declared.plan.Next.TheVariants as nexts
use Rattle.arc_rule.specs.Steps.{place_of, found_by, made_by}

-- a word that a Load of a place gave
pub record Reading : Type 0 where
  pub place : ℕ
  pub word : ℕ

-- the plan waits for the word of the step that it asked for
abbrev pub WaitsFor : {A : Type 0} → Next A → Option Step → Type 0
WaitsFor (nexts.Step s) asked = asked ≡ Some s
WaitsFor (nexts.Done a) asked = asked ≡ None

-- the step that is asked for, and where there is none the answer
abbrev pub step_or : {A : Type 0} → Option Step → A → Next A
step_or (Some s) a = nexts.Step s
step_or None a = nexts.Done a

-- each step that is asked for leaves fewer
abbrev pub FewerLeft : {A : Type 0} → Next A → ℕ → ℕ → Type 0
FewerLeft (nexts.Step s) old new = new < old
FewerLeft (nexts.Done a) old new = ⊤

-- the step writes nothing at the place
abbrev pub LeavesPlace : Option Step → ℕ → Type 0
LeavesPlace None place = ⊤
LeavesPlace (Some (steps.Load q)) place = ⊤
LeavesPlace (Some (steps.Exchange q old new)) place = q ≢ place
LeavesPlace (Some (steps.Store q new)) place = q ≢ place
LeavesPlace (Some (steps.Or q bits)) place = q ≢ place
LeavesPlace (Some (steps.And q bits)) place = q ≢ place

-- what the plan rests on is the word that its Load just gave, or what it rested on before, which it hasn't written
abbrev pub RestsOn : Option Step → Option ℕ → Option Reading → Option Reading → Type 0
RestsOn asked last old new = (r : Reading) → new ≡ Some r →
    ((asked ≡ Some (steps.Load r.place)) × (last ≡ Some r.word)) ⊎ ((last ≢ None) × (old ≡ Some r) × LeavesPlace asked r.place)

-- an Exchange that expects the word seen, or an Or
abbrev pub Tries : Option Step → ℕ → ℕ → Type 0
Tries (Some (steps.Exchange q old new)) place seen = (q ≡ place) × (old ≡ seen)
Tries (Some (steps.Or q bits)) place seen = q ≡ place
Tries asked place seen = ⊥

-- an Exchange or an Or found another word at the place than the plan had read there
pub record IsChange (asked : Option Step) (last : Option ℕ) (rests : Option Reading) (c : Changed) : Type 0 where
  pub place : ℕ
  pub tries : Tries asked place c.seen
  pub read : rests ≡ Some (record { place = place; word = c.seen })
  pub found : last ≡ Some c.found
  pub differ : c.seen ≢ c.found

-- an answer that says that a word has changed holds the two words
abbrev pub HoldsChange : {A : Type 0} → (A → Option Changed) → Option Step → Option ℕ → Option Reading → Next A → Type 0
HoldsChange changed asked last rests (nexts.Step s) = ⊤
HoldsChange changed asked last rests (nexts.Done a) = (c : Changed) → changed a ≡ Some c → IsChange asked last rests c

-- The plan p, given last, may go on on the words: each of its steps is at a place within them, and it may be given what that step finds.
pub data RunsOn {P A : Type 0} (takes : P → Option ℕ → Type 0) (turned : P → Option ℕ → P) (answer : P → Option ℕ → Next A) : P → Option ℕ → List ℕ → Type 0 where
  ends : {p : P} {last : Option ℕ} {words : List ℕ} (a : A) → takes p last → answer p last ≡ nexts.Done a → RunsOn takes turned answer p last words
  steps_on : {p : P} {last : Option ℕ} {words : List ℕ} (s : Step) → takes p last → answer p last ≡ nexts.Step s → place_of s < length words →
      RunsOn takes turned answer (turned p last) (Some (found_by s words)) (made_by s words) → RunsOn takes turned answer p last words

-- The plan p, given last, comes to the answer on the words, and leaves the words after.
pub data RunsTo {P A : Type 0} (turned : P → Option ℕ → P) (answer : P → Option ℕ → Next A) : P → Option ℕ → List ℕ → A → List ℕ → Type 0 where
  ended : {p : P} {last : Option ℕ} {words : List ℕ} {a : A} → answer p last ≡ nexts.Done a → RunsTo turned answer p last words a words
  stepped : {p : P} {last : Option ℕ} {words after : List ℕ} {a : A} (s : Step) → answer p last ≡ nexts.Step s →
      RunsTo turned answer (turned p last) (Some (found_by s words)) (made_by s words) a after → RunsTo turned answer p last words a after
