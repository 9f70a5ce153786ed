-- How passes are split off and notes taken, and how a pass takes them in. None of these brings what was seen up to the present.
use Rattle.std.specs.Prelude.{ℕ, suc, ◌≡◌, ◌≤◌, true, nat_le, if◌then◌else◌, [], ◌∷◌, length, None}
use Rattle.arc_model.specs.History.{History, heap_after}
use Rattle.arc_model.specs.Others.{IsQuiet}
use Rattle.arc_rule.specs.declared.step.Step.TheVariants.{Load}
use Rattle.arc_view.specs.declared.view.Role.TheVariants.{Pass, Note}
use Rattle.arc_view.specs.declared.view.Mark.{Mark}
use Rattle.arc_view.specs.declared.view.Old.{Old}
use Rattle.arc_view.specs.declared.view.View.{View}
use Rattle.arc_view.specs.Views.{within, made_in, idle, private_words}

-- the mark of a step that looks at place 0 and tells nothing
abbrev pub glance : View → Mark
glance v = record { step = Load 0; found = 0; length = length v.seen; made = made_in v.number v.seen }

abbrev pub glanced : View → View
glanced v = record v { trail = glance v ∷ v.trail }

-- the first pass, after it split off another
abbrev pub parted : View → View
parted v = record v { trail = glance v ∷ v.trail; splits = suc v.splits }

-- a pass that is split off
abbrev pub newcomer : View → View
newcomer v = record { number = suc v.splits; role = Pass; seen = v.seen; trail = []; splits = 0; taken = []; olds = []; working = idle }

-- a copy of what was seen
abbrev pub noted : View → View
noted v = record { number = v.number; role = Note; seen = v.seen; trail = []; splits = 0; taken = []; olds = []; working = idle }

abbrev pub longer : History → History → History
longer a b = if nat_le (length a) (length b) then b else a

-- what a pass has seen, with all events of it and of what it took in; what a note has seen
abbrev pub whole_of : View → Old
whole_of v = record { seen = v.seen; of = v.number ∷ v.taken }

abbrev pub part_of : View → Old
part_of v = record { seen = v.seen; of = [] }

-- after a note was taken in
abbrev pub met : View → View → View
met v w = record v { seen = longer v.seen w.seen; trail = glance v ∷ v.trail; olds = whole_of v ∷ part_of w ∷ v.olds }

-- after a pass was taken in
abbrev pub joined : View → View → View
joined v w = record v { seen = longer v.seen w.seen; trail = glance v ∷ v.trail; taken = w.number ∷ v.taken; olds = whole_of v ∷ whole_of w ∷ v.olds }

-- the first pass
abbrev pub IsFirst : View → Type 0
IsFirst v = (v.role ≡ Pass) × (v.number ≡ 0)

-- nothing is under way
pub record IsIdle (v : View) : Type 0 where
  pub owes : v.working.owes ≡ None
  pub access : v.working.access ≡ None
  pub private : private_words v.working ≡ []

-- a pass that can be taken in: it has no hand, duty or claim, and nothing under way
pub record HoldsNothing (v : View) : Type 0 where
  pub quiet : IsQuiet v.number (heap_after v.seen)
  pub is_idle : IsIdle v

-- every pass that was split off was taken in
abbrev pub IsWhole : View → Type 0
IsWhole v = (p : ℕ) → 1 ≤ p → p ≤ v.splits → within p v.taken ≡ true
