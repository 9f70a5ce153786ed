-- A turn of a stepper: it was given a word, and stands for what its notes are then.
use Rattle.std.proofs.Common.{◌≡◌, ℕ, false, List, [], Option, None}
use Rattle.arc_model.specs.declared.event.Act.{Act}
use Rattle.arc_model.specs.Shapes.{HeapShape}
use Rattle.arc_spelling.specs.Spelling.{Note}
use Rattle.arc_rule.specs.Extents.{Extent}
use Rattle.arc_rule.specs.Places.{extent_of}
use Rattle.arc_rule.specs.declared.step.Step.{Step}
use Rattle.arc_rule.specs.declared.step.Intent.{Intent}
use Rattle.arc_cells.specs.Chains.{Frame}
use Rattle.arc_programs.specs.ProgramsLines.{number_of}
use Rattle.arc_ops.specs.declared.stepper.Doing.TheVariants.{Ended}
use Rattle.arc_ops.specs.Thread.{Thread}
use Rattle.arc_spelled.specs.Came.{CameOut, came_out}
use Rattle.arc_spelled.specs.Shown.{FindsReference, Shows, Adds, with_act}
use Rattle.arc_spelled.specs.Shown.Reads.{nothing as read_nothing}
use Rattle.arc_spelled.specs.Shown.FindsReference.{nothing as refers_nothing, refers}
use Rattle.arc_spelled.specs.Shown.FindsEntry.{nothing as found_nothing}
use Rattle.arc_spelled.specs.StepperStands.{Work, step_in, WorksOn, IsCounted, number_at, IsOfPhase, StandsFor}
use Rattle.arc_spelled.proofs.StepperSteps.{ComesUnder, Comes}

-- it works on the operation at its place, or on a drop at the end of the scope
pub record IsAtWork (w : Work) (t : Thread) (now : List Note) : Type 0 where
  pub works : WorksOn w t.layout t.shape t.thread t.phases t.program t.classes t.vars
  pub counts : IsCounted w t.hands t.taken t.made t.kept now
  pub number : number_of now ≡ number_at w t.index
  pub phase : IsOfPhase w t.phase t.index

-- it was given a word: nothing is under way, and no event is told
abbrev pub given : Thread → Thread
given t = record t { doing = Ended; first = false; event = None }

-- a stepper that was given a word, and what it stands for then, under a chain of deinits that wait
pub record TurnsUnder (w : Work) (t new : Thread) (last : Option ℕ) (fs : List Frame) (now : List Note) : Type 0 where
  pub after : List Note
  pub adds : Adds w.shape (extent_of w.shape) (step_in t.asked) last new.event (came_out t last) now after
  pub stands : StandsFor w new fs after

-- and where none waits
abbrev pub Turns : Work → (t new : Thread) → (last : Option ℕ) → (now : List Note) → Type 0
Turns w t new last now = TurnsUnder w t new last [] now

pub turned-under : (w : Work) (t new : Thread) (last : Option ℕ) (fs : List Frame) (now : List Note) (e : Option Act) (found : List Note) → Shows w.shape (extent_of w.shape) (step_in t.asked) last e (came_out t last) now found → ComesUnder w new e fs found →
    TurnsUnder w t new last fs now
turned-under w t new last fs now e found shows c = record { after = c.after; adds = rw c.event (record { found = found; shows = shows; says = c.says }); stands = c.stands }

pub turned-by : (w : Work) (t new : Thread) (last : Option ℕ) (now : List Note) (e : Option Act) (found : List Note) → Shows w.shape (extent_of w.shape) (step_in t.asked) last e (came_out t last) now found → Comes w new e found → Turns w t new last now
turned-by w t new last now e found shows c = turned-under w t new last [] now e found shows c

-- the word shows nothing but the event
pub plainly : (w : Work) (t new : Thread) (last : Option ℕ) (now : List Note) (e : Option Act) → Comes w new e (with_act e now) → Turns w t new last now
plainly w t new last now e c = turned-by w t new last now e (with_act e now) (record { read = now; reads = read_nothing; referred = now; refers = refers_nothing; finds = found_nothing }) c

-- a turn that brings nothing out of a cell shows what it shows whatever comes out
pub any-out : {shape : HeapShape} {layout : Extent} {asked : Option (Step × Intent)} {last : Option ℕ} {e : Option Act} {out : Option CameOut} {b found : List Note} → Shows shape layout asked last e None b found → Shows shape layout asked last e out b found
any-out {e = e} {out = out} s = record { read = s.read; reads = s.reads; referred = s.referred; refers = go s.refers; finds = s.finds }
  where
    go : {b ns : List Note} → FindsReference e None b ns → FindsReference e out b ns
    go refers_nothing = refers_nothing
    go (refers o f) = absurd (cc)
