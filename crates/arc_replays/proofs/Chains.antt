-- The chain of the deinits that wait counts only while an object dies.
use Rattle.std.proofs.Common.{◌≡◌, ℕ, List, Option, refl, ap, subst}
use Rattle.arc_model.specs.Shapes.{HeapShape}
use Rattle.arc_spelling.specs.Spelling.{Note}
use Rattle.arc_cells.specs.Chains.{Frame}
use Rattle.arc_deinits.specs.Stands.{chained}
use Rattle.arc_ops.specs.declared.stepper.Held.{Held}
use Rattle.arc_ops.specs.declared.stepper.Doing.{Doing}
use Rattle.arc_ops.specs.declared.stepper.Doing.TheVariants.{Dying}
use Rattle.arc_ops.specs.declared.stepper.Move.{Move}
use Rattle.arc_ops.specs.Thread.{Thread}
use Rattle.arc_spelled.specs.StepperStands.{Work, StepperUpTo, StandsFor, FitsChainAt, chain_at}
use Rattle.arc_ops_passes.specs.Drives.{Asks, IsChain}

pub same_chain : (d : Doing) (fs gs : List Frame) → fs ≡ gs → IsChain d fs gs
same_chain (Dying c) fs gs same = same
same_chain d fs gs same = tt

pub asks_chain : (shape : HeapShape) (fs gs : List Frame) (t : Thread) (d : Doing) → IsChain d fs gs → Asks shape fs t d → Asks shape gs t d
asks_chain shape fs gs t (Dying c) same asks = subst (λ (l : List Frame). Asks shape l t (Dying c)) same asks
asks_chain shape fs gs t d same asks = asks

up_to_chain : (w : Work) (i : ℕ) (vars : List (Option Held)) (cleared : ℕ) (fs gs : List Frame) (asked : Move) (now : List Note) (d : Doing) → IsChain d fs gs → StepperUpTo w i vars cleared fs asked now d → StepperUpTo w i vars cleared gs asked now d
up_to_chain w i vars cleared fs gs asked now (Dying c) same x = subst (λ (l : List Frame). StepperUpTo w i vars cleared l asked now (Dying c)) same x
up_to_chain w i vars cleared fs gs asked now d same x = x

pub stands_chain : (w : Work) (t : Thread) (fs gs : List Frame) (now : List Note) → IsChain t.doing fs gs → StandsFor w t fs now → StandsFor w t gs now
stands_chain w t fs gs now same s = record {
  works = s.works;
  in_phase = s.in_phase;
  counts = s.counts;
  number = s.number;
  asks = s.asks;
  up_to = up_to_chain w t.index t.vars t.cleared fs gs t.asked now t.doing same s.up_to;
}

pub fits_chain : (d : Doing) (fs gs : List Frame) (last : Option ℕ) → IsChain d fs gs → FitsChainAt fs last d → FitsChainAt gs last d
fits_chain (Dying c) fs gs last same fits = subst (λ (l : List Frame). FitsChainAt l last (Dying c)) same fits
fits_chain d fs gs last same fits = fits

pub after_chain : (d : Doing) (fs gs : List Frame) (last : Option ℕ) → IsChain d fs gs → chain_at last fs d ≡ chain_at last gs d
after_chain (Dying c) fs gs last same = ap (λ (l : List Frame). chained c last l) same
after_chain d fs gs last same = refl
