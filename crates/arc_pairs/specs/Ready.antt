-- What a thread has between two calls.
use Rattle.std.specs.Prelude.{ℕ, ◌≡◌, ◌≢◌, ◌<◌, ◌≤◌, ◌+◌, ◌⊎◌, true, false, [], Some, slice_get, ⊤}
use Rattle.arc_model.specs.History.{IsLegal}
use Rattle.arc_model.specs.declared.event.Act.TheVariants as acts
use Rattle.arc_rule.specs.Bits.{words_of}
use Rattle.arc_view.specs.declared.view.View.{View}
use Rattle.arc_view.specs.Views.{idle}
use Rattle.arc_table.specs.declared.heap.Heap.{Heap}
use Rattle.arc_table.specs.declared.heap.Pass.{Pass}
use Rattle.arc_table.specs.declared.tokens.Strong.{Strong as Token}
use Rattle.arc_table.specs.declared.tokens.Dying.{Dying}
use Rattle.arc_table.specs.declared.tokens.Any.{Any}
use Rattle.arc_table.specs.declared.tokens.Any.TheVariants as anys
use Rattle.arc_table.specs.Seats.{heap_id, shape_of, pass_id, view_of}
use Rattle.arc_table.specs.Tokens.{hand_of}
use Rattle.arc_view_laws.specs.Having.{IsStrongOf, IsDyingOf}
use Rattle.arc_table.specs.Cells.{HoldsStrong, IsNamed}
use Rattle.arc_table.specs.Calls.{GoesOn}
use Rattle.arc_table.specs.Causes.{FoundTaken, LoadedAtCap, LoadedFull}
use Rattle.arc_table.specs.Runs.{Walked}

-- the pass is one of the heap's, nothing is under way, and what it has seen is legal
abbrev pub IsReady : Heap → Pass → Type 0
IsReady heap pass = (pass_id pass ≡ heap_id heap) × ((view_of pass).working ≡ idle) × IsLegal (shape_of heap) (view_of pass).seen

-- class 0 of the heap has no fields, and isn't immortal
abbrev pub IsPlain : Heap → Type 0
IsPlain heap = slice_get (shape_of heap).classes 0 ≡ Some (record { fields = []; immortal = false })

-- class 1 of the heap is immortal
abbrev pub HasImmortal : Heap → Type 0
HasImmortal heap = slice_get (shape_of heap).classes 1 ≡ Some (record { fields = []; immortal = true })

-- a strong reference of the pass to an object of the class in its slot
abbrev pub IsOfClass : ℕ → Heap → Pass → Token → Type 0
IsOfClass class heap pass t = (t.slot < (shape_of heap).slots) × IsStrongOf (view_of pass) (hand_of t) t.slot class

-- the same of class 0
abbrev pub IsOurs : Heap → Pass → Token → Type 0
IsOurs heap pass t = (t.slot < (shape_of heap).slots) × IsStrongOf (view_of pass) (hand_of t) t.slot 0

-- the second view is of the same pass, which has split off no other since
abbrev pub IsSamePass : View → View → Type 0
IsSamePass v w = (w.role ≡ v.role) × (w.number ≡ v.number) × (w.splits ≡ v.splits)

-- the pass owes the deinit of an object of class 0 in its slot
abbrev pub IsOurDying : Heap → Pass → Dying → Type 0
IsOurDying heap pass d = (d.slot < (shape_of heap).slots) × IsDyingOf (view_of pass) d.slot 0

-- nil, or such a reference
abbrev pub IsOurAny : Heap → Pass → Any → Type 0
IsOurAny heap pass anys.Nil = ⊤
IsOurAny heap pass (anys.Strong t) = IsOurs heap pass t

-- nil, or none of the strong references that the view had
abbrev pub IsApart : View → Any → Type 0
IsApart v anys.Nil = ⊤
IsApart v (anys.Strong t) = (k s class : ℕ) → IsStrongOf v k s class → k ≢ hand_of t

-- the global is for strong references to objects of class 0
abbrev pub IsForOurs : Heap → ℕ → Type 0
IsForOurs heap g = HoldsStrong (shape_of heap) g × IsNamed (shape_of heap) g 0

-- each of this many globals is
abbrev pub AreForOurs : Heap → ℕ → Type 0
AreForOurs heap n = (g : ℕ) → g < n → IsForOurs heap g

-- a pass of the heap for one of this many threads, which its number says, from 1 on
abbrev pub IsWorker : Heap → ℕ → Pass → Type 0
IsWorker heap n pass = IsReady heap pass × (1 ≤ (view_of pass).number) × ((view_of pass).number ≤ n)

-- Between the two views the pass's last call was one that made `full` alone: it loaded each bit word of the slots, and found each slot taken.
abbrev pub FoundFull : Heap → View → View → Type 0
FoundFull heap u w = (v : View) × Walked u v × GoesOn (shape_of heap) (Some acts.Full) (words_of (shape_of heap).slots + 3) v w × FoundTaken (shape_of heap) v w

-- The last step between the two views was a load of a count of the reference's object, which stood at its greatest.
abbrev pub FoundAtCap : Heap → View → View → Token → Type 0
FoundAtCap heap v w t = LoadedAtCap (shape_of heap) t.slot v w ⊎ LoadedFull (shape_of heap) (hand_of t) v w
