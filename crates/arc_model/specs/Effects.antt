-- What each event does to a heap.
use Rattle.std.specs.Prelude.{ℕ, Bool, true, false, ◌+◌, not, List, [], ◌∷◌, ◌++◌, filter, Option, Some, None}
use Rattle.arc_model.specs.declared.event.CellName.TheVariants as cells
use Rattle.arc_model.specs.declared.event.Got.{Got}
use Rattle.arc_model.specs.declared.event.Got.TheVariants as got
use Rattle.arc_model.specs.declared.event.Act.{Act}
use Rattle.arc_model.specs.declared.event.Act.TheVariants as acts
use Rattle.arc_model.specs.declared.shape.Kind.{Kind}
use Rattle.arc_model.specs.declared.shape.Kind.TheVariants.{Strong, Unowned, Weak}
use Rattle.arc_model.specs.Heaps.{Holder, Hand, Strongs, Unowneds, Duty, Deinit, Vacating, Gone, Object, Heap}
use Rattle.arc_model.specs.Holders.{with_last, gains, without, renamed, lists, with_list, holds, kind_in, in_slot, has_entry, held_by, claims_it, made_by, change}
use Rattle.arc_model.specs.Cells.{cell, origin}

abbrev pub owing : ℕ → Duty → Object → Object
owing p duty o = record o { owed = Some (record { thread = p; duty = duty }) }

abbrev pub owing_none : Object → Object
owing_none o = record o { owed = None }

-- After its last strong holder p owes the deinit, after its last unowned one the vacating; after its last weak one the
-- object has no entry.
abbrev pub ended : ℕ → Kind → Object → Object
ended p Strong o = owing p Deinit o
ended p Unowned o = owing p Vacating o
ended p Weak o = record o { entry = None }

abbrev pub ended_if : Bool → ℕ → Kind → Object → Object
ended_if true p k o = ended p k o
ended_if false p k o = o

-- a new object has hand k as its strong holder and the two extra holders
abbrev pub made : ℕ → ℕ → ℕ → ℕ → List Object → Object
made p k c s os =
    record { id = record { thread = p; number = made_by p os + 1 }; class = c; slot = Some s; entry = None; owed = None; strong = Hand p k ∷ []; unowned = Strongs ∷ []; weak = Unowneds ∷ [] }

abbrev pub loaded : ℕ → ℕ → Got → Heap → Heap
loaded p h (got.Hand k) heap = change (holds (Hand p h)) (with_list Strong (with_last (Hand p k))) heap
loaded p h got.Dead heap = heap
loaded p h got.Nil heap = heap

-- x leaves the list that it is in
abbrev pub given_up : ℕ → Holder → Bool → Object → Object
given_up p x last o = ended_if last p (kind_in x o) (with_list (kind_in x o) (without x) o)

-- the entry that an object's last weak holder leaves
abbrev pub entry_of_last : Bool → Kind → Object → Option ℕ
entry_of_last true Weak o = o.entry
entry_of_last _ _ o = None

abbrev pub entry_left : Holder → Bool → Option Object → Option ℕ
entry_left x last None = None
entry_left x last (Some o) = entry_of_last last (kind_in x o) o

abbrev pub claimed : ℕ → ℕ → Heap → Heap
claimed p e heap = record heap { claims = heap.claims ++ record { thread = p; entry = e } ∷ [] }

abbrev pub entry_to : ℕ → Option ℕ → Heap → Heap
entry_to p None heap = heap
entry_to p (Some e) heap = claimed p e heap

abbrev pub claimed_if : Bool → ℕ → ℕ → Heap → Heap
claimed_if true p e heap = claimed p e heap
claimed_if false p e heap = heap

abbrev pub unclaimed : ℕ → Heap → Heap
unclaimed e heap = record heap { claims = filter (λ c. not (claims_it e c)) heap.claims }

-- y takes the place of x
abbrev pub becomes : Holder → Holder → Heap → Heap
becomes x y heap = change (holds x) (lists (renamed x y)) heap

abbrev pub put_in : Holder → ℕ → Option ℕ → Heap → Heap
put_in c p None heap = heap
put_in c p (Some h) heap = becomes (Hand p h) c heap

abbrev pub taken_out : Holder → ℕ → Option ℕ → Heap → Heap
taken_out c p None heap = heap
taken_out c p (Some k) heap = becomes c (Hand p k) heap

-- Strongs leaves, which ends the deinit
abbrev pub finished : ℕ → Bool → Object → Object
finished p last o = ended_if last p Unowned (owing_none (with_list Unowned (without Strongs) o))

-- without an entry Unowneds leaves and the object is dead, else p owes the gone
abbrev pub left_slot : ℕ → Option ℕ → Object → Object
left_slot p None o = with_list Weak (without Unowneds) o
left_slot p (Some e) o = owing p Gone o

abbrev pub vacated : ℕ → Object → Object
vacated p o = left_slot p o.entry (owing_none (record o { slot = None }))

-- Unowneds leaves, which ends what was owed
abbrev pub gone : ℕ → Bool → Object → Object
gone p last o = ended_if last p Weak (owing_none (with_list Weak (without Unowneds) o))

-- the heap after an act of thread p
abbrev pub effect : ℕ → Act → Heap → Heap
effect p (acts.New k c s) heap = record heap { objects = heap.objects ++ made p k c s heap.objects ∷ [] }
effect p acts.Full heap = heap
effect p (acts.Copy from k) heap = change (holds (origin heap p from)) (lists (gains (origin heap p from) (Hand p k))) heap
effect p (acts.UnownedOf h k) heap = change (holds (Hand p h)) (with_list Unowned (with_last (Hand p k))) heap
effect p (acts.WeakOf h k) heap = change (holds (Hand p h)) (with_list Weak (with_last (Hand p k))) heap
effect p (acts.Load h g) heap = loaded p h g heap
effect p (acts.Drop h last) heap = entry_to p (entry_left (Hand p h) last (held_by (Hand p h) heap)) (change (holds (Hand p h)) (given_up p (Hand p h) last) heap)
effect p (acts.CountFull k from) heap = heap
effect p (acts.Claim e) heap = claimed p e heap
effect p acts.NoEntry heap = heap
effect p (acts.Side s e why) heap = unclaimed e (change (in_slot s) (λ o. record o { entry = Some e }) heap)
effect p (acts.Back e) heap = unclaimed e heap
effect p (acts.Swap c h k) heap = put_in (cell heap c) p h (taken_out (cell heap c) p k heap)
effect p (acts.Look c) heap = heap
effect p (acts.Take s f k) heap = becomes (cell heap (cells.Field s f)) (Hand p k) heap
effect p (acts.Finish s last) heap = change (in_slot s) (finished p last) heap
effect p (acts.Vacate s) heap = change (in_slot s) (vacated p) heap
effect p (acts.Gone e last) heap = claimed_if last p e (change (has_entry e) (gone p last) heap)
