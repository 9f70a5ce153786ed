-- What the index keeps of objects, hands and cells, and how each changes.
use Rattle.std.specs.Prelude.{ℕ, zero, suc, ◌+◌, ◌-◌, Bool, true, false, nat_lt, ◌==◌, ◌&&◌, not, if◌then◌else◌, List, [], ◌∷◌, ◌++◌, Option, Some, None, slice_get, slice_index_or, length, take}
use Rattle.arc_model.specs.declared.shape.Kind.{Kind}
use Rattle.arc_model.specs.declared.shape.Kind.TheVariants.{Strong, Unowned, Weak}
use Rattle.arc_heap_index.specs.declared.counted.Due.{Due}
use Rattle.arc_heap_index.specs.declared.counted.Due.TheVariants.{Deinit, Vacating, Gone}
use Rattle.arc_heap_index.specs.declared.counted.Debt.{Debt}
use Rattle.arc_heap_index.specs.declared.counted.Place.{Place}
use Rattle.arc_heap_index.specs.declared.counted.Counted.{Counted}

-- f at the i-th element, if there is one
abbrev pub at_place : {X : Type 0} → ℕ → (X → X) → List X → List X
at_place i f [] = []
at_place zero f (x ∷ xs) = f x ∷ xs
at_place (suc i) f (x ∷ xs) = x ∷ at_place i f xs

-- y in the place of the i-th element, if there is one
abbrev pub placed : {X : Type 0} → ℕ → X → List X → List X
placed i y xs = at_place i (λ _. y) xs

abbrev pub flat : {X : Type 0} → Option (Option X) → Option X
flat None = None
flat (Some x) = x

-- rows of places: a row for each thread's hands, a row for each slot's fields
abbrev pub row_of : {X : Type 0} → ℕ → List (List X) → List X
row_of r rows = slice_index_or rows r []

abbrev pub place_at : ℕ → ℕ → List (List (Option Place)) → Option Place
place_at r k rows = flat (slice_get (row_of r rows) k)

abbrev pub put_at : ℕ → ℕ → Option Place → List (List (Option Place)) → List (List (Option Place))
put_at r k place rows = at_place r (placed k place) rows

abbrev pub pushed : ℕ → Option Place → List (List (Option Place)) → List (List (Option Place))
pushed r place rows = at_place r (λ row. row ++ place ∷ []) rows

abbrev pub without_end : {X : Type 0} → List X → List X
without_end xs = take (length xs - 1) xs

abbrev pub popped : ℕ → List (List (Option Place)) → List (List (Option Place))
popped r rows = at_place r without_end rows

-- one more, up to a greatest number
abbrev pub raised : ℕ → ℕ → ℕ
raised greatest n = if nat_lt n greatest then n + 1 else n

-- how many holders of a list can be counted
abbrev pub most : ℕ
most = 4294967295

-- rows of counts
abbrev pub tally_at : ℕ → ℕ → List (List ℕ) → ℕ
tally_at r k rows = slice_index_or (row_of r rows) k 0

abbrev pub tally_raised : ℕ → ℕ → List (List ℕ) → List (List ℕ)
tally_raised r k rows = at_place r (at_place k (raised most)) rows

abbrev pub tally_lowered : ℕ → ℕ → List (List ℕ) → List (List ℕ)
tally_lowered r k rows = at_place r (at_place k (λ n. n - 1)) rows

abbrev pub count_in : Kind → Counted → ℕ
count_in Strong c = c.strong
count_in Unowned c = c.unowned
count_in Weak c = c.weak

abbrev pub same_due : Due → Due → Bool
same_due Deinit Deinit = true
same_due Vacating Vacating = true
same_due Gone Gone = true
same_due _ _ = false

abbrev pub owing : ℕ → Due → Option Debt
owing p due = Some (record { thread = p; due = due })

abbrev pub is_owed_by : ℕ → Due → Option Debt → Bool
is_owed_by p due None = false
is_owed_by p due (Some d) = same_due d.due due && d.thread == p

abbrev pub owes : ℕ → Due → Counted → Bool
owes p due c = is_owed_by p due c.owed

-- An object of an immortal class has one more strong holder, which isn't counted.
abbrev pub forever : Bool → Kind → ℕ
forever true Strong = 1
forever _ _ = 0

abbrev pub holders_in : Bool → Kind → Counted → ℕ
holders_in immortal k c = count_in k c + forever immortal k

abbrev pub is_alive : Bool → Counted → Bool
is_alive immortal c = not (holders_in immortal Strong c == 0)

-- one more holder of that list can be counted
abbrev pub can_count : Kind → Counted → Bool
can_count k c = nat_lt (count_in k c) most

abbrev pub with_one_more : Kind → Counted → Counted
with_one_more Strong c = record c { strong = raised most c.strong }
with_one_more Unowned c = record c { unowned = raised most c.unowned }
with_one_more Weak c = record c { weak = raised most c.weak }

abbrev pub owed_if : Bool → ℕ → Due → Option Debt → Option Debt
owed_if true p due before = owing p due
owed_if false p due before = before

abbrev pub none_if : {X : Type 0} → Bool → Option X → Option X
none_if true x = None
none_if false x = x

abbrev pub with_one_less : ℕ → Kind → Bool → Counted → Counted
with_one_less p Strong last c = record c { strong = c.strong - 1; owed = owed_if last p Deinit c.owed }
with_one_less p Unowned last c = record c { unowned = c.unowned - 1; owed = owed_if last p Vacating c.owed }
with_one_less p Weak last c = record c { weak = c.weak - 1; entry = none_if last c.entry }

abbrev pub without_strongs : ℕ → Bool → Counted → Counted
without_strongs p last c = record c { unowned = c.unowned - 1; owed = owed_if last p Vacating None }

abbrev pub vacated_by : ℕ → Option ℕ → Counted → Counted
vacated_by p None c = record c { slot = None; owed = None; weak = c.weak - 1 }
vacated_by p (Some e) c = record c { slot = None; owed = owing p Gone }

abbrev pub without_slot : ℕ → Counted → Counted
without_slot p c = vacated_by p c.entry c

abbrev pub without_unowneds : Bool → Counted → Counted
without_unowneds last c = record c { weak = c.weak - 1; owed = None; entry = none_if last c.entry }

abbrev pub entered : ℕ → Counted → Counted
entered e c = record c { entry = Some e }
