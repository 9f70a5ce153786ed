-- For each need of each act an event that fails first there, by its place in the row and its number, judged by computing.
-- The number before an event says after how many events of `every_act` it is tried.
use Rattle.std.proofs.Common.{◌≡◌, ℕ, List, [], ◌∷◌, Some, None, refl, true, false}
use Rattle.arc_model.specs.declared.event.CellName.TheVariants as cells
use Rattle.arc_model.specs.declared.event.Origin.TheVariants as origins
use Rattle.arc_model.specs.declared.event.Got.TheVariants as got
use Rattle.arc_model.specs.declared.event.Act.TheVariants as acts
use Rattle.arc_model.specs.declared.event.Event.{Event}
use Rattle.arc_model.specs.declared.event.Illegal.TheVariants.{NotHeld, NoSuchObject, Taken, NotTaken, WrongAnswer, Duty}
use Rattle.arc_model.specs.declared.shape.Kind.TheVariants.{Strong, Unowned, Weak}
use Rattle.arc_model.specs.declared.event.Illegal.{Illegal}
use Rattle.arc_model.specs.History.{judge}
use Rattle.arc_model.specs.Shapes.{HeapShape}
use Rattle.arc_model.proofs.Judged.{undying, by_one, by_two, onto, first, Fails}
use Rattle.arc_model.proofs.EveryAct.{small, every_act}

abbrev After : ℕ → Event → ℕ → Illegal → Type 0
After n e i why = Fails small (first n every_act) e i why

-- an object, and an entry that is claimed
abbrev claimed_early : List Event
claimed_early =
    by_one (acts.New 1 0 0) ∷
    by_one (acts.Claim 0) ∷
    []

-- the same, and the object has lost its last strong holder
abbrev dying : List Event
dying =
    by_one (acts.New 1 0 0) ∷
    by_one (acts.Claim 0) ∷
    by_one (acts.Drop 1 true) ∷
    []

pub new :
    (After 1 (by_one (acts.New 3 1 1)) 0 Taken)
    × (After 0 (by_one (acts.New 0 1 1)) 0 Taken)
    × (After 1 (by_one (acts.New 2 1 0)) 1 Taken)
new = ((refl, refl), (refl, refl), (refl, refl))

pub full :
    (After 1 (by_one acts.Full) 0 NotTaken)
    × (After 45 (by_one acts.Full) 0 NotTaken)
    × (After 37 (by_two acts.Full) 0 NotTaken)
full = ((refl, refl), (refl, refl), (refl, refl))

pub copy_hand :
    (After 6 (by_one (acts.Copy (origins.Hand 9) 4)) 0 NotHeld)
    × (After 6 (by_two (acts.Copy (origins.Hand 1) 1)) 0 NotHeld)
    × (After 6 (by_one (acts.Copy (origins.Hand 1) 5)) 1 Taken)
    × (After 9 (by_one (acts.Copy (origins.Hand 1) 5)) 2 WrongAnswer)
copy_hand = ((refl, refl), (refl, refl), (refl, refl), (refl, refl))

pub copy_field :
    (After 1 (by_one (acts.Copy (origins.Cell (cells.Field 1 0)) 2)) 0 NoSuchObject)
    × (After 2 (by_one (acts.Copy (origins.Cell (cells.Field 1 0)) 3)) 1 NoSuchObject)
    × (After 2 (by_one (acts.Copy (origins.Cell (cells.Field 0 3)) 3)) 1 NoSuchObject)
    × (After 2 (by_two (acts.Copy (origins.Cell (cells.Field 0 0)) 1)) 2 NotHeld)
    × (After 2 (by_one (acts.Copy (origins.Cell (cells.Field 0 0)) 3)) 3 NotHeld)
    × (After 23 (by_one (acts.Copy (origins.Cell (cells.Field 0 1)) 9)) 4 Taken)
    × (After 24 (by_one (acts.Copy (origins.Cell (cells.Field 0 1)) 8)) 5 WrongAnswer)
copy_field = ((refl, refl), (refl, refl), (refl, refl), (refl, refl), (refl, refl), (refl, refl), (refl, refl))

pub copy_global :
    (After 4 (by_one (acts.Copy (origins.Cell (cells.Global 0)) 3)) 0 NotHeld)
    × (After 11 (by_two (acts.Copy (origins.Cell (cells.Global 0)) 2)) 1 Taken)
    × (After 11 (by_two (acts.Copy (origins.Cell (cells.Global 0)) 1)) 2 WrongAnswer)
copy_global = ((refl, refl), (refl, refl), (refl, refl))

pub unowned_of :
    (After 17 (by_one (acts.UnownedOf 6 7)) 0 NotHeld)
    × (After 16 (by_one (acts.UnownedOf 1 7)) 1 Taken)
    × (After 24 (by_one (acts.UnownedOf 1 8)) 2 WrongAnswer)
unowned_of = ((refl, refl), (refl, refl), (refl, refl))

pub weak_of :
    (After 16 (by_one (acts.WeakOf 5 6)) 0 NotHeld)
    × (After 6 (by_one (acts.WeakOf 1 4)) 1 NoSuchObject)
    × (After 6 (by_one (acts.WeakOf 1 9)) 1 NoSuchObject)
    × (After 8 (by_one (acts.WeakOf 1 5)) 2 Taken)
    × (After 20 (by_one (acts.WeakOf 1 7)) 3 WrongAnswer)
weak_of = ((refl, refl), (refl, refl), (refl, refl), (refl, refl), (refl, refl))

pub load :
    (After 6 (by_one (acts.Load 1 (got.Hand 4))) 0 NotHeld)
    × (After 21 (by_two (acts.Load 1 (got.Hand 5))) 1 Taken)
    × (After 20 (by_two (acts.Load 1 (got.Hand 2))) 2 WrongAnswer)
    × (After 33 (by_two (acts.Load 1 (got.Hand 3))) 2 WrongAnswer)
    × (After 33 (by_one (acts.Load 7 (got.Hand 10))) 2 WrongAnswer)
load = ((refl, refl), (refl, refl), (refl, refl), (refl, refl), (refl, refl))

pub load_dead :
    (After 20 (by_two (acts.Load 1 got.Dead)) 0 NotHeld)
    × (After 17 (by_one (acts.Load 6 got.Dead)) 1 WrongAnswer)
load_dead = ((refl, refl), (refl, refl))

pub load_nil :
    (After 17 (by_one (acts.Load 6 got.Nil)) 0 NotHeld)
    × (After 20 (by_two (acts.Load 1 got.Nil)) 1 WrongAnswer)
load_nil = ((refl, refl), (refl, refl))

pub drop :
    (After 5 (by_one (acts.Drop 3 false)) 0 NotHeld)
    × (After 5 (by_one (acts.Drop 0 true)) 0 NotHeld)
    × (After 6 (by_one (acts.Drop 1 true)) 1 WrongAnswer)
    × (After 5 (by_one (acts.Drop 1 false)) 1 WrongAnswer)
drop = ((refl, refl), (refl, refl), (refl, refl), (refl, refl))

pub count_full_hand :
    (After 9 (by_one (acts.CountFull Strong (origins.Hand 5))) 0 NotHeld)
    × (After 8 (by_one (acts.CountFull Strong (origins.Hand 1))) 1 WrongAnswer)
count_full_hand = ((refl, refl), (refl, refl))

pub count_full_field :
    (After 1 (by_one (acts.CountFull Strong (origins.Cell (cells.Field 1 0)))) 0 NoSuchObject)
    × (After 2 (by_one (acts.CountFull Strong (origins.Cell (cells.Field 1 0)))) 1 NoSuchObject)
    × (After 2 (by_two (acts.CountFull Strong (origins.Cell (cells.Field 0 0)))) 2 NotHeld)
    × (After 2 (by_one (acts.CountFull Strong (origins.Cell (cells.Field 0 0)))) 3 NotHeld)
    × (After 23 (by_one (acts.CountFull Unowned (origins.Cell (cells.Field 0 1)))) 4 WrongAnswer)
count_full_field = ((refl, refl), (refl, refl), (refl, refl), (refl, refl), (refl, refl))

pub count_full_global :
    (After 4 (by_one (acts.CountFull Strong (origins.Cell (cells.Global 0)))) 0 NotHeld)
    × (After 21 (by_one (acts.CountFull Strong (origins.Cell (cells.Global 0)))) 1 WrongAnswer)
count_full_global = ((refl, refl), (refl, refl))

pub claim :
    (After 7 (by_two (acts.Claim 0)) 0 Taken)
    × (After 8 (by_two (acts.Claim 0)) 0 Taken)
claim = ((refl, refl), (refl, refl))

pub no_entry :
    (After 7 (by_one acts.NoEntry) 0 NotTaken)
    × (After 39 (by_two acts.NoEntry) 0 NotTaken)
no_entry = ((refl, refl), (refl, refl))

pub side :
    (Fails small claimed_early (by_one (acts.Side 1 0 Strong)) 0 NoSuchObject)
    × (After 7 (by_two (acts.Side 0 0 Strong)) 1 Duty)
    × (After 29 (by_one (acts.Side 0 1 Strong)) 2 Taken)
    × (After 7 (by_one (acts.Side 1 0 Strong)) 3 WrongAnswer)
    × (After 7 (by_one (acts.Side 0 0 Unowned)) 3 WrongAnswer)
    × (Fails small dying (by_one (acts.Side 0 0 Weak)) 3 WrongAnswer)
    × (Fails small dying (by_one (acts.Side 0 0 Strong)) 3 WrongAnswer)
side = ((refl, refl), (refl, refl), (refl, refl), (refl, refl), (refl, refl), (refl, refl), (refl, refl))

pub back :
    (After 7 (by_two (acts.Back 0)) 0 Duty)
    × (After 8 (by_one (acts.Back 0)) 0 Duty)
back = ((refl, refl), (refl, refl))

pub swap_field :
    (After 1 (by_one (acts.Swap (cells.Field 1 0) (Some 1) None)) 0 NoSuchObject)
    × (After 2 (by_one (acts.Swap (cells.Field 1 0) (Some 1) None)) 1 NoSuchObject)
    × (After 2 (by_two (acts.Swap (cells.Field 0 0) None None)) 2 NotHeld)
    × (After 2 (by_one (acts.Swap (cells.Field 0 0) (Some 5) None)) 3 NotHeld)
    × (After 17 (by_one (acts.Swap (cells.Field 0 0) (Some 6) None)) 3 NotHeld)
    × (After 24 (by_one (acts.Swap (cells.Field 0 1) None (Some 9))) 4 Taken)
    × (After 24 (by_one (acts.Swap (cells.Field 0 1) None None)) 5 WrongAnswer)
    × (After 2 (by_one (acts.Swap (cells.Field 0 0) (Some 2) (Some 3))) 5 WrongAnswer)
swap_field = ((refl, refl), (refl, refl), (refl, refl), (refl, refl), (refl, refl), (refl, refl), (refl, refl), (refl, refl))

pub swap_global :
    (After 5 (by_one (acts.Swap (cells.Global 1) (Some 1) None)) 0 NotHeld)
    × (After 11 (by_one (acts.Swap (cells.Global 0) (Some 1) (Some 9))) 1 Taken)
    × (After 11 (by_one (acts.Swap (cells.Global 0) (Some 1) None)) 2 WrongAnswer)
    × (After 5 (by_one (acts.Swap (cells.Global 0) (Some 1) (Some 4))) 1 Taken)
    × (After 5 (by_one (acts.Swap (cells.Global 0) (Some 1) (Some 3))) 2 WrongAnswer)
swap_global = ((refl, refl), (refl, refl), (refl, refl), (refl, refl), (refl, refl))

pub look_field :
    (After 1 (by_one (acts.Look (cells.Field 1 0))) 0 NoSuchObject)
    × (After 2 (by_one (acts.Look (cells.Field 1 0))) 1 NoSuchObject)
    × (After 2 (by_two (acts.Look (cells.Field 0 0))) 2 NotHeld)
    × (After 23 (by_one (acts.Look (cells.Field 0 1))) 3 WrongAnswer)
look_field = ((refl, refl), (refl, refl), (refl, refl), (refl, refl))

pub look_global : After 11 (by_one (acts.Look (cells.Global 0))) 0 WrongAnswer
look_global = (refl, refl)

pub take :
    (After 37 (by_two (acts.Take 1 0 4)) 0 NoSuchObject)
    × (After 35 (by_two (acts.Take 1 0 4)) 1 NoSuchObject)
    × (After 33 (by_one (acts.Take 0 0 10)) 2 Duty)
    × (After 33 (by_two (acts.Take 0 1 3)) 2 Duty)
    × (After 34 (by_two (acts.Take 0 0 4)) 3 NotHeld)
    × (After 33 (by_two (acts.Take 0 0 4)) 4 Taken)
take = ((refl, refl), (refl, refl), (refl, refl), (refl, refl), (refl, refl), (refl, refl))

pub finish :
    (After 37 (by_two (acts.Finish 1 true)) 0 NoSuchObject)
    × (After 33 (by_two (acts.Finish 0 false)) 1 Duty)
    × (After 35 (by_one (acts.Finish 1 true)) 1 Duty)
    × (After 41 (by_two (acts.Finish 0 true)) 2 WrongAnswer)
    × (After 35 (by_two (acts.Finish 1 false)) 2 WrongAnswer)
finish = ((refl, refl), (refl, refl), (refl, refl), (refl, refl), (refl, refl))

pub vacate :
    (After 37 (by_two (acts.Vacate 1)) 0 NoSuchObject)
    × (After 36 (by_one (acts.Vacate 1)) 1 Duty)
    × (After 35 (by_two (acts.Vacate 1)) 1 Duty)
vacate = ((refl, refl), (refl, refl), (refl, refl))

pub gone :
    (After 38 (by_two (acts.Gone 1 true)) 0 NoSuchObject)
    × (After 37 (by_one (acts.Gone 1 true)) 1 Duty)
    × (After 36 (by_two (acts.Gone 1 true)) 1 Duty)
    × (After 37 (by_two (acts.Gone 1 false)) 2 WrongAnswer)
    × (After 45 (by_one (acts.Gone 0 true)) 2 WrongAnswer)
gone = ((refl, refl), (refl, refl), (refl, refl), (refl, refl), (refl, refl))

-- `full` and `noentry` look back: at a point since its event before, thread 1 saw each slot in an object and each entry
-- taken, though one of each is free now.
pub looks_back :
    (judge small (onto [] (first 37 every_act)) (by_one acts.Full) ≡ None)
    × (judge small (onto [] (first 39 every_act)) (by_one acts.NoEntry) ≡ None)
    × (judge small (onto [] (first 2 every_act)) (by_one acts.Full) ≡ None)
looks_back = (refl, refl, refl)

-- one slot, and one class, which is immortal
abbrev immortal_shape : HeapShape
immortal_shape = record { slots = 1; entries = 1; caps = record { strong = 0; unowned = 1; wide = 1 }; classes = undying ∷ []; globals = [] }

-- an immortal object with an unowned hand, and an entry that is claimed
abbrev immortal_early : List Event
immortal_early =
    by_one (acts.New 1 0 0) ∷
    by_one (acts.UnownedOf 1 2) ∷
    by_one (acts.Claim 0) ∷
    []

abbrev OfImmortal : Event → ℕ → Illegal → Type 0
OfImmortal e i why = Fails immortal_shape immortal_early e i why

-- what an immortal object isn't fit for: an entry, a full count, a last drop, and a load that doesn't give it
pub immortal :
    OfImmortal (by_one (acts.Side 0 0 Strong)) 0 NoSuchObject
    × OfImmortal (by_one (acts.WeakOf 1 3)) 1 NoSuchObject
    × OfImmortal (by_one (acts.CountFull Strong (origins.Hand 1))) 1 WrongAnswer
    × OfImmortal (by_one (acts.Drop 1 true)) 1 WrongAnswer
    × OfImmortal (by_one (acts.Load 2 got.Dead)) 1 WrongAnswer
immortal = ((refl, refl), (refl, refl), (refl, refl), (refl, refl), (refl, refl))
