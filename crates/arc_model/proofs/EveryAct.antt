-- One legal history in which every act occurs with every outcome, judged by computing.
use Rattle.std.proofs.Common.{List, [], ◌∷◌, Some, None, refl, true, false}
use Rattle.arc_model.specs.declared.event.CellName.TheVariants as cells
use Rattle.arc_model.specs.declared.event.Origin.TheVariants as origins
use Rattle.arc_model.specs.declared.event.Got.TheVariants as got
use Rattle.arc_model.specs.declared.event.Act.TheVariants as acts
use Rattle.arc_model.specs.declared.event.Event.{Event}
use Rattle.arc_model.specs.declared.shape.Kind.TheVariants.{Strong, Unowned, Weak}
use Rattle.arc_model.specs.Shapes.{HeapShape}
use Rattle.arc_model.specs.History.{IsLegal}
use Rattle.arc_model.proofs.Judged.{mortal, by_one, by_two, onto, legal_onto}

-- two slots, two entries, small caps; class 0 has a field of each kind and class 1 none; a global of each kind
abbrev pub small : HeapShape
small = record { slots = 2; entries = 2; caps = record { strong = 1; unowned = 2; wide = 3 }; classes = mortal (record { kind = Strong; class = 1 } ∷ record { kind = Unowned; class = 0 } ∷ record { kind = Weak; class = 0 } ∷ []) ∷ mortal [] ∷ []; globals = record { kind = Strong; class = 0 } ∷ record { kind = Unowned; class = 0 } ∷ record { kind = Weak; class = 0 } ∷ [] }

-- each act with each outcome: copies from a hand, a global and a field, loads that give an object, dead and nil, drops that
-- are the last of each list and that are not, an entry published for each list, swaps with and without a hand on each side
abbrev pub every_act : List Event
every_act =
    by_one (acts.New 1 0 0) ∷
    by_one (acts.New 2 1 1) ∷
    by_one acts.Full ∷
    by_one (acts.Look (cells.Global 0)) ∷
    by_one (acts.Swap (cells.Global 0) None None) ∷
    by_one (acts.Copy (origins.Hand 1) 3) ∷
    by_one (acts.Claim 0) ∷
    by_one (acts.Side 0 0 Strong) ∷
    by_one (acts.Copy (origins.Hand 1) 4) ∷
    by_one (acts.CountFull Strong (origins.Hand 4)) ∷
    by_one (acts.Swap (cells.Global 0) (Some 3) None) ∷
    by_one (acts.CountFull Strong (origins.Cell (cells.Global 0))) ∷
    by_two (acts.Claim 1) ∷
    by_two acts.NoEntry ∷
    by_two (acts.Back 1) ∷
    by_one (acts.WeakOf 1 5) ∷
    by_one (acts.UnownedOf 1 6) ∷
    by_one (acts.Look (cells.Field 0 2)) ∷
    by_one (acts.Swap (cells.Global 2) (Some 5) None) ∷
    by_two (acts.Copy (origins.Cell (cells.Global 2)) 1) ∷
    by_one (acts.Drop 4 false) ∷
    by_two (acts.Load 1 (got.Hand 2)) ∷
    by_one (acts.Swap (cells.Field 0 1) (Some 6) None) ∷
    by_one (acts.Copy (origins.Cell (cells.Field 0 1)) 7) ∷
    by_one (acts.CountFull Unowned (origins.Cell (cells.Field 0 1))) ∷
    by_one (acts.Swap (cells.Global 0) (Some 1) (Some 8)) ∷
    by_one (acts.Swap (cells.Global 0) None (Some 9)) ∷
    by_one (acts.Swap (cells.Field 0 0) (Some 2) None) ∷
    by_one (acts.Claim 1) ∷
    by_one (acts.Side 1 1 Weak) ∷
    by_one (acts.Drop 9 false) ∷
    by_one (acts.Drop 8 false) ∷
    by_two (acts.Drop 2 true) ∷
    by_two (acts.Take 0 0 3) ∷
    by_two (acts.Drop 3 true) ∷
    by_two (acts.Finish 1 true) ∷
    by_two (acts.Vacate 1) ∷
    by_two (acts.Gone 1 true) ∷
    by_two (acts.Back 1) ∷
    by_two (acts.Take 0 1 4) ∷
    by_two (acts.Drop 4 false) ∷
    by_two (acts.Finish 0 false) ∷
    by_one (acts.Load 7 got.Dead) ∷
    by_one (acts.Drop 7 true) ∷
    by_one (acts.Vacate 0) ∷
    by_one (acts.Gone 0 false) ∷
    by_two (acts.Load 1 got.Nil) ∷
    by_one (acts.Swap (cells.Global 2) None (Some 10)) ∷
    by_one (acts.Drop 10 false) ∷
    by_two (acts.Drop 1 true) ∷
    by_two (acts.Back 0) ∷
    by_one (acts.New 11 1 0) ∷
    by_one (acts.UnownedOf 11 12) ∷
    by_one (acts.Load 12 (got.Hand 13)) ∷
    by_one (acts.Drop 13 false) ∷
    by_one (acts.Claim 0) ∷
    by_one (acts.Side 0 0 Unowned) ∷
    by_one (acts.Drop 12 false) ∷
    by_one (acts.Drop 11 true) ∷
    by_one (acts.Finish 0 true) ∷
    by_one (acts.Vacate 0) ∷
    by_one (acts.Gone 0 true) ∷
    by_one (acts.Back 0) ∷
    by_one (acts.New 14 1 1) ∷
    by_one (acts.Drop 14 true) ∷
    by_one (acts.Finish 1 true) ∷
    by_one (acts.Vacate 1) ∷
    []

pub every_act_legal : IsLegal small (onto [] every_act)
every_act_legal = legal_onto small 1 [] every_act refl tt
