-- Worked histories, each legal, and each refused with one event left out or out of its place, judged by computing.
use Rattle.std.proofs.Common.{◌≡◌, List, [], ◌∷◌, Some, None, refl, true, false}
use Rattle.arc_model.specs.declared.event.CellName.TheVariants as cells
use Rattle.arc_model.specs.declared.event.Origin.TheVariants as origins
use Rattle.arc_model.specs.declared.event.Got.TheVariants as got
use Rattle.arc_model.specs.declared.event.Act.TheVariants as acts
use Rattle.arc_model.specs.declared.event.Event.{Event}
use Rattle.arc_model.specs.declared.event.Illegal.TheVariants.{NotHeld, NoSuchObject, NotTaken, WrongAnswer, Duty}
use Rattle.arc_model.specs.declared.shape.Kind.TheVariants.{Strong, Unowned, Weak}
use Rattle.arc_model.specs.Shapes.{HeapShape}
use Rattle.arc_model.specs.declared.event.Life.TheVariants.{Live}
use Rattle.std.specs.Prelude.{option_map}
use Rattle.arc_model.specs.Heaps.{Forever}
use Rattle.arc_model.specs.Holders.{at_slot}
use Rattle.arc_model.specs.Life.{life_of}
use Rattle.arc_model.specs.Laws.{strong_list}
use Rattle.arc_model.specs.History.{heap_after, IsLegal}
use Rattle.arc_model.proofs.Judged.{mortal, undying, by_main, by_one, by_two, onto, without, exchanged, moved, Refused, legal_onto}

-- one slot, one entry, one class without fields; the greatest caps
abbrev plain : HeapShape
plain = record { slots = 1; entries = 1; caps = record { strong = 1073741823; unowned = 2147483647; wide = 4294967295 }; classes = mortal [] ∷ []; globals = [] }

-- One object, made and dropped.
abbrev smallest_life : List Event
smallest_life =
    by_one (acts.New 1 0 0) ∷
    by_one (acts.Drop 1 true) ∷
    by_one (acts.Finish 0 true) ∷
    by_one (acts.Vacate 0) ∷
    []

pub smallest_life_legal : IsLegal plain (onto [] smallest_life)
smallest_life_legal = legal_onto plain 1 [] smallest_life refl tt

-- no drop: the deinit isn't owed
pub smallest_life_broken : Refused plain (without 1 smallest_life) 2 Duty
smallest_life_broken = refl

-- the slot is vacated before the deinit has ended
pub smallest_life_changed : Refused plain (exchanged 2 smallest_life) 3 Duty
smallest_life_changed = refl

abbrev strong_cap_one_shape : HeapShape
strong_cap_one_shape = record { slots = 1; entries = 1; caps = record { strong = 1; unowned = 10; wide = 10 }; classes = mortal [] ∷ []; globals = [] }

-- A strong cap of 1: the second copy moves the object to an entry.
abbrev strong_cap_one : List Event
strong_cap_one =
    by_one (acts.New 1 0 0) ∷
    by_one (acts.Copy (origins.Hand 1) 2) ∷
    by_one (acts.Claim 0) ∷
    by_one (acts.Side 0 0 Strong) ∷
    by_one (acts.Copy (origins.Hand 1) 3) ∷
    by_one (acts.Drop 1 false) ∷
    by_one (acts.Drop 2 false) ∷
    by_one (acts.Drop 3 true) ∷
    by_one (acts.Finish 0 true) ∷
    by_one (acts.Vacate 0) ∷
    by_one (acts.Gone 0 true) ∷
    by_one (acts.Back 0) ∷
    []

pub strong_cap_one_legal : IsLegal strong_cap_one_shape (onto [] strong_cap_one)
strong_cap_one_legal = legal_onto strong_cap_one_shape 1 [] strong_cap_one refl tt

-- no claim: the entry isn't the thread's
pub strong_cap_one_broken : Refused strong_cap_one_shape (without 2 strong_cap_one) 3 Duty
strong_cap_one_broken = refl

-- the copy comes first: the strong list is past its cap
pub strong_cap_one_changed : Refused strong_cap_one_shape (exchanged 3 strong_cap_one) 5 WrongAnswer
strong_cap_one_changed = refl

abbrev unowned_cap_after_deinit_shape : HeapShape
unowned_cap_after_deinit_shape = record { slots = 1; entries = 1; caps = record { strong = 10; unowned = 2; wide = 11 }; classes = mortal [] ∷ []; globals = [] }

-- The unowned cap is met after deinit: the object moves to an entry while it is no longer live.
abbrev unowned_cap_after_deinit : List Event
unowned_cap_after_deinit =
    by_one (acts.New 1 0 0) ∷
    by_one (acts.UnownedOf 1 2) ∷
    by_one (acts.Drop 1 true) ∷
    by_one (acts.Finish 0 false) ∷
    by_one (acts.Copy (origins.Hand 2) 3) ∷
    by_one (acts.Claim 0) ∷
    by_one (acts.Side 0 0 Unowned) ∷
    by_one (acts.Copy (origins.Hand 2) 4) ∷
    by_one (acts.Drop 2 false) ∷
    by_one (acts.Drop 3 false) ∷
    by_one (acts.Drop 4 true) ∷
    by_one (acts.Vacate 0) ∷
    by_one (acts.Gone 0 true) ∷
    by_one (acts.Back 0) ∷
    []

pub unowned_cap_after_deinit_legal : IsLegal unowned_cap_after_deinit_shape (onto [] unowned_cap_after_deinit)
unowned_cap_after_deinit_legal = legal_onto unowned_cap_after_deinit_shape 1 [] unowned_cap_after_deinit refl tt

-- no unowned reference: Strongs is the last holder
pub unowned_cap_after_deinit_broken : Refused unowned_cap_after_deinit_shape (without 1 unowned_cap_after_deinit) 3 WrongAnswer
unowned_cap_after_deinit_broken = refl

-- the copy comes first: the unowned list is past its cap
pub unowned_cap_after_deinit_changed : Refused unowned_cap_after_deinit_shape (exchanged 6 unowned_cap_after_deinit) 8 WrongAnswer
unowned_cap_after_deinit_changed = refl

-- A weak load after the last strong drop gives nil; the entry stays taken until the weak reference goes.
abbrev weak_load_after_last_drop : List Event
weak_load_after_last_drop =
    by_one (acts.New 1 0 0) ∷
    by_one (acts.Claim 0) ∷
    by_one (acts.Side 0 0 Weak) ∷
    by_one (acts.WeakOf 1 2) ∷
    by_one (acts.Drop 1 true) ∷
    by_one (acts.Finish 0 true) ∷
    by_one (acts.Vacate 0) ∷
    by_one (acts.Gone 0 false) ∷
    by_one (acts.Load 2 got.Nil) ∷
    by_one (acts.Drop 2 true) ∷
    by_one (acts.Back 0) ∷
    []

pub weak_load_after_last_drop_legal : IsLegal plain (onto [] weak_load_after_last_drop)
weak_load_after_last_drop_legal = legal_onto plain 1 [] weak_load_after_last_drop refl tt

-- the entry isn't published: there is none to count the weak reference in
pub weak_load_after_last_drop_broken : Refused plain (without 2 weak_load_after_last_drop) 3 NoSuchObject
weak_load_after_last_drop_broken = refl

-- nil while the object is live
pub weak_load_after_last_drop_changed : Refused plain (moved 8 4 weak_load_after_last_drop) 5 WrongAnswer
weak_load_after_last_drop_changed = refl

-- An unowned load after deinit gives dead, and the slot stays taken.
abbrev unowned_load_after_deinit : List Event
unowned_load_after_deinit =
    by_one (acts.New 1 0 0) ∷
    by_one (acts.UnownedOf 1 2) ∷
    by_one (acts.Drop 1 true) ∷
    by_one (acts.Finish 0 false) ∷
    by_one (acts.Load 2 got.Dead) ∷
    by_one acts.Full ∷
    by_one (acts.Drop 2 true) ∷
    by_one (acts.Vacate 0) ∷
    []

pub unowned_load_after_deinit_legal : IsLegal plain (onto [] unowned_load_after_deinit)
unowned_load_after_deinit_legal = legal_onto plain 1 [] unowned_load_after_deinit refl tt

-- the deinit hasn't ended: Strongs is an unowned holder
pub unowned_load_after_deinit_broken : Refused plain (without 3 unowned_load_after_deinit) 6 WrongAnswer
unowned_load_after_deinit_broken = refl

-- full before any slot was taken
pub unowned_load_after_deinit_changed : Refused plain (moved 5 0 unowned_load_after_deinit) 1 NotTaken
unowned_load_after_deinit_changed = refl

abbrev weak_load_of_another_thread_shape : HeapShape
weak_load_of_another_thread_shape = record { slots = 1; entries = 1; caps = record { strong = 1073741823; unowned = 2147483647; wide = 4294967295 }; classes = mortal [] ∷ []; globals = record { kind = Weak; class = 0 } ∷ [] }

-- One thread loads a weak reference while another drops: the loader drops the last strong reference.
abbrev weak_load_of_another_thread : List Event
weak_load_of_another_thread =
    by_one (acts.New 1 0 0) ∷
    by_one (acts.Claim 0) ∷
    by_one (acts.Side 0 0 Weak) ∷
    by_one (acts.WeakOf 1 2) ∷
    by_one (acts.Swap (cells.Global 0) (Some 2) None) ∷
    by_two (acts.Copy (origins.Cell (cells.Global 0)) 1) ∷
    by_two (acts.Load 1 (got.Hand 2)) ∷
    by_one (acts.Drop 1 false) ∷
    by_two (acts.Drop 1 false) ∷
    by_two (acts.Drop 2 true) ∷
    by_two (acts.Finish 0 true) ∷
    by_two (acts.Vacate 0) ∷
    by_two (acts.Gone 0 false) ∷
    by_main (acts.Swap (cells.Global 0) None (Some 1)) ∷
    by_main (acts.Drop 1 true) ∷
    by_main (acts.Back 0) ∷
    []

pub weak_load_of_another_thread_legal : IsLegal weak_load_of_another_thread_shape (onto [] weak_load_of_another_thread)
weak_load_of_another_thread_legal = legal_onto weak_load_of_another_thread_shape 1 [] weak_load_of_another_thread refl tt

-- finish before the drop that owes the deinit
pub weak_load_of_another_thread_broken : Refused weak_load_of_another_thread_shape (exchanged 9 weak_load_of_another_thread) 10 Duty
weak_load_of_another_thread_broken = refl

-- without the load the other drop is the last
pub weak_load_of_another_thread_changed : Refused weak_load_of_another_thread_shape (without 6 weak_load_of_another_thread) 7 WrongAnswer
weak_load_of_another_thread_changed = refl

abbrev lost_publish_shape : HeapShape
lost_publish_shape = record { slots = 1; entries = 2; caps = record { strong = 1073741823; unowned = 2147483647; wide = 4294967295 }; classes = mortal [] ∷ []; globals = record { kind = Strong; class = 0 } ∷ [] }

-- Two threads claim an entry for one object; one publishes its own and the other gives its own back.
abbrev lost_publish : List Event
lost_publish =
    by_one (acts.New 1 0 0) ∷
    by_one (acts.Copy (origins.Hand 1) 2) ∷
    by_one (acts.Swap (cells.Global 0) (Some 2) None) ∷
    by_two (acts.Copy (origins.Cell (cells.Global 0)) 1) ∷
    by_one (acts.Claim 0) ∷
    by_two (acts.Claim 1) ∷
    by_two (acts.Side 0 1 Weak) ∷
    by_one (acts.WeakOf 1 3) ∷
    by_one (acts.Back 0) ∷
    by_one (acts.Drop 1 false) ∷
    by_one (acts.Drop 3 false) ∷
    by_two (acts.WeakOf 1 2) ∷
    by_two (acts.Drop 1 false) ∷
    by_two (acts.Drop 2 false) ∷
    by_main (acts.Swap (cells.Global 0) None (Some 1)) ∷
    by_main (acts.Drop 1 true) ∷
    by_main (acts.Finish 0 true) ∷
    by_main (acts.Vacate 0) ∷
    by_main (acts.Gone 1 true) ∷
    by_main (acts.Back 1) ∷
    []

pub lost_publish_legal : IsLegal lost_publish_shape (onto [] lost_publish)
lost_publish_legal = legal_onto lost_publish_shape 1 [] lost_publish refl tt

-- nobody publishes: there is no entry for the weak reference
pub lost_publish_broken : Refused lost_publish_shape (without 6 lost_publish) 7 NoSuchObject
lost_publish_broken = refl

-- nothing was put into the global
pub lost_publish_changed : Refused lost_publish_shape (without 2 lost_publish) 3 NotHeld
lost_publish_changed = refl

abbrev swap_beside_copy_shape : HeapShape
swap_beside_copy_shape = record { slots = 1; entries = 1; caps = record { strong = 1073741823; unowned = 2147483647; wide = 4294967295 }; classes = mortal [] ∷ []; globals = record { kind = Strong; class = 0 } ∷ [] }

-- A global is swapped out between another thread's copy and the drops.
abbrev swap_beside_copy : List Event
swap_beside_copy =
    by_one (acts.New 1 0 0) ∷
    by_one (acts.Swap (cells.Global 0) (Some 1) None) ∷
    by_two (acts.Copy (origins.Cell (cells.Global 0)) 1) ∷
    by_one (acts.Swap (cells.Global 0) None (Some 2)) ∷
    by_one (acts.Drop 2 false) ∷
    by_two (acts.Drop 1 true) ∷
    by_two (acts.Finish 0 true) ∷
    by_two (acts.Vacate 0) ∷
    by_main (acts.Swap (cells.Global 0) None None) ∷
    []

pub swap_beside_copy_legal : IsLegal swap_beside_copy_shape (onto [] swap_beside_copy)
swap_beside_copy_legal = legal_onto swap_beside_copy_shape 1 [] swap_beside_copy refl tt

-- nothing was put into the global
pub swap_beside_copy_broken : Refused swap_beside_copy_shape (without 1 swap_beside_copy) 2 NotHeld
swap_beside_copy_broken = refl

-- the drops change places: the first isn't the last
pub swap_beside_copy_changed : Refused swap_beside_copy_shape (exchanged 4 swap_beside_copy) 5 WrongAnswer
swap_beside_copy_changed = refl

-- one slot, and one class, which is immortal; the least caps
abbrev immortal_shape : HeapShape
immortal_shape = record { slots = 1; entries = 1; caps = record { strong = 0; unowned = 1; wide = 1 }; classes = undying ∷ []; globals = [] }

-- An immortal object: past each cap it gains references, and none that is dropped is its last. Its slot stays taken.
abbrev immortal : List Event
immortal =
    by_one (acts.New 1 0 0) ∷
    by_one (acts.Copy (origins.Hand 1) 2) ∷
    by_one (acts.UnownedOf 2 3) ∷
    by_one (acts.Drop 1 false) ∷
    by_one (acts.Drop 2 false) ∷
    by_one (acts.Load 3 (got.Hand 4)) ∷
    by_one (acts.Drop 4 false) ∷
    by_one (acts.Drop 3 false) ∷
    by_one acts.Full ∷
    []

pub immortal_legal : IsLegal immortal_shape (onto [] immortal)
immortal_legal = legal_onto immortal_shape 1 [] immortal refl tt

-- it is live, by the strong holder that never goes
pub immortal_lives :
    (option_map (life_of immortal_shape) (at_slot 0 (heap_after (onto [] immortal))) ≡ Some Live)
    × (strong_list immortal_shape 0 (heap_after (onto [] immortal)) ≡ Forever ∷ [])
immortal_lives = (refl, refl)

-- no copy: hand 2 isn't there
pub immortal_broken : Refused immortal_shape (without 1 immortal) 2 NotHeld
immortal_broken = refl

-- of a class that isn't immortal the copy is past the cap
pub immortal_changed : Refused (record immortal_shape { classes = mortal [] ∷ [] }) immortal 2 WrongAnswer
immortal_changed = refl
