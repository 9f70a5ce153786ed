-- The verdict of the index is the judge's of the history.
use Rattle.std.proofs.Common.{◌≡◌, ℕ, ◌<◌, ◌≤◌, Bool, [], ◌∷◌, length, Option, Some, None, refl, sym, ap, ◌∙◌, arith}
use Rattle.std.specs.Prelude.{slice_get, is_some, not, ◌==◌, ◌&&◌, ◌||◌}
use Rattle.arc_model.specs.declared.event.CellName.{CellName}
use Rattle.arc_model.specs.declared.event.CellName.TheVariants as cells
use Rattle.arc_model.specs.declared.event.Got.TheVariants as got
use Rattle.arc_model.specs.declared.event.Act.{Act}
use Rattle.arc_model.specs.declared.event.Act.TheVariants as acts
use Rattle.arc_model.specs.declared.event.Illegal.TheVariants.{NotHeld, NoSuchObject, Taken, NotTaken, WrongAnswer, Duty as WrongDuty}
use Rattle.arc_model.specs.declared.shape.Kind.{Kind}
use Rattle.arc_model.specs.declared.shape.Kind.TheVariants.{Strong, Unowned, Weak}
use Rattle.arc_model.specs.Heaps.{Holder, Hand, Deinit, Vacating, Gone, Object, Heap}
use Rattle.arc_model.specs.Holders.{is_in, is_alone, list_of, list_with, held_by, at_slot, at_entry, is_slot_taken, is_entry_taken, owes_to}
use Rattle.arc_model.specs.Cells.{cell, origin, is_nil, is_immortal, holders_of, holders_with, is_live, has_field, are_nil, fields_of, each_below, same_kind}
use Rattle.arc_model.specs.Needs.{first_failing, reachable, puts, has, takes, passes, has_room, is_at_cap, same_bool}
use Rattle.arc_model.specs.History.{History, heap_after, next_hand, ever_since, sight, judge}
use Rattle.arc_heap_index.specs.declared.counted.Due.TheVariants as due
use Rattle.arc_heap_index.specs.declared.counted.Held.{Held}
use Rattle.arc_heap_index.specs.declared.counted.Found.{Found}
use Rattle.arc_heap_index.specs.Counting.{owes, place_at}
use Rattle.arc_heap_index.specs.Freeing.{Freed, are_seen, is_seen}
use Rattle.arc_heap_judge.specs.Index.{Index, hand_at, cell_at, origin_at, hold, in_slot, with_entry, mark_of, fields_in, immortal_in, alive_in, alone_in, room_in, full_in}
use Rattle.arc_heap_judge.specs.Judging.{meets, has_field_at, reaches, has_it, has_room_for, is_of_kind, gives, gets, are_empty, stands_at_cap, verdict}
use Rattle.arc_heap_judge.specs.Stands.{IsInRange, Looks, StandsFor}
use Rattle.arc_heap_judge.proofs.Told.{LikeFound, AreFound, slot_like, entry_like, LikeHeld}
use Rattle.arc_heap_judge.proofs.Judges.{step, both-then, some-held, meets-held, some-found, meets-found, hand-held, cell-held, origin-held, next-same, field-has, reaches-same, has-same, gives-same, nil-same, room-same, full-same, cap-same, last-same, alive, alone-same, immortal-same, owes-same, claims-same, entry-same, each_below-same, not-not, fields-same}

-- what was seen since
all-seen : (n threads : ℕ) (freed : Freed) (since : ℕ → ℕ) (test : ℕ → Heap → Bool) (h : History) → Looks n threads freed since test h → (p : ℕ) → p < threads → are_seen (since p) freed ≡ each_below n (λ s. ever_since p (test s) h)
all-seen n threads freed since test h looks p l =
    ap (λ m. each_below m (λ s. is_seen (since p) (slice_get freed.states s))) looks.count
    ∙ each_below-same n (λ s. is_seen (since p) (slice_get freed.states s)) (λ s. ever_since p (test s) h) (λ s m. looks.seen p s l m)

not-strong : (k : Kind) → not (same_kind k Strong) ≡ (same_kind k Unowned || same_kind k Weak)
not-strong Strong = refl
not-strong Unowned = refl
not-strong Weak = refl

is-kind : (z : Holder) (ix : Index) (heap : Heap) (k : Kind) (w : Held) (o : Object) → LikeHeld z ix heap w o → is_of_kind k w ≡ is_in z (list_of k o)
is-kind z ix heap k w o like = sym (like.member k)

list-room : (z : Holder) (ix : Index) (heap : Heap) (w : Held) (o : Object) → LikeHeld z ix heap w o → has_room_for ix.shape w ≡ has_room ix.shape o (list_with z o)
list-room z ix heap w o like = room-same ix.shape w.place.kind w.counted o like.like.alike ∙ ap (λ k. has_room ix.shape o (list_of k o)) (sym like.kind_is)

both-and : {a b c d : Bool} → a ≡ b → c ≡ d → (a && c) ≡ (b && d)
both-and {a = a} {b = b} {c = c} {d = d} e f = ap (λ x. x && c) e ∙ ap (λ x. b && x) f

-- p owes the deinit, and the fields below a number are nil
owed-and-nil : (ix : Index) (h : History) → StandsFor ix h → (p s : ℕ) (f : Found → ℕ) (g : Object → ℕ) → s < ix.shape.slots → ((w : Found) (o : Object) → LikeFound ix (heap_after h) w.object w.counted o → f w ≡ g o) → ((o : Object) → g o ≤ 8) →
    (w : Option Found) (o : Option Object) → at_slot s (heap_after h) ≡ o → AreFound ix (heap_after h) w o → meets (λ (w : Found). owes p due.Deinit w.counted && are_empty ix s (f w)) w ≡ passes (λ o. owes_to p Deinit o && are_nil (heap_after h) (g o) o) o
owed-and-nil ix h st p s f g l same few None None is like = refl
owed-and-nil ix h st p s f g l same few (Some w) None is like = absurd like
owed-and-nil ix h st p s f g l same few None (Some o) is like = absurd like
owed-and-nil ix h st p s f g l same few (Some w) (Some o) is like =
    both-and (owes-same p due.Deinit w.counted o like.alike) (ap (are_empty ix s) (same w o like) ∙ nil-same ix h st s (g o) o l (few o) is)

pub judged-is : (ix : Index) (h : History) → StandsFor ix h → (p : ℕ) (act : Act) → p < length ix.marks → IsInRange ix.shape act → verdict ix p act ≡ judge ix.shape h (record { thread = p; act = act })
judged-is ix h st p (acts.New k c s) l range =
    step Taken (next-same ix h st p k l) (step Taken (ap not (some-found ix (heap_after h) (in_slot ix s) (at_slot s (heap_after h)) (slot_like ix (heap_after h) st.tells s))) refl)
judged-is ix h st p acts.Full l range = step NotTaken (all-seen ix.shape.slots (length ix.marks) ix.slots (λ q. (mark_of ix q).slots) is_slot_taken h st.slots p l) refl
judged-is ix h st p (acts.Copy from k) l range =
    let heap = heap_after h in
    let z = origin heap p from in
    both-then (has_it ix p from) (has ix.shape heap p from) ((k == next_hand p h, Taken) ∷ (passes (λ o. has_room ix.shape o (list_with z o)) (held_by z heap), WrongAnswer) ∷ []) _
    (has-same ix h st p from l range)
    (step Taken (next-same ix h st p k l)
    (step WrongAnswer (meets-held z ix heap (has_room_for ix.shape) (λ o. has_room ix.shape o (list_with z o)) (hold ix (origin_at ix p from)) (held_by z heap) (origin-held ix h st p from l range) (list-room z ix heap)) refl))
judged-is ix h st p (acts.UnownedOf n k) l range =
    let heap = heap_after h in
    let z : Holder = Hand p n in
    let like = hand-held ix h st p n l in
    step NotHeld (meets-held z ix heap (is_of_kind Strong) (λ o. is_in z o.strong) (hold ix (hand_at ix p n)) (held_by z heap) like (is-kind z ix heap Strong))
    (step Taken (next-same ix h st p k l)
    (step WrongAnswer (meets-held z ix heap (λ (w : Held). room_in ix.shape Unowned w.counted) (λ o. has_room ix.shape o o.unowned) (hold ix (hand_at ix p n)) (held_by z heap) like (λ w o m. room-same ix.shape Unowned w.counted o m.like.alike)) refl))
judged-is ix h st p (acts.WeakOf n k) l range =
    let heap = heap_after h in
    let z : Holder = Hand p n in
    let like = hand-held ix h st p n l in
    step NotHeld (meets-held z ix heap (is_of_kind Strong) (λ o. is_in z o.strong) (hold ix (hand_at ix p n)) (held_by z heap) like (is-kind z ix heap Strong))
    (step NoSuchObject (meets-held z ix heap (λ (w : Held). is_some w.counted.entry) (λ o. is_some o.entry) (hold ix (hand_at ix p n)) (held_by z heap) like (λ w o m. ap is_some m.like.alike.entry))
    (step Taken (next-same ix h st p k l)
    (step WrongAnswer (meets-held z ix heap (λ (w : Held). room_in ix.shape Weak w.counted) (λ o. has_room ix.shape o o.weak) (hold ix (hand_at ix p n)) (held_by z heap) like (λ w o m. room-same ix.shape Weak w.counted o m.like.alike)) refl)))
judged-is ix h st p (acts.Load n (got.Hand k)) l range =
    let heap = heap_after h in
    let z : Holder = Hand p n in
    let like = hand-held ix h st p n l in
    step NotHeld (meets-held z ix heap (λ (w : Held). not (same_kind w.place.kind Strong)) (λ o. is_in z o.unowned || is_in z o.weak) (hold ix (hand_at ix p n)) (held_by z heap) like
    (λ w o m. not-strong w.place.kind ∙ ap (λ b. b || same_kind w.place.kind Weak) (sym (m.member Unowned)) ∙ ap (λ b. is_in z o.unowned || b) (sym (m.member Weak))))
    (step Taken (next-same ix h st p k l)
    (step WrongAnswer (meets-held z ix heap (λ (w : Held). alive_in ix.shape w.counted && room_in ix.shape Strong w.counted) (λ o. is_live ix.shape o && has_room ix.shape o o.strong) (hold ix (hand_at ix p n)) (held_by z heap) like (λ w o m. both-and (alive ix.shape w.counted o m.like.alike) (room-same ix.shape Strong w.counted o m.like.alike))) refl))
judged-is ix h st p (acts.Load n got.Dead) l range =
    let heap = heap_after h in
    let z : Holder = Hand p n in
    let like = hand-held ix h st p n l in
    step NotHeld (meets-held z ix heap (is_of_kind Unowned) (λ o. is_in z o.unowned) (hold ix (hand_at ix p n)) (held_by z heap) like (is-kind z ix heap Unowned))
    (step WrongAnswer (meets-held z ix heap (λ (w : Held). not (alive_in ix.shape w.counted)) (λ o. not (is_live ix.shape o)) (hold ix (hand_at ix p n)) (held_by z heap) like (λ w o m. ap not (alive ix.shape w.counted o m.like.alike))) refl)
judged-is ix h st p (acts.Load n got.Nil) l range =
    let heap = heap_after h in
    let z : Holder = Hand p n in
    let like = hand-held ix h st p n l in
    step NotHeld (meets-held z ix heap (is_of_kind Weak) (λ o. is_in z o.weak) (hold ix (hand_at ix p n)) (held_by z heap) like (is-kind z ix heap Weak))
    (step WrongAnswer (meets-held z ix heap (λ (w : Held). not (alive_in ix.shape w.counted)) (λ o. not (is_live ix.shape o)) (hold ix (hand_at ix p n)) (held_by z heap) like (λ w o m. ap not (alive ix.shape w.counted o m.like.alike))) refl)
judged-is ix h st p (acts.Drop n last) l range =
    let heap = heap_after h in
    let z : Holder = Hand p n in
    let like = hand-held ix h st p n l in
    step NotHeld (some-held z ix heap (hold ix (hand_at ix p n)) (held_by z heap) like)
    (step WrongAnswer (meets-held z ix heap (λ (w : Held). same_bool last (alone_in ix.shape w.place.kind w.counted)) (λ o. same_bool last (is_alone (holders_with ix.shape z o))) (hold ix (hand_at ix p n)) (held_by z heap) like
    (λ w o m. ap (same_bool last) (alone-same ix.shape w.place.kind w.counted o m.like.alike ∙ ap (λ k. is_alone (holders_of ix.shape k o)) (sym m.kind_is)))) refl)
judged-is ix h st p (acts.CountFull k from) l range =
    let heap = heap_after h in
    let z = origin heap p from in
    both-then (has_it ix p from) (has ix.shape heap p from) ((passes (λ o. not (is_immortal ix.shape o) && length (list_of k o) == ix.shape.caps.wide) (held_by z heap), WrongAnswer) ∷ []) _
    (has-same ix h st p from l range)
    (step WrongAnswer (meets-held z ix heap (λ (w : Held). full_in ix.shape k w.counted) (λ o. not (is_immortal ix.shape o) && length (list_of k o) == ix.shape.caps.wide) (hold ix (origin_at ix p from)) (held_by z heap) (origin-held ix h st p from l range) (λ w o m. full-same ix.shape k w.counted o m.like.alike)) refl)
judged-is ix h st p (acts.Claim e) l range = step Taken (ap not (entry-same ix (heap_after h) st.tells e)) refl
judged-is ix h st p acts.NoEntry l range = step NotTaken (all-seen ix.shape.entries (length ix.marks) ix.entries (λ q. (mark_of ix q).entries) is_entry_taken h st.entries p l) refl
judged-is ix h st p (acts.Side s e why) l range =
    let heap = heap_after h in
    let like = slot_like ix heap st.tells s in
    step NoSuchObject (meets-found ix heap (λ (w : Found). not (immortal_in ix.shape w.counted)) (λ o. not (is_immortal ix.shape o)) (in_slot ix s) (at_slot s heap) like (λ w o _ m. ap not (immortal-same ix.shape w.counted o m.alike)))
    (step WrongDuty (claims-same ix heap st.tells p e)
    (step Taken (meets-found ix heap (λ (w : Found). not (is_some w.counted.entry)) (λ o. not (is_some o.entry)) (in_slot ix s) (at_slot s heap) like (λ w o _ m. ap (λ x. not (is_some x)) m.alike.entry))
    (step WrongAnswer (meets-found ix heap (λ (w : Found). stands_at_cap ix.shape why w.counted) (is_at_cap ix.shape why) (in_slot ix s) (at_slot s heap) like (λ w o _ m. cap-same ix.shape why w.counted o m.alike)) refl)))
judged-is ix h st p (acts.Back e) l range = step WrongDuty (claims-same ix (heap_after h) st.tells p e) refl
judged-is ix h st p (acts.Swap c put took) l range =
    let heap = heap_after h in
    both-then (first_failing (reaches ix p c)) (reachable ix.shape heap p c) (puts ix.shape heap p c put ∷ takes (sight p h) took ∷ (same_bool (is_some took) (not (is_nil heap (cell heap c))), WrongAnswer) ∷ []) _
    (reaches-same ix h st p c l range)
    (swap-parts put took (gives-same ix h st p c put l) (took-same took)
    (ap (same_bool (is_some took)) (some-held (cell heap c) ix heap (hold ix (cell_at ix c)) (held_by (cell heap c) heap) (cell-held ix h st c range) ∙ not-not (is_some (held_by (cell heap c) heap)))))
  where
    took-same : (took : Option ℕ) → (gets ix p took).0 ≡ (takes (sight p h) took).0
    took-same None = refl
    took-same (Some k) = next-same ix h st p k l

    swap-parts : {a b : Bool} (put took : Option ℕ) → (gives ix p c put).0 ≡ (puts ix.shape (heap_after h) p c put).0 → (gets ix p took).0 ≡ (takes (sight p h) took).0 → a ≡ b →
        first_failing (gives ix p c put ∷ gets ix p took ∷ (a, WrongAnswer) ∷ []) ≡ first_failing (puts ix.shape (heap_after h) p c put ∷ takes (sight p h) took ∷ (b, WrongAnswer) ∷ [])
    swap-parts None None e f g = step NotHeld e (step Taken f (step WrongAnswer g refl))
    swap-parts None (Some k) e f g = step NotHeld e (step Taken f (step WrongAnswer g refl))
    swap-parts (Some n) None e f g = step NotHeld e (step Taken f (step WrongAnswer g refl))
    swap-parts (Some n) (Some k) e f g = step NotHeld e (step Taken f (step WrongAnswer g refl))
judged-is ix h st p (acts.Look c) l range =
    let heap = heap_after h in
    both-then (first_failing (reaches ix p c)) (reachable ix.shape heap p c) ((is_nil heap (cell heap c), WrongAnswer) ∷ []) _
    (reaches-same ix h st p c l range)
    (step WrongAnswer (ap not (some-held (cell heap c) ix heap (hold ix (cell_at ix c)) (held_by (cell heap c) heap) (cell-held ix h st c range))) refl)
judged-is ix h st p (acts.Take s f k) l range =
    let heap = heap_after h in
    let like = slot_like ix heap st.tells s in
    let c : CellName = cells.Field s f in
    step NoSuchObject (some-found ix heap (in_slot ix s) (at_slot s heap) like)
    (step NoSuchObject (meets-found ix heap (has_field_at ix.shape f) (has_field ix.shape f) (in_slot ix s) (at_slot s heap) like (λ w o _ m. field-has ix heap f w o m))
    (step WrongDuty (owed-and-nil ix h st p s (λ (w : Found). f) (λ o. f) range.0 (λ w o m. refl) (λ o. omega (arith, range.1)) (in_slot ix s) (at_slot s heap) refl like)
    (step NotHeld (some-held (cell heap c) ix heap (hold ix (place_at s f ix.cells)) (held_by (cell heap c) heap) (cell-held ix h st c range) ∙ not-not (is_some (held_by (cell heap c) heap)))
    (step Taken (next-same ix h st p k l) refl))))
judged-is ix h st p (acts.Finish s last) l range =
    let heap = heap_after h in
    let like = slot_like ix heap st.tells s in
    step NoSuchObject (some-found ix heap (in_slot ix s) (at_slot s heap) like)
    (step WrongDuty (owed-and-nil ix h st p s (λ (w : Found). length (fields_in ix.shape w.counted)) (λ o. length (fields_of ix.shape o)) range (λ w o m. ap length (fields-same ix.shape w.counted o m.alike)) (λ o. st.sized.few o.class) (in_slot ix s) (at_slot s heap) refl like)
    (step WrongAnswer (meets-found ix heap (λ (w : Found). same_bool last (w.counted.unowned == 1)) (λ o. same_bool last (is_alone o.unowned)) (in_slot ix s) (at_slot s heap) like (λ w o _ m. last-same last w.counted.unowned o.unowned m.alike.unowned)) refl))
judged-is ix h st p (acts.Vacate s) l range =
    let heap = heap_after h in
    let like = slot_like ix heap st.tells s in
    step NoSuchObject (some-found ix heap (in_slot ix s) (at_slot s heap) like)
    (step WrongDuty (meets-found ix heap (λ (w : Found). owes p due.Vacating w.counted) (owes_to p Vacating) (in_slot ix s) (at_slot s heap) like (λ w o _ m. owes-same p due.Vacating w.counted o m.alike)) refl)
judged-is ix h st p (acts.Gone e last) l range =
    let heap = heap_after h in
    let like = entry_like ix heap st.tells e in
    step NoSuchObject (some-found ix heap (with_entry ix e) (at_entry e heap) like)
    (step WrongDuty (meets-found ix heap (λ (w : Found). owes p due.Gone w.counted) (owes_to p Gone) (with_entry ix e) (at_entry e heap) like (λ w o _ m. owes-same p due.Gone w.counted o m.alike))
    (step WrongAnswer (meets-found ix heap (λ (w : Found). same_bool last (w.counted.weak == 1)) (λ o. same_bool last (is_alone o.weak)) (with_entry ix e) (at_entry e heap) like (λ w o _ m. last-same last w.counted.weak o.weak m.alike.weak)) refl))
