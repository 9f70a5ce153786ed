-- Who may change a field: its object is live, or the thread owes the object's deinit.
use Rattle.std.proofs.Common.{◌≡◌, ℕ, zero, suc, ◌≤◌, Bool, true, false, cond, eqb, not, List, [], ◌∷◌, ◌++◌, Option, Some, None, inl, inr, refl, sym, ap, ◌∙◌, arith}
use Rattle.std.specs.Prelude.{slice_get, is_some, ◌||◌}
use Rattle.std.proofs.lemmas.Bool.{and_parts, cases_lt, eqb-true}
use Rattle.arc_model.specs.declared.event.ObjectId.{ObjectId}
use Rattle.arc_model.specs.declared.event.Act.{Act}
use Rattle.arc_model.specs.declared.event.Event.{Event}
use Rattle.arc_model.specs.Shapes.{HeapShape}
use Rattle.arc_model.specs.Heaps.{Holder, Field, Deinit, Owed, Object, Heap}
use Rattle.arc_model.specs.Holders.{made_by, same_id, is_empty, same_duty, is_duty, is_by, owes_to, held_by}
use Rattle.arc_model.specs.Cells.{is_nil, strong_holders, is_live}
use Rattle.arc_model.specs.Effects.{made}
use Rattle.arc_model.specs.History.{History, heap_after, next_hand, brings, IsLegal}
use Rattle.arc_model.specs.WellFormed.{more, held, total, named_times, HasField, IsWellFormed}
use Rattle.arc_model.specs.Lookup.{spot_in, spot, owed_by, duty_in}
use Rattle.arc_model.specs.Others.{OthersLeaveFields}
use Rattle.arc_model.specs.CellLaws.{NilFieldsStay}
use Rattle.arc_model.proofs.Basics.{true≢false, None≢Some, Some-inj, opposite}
use Rattle.arc_model.proofs.Tally.{no, id-refl}
use Rattle.arc_model.proofs.Turns.{is_open_to, goes, comes, held-turn, Turn}
use Rattle.arc_model.proofs.Keeps.{total-end, held-made, kept-turn, Course, still, makes, turn, turns}
use Rattle.arc_model.proofs.Stages.{dying-facts, duty-is}
use Rattle.arc_model.proofs.Builds.{advance}
use Rattle.arc_model.proofs.Courses.{course_after, well_formed, not-held, held-is}
use Rattle.arc_model.proofs.Steps.{turn-step, still_empty, later}
use Rattle.arc_model.proofs.Others.{spot-turn, spot-end, made-apart, false-if, others-turn, others_leave, not-among}

-- no two objects have one name
pub names-once : {shape : HeapShape} (next : ℕ → ℕ) (heap : Heap) → IsWellFormed shape next heap → (id : ObjectId) → total (named_times id) heap.objects ≤ 1
names-once next heap f id = go id.number refl
  where
    same : (n : ℕ) → id.number ≡ n → id ≡ record { thread = id.thread; number = n }
    same n e = ap (λ m. record { thread = id.thread; number = m }) e

    at : (n : ℕ) → id.number ≡ n → total (named_times (record { thread = id.thread; number = n })) heap.objects ≤ 1 → total (named_times id) heap.objects ≤ 1
    at n e h = let a : total (named_times id) heap.objects ≡ total (named_times (record { thread = id.thread; number = n })) heap.objects = ap (λ i. total (named_times i) heap.objects) (same n e) in omega arith

    go : (n : ℕ) → id.number ≡ n → total (named_times id) heap.objects ≤ 1
    go zero e = at zero e (let a = f.no_zero id.thread in omega arith)
    go (suc n) e = at (suc n) e (elim (cases_lt n (made_by id.thread heap.objects)) [
      | inl less ↦ let a = f.numbered id.thread n (omega arith) in omega arith
      | inr more' ↦ let a = f.no_other id.thread n more' in omega arith
    ])

named-counts : (id : ObjectId) (os : List Object) (i : ℕ) (o : Object) → slice_get os i ≡ Some o → o.id ≡ id → 1 ≤ total (named_times id) os
named-counts id [] i o h e = absurd (None≢Some o h)
named-counts id (r ∷ os) zero o h e = let a : named_times id r ≡ 1 = ap (λ b. more b zero) (ap (same_id id) (ap (λ (q : Object). q.id) (Some-inj h) ∙ e) ∙ id-refl id) in omega arith
named-counts id (r ∷ os) (suc i) o h e = let a = named-counts id os i o h e in omega arith

pub one-name : (id : ObjectId) (os : List Object) (i j : ℕ) (o q : Object) → total (named_times id) os ≤ 1 → slice_get os i ≡ Some o → o.id ≡ id → slice_get os j ≡ Some q → q.id ≡ id → o ≡ q
one-name id [] i j o q one h e k g = absurd (None≢Some o h)
one-name id (r ∷ os) zero zero o q one h e k g = Some-inj (sym h ∙ k)
one-name id (r ∷ os) zero (suc j) o q one h e k g =
    let a : named_times id r ≡ 1 = ap (λ b. more b zero) (ap (same_id id) (ap (λ (q : Object). q.id) (Some-inj h) ∙ e) ∙ id-refl id) in
    let b = named-counts id os j q k g in absurd (omega arith)
one-name id (r ∷ os) (suc i) zero o q one h e k g =
    let a : named_times id r ≡ 1 = ap (λ b. more b zero) (ap (same_id id) (ap (λ (q : Object). q.id) (Some-inj k) ∙ g) ∙ id-refl id) in
    let b = named-counts id os i o h e in absurd (omega arith)
one-name id (r ∷ os) (suc i) (suc j) o q one h e k g = one-name id os i j o q (omega arith) h e k g

nil-total : (x : Holder) (heap : Heap) → is_nil heap x ≡ true → total (held x) heap.objects ≡ 0
nil-total x heap h = not-held x heap.objects (opposite (is_some (held_by x heap)) h)

total-nil : (x : Holder) (heap : Heap) → total (held x) heap.objects ≡ 0 → is_nil heap x ≡ true
total-nil x heap h = go (is_some (held_by x heap)) refl
  where
    go : (b : Bool) → is_some (held_by x heap) ≡ b → not b ≡ true
    go true e = let a = held-is x heap.objects e in absurd (omega arith)
    go false e = refl

-- no field of an object that isn't live is filled
not-filled : {shape : HeapShape} (p : ℕ) (act : Act) (next since : ℕ → ℕ) (old new : Heap) (t : Turn shape p act next since old new) → IsWellFormed shape next old → (i : ℕ) (o : Object) → slice_get old.objects i ≡ Some o → is_empty (strong_holders shape o) ≡ true → (f : ℕ) → comes t.edit (Field o.id f) ≡ true → ⊥
not-filled {shape = shape} p act next since old new t wf i o h empty f c =
    let has = t.puts_in o.id f c in
    let s = turn-step p act next since old new t i o h in
    let same = one-name o.id new.objects has.place i has.object s.q (names-once since new (kept-turn p act next since old new t wf) o.id) has.here has.named s.here s.id in
    true≢false (sym has.passing ∙ ap (is_live shape) same ∙ ap not (still_empty p act i o new s empty))

nil-turn : {shape : HeapShape} (p : ℕ) (act : Act) (next since : ℕ → ℕ) (old new : Heap) → Turn shape p act next since old new → IsWellFormed shape next old → (i : ℕ) (o : Object) → slice_get old.objects i ≡ Some o → is_empty (strong_holders shape o) ≡ true → (f : ℕ) → total (held (Field o.id f)) old.objects ≡ 0 → total (held (Field o.id f)) new.objects ≡ 0
nil-turn p act next since old new t wf i o h empty f none = go (goes t.edit (Field o.id f)) (comes t.edit (Field o.id f)) refl refl
  where
    go : (a b : Bool) → goes t.edit (Field o.id f) ≡ a → comes t.edit (Field o.id f) ≡ b → total (held (Field o.id f)) new.objects ≡ 0
    go a true ga gb = absurd (not-filled p act next since old new t wf i o h empty f gb)
    go true false ga gb = let e = held-turn p act next since old new t (Field o.id f) true false ga gb in omega arith
    go false false ga gb = let e = held-turn p act next since old new t (Field o.id f) false false ga gb in omega arith

nil-course : {shape : HeapShape} (p : ℕ) (act : Act) (next since : ℕ → ℕ) (old new : Heap) → Course shape p act next since old new → IsWellFormed shape next old → (i : ℕ) (o : Object) → slice_get old.objects i ≡ Some o → is_empty (strong_holders shape o) ≡ true → (f : ℕ) → total (held (Field o.id f)) old.objects ≡ 0 → total (held (Field o.id f)) new.objects ≡ 0
nil-course p act next since old new (still same entries grows claims taken) wf i o h empty f none = ap (total (held (Field o.id f))) same ∙ none
nil-course p act next since old new (makes k c s is is_next later grows free) wf i o h empty f none =
    ap (λ (heap : Heap). total (held (Field o.id f)) heap.objects) is
    ∙ (let a = total-end (held (Field o.id f)) old.objects (made p k c s old.objects) in let b = held-made (Field o.id f) p k c s old.objects refl in omega arith)
nil-course p act next since old new (turn t) wf i o h empty f none = nil-turn p act next since old new t wf i o h empty f none
nil-course p act next since old new (turns between mid t u cell left came swaps) wf i o h empty f none =
    let s = turn-step p act next between old mid t i o h in
    let a = nil-turn p act next between old mid t wf i o h empty f none in
    let b = nil-turn p act between since mid new u (kept-turn p act next between old mid t wf) i s.q s.here (still_empty p act i o mid s empty) f (ap (λ n. total (held (Field n f)) mid.objects) s.id ∙ a) in
    ap (λ n. total (held (Field n f)) new.objects) (sym s.id) ∙ b

its-course : (shape : HeapShape) (e : Event) (h : History) → IsLegal shape (e ∷ h) → Course shape e.thread e.act (λ q. next_hand q h) (advance (brings e.act) e.thread (λ q. next_hand q h)) (heap_after h) (heap_after (e ∷ h))
its-course shape e h legal = course_after shape e h legal (well_formed shape h legal.1)

nil-after : (shape : HeapShape) (before after : History) (i : ℕ) (o : Object) (f : ℕ) → IsLegal shape (after ++ before) → slice_get (heap_after before).objects i ≡ Some o → is_empty (strong_holders shape o) ≡ true → total (held (Field o.id f)) (heap_after before).objects ≡ 0 → total (held (Field o.id f)) (heap_after (after ++ before)).objects ≡ 0
nil-after shape before [] i o f legal h empty none = none
nil-after shape before (e ∷ after) i o f legal h empty none =
    let l = later shape i o before after legal.1 h in
    let a = nil-after shape before after i o f legal.1 h empty none in
    let hs = after ++ before in
    let b = nil-course e.thread e.act (λ q. next_hand q hs) (advance (brings e.act) e.thread (λ q. next_hand q hs)) (heap_after hs) (heap_after (e ∷ hs)) (its-course shape e hs legal) (well_formed shape hs legal.1) i l.q l.here (l.strong empty) f (ap (λ n. total (held (Field n f)) (heap_after hs).objects) l.id ∙ a) in
    ap (λ n. total (held (Field n f)) (heap_after (e ∷ hs)).objects) (sym l.id) ∙ b

not-live : (shape : HeapShape) (o : Object) → is_live shape o ≡ false → is_empty (strong_holders shape o) ≡ true
not-live shape o h = go (is_empty (strong_holders shape o)) h
  where
    go : (b : Bool) → not b ≡ false → b ≡ true
    go true e = refl
    go false e = absurd (true≢false e)

pub nil_fields_stay : NilFieldsStay
nil_fields_stay shape before after i o f legal h dead nil =
    total-nil (Field o.id f) (heap_after (after ++ before)) (nil-after shape before after i o f legal h (not-live shape o dead) (nil-total (Field o.id f) (heap_after before) nil))

-- the deinit that p owes
owes-duty : (p : ℕ) (m : Option Owed) → is_by p m ≡ true → is_duty Deinit m ≡ true → owed_by p m ≡ Some Deinit
owes-duty p None by duty = no by
owes-duty p (Some d) by duty = ap (λ b. cond b (Some d.duty) None) by ∙ ap Some (duty-is p Deinit (Some d) d by duty refl).1

duty-owes : (p : ℕ) (m : Option Owed) → owed_by p m ≡ Some Deinit → (is_by p m ≡ true) × (is_duty Deinit m ≡ true)
duty-owes p None h = absurd (None≢Some Deinit h)
duty-owes p (Some d) h = go (eqb d.thread p) refl h
  where
    go : (b : Bool) → eqb d.thread p ≡ b → cond b (Some d.duty) None ≡ Some Deinit → (eqb d.thread p ≡ true) × (same_duty d.duty Deinit ≡ true)
    go true e h = (e, ap (λ a. same_duty a Deinit) (Some-inj h))
    go false e h = absurd (None≢Some Deinit h)

by-one : (p r : ℕ) (m : Option Owed) → is_by p m ≡ true → is_by r m ≡ true → r ≡ p
by-one p r None h k = no h
by-one p r (Some d) h k = sym (eqb-true d.thread r k) ∙ eqb-true d.thread p h

-- a turn of another thread leaves a field of an object whose deinit p owes
field-turn : {shape : HeapShape} (p r : ℕ) (act : Act) (next since : ℕ → ℕ) (old new : Heap) → (r ≡ p → ⊥) → Turn shape r act next since old new → IsWellFormed shape next old → (i : ℕ) (o : Object) (f : ℕ) → slice_get old.objects i ≡ Some o → owed_by p o.owed ≡ Some Deinit → spot (Field o.id f) new ≡ spot (Field o.id f) old
field-turn {shape = shape} p r act next since old new other t wf i o f h owes =
    let mine = duty-owes p o.owed owes in
    let empty = (dying-facts o (wf.whole i o h) mine.1).strong in
    spot-turn r act next since old new t (Field o.id f) (false-if (goes t.edit (Field o.id f)) (λ g. not-taken mine.0 empty (t.takes_out o.id f g))) (false-if (comes t.edit (Field o.id f)) (λ c. not-filled r act next since old new t wf i o h empty f c))
  where
    not-taken : is_by p o.owed ≡ true → is_empty (strong_holders shape o) ≡ true → HasField shape (is_open_to shape r) o.id f old → ⊥
    not-taken by empty has =
        let same = one-name o.id old.objects has.place i has.object o (names-once next old wf o.id) has.here has.named h refl in
        let open' : (is_live shape o || owes_to r Deinit o) ≡ true = ap (is_open_to shape r) (sym same) ∙ has.passing in
        let owed : owes_to r Deinit o ≡ true = ap (λ b. not b || owes_to r Deinit o) (sym empty) ∙ open' in
        other (by-one p r o.owed by (and_parts (is_by r o.owed) (is_duty Deinit o.owed) owed).0)

field-course : {shape : HeapShape} (p r : ℕ) (act : Act) (next since : ℕ → ℕ) (old new : Heap) → (r ≡ p → ⊥) → Course shape r act next since old new → IsWellFormed shape next old → (i : ℕ) (o : Object) (f : ℕ) → slice_get old.objects i ≡ Some o → owed_by p o.owed ≡ Some Deinit → spot (Field o.id f) new ≡ spot (Field o.id f) old
field-course p r act next since old new other (still same entries grows claims taken) wf i o f h owes = ap (spot_in (Field o.id f)) same
field-course p r act next since old new other (makes k c s is is_next later grows free) wf i o f h owes = ap (spot (Field o.id f)) is ∙ spot-end (Field o.id f) old.objects (made r k c s old.objects) (made-apart (Field o.id f) r k c s old.objects refl refl)
field-course p r act next since old new other (turn t) wf i o f h owes = field-turn p r act next since old new other t wf i o f h owes
field-course p r act next since old new other (turns between mid t u cell left came swaps) wf i o f h owes =
    let s = turn-step r act next between old mid t i o h in
    let a = field-turn p r act next between old mid other t wf i o f h owes in
    let owed : owed_by p s.q.owed ≡ Some Deinit = sym (ap (duty_in p) s.here) ∙ (others-turn p r act next between old mid (λ e. other (sym e)) t).duties i ∙ ap (duty_in p) h ∙ owes in
    let b = field-turn p r act between since mid new other u (kept-turn r act next between old mid t wf) i s.q f s.here owed in
    ap (λ n. spot (Field n f) new) (sym s.id) ∙ b ∙ ap (λ n. spot (Field n f) mid) s.id ∙ a

pub others_leave_fields : OthersLeaveFields
others_leave_fields shape p before [] i o f legal none h owes = refl
others_leave_fields shape p before (e ∷ after) i o f legal none h owes =
    let apart = not-among p e after none in
    let hs = after ++ before in
    let l = later shape i o before after legal.1 h in
    let a = others_leave_fields shape p before after i o f legal.1 apart.1 h owes in
    let mine = and_parts (is_by p o.owed) (is_duty Deinit o.owed) owes in
    let owed : owed_by p l.q.owed ≡ Some Deinit = sym (ap (duty_in p) l.here) ∙ (others_leave shape p before after legal.1 apart.1).duties i ∙ ap (duty_in p) h ∙ owes-duty p o.owed mine.0 mine.1 in
    let b = field-course p e.thread e.act (λ q. next_hand q hs) (advance (brings e.act) e.thread (λ q. next_hand q hs)) (heap_after hs) (heap_after (e ∷ hs)) apart.0 (its-course shape e hs legal) (well_formed shape hs legal.1) i l.q f l.here owed in
    ap (λ n. spot (Field n f) (heap_after (e ∷ hs))) (sym l.id) ∙ b ∙ ap (λ n. spot (Field n f) (heap_after hs)) l.id ∙ a
