-- The plan that makes an object, on the shared heap.
use Rattle.std.proofs.Common.{◌≡◌, ◌⊎◌, inl, inr, ℕ, zero, suc, ◌+◌, ◌<◌, ◌≤◌, ◌==◌, ◌&&◌, nat_lt, Bool, true, false, cond, not, List, [], ◌∷◌, ◌++◌, length, Option, None, Some, refl, sym, ap, ◌∙◌, subst, arith, eq-eqb, ne_eqb, append_assoc, add-one}
use Rattle.std.specs.Prelude.{slice_get, bit_and, ◌/◌}
use Rattle.std.proofs.lemmas.List.{append-nil}
use Rattle.std.proofs.lemmas.Bool.{lt-ltb, le-ltb}
use mathlib.Core.Logic.{dite}
use mathlib.Core.List.{map-append}
use native.Mathlib.Decide.{ℕ_discrete}
use Rattle.arc_model.specs.declared.event.Act.{Act}
use Rattle.arc_model.specs.declared.event.Act.TheVariants as acts
use Rattle.arc_model.specs.declared.event.ObjectName.{ObjectName}
use Rattle.arc_model.specs.declared.event.ObjectId.{ObjectId}
use Rattle.arc_model.specs.declared.shape.Kind.TheVariants as kinds
use Rattle.arc_model.specs.Shapes.{HeapShape, class_at}
use Rattle.arc_model.specs.Heaps.{Hand, Object}
use Rattle.arc_model.specs.Effects.{made}
use Rattle.arc_model.specs.Holders.{at_slot, is_slot_taken}
use Rattle.arc_model.specs.History.{History, heap_after, share, brings, next_hand, IsLegal}
use Rattle.arc_model.specs.Lookup.{spot}
use Rattle.arc_model.specs.References.{name_of}
use Rattle.arc_rule.specs.declared.step.Step.{Step}
use Rattle.arc_rule.specs.declared.step.Step.TheVariants.{Load, Store, Or}
use Rattle.arc_rule.specs.declared.step.Changed.{Changed}
use Rattle.arc_rule.specs.declared.step.Intent.{Intent}
use Rattle.arc_rule.specs.declared.step.Intent.TheVariants as intents
use Rattle.arc_rule.specs.declared.layout.Place.{Place}
use Rattle.arc_rule.specs.declared.layout.Place.TheVariants.{Count, Isa, SlotBits}
use Rattle.arc_rule.specs.Bits.{words_of, bit_of, is_set, full_word}
use Rattle.arc_rule.proofs.Bits.{clear_at, set_in_full, thing_of_bit}
use Rattle.arc_rule.specs.Isa.{isa_word_of}
use Rattle.arc_rule.specs.Places.{extent_of, number}
use Rattle.arc_rule.proofs.Places.{place_at-number}
use Rattle.arc_view.specs.declared.view.Mark.{Mark}
use Rattle.arc_view.specs.declared.view.Naming.{Naming}
use Rattle.arc_view.specs.declared.view.Working.{Working}
use Rattle.arc_view.specs.declared.view.View.{View}
use Rattle.arc_view.specs.Views.{within, made_in, first_word}
use Rattle.arc_view.specs.Holding.{At, heap_of}
use Rattle.arc_view.specs.Rule.{InShape, is_new, news}
use Rattle.arc_view.specs.Kinds.{act_of, event_list, loaded_act, or_act, stored_act, working_loaded, working_or, working_stored, working_after, is_try, searched, is_fruitless, when}
use Rattle.arc_view.specs.Admission.{Admits}
use Rattle.arc_view.specs.Steps.{Told}
use Rattle.arc_view.specs.Calls.{events_by, Grew}
use Rattle.arc_view.proofs.Lists.{starts_trans, share_more}
use Rattle.arc_view.proofs.Classes.{made_named, news_named}
use Rattle.arc_view.proofs.Held.{Held, held_stays, strong≢weak}
use Rattle.arc_view.proofs.Strongs.{slot_found}
use Rattle.arc_model.proofs.Own.{own_gains}
use Rattle.arc_view_laws.specs.Strangers.{SeesNoStranger}
use Rattle.std.specs.Option.{unwrap_or}
use Rattle.arc_rule.specs.declared.plan.Next.{Next}
use Rattle.arc_rule.specs.declared.plan.Next.TheVariants as nexts
use Rattle.arc_model.proofs.Basics.{None≢Some, true≢false}
use Rattle.arc_model.proofs.Others.{others_leave}
use Rattle.arc_plan.specs.declared.slots.Making.{Making}
use Rattle.arc_plan.specs.declared.slots.Making.TheVariants as makings
use Rattle.arc_plan.specs.declared.slots.NewObjectAnswer.{NewObjectAnswer}
use Rattle.arc_plan.specs.declared.slots.NewObjectAnswer.TheVariants.{Slot, NoSlot, Again}
use Rattle.arc_plan.specs.Slots.{Creation, creation_takes, creation_turned, creation_answer, creation_left, making_turned, making_left, free_slot, looked, looked_answer, new_word, IsTaking}
use Rattle.arc_plan.proofs.Bits.{free_is_clear, none_free_is_full}
use Rattle.arc_table.specs.Runs.{MayRun, Ran}
use Rattle.arc_table.specs.Causes.{LostSlot}
use Rattle.arc_table.specs.Tokens.{IsCreated, created_act}
use Rattle.arc_table.specs.Calls.{GoesOn}
use Rattle.arc_view_laws.specs.Having.{IsStrongOf}
use Rattle.arc_table.proofs.Invariant.{Keeps, may_run, has_run}
use Rattle.arc_view_laws.proofs.Growing.{acts_of, told_grew, grew_none}
use Rattle.arc_view_laws.proofs.Counted.{counted, counted_same, counted_one, told_alone}

-- one call after another
pub grew_on : (xs ys : List Act) (m n : ℕ) (v u w : View) → Grew xs m v u → Grew ys n u w → Grew (ys ++ xs) (m + n) v w
grew_on xs ys m n v u w g k = record {
  begins = starts_trans w.seen u.seen v.seen k.begins g.begins;
  made = subst (λ p. share w.seen p ≡ events_by p ys ++ share u.seen p) g.number k.made
      ∙ (ap (λ l. events_by v.number ys ++ l) g.made ∙ (sym (append_assoc (events_by v.number ys) (events_by v.number xs) (share v.seen v.number))
      ∙ ap (λ l. l ++ share v.seen v.number) (sym (map-append (λ a. record { thread = v.number; act = a }) ys xs))));
  steps = (let a = g.steps in let b = k.steps in omega (arith, a, b));
  number = k.number ∙ g.number;
  role = k.role ∙ g.role;
  splits = k.splits ∙ g.splits;
  taken = k.taken ∙ g.taken;
  gone = λ p e. k.gone p (ap (within p) g.taken ∙ e) ∙ g.gone p e;
}

pub grew_most : (xs : List Act) (m n : ℕ) (v w : View) → m ≤ n → Grew xs m v w → Grew xs n v w
grew_most xs m n v w le g = record { begins = g.begins; made = g.made; steps = (let a = g.steps in omega (arith, a, le)); number = g.number; role = g.role; splits = g.splits; taken = g.taken; gone = g.gone }

-- the next hand is by the pass's share
pub next_none : (n : ℕ) (v w : View) → Grew [] n v w → next_hand w.number w.seen ≡ next_hand v.number v.seen
next_none n v w g = ap (λ p. next_hand p w.seen) g.number ∙ ap (λ m. m + 1) (counted_same brings v.number w.seen v.seen g.made)

pub next_one : (a : Act) (n : ℕ) (v w : View) → Grew (a ∷ []) n v w → brings a ≡ true → next_hand w.number w.seen ≡ suc (next_hand v.number v.seen)
next_one a n v w g b =
    let e = counted_one brings v.number a w.seen v.seen g.made in
    let one : cond (brings a) 1 zero ≡ suc zero = ap (λ t. cond t (suc zero) zero) b in
    ap (λ p. next_hand p w.seen) g.number ∙ (let d : counted brings v.number w.seen ≡ suc (counted brings v.number v.seen) = omega (arith, e, one) in omega (arith, d))

three : (a b c : Bool) → a ≡ true → b ≡ true → c ≡ true → (a && b && c) ≡ true
three a b c x y z = ap (λ t. t && b && c) x ∙ (ap (λ t. t && c) y ∙ z)

second_false : (a b c : Bool) → b ≡ false → (a && b && c) ≡ false
second_false true b c e = ap (λ t. t && c) e
second_false false b c e = refl

searched_more : (at : ℕ → ℕ) (n made k : ℕ) (ms rest : List Mark) → searched at n made k ms ≡ true → searched at n made k (ms ++ rest) ≡ true
searched_more at n made zero ms rest e = refl
searched_more at n made (suc k) [] rest e = absurd (cc)
searched_more at n made (suc k) (m ∷ ms) rest e = go (is_try (at k) n k made m) (λ d. searched_more at n made k ms rest d) e
  where
    go : (b : Bool) → (searched at n made k ms ≡ true → searched at n made k (ms ++ rest) ≡ true) → (b && searched at n made k ms) ≡ true → (b && searched at n made k (ms ++ rest)) ≡ true
    go true ih e = ih e
    go false ih e = e

lt_true : (a b : ℕ) → a < b → nat_lt a b ≡ true
lt_true a b lt = lt-ltb a b lt

lt_false : (a b : ℕ) → b ≤ a → nat_lt a b ≡ false
lt_false a b le = le-ltb a b le

try_holds : (place n k made f l : ℕ) → f ≡ full_word n k → is_try place n k made (record { step = Load place; found = f; length = l; made = made }) ≡ true
try_holds place n k made f l full = three (place == place) (f == full_word n k) (made == made) (eq-eqb place place refl) (eq-eqb f (full_word n k) full) (eq-eqb made made refl)

-- a word that shows a slot free isn't full
not_full : (n k w s : ℕ) → IsTaking n s w → s / 64 ≡ k → w == full_word n k ≡ false
not_full n k w s t same = ne_eqb w (full_word n k) (λ full.
    let there : is_set s w ≡ true = ap (is_set s) (full ∙ ap (full_word n) (sym same)) ∙ (set_in_full n s ∙ lt_true s n t.below) in
    true≢false (sym (eq-eqb (bit_and w (bit_of s)) 0 t.clear) ∙ (clear_at s w ∙ ap not there)))

-- the bit is clear, or it is set
bit_is : (s w : ℕ) (b : Bool) → bit_and w (bit_of s) == 0 ≡ b → is_set s w ≡ not b
bit_is s w b e = go (is_set s w) (sym (clear_at s w) ∙ e)
  where
    go : (c : Bool) → not c ≡ b → c ≡ not b
    go true e = ap not e
    go false e = ap not e

in_words : (n s : ℕ) → s < n → s / 64 < words_of n
in_words n s lt = omega (arith, lt)

module _ (shape : HeapShape) (name : ObjectName) (immortal : Bool) (v0 : View) (is_class : name.class < length shape.classes) (lasts : immortal ≡ (class_at shape name.class).immortal) (room : news v0.number v0.seen < 100000) (free : v0.working.owes ≡ None)
    (name_is : name ≡ record { class = name.class; thread = v0.number; number = news v0.number v0.seen + 1 }) where
  abbrev at : ℕ → ℕ
  at k = number (extent_of shape) (SlotBits k)

  abbrev words : ℕ
  words = words_of shape.slots

  abbrev k0 : ℕ
  k0 = next_hand v0.number v0.seen

  abbrev making : Intent
  making = intents.New name.class

  abbrev look : ℕ → Step
  look k = Load (at k)

  abbrev take : ℕ → Step
  take s = Or (at (s / 64)) (bit_of s)

  abbrev event : ℕ → Act
  event s = acts.New k0 name.class s

  -- the loads of the call so far, each of which showed that all slots are taken, and its events
  record Tried (k : ℕ) (xs : List Act) (v : View) : Type 0 where
    grew : Grew xs k v0 v
    marks : List Mark
    trail : v.trail ≡ marks ++ v0.trail
    long : length marks ≡ k
    tries : searched at shape.slots (made_in v0.number v0.seen) k marks ≡ true
    working : v.working ≡ v0.working

  -- what was seen is legal and in the shape
  record Sound (v : View) : Type 0 where
    legal : IsLegal shape v.seen
    in_shape : InShape shape v.seen
    alone : SeesNoStranger v

  told_sound : (st : Step) (v : View) (found : ℕ) (w : View) → Told shape making st v found w → Sound w
  told_sound st v found w t = record { legal = t.legal; in_shape = t.in_shape; alone = told_alone shape making st v found w t }

  -- the last load showed the slot free
  record Seen (s found : ℕ) (v : View) : Type 0 where
    grew : Grew [] words v0 v
    taking : IsTaking shape.slots s found
    mark : Mark
    before : List Mark
    trail : v.trail ≡ mark ∷ before ++ v0.trail
    loads : mark.step ≡ look (s / 64)
    is_found : mark.found ≡ found
    working : v.working ≡ v0.working

  -- the new hand of the pass is a strong one of the object with the name, which is in the slot
  record Stands (s : ℕ) (v : View) : Type 0 where
    i : ℕ
    o : Object
    hand : spot (Hand v0.number k0) (heap_of v) ≡ Some (record { place = i; kind = kinds.Strong })
    here : At (heap_of v) i o
    slot : o.slot ≡ Some s
    named : name_of o ≡ name

  -- it was made, and its words are still to be stored, or not
  record Got (owed : Option Naming) (most s : ℕ) (v : View) : Type 0 where
    grew : Grew (event s ∷ []) most v0 v
    lt : s < shape.slots
    sound : Sound v
    stands : Stands s v
    working : v.working ≡ record v0.working { owes = owed }

  -- another had taken the slot
  record Lost (c : Changed) (v : View) : Type 0 where
    grew : Grew [] (words + 1) v0 v
    sound : Sound v
    lost : LostSlot shape c v0 v
    working : v.working ≡ v0.working

  record Full (v : View) : Type 0 where
    tried : Tried words (acts.Full ∷ []) v
    sound : Sound v

  room_now : (n : ℕ) (v : View) → Grew [] n v0 v → news v.number v.seen < 100000
  room_now n v g = subst (λ n. n < 100000) (sym (ap (λ p. news p v.seen) g.number ∙ counted_same is_new v0.number v.seen v0.seen g.made)) room

  owes_now : (v : View) → v.working ≡ v0.working → v.working.owes ≡ None
  owes_now v same = ap (λ (w : Working). w.owes) same ∙ free

  may_look : (k : ℕ) (v : View) → k < words → Tried k [] v → Admits shape v (look k) making
  may_look k v lt t = (SlotBits k, refl, lt, owes_now v t.working, tt, tt)

  may_take : (s found : ℕ) (v : View) → Seen s found v → Admits shape v (take s) making
  may_take s found v t =
      let lt = t.taking.below in
      (SlotBits (s / 64), refl, in_words shape.slots s lt, owes_now v t.working, (s, refl, lt, refl, is_class, room_now words v t.grew))

  -- what a load tells
  look_act_is : (k found : ℕ) (v : View) → k < words → act_of shape v (look k) making found ≡ when (is_fruitless at shape.slots v k found) acts.Full
  look_act_is k found v lt = ap (λ (q : Place). loaded_act shape v q found making) (place_at-number (extent_of shape) (SlotBits k) lt)

  look_works : (k found : ℕ) (v : View) → k < words → working_after shape v (look k) making found ≡ v.working
  look_works k found v lt = ap (λ (q : Place). working_loaded v.working q found making) (place_at-number (extent_of shape) (SlotBits k) lt)

  made_now : (n : ℕ) (v : View) → Grew [] n v0 v → made_in v.number v.seen ≡ made_in v0.number v0.seen
  made_now n v g = ap (λ p. made_in p v.seen) g.number ∙ ap length g.made

  -- a word that shows a slot free
  seen_free : (k s found : ℕ) (v w : View) → k < words → Tried k [] v → free_slot shape.slots k found ≡ Some s → Told shape making (look k) v found w → Seen s found w
  seen_free k s found v w lt t is told =
      let clear = free_is_clear shape.slots k found s is in
      let none : act_of shape v (look k) making found ≡ None = look_act_is k found v lt
      ∙ ap (λ b. when b acts.Full) (second_false (suc k == words) (found == full_word shape.slots k) (searched at shape.slots (made_in v.number v.seen) k v.trail) (not_full shape.slots k found s clear.0 clear.1)) in
      let h = told.between ++ v.seen in record {
        grew = grew_most [] (k + 1) words v0 w (omega (arith, lt)) (grew_on [] [] k 1 v0 v w t.grew (subst (λ b. Grew (acts_of b) 1 v w) none (told_grew shape making (look k) v found w told)));
        taking = clear.0;
        mark = record { step = look k; found = found; length = length h; made = made_in v.number h };
        before = t.marks;
        trail = ap (λ (x : View). x.trail) told.after ∙ ap (λ l. record { step = look k; found = found; length = length h; made = made_in v.number h } ∷ l) t.trail;
        loads = ap look (sym clear.1);
        is_found = refl;
        working = ap (λ (x : View). x.working) told.after ∙ (look_works k found v lt ∙ t.working);
      }

  -- a word that shows all its slots taken
  not_last : (k found : ℕ) (v : View) → suc k < words → when (is_fruitless at shape.slots v k found) acts.Full ≡ None
  not_last k found v lt = ap (λ b. when (b && found == full_word shape.slots k && searched at shape.slots (made_in v.number v.seen) k v.trail) acts.Full) (ne_eqb (suc k) words (λ e. omega (arith, e, lt)))

  is_last : (k found : ℕ) (v : View) → suc k ≡ words → found ≡ full_word shape.slots k → Tried k [] v → when (is_fruitless at shape.slots v k found) acts.Full ≡ Some acts.Full
  is_last k found v last full t =
      let tries : searched at shape.slots (made_in v.number v.seen) k v.trail ≡ true = subst (λ l. searched at shape.slots (made_in v.number v.seen) k l ≡ true) (sym t.trail)
      (searched_more at shape.slots (made_in v.number v.seen) k t.marks v0.trail (subst (λ m. searched at shape.slots m k t.marks ≡ true) (sym (made_now k v t.grew)) t.tries)) in
      ap (λ b. when b acts.Full) (three (suc k == words) (found == full_word shape.slots k) (searched at shape.slots (made_in v.number v.seen) k v.trail) (eq-eqb (suc k) words last) (eq-eqb found (full_word shape.slots k) full) tries)

  tried_more : (k found : ℕ) (v w : View) (xs : List Act) → k < words → Tried k [] v → found ≡ full_word shape.slots k → Told shape making (look k) v found w → acts_of (when (is_fruitless at shape.slots v k found) acts.Full) ≡ xs → Tried (suc k) xs w
  tried_more k found v w xs lt t full told is =
      let h = told.between ++ v.seen in
      let g : Grew xs 1 v w = subst (λ l. Grew l 1 v w) (ap acts_of (look_act_is k found v lt) ∙ is) (told_grew shape making (look k) v found w told) in
      let mark : Mark = record { step = look k; found = found; length = length h; made = made_in v.number h } in
      let made_is : made_in v.number h ≡ made_in v0.number v0.seen = ap length (share_more v.number v.seen told.between told.others) ∙ made_now k v t.grew in
      let try : is_try (at k) shape.slots k (made_in v0.number v0.seen) mark ≡ true =
      subst (λ m. is_try (at k) shape.slots k (made_in v0.number v0.seen) (record { step = look k; found = found; length = length h; made = m }) ≡ true) (sym made_is) (try_holds (at k) shape.slots k (made_in v0.number v0.seen) found (length h) full) in record {
        grew = grew_most xs (k + 1) (suc k) v0 w (omega arith) (subst (λ l. Grew l (k + 1) v0 w) (append-nil xs) (grew_on [] xs k 1 v0 v w t.grew g));
        marks = mark ∷ t.marks;
        trail = ap (λ (x : View). x.trail) told.after ∙ ap (λ l. mark ∷ l) t.trail;
        long = ap suc t.long;
        tries = ap (λ b. b && searched at shape.slots (made_in v0.number v0.seen) k t.marks) try ∙ t.tries;
        working = ap (λ (x : View). x.working) told.after ∙ (look_works k found v lt ∙ t.working);
      }

  -- what the word of a load has shown
  abbrev After : ℕ → ℕ → View → Type 0
  After k found v = ((s : ℕ) × (free_slot shape.slots k found ≡ Some s) × Seen s found v)
      ⊎ (((free_slot shape.slots k found ≡ None) × (suc k < words) × Tried (suc k) [] v) ⊎ ((free_slot shape.slots k found ≡ None) × (suc k ≡ words) × Full v))

  after_look : (k found : ℕ) (v w : View) → k < words → Tried k [] v → Told shape making (look k) v found w → After k found w
  after_look k found v w lt t told = go (free_slot shape.slots k found) refl
    where
      full : free_slot shape.slots k found ≡ None → found ≡ full_word shape.slots k
      full none = none_free_is_full shape.slots k (λ s. is_slot_taken s (heap_after (told.between ++ v.seen))) found ((told.read (SlotBits k) tt lt refl).says (λ u. u)) none

      go : (m : Option ℕ) → free_slot shape.slots k found ≡ m → After k found w
      go (Some s) is = inl (s, is, seen_free k s found v w lt t is told)
      go None none = dite (ℕ_discrete (suc k) words)
          (λ last. inr (inr (
            none,
            last,
            record {
              tried = subst (λ n. Tried n (acts.Full ∷ []) w) last (tried_more k found v w (acts.Full ∷ []) lt t (full none) told (ap acts_of (is_last k found v last (full none) t)));
              sound = told_sound (look k) v found w told;
            },
          )))
          (λ more. let less : suc k < words = omega (arith, lt, more) in inr (inl (none, less, tried_more k found v w [] lt t (full none) told (ap acts_of (not_last k found v less)))))

  -- the heap just after the new object came
  module _ (s : ℕ) (h : History) (same : share h v0.number ≡ share v0.seen v0.number) (legal : IsLegal shape (record { thread = v0.number; act = event s } ∷ h)) where
    abbrev n : Object
    n = made v0.number k0 name.class s (heap_after h).objects

    end-here : (os : List Object) → At (record { objects = os ++ n ∷ []; claims = [] }) (length os) n
    end-here [] = refl
    end-here (r ∷ os) = end-here os

    named_is : name_of n ≡ name
    named_is = ap (λ m. record { class = name.class; thread = v0.number; number = m + 1 }) (made_named v0.number (heap_after h).objects ∙ (news_named v0.number h ∙ counted_same is_new v0.number h v0.seen same)) ∙ sym name_is

    came : (i : ℕ) × (o : Object) × (spot (Hand v0.number k0) (heap_after (record { thread = v0.number; act = event s } ∷ h)) ≡ Some (record { place = i; kind = kinds.Strong })) × At (heap_after (record { thread = v0.number; act = event s } ∷ h)) i o × (o.slot ≡ Some s) × (name_of o ≡ name)
    came = (length (heap_after h).objects, n, own_gains shape h (record { thread = v0.number; act = event s }) k0 legal refl, end-here (heap_after h).objects, refl, named_is)

  abbrev to_count : ℕ → Option Naming
  to_count s = Some (record { slot = s; counted = false })

  abbrev to_name : ℕ → Option Naming
  to_name s = Some (record { slot = s; counted = true })

  -- what an Or tells that finds the bit clear, and that finds it set
  or_act_is : (s found : ℕ) (v : View) (b : Bool) → s < shape.slots → bit_and found (bit_of s) == 0 ≡ b → act_of shape v (take s) making found ≡ cond b (Some (acts.New (next_hand v.number v.seen) name.class s)) None
  or_act_is s found v b lt is =
      (λ j. cond (is j) (or_act v (place_at-number (extent_of shape) (SlotBits (s / 64)) (in_words shape.slots s lt) j) (bit_of s) making) None)
      ∙ ap (λ t. cond b (Some (acts.New (next_hand v.number v.seen) name.class t)) None) (thing_of_bit s)

  or_works : (s found : ℕ) (v : View) (b : Bool) → s < shape.slots → bit_and found (bit_of s) == 0 ≡ b → working_after shape v (take s) making found ≡ cond b (record v.working { owes = to_count s }) v.working
  or_works s found v b lt is =
      (λ j. cond (is j) (working_or v.working (place_at-number (extent_of shape) (SlotBits (s / 64)) (in_words shape.slots s lt) j) (bit_of s) making) v.working)
      ∙ ap (λ t. cond b (record v.working { owes = to_count t }) v.working) (thing_of_bit s)

  taken : (s seen found : ℕ) (v w : View) → Seen s seen v → bit_and found (bit_of s) == 0 ≡ true → Told shape making (take s) v found w → Got (to_count s) (words + 1) s w
  taken s seen found v w t clear told =
      let lt = t.taking.below in
      let act = or_act_is s found v true lt clear ∙ ap (λ k. Some (acts.New k name.class s)) (next_none words v0 v t.grew) in
      let h = told.between ++ v.seen in
      let p_is = t.grew.number in
      let seen_is : w.seen ≡ record { thread = v0.number; act = event s } ∷ h = ap (λ (x : View). x.seen) told.after ∙ (ap (λ a. event_list v.number a ++ h) act ∙ ap (λ p. record { thread = p; act = event s } ∷ h) p_is) in
      let g : Grew (event s ∷ []) 1 v w = subst (λ a. Grew (acts_of a) 1 v w) act (told_grew shape making (take s) v found w told) in
      let same : share h v0.number ≡ share v0.seen v0.number = subst (λ p. share h p ≡ share v.seen p) p_is (share_more v.number v.seen told.between told.others) ∙ t.grew.made in
      let legal = subst (IsLegal shape) seen_is told.legal in
      let c = came s h same legal in record {
        grew = grew_on [] (event s ∷ []) words 1 v0 v w t.grew g;
        lt = lt;
        sound = told_sound (take s) v found w told;
        stands = record { i = c.0; o = c.1; hand = ap (λ l. spot (Hand v0.number k0) (heap_after l)) seen_is ∙ c.2; here = ap (λ l. slice_get (heap_after l).objects c.0) seen_is ∙ c.3; slot = c.4; named = c.5 };
        working = ap (λ (x : View). x.working) told.after ∙ (or_works s found v true lt clear ∙ ap (λ (x : Working). record x { owes = to_count s }) t.working);
      }

  lost_it : (s seen found : ℕ) (v w : View) → Seen s seen v → bit_and found (bit_of s) == 0 ≡ false → Told shape making (take s) v found w → Lost (record { seen = seen; found = found }) w
  lost_it s seen found v w t busy told =
      let lt = t.taking.below in
      let none = or_act_is s found v false lt busy in
      let h = told.between ++ v.seen in
      let second : Mark = record { step = take s; found = found; length = length h; made = made_in v.number h } in record {
        grew = grew_on [] [] words 1 v0 v w t.grew (subst (λ a. Grew (acts_of a) 1 v w) none (told_grew shape making (take s) v found w told));
        sound = told_sound (take s) v found w told;
        lost = record {
          slot = s;
          within = lt;
          first = t.mark;
          second = second;
          before = t.before;
          trail = ap (λ (x : View). x.trail) told.after ∙ ap (λ l. second ∷ l) t.trail;
          loads = t.loads;
          seen = t.is_found;
          clear = bit_is s seen true (eq-eqb (bit_and seen (bit_of s)) 0 t.taking.clear);
          ors = refl;
          found = refl;
          set = bit_is s found false busy;
        };
        working = ap (λ (x : View). x.working) told.after ∙ (or_works s found v false lt busy ∙ t.working);
      }

  abbrev AfterOr : ℕ → ℕ → ℕ → View → Type 0
  AfterOr s seen found v = ((bit_and found (bit_of s) == 0 ≡ true) × Got (to_count s) (words + 1) s v) ⊎ ((bit_and found (bit_of s) == 0 ≡ false) × Lost (record { seen = seen; found = found }) v)

  after_take : (s seen found : ℕ) (v w : View) → Seen s seen v → Told shape making (take s) v found w → AfterOr s seen found w
  after_take s seen found v w t told = go (bit_and found (bit_of s) == 0) refl
    where
      go : (b : Bool) → bit_and found (bit_of s) == 0 ≡ b → AfterOr s seen found w
      go true clear = inl (clear, taken s seen found v w t clear told)
      go false busy = inr (busy, lost_it s seen found v w t busy told)

  abbrev count_it : ℕ → Step
  count_it s = Store (number (extent_of shape) (Count s)) (new_word immortal)

  abbrev name_it : ℕ → Step
  name_it s = Store (number (extent_of shape) (Isa s)) (isa_word_of name)

  owes_it : (m : Option Naming) (most s : ℕ) (v : View) → Got m most s v → v.working.owes ≡ m
  owes_it m most s v g = ap (λ (w : Working). w.owes) g.working

  here_it : (m : Option Naming) (most s : ℕ) (v : View) → (g : Got m most s v) → at_slot s (heap_of v) ≡ Some g.stands.o
  here_it m most s v g = slot_found shape v.seen g.stands.i s g.stands.o g.sound.legal g.stands.here g.stands.slot

  -- the inline word says whether the class is immortal
  new_word_is : (o : Object) → name_of o ≡ name → new_word immortal ≡ first_word shape o
  new_word_is o named = ap (λ b. cond b 1 2) (lasts ∙ ap (λ (m : ObjectName). (class_at shape m.class).immortal) (sym named))

  may_count : (s : ℕ) (v : View) → Got (to_count s) (words + 1) s v → Admits shape v (count_it s) making
  may_count s v g = (Count s, refl, g.lt, (record { slot = s; counted = false }, g.stands.o, owes_it (to_count s) (words + 1) s v g, here_it (to_count s) (words + 1) s v g, inl (refl, refl, new_word_is g.stands.o g.stands.named)))

  may_name : (s : ℕ) (v : View) → Got (to_name s) (words + 2) s v → Admits shape v (name_it s) making
  may_name s v g = (Isa s, refl, g.lt, (record { slot = s; counted = true }, g.stands.o, owes_it (to_name s) (words + 2) s v g, here_it (to_name s) (words + 2) s v g, inr (refl, refl, ap isa_word_of (sym g.stands.named))))

  -- a store of a word of the new object
  stored : (m next : Option Naming) (most s found : ℕ) (st : Step) (v w : View) → Got m most s v → act_of shape v st making found ≡ None → working_after shape v st making found ≡ record v.working { owes = next } → Told shape making st v found w → Got next (most + 1) s w
  stored m next most s found st v w g none works told =
      let h = told.between ++ v.seen in
      let seen : w.seen ≡ h = ap (λ (x : View). x.seen) told.after ∙ ap (λ a. event_list v.number a ++ h) none in
      let legal = subst (IsLegal shape) seen told.legal in
      let others : share told.between v0.number ≡ [] = subst (λ p. share told.between p ≡ []) g.grew.number told.others in
      let t = g.stands in
      let held : Held kinds.Strong t.i t.o (heap_after h) = held_stays shape v0.number k0 t.i kinds.Strong t.o v.seen told.between legal others t.hand t.here in record {
        grew = grew_on (event s ∷ []) [] most 1 v0 v w g.grew (subst (λ a. Grew (acts_of a) 1 v w) none (told_grew shape making st v found w told));
        lt = g.lt;
        sound = told_sound st v found w told;
        stands = record {
          i = t.i;
          o = held.q;
          hand = ap (λ l. spot (Hand v0.number k0) (heap_after l)) seen ∙ ((others_leave shape v0.number v.seen told.between legal others).hands k0 ∙ t.hand);
          here = ap (λ l. slice_get (heap_after l).objects t.i) seen ∙ held.here;
          slot = held.slot strong≢weak ∙ t.slot;
          named = (λ j. record { class = held.class j; thread = ap (λ (d : ObjectId). d.thread) held.id j; number = ap (λ (d : ObjectId). d.number) held.id j }) ∙ t.named;
        };
        working = ap (λ (x : View). x.working) told.after ∙ (works ∙ ap (λ (x : Working). record x { owes = next }) g.working);
      }

  counted_it : (s found : ℕ) (v w : View) → Got (to_count s) (words + 1) s v → Told shape making (count_it s) v found w → Got (to_name s) (words + 2) s w
  counted_it s found v w g told =
      let place = place_at-number (extent_of shape) (Count s) g.lt in
      subst (λ n. Got (to_name s) n s w) (omega arith) (stored (to_count s) (to_name s) (words + 1) s found (count_it s) v w g (ap (λ (q : Place). stored_act v q making) place)
      (ap (λ (q : Place). working_stored (number (extent_of shape)) v.working q (new_word immortal) making) place) told)

  named_it : (s found : ℕ) (v w : View) → Got (to_name s) (words + 2) s v → Told shape making (name_it s) v found w → Got None (words + 3) s w
  named_it s found v w g told =
      let place = place_at-number (extent_of shape) (Isa s) g.lt in
      subst (λ n. Got None n s w) (omega arith) (stored (to_name s) None (words + 2) s found (name_it s) v w g (ap (λ (q : Place). stored_act v q making) place)
      (ap (λ (q : Place). working_stored (number (extent_of shape)) v.working q (isa_word_of name) making) place) told)

  -- where the plan is, with what it was given
  abbrev IsAt : Making → Option ℕ → View → Type 0
  IsAt makings.Start last v = (last ≡ None) × Tried 0 [] v
  IsAt (makings.Looking k) None v = ⊥
  IsAt (makings.Looking k) (Some found) v = (k < words) × After k found v
  IsAt (makings.Taking s seen) None v = ⊥
  IsAt (makings.Taking s seen) (Some found) v = AfterOr s seen found v
  IsAt (makings.Counting s) None v = ⊥
  IsAt (makings.Counting s) (Some found) v = Got (to_name s) (words + 2) s v
  IsAt (makings.Naming s) None v = ⊥
  IsAt (makings.Naming s) (Some found) v = Got None (words + 3) s v
  IsAt makings.Ended last v = ⊥

  abbrev plan : Making → Creation
  plan m = record { layout = extent_of shape; name = name; immortal = immortal; at = m }

  abbrev Making_is : Creation → Option ℕ → View → Type 0
  Making_is p last v = (m : Making) × (p ≡ plan m) × IsAt m last v

  abbrev Outcome : NewObjectAnswer → View → Type 0
  Outcome (Slot s) v = Got None (words + 3) s v
  Outcome NoSlot v = Full v
  Outcome (Again c) v = Lost c v

  takes_at : (m : Making) (last : Option ℕ) (v : View) → IsAt m last v → creation_takes (plan m) last
  takes_at makings.Start last v i = i.0
  takes_at (makings.Looking k) None v i = absurd (i)
  takes_at (makings.Looking k) (Some f) v i = λ e. absurd (None≢Some f (sym e))
  takes_at (makings.Taking s seen) None v i = absurd (i)
  takes_at (makings.Taking s seen) (Some f) v i = λ e. absurd (None≢Some f (sym e))
  takes_at (makings.Counting s) None v i = absurd (i)
  takes_at (makings.Counting s) (Some f) v i = λ e. absurd (None≢Some f (sym e))
  takes_at (makings.Naming s) None v i = absurd (i)
  takes_at (makings.Naming s) (Some f) v i = λ e. absurd (None≢Some f (sym e))
  takes_at makings.Ended last v i = absurd (i)

  step_inj : {s t : Step} → Path (Next NewObjectAnswer) (nexts.Step s) (nexts.Step t) → s ≡ t
  step_inj e = cc

  done_inj : {a b : NewObjectAnswer} → Path (Next NewObjectAnswer) (nexts.Done a) (nexts.Done b) → a ≡ b
  done_inj e = cc

  done≢step : {X : Type 0} {a : NewObjectAnswer} {s : Step} → Path (Next NewObjectAnswer) (nexts.Done a) (nexts.Step s) → X
  done≢step e = absurd (cc)

  step≢done : {X : Type 0} {a : NewObjectAnswer} {s : Step} → Path (Next NewObjectAnswer) (nexts.Step s) (nexts.Done a) → X
  step≢done e = absurd (cc)

  -- a step of the plan, where it is m and goes on to n
  abbrev Stepping : Making → View → Making → Step → Type 0
  Stepping m v n a = Admits shape v a making × (making_left shape.slots n < making_left shape.slots m)
      × ((found : ℕ) (w : View) → Told shape making a v found w → Making_is (plan n) (Some found) w)

  looks : (m : Making) (k : ℕ) (v : View) → k < words → making_left shape.slots (makings.Looking k) < making_left shape.slots m → Tried k [] v → Stepping m v (makings.Looking k) (look k)
  looks m k v lt less t = (may_look k v lt t, less, λ found w told. (makings.Looking k, refl, (lt, after_look k found v w lt t told)))

  takes : (k s seen : ℕ) (v : View) → k < words → Seen s seen v → Stepping (makings.Looking k) v (makings.Taking s seen) (take s)
  takes k s seen v lt t = (may_take s seen v t, omega (arith, lt), λ found w told. (makings.Taking s seen, refl, after_take s seen found v w t told))

  counts : (s seen : ℕ) (v : View) → Got (to_count s) (words + 1) s v → Stepping (makings.Taking s seen) v (makings.Counting s) (count_it s)
  counts s seen v g = (may_count s v g, omega arith, λ found w told. (makings.Counting s, refl, counted_it s found v w g told))

  names : (s : ℕ) (v : View) → Got (to_name s) (words + 2) s v → Stepping (makings.Counting s) v (makings.Naming s) (name_it s)
  names s v g = (may_name s v g, omega arith, λ found w told. (makings.Naming s, refl, named_it s found v w g told))

  -- by what the last word showed
  abbrev look_answer : ℕ → Option ℕ → Bool → Next NewObjectAnswer
  look_answer k (Some s) c = nexts.Step (take s)
  look_answer k None c = cond c (nexts.Step (look (k + 1))) (nexts.Done NoSlot)

  abbrev look_next : ℕ → ℕ → Option ℕ → Bool → Making
  look_next k found (Some s) c = makings.Taking s found
  look_next k found None c = cond c (makings.Looking (k + 1)) makings.Ended

  look_answer_is : (k : ℕ) (m : Option ℕ) → looked_answer (extent_of shape) k m ≡ look_answer k m (nat_lt (k + 1) words)
  look_answer_is k (Some s) = refl
  look_answer_is k None = refl

  look_next_is : (k found : ℕ) (m : Option ℕ) → looked shape.slots k found m ≡ look_next k found m (nat_lt (k + 1) words)
  look_next_is k found (Some s) = refl
  look_next_is k found None = refl

  look_steps : (k found : ℕ) (v : View) (a : Step) → k < words → After k found v → look_answer k (free_slot shape.slots k found) (nat_lt (k + 1) words) ≡ nexts.Step a
      → Stepping (makings.Looking k) v (look_next k found (free_slot shape.slots k found) (nat_lt (k + 1) words)) a
  look_steps k found v a lt (inl (s, is, t)) = subst (λ m. look_answer k m (nat_lt (k + 1) words) ≡ nexts.Step a → Stepping (makings.Looking k) v (look_next k found m (nat_lt (k + 1) words)) a) (sym is)
      (λ e. subst (Stepping (makings.Looking k) v (makings.Taking s found)) (step_inj e) (takes k s found v lt t))
  look_steps k found v a lt (inr (inl (none, less, t))) = subst (λ (x : Option ℕ × Bool). look_answer k x.0 x.1 ≡ nexts.Step a → Stepping (makings.Looking k) v (look_next k found x.0 x.1) a) (λ j. (sym none j, sym (lt_true (k + 1) words (omega (arith, less))) j))
      (λ e. subst (Stepping (makings.Looking k) v (makings.Looking (k + 1))) (step_inj e) (looks (makings.Looking k) (k + 1) v (omega (arith, less)) (omega (arith, less)) (subst (λ n. Tried n [] v) (sym (add-one k)) t)))
  look_steps k found v a lt (inr (inr (none, last, f))) = subst (λ (x : Option ℕ × Bool). look_answer k x.0 x.1 ≡ nexts.Step a → Stepping (makings.Looking k) v (look_next k found x.0 x.1) a) (λ j. (sym none j, sym (lt_false (k + 1) words (omega (arith, last))) j))
      (λ e. done≢step e)

  look_ends : (k found : ℕ) (v : View) (a : NewObjectAnswer) → After k found v → look_answer k (free_slot shape.slots k found) (nat_lt (k + 1) words) ≡ nexts.Done a → Outcome a v
  look_ends k found v a (inl (s, is, t)) = subst (λ m. look_answer k m (nat_lt (k + 1) words) ≡ nexts.Done a → Outcome a v) (sym is) (λ e. step≢done e)
  look_ends k found v a (inr (inl (none, less, t))) = subst (λ (x : Option ℕ × Bool). look_answer k x.0 x.1 ≡ nexts.Done a → Outcome a v) (λ j. (sym none j, sym (lt_true (k + 1) words (omega (arith, less))) j)) (λ e. step≢done e)
  look_ends k found v a (inr (inr (none, last, f))) = subst (λ (x : Option ℕ × Bool). look_answer k x.0 x.1 ≡ nexts.Done a → Outcome a v) (λ j. (sym none j, sym (lt_false (k + 1) words (omega (arith, last))) j)) (λ e. subst (λ b. Outcome b v) (done_inj e) f)

  abbrev take_answer : Bool → ℕ → ℕ → ℕ → Next NewObjectAnswer
  take_answer b s seen found = cond b (nexts.Step (count_it s)) (nexts.Done (Again (record { seen = seen; found = found })))

  take_steps : (s seen found : ℕ) (v : View) (a : Step) → AfterOr s seen found v → take_answer (bit_and found (bit_of s) == 0) s seen found ≡ nexts.Step a → Stepping (makings.Taking s seen) v (cond (bit_and found (bit_of s) == 0) (makings.Counting s) makings.Ended) a
  take_steps s seen found v a (inl (clear, g)) = subst (λ b. take_answer b s seen found ≡ nexts.Step a → Stepping (makings.Taking s seen) v (cond b (makings.Counting s) makings.Ended) a) (sym clear)
      (λ e. subst (Stepping (makings.Taking s seen) v (makings.Counting s)) (step_inj e) (counts s seen v g))
  take_steps s seen found v a (inr (busy, l)) = subst (λ b. take_answer b s seen found ≡ nexts.Step a → Stepping (makings.Taking s seen) v (cond b (makings.Counting s) makings.Ended) a) (sym busy) (λ e. done≢step e)

  take_ends : (s seen found : ℕ) (v : View) (a : NewObjectAnswer) → AfterOr s seen found v → take_answer (bit_and found (bit_of s) == 0) s seen found ≡ nexts.Done a → Outcome a v
  take_ends s seen found v a (inl (clear, g)) = subst (λ b. take_answer b s seen found ≡ nexts.Done a → Outcome a v) (sym clear) (λ e. step≢done e)
  take_ends s seen found v a (inr (busy, l)) = subst (λ b. take_answer b s seen found ≡ nexts.Done a → Outcome a v) (sym busy) (λ e. subst (λ b. Outcome b v) (done_inj e) l)

  steps_at : (m : Making) (last : Option ℕ) (v : View) (a : Step) → 1 ≤ shape.slots → IsAt m last v → creation_answer (plan m) last ≡ nexts.Step a → Stepping m v (making_turned shape.slots m (unwrap_or last 0)) a
  steps_at makings.Start last v a some i is = subst (Stepping makings.Start v (makings.Looking 0)) (step_inj is) (looks makings.Start 0 v (omega (arith, some)) (omega arith) i.1)
  steps_at (makings.Looking k) None v a some i is = absurd (i)
  steps_at (makings.Looking k) (Some f) v a some i is = subst (λ n. Stepping (makings.Looking k) v n a) (sym (look_next_is k f (free_slot shape.slots k f))) (look_steps k f v a i.0 i.1 (sym (look_answer_is k (free_slot shape.slots k f)) ∙ is))
  steps_at (makings.Taking s seen) None v a some i is = absurd (i)
  steps_at (makings.Taking s seen) (Some f) v a some i is = take_steps s seen f v a i is
  steps_at (makings.Counting s) None v a some i is = absurd (i)
  steps_at (makings.Counting s) (Some f) v a some i is = subst (Stepping (makings.Counting s) v (makings.Naming s)) (step_inj is) (names s v i)
  steps_at (makings.Naming s) None v a some i is = absurd (i)
  steps_at (makings.Naming s) (Some f) v a some i is = done≢step is
  steps_at makings.Ended last v a some i is = absurd (i)

  ends_at : (m : Making) (last : Option ℕ) (v : View) (a : NewObjectAnswer) → IsAt m last v → creation_answer (plan m) last ≡ nexts.Done a → Outcome a v
  ends_at makings.Start last v a i is = step≢done is
  ends_at (makings.Looking k) None v a i is = absurd (i)
  ends_at (makings.Looking k) (Some f) v a i is = look_ends k f v a i.1 (sym (look_answer_is k (free_slot shape.slots k f)) ∙ is)
  ends_at (makings.Taking s seen) None v a i is = absurd (i)
  ends_at (makings.Taking s seen) (Some f) v a i is = take_ends s seen f v a i is
  ends_at (makings.Counting s) None v a i is = absurd (i)
  ends_at (makings.Counting s) (Some f) v a i is = step≢done is
  ends_at (makings.Naming s) None v a i is = absurd (i)
  ends_at (makings.Naming s) (Some f) v a i is = subst (λ b. Outcome b v) (done_inj is) i
  ends_at makings.Ended last v a i is = absurd (i)

  making_keeps : 1 ≤ shape.slots → Keeps creation_takes creation_turned creation_answer shape making Making_is Outcome creation_left
  making_keeps some = record {
    takes_it = λ p last v i. subst (λ q. creation_takes q last) (sym i.1) (takes_at i.0 last v i.2);
    steps_it = λ p last v a i is. subst (λ (q : Creation). Admits shape v a making × (creation_left (creation_turned q last) < creation_left q) × ((found : ℕ) (w : View) → Told shape making a v found w → Making_is (creation_turned q last) (Some found) w)) (sym i.1)
        (steps_at i.0 last v a some i.2 (subst (λ q. creation_answer q last ≡ nexts.Step a) i.1 is));
    ends_it = λ p last v a i is. ends_at i.0 last v a i.2 (subst (λ q. creation_answer q last ≡ nexts.Done a) i.1 is);
  }

  begun : Making_is (plan makings.Start) None v0
  begun = (makings.Start, refl, (refl, record { grew = grew_none v0; marks = []; trail = refl; long = refl; tries = refl; working = refl }))

  pub may_make : 1 ≤ shape.slots → MayRun creation_takes creation_turned creation_answer shape making (plan makings.Start) None v0
  may_make some = may_run creation_takes creation_turned creation_answer shape making Making_is Outcome creation_left (making_keeps some) (plan makings.Start) None v0 begun

  strong_of : (s : ℕ) (w : View) → w.number ≡ v0.number → Stands s w → IsStrongOf w k0 s name.class
  strong_of s w same t = (t.i, t.o, subst (λ p. spot (Hand p k0) (heap_of w) ≡ Some (record { place = t.i; kind = kinds.Strong })) (sym same) t.hand, t.here, t.slot, ap (λ (n : ObjectName). n.class) t.named)

  created : (a : NewObjectAnswer) (w : View) → Outcome a w → IsCreated shape name.class v0 w a × GoesOn shape (created_act name.class v0 a) (words + 3) v0 w
  created (Slot s) w g = (
    (g.lt, strong_of s w g.grew.number g.stands),
    record {
      called = record { grew = g.grew; legal = g.sound.legal; in_shape = g.sound.in_shape };
      working = g.working ∙ ap (λ m. record v0.working { owes = m }) (sym free);
      alone = g.sound.alone;
    },
  )
  created NoSlot w f = (
    (f.tried.marks, f.tried.trail, f.tried.long, f.tried.tries),
    record {
      called = record { grew = grew_most (acts.Full ∷ []) words (words + 3) v0 w (omega arith) f.tried.grew; legal = f.sound.legal; in_shape = f.sound.in_shape };
      working = f.tried.working;
      alone = f.sound.alone;
    },
  )
  created (Again c) w l = (
    l.lost,
    record {
      called = record { grew = grew_most [] (words + 1) (words + 3) v0 w (omega arith) l.grew; legal = l.sound.legal; in_shape = l.sound.in_shape };
      working = l.working;
      alone = l.sound.alone;
    },
  )

  pub has_made : 1 ≤ shape.slots → (a : NewObjectAnswer) (w : View) → Ran creation_turned creation_answer shape making (plan makings.Start) None v0 a w → IsCreated shape name.class v0 w a × GoesOn shape (created_act name.class v0 a) (words + 3) v0 w
  has_made some a w ran = created a w (has_run creation_takes creation_turned creation_answer shape making Making_is Outcome creation_left (making_keeps some) (plan makings.Start) None v0 a w ran begun)
