-- A stepper that makes an object.
use Rattle.std.proofs.Common.{◌≡◌, ◌≢◌, inl, inr, ℕ, suc, ◌+◌, ◌/◌, ◌<◌, ◌≤◌, ◌==◌, ◌&&◌, nat_lt, Bool, true, false, cond, not, List, [], ◌∷◌, ◌++◌, length, Option, Some, None, refl, sym, ap, ◌∙◌, subst, arith, eq-eqb, ne_eqb, add-one}
use Rattle.std.specs.Prelude.{slice_get, bit_and}
use Rattle.std.proofs.lemmas.Bool.{lt-ltb, le-ltb}
use Rattle.std.proofs.lemmas.List.Elements.{All-get_or}
use Rattle.std.proofs.lemmas.Option.{slice_get_within, get_or_from_slice_get}
use mathlib.Core.Logic.{dite}
use native.Mathlib.Decide.{ℕ_discrete}
use Rattle.arc_model.specs.declared.answer.Answer.TheVariants as answers
use Rattle.arc_model.specs.declared.event.Act.{Act}
use Rattle.arc_model.specs.declared.event.Act.TheVariants as acts
use Rattle.arc_model.specs.declared.event.ObjectName.{ObjectName}
use Rattle.arc_model.specs.Shapes.{HeapShape, class_at}
use Rattle.arc_model.specs.declared.shape.Kind.TheVariants.{Strong}
use Rattle.arc_model.specs.Holders.{at_slot, is_slot_taken}
use Rattle.arc_model.proofs.Basics.{Some-inj}
use Rattle.arc_model.specs.Heaps.{Hand, Object}
use Rattle.arc_model.specs.Effects.{made}
use Rattle.arc_model.specs.History.{History, heap_after, share, IsLegal}
use Rattle.arc_model.specs.Lookup.{spot}
use Rattle.arc_model.specs.Own.{brought}
use Rattle.arc_model.specs.References.{name_of}
use Rattle.arc_model.proofs.Own.{own_gains}
use Rattle.arc_rule.specs.Places.{extent_of, number, place_at}
use Rattle.arc_rule.specs.Extents.{Extent}
use Rattle.arc_rule.specs.Isa.{isa_word_of}
use Rattle.arc_rule.specs.Bits.{ShowsBits, words_of, bit_of, full_word, is_set}
use Rattle.arc_rule.proofs.Bits.{clear_at, set_in_full, thing_of_bit}
use Rattle.arc_spelling.specs.SpellingTies.Causes.{Judged}
use Rattle.arc_rule.proofs.Places.{place_at-number}
use Rattle.arc_rule.specs.declared.layout.Place.TheVariants.{Count, Isa, SlotBits}
use Rattle.arc_rule.specs.declared.step.Step.{Step}
use Rattle.arc_rule.specs.declared.step.Step.TheVariants.{Load}
use Rattle.arc_rule.specs.declared.layout.Place.{Place}
use Rattle.arc_rule.specs.declared.step.Intent.{Intent}
use Rattle.arc_rule.specs.declared.step.Intent.TheVariants as intents
use Rattle.arc_rule.specs.declared.plan.Next.{Next}
use Rattle.arc_rule.specs.declared.plan.Next.TheVariants as nexts
use Rattle.arc_plan.specs.declared.slots.Making.{Making as Search}
use Rattle.arc_plan.specs.declared.slots.Making.TheVariants as search
use Rattle.arc_plan.specs.declared.slots.NewObjectAnswer.{NewObjectAnswer}
use Rattle.arc_plan.specs.declared.slots.NewObjectAnswer.TheVariants.{NoSlot, Again}
use Rattle.arc_plan.specs.Slots.{Creation, IsTaking, free_slot, looked, looked_answer, new_word, looking, taking, counting, naming}
use Rattle.arc_plan.proofs.Bits.{free_is_clear, none_free_is_full}
use Rattle.arc_script.specs.declared.script.Op.TheVariants as op
use Rattle.arc_ops.specs.declared.stepper.Doing.{Doing}
use Rattle.arc_ops.specs.declared.stepper.Doing.TheVariants as doings
use Rattle.arc_ops.specs.declared.stepper.Move.TheVariants as moves
use Rattle.arc_served.specs.Programs.{ClassFits, ClassesFit, class_of}
use Rattle.arc_spelled.proofs.KindsKept.{holds-at}
use Rattle.arc_ops.specs.Thread.{Thread, put}
use Rattle.arc_ops.specs.Plans.{make_begun_as}
use Rattle.arc_ops.specs.Begins.{next_op}
use Rattle.arc_ops.specs.Drops.{replaced}
use Rattle.arc_ops.specs.Makes.{strong_to, made_on}
use Rattle.arc_ops.specs.Turns.{turned_at}
use Rattle.arc_ops.specs.Steppers.{IsStepper}
use Rattle.arc_spelled.specs.StepperStands.{Work, IsMaking}
use Rattle.arc_view.specs.declared.view.Mark.{Mark}
use Rattle.arc_view.specs.declared.view.Working.{Working}
use Rattle.arc_view.specs.declared.view.View.{View}
use Rattle.arc_view.specs.Views.{made_in}
use Rattle.arc_view.specs.Holding.{At, heap_of}
use Rattle.arc_view.specs.Rule.{is_new, news}
use Rattle.arc_view.specs.Kinds.{act_of, event_list, loaded_act, or_act, stored_act, working_loaded, working_or, working_stored, is_try, searched, is_fruitless, when}
use Rattle.arc_view.specs.Admission.{Admits}
use Rattle.arc_view.specs.Steps.{Told}
use Rattle.arc_view.specs.Calls.{Called}
use Rattle.arc_view.proofs.Lists.{share_more}
use Rattle.arc_view.proofs.Classes.{made_named, news_named}
use Rattle.arc_view.proofs.Strongs.{slot_found}
use Rattle.arc_view.proofs.Held.{held_stays, strong≢weak}
use Rattle.arc_view_laws.proofs.Counted.{counted_same}
use Rattle.arc_view_laws.proofs.Moving.{moved}
use Rattle.arc_ops_passes.specs.References.{in_vars, references, Leads, LeadsTo, Owns}
use Rattle.arc_ops_passes.specs.Drives.{SearchAsks, IsMade}
use Rattle.arc_ops_passes.proofs.Fields.{AllHold}
use Rattle.arc_ops_passes.proofs.Walks.{Walks, make_walks, next_walks, replaced_walks, new-some}
use Rattle.arc_ops_passes.proofs.Owned.{leads_on, to_still, owns_more, ref-itself}
use Rattle.arc_ops_passes.proofs.Goes.{quiet, Facts, Comes, known, knows_none, as_asked, told_by, fresh_under, fresh_coming, classed_still, classed_on, owes_still, owes_on, claims_on, owns_on, nothing_shown, stays}

lt_true : (a b : ℕ) → a < b → nat_lt a b ≡ true
lt_true a b lt = lt-ltb a b lt

lt_false : (a b : ℕ) → b ≤ a → nat_lt a b ≡ false
lt_false a b le = le-ltb a b le

three : (a b c : Bool) → a ≡ true → b ≡ true → c ≡ true → (a && b && c) ≡ true
three a b c x y z = ap (λ t. t && b && c) x ∙ (ap (λ t. t && c) y ∙ z)

-- one that doesn't hold is enough
first_fails : (a b c : Bool) → a ≡ false → (a && b && c) ≡ false
first_fails a b c x = ap (λ t. t && b && c) x

second_fails : (a b c : Bool) → b ≡ false → (a && b && c) ≡ false
second_fails true b c y = ap (λ t. t && c) y
second_fails false b c y = refl

try_holds : (place n k made f len : ℕ) → f ≡ full_word n k → is_try place n k made (record { step = Load place; found = f; length = len; made = made }) ≡ true
try_holds place n k made f len full = three (place == place) (f == full_word n k) (made == made) (eq-eqb place place refl) (eq-eqb f (full_word n k) full) (eq-eqb made made refl)

-- a word in which the slot's bit is clear isn't full
not_full : (n k s w : ℕ) → IsTaking n s w → s / 64 ≡ k → w ≢ full_word n k
not_full n k s w taking word full = go (is_set s w) clear set
  where
    clear : true ≡ not (is_set s w)
    clear = sym (eq-eqb (bit_and w (bit_of s)) 0 taking.clear) ∙ clear_at s w

    set : is_set s w ≡ true
    set = ap (is_set s) full ∙ (subst (λ j. is_set s (full_word n j) ≡ nat_lt s n) word (set_in_full n s) ∙ lt_true s n taking.below)

    go : (b : Bool) → true ≡ not b → b ≡ true → ⊥
    go true c e = absurd cc
    go false c e = absurd cc

abbrev pub making : Work → ℕ → ObjectName → Search → Doing
making w to name a = doings.Making to name (record { layout = extent_of w.shape; name = name; immortal = (class_at w.shape name.class).immortal; at = a })

-- an operation of the program that makes an object is for a class of the shape
class_fits : (w : Work) (t : Thread) (to class : ℕ) → IsStepper t → t.shape ≡ w.shape → t.program ≡ w.program → slice_get w.program t.index ≡ Some (op.New to class) → class < length w.shape.classes
class_fits w t to class stepper same program there =
    let at : slice_get t.program t.index ≡ Some (op.New to class) = ap (λ ops. slice_get ops t.index) program ∙ there in
    let fits : ClassFits (length t.shape.classes) (op.New to class) = subst (ClassFits (length t.shape.classes)) (get_or_from_slice_get t.program t.index (op.New to class) (op.New to class) at)
    (All-get_or (ClassFits (length t.shape.classes)) t.program t.index (op.New to class) (slice_get_within t.program t.index (op.New to class) at) stepper.classes_fit) in
    subst (λ (s : HeapShape). class < length s.classes) same fits.0

module _ (w : Work) (t : Thread) (v : View) (to : ℕ) (name : ObjectName) where
  abbrev at : ℕ → ℕ
  at k = number (extent_of w.shape) (SlotBits k)

  abbrev new : Intent
  new = intents.New name.class

  abbrev immortal : Bool
  immortal = (class_at w.shape name.class).immortal

  abbrev plan : Search → Creation
  plan a = record { layout = extent_of w.shape; name = name; immortal = (class_at w.shape name.class).immortal; at = a }

  -- ---- while it reads a word of the bits
  module _ (k : ℕ) (f : Facts w t v (making w to name (search.Looking k))) where
    inside : k < words_of w.shape.slots
    inside = subst (λ (e : Extent). k < words_of e.slots) f.is_for.0 f.fits.3

    free : v.working.owes ≡ None
    free = ap (λ (x : Working). x.owes) f.under_way.0

    pub look_allowed : Admits w.shape v (looking (extent_of w.shape) k) new
    look_allowed = (SlotBits k, refl, inside, free, tt, tt)

    -- the words before
    tries : searched at w.shape.slots (made_in v.number v.seen) k v.trail ≡ true
    tries = f.under_way.2

    module _ (found : ℕ) (v' : View) (told : Told w.shape new (looking (extent_of w.shape) k) v found v') where
      abbrev h : History
      h = told.between ++ v.seen

      abbrev d : Doing
      d = making w to name (search.Looking k)

      abbrev full : ℕ
      full = full_word w.shape.slots k

      works : v'.working ≡ v.working
      works = ap (λ (x : View). x.working) told.after ∙ ap (λ (q : Place). working_loaded v.working q found new) (place_at-number (extent_of w.shape) (SlotBits k) inside)

      shows : ShowsBits w.shape.slots k (λ s. is_slot_taken s (heap_after h)) found
      shows = (told.read (SlotBits k) tt inside refl).says (λ u. u)

      act_is : (b : Bool) → is_fruitless at w.shape.slots v k found ≡ b → act_of w.shape v (looking (extent_of w.shape) k) new found ≡ when b acts.Full
      act_is b e = ap (λ (q : Place). loaded_act w.shape v q found new) (place_at-number (extent_of w.shape) (SlotBits k) inside) ∙ ap (λ c. when c acts.Full) e

      -- it goes on without an event
      abbrev asks : Search → Step → Thread
      asks a step = record (quiet t) { doing = making w to name a; asked = moves.Step step new }

      pub takes_it_up : (s : ℕ) → free_slot w.shape.slots k found ≡ Some s → Comes w t v (looking (extent_of w.shape) k) new found v' h d (asks (search.Taking s found) (taking (extent_of w.shape) s))
      takes_it_up s e =
          let clear = free_is_clear w.shape.slots k found s e in
          let act : act_of w.shape v (looking (extent_of w.shape) k) new found ≡ None =
          act_is false (second_fails (suc k == words_of w.shape.slots) (found == full) (searched at w.shape.slots (made_in v.number v.seen) k v.trail) (ne_eqb found full (not_full w.shape.slots k s found clear.0 clear.1))) in
          let c = told_by w.shape new (looking (extent_of w.shape) k) v found v' None act told in
          stays w t v (looking (extent_of w.shape) k) new found v' d (asks (search.Taking s found) (taking (extent_of w.shape) s)) told f (λ x. cc) refl act refl tt refl refl (λ g. refl) (classed_still w.shape 1 w.classes v v' t.vars c f.classed) tt (refl, refl)
          (works ∙ f.under_way.0, owes_still w.shape 1 v v' c f.under_way.1, tt)

      -- the words with this one
      more_tries : (v'.seen ≡ h) → found ≡ full → searched at w.shape.slots (made_in v'.number v'.seen) (k + 1) v'.trail ≡ true
      more_tries seen is_full =
          let m : Mark = record { step = looking (extent_of w.shape) k; found = found; length = length h; made = made_in v.number h } in
          let made_is : made_in v.number h ≡ made_in v.number v.seen = ap length (share_more v.number v.seen told.between told.others) in
          let number_is : v'.number ≡ v.number = ap (λ (x : View). x.number) told.after in
          let trail : v'.trail ≡ m ∷ v.trail = ap (λ (x : View). x.trail) told.after in
          let step : (is_try (at k) w.shape.slots k (made_in v.number h) m && searched at w.shape.slots (made_in v.number h) k v.trail) ≡ true =
          ap (λ b. b && searched at w.shape.slots (made_in v.number h) k v.trail) (try_holds (at k) w.shape.slots k (made_in v.number h) found (length h) is_full)
          ∙ (ap (λ n. searched at w.shape.slots n k v.trail) made_is ∙ tries) in
          (λ j. searched at w.shape.slots (made_in (number_is j) (seen j)) (add-one k j) (trail j)) ∙ step

      pub looks_on : found ≡ full → k + 1 < words_of w.shape.slots → Comes w t v (looking (extent_of w.shape) k) new found v' h d (asks (search.Looking (k + 1)) (looking (extent_of w.shape) (k + 1)))
      looks_on is_full less =
          let act : act_of w.shape v (looking (extent_of w.shape) k) new found ≡ None =
          act_is false (first_fails (suc k == words_of w.shape.slots) (found == full) (searched at w.shape.slots (made_in v.number v.seen) k v.trail) (ne_eqb (suc k) (words_of w.shape.slots) (λ e. omega (arith, e, less)))) in
          let c = told_by w.shape new (looking (extent_of w.shape) k) v found v' None act told in
          let seen : v'.seen ≡ h = ap (λ (x : View). x.seen) told.after ∙ ap (λ a. event_list v.number a ++ h) act in
          stays w t v (looking (extent_of w.shape) k) new found v' d (asks (search.Looking (k + 1)) (looking (extent_of w.shape) (k + 1))) told f (λ x. cc) refl act refl tt refl refl (λ g. refl) (classed_still w.shape 1 w.classes v v' t.vars c f.classed) tt (refl, refl)
          (works ∙ f.under_way.0, owes_still w.shape 1 v v' c f.under_way.1, more_tries seen is_full)

      abbrev finds_full : Thread
      finds_full = next_op (put answers.Full (record (quiet t) { event = Some acts.Full }))

      pub finds_none : found ≡ full → k + 1 ≡ words_of w.shape.slots → Comes w t v (looking (extent_of w.shape) k) new found v' h d finds_full
      finds_none is_full last =
          let act : act_of w.shape v (looking (extent_of w.shape) k) new found ≡ Some acts.Full =
          act_is true (three (suc k == words_of w.shape.slots) (found == full) (searched at w.shape.slots (made_in v.number v.seen) k v.trail) (eq-eqb (suc k) (words_of w.shape.slots) (omega (arith, last))) (eq-eqb found full is_full) tries) in
          let c = told_by w.shape new (looking (extent_of w.shape) k) v found v' (Some acts.Full) act told in
          let m : Walks w (LeadsTo v') (put answers.Full (record (quiet t) { event = Some acts.Full })) finds_full (in_vars t.vars) = next_walks w (LeadsTo v') (put answers.Full (record (quiet t) { event = Some acts.Full })) f.is_for f.fit (classed_on w.shape 1 acts.Full w.classes v v' t.vars c (λ x held e. refl) f.classed) in record {
            takes_it = λ e. cc;
            event = act ∙ sym m.event;
            holds = subst (λ e. AllHold Judged w.shape (extent_of w.shape) (Some (looking (extent_of w.shape) k, new)) (Some found) w.thread e None h) (sym m.event) (nothing_shown w.shape f.sized (extent_of w.shape) (looking (extent_of w.shape) k) new found w.thread (Some acts.Full) h tt tt);
            knows = knows_none v';
            count = m.count ∙ f.count;
            classed = m.classed;
            coming = fresh_coming w.classes v' finds_full.doing m.fresh;
            owns = subst (λ n. Owns v' n (references finds_full.vars finds_full.hands finds_full.doing)) (sym m.hands)
                (owns_on w.shape 1 acts.Full v v' t.hands (references t.vars t.hands d) (references finds_full.vars finds_full.hands finds_full.doing) c (λ h. refl) refl f.owns (λ g. let e = m.same g in omega arith));
            no_claim = claims_on w.shape 1 acts.Full v v' c (λ m e. refl) f.no_claim;
            asks = m.asks;
            under_way = fresh_under w.shape v' finds_full.doing m.fresh (works ∙ f.under_way.0) (owes_on w.shape 1 acts.Full v v' c (λ i h. refl) f.under_way.1);
          }

      pub look_comes : Comes w t v (looking (extent_of w.shape) k) new found v' h d (turned_at (Some found) d (quiet t))
      look_comes = go (free_slot w.shape.slots k found) refl
        where
          Then : Search → Next NewObjectAnswer → Type 0
          Then a next = Comes w t v (looking (extent_of w.shape) k) new found v' h d (made_on to name (plan a) next (quiet t))

          next_if : Bool → Search
          next_if b = cond b (search.Looking (k + 1)) search.Ended

          answer_if : Bool → Next NewObjectAnswer
          answer_if b = cond b (nexts.Step (looking (extent_of w.shape) (k + 1))) (nexts.Done NoSlot)

          go : (o : Option ℕ) → free_slot w.shape.slots k found ≡ o → Then (looked w.shape.slots k found o) (looked_answer (extent_of w.shape) k o)
          go (Some s) e = takes_it_up s e
          go None e =
              let is_full : found ≡ full = none_free_is_full w.shape.slots k (λ s. is_slot_taken s (heap_after h)) found shows e in
              dite (ℕ_discrete (k + 1) (words_of w.shape.slots))
              (λ last. subst (λ b. Then (next_if b) (answer_if b)) (sym (lt_false (k + 1) (words_of w.shape.slots) (omega (arith, last)))) (finds_none is_full last))
              (λ more. let less : k + 1 < words_of w.shape.slots = let b = inside in omega (arith, more) in subst (λ b. Then (next_if b) (answer_if b)) (sym (lt_true (k + 1) (words_of w.shape.slots) less)) (looks_on is_full less))

  -- ---- while it takes a slot
  module _ (s seen : ℕ) (f : Facts w t v (making w to name (search.Taking s seen))) where
    below : s < w.shape.slots
    below = subst (λ (e : Extent). s < e.slots) f.is_for.0 f.fits.3.below

    word_in : s / 64 < words_of w.shape.slots
    word_in = let b = below in omega arith

    not_owed : v.working.owes ≡ None
    not_owed = ap (λ (x : Working). x.owes) f.under_way.0

    is_making : IsMaking (known v w) t.index to name t.vars f.notes
    is_making = f.up_to

    room : news v.number v.seen < 100000
    room = let a = f.made in let b = f.in_op.0 in let c = f.in_op.1 in let d = f.stepper.few in omega arith

    pub take_allowed : Admits w.shape v (taking (extent_of w.shape) s) new
    take_allowed = (SlotBits (s / 64), refl, word_in, not_owed, (s, refl, below, refl, class_fits w t to name.class f.stepper f.is_for.1 f.program is_making.begun.there, room))

    module _ (found : ℕ) (v' : View) (told : Told w.shape new (taking (extent_of w.shape) s) v found v') where
      abbrev h_taken : History
      h_taken = told.between ++ v.seen

      abbrev d_taking : Doing
      d_taking = making w to name (search.Taking s seen)

      abbrev bits : ℕ
      bits = bit_and found (bit_of s)

      abbrev owing : ℕ → Working
      owing x = record v.working { owes = Some (record { slot = x; counted = false }) }

      works_taken : (b : Bool) → (bits == 0) ≡ b → v'.working ≡ cond b (owing s) v.working
      works_taken b e = ap (λ (x : View). x.working) told.after
          ∙ ((λ j. cond (e j) (working_or v.working (place_at-number (extent_of w.shape) (SlotBits (s / 64)) word_in j) (bit_of s) new) v.working) ∙ ap (λ x. cond b (owing x) v.working) (thing_of_bit s))

      -- the slot was free
      abbrev look : Act
      look = acts.New (t.hands + 1) name.class s

      abbrev took : Thread
      took = record (quiet t) {
        doing = making w to name (search.Counting s);
        asked = moves.Step (counting (extent_of w.shape) immortal s) new;
        hands = t.hands + 1;
        made = t.made + 1;
        event = Some (acts.New (t.hands + 1) name.class s);
      }

      hit_act_is : bits ≡ 0 → act_of w.shape v (taking (extent_of w.shape) s) new found ≡ Some look
      hit_act_is hit =
          (λ j. cond (eq-eqb bits 0 hit j) (or_act v (place_at-number (extent_of w.shape) (SlotBits (s / 64)) word_in j) (bit_of s) new) None)
          ∙ (λ j. Some (acts.New (f.next j) name.class (thing_of_bit s j)))

      module _ (hit : bits ≡ 0) where
        called : Called w.shape (look ∷ []) 1 v v'
        called = told_by w.shape new (taking (extent_of w.shape) s) v found v' (Some look) (hit_act_is hit) told

        seen_is : v'.seen ≡ record { thread = v.number; act = look } ∷ h_taken
        seen_is = ap (λ (x : View). x.seen) told.after ∙ ap (λ a. event_list v.number a ++ h_taken) (hit_act_is hit)

        number_is : v'.number ≡ v.number
        number_is = ap (λ (x : View). x.number) told.after

        legal : IsLegal w.shape (record { thread = v.number; act = look } ∷ h_taken)
        legal = subst (IsLegal w.shape) seen_is told.legal

        abbrev o : Object
        o = made v.number (t.hands + 1) name.class s (heap_after h_taken).objects

        end-here : (os : List Object) → slice_get (os ++ o ∷ []) (length os) ≡ Some o
        end-here [] = refl
        end-here (r ∷ os) = end-here os

        here : At (heap_of v') (length (heap_after h_taken).objects) o
        here = ap (λ k. slice_get (heap_after k).objects (length (heap_after h_taken).objects)) seen_is ∙ end-here (heap_after h_taken).objects

        leads : Leads v' (strong_to (t.hands + 1) s)
        leads = (
          tt,
          length (heap_after h_taken).objects,
          o,
          (λ j. spot (Hand (number_is j) (t.hands + 1)) (heap_after (seen_is j))) ∙ own_gains w.shape h_taken (record { thread = v.number; act = look }) (t.hands + 1) legal refl,
          here,
          refl,
        )

        named : name_of o ≡ name
        named =
            let share_is : share h_taken v.number ≡ share v.seen v.number = share_more v.number v.seen told.between told.others in
            let m = made_named v.number (heap_after h_taken).objects ∙ (news_named v.number h_taken ∙ (counted_same is_new v.number h_taken v.seen share_is ∙ f.made)) in
            (λ j. record { class = name.class; thread = (f.number j); number = m j + 1 }) ∙ ((λ j. record { class = name.class; thread = w.thread; number = f.made_is j + 1 }) ∙ sym is_making.named)

        spots : (k : ℕ) → k ≢ t.hands + 1 → spot (Hand v'.number k) (heap_of v') ≡ spot (Hand v.number k) (heap_of v)
        spots k ne =
            let m = moved w.shape look 1 v v' called in
            m.hands k ∙ ap (λ b. cond b (brought (heap_after m.met) v.number look) (spot (Hand v.number k) (heap_of v))) (ne_eqb (t.hands + 1) k (λ e. ne (sym e)))

        pub takes_slot : Comes w t v (taking (extent_of w.shape) s) new found v' h_taken d_taking took
        takes_slot = record {
          takes_it = λ e. cc;
          event = hit_act_is hit;
          holds = nothing_shown w.shape f.sized (extent_of w.shape) (taking (extent_of w.shape) s) new found w.thread took.event h_taken tt tt;
          knows = knows_none v';
          count = f.count;
          classed = classed_on w.shape 1 look w.classes v v' t.vars called (λ x held e. refl) f.classed;
          coming = tt;
          owns = owns_more v v' t.hands (references t.vars t.hands d_taking) (references took.vars took.hands took.doing) (strong_to (t.hands + 1) s) f.owns refl (λ g. omega arith) leads (λ x. leads_on w.shape look 1 v v' x called refl) spots;
          no_claim = claims_on w.shape 1 look v v' called (λ m e. refl) f.no_claim;
          asks = (refl, refl);
          under_way = (
            works_taken true (eq-eqb bits 0 hit) ∙ ap (λ (x : Working). record x { owes = Some (record { slot = s; counted = false }) }) f.under_way.0,
            owes_on w.shape 1 look v v' called (λ i h. refl) f.under_way.1,
            (o, slot_found w.shape v'.seen (length (heap_after h_taken).objects) s o told.legal here refl, named),
          );
        }

      -- another took it in the meantime: the object is to be made all over
      abbrev anew : Thread
      anew = make_begun_as to name (quiet t)

      pub begins_anew : bits ≢ 0 → Comes w t v (taking (extent_of w.shape) s) new found v' h_taken d_taking anew
      begins_anew ne =
          let act : act_of w.shape v (taking (extent_of w.shape) s) new found ≡ None =
          ap (λ b. cond b (or_act v (place_at (extent_of w.shape) (at (s / 64))) (bit_of s) new) None) (ne_eqb bits 0 ne) in
          let c = told_by w.shape new (taking (extent_of w.shape) s) v found v' None act told in
          let m = make_walks w (LeadsTo v') to name (quiet t) (quiet t) (in_vars t.vars) f.is_for refl refl refl (λ g. refl) (classed_still w.shape 1 w.classes v v' t.vars c f.classed) in
          stays w t v (taking (extent_of w.shape) s) new found v' d_taking anew told f (λ x. cc) refl act m.event tt m.hands m.count (λ g. let e = m.same g in omega arith) m.classed (fresh_coming w.classes v' anew.doing m.fresh) m.asks
          (fresh_under w.shape v' anew.doing m.fresh (works_taken false (ne_eqb bits 0 ne) ∙ f.under_way.0) (owes_still w.shape 1 v v' c f.under_way.1))

      pub take_comes : Comes w t v (taking (extent_of w.shape) s) new found v' h_taken d_taking (turned_at (Some found) d_taking (quiet t))
      take_comes = dite (ℕ_discrete bits 0) (λ e. subst Then (sym (eq-eqb bits 0 e)) (takes_slot e)) (λ ne. subst Then (sym (ne_eqb bits 0 ne)) (begins_anew ne))
        where
          Then : Bool → Type 0
          Then b = Comes w t v (taking (extent_of w.shape) s) new found v' h_taken d_taking
              (made_on to name (plan (cond b (search.Counting s) search.Ended)) (cond b (nexts.Step (counting (extent_of w.shape) immortal s)) (nexts.Done (Again (record { seen = seen; found = found })))) (quiet t))

  -- ---- while it stores the inline word
  module _ (s : ℕ) (f : Facts w t v (making w to name (search.Counting s))) where
    in_slot_of : s < w.shape.slots
    in_slot_of = subst (λ (e : Extent). s < e.slots) f.is_for.0 f.fits.3

    is_made : IsMade v name s
    is_made = f.under_way.2

    pub count_allowed : Admits w.shape v (counting (extent_of w.shape) immortal s) new
    count_allowed = let m = is_made in (
      Count s,
      refl,
      in_slot_of,
      (
        record { slot = s; counted = false },
        m.0,
        ap (λ (x : Working). x.owes) f.under_way.0,
        m.1,
        inl (refl, refl, ap (λ (n : ObjectName). new_word (class_at w.shape n.class).immortal) (sym m.2)),
      ),
    )

    module _ (found : ℕ) (v' : View) (told : Told w.shape new (counting (extent_of w.shape) immortal s) v found v') where
      abbrev h_counted : History
      h_counted = told.between ++ v.seen

      abbrev d_counting : Doing
      d_counting = making w to name (search.Counting s)

      act_none : act_of w.shape v (counting (extent_of w.shape) immortal s) new found ≡ None
      act_none = ap (λ (q : Place). stored_act v q new) (place_at-number (extent_of w.shape) (Count s) in_slot_of)

      seen_same : v'.seen ≡ h_counted
      seen_same = ap (λ (x : View). x.seen) told.after ∙ ap (λ a. event_list v.number a ++ h_counted) act_none

      legal_then : IsLegal w.shape h_counted
      legal_then = subst (IsLegal w.shape) seen_same told.legal

      -- its only reference keeps it
      leads_there : Leads v (strong_to t.hands s)
      leads_there = f.owns.leads (strong_to t.hands s) (let one = ref-itself (strong_to t.hands s) in omega arith)

      still_made : IsMade v' name s
      still_made =
          let r = leads_there in
          let k = held_stays w.shape v.number t.hands r.1 Strong r.2 v.seen told.between legal_then told.others r.3 r.4 in
          let same : r.2 ≡ is_made.0 = Some-inj (sym (slot_found w.shape v.seen r.1 s r.2 f.legal r.4 r.5) ∙ is_made.1) in
          let name_is : name_of k.q ≡ name_of r.2 = (λ j. record { class = k.class j; thread = (k.id j).thread; number = (k.id j).number }) in (
            k.q,
            ap (λ x. at_slot s (heap_after x)) seen_same ∙ slot_found w.shape h_counted r.1 s k.q legal_then k.here (k.slot strong≢weak ∙ r.5),
            name_is ∙ (ap name_of same ∙ is_made.2),
          )

      abbrev counted : Thread
      counted = record (quiet t) { doing = making w to name (search.Naming s); asked = moves.Step (naming (extent_of w.shape) name s) new }

      pub count_comes : Comes w t v (counting (extent_of w.shape) immortal s) new found v' h_counted d_counting counted
      count_comes =
          let c = told_by w.shape new (counting (extent_of w.shape) immortal s) v found v' None act_none told in
          stays w t v (counting (extent_of w.shape) immortal s) new found v' d_counting counted told f (λ e. cc) refl act_none refl tt refl refl (λ g. refl) (classed_still w.shape 1 w.classes v v' t.vars c f.classed) tt (refl, refl) (
            ap (λ (x : View). x.working) told.after ∙ (ap (λ (q : Place). working_stored (number (extent_of w.shape)) v.working q (new_word immortal) new) (place_at-number (extent_of w.shape) (Count s) in_slot_of)
                ∙ ap (λ (x : Working). record x { owes = Some (record { slot = s; counted = true }) }) f.under_way.0),
            owes_still w.shape 1 v v' c f.under_way.1,
            still_made,
          )

  -- ---- while it stores the name
  module _ (s : ℕ) (f : Facts w t v (making w to name (search.Naming s))) where
    in_slot : s < w.shape.slots
    in_slot = subst (λ (e : Extent). s < e.slots) f.is_for.0 f.fits.3

    pub name_allowed : Admits w.shape v (naming (extent_of w.shape) name s) new
    name_allowed = let n = f.under_way.2 in (Isa s, refl, in_slot, (record { slot = s; counted = true }, n.0, ap (λ (x : Working). x.owes) f.under_way.0, n.1, inr (refl, refl, ap isa_word_of (sym n.2))))

    -- its object is of the variable's class
    of_class : LeadsTo v (strong_to t.hands s) (class_of w.classes to)
    of_class =
        let r = f.owns.leads (strong_to t.hands s) (let one = ref-itself (strong_to t.hands s) in omega arith) in
        let n : IsMade v name s = f.under_way.2 in
        let same : r.2 ≡ n.0 = Some-inj (sym (slot_found w.shape v.seen r.1 s r.2 f.legal r.4 r.5) ∙ n.1) in
        let fits : class_of w.classes to ≡ name.class = holds-at (ClassesFit w.shape w.classes) w.program t.index (op.New to name.class) f.served.classes_fit f.up_to.making.begun.there in
        (r.0, r.1, r.2, r.3, r.4, r.5, ap (λ (o : Object). o.class) same ∙ (ap (λ (x : ObjectName). x.class) n.2 ∙ sym fits))

    module _ (found : ℕ) (v' : View) (told : Told w.shape new (naming (extent_of w.shape) name s) v found v') where
      abbrev named_thread : Thread
      named_thread = put (answers.New name) (quiet t)

      abbrev done : Thread
      done = replaced to (Some (strong_to t.hands s)) named_thread

      name_act : act_of w.shape v (naming (extent_of w.shape) name s) new found ≡ None
      name_act = ap (λ (q : Place). stored_act v q new) (place_at-number (extent_of w.shape) (Isa s) in_slot)

      pub name_comes : Comes w t v (naming (extent_of w.shape) name s) new found v' (told.between ++ v.seen) (making w to name (search.Naming s)) done
      name_comes =
          let c = told_by w.shape new (naming (extent_of w.shape) name s) v found v' None name_act told in
          let there = to_still w.shape 1 v v' (strong_to t.hands s) (class_of w.classes to) c of_class in
          let m = replaced_walks w (LeadsTo v') named_thread to (Some (strong_to t.hands s)) f.is_for f.fit f.fits.0 (classed_still w.shape 1 w.classes v v' t.vars c f.classed) (new-some (LeadsTo v') (class_of w.classes to) (strong_to t.hands s) there) in
          let works : v'.working ≡ record v.working { owes = None } =
          ap (λ (x : View). x.working) told.after ∙ ap (λ (q : Place). working_stored (number (extent_of w.shape)) v.working q (isa_word_of name) new) (place_at-number (extent_of w.shape) (Isa s) in_slot) in
          stays w t v (naming (extent_of w.shape) name s) new found v' (making w to name (search.Naming s)) done told f (λ e. cc) refl name_act m.event tt m.hands m.count m.same m.classed (fresh_coming w.classes v' done.doing m.fresh) m.asks
          (fresh_under w.shape v' done.doing m.fresh (works ∙ ap (λ (x : Working). record x { owes = None }) f.under_way.0) (owes_still w.shape 1 v v' c f.under_way.1))

-- ---- by where the making is

pub makes_allowed : (w : Work) (t : Thread) (v : View) (to : ℕ) (name : ObjectName) (plan : Creation) (step : Step) (intent : Intent) → Facts w t v (doings.Making to name plan) → t.asked ≡ moves.Step step intent → Admits w.shape v step intent
makes_allowed w t v to name plan step intent f asked = at plan.at f.asks.1 (subst (λ (p : Creation). Facts w t v (doings.Making to name p)) f.asks.0 f)
  where
    is : (x : Step) → t.asked ≡ moves.Step x (intents.New name.class) → Admits w.shape v x (intents.New name.class) → Admits w.shape v step intent
    is x ask = as_asked t.asked (λ y. Admits w.shape v y.0 y.1) step x intent (intents.New name.class) ask asked

    at : (a : Search) → SearchAsks w.shape t.asked name a → Facts w t v (making w to name a) → Admits w.shape v step intent
    at search.Start ask g = absurd ask
    at (search.Looking k) ask g = is (looking (extent_of w.shape) k) ask (look_allowed w t v to name k g)
    at (search.Taking s seen) ask g = is (taking (extent_of w.shape) s) ask (take_allowed w t v to name s seen g)
    at (search.Counting s) ask g = is (counting (extent_of w.shape) (class_at w.shape name.class).immortal s) ask (count_allowed w t v to name s g)
    at (search.Naming s) ask g = is (naming (extent_of w.shape) name s) ask (name_allowed w t v to name s g)
    at search.Ended ask g = absurd ask

pub makes_come : (w : Work) (t : Thread) (v : View) (to : ℕ) (name : ObjectName) (plan : Creation) (step : Step) (intent : Intent) (found : ℕ) (v' : View) → Facts w t v (doings.Making to name plan) → t.asked ≡ moves.Step step intent
    → (told : Told w.shape intent step v found v') → Comes w t v step intent found v' (told.between ++ v.seen) (doings.Making to name plan) (turned_at (Some found) (doings.Making to name plan) (quiet t))
makes_come w t v to name plan step intent found v' f asked =
    subst (λ (p : Creation). (told : Told w.shape intent step v found v') → Comes w t v step intent found v' (told.between ++ v.seen) (doings.Making to name p) (turned_at (Some found) (doings.Making to name p) (quiet t))) (sym f.asks.0)
    (at plan.at f.asks.1 (subst (λ (p : Creation). Facts w t v (doings.Making to name p)) f.asks.0 f))
  where
    Case : Search → Step × Intent → Type 0
    Case a x = (told : Told w.shape x.1 x.0 v found v') → Comes w t v x.0 x.1 found v' (told.between ++ v.seen) (making w to name a) (turned_at (Some found) (making w to name a) (quiet t))

    is : (a : Search) (x : Step) → t.asked ≡ moves.Step x (intents.New name.class) → Case a (x, intents.New name.class) → Case a (step, intent)
    is a x ask = as_asked t.asked (Case a) step x intent (intents.New name.class) ask asked

    at : (a : Search) → SearchAsks w.shape t.asked name a → Facts w t v (making w to name a) → Case a (step, intent)
    at search.Start ask g = absurd ask
    at (search.Looking k) ask g = is (search.Looking k) (looking (extent_of w.shape) k) ask (look_comes w t v to name k g found v')
    at (search.Taking s seen) ask g = is (search.Taking s seen) (taking (extent_of w.shape) s) ask (take_comes w t v to name s seen g found v')
    at (search.Counting s) ask g = is (search.Counting s) (counting (extent_of w.shape) (class_at w.shape name.class).immortal s) ask (count_comes w t v to name s g found v')
    at (search.Naming s) ask g = is (search.Naming s) (naming (extent_of w.shape) name s) ask (name_comes w t v to name s g found v')
    at search.Ended ask g = absurd ask
