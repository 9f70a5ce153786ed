-- One bridge: a fact on histories, with no seat in it, makes a step that the rule allows.
use Rattle.std.proofs.Common.{◌≡◌, ◌⊎◌, inl, inr, ⊎_elim, ℕ, ◌/◌, ◌%◌, ◌≤◌, ◌<◌, eqb, Bool, true, false, List, [], ◌++◌, Some, None, refl, sym, ap, ◌∙◌, subst, arith, le_trans, set}
use Rattle.std.specs.Prelude.{slice_index}
use Rattle.std.proofs.lemmas.List.{set-get_or}
use Rattle.std.proofs.lemmas.Nat.Bits.{bit_at-zero}
use mathlib.Core.Option.{some, some-injective}
use lib.ListN.{get_elem?}
use Rattle.atomic_table.specs.Table.{State, Me, Allows, keeps}
use Rattle.arc_model.specs.declared.event.CellName.TheVariants as cells
use Rattle.arc_model.specs.Shapes.{HeapShape}
use Rattle.arc_model.specs.Heaps.{Field as field_holder, Deinit, Object}
use Rattle.arc_model.specs.Holders.{is_slot_taken, is_entry_taken}
use Rattle.arc_model.specs.Cells.{is_nil, is_live}
use Rattle.arc_model.specs.History.{History, heap_after, share, next_hand, IsLegal}
use Rattle.arc_model.specs.Lookup.{duty_of, duty_in, owed_by}
use Rattle.arc_model.proofs.Basics.{None≢Some, true≢false}
use Rattle.arc_model.proofs.Others.{others_leave}
use Rattle.arc_model.proofs.Courses.{well_formed}
use Rattle.arc_model.proofs.Since.{next_hand_stays}
use Rattle.arc_model.proofs.Fields.{nil_fields_stay}
use Rattle.arc_model.proofs.Stages.{dying-facts}
use Rattle.arc_rule.specs.declared.step.Step.{Step}
use Rattle.arc_rule.specs.declared.step.Step.TheVariants.{Load, Exchange, Store, Or, And}
use Rattle.arc_rule.specs.declared.step.Intent.{Intent}
use Rattle.arc_rule.specs.declared.layout.Place.{Place}
use Rattle.arc_rule.specs.declared.layout.Place.TheVariants.{Zero, Global, Count, Isa, Next, Field, Link, Strong, Unowned, Weak, SlotBits, EntryBits}
use Rattle.arc_rule.specs.Places.{IsPlace, extent_of, number}
use Rattle.arc_rule.specs.Bits.{is_set}
use Rattle.arc_rule.specs.Shown.{Says, ShowsBut, word_at}
use Rattle.arc_rule.proofs.Bits.{bit_shown}
use Rattle.arc_rule.specs.Steps.{place_of}
use Rattle.arc_view.specs.declared.view.Role.TheVariants.{Pass}
use Rattle.arc_view.specs.declared.view.Entered.{Entered}
use Rattle.arc_view.specs.declared.view.Naming.{Naming}
use Rattle.arc_view.specs.declared.view.Working.{Working}
use Rattle.arc_view.specs.declared.view.View.{View}
use Rattle.arc_view.specs.Views.{Each, within, private_words, Excepts}
use Rattle.arc_view.specs.Holding.{At}
use Rattle.arc_view.specs.Admission.{KnowsSlot}
use Rattle.arc_view.specs.Rule.{MarkFits, OldFits, IsOwn, CellStays, IsMine, IsNew, EnteredFits, WorkFits, Lies, Lying, Excepted, InShape, IsSized, IsKept}
use Rattle.arc_view.specs.Kinds.{act_of, event_list, working_after}
use Rattle.arc_view.specs.Steps.{KeepsRule, given_back, Reads, moved, Stands, IsUnsettled, IsKeptAt, IsRead, Tells}
use Rattle.arc_view.proofs.Lists.{each_more, others_came}
use Rattle.arc_view.proofs.Held.{dying_stays, new_stays, owed_duty}
use Rattle.arc_view.proofs.Keeps.{legal_left, owner_stays, reach_stays, stays_self}
use Rattle.arc_view.proofs.Busy.{cell_at, access_reaches, busy_held, own_busy}
use Rattle.arc_view.proofs.Known.{Settles, AccessStays, known_apart}
use Rattle.arc_view.proofs.Advance.{IsThere, Good, Sees, Settled, reach_there, advance, advance_log, new_once}

-- an object whose deinit is owed isn't live
pub dying_dead : (shape : HeapShape) (h : History) (p i : ℕ) (o : Object) → IsLegal shape h → At (heap_after h) i o → duty_of p i (heap_after h) ≡ Some Deinit → is_live shape o ≡ false
dying_dead shape h p i o legal here duty =
    let owed : owed_by p o.owed ≡ Some Deinit = ap (λ m. duty_in p m) (sym here) ∙ duty in
    let f = dying-facts o ((well_formed shape h legal).whole i o here) (owed_duty p o.owed owed) in
    ap not_it f.strong
  where
    not_it : Bool → Bool
    not_it true = false
    not_it false = true

-- a deinit that was entered stays so, whatever others do
pub entered_stays : (shape : HeapShape) (p : ℕ) (before after : History) (e : Entered) → IsLegal shape (after ++ before) → share after p ≡ [] → EnteredFits shape p before e → EnteredFits shape p (after ++ before) e
entered_stays shape p before after e legal none f =
    let q = dying_stays shape p f.place f.object before after legal none f.duty f.here in record {
      place = f.place;
      object = q.0;
      here = q.1;
      slot = q.2 ∙ f.slot;
      duty = (others_leave shape p before after legal none).duties f.place ∙ f.duty;
      nils = λ g lt. ap (λ id. is_nil (heap_after (after ++ before)) (field_holder id g)) q.3
          ∙ nil_fields_stay shape before after f.place f.object g legal f.here (dying_dead shape before p f.place f.object (legal_left shape after before legal) f.here f.duty) (f.nils g lt);
      parent = f.parent;
    }

-- what a thread has under way stays, whatever others do
pub work_stays : (shape : HeapShape) (p : ℕ) (before after : History) (w : Working) → IsLegal shape (after ++ before) → share after p ≡ [] → WorkFits shape p before w → WorkFits shape p (after ++ before) w
work_stays shape p before after w legal none f = record {
  owing = λ m e. let n = f.owing m e in (n.0, new_stays shape p m.slot before after legal none (legal_left shape after before legal) n.1);
  reaches = λ a e. let r = f.reaches a e in (r.0, reach_stays shape before after a.cell p legal none r.1);
  private = each_more (IsMine shape (heap_after before) p) (IsMine shape (heap_after (after ++ before)) p) (λ k m. (m.0, owner_stays shape before after k.place p legal none m.1)) (private_words w) f.private;
  entered = each_more (EnteredFits shape p before) (EnteredFits shape p (after ++ before)) (λ e m. entered_stays shape p before after e legal none m) w.entered f.entered;
}

-- what a kind may use: the history is legal, and goes on from what the pass has seen by events of others
pub record Before (shape : HeapShape) (v : View) (h : History) : Type 0 where
  pub sized : IsSized shape
  pub legal : IsLegal shape h
  pub in_shape : InShape shape h
  pub rest : History
  pub is : h ≡ rest ++ v.seen
  pub others : share rest v.number ≡ []
  pub own : share h v.number ≡ share v.seen v.number
  pub marks : Each (MarkFits shape v.number v.seen) v.trail
  pub few : v.number ≤ 64
  pub seen_work : WorkFits shape v.number v.seen v.working
  pub work : WorkFits shape v.number h v.working
  -- no event has changed the cell of an access
  pub stays : AccessStays h v

pub next_same : (shape : HeapShape) (v : View) (h : History) → Before shape v h → next_hand v.number v.seen ≡ next_hand v.number h
next_same shape v h b = sym (next_hand_stays v.number v.seen b.rest b.others) ∙ ap (next_hand v.number) (sym b.is)

-- the word that a step finds, for a kind
abbrev pub Reading : HeapShape → View → History → ℕ → ℕ → Type 0
Reading shape v h i x = v.working.owes ≡ None → (pl : Place) → IsPlace (extent_of shape) pl → i ≡ number (extent_of shape) pl → IsRead shape v h pl x

-- the word that a step finds in a field, for a kind: the heap says it where the field's object isn't live, since no view accesses it
abbrev pub Resting : HeapShape → History → ℕ → ℕ → Type 0
Resting shape h i x = (t f : ℕ) → IsPlace (extent_of shape) (Field t f) → i ≡ number (extent_of shape) (Field t f) → (IsThere (heap_after h) (cells.Field t f) → ⊥) → Says shape (heap_after h) (Field t f) x

-- a bit that is set in what a step gives back was found set
given_set : (x : ℕ) (st : Step) (w : ℕ) → is_set x (given_back st w) ≡ true → is_set x w ≡ true
given_set x (Load place) w set = set
given_set x (Exchange place old new) w set = set
given_set x (Store place new) w set = absurd (true≢false (sym set ∙ ap (λ b. eqb b 1) (bit_at-zero (x % 64))))
given_set x (Or place bits) w set = set
given_set x (And place bits) w set = set

-- what a step may be at: an inline word or an isa word only where the pass keeps the object, or is to store it
abbrev pub AllSettles : HeapShape → View → ℕ → Type 0
AllSettles shape v i = (pl : Place) → IsPlace (extent_of shape) pl → i ≡ number (extent_of shape) pl → Settles v pl

module _ {S : Type 0} (shape : HeapShape) (s : State S View) (k : IsKept shape s) where
  -- an object whose name a view owes is new now
  owed_new : (i : ℕ) (u : View) → get_elem? s.views i ≡ some u → (n : Naming) → u.working.owes ≡ Some n → (u.role ≡ Pass) × (n.slot < shape.slots) × IsNew (heap_after k.log) u.number n.slot
  owed_new i u e n x =
      let f = k.fits i u e in
      let up : u.role ≡ Pass = ⊎_elim (λ p. p) (λ (idle : (u.working.owes ≡ None) × (u.working.access ≡ None) × (private_words u.working ≡ [])). absurd (None≢Some n (sym idle.0 ∙ x))) f.working in
      let rest = f.begins.0 in
      let since : k.log ≡ rest ++ u.seen = f.begins.1 in
      let legal = subst (IsLegal shape) since k.legal in
      let owing = f.work.owing n x in (
        up,
        owing.0,
        subst (λ l. IsNew (heap_after l) u.number n.slot) (sym since) (new_stays shape u.number n.slot u.seen rest legal (others_came u.number k.log u.seen rest since (f.own up)) (legal_left shape rest u.seen legal) owing.1),
      )

  -- where a pass may step at an inline word, no other has a new object
  settled : (id : ℕ) (v : View) → get_elem? s.views id ≡ some v → v.role ≡ Pass → (t : ℕ) → KnowsSlot v t ⊎ ((n : Naming) × (v.working.owes ≡ Some n) × (n.slot ≡ t)) → (q : ℕ) → IsNew (heap_after k.log) q t → q ≡ v.number
  settled id v at pass t (inl known) q new =
      let f = k.fits id v at in
      known_apart shape k.log v t f.begins.0 f.begins.1 k.legal (others_came v.number k.log v.seen f.begins.0 f.begins.1 (f.own pass)) (λ a ea. ((k.lying id v at).access a ea).stays) known q new
  settled id v at pass t (inr (n, owed, is)) q new =
      new_once shape k.log q v.number t k.legal new (subst (λ r. IsNew (heap_after k.log) v.number r) is (owed_new id v at n owed).2)

  -- no other view has still to store the words of the object in a slot
  none_owed : (id : ℕ) (v : View) → get_elem? s.views id ≡ some v → v.role ≡ Pass → v.working.owes ≡ None → (t : ℕ) → KnowsSlot v t ⊎ ((n : Naming) × (v.working.owes ≡ Some n) × (n.slot ≡ t))
      → (i : ℕ) (u : View) → get_elem? s.views i ≡ some u → (n : Naming) → u.working.owes ≡ Some n → n.slot ≡ t → ⊥
  none_owed id v at pass free t settles i u e n x is =
      let owed = owed_new i u e n x in
      let apart : i ≡ id → ⊥ = λ here. let same : some u ≡ some v = sym e ∙ (ap (get_elem? s.views) here ∙ at) in None≢Some n (sym free ∙ (ap (λ (r : View). r.working.owes) (sym (some-injective u v same)) ∙ x)) in
      apart (k.apart i id u v e at owed.0 pass (settled id v at pass t settles u.number (subst (λ r. IsNew (heap_after k.log) u.number r) is owed.2)))

  -- where the words don't show the heap, it isn't settled
  pub unsettled : (id : ℕ) (v : View) → get_elem? s.views id ≡ some v → v.role ≡ Pass → v.working.owes ≡ None → (pl : Place) → Settles v pl → Excepted s.views pl → IsUnsettled pl (word_at shape s.words pl)
  unsettled id v at pass free Zero settles (i, u, e, x) = absurd (x)
  unsettled id v at pass free (Global g) settles (i, u, e, x) = sym (ap (word_at shape s.words) x.2) ∙ ((k.lying i u e).access x.0 x.1).busy
  unsettled id v at pass free (Count t) settles (i, u, e, x) = absurd (none_owed id v at pass free t settles i u e (record { slot = t; counted = false }) x refl)
  unsettled id v at pass free (Isa t) settles (i, u, e, x) = absurd (none_owed id v at pass free t settles i u e x.0 x.1 x.2)
  unsettled id v at pass free (Next t) settles (i, u, e, x) = absurd (x)
  unsettled id v at pass free (Field t f) settles (i, u, e, x) = sym (ap (word_at shape s.words) x.2) ∙ ((k.lying i u e).access x.0 x.1).busy
  unsettled id v at pass free (Link n) settles (i, u, e, x) = absurd (x)
  unsettled id v at pass free (Strong n) settles (i, u, e, x) = absurd (x)
  unsettled id v at pass free (Unowned n) settles (i, u, e, x) = absurd (x)
  unsettled id v at pass free (Weak n) settles (i, u, e, x) = absurd (x)
  unsettled id v at pass free (SlotBits n) settles (i, u, e, x) = absurd (x)
  unsettled id v at pass free (EntryBits n) settles (i, u, e, x) = absurd (x)

  reads : (id : ℕ) (v : View) → get_elem? s.views id ≡ some v → v.role ≡ Pass → (i : ℕ) → AllSettles shape v i → Reading shape v k.log i (slice_index s.words i)
  reads id v at pass i settles free pl inside is = subst (IsRead shape v k.log pl) (ap (slice_index s.words) (sym is)) (record {
    says = λ busy. k.words.says pl inside (λ x. busy (unsettled id v at pass free pl (settles pl inside is) x));
    private = each_more (Lies shape s.words) (IsKeptAt shape pl (word_at shape s.words pl)) (λ z lies same. ap (slice_index s.words) (sym same) ∙ lies) (private_words v.working) (k.lying id v at).private;
    busy = λ c here one. busy_held shape s k id v at pass c (subst (IsPlace (extent_of shape)) here inside) (ap (word_at shape s.words) (sym here) ∙ one);
    own = λ c here held. ap (word_at shape s.words) here ∙ own_busy shape s k id v at c held;
  })

  -- a field that a view accesses is one of a live object
  accessed_there : (t f : ℕ) → Excepted s.views (Field t f) → IsThere (heap_after k.log) (cells.Field t f)
  accessed_there t f (i, u, e, (a, begun, at)) =
      subst (IsThere (heap_after k.log)) (cell_at a.cell (cells.Field t f) at) (reach_there shape k.log u.number a.cell k.legal (access_reaches shape s k i u e a begun).1)

  rests : (i : ℕ) → Resting shape k.log i (slice_index s.words i)
  rests i t f inside is never = subst (Says shape (heap_after k.log) (Field t f)) (ap (slice_index s.words) (sym is)) (k.words.says (Field t f) inside (λ x. never (accessed_there t f x)))

  sees : (st : Step) → Sees shape k.log st (given_back st (slice_index s.words (place_of st)))
  sees st = record {
    slot = λ t lt is set. sym (bit_shown shape.slots (t / 64) (λ n. is_slot_taken n (heap_after k.log)) (word_at shape s.words (SlotBits (t / 64))) (k.words.says (SlotBits (t / 64)) (omega (arith, lt)) (λ x. x.3)) t refl lt)
        ∙ here t (SlotBits (t / 64)) is set;
    entry = λ t lt is set. sym (bit_shown shape.entries (t / 64) (λ n. is_entry_taken n (heap_after k.log)) (word_at shape s.words (EntryBits (t / 64))) (k.words.says (EntryBits (t / 64)) (omega (arith, lt)) (λ x. x.3)) t refl lt)
        ∙ here t (EntryBits (t / 64)) is set;
  }
    where
      here : (t : ℕ) (pl : Place) → place_of st ≡ number (extent_of shape) pl → is_set t (given_back st (slice_index s.words (place_of st))) ≡ true → is_set t (word_at shape s.words pl) ≡ true
      here t pl is set = ap (λ n. is_set t (slice_index s.words n)) (sym is) ∙ given_set t st (slice_index s.words (place_of st)) set

-- A kind's fact makes a step that keeps the rule, and tells.
pub rested_steps : {S : Type 0} (shape : HeapShape) (id : ℕ) (me : Me S View) (intent : Intent) (st : Step) (f : ℕ → ℕ) → me.0.role ≡ Pass → (Reads st → me.0.working.owes ≡ None) → AllSettles shape me.0 (place_of st)
    → ((h : History) → Before shape me.0 h → (x : ℕ) → Reading shape me.0 h (place_of st) x → Resting shape h (place_of st) x → Good shape me.0 h (place_of st) x (f x) (act_of shape me.0 st intent (given_back st x)) (working_after shape me.0 st intent (given_back st x)))
    → KeepsRule shape id me intent st f
rested_steps shape id me intent st f pass free settles good s k at =
    let v = me.0 in
    let mine = k.fits id v at in
    let i = place_of st in
    let x : ℕ = slice_index s.words i in
    let found = given_back st x in
    let rest = mine.begins.0 in
    let e : k.log ≡ rest ++ v.seen = mine.begins.1 in
    let others = others_came v.number k.log v.seen rest e (mine.own pass) in
    let before : Before shape v k.log = record {
      sized = k.sized;
      legal = k.legal;
      in_shape = k.in_shape;
      rest = rest;
      is = e;
      others = others;
      own = mine.own pass;
      marks = mine.marks;
      few = le_trans (mine.numbered pass).0 k.few;
      seen_work = mine.work;
      work = subst (λ l. WorkFits shape v.number l v.working) (sym e) (work_stays shape v.number v.seen rest v.working (subst (IsLegal shape) e k.legal) others mine.work);
      stays = λ a begun. ((k.lying id v at).access a begun).stays;
    } in
    let act = act_of shape v st intent found in
    let ev = event_list v.number act in
    let work = working_after shape v st intent found in
    let g = good k.log before x (reads shape s k id v at pass i settles) (rests shape s k i) in
    let only : Settled shape k.log v st = λ t lt is. settled shape s k id v at pass t (settles (Count t) lt is) in record {
      view = moved v k.log (ev ++ k.log) st found work;
      kept = advance shape s k id v (f x) act st found work me.1 at pass (sees shape s k st) only g;
      log_is = advance_log shape s k id v (f x) act st found work me.1 at pass (sees shape s k st) only g;
      told = record {
        between = rest;
        others = others;
        gone = λ p w. let c = mine.kept pass p w in ((λ is. true≢false (sym c.0 ∙ (ap (λ q. within q k.taken) is ∙ (mine.numbered pass).1))), others_came p k.log v.seen rest e c.1);
        legal = g.may;
        in_shape = g.in_shape;
        met_in_shape = subst (InShape shape) e k.in_shape;
        after = ap (λ l. moved v l (ev ++ l) st found work) e;
        read = λ pl r inside is. read_back shape v k.log (rest ++ v.seen) st pl x e r (reads shape s k id v at pass i settles (free r) pl inside is);
        accessed = λ a begun. subst (λ l. CellStays l v.seen a.cell) e ((k.lying id v at).access a begun).stays;
        olds = subst (λ l. Each (Stands l) v.olds) e (each_more (OldFits k.log (IsOwn v k.taken)) (Stands k.log) (λ o h. (h.begins, λ p w. (h.whole p w).0)) v.olds mine.olds);
        strange = λ z p lt. ap (λ l. share l p) (sym e) ∙ k.strange p (let g = mine.first pass z in omega (arith, g.0, lt));
      };
    }
  where
    read_back : (shape : HeapShape) (v : View) (h since : History) (st : Step) (pl : Place) (x : ℕ) → h ≡ since → Reads st → IsRead shape v h pl x → IsRead shape v since pl (given_back st x)
    read_back shape v h since (Load place) pl x e r read = subst (λ l. IsRead shape v l pl x) e read
    read_back shape v h since (Exchange place old new) pl x e r read = subst (λ l. IsRead shape v l pl x) e read
    read_back shape v h since (Store place new) pl x e r read = absurd (r)
    read_back shape v h since (Or place bits) pl x e r read = subst (λ l. IsRead shape v l pl x) e read
    read_back shape v h since (And place bits) pl x e r read = subst (λ l. IsRead shape v l pl x) e read

-- the same of a kind that asks nothing of a resting field
pub steps : {S : Type 0} (shape : HeapShape) (id : ℕ) (me : Me S View) (intent : Intent) (st : Step) (f : ℕ → ℕ) → me.0.role ≡ Pass → (Reads st → me.0.working.owes ≡ None) → AllSettles shape me.0 (place_of st)
    → ((h : History) → Before shape me.0 h → (x : ℕ) → Reading shape me.0 h (place_of st) x → Good shape me.0 h (place_of st) x (f x) (act_of shape me.0 st intent (given_back st x)) (working_after shape me.0 st intent (given_back st x)))
    → KeepsRule shape id me intent st f
steps shape id me intent st f pass free settles good = rested_steps shape id me intent st f pass free settles (λ h b x read rest. good h b x read)

-- the table allows a step that keeps the rule, whatever slots it has
pub allows : {S : Type 0} (shape : HeapShape) (slots id : ℕ) (me : Me S View) (intent : Intent) (st : Step) (f : ℕ → ℕ) → KeepsRule shape id me intent st f → Allows (IsKept shape) slots id me (place_of st) f (Tells shape intent st me)
allows shape slots id me intent st f keep s k _ at _ = let r = keep s k at in (r.view, keeps, tt, r.kept, (refl, r.told))

-- a step that changes no word and has no event
pub silent_good : (shape : HeapShape) (v : View) (h : History) → Before shape v h → (i x : ℕ) → Good shape v h i x x None v.working
silent_good shape v h b i x = record {
  may = b.legal;
  in_shape = b.in_shape;
  safe = inl refl;
  calm = inl (refl, refl);
  cells = λ c inside there ne. record { says = λ w says. says; owner = refl; refers = refl };
  begins = λ a e. inl e;
  words = λ Others ws s l e. subst (λ t. ShowsBut (λ pl. Excepts v.working pl ⊎ Others pl) shape (heap_after h) t) (sym (same ws e)) s;
  fits = b.work;
  lying = λ Others ws s l e. subst (λ t. Lying shape h h t v.working) (sym (same ws e)) (record {
    private = l.private;
    access = λ a ea. let f = l.access a ea in record { busy = f.busy; value = f.value; stays = stays_self h a.cell };
    naming = l.naming;
  });
}
  where
    same : (ws : List ℕ) → x ≡ slice_index ws i → set ws i x ≡ ws
    same ws e = ap (set ws i) e ∙ set-get_or ws i 0
