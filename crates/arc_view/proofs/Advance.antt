-- What a kind of step owes, with no seat in it, and the law that such a step keeps the rule.
use Rattle.std.proofs.Common.{◌≡◌, ◌≢◌, ◌⊎◌, inl, inr, ⊎_elim, ℕ, zero, suc, ◌/◌, ◌<◌, true, false, cond, List, [], ◌∷◌, ◌++◌, length, get_or, set, Option, Some, None, refl, sym, ap, ◌∙◌, subst, arith, le_refl, get_or-set_other}
use Rattle.std.specs.Prelude.{slice_index, ⊤}
use Rattle.std.proofs.lemmas.List.{set-get_or}
use mathlib.Core.Logic.{dite}
use mathlib.Core.Option.{some, some-injective, some-ne-none}
use native.Mathlib.Decide.{ℕ_discrete}
use lib.ListN.{get_elem?}
use Rattle.atomic_table.specs.Table.{State, stepped, keeps}
use Rattle.atomic_table.proofs.Lists.{at_set, set_here, set_else}
use Rattle.arc_model.specs.declared.event.Act.{Act}
use Rattle.arc_model.specs.declared.event.CellName.{CellName}
use Rattle.arc_model.specs.declared.event.Event.{Event}
use Rattle.arc_model.specs.declared.event.CellName.TheVariants as cells
use Rattle.arc_model.specs.Shapes.{HeapShape, class_at}
use Rattle.arc_model.specs.declared.shape.Kind.TheVariants.{Strong}
use Rattle.arc_model.specs.Heaps.{Hand, Object, Heap}
use Rattle.arc_model.specs.Holders.{is_empty, at_slot, in_slot, is_slot_taken, is_entry_taken}
use Rattle.arc_model.specs.Cells.{cell}
use Rattle.arc_model.specs.Others.{IsQuiet}
use Rattle.arc_model.specs.History.{History, heap_after, share, IsLegal}
use Rattle.arc_model.specs.Lookup.{spot}
use Rattle.arc_model.proofs.Basics.{None≢Some, Some-inj, true≢false, in-not_empty}
use Rattle.arc_model.proofs.Others.{others_leave}
use Rattle.arc_rule.specs.declared.step.Step.{Step}
use Rattle.arc_rule.specs.declared.layout.Place.{Place}
use Rattle.arc_rule.specs.declared.layout.Place.TheVariants.{Count, SlotBits, EntryBits}
use Rattle.arc_rule.specs.Places.{IsPlace, extent_of, number}
use Rattle.arc_rule.specs.Bits.{is_set}
use Rattle.arc_rule.specs.Shown.{Says, ShowsBut, word_at}
use Rattle.arc_rule.specs.Steps.{place_of}
use Rattle.arc_view.specs.declared.view.Role.TheVariants.{Pass}
use Rattle.arc_view.specs.declared.view.Stored.{Stored}
use Rattle.arc_view.specs.declared.view.Begun.{Begun}
use Rattle.arc_view.specs.declared.view.Working.{Working}
use Rattle.arc_view.specs.declared.view.View.{View}
use Rattle.arc_view.specs.Views.{StartsWith, Each, within, made_in, cell_place, private_words, first_word, Excepts}
use Rattle.arc_view.specs.Holding.{At, CanReach, Owns}
use Rattle.arc_view.specs.Rule.{MarkFits, IsMine, WorkFits, Fits, Lies, AccessFits, Lying, IsFirst, Excepted, InShape, IsNew, AccessApart, IsKept}
use Rattle.arc_view.specs.Kinds.{event_list}
use Rattle.arc_view.specs.Steps.{moved}
use Rattle.arc_view.proofs.Lists.{each_more, starts_self, share_more, others_came, share_of_other}
use Rattle.arc_view.proofs.Words.{number_same, shows_to, word_changes, word_set, slot_found}
pub use Rattle.arc_view.proofs.Words.{found_some, slot_is}
use Rattle.arc_view.proofs.Held.{hand_listed, stays_after, new_stays}
use Rattle.arc_view.proofs.Keeps.{legal_left, mark_more, fits_carry, owner_stays, reach_stays, stays_more}

-- the owner of the cell is in its slot and live: no other object's field is reached
abbrev pub IsThere : Heap → CellName → Type 0
IsThere heap (cells.Field s f) = (i : ℕ) × (o : Object) × At heap i o × (o.slot ≡ Some s) × (is_empty o.strong ≡ false)
IsThere heap (cells.Global g) = ⊤

-- a cell that an event leaves
pub record CellKept (shape : HeapShape) (heap new : Heap) (c : CellName) : Type 0 where
  pub says : (w : ℕ) → Says shape heap (cell_place c) w → Says shape new (cell_place c) w
  pub owner : cell new c ≡ cell heap c
  pub refers : spot (cell new c) new ≡ spot (cell heap c) heap

-- What a kind owes where the word of number i is x, becomes y, and the view's pass does this act and then has this under way.
pub record Good (shape : HeapShape) (v : View) (h : History) (i x y : ℕ) (act : Option Act) (work : Working) : Type 1 where
  pub may : IsLegal shape (event_list v.number act ++ h)
  pub in_shape : InShape shape (event_list v.number act ++ h)
  -- the word doesn't change, or no other thread has it as its own
  pub safe : (y ≡ x) ⊎ ((pl : Place) → IsPlace (extent_of shape) pl → number (extent_of shape) pl ≡ i → (q : ℕ) → Owns (heap_after h) q pl → q ≡ v.number)
  -- nothing happens, or it isn't a cell that another accesses
  pub calm : ((y ≡ x) × (act ≡ None)) ⊎ ((c : CellName) → IsPlace (extent_of shape) (cell_place c) → number (extent_of shape) (cell_place c) ≡ i → x ≡ 1 → (b : Begun) × (v.working.access ≡ Some b) × (b.cell ≡ c))
  pub cells : (c : CellName) → IsPlace (extent_of shape) (cell_place c) → IsThere (heap_after h) c → number (extent_of shape) (cell_place c) ≢ i → CellKept shape (heap_after h) (heap_after (event_list v.number act ++ h)) c
  pub begins : (b : Begun) → work.access ≡ Some b → (v.working.access ≡ Some b) ⊎ ((number (extent_of shape) (cell_place b.cell) ≡ i) × (x ≢ 1))
  pub words : (Others : Place → Type 0) (ws : List ℕ) → ShowsBut (λ pl. Excepts v.working pl ⊎ Others pl) shape (heap_after h) ws → Lying shape h v.seen ws v.working → x ≡ slice_index ws i
      → ShowsBut (λ pl. Excepts work pl ⊎ Others pl) shape (heap_after (event_list v.number act ++ h)) (set ws i y)
  pub fits : WorkFits shape v.number (event_list v.number act ++ h) work
  pub lying : (Others : Place → Type 0) (ws : List ℕ) → ShowsBut (λ pl. Excepts v.working pl ⊎ Others pl) shape (heap_after h) ws → Lying shape h v.seen ws v.working → x ≡ slice_index ws i
      → Lying shape (event_list v.number act ++ h) (event_list v.number act ++ h) (set ws i y) work

-- a fact of each view stays where one view changes
pub views_stay : (F : ℕ → View → Type 0) (views : List View) (id : ℕ) (w : View) → F id w → ((j : ℕ) (u : View) → j ≢ id → get_elem? views j ≡ some u → F j u) → (j : ℕ) (u : View) → get_elem? (set views id w) j ≡ some u → F j u
views_stay F views id w mine others j u e = ⊎_elim
    (λ (t : (j ≡ id) × (w ≡ u)). subst (λ (x : ℕ × View). F x.0 x.1) (λ i. (sym t.0 i, t.1 i)) mine)
    (λ (t : (j ≢ id) × (get_elem? views j ≡ some u)). others j u t.0 t.1)
    (at_set views id j w u e)

abbrev pub Apart : List View → Type 0
Apart views = (i j : ℕ) (v w : View) → get_elem? views i ≡ some v → get_elem? views j ≡ some w → v.role ≡ Pass → w.role ≡ Pass → v.number ≡ w.number → i ≡ j

-- the numbers stay apart where a view keeps its number, or is spent
pub apart_set : (views : List View) (id : ℕ) (v w : View) → get_elem? views id ≡ some v → (w.role ≡ Pass → (v.role ≡ Pass) × (v.number ≡ w.number)) → Apart views → Apart (set views id w)
apart_set views id v w at same apart i j x y ei ej =
    views_stay (λ (i : ℕ) (x : View). x.role ≡ Pass → y.role ≡ Pass → x.number ≡ y.number → i ≡ j) views id w
    (λ wp yp e. views_stay (λ (j : ℕ) (y : View). y.role ≡ Pass → w.number ≡ y.number → id ≡ j) views id w (λ _ _. refl) (λ k u _ eu up e. apart id k v u at eu (same wp).0 up ((same wp).1 ∙ e)) j y ej yp e)
    (λ k u ne eu up yp e. views_stay (λ (j : ℕ) (y : View). y.role ≡ Pass → u.number ≡ y.number → k ≡ j) views id w (λ wp e. apart k id u v eu at up (same wp).0 (e ∙ sym (same wp).1)) (λ l z _ ez zp e. apart k l u z eu ez up zp e) j y ej yp e)
    i x ei

-- the accesses stay apart where the one of the view that changes is none of another's
pub access_apart_set : (views : List View) (id : ℕ) (w : View) → ((b : Begun) → w.working.access ≡ Some b → (j : ℕ) (u : View) (a : Begun) → j ≢ id → get_elem? views j ≡ some u → u.working.access ≡ Some a → a.cell ≡ b.cell → ⊥)
    → AccessApart views → AccessApart (set views id w)
access_apart_set views id w new apart i j x y a b ei ej xa yb same =
    views_stay (λ (i : ℕ) (x : View). x.working.access ≡ Some a → i ≡ j) views id w
    (λ wa. views_stay (λ (j : ℕ) (y : View). y.working.access ≡ Some b → id ≡ j) views id w (λ _. refl) (λ k u ne eu ub. absurd (new a wa k u b ne eu ub (sym same))) j y ej yb)
    (λ k u ne eu ua. views_stay (λ (j : ℕ) (y : View). y.working.access ≡ Some b → k ≡ j) views id w (λ wb. absurd (new b wb k u a ne eu ua same)) (λ l z _ ez zb. apart k l u z a b eu ez ua zb same) j y ej yb)
    i x ei xa

-- what the other views except
abbrev pub ByOthers : List View → ℕ → Place → Type 0
ByOthers views id pl = (i : ℕ) × (u : View) × (i ≢ id) × (get_elem? views i ≡ some u) × Excepts u.working pl

pub excepted_apart : (views : List View) (id : ℕ) (v : View) → get_elem? views id ≡ some v → (pl : Place) → Excepted views pl → Excepts v.working pl ⊎ ByOthers views id pl
excepted_apart views id v at pl o = dite (ℕ_discrete o.0 id)
    (λ is. let same : some o.1 ≡ some v = sym o.2 ∙ (ap (get_elem? views) is ∙ at) in inl (subst (λ (u : View). Excepts u.working pl) (some-injective o.1 v same) o.3))
    (λ ne. inr (o.0, o.1, ne, o.2, o.3))

at_below : (views : List View) (id : ℕ) (v : View) → get_elem? views id ≡ some v → id < length views
at_below [] id v e = absurd (some-ne-none v (sym e))
at_below (x ∷ xs) zero v e = omega arith
at_below (x ∷ xs) (suc i) v e = let lt = at_below xs i v e in omega arith

pub excepted_again : (views : List View) (id : ℕ) (v w : View) → get_elem? views id ≡ some v → (pl : Place) → Excepts w.working pl ⊎ ByOthers views id pl → Excepted (set views id w) pl
excepted_again views id v w at pl = ⊎_elim
    (λ e. (id, w, set_here views id w (at_below views id v at), e))
    (λ o. (o.0, o.1, set_else views id o.0 w o.2 ∙ o.3, o.4))

pub reach_there : (shape : HeapShape) (h : History) (p : ℕ) (c : CellName) → IsLegal shape h → CanReach shape (heap_after h) p c → IsThere (heap_after h) c
reach_there shape h p (cells.Global g) legal r = tt
reach_there shape h p (cells.Field s f) legal (k, i, o, at, here, slot, has) = (i, o, here, slot, in-not_empty (Hand p k) o.strong (hand_listed shape h p k i Strong o legal at here))

-- its slot is taken
pub there_taken : (heap : Heap) (s f : ℕ) → IsThere heap (cells.Field s f) → is_slot_taken s heap ≡ true
there_taken heap s f (i, o, here, slot, live) = found_some (in_slot s) heap.objects i o here (slot_is o.slot s slot)

pub quiet_more : (shape : HeapShape) (p : ℕ) (before after : History) → IsLegal shape (after ++ before) → share after p ≡ [] → IsQuiet p (heap_after before) → IsQuiet p (heap_after (after ++ before))
quiet_more shape p before after legal none q = let u = others_leave shape p before after legal none in record {
  hands = λ k. u.hands k ∙ q.hands k;
  duties = λ i. u.duties i ∙ q.duties i;
  claims = λ e. u.claims e ∙ q.claims e;
}

-- what a view owns, it owns in the heap now
pub mine_now : (shape : HeapShape) (h : History) (splits : ℕ) (taken : List ℕ) (u : View) → IsLegal shape h → u.role ≡ Pass → Fits shape h splits taken u → Each (IsMine shape (heap_after h) u.number) (private_words u.working)
mine_now shape h splits taken u legal pass f =
    let rest = f.begins.0 in
    let e : h ≡ rest ++ u.seen = f.begins.1 in
    each_more (IsMine shape (heap_after u.seen) u.number) (IsMine shape (heap_after h) u.number)
    (λ k m. (m.0, subst (λ l. Owns (heap_after l) u.number k.place) (sym e) (owner_stays shape u.seen rest k.place u.number (subst (IsLegal shape) e legal) (others_came u.number h u.seen rest e (f.own pass)) m.1)))
    (private_words u.working) f.work.private

-- a write at a place that p does not own leaves what p has stored
pub lies_stay : (shape : HeapShape) (heap : Heap) (words : List ℕ) (i y p : ℕ) (ks : List Stored) → Each (IsMine shape heap p) ks → Each (Lies shape words) ks
    → ((y ≡ slice_index words i) ⊎ ((pl : Place) → IsPlace (extent_of shape) pl → number (extent_of shape) pl ≡ i → Owns heap p pl → ⊥))
    → Each (Lies shape (set words i y)) ks
lies_stay shape heap words i y p [] mine lies safe = tt
lies_stay shape heap words i y p (k ∷ ks) mine lies safe = (one k mine.0 lies.0 safe, lies_stay shape heap words i y p ks mine.1 lies.1 safe)
  where
    one : (k : Stored) → IsMine shape heap p k → Lies shape words k → ((y ≡ slice_index words i) ⊎ ((pl : Place) → IsPlace (extent_of shape) pl → number (extent_of shape) pl ≡ i → Owns heap p pl → ⊥)) → Lies shape (set words i y) k
    one k mine lies (inl same) = ap (λ l. get_or l (number (extent_of shape) k.place) 0) (ap (set words i) same ∙ set-get_or words i 0) ∙ lies
    one k mine lies (inr safe) = get_or-set_other words i (number (extent_of shape) k.place) y 0 (λ e. safe k.place mine.0 e mine.1) ∙ lies

-- an access of a view stays, where it isn't that of the one that steps
pub access_stays : (shape : HeapShape) (h seen : History) (words : List ℕ) (p i y : ℕ) (act : Option Act) (a : Begun) (Own : CellName → Type 0) → StartsWith h seen → IsPlace (extent_of shape) (cell_place a.cell) → IsThere (heap_after h) a.cell → (Own a.cell → ⊥)
    → ((y ≡ slice_index words i) × (act ≡ None)) ⊎ ((c : CellName) → IsPlace (extent_of shape) (cell_place c) → number (extent_of shape) (cell_place c) ≡ i → slice_index words i ≡ 1 → Own c)
    → ((c : CellName) → IsPlace (extent_of shape) (cell_place c) → IsThere (heap_after h) c → number (extent_of shape) (cell_place c) ≢ i → CellKept shape (heap_after h) (heap_after (event_list p act ++ h)) c)
    → AccessFits shape h seen words a → AccessFits shape (event_list p act ++ h) seen (set words i y) a
access_stays shape h seen words p i y act a Own since inside there other (inl nothing) kept f =
    subst (λ (t : Option Act × List ℕ). AccessFits shape (event_list p t.0 ++ h) seen t.1 a) (λ n. (sym nothing.1 n, sym (ap (set words i) nothing.0 ∙ set-get_or words i 0) n)) f
access_stays shape h seen words p i y act a Own since inside there other (inr calm) kept f = dite (ℕ_discrete (number (extent_of shape) (cell_place a.cell)) i)
    (λ is. absurd (other (calm a.cell inside is (ap (slice_index words) (sym is) ∙ f.busy))))
    (λ ne. let k = kept a.cell inside there ne in record {
      busy = get_or-set_other words i (number (extent_of shape) (cell_place a.cell)) y 0 ne ∙ f.busy;
      value = k.says a.value f.value;
      stays = stays_more p act h seen a.cell since k.owner k.refers f.stays;
    })

-- what a mark of a step shows where it met the history h
pub record Sees (shape : HeapShape) (h : History) (st : Step) (found : ℕ) : Type 0 where
  pub slot : (s : ℕ) → s < shape.slots → place_of st ≡ number (extent_of shape) (SlotBits (s / 64)) → is_set s found ≡ true → is_slot_taken s (heap_after h) ≡ true
  pub entry : (e : ℕ) → e < shape.entries → place_of st ≡ number (extent_of shape) (EntryBits (e / 64)) → is_set e found ≡ true → is_entry_taken e (heap_after h) ≡ true

-- a step at an inline word is at one that no other pass has still to store
abbrev pub Settled : HeapShape → History → View → Step → Type 0
Settled shape h v st = (s : ℕ) → s < shape.slots → place_of st ≡ number (extent_of shape) (Count s) → (q : ℕ) → IsNew (heap_after h) q s → q ≡ v.number

-- the view of the pass that steps
moved_fits : (shape : HeapShape) (h more : History) (splits : ℕ) (taken : List ℕ) (v : View) (st : Step) (found : ℕ) (work : Working) → v.role ≡ Pass → Sees shape h st found → WorkFits shape v.number (more ++ h) work
    → Fits shape h splits taken v → Fits shape (more ++ h) splits taken (moved v h (more ++ h) st found work)
moved_fits shape h more splits taken v st found work pass sees work_fits f =
    let p = v.number in
    let here : MarkFits shape p h record { step = st; found = found; length = length h; made = made_in p h } = record {
      later = [];
      earlier = h;
      split = refl;
      at = refl;
      made = refl;
      slot = sees.slot;
      entry = sees.entry;
    } in
    let older : Each (MarkFits shape p h) v.trail = subst (λ l. Each (MarkFits shape p l) v.trail) (sym f.begins.1) (each_more (MarkFits shape p v.seen) (MarkFits shape p (f.begins.0 ++ v.seen)) (mark_more shape p v.seen f.begins.0) v.trail f.marks) in record {
      begins = starts_self (more ++ h);
      olds = tt;
      own = λ _. refl;
      marks = (mark_more shape p h more _ here, each_more (MarkFits shape p h) (MarkFits shape p (more ++ h)) (mark_more shape p h more) v.trail older);
      numbered = f.numbered;
      first = f.first;
      kept = λ is q w. ((f.kept is q w).0, refl);
      work = work_fits;
      working = inl pass;
    }

-- two passes don't have one unshared object
pub new_once : (shape : HeapShape) (h : History) (p q s : ℕ) → IsLegal shape h → IsNew (heap_after h) p s → IsNew (heap_after h) q s → p ≡ q
new_once shape h p q s legal (i, o, k, at, slot, u) (j, r, m, bt, tlot, w) =
    let same : o ≡ r = Some-inj (sym (slot_found shape h i s o legal at slot) ∙ slot_found shape h j s r legal bt tlot) in
    one_hand (sym u.strong ∙ (ap (λ (x : Object). x.strong) same ∙ w.strong))
  where
    one_hand : Hand p k ∷ [] ≡ Hand q m ∷ [] → p ≡ q
    one_hand e = cc

-- no private word lies at an inline word
inline_shared : (shape : HeapShape) (heap : Heap) (p s : ℕ) → s < shape.slots → (pl : Place) → IsPlace (extent_of shape) pl → number (extent_of shape) pl ≡ number (extent_of shape) (Count s) → Owns heap p pl → ⊥
inline_shared shape heap p s lt pl inside is owned = subst (λ (q : Place). Owns heap p q) (number_same (extent_of shape) pl (Count s) inside lt is) owned

-- nor is it that of a cell
inline_no_cell : (shape : HeapShape) (c : CellName) (s : ℕ) → IsPlace (extent_of shape) (cell_place c) → s < shape.slots → number (extent_of shape) (cell_place c) ≡ number (extent_of shape) (Count s) → ⊥
inline_no_cell shape c s inside lt is = apart c (number_same (extent_of shape) (cell_place c) (Count s) inside lt is)
  where
    apart : (c : CellName) → cell_place c ≡ Count s → ⊥
    apart (cells.Field t f) e = cc
    apart (cells.Global g) e = cc

-- an object that pass q alone holds, in slot s, after an act of p
record NewAfter (shape : HeapShape) (h new : History) (s : ℕ) : Type 0 where
  was : Object
  old : at_slot s (heap_after h) ≡ Some was
  is : Object
  found : at_slot s (heap_after new) ≡ Some is
  class : is.class ≡ was.class

new_after : (shape : HeapShape) (h : History) (p q s : ℕ) (act : Option Act) → IsLegal shape (event_list p act ++ h) → IsNew (heap_after h) q s → NewAfter shape h (event_list p act ++ h) s
new_after shape h p q s None legal (i, o, k, at, slot, u) = let found = slot_found shape h i s o legal at slot in record { was = o; old = found; is = o; found = found; class = refl }
new_after shape h p q s (Some a) legal (i, o, k, at, slot, u) =
    let event : Event = record { thread = p; act = a } in
    let stays = stays_after shape event h legal i o at in record {
      was = o;
      old = slot_found shape h i s o legal.1 at slot;
      is = stays.q;
      found = slot_found shape (event ∷ h) i s stays.q legal stays.here (stays.slot (inl (ap is_empty u.strong)) ∙ slot);
      class = stays.class;
    }

pub first_same : (shape : HeapShape) (o q : Object) → q.class ≡ o.class → first_word shape q ≡ first_word shape o
first_same shape o q class = ap (λ c. cond (class_at shape c).immortal 1 2) class

-- What another pass has still to store as the inline word of its new object stays what the heap says, where the step is at another word.
naming_stays : (shape : HeapShape) (h : History) (v : View) (i x y : ℕ) (act : Option Act) (work : Working) (Others : Place → Type 0) (ws : List ℕ) (q s : ℕ) → Good shape v h i x y act work
    → s < shape.slots → (q ≡ v.number → ⊥) → IsNew (heap_after h) q s → IsNew (heap_after (event_list v.number act ++ h)) q s → (number (extent_of shape) (Count s) ≡ i → ⊥)
    → Each (IsMine shape (heap_after h) v.number) (private_words v.working) → ((a : Begun) → v.working.access ≡ Some a → IsPlace (extent_of shape) (cell_place a.cell))
    → ShowsBut (λ pl. Excepts v.working pl ⊎ Others pl) shape (heap_after h) ws → Lying shape h v.seen ws v.working → x ≡ slice_index ws i
    → IsFirst shape (heap_after h) s → IsFirst shape (heap_after (event_list v.number act ++ h)) s
naming_stays shape h v i x y act work Others ws q s g lt apart new later ne mine inside shown lie found first = (
  n.is,
  n.found,
  subst (Says shape (heap_after (event_list v.number act ++ h)) (Count s)) here (after.says (Count s) lt not_excepted),
)
  where
    c : ℕ
    c = number (extent_of shape) (Count s)

    word : ℕ
    word = first_word shape first.0

    n : NewAfter shape h (event_list v.number act ++ h) s
    n = new_after shape h v.number q s act g.may new

    Now : Place → Type 0
    Now pl = Excepts v.working pl ⊎ Others pl

    But : Place → Type 0
    But pl = Others pl × (pl ≢ Count s)

    stored : ShowsBut (λ pl. Excepts v.working pl ⊎ But pl) shape (heap_after h) (set ws c word)
    stored = word_changes shape Now (λ pl. Excepts v.working pl ⊎ But pl) (heap_after h) (heap_after h) ws (Count s) word lt shown (λ _. first.2)
        (λ r other not e. not (⊎_elim (λ mine. inl mine) (λ others. inr (others, other)) e)) (λ r _ _ _ w says. says)

    lies : Lying shape h v.seen (set ws c word) v.working
    lies = record {
      private = lies_stay shape (heap_after h) ws c word v.number (private_words v.working) mine lie.private (inr (inline_shared shape (heap_after h) v.number s lt));
      access = λ a ea. let f = lie.access a ea in record {
        busy = get_or-set_other ws c (number (extent_of shape) (cell_place a.cell)) word 0 (inline_no_cell shape a.cell s (inside a ea) lt) ∙ f.busy;
        value = f.value;
        stays = f.stays;
      };
      naming = lie.naming;
    }

    after : ShowsBut (λ pl. Excepts work pl ⊎ But pl) shape (heap_after (event_list v.number act ++ h)) (set (set ws c word) i y)
    after = g.words But (set ws c word) stored lies (found ∙ sym (get_or-set_other ws c i word 0 (λ e. ne (sym e))))

    not_excepted : Excepts work (Count s) ⊎ But (Count s) → ⊥
    not_excepted = ⊎_elim (λ owed. apart (new_once shape (event_list v.number act ++ h) q v.number s g.may later (g.fits.owing (record { slot = s; counted = false }) owed).1)) (λ o. o.1 refl)

    here : word_at shape (set (set ws c word) i y) (Count s) ≡ first_word shape n.is
    here = get_or-set_other (set ws c word) i c y 0 ne ∙ word_set shape Now (heap_after h) ws (Count s) word lt shown
        ∙ ap (first_word shape) (Some-inj (sym first.1 ∙ n.old)) ∙ sym (first_same shape n.was n.is n.class)

-- a step of the pass v, which does this act, keeps the rule
pub advance : {S : Type 0} (shape : HeapShape) (s : State S View) (k : IsKept shape s) (id : ℕ) (v : View) (y : ℕ) (act : Option Act) (st : Step) (found : ℕ) (work : Working) (c : List (ℕ × S)) → get_elem? s.views id ≡ some v → v.role ≡ Pass
    → Sees shape k.log st found → Settled shape k.log v st → Good shape v k.log (place_of st) (slice_index s.words (place_of st)) y act work
    → IsKept shape (stepped s (place_of st) y id c (moved v k.log (event_list v.number act ++ k.log) st found work) keeps)
advance shape s k id v y act st found work c at pass sees settled g =
    let i = place_of st in
    let more = event_list v.number act in
    let mine = k.fits id v at in
    let lie = k.lying id v at in
    let w = moved v k.log (more ++ k.log) st found work in
    let alone : (p : ℕ) → p ≢ v.number → share more p ≡ [] = λ p ne. share_of_other v.number p act ne in
    let shown = shows_to shape (Excepted s.views) (λ pl. Excepts v.working pl ⊎ ByOthers s.views id pl) (heap_after k.log) s.words (excepted_apart s.views id v at) k.words in record {
      log = more ++ k.log;
      splits = k.splits;
      taken = k.taken;
      sized = k.sized;
      legal = g.may;
      in_shape = g.in_shape;
      words = shows_to shape (λ pl. Excepts work pl ⊎ ByOthers s.views id pl) (Excepted (set s.views id w)) (heap_after (more ++ k.log)) (set s.words i y) (excepted_again s.views id v w at) (g.words (ByOthers s.views id) s.words shown lie refl);
      lying = views_stay (λ (j : ℕ) (u : View). Lying shape (more ++ k.log) u.seen (set s.words i y) u.working) s.views id w (g.lying (ByOthers s.views id) s.words shown lie refl) lying_of_other;
      fits = views_stay (λ (j : ℕ) (u : View). Fits shape (more ++ k.log) k.splits k.taken u) s.views id w
          (moved_fits shape k.log more k.splits k.taken v st found work pass sees g.fits mine)
          (λ j u ne e. let f = k.fits j u e in fits_carry shape k.log more k.splits k.splits k.taken k.taken u
          (λ up. alone u.number (λ is. ne (k.apart j id u v e at up pass is)))
          (le_refl k.splits)
          (λ up. (f.numbered up).1)
          (λ p in_it. (in_it, alone p (not_taken p in_it)))
          (λ _ _. (refl, refl))
          f);
      apart = apart_set s.views id v w at (λ p. (p, refl)) k.apart;
      accesses = access_apart_set s.views id w
          (λ b wb j u a ne e ua same. ⊎_elim
          (λ old. ne (k.accesses j id u v a b e at ua old same))
          (λ (t : (number (extent_of shape) (cell_place b.cell) ≡ i) × (slice_index s.words i ≢ 1)). t.1 (ap (slice_index s.words) (sym t.0 ∙ ap (λ c. number (extent_of shape) (cell_place c)) (sym same)) ∙ ((k.lying j u e).access a ua).busy))
          (g.begins b wb)) k.accesses;
      few = k.few;
      taken_below = k.taken_below;
      quiet = λ p in_it. quiet_more shape p k.log more g.may (alone p (not_taken p in_it)) (k.quiet p in_it);
      strange = λ p lt. share_more p k.log more (alone p (λ is. let le = (mine.numbered pass).0 in omega arith)) ∙ k.strange p lt;
    }
  where
    not_taken : (p : ℕ) → within p k.taken ≡ true → p ≢ v.number
    not_taken p in_it is = true≢false (sym in_it ∙ (ap (λ q. within q k.taken) is ∙ ((k.fits id v at).numbered pass).1))

    -- a view that isn't a pass has nothing under way
    lying_of_other : (j : ℕ) (u : View) → j ≢ id → get_elem? s.views j ≡ some u → Lying shape (event_list v.number act ++ k.log) u.seen (set s.words (place_of st) y) u.working
    lying_of_other j u ne e = ⊎_elim
        (λ (up : u.role ≡ Pass).
        let f = k.fits j u e in
        let rest = f.begins.0 in
        let since : k.log ≡ rest ++ u.seen = f.begins.1 in record {
          private = lies_stay shape (heap_after k.log) s.words (place_of st) y u.number (private_words u.working) (mine_now shape k.log k.splits k.taken u k.legal up f) (k.lying j u e).private
              (⊎_elim (λ same. inl same) (λ only. inr (λ pl inside is owned. ne (k.apart j id u v e at up pass (only pl inside is u.number owned)))) g.safe);
          naming = λ t owed.
              let owing = f.work.owing (record { slot = t; counted = false }) owed in
              let none = others_came u.number k.log u.seen rest since (f.own up) in
              let legal = subst (IsLegal shape) since k.legal in
              let new : IsNew (heap_after k.log) u.number t = subst (λ l. IsNew (heap_after l) u.number t) (sym since) (new_stays shape u.number t u.seen rest legal none (legal_left shape rest u.seen legal) owing.1) in
              let other : u.number ≡ v.number → ⊥ = λ same. ne (k.apart j id u v e at up pass same) in
              naming_stays shape k.log v (place_of st) (slice_index s.words (place_of st)) y act work (ByOthers s.views id) s.words u.number t g owing.0 other new
              (new_stays shape u.number t k.log (event_list v.number act) g.may (share_of_other v.number u.number act other) k.legal new)
              (λ is. other (settled t owing.0 (sym is) u.number new))
              (mine_now shape k.log k.splits k.taken v k.legal pass (k.fits id v at)) (λ a va. ((k.fits id v at).work.reaches a va).0)
              (shows_to shape (Excepted s.views) (λ pl. Excepts v.working pl ⊎ ByOthers s.views id pl) (heap_after k.log) s.words (excepted_apart s.views id v at) k.words) (k.lying id v at) refl
              ((k.lying j u e).naming t owed);
          access = λ a ua. let r = f.work.reaches a ua in access_stays shape k.log u.seen s.words v.number (place_of st) y act a (λ c. (b : Begun) × (v.working.access ≡ Some b) × (b.cell ≡ c)) f.begins r.0
              (reach_there shape k.log u.number a.cell k.legal (subst (λ l. CanReach shape (heap_after l) u.number a.cell) (sym since) (reach_stays shape u.seen rest a.cell u.number (subst (IsLegal shape) since k.legal) (others_came u.number k.log u.seen rest since (f.own up)) r.1)))
              (λ own. ne (k.accesses j id u v a own.0 e at ua own.1 (sym own.2))) g.calm g.cells ((k.lying j u e).access a ua);
        })
        (λ (idle : (u.working.owes ≡ None) × (u.working.access ≡ None) × (private_words u.working ≡ [])). record {
          private = subst (Each (Lies shape (set s.words (place_of st) y))) (sym idle.2) tt;
          access = λ a ua. absurd (None≢Some a (sym idle.1 ∙ ua));
          naming = λ t owed. absurd (None≢Some (record { slot = t; counted = false }) (sym idle.0 ∙ owed));
        })
        (k.fits j u e).working

-- the history has the step's event more
pub advance_log : {S : Type 0} (shape : HeapShape) (s : State S View) (k : IsKept shape s) (id : ℕ) (v : View) (y : ℕ) (act : Option Act) (st : Step) (found : ℕ) (work : Working) (c : List (ℕ × S)) (at : get_elem? s.views id ≡ some v) (pass : v.role ≡ Pass)
    (sees : Sees shape k.log st found) (settled : Settled shape k.log v st) (g : Good shape v k.log (place_of st) (slice_index s.words (place_of st)) y act work) → (advance shape s k id v y act st found work c at pass sees settled g).log ≡ event_list v.number act ++ k.log
unfolding advance
advance_log shape s k id v y act st found work c at pass sees settled g = refl
