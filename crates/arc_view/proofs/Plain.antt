-- Steps on the inline word or the isa word of a slot, or on a word of bits: no thread has these as its own, and they are no cells.
use Rattle.arc_view.proofs.Keeps.{stays_self}
use Rattle.std.proofs.Common.{◌≡◌, ◌⊎◌, inl, inr, ℕ, false, List, ◌++◌, set, Option, Some, None, sym, ◌∙◌, subst, get_or-set_other}
use Rattle.arc_model.specs.declared.event.Act.{Act}
use Rattle.arc_model.specs.declared.event.CellName.{CellName}
use Rattle.arc_model.specs.declared.event.CellName.TheVariants as cells
use Rattle.arc_model.specs.Shapes.{HeapShape}
use Rattle.arc_model.specs.Heaps.{Heap}
use Rattle.arc_model.proofs.Basics.{None≢Some}
use Rattle.arc_model.specs.History.{History, heap_after, IsLegal}
use Rattle.arc_rule.specs.declared.layout.Place.{Place}
use Rattle.arc_rule.specs.declared.layout.Place.TheVariants.{Count, Isa, SlotBits, EntryBits}
use Rattle.arc_rule.specs.Places.{IsPlace, extent_of, number}
use Rattle.arc_rule.specs.Shown.{ShowsBut}
use Rattle.arc_view.specs.declared.view.Stored.{Stored}
use Rattle.arc_view.specs.declared.view.Working.{Working}
use Rattle.arc_view.specs.declared.view.View.{View}
use Rattle.arc_view.specs.Views.{Each, cell_place, private_words, Excepts}
use Rattle.arc_view.specs.Holding.{Owns}
use Rattle.arc_view.specs.Rule.{WorkFits, Lies, Lying, IsFirst, InShape}
use Rattle.arc_view.specs.Kinds.{event_list}
use Rattle.arc_view.proofs.Words.{number_same}
use Rattle.arc_view.proofs.Advance.{IsThere, CellKept, Good, lies_stay, reach_there}
use Rattle.arc_view.proofs.Bridge.{Before}

-- no thread has the word as its own, and it is no cell
pub record IsPlain (heap : Heap) (pl : Place) : Type 0 where
  pub unowned : (q : ℕ) → Owns heap q pl → ⊥
  pub cell : (c : CellName) → cell_place c ≡ pl → ⊥

pub plain_count : (heap : Heap) (s : ℕ) → IsPlain heap (Count s)
plain_count heap s = record { unowned = λ q o. o; cell = no_cell }
  where
    no_cell : (c : CellName) → cell_place c ≡ Count s → ⊥
    no_cell (cells.Field t f) e = cc
    no_cell (cells.Global g) e = cc

pub plain_isa : (heap : Heap) (s : ℕ) → IsPlain heap (Isa s)
plain_isa heap s = record { unowned = λ q o. o; cell = no_cell }
  where
    no_cell : (c : CellName) → cell_place c ≡ Isa s → ⊥
    no_cell (cells.Field t f) e = cc
    no_cell (cells.Global g) e = cc

pub plain_bits : (heap : Heap) (k : ℕ) → IsPlain heap (SlotBits k)
plain_bits heap k = record { unowned = λ q o. o; cell = no_cell }
  where
    no_cell : (c : CellName) → cell_place c ≡ SlotBits k → ⊥
    no_cell (cells.Field t f) e = cc
    no_cell (cells.Global g) e = cc

pub plain_entry_bits : (heap : Heap) (k : ℕ) → IsPlain heap (EntryBits k)
plain_entry_bits heap k = record { unowned = λ q o. o; cell = no_cell }
  where
    no_cell : (c : CellName) → cell_place c ≡ EntryBits k → ⊥
    no_cell (cells.Field t f) e = cc
    no_cell (cells.Global g) e = cc

-- Where the pass keeps no word private that it didn't keep before.
pub plain_named : (shape : HeapShape) (v : View) (h : History) → Before shape v h → (pl : Place) → IsPlain (heap_after h) pl → IsPlace (extent_of shape) pl → (x y : ℕ) (act : Option Act) (work : Working)
    → work.access ≡ v.working.access → ((t : ℕ) → work.owes ≡ Some (record { slot = t; counted = false }) → IsFirst shape (heap_after (event_list v.number act ++ h)) t)
    → ((P : Stored → Type 0) → Each P (private_words v.working) → Each P (private_words work))
    → IsLegal shape (event_list v.number act ++ h) → InShape shape (event_list v.number act ++ h)
    → ((c : CellName) → IsThere (heap_after h) c → CellKept shape (heap_after h) (heap_after (event_list v.number act ++ h)) c)
    → WorkFits shape v.number (event_list v.number act ++ h) work
    → ((Others : Place → Type 0) (ws : List ℕ) → ShowsBut (λ q. Excepts v.working q ⊎ Others q) shape (heap_after h) ws → Lying shape h v.seen ws v.working → ShowsBut (λ q. Excepts work q ⊎ Others q) shape (heap_after (event_list v.number act ++ h)) (set ws (number (extent_of shape) pl) y))
    → Good shape v h (number (extent_of shape) pl) x y act work
plain_named shape v h b pl plain inside x y act work access naming fewer may in_shape kept fits words = record {
  may = may;
  in_shape = in_shape;
  safe = inr (λ q iq at p own. absurd (not_owned q iq at p own));
  calm = inr (λ c ic at _. absurd (plain.cell c (number_same (extent_of shape) (cell_place c) pl ic inside at)));
  cells = λ c ic there ne. kept c there;
  begins = λ a e. inl (sym access ∙ e);
  words = λ Others ws s l r. words Others ws s l;
  fits = fits;
  lying = λ Others ws s l r. record {
    private = fewer (Lies shape (set ws (number (extent_of shape) pl) y))
        (lies_stay shape (heap_after h) ws (number (extent_of shape) pl) y v.number (private_words v.working) b.work.private l.private (inr (λ q iq at own. not_owned q iq at v.number own)));
    access = λ a e. let f = l.access a (sym access ∙ e) in let r = b.work.reaches a (sym access ∙ e) in let k = kept a.cell (reach_there shape h v.number a.cell b.legal r.1) in record {
      busy = get_or-set_other ws (number (extent_of shape) pl) (number (extent_of shape) (cell_place a.cell)) y 0 (λ at. plain.cell a.cell (number_same (extent_of shape) (cell_place a.cell) pl r.0 inside at)) ∙ f.busy;
      value = k.says a.value f.value;
      stays = stays_self (event_list v.number act ++ h) a.cell;
    };
    naming = naming;
  };
}
  where
    not_owned : (q : Place) → IsPlace (extent_of shape) q → number (extent_of shape) q ≡ number (extent_of shape) pl → (p : ℕ) → Owns (heap_after h) p q → ⊥
    not_owned q iq at p own = plain.unowned p (subst (λ r. Owns (heap_after h) p r) (number_same (extent_of shape) q pl iq inside at) own)

-- where nothing is owed then
pub plain_fewer : (shape : HeapShape) (v : View) (h : History) → Before shape v h → (pl : Place) → IsPlain (heap_after h) pl → IsPlace (extent_of shape) pl → (x y : ℕ) (act : Option Act) (work : Working)
    → work.access ≡ v.working.access → work.owes ≡ None → ((P : Stored → Type 0) → Each P (private_words v.working) → Each P (private_words work))
    → IsLegal shape (event_list v.number act ++ h) → InShape shape (event_list v.number act ++ h)
    → ((c : CellName) → IsThere (heap_after h) c → CellKept shape (heap_after h) (heap_after (event_list v.number act ++ h)) c)
    → WorkFits shape v.number (event_list v.number act ++ h) work
    → ((Others : Place → Type 0) (ws : List ℕ) → ShowsBut (λ q. Excepts v.working q ⊎ Others q) shape (heap_after h) ws → ShowsBut (λ q. Excepts work q ⊎ Others q) shape (heap_after (event_list v.number act ++ h)) (set ws (number (extent_of shape) pl) y))
    → Good shape v h (number (extent_of shape) pl) x y act work
plain_fewer shape v h b pl plain inside x y act work access owes fewer may in_shape kept fits words =
    plain_named shape v h b pl plain inside x y act work access (λ t e. absurd (None≢Some (record { slot = t; counted = false }) (sym owes ∙ e))) fewer may in_shape kept fits (λ Others ws s l. words Others ws s)

-- the same private words
pub plain_good : (shape : HeapShape) (v : View) (h : History) → Before shape v h → (pl : Place) → IsPlain (heap_after h) pl → IsPlace (extent_of shape) pl → (x y : ℕ) (act : Option Act) (work : Working)
    → work.access ≡ v.working.access → work.owes ≡ None → private_words work ≡ private_words v.working
    → IsLegal shape (event_list v.number act ++ h) → InShape shape (event_list v.number act ++ h)
    → ((c : CellName) → IsThere (heap_after h) c → CellKept shape (heap_after h) (heap_after (event_list v.number act ++ h)) c)
    → WorkFits shape v.number (event_list v.number act ++ h) work
    → ((Others : Place → Type 0) (ws : List ℕ) → ShowsBut (λ q. Excepts v.working q ⊎ Others q) shape (heap_after h) ws → ShowsBut (λ q. Excepts work q ⊎ Others q) shape (heap_after (event_list v.number act ++ h)) (set ws (number (extent_of shape) pl) y))
    → Good shape v h (number (extent_of shape) pl) x y act work
plain_good shape v h b pl plain inside x y act work access owes private = plain_fewer shape v h b pl plain inside x y act work access owes (λ P. subst (Each P) (sym private))
