-- Which words show which of the first things taken.
use Rattle.std.proofs.Common.{◌≡◌, ◌≤◌, ◌<◌, ◌/◌, ◌==◌, ◌||◌, ◌&&◌, not, ℕ, Bool, zero, suc, false, refl, sym, ◌∙◌, arith}
use Rattle.arc_model.specs.Heaps.{Heap}
use Rattle.arc_model.specs.Holders.{is_slot_taken, is_entry_taken}
use Rattle.arc_rule.specs.declared.layout.Place.TheVariants.{SlotBits, EntryBits}
use Rattle.arc_rule.specs.Bits.{ShowsBits}
use Rattle.arc_rule.proofs.Bits.{same_bits, shows_same, shows_or, shows_and, shows_none}
use Rattle.arc_view.specs.declared.view.View.{View}
use Rattle.arc_view.specs.Holding.{heap_of}
use Rattle.arc_view.specs.Steps.{IsRead}
use Rattle.arc_life.specs.Life.{life_shape}
use Rattle.arc_life.proofs.Witness.{never}

abbrev first : ℕ → Bool
first x = x == 0

abbrev two : ℕ → Bool
two x = first x || x == 1

abbrev three : ℕ → Bool
three x = two x || x == 2

abbrev but_second : ℕ → Bool
but_second x = three x && not (x == 1)

abbrev third : ℕ → Bool
third x = but_second x && not (x == 0)

pub shows_0 : (n : ℕ) → 0 < n → ShowsBits n 0 (λ x. false) 0
shows_0 n lt = shows_none n 0 (λ x. false) (λ x. refl)

pub shows_1 : (n : ℕ) → 0 < n → ShowsBits n 0 first 1
shows_1 n lt = shows_or n 0 (λ x. false) first 0 0 refl lt (λ x. refl) (shows_0 n lt)

pub shows_3 : (n : ℕ) → 3 ≤ n → ShowsBits n 0 two 3
shows_3 n le = shows_or n 0 first two 1 1 refl (omega (arith, le)) (λ x. refl) (shows_1 n (omega (arith, le)))

pub shows_7 : (n : ℕ) → 3 ≤ n → ShowsBits n 0 three 7
shows_7 n le = shows_or n 0 two three 3 2 refl (omega (arith, le)) (λ x. refl) (shows_3 n le)

pub shows_5 : (n : ℕ) → 3 ≤ n → ShowsBits n 0 but_second 5
shows_5 n le = shows_and n 0 three but_second 7 1 refl (λ x. refl) (shows_7 n le)

pub shows_4 : (n : ℕ) → 3 ≤ n → ShowsBits n 0 third 4
shows_4 n le = shows_and n 0 but_second third 5 0 refl (λ x. refl) (shows_5 n le)

-- the word of the slots' bits
pub slots_shown : (heap : Heap) {t : ℕ → Bool} {w found : ℕ} → ShowsBits 3 0 t w → is_slot_taken 0 heap ≡ t 0 → is_slot_taken 1 heap ≡ t 1 → is_slot_taken 2 heap ≡ t 2
    → ShowsBits 3 0 (λ s. is_slot_taken s heap) found → found ≡ w
slots_shown heap {t} {w} {found} shows a b c says =
    let same : ShowsBits 3 0 (λ s. is_slot_taken s heap) w = shows_same 3 0 t (λ s. is_slot_taken s heap) w each shows in
    same_bits 0 found w says.below same.below (λ x word. says.bits x word ∙ sym (same.bits x word))
  where
    each : (x : ℕ) → x / 64 ≡ 0 → x < 3 → is_slot_taken x heap ≡ t x
    each zero word lt = a
    each (suc zero) word lt = b
    each (suc (suc zero)) word lt = c
    each (suc (suc (suc x))) word lt = absurd (omega (arith, lt))

pub slots_read : {v : View} {t : ℕ → Bool} {w found : ℕ} → ShowsBits 3 0 t w → is_slot_taken 0 (heap_of v) ≡ t 0 → is_slot_taken 1 (heap_of v) ≡ t 1 → is_slot_taken 2 (heap_of v) ≡ t 2
    → IsRead life_shape v v.seen (SlotBits 0) found → found ≡ w
slots_read {v} shows a b c r = slots_shown (heap_of v) shows a b c (r.says never)

-- that of the entries'
pub entries_shown : (heap : Heap) {t : ℕ → Bool} {w found : ℕ} → ShowsBits 1 0 t w → is_entry_taken 0 heap ≡ t 0 → ShowsBits 1 0 (λ e. is_entry_taken e heap) found → found ≡ w
entries_shown heap {t} {w} {found} shows a says =
    let same : ShowsBits 1 0 (λ e. is_entry_taken e heap) w = shows_same 1 0 t (λ e. is_entry_taken e heap) w each shows in
    same_bits 0 found w says.below same.below (λ x word. says.bits x word ∙ sym (same.bits x word))
  where
    each : (x : ℕ) → x / 64 ≡ 0 → x < 1 → is_entry_taken x heap ≡ t x
    each zero word lt = a
    each (suc x) word lt = absurd (omega (arith, lt))

pub entries_read : {v : View} {t : ℕ → Bool} {w found : ℕ} → ShowsBits 1 0 t w → is_entry_taken 0 (heap_of v) ≡ t 0 → IsRead life_shape v v.seen (EntryBits 0) found → found ≡ w
entries_read {v} shows a r = entries_shown (heap_of v) shows a (r.says never)
