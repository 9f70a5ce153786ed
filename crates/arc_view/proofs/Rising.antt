-- A count that goes up by one, on an inline word or in an entry, or that stands still since the object is immortal, or since it is refused.
use Rattle.std.proofs.Common.{◌≡◌, ℕ, suc, ◌+◌, ◌-◌, ◌<◌, ◌≤◌, ◌==◌, not, Bool, true, false, List, [], ◌∷◌, length, Some, None, refl, sym, ap, ◌∙◌, subst, arith, length-append}
use Rattle.arc_bits.specs.declared.packing.Inline.{Inline}
use Rattle.arc_bits.specs.declared.packing.Word.TheVariants.{Counts}
use Rattle.arc_bits.specs.Words.{counts_word, IsWordOf}
use Rattle.arc_bits.specs.Moves.{strong_more, unowned_more}
use Rattle.arc_model.specs.declared.event.Act.{Act}
use Rattle.arc_model.specs.declared.shape.Kind.{Kind}
use Rattle.arc_model.specs.declared.shape.Kind.TheVariants as kinds
use Rattle.arc_model.specs.Shapes.{HeapShape}
use Rattle.arc_model.specs.Heaps.{Holder, Object}
use Rattle.arc_model.specs.Holders.{is_empty, list_of, at_entry}
use Rattle.arc_model.specs.Cells.{is_immortal, is_live, strong_holders}
use Rattle.arc_model.specs.Needs.{has_room}
use Rattle.arc_model.specs.History.{History, heap_after}
use Rattle.arc_model.proofs.Basics.{None≢Some, true≢false, empty-push, some-strong}
use Rattle.arc_model.proofs.Stages.{immortal-live}
use Rattle.arc_model.proofs.Courses.{well_formed}
use Rattle.arc_rule.specs.declared.layout.Place.TheVariants.{Count}
use Rattle.arc_rule.specs.Places.{extent_of, number}
use Rattle.arc_rule.specs.Shown.{Says, IsHeader, IsInline, ShowsCounts, ShowsHolders, counts_in}
use Rattle.arc_view.specs.declared.view.View.{View}
use Rattle.arc_view.specs.Holding.{At}
use Rattle.arc_view.proofs.Words.{slot_found}
use Rattle.arc_view.proofs.Advance.{Good}
use Rattle.arc_view.proofs.Bridge.{Before}
use Rattle.arc_view.proofs.Lasting.{immortal_same, header_inline}
use Rattle.arc_view.proofs.Counting.{Counted, counts_mortal, inline_counts, strong_mortal}
use Rattle.arc_view.proofs.Strongs.{entry_found, room_below, empty_length}
use Rattle.arc_view.proofs.Turned.{count_place, Turned, inline_good, entry_good}
use Rattle.arc_view.proofs.Growing.{grown, grown_length, other_length}

pub some_strong : (xs : List Holder) → is_empty xs ≡ false → 1 ≤ length xs
some_strong [] e = absurd (true≢false e)
some_strong (x ∷ xs) e = omega arith

not_true : (b : Bool) → b ≡ false → not b ≡ true
not_true b e = ap (λ t. not t) e

pub live_some : (shape : HeapShape) (o : Object) → is_empty o.strong ≡ false → is_live shape o ≡ true
live_some shape o some = not_true (is_empty (strong_holders shape o)) (some-strong shape o some)

pub live_forever : (shape : HeapShape) (o : Object) → is_immortal shape o ≡ true → is_live shape o ≡ true
live_forever shape o forever = not_true (is_empty (strong_holders shape o)) (immortal-live shape o forever)

pub none_live : (shape : HeapShape) (o : Object) → is_immortal shape o ≡ false → length o.strong ≡ 0 → is_live shape o ≡ false
none_live shape o mortal none = ap (λ xs. not (is_empty xs)) (strong_mortal shape o mortal) ∙ ap (λ b. not b) (empty_length o.strong ∙ ap (λ n. n == 0) none)

module _ (shape : HeapShape) (v : View) (h : History) (b : Before shape v h) (i : ℕ) (o : Object) (here : At (heap_after h) i o) where
  -- what the inline word of its slot shows
  pub inline_now : (s x : ℕ) → o.slot ≡ Some s → Says shape (heap_after h) (Count s) x → IsInline (is_immortal shape o) shape o x
  inline_now s x slot says = subst (λ m. ShowsCounts shape m x) (slot_found shape h i s o b.legal here slot) says

  pub counted_now : (s x : ℕ) (c : Inline) → o.slot ≡ Some s → Says shape (heap_after h) (Count s) x → IsWordOf (Counts c) x → Counted shape o c
  counted_now s x c slot says word = inline_counts shape o c x b.sized (inline_now s x slot says) word

  pub unowned_room : (c : Inline) → Counted shape o c → c.unowned < shape.caps.unowned → has_room shape o o.unowned ≡ true
  unowned_room c counted room = room_below shape o o.unowned (let is = ap (λ (d : Inline). d.unowned) counted.counts in let cap = b.sized.caps_fit.wide_fits.1 in omega (arith, is, room, cap))

  pub strong_room : (c : Inline) → Counted shape o c → c.strong_extra < shape.caps.strong → has_room shape o o.strong ≡ true
  strong_room c counted room = room_below shape o o.strong (let is = ap (λ (d : Inline). d.strong_extra) counted.counts in let cap = b.sized.caps_fit.wide_fits.0 in omega (arith, is, room, cap))

  pub counted_live : (c : Inline) → Counted shape o c → c.deiniting ≡ false → is_live shape o ≡ true
  counted_live c counted live = live_some shape o (ap (λ (d : Inline). d.deiniting) counted.counts ∙ live)

  -- an immortal object has no entry
  pub immortal_none : is_immortal shape o ≡ true → o.entry ≡ None
  immortal_none forever = ((well_formed shape h b.legal).immortal i o here forever).1

  pub entered_mortal : (e : ℕ) → o.entry ≡ Some e → is_immortal shape o ≡ false
  entered_mortal e entry = by (is_immortal shape o) refl
    where
      by : (t : Bool) → is_immortal shape o ≡ t → t ≡ false
      by true is = absurd (None≢Some e (sym (immortal_none is) ∙ entry))
      by false is = refl

  holders_says : (kind : Kind) (e x : ℕ) → Says shape (heap_after h) (count_place kind e) x → ShowsHolders shape kind (at_entry e (heap_after h)) x
  holders_says kinds.Strong e x says = says
  holders_says kinds.Unowned e x says = says
  holders_says kinds.Weak e x says = says

  -- and the word of its entry
  pub entry_now : (kind : Kind) (e x : ℕ) → o.entry ≡ Some e → Says shape (heap_after h) (count_place kind e) x → (x ≡ length (list_of kind o)) × (x ≤ shape.caps.wide)
  entry_now kind e x entry says = subst (λ m. ShowsHolders shape kind m x) (entry_found shape h i e o b.legal here entry) (holders_says kind e x says)

  module _ (act : Act) (owes : v.working.owes ≡ None) where
    -- the inline word of an immortal object stays
    pub forever_good : (q : Object) → Turned shape v h act o q → (s x : ℕ) → o.slot ≡ Some s → s < shape.slots → x ≡ 1 → is_immortal shape o ≡ true → Good shape v h (number (extent_of shape) (Count s)) x x (Some act) v.working
    forever_good q t s x slot lt one forever = inline_good shape v h b act i o q here t owes s slot lt (immortal_none forever) x x (subst (λ m. IsInline m shape q x) (sym (immortal_same shape o q t.relisted.class ∙ forever)) one)

    -- nothing changes
    pub entry_same_good : (kind : Kind) → Turned shape v h act o o → (e x : ℕ) → o.entry ≡ Some e → e < shape.entries → Says shape (heap_after h) (count_place kind e) x → Good shape v h (number (extent_of shape) (count_place kind e)) x x (Some act) v.working
    entry_same_good kind t e x entry lt says = let now = entry_now kind e x entry says in entry_good shape v h b act i o o here t owes kind e entry lt (λ k ne. refl) x x now.0 now.1

    pub inline_same_good : Turned shape v h act o o → (s x : ℕ) → o.slot ≡ Some s → s < shape.slots → o.entry ≡ None → Says shape (heap_after h) (Count s) x → Good shape v h (number (extent_of shape) (Count s)) x x (Some act) v.working
    inline_same_good t s x slot lt unentered says = inline_good shape v h b act i o o here t owes s slot lt unentered x x (inline_now s x slot says)

    module _ (y : Holder) where
      pub entry_up_good : (kind : Kind) → Turned shape v h act o (grown kind y o) → (e x : ℕ) → o.entry ≡ Some e → e < shape.entries → Says shape (heap_after h) (count_place kind e) x → x < shape.caps.wide
          → Good shape v h (number (extent_of shape) (count_place kind e)) x (suc x) (Some act) v.working
      entry_up_good kind t e x entry lt says room =
          let now = entry_now kind e x entry says in
          entry_good shape v h b act i o (grown kind y o) here t owes kind e entry lt (λ k ne. other_length kind k y o ne) x (suc x) (ap suc now.0 ∙ sym (grown_length kind y o)) (omega (arith, room))

      -- the object has no entry, and its inline word shows these counts
      module _ (s x : ℕ) (c : Inline) (slot : o.slot ≡ Some s) (lt : s < shape.slots) (word : IsWordOf (Counts c) x) (says : Says shape (heap_after h) (Count s) x) where
        mortal : is_immortal shape o ≡ false
        mortal = counts_mortal shape o c x (inline_now s x slot says) word

        counted : Counted shape o c
        counted = counted_now s x c slot says word

        pub unowned_up_good : Turned shape v h act o (grown kinds.Unowned y o) → c.unowned < shape.caps.unowned → Good shape v h (number (extent_of shape) (Count s)) x (counts_word (unowned_more c)) (Some act) v.working
        unowned_up_good t room = inline_good shape v h b act i o (grown kinds.Unowned y o) here t owes s slot lt counted.entry x (counts_word (unowned_more c))
            (header_inline shape (grown kinds.Unowned y o) (counts_word (unowned_more c)) mortal (subst (λ m. IsHeader shape (grown kinds.Unowned y o) m (counts_word (unowned_more c))) (sym counted.entry) header))
          where
            long : length (grown kinds.Unowned y o).unowned ≡ c.unowned + 1
            long = let is = ap (λ (d : Inline). d.unowned) counted.counts in omega (arith, is, length-append o.unowned (y ∷ []))

            counts : counts_in (grown kinds.Unowned y o) ≡ unowned_more c
            counts = λ j. record { strong_extra = ap (λ (d : Inline). d.strong_extra) counted.counts j; unowned = long j; deiniting = ap (λ (d : Inline). d.deiniting) counted.counts j }

            header : IsHeader shape (grown kinds.Unowned y o) None (counts_word (unowned_more c))
            header = (ap counts_word (sym counts), counted.strong_cap, omega (arith, long, room))

        pub strong_up_good : Turned shape v h act o (grown kinds.Strong y o) → c.deiniting ≡ false → c.strong_extra < shape.caps.strong → Good shape v h (number (extent_of shape) (Count s)) x (counts_word (strong_more c)) (Some act) v.working
        strong_up_good t live room = inline_good shape v h b act i o (grown kinds.Strong y o) here t owes s slot lt counted.entry x (counts_word (strong_more c))
            (header_inline shape (grown kinds.Strong y o) (counts_word (strong_more c)) mortal (subst (λ m. IsHeader shape (grown kinds.Strong y o) m (counts_word (strong_more c))) (sym counted.entry) header))
          where
            some : 1 ≤ length o.strong
            some = some_strong o.strong (ap (λ (d : Inline). d.deiniting) counted.counts ∙ live)

            long : length (grown kinds.Strong y o).strong - 1 ≡ c.strong_extra + 1
            long = let is = ap (λ (d : Inline). d.strong_extra) counted.counts in omega (arith, is, some, length-append o.strong (y ∷ []))

            counts : counts_in (grown kinds.Strong y o) ≡ strong_more c
            counts = λ j. record { strong_extra = long j; unowned = ap (λ (d : Inline). d.unowned) counted.counts j; deiniting = (empty-push y o.strong ∙ sym live) j }

            header : IsHeader shape (grown kinds.Strong y o) None (counts_word (strong_more c))
            header = (ap counts_word (sym counts), omega (arith, long, room), counted.unowned_cap)
