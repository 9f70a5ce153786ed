use Rattle.std.proofs.Common.{◌≡◌, ℕ, zero, suc, List, [], ◌∷◌, get_or, ap, sym, ◌∙◌, subst, arith, below_more, get_or-set_same, get_or-set_other}
use Rattle.std.proofs.lemmas.List.{ext_get_or}
use mathlib.Core.Option.{some, some-injective, some-ne-none}
use lib.ListN.{get_elem?}
use Rattle.arc_model.specs.Shapes.{HeapShape}
use Rattle.arc_model.specs.History.{History, heap_after, IsLegal}
use Rattle.arc_rule.specs.Shown.{Shows}
use Rattle.arc_view.specs.Rule.{InShape}
use Rattle.arc_table.specs.Seats.{shape_of, view_of}
use Rattle.arc_table.specs.Ending.{IsAllQuiet}
use Rattle.arc_table.proofs.Closing.{closes}
use Rattle.arc_table.proofs.heap.Heap.close.Goals as goal

read : (l : List ℕ) (i a : ℕ) → get_elem? l i ≡ some a → get_or l i 0 ≡ a
read [] i a e = absurd (some-ne-none a (sym e))
read (x ∷ xs) zero a e = some-injective x a e
read (x ∷ xs) (suc i) a e = read xs i a e

pub loop-i-preserved : goal.loop-i-preserved
loop-i-preserved c = let i = c.loop-i.i in let kept = c.loop-i.invariant in (
  kept.0,
  below_more _ _ (λ k h. let ne : k ≡ i → ⊥ = λ e. omega arith in get_or-set_other c.loop-i.words.items i k c.word.result 0 ne ∙ kept.1 k h)
      (get_or-set_same c.loop-i.words.items i c.word.result 0 (let ok = c.loop-i.words.ok in let lt = c.loop-i-test.true in let n = c.len-i-end.ensures in omega (arith, ok, lt, n, kept.0)) ∙ sym (read c.close_with-closed.result.words.items i c.word.result c.word.ensures)),
)

-- what the rule shows of the words that the table was closed with
record Ended (c : goal.After-free) : Type 0 where
  words : List ℕ
  closed : words ≡ c.close_with-closed.result.words.items
  shown : IsLegal (shape_of c.args.self) (view_of c.args.pass).seen × InShape (shape_of c.args.self) (view_of c.args.pass).seen × Shows (shape_of c.args.self) (heap_after (view_of c.args.pass).seen) words × IsAllQuiet (heap_after (view_of c.args.pass).seen)

ended : (c : goal.After-free) → Ended c
ended c =
    let last = c.close_with-closed.ensures.values.2 in
    let r = c.requires in
    let v = view_of c.args.pass in record {
      words = last.0.words;
      closed = last.2;
      shown = subst (λ (h : HeapShape). IsLegal h v.seen × InShape h v.seen × Shows h (heap_after v.seen) last.0.words × IsAllQuiet (heap_after v.seen)) c.args.self.keyed
          (closes _ c.args.self.table.shared.key last.0 last.1.0 c.args.pass.part.seat.id v last.1.1 r.first r.whole r.nothing);
    }

seen_is : (c : goal.After-free) → c.of-at.result.value.me.0.seen ≡ (view_of c.args.pass).seen
seen_is c = ap (λ s. s.me.0.seen) c.of-at.ensures

same : (c : goal.After-free) → c.loop-i.words.items ≡ c.close_with-closed.result.words.items
same c =
    let kept = c.loop-i.invariant in
    let done = c.loop-i-test.false in
    let n = c.len-i-end.ensures in
    let ok = c.loop-i.words.ok in
    let whole = c.close_with-closed.result.words.ok in
    let counts = c.close_with-closed.ensures.counts in
    ext_get_or 0 c.loop-i.words.items c.close_with-closed.result.words.items (omega (arith, kept.0, ok.0, whole.0, counts.0, c.args.self.wide, c.args.self.roomy)) (λ k h. kept.1 k (omega (arith, h, ok.0, kept.0, n, done)))

pub returns-clause-closed : goal.returns-clause-closed
returns-clause-closed c =
    let shape = shape_of c.args.self in
    let e = ended c in record {
      legal = subst (IsLegal shape) (sym (seen_is c)) e.shown.0;
      in_shape = subst (InShape shape) (sym (seen_is c)) e.shown.1;
      words = subst (λ (ws : List ℕ). Shows shape (heap_after c.of-at.result.value.me.0.seen) ws) (e.closed ∙ sym (same c)) (subst (λ (l : History). Shows shape (heap_after l) e.words) (sym (seen_is c)) e.shown.2);
      quiet = subst (λ (l : History). IsAllQuiet (heap_after l)) (sym (seen_is c)) e.shown.3;
    }
