-- What calls leave of a pass's numbers.
use Rattle.std.proofs.Common.{◌≡◌, ℕ, ◌+◌, Bool, true, false, cond, [], ◌∷◌, Option, None, Some, refl, arith}
use Rattle.arc_model.specs.declared.event.Act.{Act}
use Rattle.arc_model.specs.Shapes.{HeapShape}
use Rattle.arc_view.specs.declared.view.View.{View}
use Rattle.arc_view.specs.Rule.{is_new, news}
use Rattle.arc_view.specs.Calls.{Grew}
use Rattle.arc_view_laws.proofs.Counted.{news_none, news_one}
use Rattle.arc_table.specs.declared.strong.Raised.{Raised}
use Rattle.arc_table.specs.declared.strong.Raised.TheVariants as raised
use Rattle.arc_table.specs.declared.strong.Lowered.{Lowered}
use Rattle.arc_table.specs.declared.strong.Lowered.TheVariants as lowered
use Rattle.arc_table.specs.Calls.{GoesOn}
use Rattle.arc_table.specs.Tokens.{raised_act, lowered_act}

-- the pass has made no object and split off no pass
pub record SameNumbers (v w : View) : Type 0 where
  pub number : w.number ≡ v.number
  pub made : news w.number w.seen ≡ news v.number v.seen
  pub splits : w.splits ≡ v.splits

same_none : (n : ℕ) (v w : View) → Grew [] n v w → SameNumbers v w
same_none n v w g = record { number = g.number; made = news_none n v w g; splits = g.splits }

same_one : (a : Act) (n : ℕ) (v w : View) → is_new a ≡ false → Grew (a ∷ []) n v w → SameNumbers v w
same_one a n v w old g = record { number = g.number; made = go (is_new a) old (news_one a n v w g); splits = g.splits }
  where
    go : (b : Bool) → b ≡ false → news w.number w.seen ≡ cond b 1 0 + news v.number v.seen → news w.number w.seen ≡ news v.number v.seen
    go true is e = absurd (cc)
    go false is e = omega (arith, e)

abbrev pub makes_new : Option Act → Bool
makes_new None = false
makes_new (Some a) = is_new a

-- a call whose act makes no object
pub same_call : (shape : HeapShape) (act : Option Act) (n : ℕ) (v w : View) → makes_new act ≡ false → GoesOn shape act n v w → SameNumbers v w
same_call shape None n v w old g = same_none n v w g.called.grew
same_call shape (Some a) n v w old g = same_one a n v w old g.called.grew

pub raised_old : (k : ℕ) (v : View) (a : Raised) → makes_new (raised_act k v a) ≡ false
raised_old k v raised.Up = refl
raised_old k v raised.AtCap = refl
raised_old k v raised.CountFull = refl
raised_old k v (raised.Again c) = refl

pub lowered_old : (k : ℕ) (a : Lowered) → makes_new (lowered_act k a) ≡ false
lowered_old k lowered.More = refl
lowered_old k lowered.Last = refl
lowered_old k (lowered.Again c) = refl
