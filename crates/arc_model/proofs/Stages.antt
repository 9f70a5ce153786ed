-- What a stage of an object says, and which changes of an object keep it at its stage.
use Rattle.std.proofs.Common.{◌≡◌, ℕ, zero, suc, ◌+◌, ◌≤◌, Bool, true, false, cond, List, [], ◌∷◌, ◌++◌, Option, Some, None, refl, sym, ap, ◌∙◌, arith}
use Rattle.std.specs.Prelude.{◌||◌, is_some, ⊤}
use Rattle.std.proofs.lemmas.Bool.{eqb-true}
use Rattle.arc_model.specs.declared.shape.Kind.{Kind}
use Rattle.arc_model.specs.declared.shape.Kind.TheVariants.{Strong, Unowned, Weak}
use Rattle.arc_model.proofs.Basics.{None≢Some, same-holders}
use Rattle.arc_model.proofs.Tally.{no, clash, is_pos, is_in-tally, in-tally}
use Rattle.arc_model.specs.Shapes.{HeapShape}
use Rattle.arc_model.specs.Cells.{is_immortal, forever_if, strong_holders, holders_of}
use Rattle.arc_model.specs.Heaps.{Holder, Hand, Field, Global, Strongs, Unowneds, Forever, Duty, Deinit, Vacating, Gone, Owed, Object}
use Rattle.arc_model.specs.Holders.{same_holder, is_in, is_empty, holds, kind_in, list_of, with_list, is_duty, is_by, same_duty}
use Rattle.arc_model.specs.WellFormed.{tally, held, is_own, IsWhole, live, deiniting, deinited, vacating, going, freed, dead}

-- duties
pub duty-apart : (a b : Duty) (m : Option Owed) → is_duty a m ≡ true → is_duty b m ≡ true → same_duty a b ≡ true
duty-apart a b None h k = no h
duty-apart a b (Some d) h k = go a b d.duty h k
  where
    go : (a b c : Duty) → same_duty c a ≡ true → same_duty c b ≡ true → same_duty a b ≡ true
    go Deinit b Deinit h k = k
    go Deinit b Vacating h k = no h
    go Deinit b Gone h k = no h
    go Vacating b Deinit h k = no h
    go Vacating b Vacating h k = k
    go Vacating b Gone h k = no h
    go Gone b Deinit h k = no h
    go Gone b Vacating h k = no h
    go Gone b Gone h k = k

duty-none : {A : Type 0} (a : Duty) (m : Option Owed) → is_duty a m ≡ true → m ≡ None → A
duty-none a m h e = no (sym (ap (is_duty a) e) ∙ h)

pub duty-is : (p : ℕ) (a : Duty) (m : Option Owed) (d : Owed) → is_by p m ≡ true → is_duty a m ≡ true → m ≡ Some d → (d.thread ≡ p) × (d.duty ≡ a)
duty-is p a m d by duty e = (eqb-true d.thread p (sym (ap (is_by p) e) ∙ by), go a d.duty (sym (ap (is_duty a) e) ∙ duty))
  where
    go : (a c : Duty) → same_duty c a ≡ true → c ≡ a
    go Deinit Deinit h = refl
    go Deinit Vacating h = no h
    go Deinit Gone h = no h
    go Vacating Deinit h = no h
    go Vacating Vacating h = refl
    go Vacating Gone h = no h
    go Gone Deinit h = no h
    go Gone Vacating h = no h
    go Gone Gone h = refl

-- what a live object keeps
pub record LiveFacts (o : Object) : Type 0 where
  pub owed : o.owed ≡ None
  pub slot : is_some o.slot ≡ true
  pub strongs : tally Strongs o.unowned ≡ 1
  pub unowneds : tally Unowneds o.weak ≡ 1
  pub plain : o.entry ≡ None → o.weak ≡ Unowneds ∷ []

pub live-facts : {shape : HeapShape} (o : Object) → IsWhole shape o → is_empty (strong_holders shape o) ≡ false → LiveFacts o
live-facts o (live s d l a b p) h = record { owed = d; slot = l; strongs = a; unowneds = b; plain = p }
live-facts {shape = shape} o (deiniting s d l a b p) h = clash (is_empty (strong_holders shape o)) s h
live-facts {shape = shape} o (deinited s d l a u b p) h = clash (is_empty (strong_holders shape o)) s h
live-facts {shape = shape} o (vacating s d l u b p) h = clash (is_empty (strong_holders shape o)) s h
live-facts {shape = shape} o (going s d l u b e) h = clash (is_empty (strong_holders shape o)) s h
live-facts {shape = shape} o (freed s d l u b w e) h = clash (is_empty (strong_holders shape o)) s h
live-facts {shape = shape} o (dead s d l u w e) h = clash (is_empty (strong_holders shape o)) s h

-- an immortal object is live
pub immortal-live : (shape : HeapShape) (o : Object) → is_immortal shape o ≡ true → is_empty (strong_holders shape o) ≡ false
immortal-live shape o forever = ap (λ b. is_empty (o.strong ++ forever_if b)) forever ∙ go o.strong
  where
    go : (xs : List Holder) → is_empty (xs ++ Forever ∷ []) ≡ false
    go [] = refl
    go (x ∷ xs) = refl

pub immortal-slot : {shape : HeapShape} (o : Object) → IsWhole shape o → is_immortal shape o ≡ true → is_some o.slot ≡ true
immortal-slot {shape = shape} o whole forever = (live-facts o whole (immortal-live shape o forever)).slot

pub record DyingFacts (shape : HeapShape) (o : Object) : Type 0 where
  pub strong : is_empty (strong_holders shape o) ≡ true
  pub slot : is_some o.slot ≡ true
  pub strongs : tally Strongs o.unowned ≡ 1
  pub unowneds : tally Unowneds o.weak ≡ 1
  pub plain : o.entry ≡ None → o.weak ≡ Unowneds ∷ []

pub dying-facts : {shape : HeapShape} (o : Object) → IsWhole shape o → is_duty Deinit o.owed ≡ true → DyingFacts shape o
dying-facts o (live s d l a b p) h = duty-none Deinit o.owed h d
dying-facts o (deiniting s d l a b p) h = record { strong = s; slot = l; strongs = a; unowneds = b; plain = p }
dying-facts o (deinited s d l a u b p) h = duty-none Deinit o.owed h d
dying-facts o (vacating s d l u b p) h = no (duty-apart Deinit Vacating o.owed h d)
dying-facts o (going s d l u b e) h = no (duty-apart Deinit Gone o.owed h d)
dying-facts o (freed s d l u b w e) h = duty-none Deinit o.owed h d
dying-facts o (dead s d l u w e) h = duty-none Deinit o.owed h d

pub record VacatingFacts (shape : HeapShape) (o : Object) : Type 0 where
  pub strong : is_empty (strong_holders shape o) ≡ true
  pub unowned : is_empty o.unowned ≡ true
  pub unowneds : tally Unowneds o.weak ≡ 1
  pub plain : o.entry ≡ None → o.weak ≡ Unowneds ∷ []

pub vacating-facts : {shape : HeapShape} (o : Object) → IsWhole shape o → is_duty Vacating o.owed ≡ true → VacatingFacts shape o
vacating-facts o (live s d l a b p) h = duty-none Vacating o.owed h d
vacating-facts o (deiniting s d l a b p) h = no (duty-apart Vacating Deinit o.owed h d)
vacating-facts o (deinited s d l a u b p) h = duty-none Vacating o.owed h d
vacating-facts o (vacating s d l u b p) h = record { strong = s; unowned = u; unowneds = b; plain = p }
vacating-facts o (going s d l u b e) h = no (duty-apart Vacating Gone o.owed h d)
vacating-facts o (freed s d l u b w e) h = duty-none Vacating o.owed h d
vacating-facts o (dead s d l u w e) h = duty-none Vacating o.owed h d

pub record GoneFacts (shape : HeapShape) (o : Object) : Type 0 where
  pub strong : is_empty (strong_holders shape o) ≡ true
  pub unowned : is_empty o.unowned ≡ true
  pub slot : o.slot ≡ None
  pub unowneds : tally Unowneds o.weak ≡ 1
  pub entry : is_some o.entry ≡ true

pub gone-facts : {shape : HeapShape} (o : Object) → IsWhole shape o → is_duty Gone o.owed ≡ true → GoneFacts shape o
gone-facts o (live s d l a b p) h = duty-none Gone o.owed h d
gone-facts o (deiniting s d l a b p) h = no (duty-apart Gone Deinit o.owed h d)
gone-facts o (deinited s d l a u b p) h = duty-none Gone o.owed h d
gone-facts o (vacating s d l u b p) h = no (duty-apart Gone Vacating o.owed h d)
gone-facts o (going s d l u b e) h = record { strong = s; unowned = u; slot = l; unowneds = b; entry = e }
gone-facts o (freed s d l u b w e) h = duty-none Gone o.owed h d
gone-facts o (dead s d l u w e) h = duty-none Gone o.owed h d

-- the same stage
pub whole-same : {shape : HeapShape} (o q : Object) → is_empty (strong_holders shape q) ≡ is_empty (strong_holders shape o) → is_empty q.unowned ≡ is_empty o.unowned → is_empty q.weak ≡ is_empty o.weak → tally Strongs q.unowned ≡ tally Strongs o.unowned → tally Unowneds q.weak ≡ tally Unowneds o.weak → q.owed ≡ o.owed → q.slot ≡ o.slot → q.entry ≡ o.entry → ((o.entry ≡ None → o.weak ≡ Unowneds ∷ []) → q.entry ≡ None → q.weak ≡ Unowneds ∷ []) → IsWhole shape o → IsWhole shape q
whole-same o q es eu ew ss uu ed el ee pl (live s d l a b p) = live (es ∙ s) (ed ∙ d) (ap is_some el ∙ l) (ss ∙ a) (uu ∙ b) (pl p)
whole-same o q es eu ew ss uu ed el ee pl (deiniting s d l a b p) = deiniting (es ∙ s) (ap (is_duty Deinit) ed ∙ d) (ap is_some el ∙ l) (ss ∙ a) (uu ∙ b) (pl p)
whole-same o q es eu ew ss uu ed el ee pl (deinited s d l a u b p) = deinited (es ∙ s) (ed ∙ d) (ap is_some el ∙ l) (ss ∙ a) (eu ∙ u) (uu ∙ b) (pl p)
whole-same o q es eu ew ss uu ed el ee pl (vacating s d l u b p) = vacating (es ∙ s) (ap (is_duty Vacating) ed ∙ d) (ap is_some el ∙ l) (eu ∙ u) (uu ∙ b) (pl p)
whole-same o q es eu ew ss uu ed el ee pl (going s d l u b e) = going (es ∙ s) (ap (is_duty Gone) ed ∙ d) (el ∙ l) (eu ∙ u) (uu ∙ b) (ap is_some ee ∙ e)
whole-same o q es eu ew ss uu ed el ee pl (freed s d l u b w e) = freed (es ∙ s) (ed ∙ d) (el ∙ l) (eu ∙ u) (uu ∙ b) (ew ∙ w) (ap is_some ee ∙ e)
whole-same o q es eu ew ss uu ed el ee pl (dead s d l u w e) = dead (es ∙ s) (ed ∙ d) (el ∙ l) (eu ∙ u) (ew ∙ w) (ee ∙ e)

-- an object in a slot gets an entry
pub whole-entered : {shape : HeapShape} (o : Object) (e : ℕ) → is_some o.slot ≡ true → IsWhole shape o → IsWhole shape (record o { entry = Some e })
whole-entered o e h (live s d l a b p) = live s d l a b (λ n. absurd (None≢Some e (sym n)))
whole-entered o e h (deiniting s d l a b p) = deiniting s d l a b (λ n. absurd (None≢Some e (sym n)))
whole-entered o e h (deinited s d l a u b p) = deinited s d l a u b (λ n. absurd (None≢Some e (sym n)))
whole-entered o e h (vacating s d l u b p) = vacating s d l u b (λ n. absurd (None≢Some e (sym n)))
whole-entered o e h (going s d l u b f) = clash (is_some o.slot) h (ap is_some l)
whole-entered o e h (freed s d l u b w f) = clash (is_some o.slot) h (ap is_some l)
whole-entered o e h (dead s d l u w f) = clash (is_some o.slot) h (ap is_some l)

-- what an edit of the weak list keeps where there is no entry
abbrev pub PlainKept : Kind → (List Holder → List Holder) → Object → Type 0
PlainKept Strong h o = ⊤
PlainKept Unowned h o = ⊤
PlainKept Weak h o = o.entry ≡ None → o.weak ≡ Unowneds ∷ [] → h o.weak ≡ Unowneds ∷ []

pub whole-edited : {shape : HeapShape} (o q : Object) (k : Kind) (h : List Holder → List Holder) → q.class ≡ o.class → q.strong ≡ (with_list k h o).strong → q.unowned ≡ (with_list k h o).unowned → q.weak ≡ (with_list k h o).weak → q.owed ≡ o.owed → q.slot ≡ o.slot → q.entry ≡ o.entry →
    is_empty (holders_of shape k (with_list k h o)) ≡ is_empty (holders_of shape k o) → tally Strongs (h (list_of k o)) ≡ tally Strongs (list_of k o) → tally Unowneds (h (list_of k o)) ≡ tally Unowneds (list_of k o) → PlainKept k h o → IsWhole shape o → IsWhole shape q
whole-edited {shape = shape} o q Strong h c s u w d l e em ts tu pl wh = whole-same o q (ap is_empty (same-holders shape (with_list Strong h o) q c s) ∙ em) (ap is_empty u) (ap is_empty w) (ap (tally Strongs) u) (ap (tally Unowneds) w) d l e (λ p n. w ∙ p (sym e ∙ n)) wh
whole-edited {shape = shape} o q Unowned h c s u w d l e em ts tu pl wh = whole-same o q (ap is_empty (same-holders shape o q c s)) (ap is_empty u ∙ em) (ap is_empty w) (ap (tally Strongs) u ∙ ts) (ap (tally Unowneds) w) d l e (λ p n. w ∙ p (sym e ∙ n)) wh
whole-edited {shape = shape} o q Weak h c s u w d l e em ts tu pl wh = whole-same o q (ap is_empty (same-holders shape o q c s)) (ap is_empty u) (ap is_empty w ∙ em) (ap (tally Strongs) u) (ap (tally Unowneds) w ∙ tu) d l e (λ p n. w ∙ pl (sym e ∙ n) (p (sym e ∙ n))) wh

-- a hand or a cell among the weak holders: then there is an entry
own-weak : {A : Type 0} (x : Holder) (xs : List Holder) → is_own x ≡ true → is_in x xs ≡ true → xs ≡ Unowneds ∷ [] → A
own-weak (Hand p k) xs own held e = no (sym (ap (is_in (Hand p k)) e) ∙ held)
own-weak (Field o f) xs own held e = no (sym (ap (is_in (Field o f)) e) ∙ held)
own-weak (Global g) xs own held e = no (sym (ap (is_in (Global g)) e) ∙ held)
own-weak Strongs xs own held e = no own
own-weak Unowneds xs own held e = no own
own-weak Forever xs own held e = no own

pub plain-own : (x : Holder) (k : Kind) (h : List Holder → List Holder) (o : Object) → is_own x ≡ true → is_in x (list_of k o) ≡ true → PlainKept k h o
plain-own x Strong h o own held = tt
plain-own x Unowned h o own held = tt
plain-own x Weak h o own held = λ _ w. own-weak x o.weak own held w

pub strongs-apart : (x : Holder) → is_own x ≡ true → same_holder Strongs x ≡ false
strongs-apart (Hand p k) own = refl
strongs-apart (Field o f) own = refl
strongs-apart (Global g) own = refl
strongs-apart Strongs own = no own
strongs-apart Unowneds own = no own
strongs-apart Forever own = no own

pub unowneds-apart : (x : Holder) → is_own x ≡ true → same_holder Unowneds x ≡ false
unowneds-apart (Hand p k) own = refl
unowneds-apart (Field o f) own = refl
unowneds-apart (Global g) own = refl
unowneds-apart Strongs own = no own
unowneds-apart Unowneds own = no own
unowneds-apart Forever own = no own

pub forever-apart : (x : Holder) → is_own x ≡ true → same_holder Forever x ≡ false
forever-apart (Hand p k) own = refl
forever-apart (Field o f) own = refl
forever-apart (Global g) own = refl
forever-apart Strongs own = no own
forever-apart Unowneds own = no own
forever-apart Forever own = no own

-- the list that a holder is in
pub in-kind : (x : Holder) (o : Object) → holds x o ≡ true → is_in x (list_of (kind_in x o) o) ≡ true
in-kind x o h = go (is_in x o.strong) (is_in x o.unowned) refl refl h
  where
    go : (s u : Bool) → is_in x o.strong ≡ s → is_in x o.unowned ≡ u → (s || u || is_in x o.weak) ≡ true → is_in x (list_of (cond s Strong (cond u Unowned Weak)) o) ≡ true
    go true u es eu h = es
    go false true es eu h = eu
    go false false es eu h = h

-- a function of all three lists, of which one alone has x
pub one_list : (x : Holder) (o : Object) (g h : List Holder → List Holder) → ((xs : List Holder) → is_in x xs ≡ true → g xs ≡ h xs) → ((xs : List Holder) → is_in x xs ≡ false → g xs ≡ xs) → held x o ≤ 1 → holds x o ≡ true →
    (g o.strong ≡ (with_list (kind_in x o) h o).strong) × (g o.unowned ≡ (with_list (kind_in x o) h o).unowned) × (g o.weak ≡ (with_list (kind_in x o) h o).weak)
one_list x o g h here away one holds' = go (is_in x o.strong) (is_in x o.unowned) (is_in x o.weak) refl refl refl holds'
  where
    go : (s u w : Bool) → is_in x o.strong ≡ s → is_in x o.unowned ≡ u → is_in x o.weak ≡ w → (s || u || w) ≡ true →
        (g o.strong ≡ (with_list (cond s Strong (cond u Unowned Weak)) h o).strong) × (g o.unowned ≡ (with_list (cond s Strong (cond u Unowned Weak)) h o).unowned) × (g o.weak ≡ (with_list (cond s Strong (cond u Unowned Weak)) h o).weak)
    go true true w es eu ew t = let a = in-tally x o.strong es in let b = in-tally x o.unowned eu in absurd (omega arith)
    go true false true es eu ew t = let a = in-tally x o.strong es in let b = in-tally x o.weak ew in absurd (omega arith)
    go true false false es eu ew t = (here o.strong es, away o.unowned eu, away o.weak ew)
    go false true true es eu ew t = let a = in-tally x o.unowned eu in let b = in-tally x o.weak ew in absurd (omega arith)
    go false true false es eu ew t = (away o.strong es, here o.unowned eu, away o.weak ew)
    go false false true es eu ew t = (away o.strong es, away o.unowned eu, here o.weak ew)
    go false false false es eu ew t = no t

-- held and holds
pub holds-held : (x : Holder) (o : Object) → holds x o ≡ is_pos (held x o)
holds-held x o = ap (λ s. s || is_in x o.unowned || is_in x o.weak) (is_in-tally x o.strong) ∙ ap (λ u. is_pos (tally x o.strong) || u || is_in x o.weak) (is_in-tally x o.unowned) ∙ ap (λ w. is_pos (tally x o.strong) || is_pos (tally x o.unowned) || w) (is_in-tally x o.weak) ∙ go (tally x o.strong) (tally x o.unowned) (tally x o.weak)
  where
    pos : (n : ℕ) → 1 ≤ n → true ≡ is_pos n
    pos zero h = absurd (omega arith)
    pos (suc n) h = refl

    go : (a b c : ℕ) → (is_pos a || is_pos b || is_pos c) ≡ is_pos (a + b + c)
    go (suc a) b c = pos (suc a + b + c) (omega arith)
    go zero (suc b) c = pos (zero + suc b + c) (omega arith)
    go zero zero c = ap is_pos (let e : c ≡ zero + zero + c = omega arith in e)
