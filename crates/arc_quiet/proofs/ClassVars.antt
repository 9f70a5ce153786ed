-- The variables of a thread that works: each that isn't nil has a hand of its own that refers to an object of the variable's class.
use Rattle.std.proofs.Common.{◌≡◌, ◌≤◌, ◌==◌, ℕ, zero, suc, Bool, true, false, List, [], ◌∷◌, length, Option, Some, None, ◌⊎◌, inl, inr, refl, sym, ap, ◌∙◌, subst, arith}
use Rattle.std.specs.Prelude.{◌||◌, slice_get, slice_index_or}
use Rattle.std.proofs.lemmas.Bool.{eqb-true, eq-eqb}
use Rattle.std.proofs.lemmas.Option.{slice_get-get_or}
use Rattle.arc_model.specs.declared.event.CellName.{CellName}
use Rattle.arc_model.specs.declared.event.CellName.TheVariants as cells
use Rattle.arc_model.specs.declared.event.Event.{Event}
use Rattle.arc_model.specs.declared.shape.Kind.TheVariants.{Strong}
use Rattle.arc_model.specs.declared.shape.RefShape.{RefShape}
use Rattle.arc_model.specs.Shapes.{ObjectClass, HeapShape}
use Rattle.arc_model.specs.Heaps.{Object}
use Rattle.arc_model.specs.Holders.{at_slot, in_slot, is_number}
use Rattle.arc_model.specs.Cells.{cell_shape, field_shape}
use Rattle.arc_model.specs.History.{History, heap_after, IsLegal}
use Rattle.arc_spelling.specs.Spelling.{Note, hands_of}
use Rattle.arc_spelling.specs.SpellingTies.{Causes, Ties}
use Rattle.arc_model.specs.References.{place_of}
use Rattle.arc_model.proofs.Basics.{None≢Some, Some-inj, true≢false}
use Rattle.arc_model.proofs.Courses.{well_formed}
use Rattle.arc_model.proofs.Others.{false-if}
use Rattle.arc_model.proofs.Tally.{no}
use Rattle.arc_script.specs.Valid as valid
use Rattle.arc_script.specs.declared.script.ClassDecl.{ClassDecl}
use Rattle.arc_script.specs.declared.script.FieldDecl.{FieldDecl}
use Rattle.arc_script.specs.declared.script.VarDecl.{VarDecl}
use Rattle.arc_script.specs.declared.script.OpCell.{OpCell}
use Rattle.arc_script.specs.declared.script.OpCell.TheVariants as opcell
use Rattle.arc_programs.specs.Variables.{Held, Variables, value, put, cell_of, field_of}
use Rattle.arc_quiet.proofs.Bare.{find-only}
use Rattle.arc_quiet.proofs.ClassCells.{AllCells, Puts, PutFits}
use Rattle.arc_quiet.proofs.HandFits.{Fit, fit-step}
use Rattle.arc_quiet.proofs.Pasts.{Past, Spares, Stable, AtNotes, along}
use Rattle.arc_quiet.proofs.Spared.{Leaves, puts_none, spares-grow, Before}

-- a thread in a legal history, and what its script declares
pub record Setting : Type 0 where
  pub causes : Causes
  pub shape : HeapShape
  pub p : ℕ
  pub h : History
  pub legal : IsLegal shape h
  pub classes : List ClassDecl
  pub globals : List VarDecl
  pub decls : List VarDecl
  pub heading : valid.IsHeading shape classes globals

-- what a variable is declared to refer to
abbrev pub declared : Setting → ℕ → RefShape
declared x v = valid.ref_at (valid.var_refs x.decls) v

abbrev pub HandFits : Setting → Held → ℕ → History → Type 0
HandFits x held class g = (i : ℕ) × Fit x.p held.hand i held.kind class (Some held.place) (heap_after g)

abbrev pub VarsFit : Setting → Variables → History → Type 0
VarsFit x vars g = (v : ℕ) (held : Held) → value vars v ≡ Some held → (held.kind ≡ (declared x v).kind) × HandFits x held (declared x v).class g

-- what the thread put into cells fits, and so do its variables while the cells do
abbrev pub AllFit : Setting → Variables → History → Type 0
AllFit x vars g = Puts x.shape x.p g × (AllCells x.shape g → VarsFit x vars g)

-- ---- hands of variables

abbrev pub is_hand : ℕ → Option Held → Bool
is_hand j None = false
is_hand j (Some held) = held.hand == j

abbrev pub has_hand : Variables → ℕ → Bool
has_hand [] j = false
has_hand (v ∷ vars) j = is_hand j v || has_hand vars j

or-right : (a b : Bool) → b ≡ true → (a || b) ≡ true
or-right true b h = refl
or-right false b h = h

pub hand-has : (vars : Variables) (v : ℕ) (held : Held) → value vars v ≡ Some held → has_hand vars held.hand ≡ true
hand-has [] v held e = absurd (None≢Some held e)
hand-has (x ∷ vars) zero held e = ap (λ m. is_hand held.hand m || has_hand vars held.hand) e ∙ ap (λ b. b || has_hand vars held.hand) (eq-eqb held.hand held.hand refl)
hand-has (x ∷ vars) (suc v) held e = or-right (is_hand held.hand x) (has_hand vars held.hand) (hand-has vars v held e)

-- the variable with that hand
pub record Having (vars : Variables) (j : ℕ) : Type 0 where
  pub var : ℕ
  pub held : Held
  pub there : value vars var ≡ Some held
  pub is : held.hand ≡ j

pub has-var : (vars : Variables) (j : ℕ) → has_hand vars j ≡ true → Having vars j
has-var [] j e = no e
has-var (x ∷ vars) j e = go x (has-var vars j) e
  where
    go : (y : Option Held) → (has_hand vars j ≡ true → Having vars j) → (is_hand j y || has_hand vars j) ≡ true → Having (y ∷ vars) j
    go None ih e = let r = ih e in record { var = suc r.var; held = r.held; there = r.there; is = r.is }
    go (Some held) ih e = step (held.hand == j) refl e
      where
        step : (b : Bool) → (held.hand == j) ≡ b → (b || has_hand vars j) ≡ true → Having (Some held ∷ vars) j
        step true is e = record { var = zero; held = held; there = refl; is = eqb-true held.hand j is }
        step false is e = let r = ih e in record { var = suc r.var; held = r.held; there = r.there; is = r.is }

-- what a variable is after one is changed
pub value-put : (vars : Variables) (to v : ℕ) (new : Option Held) (held : Held) → value (put vars to new) v ≡ Some held → ((v ≡ to) × (new ≡ Some held)) ⊎ ((v ≡ to → ⊥) × (value vars v ≡ Some held))
value-put [] to v new held e = absurd (None≢Some held e)
value-put (x ∷ vars) zero zero new held e = inl (refl, e)
value-put (x ∷ vars) zero (suc v) new held e = inr (λ s. cc, e)
value-put (x ∷ vars) (suc to) zero new held e = inr (λ s. cc, e)
value-put (x ∷ vars) (suc to) (suc v) new held e = elim (value-put vars to v new held e) [
  | inl same ↦ inl (ap suc same.0, same.1)
  | inr other ↦ inr (λ s. other.0 (let t : v ≡ to = omega (arith, s) in t), other.1)
]

-- ---- the variables at some notes

pub record Good (x : Setting) (vars : Variables) (ns : List Note) : Type 0 where
  pub old : (v : ℕ) (held : Held) → value vars v ≡ Some held → held.hand ≤ hands_of ns
  pub apart : (v w : ℕ) (a b : Held) → value vars v ≡ Some a → value vars w ≡ Some b → a.hand ≡ b.hand → v ≡ w
  pub fits : AtNotes x.causes x.shape x.p x.h ns (AllFit x vars)

-- nothing is put in
pub puts-nothing : (shape : HeapShape) (e : Event) (g : History) → puts_none e.act ≡ true → PutFits shape e g
puts-nothing shape e g none c n k r s o is shaped at here = absurd (true≢false (sym none ∙ ap puts_none is))

pub vars-stable : (x : Setting) (vars : Variables) → Stable x.shape x.p (Leaves (has_hand vars)) (AllFit x vars)
vars-stable x vars e g legal pass q = (
  (q.0, λ mine cells. puts-nothing x.shape e g (pass mine).puts),
  λ cells v held is. let f = q.1 cells.1 v held is in
      (f.0, (f.1.0, fit-step x.shape e g legal x.p held.hand f.1.0 held.kind (declared x v).class (Some held.place) (λ mine. (pass mine).hands held.hand (hand-has vars v held is)) f.1.1)),
)

pub good-before : (x : Setting) (vars : Variables) (ns : List Note) → Good x vars ns → Before (has_hand vars) ns
good-before x vars ns good j has = let r = has-var vars j has in let a = good.old r.var r.held r.there in let b = r.is in omega arith

pub keep-good : (x : Setting) (vars : Variables) {b ns : List Note} → Good x vars b → Spares (Leaves (has_hand vars)) b ns → Good x vars ns
keep-good x vars good s =
    let grown = spares-grow (Leaves (has_hand vars)) s in record {
      old = λ v held is. let a = good.old v held is in omega arith;
      apart = good.apart;
      fits = along x.causes x.shape x.p x.h (Leaves (has_hand vars)) (AllFit x vars) x.legal (vars-stable x vars) s good.fits;
    }

-- fewer variables
pub sub-good : (x : Setting) (vars vars' : Variables) (ns : List Note) → ((v : ℕ) (held : Held) → value vars' v ≡ Some held → value vars v ≡ Some held) → Good x vars ns → Good x vars' ns
sub-good x vars vars' ns sub good = record {
  old = λ v held is. good.old v held (sub v held is);
  apart = λ v w a b e f. good.apart v w a b (sub v a e) (sub w b f);
  fits = λ g past t. let q = good.fits g past t in (q.0, λ cells v held is. q.1 cells v held (sub v held is));
}

pub sub-put : (vars vars' : Variables) (to : ℕ) → vars' ≡ put vars to None → (v : ℕ) (held : Held) → value vars' v ≡ Some held → value vars v ≡ Some held
sub-put vars vars' to e v held is = elim (value-put vars to v None held (ap (λ vs. value vs v) (sym e) ∙ is)) [
  | inl same ↦ absurd (None≢Some held same.1)
  | inr other ↦ other.1
]

-- what is dropped last is no variable's hand
abbrev pub IsAway : Variables → Option Held → Type 0
IsAway vars last = (old : Held) → last ≡ Some old → has_hand vars old.hand ≡ false

pub none-away : (vars : Variables) → IsAway vars None
none-away vars old e = absurd (None≢Some old e)

-- the value that a variable had, after it is changed to one with another hand
pub put-away : (x : Setting) (vars vars' : Variables) (ns : List Note) (to : ℕ) (new last : Option Held) → Good x vars ns → vars' ≡ put vars to new → last ≡ value vars to → ((held old : Held) → new ≡ Some held → last ≡ Some old → held.hand ≡ old.hand → ⊥) → IsAway vars' last
put-away x vars vars' ns to new last good e is differ old has = false-if (has_hand vars' old.hand) (λ t. go (has-var vars' old.hand t))
  where
    go : Having vars' old.hand → ⊥
    go r = elim (value-put vars to r.var new r.held (ap (λ vs. value vs r.var) (sym e) ∙ r.there)) [
      | inl same ↦ differ r.held old same.1 has r.is
      | inr other ↦ other.0 (good.apart r.var to r.held old other.1 (sym is ∙ has) r.is)
    ]

-- a new hand comes to a variable
pub put-good : (x : Setting) (vars vars' : Variables) (ns : List Note) (to : ℕ) (new : Held) → Good x vars ns → vars' ≡ put vars to (Some new) → ((v : ℕ) (held : Held) → value vars v ≡ Some held → held.hand ≡ new.hand → ⊥) → new.hand ≤ hands_of ns →
    AtNotes x.causes x.shape x.p x.h ns (λ g. AllCells x.shape g → (new.kind ≡ (declared x to).kind) × HandFits x new (declared x to).class g) → Good x vars' ns
put-good x vars vars' ns to new good e fresh came fits = record {
  old = λ v held is. elim (split v held is) [
    | inl same ↦ let a : held.hand ≡ new.hand = ap (λ (r : Held). r.hand) (Some-inj (sym same.1)) in omega arith
    | inr other ↦ good.old v held other.1
  ];
  apart = λ v w a b va wb same. pair v w a b same (split v a va) (split w b wb);
  fits = λ g past t. let q = good.fits g past t in (q.0, λ cells v held is. one g past t cells v held (split v held is));
}
  where
    split : (v : ℕ) (held : Held) → value vars' v ≡ Some held → ((v ≡ to) × (Some new ≡ Some held)) ⊎ ((v ≡ to → ⊥) × (value vars v ≡ Some held))
    split v held is = value-put vars to v (Some new) held (ap (λ vs. value vs v) (sym e) ∙ is)

    pair : (v w : ℕ) (a b : Held) → a.hand ≡ b.hand → ((v ≡ to) × (Some new ≡ Some a)) ⊎ ((v ≡ to → ⊥) × (value vars v ≡ Some a)) → ((w ≡ to) × (Some new ≡ Some b)) ⊎ ((w ≡ to → ⊥) × (value vars w ≡ Some b)) → v ≡ w
    pair v w a b same (inl p) (inl q) = p.0 ∙ sym q.0
    pair v w a b same (inl p) (inr q) = absurd (fresh w b q.1 (sym same ∙ ap (λ (r : Held). r.hand) (Some-inj (sym p.1))))
    pair v w a b same (inr p) (inl q) = absurd (fresh v a p.1 (same ∙ ap (λ (r : Held). r.hand) (Some-inj (sym q.1))))
    pair v w a b same (inr p) (inr q) = good.apart v w a b p.1 q.1 same

    one : (g : History) → Past x.h g → Ties x.causes x.shape x.p ns g → AllCells x.shape g → (v : ℕ) (held : Held) → ((v ≡ to) × (Some new ≡ Some held)) ⊎ ((v ≡ to → ⊥) × (value vars v ≡ Some held)) → (held.kind ≡ (declared x v).kind) × HandFits x held (declared x v).class g
    one g past t cells v held (inl same) =
        subst (λ (r : Held). (r.kind ≡ (declared x v).kind) × HandFits x r (declared x v).class g) (Some-inj same.1) (subst (λ u. (new.kind ≡ (declared x u).kind) × HandFits x new (declared x u).class g) (sym same.0) (fits g past t cells))
    one g past t cells v held (inr other) = (good.fits g past t).1 cells v held other.1

-- ---- the cell that an operation names

refs-at : (classes : List ClassDecl) (i : ℕ) → (slice_index_or (valid.class_refs classes) i (record { fields = []; immortal = false })).fields ≡ valid.field_refs (valid.fields_at classes i)
refs-at [] i = refl
refs-at (c ∷ classes) zero = refl
refs-at (c ∷ classes) (suc i) = refs-at classes i

length-refs : (fields : List FieldDecl) → length (valid.field_refs fields) ≡ length fields
length-refs [] = refl
length-refs (f ∷ fields) = ap suc (length-refs fields)

length-vars : (vars : List VarDecl) → length (valid.var_refs vars) ≡ length vars
length-vars [] = refl
length-vars (v ∷ vars) = ap suc (length-vars vars)

-- the object in the slot that a strong or unowned hand leads to
pub at-place : (shape : HeapShape) (g : History) (place i : ℕ) (o : Object) → IsLegal shape g → slice_get (heap_after g).objects i ≡ Some o → o.slot ≡ Some place → at_slot place (heap_after g) ≡ Some o
at-place shape g place i o legal here slot = find-only (in_slot place) (heap_after g).objects i o ((well_formed shape g legal).slots place) here (ap (λ m. is_number m place) slot ∙ eq-eqb place place refl)

pub cell-declared : (x : Setting) (vars : Variables) (g : History) (c : OpCell) (name : CellName) → IsLegal x.shape g → VarsFit x vars g → valid.IsCell x.classes x.globals x.decls c → cell_of vars c ≡ Some name → cell_shape x.shape (heap_after g) name ≡ Some (valid.cell_ref x.classes x.globals x.decls c)
cell-declared x vars g (opcell.Global n) name legal fits is e =
    let a : cell_shape x.shape (heap_after g) name ≡ slice_get x.shape.globals n = ap (cell_shape x.shape (heap_after g)) (Some-inj (sym e)) in
    let l = length-vars x.globals in
    a ∙ ap (λ gs. slice_get gs n) x.heading.of_globals ∙ slice_get-get_or (valid.var_refs x.globals) n (record { kind = Strong; class = 0 }) (omega (arith, is, l))
cell-declared x vars g (opcell.Field owner f) name legal fits is e = go (value vars owner) refl e
  where
    go : (m : Option Held) → value vars owner ≡ m → field_of f m ≡ Some name → cell_shape x.shape (heap_after g) name ≡ Some (valid.cell_ref x.classes x.globals x.decls (opcell.Field owner f))
    go None there e = absurd (None≢Some name e)
    go (Some held) there e =
        let r = fits owner held there in
        let fit = r.1.1 in
        let strong : held.kind ≡ Strong = r.0 ∙ is.1 in
        let slot : fit.object.slot ≡ Some held.place = ap (λ k. place_of k fit.object) (sym strong) ∙ fit.placed held.place refl in
        let found = at-place x.shape g held.place r.1.0 fit.object legal fit.here slot in
        let a : cell_shape x.shape (heap_after g) name ≡ cell_shape x.shape (heap_after g) (cells.Field held.place f) = ap (cell_shape x.shape (heap_after g)) (Some-inj (sym e)) in
        let l = length-refs (valid.owner_fields x.classes x.decls owner) in
        let within = is.2 in
        a ∙ ap (field_shape x.shape f) found ∙ ap (λ (cs : List ObjectClass). slice_get (slice_index_or {A = ObjectClass} cs fit.object.class (record { fields = []; immortal = false })).fields f) x.heading.of_classes ∙ ap (λ k. slice_get (slice_index_or {A = ObjectClass} (valid.class_refs x.classes) k (record { fields = []; immortal = false })).fields f) fit.is_class
        ∙ ap (λ fs. slice_get fs f) (refs-at x.classes (declared x owner).class) ∙ slice_get-get_or (valid.field_refs (valid.owner_fields x.classes x.decls owner)) f (record { kind = Strong; class = 0 }) (omega (arith, within, l))
