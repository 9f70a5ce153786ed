-- Small scripts, and that they are scripts.
use Rattle.std.proofs.Common.{◌≡◌, ◌≤◌, ◌<◌, ℕ, zero, suc, true, false, List, [], ◌∷◌, length, refl, sym, ap, arith, lit≤}
use Rattle.std.specs.List.{AllByRecursion}
use Rattle.arc_model.specs.declared.event.Act.{Act}
use Rattle.arc_model.specs.declared.event.Event.{Event}
use Rattle.arc_model.specs.declared.event.ObjectName.{ObjectName}
use Rattle.arc_model.specs.declared.shape.Kind.TheVariants.{Strong}
use Rattle.arc_model.specs.declared.shape.RefShape.{RefShape}
use Rattle.arc_model.specs.Shapes.{HeapShape}
use Rattle.arc_model.proofs.Basics.{None≢Some, Some-inj, true≢false}
use Rattle.arc_script.specs.declared.script.FieldDecl.{FieldDecl}
use Rattle.arc_script.specs.declared.script.ClassDecl.{ClassDecl}
use Rattle.arc_script.specs.declared.script.VarDecl.{VarDecl}
use Rattle.arc_script.specs.declared.script.Op.{Op}
use Rattle.arc_script.specs.declared.script.ThreadDecl.{ThreadDecl}
use Rattle.arc_script.specs.declared.script.Script.{Script}
use Rattle.arc_script.specs.Valid.{AreNames, class_refs, var_refs, immortals_of, is_weak_immortal, begins_block, Nested, none, operation, OfSecond, AreClasses, AreVars, IsHeading}
use Rattle.arc_programs.specs.Variables.{Held}
use Rattle.arc_quiet.specs.OneWay.{NoClassIsImmortal, StrongFieldsLeadOneWay}

abbrev pub by : ℕ → Act → Event
by p a = record { thread = p; act = a }

abbrev pub held : ℕ → ℕ → Held
held hand slot = record { hand = hand; kind = Strong; place = slot }

-- a strong variable, or global, with a name of one letter
abbrev pub strong : ℕ → ℕ → VarDecl
strong letter class = record { name = letter ∷ []; kind = Strong; class = class }

-- class N without fields
abbrev pub bare_class : ClassDecl
bare_class = record { name = 78 ∷ []; immortal = false; fields = [] }

-- the same, immortal
abbrev pub immortal_class : ClassDecl
immortal_class = record bare_class { immortal = true }

-- a class with a strong field
abbrev pub chain_class : ℕ → ℕ → ClassDecl
chain_class letter class = record { name = letter ∷ []; immortal = false; fields = record { name = 110 ∷ []; kind = Strong; class = class } ∷ [] }

abbrev pub shape_of : List ClassDecl → List VarDecl → HeapShape
shape_of classes globals = record { slots = 2; entries = 1; caps = record { strong = 1073741823; unowned = 2147483647; wide = 4294967295 }; classes = class_refs classes; globals = var_refs globals }

abbrev pub script_of : List ClassDecl → List VarDecl → List ThreadDecl → Script
script_of classes globals threads = record { version = 2; shape = shape_of classes globals; classes = classes; globals = globals; threads = threads; schedule = [] }

abbrev pub runs : List VarDecl → List Op → ThreadDecl
runs vars ops = record { vars = vars; phases = ops ∷ [] }

abbrev pub node : ℕ → ℕ → ObjectName
node class n = record { class = class; thread = 1; number = n }

-- ---- names

pub no-names : (limit : ℕ) → AreNames limit []
no-names limit = record { few = omega arith; spelled = λ i l. absurd (omega (arith, l)); apart = λ i l. absurd (omega (arith, l)) }

abbrev Upto : ℕ → (ℕ → Type 0) → Type 0
Upto zero P = Unit {0}
Upto (suc n) P = P 0 × Upto n (λ i. P (suc i))

below : (n : ℕ) (P : ℕ → Type 0) → Upto n P → (i : ℕ) → i < n → P i
below zero P h i lt = absurd (omega arith)
below (suc n) P h zero lt = h.0
below (suc n) P h (suc i) lt = below n (λ k. P (suc k)) h.1 i (omega arith)

name_n : AreNames 64 ((78 ∷ []) ∷ [])
name_n = record { few = lit≤ tt; spelled = below 1 _ (refl, tt); apart = below 1 _ (refl, tt) }

names_a_n : AreNames 64 ((65 ∷ []) ∷ (78 ∷ []) ∷ [])
names_a_n = record { few = lit≤ tt; spelled = below 2 _ (refl, (refl, tt)); apart = below 2 _ (refl, (refl, tt)) }

field_n : AreNames 8 ((110 ∷ []) ∷ [])
field_n = record { few = lit≤ tt; spelled = below 1 _ (refl, tt); apart = below 1 _ (refl, tt) }

name_a : (limit : ℕ) → 1 ≤ limit → AreNames limit ((97 ∷ []) ∷ [])
name_a limit few = record { few = few; spelled = below 1 _ (refl, tt); apart = below 1 _ (refl, tt) }

names_a_b : (limit : ℕ) → 2 ≤ limit → AreNames limit ((97 ∷ []) ∷ (98 ∷ []) ∷ [])
names_a_b limit few = record { few = few; spelled = below 2 _ (refl, (refl, tt)); apart = below 2 _ (refl, (refl, tt)) }

-- ---- headings

-- no field of these classes is a weak one of an immortal class
abbrev pub FieldsAllowed : List ClassDecl → Type 0
FieldsAllowed classes = AllByRecursion (λ (c : ClassDecl). AllByRecursion (λ (f : FieldDecl). is_weak_immortal (immortals_of classes) f.kind f.class ≡ false) c.fields) classes

abbrev pub VarsAllowed : List ClassDecl → List VarDecl → Type 0
VarsAllowed classes vars = AllByRecursion (λ (v : VarDecl). is_weak_immortal (immortals_of classes) v.kind v.class ≡ false) vars

pub heading : (classes : List ClassDecl) (globals : List VarDecl) → AreClasses classes → AreVars 64 (length classes) globals → FieldsAllowed classes → VarsAllowed classes globals →
    IsHeading (shape_of classes globals) classes globals
heading classes globals c g fs gs = record {
  slots = (lit≤ tt, lit≤ tt);
  entries = (lit≤ tt, lit≤ tt);
  caps = record { strong_fits = lit≤ tt; unowned_fits = (lit≤ tt, lit≤ tt); wide_fits = (lit≤ tt, lit≤ tt) };
  classes_named = c;
  globals_named = g;
  fields_allowed = fs;
  globals_allowed = gs;
  of_classes = refl;
  of_globals = refl;
}

pub bare-classes : AreClasses (bare_class ∷ [])
bare-classes = record { names = name_n; fields = (record { names = no-names 8; of_classes = tt }, tt) }

pub immortal-classes : AreClasses (immortal_class ∷ [])
immortal-classes = record { names = name_n; fields = (record { names = no-names 8; of_classes = tt }, tt) }

pub ring-classes : AreClasses (chain_class 78 0 ∷ [])
ring-classes = record { names = name_n; fields = (record { names = field_n; of_classes = (lit≤ tt, tt) }, tt) }

pub pair-classes : AreClasses (chain_class 65 1 ∷ bare_class ∷ [])
pair-classes = record {
  names = names_a_n;
  fields = (record { names = field_n; of_classes = (lit≤ tt, tt) }, (record { names = no-names 8; of_classes = tt }, tt));
}

pub no-vars : (limit classes : ℕ) → AreVars limit classes []
no-vars limit classes = record { names = no-names limit; of_classes = tt }

pub one-var : (limit class classes : ℕ) → 1 ≤ limit → class < classes → AreVars limit classes (strong 97 class ∷ [])
one-var limit class classes few below = record { names = name_a limit few; of_classes = (below, tt) }

pub two-vars : (limit a b classes : ℕ) → 2 ≤ limit → a < classes → b < classes → AreVars limit classes (strong 97 a ∷ strong 98 b ∷ [])
two-vars limit a b classes few la lb = record { names = names_a_b limit few; of_classes = (la, (lb, tt)) }

-- operations without a block are nested
pub no-blocks : (deep at : ℕ) (ops : List Op) → AllByRecursion (λ (o : Op). begins_block o ≡ false) ops → Nested deep at ops
no-blocks deep at [] a = none
no-blocks deep at (o ∷ ops) a = operation o ops a.0 (no-blocks deep (suc at) ops a.1)

-- nothing in it is of version 2 alone
pub of-first : {version : ℕ} → OfSecond version false
of-first e = absurd (true≢false (sym e))

-- ---- classes that aren't immortal, and strong fields that lead one way

pub bare-mortal : (globals : List VarDecl) → NoClassIsImmortal (shape_of (bare_class ∷ []) globals)
bare-mortal globals zero = refl
bare-mortal globals (suc c) = refl

pub ring-mortal : (globals : List VarDecl) → NoClassIsImmortal (shape_of (chain_class 78 0 ∷ []) globals)
ring-mortal globals zero = refl
ring-mortal globals (suc c) = refl

pub pair-mortal : (globals : List VarDecl) → NoClassIsImmortal (shape_of (chain_class 65 1 ∷ bare_class ∷ []) globals)
pair-mortal globals zero = refl
pair-mortal globals (suc zero) = refl
pair-mortal globals (suc (suc c)) = refl

pub immortal-ways : (globals : List VarDecl) → StrongFieldsLeadOneWay (shape_of (immortal_class ∷ []) globals)
immortal-ways globals zero f r at strong' = absurd (None≢Some r at)
immortal-ways globals (suc c) f r at strong' = absurd (None≢Some r at)

pub bare-ways : (globals : List VarDecl) → StrongFieldsLeadOneWay (shape_of (bare_class ∷ []) globals)
bare-ways globals zero f r at strong' = absurd (None≢Some r at)
bare-ways globals (suc c) f r at strong' = absurd (None≢Some r at)

pub pair-ways : (globals : List VarDecl) → StrongFieldsLeadOneWay (shape_of (chain_class 65 1 ∷ bare_class ∷ []) globals)
pair-ways globals zero zero r at strong' = let e : r.class ≡ 1 = ap (λ (q : RefShape). q.class) (Some-inj (sym at)) in omega arith
pair-ways globals zero (suc f) r at strong' = absurd (None≢Some r at)
pair-ways globals (suc zero) f r at strong' = absurd (None≢Some r at)
pair-ways globals (suc (suc c)) f r at strong' = absurd (None≢Some r at)
