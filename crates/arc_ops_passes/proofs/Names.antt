-- What words show that are noted: the name of the object in a slot, and that it has no entry.
use Rattle.std.proofs.Common.{◌≡◌, ◌⊎◌, inl, inr, ℕ, zero, suc, ◌+◌, ◌*◌, ◌/◌, ◌%◌, ◌<◌, ◌≤◌, ◌==◌, cond, List, [], ◌∷◌, length, option_map, Option, Some, None, refl, sym, ap, ◌∙◌, subst, arith, eq-eqb}
use Rattle.std.specs.Prelude.{slice_get}
use Rattle.std.proofs.lemmas.Bool.{cases_lt}
use Rattle.std.proofs.lemmas.List.Sums.{sum_by-cons}
use Rattle.arc_model.specs.declared.event.Act.{Act}
use Rattle.arc_model.specs.declared.event.ObjectName.{ObjectName}
use Rattle.arc_model.specs.declared.shape.Kind.TheVariants.{Unowned}
use Rattle.arc_model.specs.Shapes.{HeapShape}
use Rattle.arc_model.specs.Heaps.{Object}
use Rattle.arc_model.specs.Holders.{at_slot, made_by}
use Rattle.arc_model.specs.History.{History, heap_after, IsLegal}
use Rattle.arc_model.specs.References.{name_of}
use Rattle.arc_spelling.specs.SpellingTies.Causes.{Judged}
use Rattle.arc_model.proofs.Basics.{None≢Some, Some-inj}
use Rattle.arc_rule.specs.Extents.{Extent}
use Rattle.arc_rule.specs.Isa.{IsName, IsIsaWord, isa_word_of, isa_name_of}
use Rattle.arc_rule.specs.Places.{number}
use Rattle.arc_rule.specs.Shown.{ShowsName}
use Rattle.arc_rule.specs.declared.layout.Place.TheVariants.{Count, Isa, Field}
use Rattle.arc_rule.specs.declared.layout.Place.TheVariants as places
use Rattle.arc_rule.specs.declared.step.Step.{Step}
use Rattle.arc_rule.specs.declared.step.Step.TheVariants.{Load, Exchange}
use Rattle.arc_rule.specs.declared.step.Intent.{Intent}
use Rattle.arc_rule.specs.declared.step.Intent.TheVariants as intents
use Rattle.arc_side.specs.Inline.{counted_at}
use Rattle.arc_cells.specs.Cascades.{NamesClass}
use Rattle.arc_view.specs.Holding.{At}
use Rattle.arc_view.specs.Rule.{InShape, IsSized, news}
use Rattle.arc_view.proofs.Classes.{made_named, news_named}
use Rattle.arc_view.proofs.Strongs.{slot_found}
use Rattle.arc_ops_passes.proofs.Fields.{AllHold, few_fields}

-- ---- the name of an object has its place in an isa word

made_some : (p : ℕ) (os : List Object) (i : ℕ) (o : Object) → slice_get os i ≡ Some o → o.id.thread ≡ p → 1 ≤ made_by p os
made_some p [] i o e is = absurd (None≢Some o e)
made_some p (r ∷ os) zero o e is =
    let c = sum_by-cons (λ (x : Object). cond (x.id.thread == p) 1 0) r os in
    let one : cond (r.id.thread == p) 1 0 ≡ suc zero = ap (λ (x : Object). cond (x.id.thread == p) 1 zero) (Some-inj e) ∙ ap (λ b. cond b 1 zero) (eq-eqb o.id.thread p is) in
    omega arith
made_some p (r ∷ os) (suc i) o e is = let c = sum_by-cons (λ (x : Object). cond (x.id.thread == p) 1 0) r os in let h = made_some p os i o e is in omega arith

is_name : (shape : HeapShape) (h : History) (i : ℕ) (o : Object) → IsSized shape → InShape shape h → At (heap_after h) i o → IsName (name_of o)
is_name shape h i o sized within here = record {
  class = (let a = (within.classes i o here).0 in let b = sized.shape_fits.classes_fit in omega arith);
  thread = small;
  number = (within.classes i o here).1;
}
  where
    count_is : made_by o.id.thread (heap_after h).objects ≡ news o.id.thread h
    count_is = made_named o.id.thread (heap_after h).objects ∙ news_named o.id.thread h

    small : o.id.thread < 256
    small = at (cases_lt 64 o.id.thread)
      where
        at : (64 < o.id.thread) ⊎ (o.id.thread ≤ 64) → o.id.thread < 256
        at (inl lt) = let none = within.makers o.id.thread lt in let some = made_some o.id.thread (heap_after h).objects i o here refl in let is = count_is in absurd (omega arith)
        at (inr le) = omega arith

name_back : (name : ObjectName) → IsName name → name ≡ isa_name_of (isa_word_of name)
name_back name n =
    let c = n.class in
    let t = n.thread in
    let class : (name.class + 256 * name.thread + 65536 * name.number) % 256 ≡ name.class = omega arith in
    let thread : (name.class + 256 * name.thread + 65536 * name.number) / 256 % 256 ≡ name.thread = omega arith in
    let number : (name.class + 256 * name.thread + 65536 * name.number) / 65536 ≡ name.number = omega arith in
    rw (class, thread, number) refl

is_isa : (name : ObjectName) → IsName name → IsIsaWord (isa_word_of name)
is_isa name n =
    let c = n.class in
    let t = n.thread in
    let k = n.number in record {
      below = omega arith;
      class = (let class : (name.class + 256 * name.thread + 65536 * name.number) % 256 ≡ name.class = omega arith in omega arith);
    }

-- the isa word of a slot names the object in it
pub record NameRead (shape : HeapShape) (s found : ℕ) (h : History) : Type 0 where
  pub takes : NamesClass shape (Some found)
  pub named : option_map name_of (at_slot s (heap_after h)) ≡ Some (isa_name_of found)

pub name_read : (shape : HeapShape) (h : History) (i s found : ℕ) (o : Object) → IsSized shape → IsLegal shape h → InShape shape h → At (heap_after h) i o → o.slot ≡ Some s → ShowsName (at_slot s (heap_after h)) found → NameRead shape s found h
name_read shape h i s found o sized legal within here slot shows = record {
  takes = (subst IsIsaWord (sym word_is) (is_isa (name_of o) fits), subst (λ (n : ObjectName). n.class < length shape.classes) name_is (within.classes i o here).0);
  named = ap (option_map name_of) there ∙ ap Some name_is;
}
  where
    there : at_slot s (heap_after h) ≡ Some o
    there = slot_found shape h i s o legal here slot

    word_is : found ≡ isa_word_of (name_of o)
    word_is = subst (λ m. ShowsName m found) there shows

    fits : IsName (name_of o)
    fits = is_name shape h i o sized within here

    name_is : name_of o ≡ isa_name_of found
    name_is = name_back (name_of o) fits ∙ ap isa_name_of (sym word_is)

-- ---- what is noted of the words

pub step_is : (a b : Step) (i j : Intent) → Path (Option (Step × Intent)) (Some (a, i)) (Some (b, j)) → a ≡ b
step_is a b i j e = ap (λ (x : Step × Intent). x.0) (Some-inj e)

isa_slot : (l : Extent) (s slot : ℕ) → Load (number l (Isa s)) ≡ Load (number l (Isa slot)) → s ≡ slot
isa_slot l s slot e = omega (arith, place e)
  where
    place : Load (number l (Isa s)) ≡ Load (number l (Isa slot)) → number l (Isa s) ≡ number l (Isa slot)
    place e = cc

count_slot : (l : Extent) (s slot seen new w n : ℕ) → Exchange (number l (Count s)) seen new ≡ Exchange (number l (Count slot)) w n → s ≡ slot
count_slot l s slot seen new w n e = omega (arith, place e)
  where
    place : Exchange (number l (Count s)) seen new ≡ Exchange (number l (Count slot)) w n → number l (Count s) ≡ number l (Count slot)
    place e = cc

-- the words of slots stand before those of entries
no_count_of_entry : (l : Extent) (s e seen new w n : ℕ) → s < l.slots → Exchange (number l (Count s)) seen new ≡ Exchange (number l (places.Unowned e)) w n → ⊥
no_count_of_entry l s e seen new w n below x = omega (arith, below, place x)
  where
    place : Exchange (number l (Count s)) seen new ≡ Exchange (number l (places.Unowned e)) w n → number l (Count s) ≡ number l (places.Unowned e)
    place x = cc

pub no_exchange : (place other seen new : ℕ) → Load place ≡ Exchange other seen new → ⊥
no_exchange place other seen new e = cc

pub isa_no_field : (l : Extent) (s slot field : ℕ) {n : ℕ} → n ≤ 8 → field < n → Load (number l (Isa s)) ≡ Load (number l (Field slot field)) → ⊥
isa_no_field l s slot field few lt e = omega (arith, few, lt, place e)
  where
    place : Load (number l (Isa s)) ≡ Load (number l (Field slot field)) → number l (Isa s) ≡ number l (Field slot field)
    place e = cc

-- a load of a name, with no event
pub name_shown : (shape : HeapShape) → IsSized shape → (l : Extent) (s found p : ℕ) (intent : Intent) (h : History) → option_map name_of (at_slot s (heap_after h)) ≡ Some (isa_name_of found) → AllHold Judged shape l (Some (Load (number l (Isa s)), intent)) (Some found) p None None h
name_shown shape sized l s found p intent h named now = record {
  names = λ slot w i asked why last.
      let same = isa_slot l s slot (step_is (Load (number l (Isa s))) (Load (number l (Isa slot))) intent i asked) in
      subst (λ (x : ℕ × ℕ). option_map name_of (at_slot x.0 (heap_after h)) ≡ Some (isa_name_of x.1)) (λ j. (same j, Some-inj last j)) named;
  refers = λ x e. absurd (None≢Some x e);
  nil_fields = λ slot field of a is name lt. absurd (no_isa slot field (few_fields shape of.class sized) lt a);
  fields = λ slot field w of a is some name lt. absurd (no_isa slot field (few_fields shape of.class sized) lt a);
  entries = λ slot w n act i entry event. absurd (None≢Some act event);
}
  where
    no_isa : (slot field : ℕ) {n : ℕ} → n ≤ 8 → field < n → Path (Option (Step × Intent)) (Some (Load (number l (Isa s)), intent)) (Some (Load (number l (Field slot field)), intents.Deinit slot)) → ⊥
    no_isa slot field few lt a = isa_no_field l s slot field few lt (step_is (Load (number l (Isa s))) (Load (number l (Field slot field))) intent (intents.Deinit slot) a)

-- an exchange of counts whose event takes the last of a list of an object that has no entry
pub no_entry_shown : (shape : HeapShape) (l : Extent) (s seen new found p : ℕ) (intent : Intent) (act : Act) (h : History) → s < l.slots → option_map (λ (o : Object). o.entry) (at_slot s (heap_after (record { thread = p; act = act } ∷ h))) ≡ Some None
    → AllHold Judged shape l (Some (Exchange (number l (Count s)) seen new, intent)) (Some found) p (Some act) None h
no_entry_shown shape l s seen new found p intent act h below none now = record {
  names = λ slot w i asked. absurd (no_exchange (number l (Isa slot)) (number l (Count s)) seen new (sym (step_is (Exchange (number l (Count s)) seen new) (Load (number l (Isa slot))) intent i asked)));
  refers = λ x e. absurd (None≢Some x e);
  nil_fields = λ slot field of a. absurd (no_load slot field a);
  fields = λ slot field w of a. absurd (no_load slot field a);
  entries = λ slot w n a i entry event asked takes last counts. counted_here slot w n i entry asked;
}
  where
    no_load : (slot field : ℕ) → Path (Option (Step × Intent)) (Some (Exchange (number l (Count s)) seen new, intent)) (Some (Load (number l (Field slot field)), intents.Deinit slot)) → ⊥
    no_load slot field a = no_exchange (number l (Field slot field)) (number l (Count s)) seen new (sym (step_is (Exchange (number l (Count s)) seen new) (Load (number l (Field slot field))) intent (intents.Deinit slot) a))

    counted_here : (slot w n : ℕ) (i : Intent) (entry : Option ℕ) → Path (Option (Step × Intent)) (Some (Exchange (number l (Count s)) seen new, intent)) (Some (Exchange (number l (counted_at Unowned slot entry)) w n, i))
        → option_map (λ (o : Object). o.entry) (at_slot slot (heap_after (record { thread = p; act = act } ∷ h))) ≡ Some entry
    counted_here slot w n i None asked =
        let same = count_slot l s slot seen new w n (step_is (Exchange (number l (Count s)) seen new) (Exchange (number l (Count slot)) w n) intent i asked) in
        subst (λ (x : ℕ). option_map (λ (o : Object). o.entry) (at_slot x (heap_after (record { thread = p; act = act } ∷ h))) ≡ Some None) same none
    counted_here slot w n i (Some e) asked = absurd (no_count_of_entry l s e seen new w n below (step_is (Exchange (number l (Count s)) seen new) (Exchange (number l (places.Unowned e)) w n) intent i asked))
