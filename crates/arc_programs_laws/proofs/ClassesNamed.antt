-- Each object is of a class of the script, and so is each that a line names.
use Rattle.std.proofs.Common.{◌≡◌, ℕ, ◌≤◌, ◌<◌, Bool, true, false, cond, List, [], ◌∷◌, ◌++◌, Option, Some, None, refl, sym, ◌∙◌, subst}
use Rattle.std.specs.Prelude.{All, find, length, map, option_map, reverse}
use Rattle.std.specs.List.{AllByRecursion}
use Rattle.std.proofs.lemmas.List.Elements.{All-from_recursion}
use Rattle.std.proofs.lemmas.List.Sorted.{All-permutation, IsPermutation-reverse}
use Rattle.arc_model.specs.declared.event.Act.{Act}
use Rattle.arc_model.specs.declared.event.Act.TheVariants as acts
use Rattle.arc_model.specs.declared.event.CellName.TheVariants as cells
use Rattle.arc_model.specs.declared.event.Event.{Event}
use Rattle.arc_model.specs.declared.event.Got.{Got}
use Rattle.arc_model.specs.declared.event.Got.TheVariants as got
use Rattle.arc_model.specs.declared.event.ObjectName.{ObjectName}
use Rattle.arc_model.specs.declared.shape.Kind.{Kind}
use Rattle.arc_model.specs.declared.shape.Kind.TheVariants.{Strong, Unowned, Weak}
use Rattle.arc_model.specs.Shapes.{HeapShape}
use Rattle.arc_model.specs.Cells.{cell, origin}
use Rattle.arc_model.specs.Effects.{effect, made, ended_if, loaded, given_up, becomes, put_in, taken_out, finished, left_slot, vacated, gone, entry_left, claimed_if, owing_none}
use Rattle.arc_model.specs.Heaps.{Holder, Hand, Strongs, Unowneds, Object, Heap}
use Rattle.arc_model.specs.Holders.{gains, without, renamed, with_last, lists, with_list, holds, kind_in, in_slot, has_entry, held_by, at_slot, at_first}
use Rattle.arc_model.specs.History.{History, heap_after, share}
use Rattle.arc_spelling.specs.Spelling.{Note, acts_of}
use Rattle.arc_spelling.specs.Spelling.Note.{Did, Line as Says, Operation, Name, Entry, NeedsEntry, Nil, Refers}
use Rattle.arc_spelling.specs.SpellingTies.{Causes, Ties, Holds}
use Rattle.arc_model.specs.References.{name_of}
use Rattle.arc_spelling.specs.SpellingTies.Ties.{start, own, other, noted}
use Rattle.arc_model.proofs.Basics.{None≢Some, Some-inj}
use Rattle.arc_model.proofs.Builds.{entry_to-objects}
use Rattle.arc_spelling.proofs.SpellTies.{share_is}
use Rattle.arc_programs.specs.ProgramsLines.{lines_of}
use Rattle.arc_programs.specs.ProgramsTied.{hands_in}
use Rattle.arc_programs_laws.specs.Names.{LineFits, ClassFits, EventsNameClasses, LinesNameClasses}
use Rattle.arc_programs_laws.proofs.Additions.{NamesFit}
use Rattle.arc_programs_laws.proofs.Shares.{all-shared}
use Rattle.arc_programs_laws.proofs.Works.{spelled-told, ops_fit}

-- ---- objects

abbrev EventsFit : ℕ → History → Type 0
EventsFit m h = AllByRecursion (λ (e : Event). ClassFits m e.act) h

-- each object is of one of so many classes
abbrev ObjectsFit : ℕ → List Object → Type 0
ObjectsFit m os = AllByRecursion (λ (o : Object). o.class < m) os

first-fits : (m : ℕ) (test : Object → Bool) (f : Object → Object) (os : List Object) → ((o : Object) → (f o).class ≡ o.class) → ObjectsFit m os → ObjectsFit m (at_first test f os)
first-fits m test f [] same fit = tt
first-fits m test f (o ∷ os) same fit = go (test o) (first-fits m test f os same fit.1)
  where
    go : (b : Bool) → ObjectsFit m (at_first test f os) → ObjectsFit m (cond b (f o ∷ os) (o ∷ at_first test f os))
    go true ih = (subst (λ c. c < m) (sym (same o)) fit.0, fit.1)
    go false ih = (fit.0, ih)

end-fits : (m : ℕ) (os : List Object) (o : Object) → ObjectsFit m os → o.class < m → ObjectsFit m (os ++ o ∷ [])
end-fits m [] o fit one = (one, tt)
end-fits m (q ∷ os) o fit one = (fit.0, end-fits m os o fit.1 one)

found-fits : (m : ℕ) (test : Object → Bool) (os : List Object) (o : Object) → ObjectsFit m os → find test os ≡ Some o → o.class < m
found-fits m test [] o fit found = absurd (None≢Some o found)
found-fits m test (q ∷ os) o fit found = go (test q) found (found-fits m test os o fit.1)
  where
    go : (b : Bool) → cond b (Some q) (find test os) ≡ Some o → (find test os ≡ Some o → o.class < m) → o.class < m
    go true e ih = subst (λ (r : Object). r.class < m) (Some-inj e) fit.0
    go false e ih = ih e

list-class : (k : Kind) (f : List Holder → List Holder) (o : Object) → (with_list k f o).class ≡ o.class
list-class Strong f o = refl
list-class Unowned f o = refl
list-class Weak f o = refl

ended-class : (last : Bool) (p : ℕ) (k : Kind) (o : Object) → (ended_if last p k o).class ≡ o.class
ended-class true p Strong o = refl
ended-class true p Unowned o = refl
ended-class true p Weak o = refl
ended-class false p k o = refl

given-class : (p : ℕ) (x : Holder) (last : Bool) (o : Object) → (given_up p x last o).class ≡ o.class
given-class p x last o = ended-class last p (kind_in x o) (with_list (kind_in x o) (without x) o) ∙ list-class (kind_in x o) (without x) o

left-class : (p : ℕ) (e : Option ℕ) (o : Object) → (left_slot p e (owing_none o)).class ≡ o.class
left-class p None o = refl
left-class p (Some e) o = refl

claimed-objects : (b : Bool) (p e : ℕ) (heap : Heap) → (claimed_if b p e heap).objects ≡ heap.objects
claimed-objects true p e heap = refl
claimed-objects false p e heap = refl

becomes-fits : (m : ℕ) (x y : Holder) (heap : Heap) → ObjectsFit m heap.objects → ObjectsFit m (becomes x y heap).objects
becomes-fits m x y heap fit = first-fits m (holds x) (lists (renamed x y)) heap.objects (λ o. refl) fit

put-fits : (m : ℕ) (c : Holder) (p : ℕ) (h : Option ℕ) (heap : Heap) → ObjectsFit m heap.objects → ObjectsFit m (put_in c p h heap).objects
put-fits m c p None heap fit = fit
put-fits m c p (Some h) heap fit = becomes-fits m (Hand p h) c heap fit

taken-fits : (m : ℕ) (c : Holder) (p : ℕ) (k : Option ℕ) (heap : Heap) → ObjectsFit m heap.objects → ObjectsFit m (taken_out c p k heap).objects
taken-fits m c p None heap fit = fit
taken-fits m c p (Some k) heap fit = becomes-fits m c (Hand p k) heap fit

loaded-fits : (m p h : ℕ) (g : Got) (heap : Heap) → ObjectsFit m heap.objects → ObjectsFit m (loaded p h g heap).objects
loaded-fits m p h (got.Hand k) heap fit = first-fits m (holds (Hand p h)) (with_list Strong (with_last (Hand p k))) heap.objects (λ o. refl) fit
loaded-fits m p h got.Dead heap fit = fit
loaded-fits m p h got.Nil heap fit = fit

-- an event keeps the classes of objects
effect-fits : (m p : ℕ) (act : Act) (heap : Heap) → ClassFits m act → ObjectsFit m heap.objects → ObjectsFit m (effect p act heap).objects
effect-fits m p (acts.New k c s) heap fits fit = end-fits m heap.objects (made p k c s heap.objects) fit fits
effect-fits m p acts.Full heap fits fit = fit
effect-fits m p (acts.Copy from k) heap fits fit = first-fits m (holds (origin heap p from)) (lists (gains (origin heap p from) (Hand p k))) heap.objects (λ o. refl) fit
effect-fits m p (acts.UnownedOf h k) heap fits fit = first-fits m (holds (Hand p h)) (with_list Unowned (with_last (Hand p k))) heap.objects (λ o. refl) fit
effect-fits m p (acts.WeakOf h k) heap fits fit = first-fits m (holds (Hand p h)) (with_list Weak (with_last (Hand p k))) heap.objects (λ o. refl) fit
effect-fits m p (acts.Load h g) heap fits fit = loaded-fits m p h g heap fit
effect-fits m p (acts.Drop h last) heap fits fit =
    let new : Heap = record heap { objects = at_first (holds (Hand p h)) (given_up p (Hand p h) last) heap.objects } in
    subst (ObjectsFit m) (sym (entry_to-objects p (entry_left (Hand p h) last (held_by (Hand p h) heap)) new)) (first-fits m (holds (Hand p h)) (given_up p (Hand p h) last) heap.objects (given-class p (Hand p h) last) fit)
effect-fits m p (acts.CountFull k from) heap fits fit = fit
effect-fits m p (acts.Claim e) heap fits fit = fit
effect-fits m p acts.NoEntry heap fits fit = fit
effect-fits m p (acts.Side s e why) heap fits fit = first-fits m (in_slot s) (λ o. record o { entry = Some e }) heap.objects (λ o. refl) fit
effect-fits m p (acts.Back e) heap fits fit = fit
effect-fits m p (acts.Swap c h k) heap fits fit = put-fits m (cell heap c) p h (taken_out (cell heap c) p k heap) (taken-fits m (cell heap c) p k heap fit)
effect-fits m p (acts.Look c) heap fits fit = fit
effect-fits m p (acts.Take s f k) heap fits fit = becomes-fits m (cell heap (cells.Field s f)) (Hand p k) heap fit
effect-fits m p (acts.Finish s last) heap fits fit =
    first-fits m (in_slot s) (finished p last) heap.objects (λ o. ended-class last p Unowned (owing_none (with_list Unowned (without Strongs) o))) fit
effect-fits m p (acts.Vacate s) heap fits fit = first-fits m (in_slot s) (vacated p) heap.objects (λ o. left-class p o.entry (record o { slot = None })) fit
effect-fits m p (acts.Gone e last) heap fits fit =
    let new : Heap = record heap { objects = at_first (has_entry e) (gone p last) heap.objects } in
    subst (ObjectsFit m) (sym (claimed-objects last p e new))
    (first-fits m (has_entry e) (gone p last) heap.objects (λ o. ended-class last p Weak (owing_none (with_list Weak (without Unowneds) o))) fit)

objects-fit : (m : ℕ) (h : History) → EventsFit m h → ObjectsFit m (heap_after h).objects
objects-fit m [] fit = tt
objects-fit m (e ∷ h) fit = effect-fits m e.thread e.act (heap_after h) fit.0 (objects-fit m h fit.1)

-- ---- names that are read

note-fits : (causes : Causes) (shape : HeapShape) (m : ℕ) (heap : Heap) (n : Note) (ns : List Note) → ObjectsFit m heap.objects → Holds causes shape heap n → NamesFit m ns → NamesFit m (n ∷ ns)
note-fits causes shape m heap (Did a) ns fit x names = absurd x
note-fits causes shape m heap (Says a) ns fit x names = names
note-fits causes shape m heap (Operation k) ns fit x names = names
note-fits causes shape m heap (Name slot name) ns fit x names = (go (at_slot slot heap) refl x, names)
  where
    go : (o : Option Object) → at_slot slot heap ≡ o → option_map name_of o ≡ Some name → name.class < m
    go None found e = absurd (None≢Some name e)
    go (Some o) found e = subst (λ (r : ObjectName). r.class < m) (Some-inj e) (found-fits m (in_slot slot) heap.objects o fit found)
note-fits causes shape m heap (Entry s entry) ns fit x names = names
note-fits causes shape m heap (NeedsEntry s list) ns fit x names = names
note-fits causes shape m heap (Nil c) ns fit x names = names
note-fits causes shape m heap (Refers c kind place) ns fit x names = names

names-fit : (causes : Causes) (shape : HeapShape) (m p : ℕ) (ns : List Note) (h : History) → EventsFit m h → Ties causes shape p ns h → NamesFit m ns
names-fit causes shape m p ns h fit start = tt
names-fit causes shape m p ns h fit (own {ns = ms} {h = before} t) = names-fit causes shape m p ms before fit.1 t
names-fit causes shape m p ns h fit (other {h = before} t x) = names-fit causes shape m p ns before fit.1 t
names-fit causes shape m p ns h fit (noted {n = n} {ns = ms} t x) = note-fits causes shape m (heap_after h) n ms (objects-fit m h fit) x (names-fit causes shape m p ms h fit t)

-- ---- the laws

acts-events : (m p : ℕ) (done : List Act) → AllByRecursion (ClassFits m) done → EventsFit m (map (λ a. record { thread = p; act = a }) done)
acts-events m p [] fit = tt
acts-events m p (a ∷ done) fit = (fit.0, acts-events m p done fit.1)

pub events_name_classes : EventsNameClasses
events_name_classes causes script h is finish few = all-shared (λ (e : Event). ClassFits (length script.shape.classes) e.act) (length script.threads) h few shares
  where
    m : ℕ
    m = length script.shape.classes

    shares : (p : ℕ) → p ≤ length script.threads → EventsFit m (share h p)
    shares p l =
        let x = (finish p l).1 in
        let told = spelled-told script (hands_in p h) p x.notes x.spelled in
        subst (EventsFit m) (share_is causes script.shape p x.notes h x.tied) (acts-events m p (acts_of x.notes) (told.worked.acts m (ops_fit script p is)))

pub lines_name_classes : LinesNameClasses
lines_name_classes causes script h p lines is finish few x =
    let m = length script.shape.classes in
    let told = spelled-told script (hands_in p h) p x.notes x.spelled in
    let fit = told.worked.names m (ops_fit script p is) (names-fit causes script.shape m p x.notes h (events_name_classes causes script h is finish few) x.tied) in
    let ls = lines_of x.notes in
    subst (All (LineFits m)) x.lines_are (All-permutation (LineFits m) ls (reverse ls) (IsPermutation-reverse ls) (All-from_recursion (LineFits m) ls fit))
