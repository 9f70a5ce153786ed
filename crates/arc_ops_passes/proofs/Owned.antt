-- The references of a stepper stay its pass's hands.
use Rattle.std.proofs.Common.{◌≡◌, ◌≢◌, ℕ, zero, suc, ◌+◌, ◌≤◌, ◌==◌, ◌&&◌, Bool, true, false, List, [], ◌∷◌, ◌++◌, Option, Some, None, ◌⊎◌, inl, inr, refl, sym, ap, ◌∙◌, subst, arith, eq-eqb, append_assoc}
use Rattle.std.specs.Prelude.{is_some}
use Rattle.std.proofs.lemmas.Bool.{eqb-true}
use Rattle.std.proofs.lemmas.List.Sums.{sum_by-cons}
use mathlib.Core.Logic.{dite}
use native.Mathlib.Decide.{ℕ_discrete}
use Rattle.arc_model.specs.declared.event.Act.{Act}
use Rattle.arc_model.specs.declared.event.Event.{Event}
use Rattle.arc_model.specs.declared.shape.Kind.{Kind}
use Rattle.arc_model.specs.declared.shape.Kind.TheVariants.{Strong, Unowned, Weak}
use Rattle.arc_model.specs.Shapes.{HeapShape}
use Rattle.arc_model.specs.Heaps.{Hand, Object, Heap}
use Rattle.arc_model.specs.Cells.{same_kind}
use Rattle.arc_model.specs.History.{History, heap_after, share, IsLegal}
use Rattle.arc_model.specs.Lookup.{spot}
use Rattle.arc_model.specs.Own.{ends_hand}
use Rattle.arc_ops.specs.declared.stepper.Held.{Held}
use Rattle.arc_view.specs.declared.view.View.{View}
use Rattle.arc_view.specs.Holding.{At, heap_of}
use Rattle.arc_view.specs.Calls.{Called}
use Rattle.arc_view.proofs.Held.{hand_listed, listed_busy, stays_after, held_stays}
use Rattle.arc_view_laws.proofs.Moving.{called_follows, cut, legal_tail}
use Rattle.arc_model.proofs.Basics.{true≢false, None≢Some, Some-inj}
use Rattle.arc_model.proofs.Others.{others_leave, own_leave}
use Rattle.arc_side.specs.Inline.{IsCountedInline}
use Rattle.arc_ops_passes.specs.References.{weigh, in_vars, one_if, is_ref, has_hand, Leads, LeadsTo, Owns}

-- ---- kinds

pub not_weak : (kind : Kind) → IsCountedInline kind → kind ≢ Weak
not_weak Strong counted e = cc
not_weak Unowned counted e = cc
not_weak Weak counted e = counted

kind-itself : (k : Kind) → same_kind k k ≡ true
kind-itself Strong = refl
kind-itself Unowned = refl
kind-itself Weak = refl

kind-is : (k j : Kind) → same_kind k j ≡ true → k ≡ j
kind-is Strong Strong e = refl
kind-is Strong Unowned e = absurd (true≢false (sym e))
kind-is Strong Weak e = absurd (true≢false (sym e))
kind-is Unowned Strong e = absurd (true≢false (sym e))
kind-is Unowned Unowned e = refl
kind-is Unowned Weak e = absurd (true≢false (sym e))
kind-is Weak Strong e = absurd (true≢false (sym e))
kind-is Weak Unowned e = absurd (true≢false (sym e))
kind-is Weak Weak e = refl

-- ---- references are counted

pub ref-itself : (h : Held) → is_ref h h ≡ 1
ref-itself h = (λ j. one_if (eq-eqb h.hand h.hand refl j && kind-itself h.kind j && eq-eqb h.place h.place refl j))

pub hand-itself : (h : Held) → has_hand h.hand h ≡ 1
hand-itself h = ap one_if (eq-eqb h.hand h.hand refl)

ref-hand : (h x : Held) → is_ref h x ≤ has_hand h.hand x
ref-hand h x = go (x.hand == h.hand) (same_kind x.kind h.kind) (x.place == h.place)
  where
    go : (a b c : Bool) → one_if (a && b && c) ≤ one_if a
    go true true true = omega arith
    go true true false = omega arith
    go true false c = omega arith
    go false b c = omega arith

vars-mono : (f g : Held → ℕ) → ((x : Held) → f x ≤ g x) → (vars : List (Option Held)) → in_vars vars f ≤ in_vars vars g
vars-mono f g le [] = omega arith
vars-mono f g le (None ∷ vars) = let a = sum_by-cons (weigh f) None vars in let b = sum_by-cons (weigh g) None vars in let h = vars-mono f g le vars in omega arith
vars-mono f g le (Some x ∷ vars) = let a = sum_by-cons (weigh f) (Some x) vars in let b = sum_by-cons (weigh g) (Some x) vars in let h = vars-mono f g le vars in let k = le x in omega arith

-- a reference that counts is the same one
ref-is : (v : View) (h x : Held) → 1 ≤ is_ref h x → Leads v x → Leads v h
ref-is v h x one leads = go (x.hand == h.hand) refl (same_kind x.kind h.kind) refl (x.place == h.place) refl one
  where
    go : (a : Bool) → (x.hand == h.hand) ≡ a → (b : Bool) → same_kind x.kind h.kind ≡ b → (c : Bool) → (x.place == h.place) ≡ c → 1 ≤ one_if (a && b && c) → Leads v h
    go true ea true eb true ec le = subst (Leads v) (λ j. record { hand = eqb-true x.hand h.hand ea j; kind = kind-is x.kind h.kind eb j; place = eqb-true x.place h.place ec j }) leads
    go true ea true eb false ec le = absurd (omega arith)
    go true ea false eb c ec le = absurd (omega arith)
    go false ea b eb c ec le = absurd (omega arith)

no-hand : (k : ℕ) (x : Held) → has_hand k x ≡ 0 → x.hand ≢ k
no-hand k x none e = let one : has_hand k x ≡ 1 = ap one_if (eq-eqb x.hand k e) in absurd (omega arith)

other-hand : (k : ℕ) (x : Held) → x.hand ≢ k → has_hand k x ≡ 0
other-hand k x ne = go (x.hand == k) refl
  where
    go : (b : Bool) → (x.hand == k) ≡ b → one_if b ≡ 0
    go true e = absurd (ne (eqb-true x.hand k e))
    go false e = refl

-- ---- a reference stays where the pass doesn't give it up

-- it leads to an object of this class in its slot
abbrev pub Stands : ℕ → Held → (class : ℕ) → Heap → Type 0
Stands p held class heap = (i : ℕ) × (o : Object) × (spot (Hand p held.hand) heap ≡ Some (record { place = i; kind = held.kind })) × At heap i o × (o.slot ≡ Some held.place) × (o.class ≡ class)

pub others_stand : (shape : HeapShape) (p : ℕ) (held : Held) (class : ℕ) (before after : History) → held.kind ≢ Weak → IsLegal shape (after ++ before) → share after p ≡ [] → Stands p held class (heap_after before) → Stands p held class (heap_after (after ++ before))
others_stand shape p held class before after ne legal none (i, o, hand, here, slot, is) =
    let q = held_stays shape p held.hand i held.kind o before after legal none hand here in
    (i, q.q, (others_leave shape p before after legal none).hands held.hand ∙ hand, q.here, q.slot ne ∙ slot, q.class ∙ is)

own_stands : (shape : HeapShape) (held : Held) (class : ℕ) (e : Event) (h : History) → held.kind ≢ Weak → IsLegal shape (e ∷ h) → ends_hand held.hand e.act ≡ false → Stands e.thread held class (heap_after h) → Stands e.thread held class (heap_after (e ∷ h))
own_stands shape held class e h ne legal ends (i, o, hand, here, slot, is) =
    let q = stays_after shape e h legal i o here in
    let busy = listed_busy held.kind (Hand e.thread held.hand) o (hand_listed shape h e.thread held.hand i held.kind o legal.1 hand here) ne in
    (i, q.q, own_leave shape h e held.hand legal (ap is_some hand) ends ∙ hand, q.here, q.slot busy ∙ slot, q.class ∙ is)

to_by : (v : View) (held : Held) (class : ℕ) → IsCountedInline held.kind → Stands v.number held class (heap_of v) → LeadsTo v held class
to_by v held class counted (i, o, hand, here, slot, is) = (counted, i, o, hand, here, slot, is)

pub leads_to : (v : View) (held : Held) (leads : Leads v held) → LeadsTo v held leads.2.class
leads_to v held (counted, i, o, hand, here, slot) = (counted, i, o, hand, here, slot, refl)

pub to_leads : (v : View) (held : Held) (class : ℕ) → LeadsTo v held class → Leads v held
to_leads v held class (counted, i, o, hand, here, slot, is) = (counted, i, o, hand, here, slot)

pub to_still : (shape : HeapShape) (n : ℕ) (v w : View) (held : Held) (class : ℕ) → Called shape [] n v w → LeadsTo v held class → LeadsTo w held class
to_still shape n v w held class c (counted, i, o, hand, here, slot, is) =
    let f = called_follows shape [] n v w c in
    let later = others_stand shape v.number held class v.seen f.rest (not_weak held.kind counted) f.legal f.mine (i, o, hand, here, slot, is) in
    to_by w held class counted (subst (λ (x : ℕ × History). Stands x.0 held class (heap_after x.1)) (λ j. (sym f.number j, sym f.is j)) later)

pub to_on : (shape : HeapShape) (a : Act) (n : ℕ) (v w : View) (held : Held) (class : ℕ) → Called shape (a ∷ []) n v w → ends_hand held.hand a ≡ false → LeadsTo v held class → LeadsTo w held class
to_on shape a n v w held class c ends (counted, i, o, hand, here, slot, of) =
    let p = v.number in
    let ne = not_weak held.kind counted in
    let e : Event = record { thread = p; act = a } in
    let f = called_follows shape (a ∷ []) n v w c in
    let at = cut p a f.rest f.mine in
    let met = at.earlier ++ v.seen in
    let is : f.rest ++ v.seen ≡ at.later ++ e ∷ met = ap (λ l. l ++ v.seen) at.is ∙ append_assoc at.later (e ∷ at.earlier) v.seen in
    let legal : IsLegal shape (at.later ++ e ∷ met) = subst (IsLegal shape) is f.legal in
    let then : IsLegal shape (e ∷ met) = legal_tail shape at.later (e ∷ met) legal in
    let own = own_stands shape held class e met ne then ends (others_stand shape p held class v.seen at.earlier ne then.1 at.before (i, o, hand, here, slot, of)) in
    let later = others_stand shape p held class (e ∷ met) at.later ne legal at.after own in
    to_by w held class counted (subst (λ (x : ℕ × History). Stands x.0 held class (heap_after x.1)) (λ j. (sym f.number j, sym (f.is ∙ is) j)) later)

pub leads_still : (shape : HeapShape) (n : ℕ) (v w : View) (held : Held) → Called shape [] n v w → Leads v held → Leads w held
leads_still shape n v w held c leads = to_leads w held leads.2.class (to_still shape n v w held leads.2.class c (leads_to v held leads))

pub leads_on : (shape : HeapShape) (a : Act) (n : ℕ) (v w : View) (held : Held) → Called shape (a ∷ []) n v w → ends_hand held.hand a ≡ false → Leads v held → Leads w held
leads_on shape a n v w held c ends leads = to_leads w held leads.2.class (to_on shape a n v w held leads.2.class c ends (leads_to v held leads))

-- the references are the same
pub owns_stay : (v w : View) (n : ℕ) (L M : (Held → ℕ) → ℕ) → Owns v n L → ((f : Held → ℕ) → M f ≡ L f) → ((h : Held) → Leads v h → Leads w h)
    → ((k : ℕ) → spot (Hand w.number k) (heap_of w) ≡ spot (Hand v.number k) (heap_of v)) → Owns w n M
owns_stay v w n L M o same leads spots = record {
  leads = λ h one. leads h (o.leads h (let e = same (is_ref h) in omega arith));
  once = λ k. let e = same (has_hand k) in let b = o.once k in omega arith;
  below = λ k one. o.below k (let e = same (has_hand k) in omega arith);
  only = λ k none. spots k ∙ o.only k (let e = same (has_hand k) in omega arith);
}

pub owns_same : (v : View) (n : ℕ) (L M : (Held → ℕ) → ℕ) → Owns v n L → ((f : Held → ℕ) → M f ≡ L f) → Owns v n M
owns_same v n L M o same = owns_stay v v n L M o same (λ h x. x) (λ k. refl)

-- the next one comes
pub owns_more : (v w : View) (n : ℕ) (L M : (Held → ℕ) → ℕ) (new : Held) → Owns v n L → new.hand ≡ n + 1 → ((f : Held → ℕ) → M f ≡ L f + f new) → Leads w new → ((h : Held) → Leads v h → Leads w h)
    → ((k : ℕ) → k ≢ n + 1 → spot (Hand w.number k) (heap_of w) ≡ spot (Hand v.number k) (heap_of v)) → Owns w (n + 1) M
owns_more v w n L M new o next same there leads spots = record { leads = its; once = once; below = below; only = only }
  where
    its : (h : Held) → 1 ≤ M (is_ref h) → Leads w h
    its h one = go (is_ref h new) refl
      where
        go : (m : ℕ) → is_ref h new ≡ m → Leads w h
        go zero e = leads h (o.leads h (let k = same (is_ref h) in omega arith))
        go (suc m) e = ref-is w h new (omega arith) there

    old : (k : ℕ) → k ≡ n + 1 → L (has_hand k) ≡ 0
    old k e = go (L (has_hand k)) refl
      where
        go : (m : ℕ) → L (has_hand k) ≡ m → L (has_hand k) ≡ 0
        go zero h = h
        go (suc m) h = let b = o.below k (omega arith) in absurd (omega arith)

    once : (k : ℕ) → M (has_hand k) ≤ 1
    once k = dite (ℕ_discrete new.hand k)
        (λ e. let none = old k (sym e ∙ next) in let l = same (has_hand k) in let one : has_hand k new ≡ 1 = ap one_if (eq-eqb new.hand k e) in omega arith)
        (λ ne. let l = same (has_hand k) in let c = o.once k in let none = other-hand k new ne in omega arith)

    below : (k : ℕ) → 1 ≤ M (has_hand k) → k ≤ n + 1
    below k some = dite (ℕ_discrete new.hand k)
        (λ e. omega arith)
        (λ ne. let l = same (has_hand k) in let none = other-hand k new ne in let b = o.below k (omega arith) in omega arith)

    only : (k : ℕ) → M (has_hand k) ≡ 0 → spot (Hand w.number k) (heap_of w) ≡ None
    only k none =
        let l = same (has_hand k) in
        let its : has_hand k new ≡ 0 = omega arith in
        spots k (λ e. no-hand k new its (next ∙ sym e)) ∙ o.only k (omega arith)

-- one goes that is in none of these variables, or none, and the next one comes, or none
pub owns_exchanged : (v w : View) (n next : ℕ) (vars : List (Option Held)) (L M : (Held → ℕ) → ℕ) (put there : Option Held) → Owns v n L → ((f : Held → ℕ) → L f ≡ in_vars vars f + weigh f put) → ((f : Held → ℕ) → M f ≡ in_vars vars f + weigh f there)
    → n ≤ next → ((h : Held) → there ≡ Some h → (h.hand ≡ n + 1) × (next ≡ n + 1) × Leads w h) → ((h : Held) → ((x : Held) → put ≡ Some x → h.hand ≢ x.hand) → Leads v h → Leads w h)
    → ((x : Held) → put ≡ Some x → spot (Hand w.number x.hand) (heap_of w) ≡ None) → ((k : ℕ) → ((x : Held) → put ≡ Some x → k ≢ x.hand) → ((h : Held) → there ≡ Some h → k ≢ h.hand) → spot (Hand w.number k) (heap_of w) ≡ spot (Hand v.number k) (heap_of v))
    → Owns w next M
owns_exchanged v w n next vars L M put there o was is grows comes leads gone spots = record { leads = its; once = once; below = below; only = only }
  where
    -- the hands in variables are none that goes
    apart : (h : Held) → 1 ≤ in_vars vars (is_ref h) → (x : Held) → put ≡ Some x → h.hand ≢ x.hand
    apart h one x put_is e =
        let a = was (has_hand h.hand) in
        let m = vars-mono (is_ref h) (has_hand h.hand) (ref-hand h) vars in
        let c = o.once h.hand in
        let same : weigh (has_hand h.hand) put ≡ 1 = ap (weigh (has_hand h.hand)) put_is ∙ ap one_if (eq-eqb x.hand h.hand (sym e)) in
        absurd (omega arith)

    its : (h : Held) → 1 ≤ M (is_ref h) → Leads w h
    its h one = go there refl (weigh (is_ref h) there) refl
      where
        go : (m : Option Held) → there ≡ m → (k : ℕ) → weigh (is_ref h) there ≡ k → Leads w h
        go m e zero z = let a = was (is_ref h) in let b = is (is_ref h) in let some : 1 ≤ in_vars vars (is_ref h) = omega arith in leads h (apart h some) (o.leads h (omega arith))
        go None e (suc k) z = let none : weigh (is_ref h) there ≡ 0 = ap (weigh (is_ref h)) e in absurd (omega arith)
        go (Some x) e (suc k) z = let some : weigh (is_ref h) there ≡ is_ref h x = ap (weigh (is_ref h)) e in ref-is w h x (omega arith) (comes x e).2

    old : (k : ℕ) → k ≡ n + 1 → L (has_hand k) ≡ 0
    old k e = go (L (has_hand k)) refl
      where
        go : (m : ℕ) → L (has_hand k) ≡ m → L (has_hand k) ≡ 0
        go zero h = h
        go (suc m) h = let b = o.below k (omega arith) in absurd (omega arith)

    -- the one that comes is new
    new : (k : ℕ) → (weigh (has_hand k) there ≡ 0) ⊎ ((weigh (has_hand k) there ≡ 1) × (k ≡ n + 1) × (next ≡ n + 1))
    new k = go there refl
      where
        go : (m : Option Held) → there ≡ m → (weigh (has_hand k) there ≡ 0) ⊎ ((weigh (has_hand k) there ≡ 1) × (k ≡ n + 1) × (next ≡ n + 1))
        go None e = inl (ap (weigh (has_hand k)) e)
        go (Some x) e = dite (ℕ_discrete x.hand k)
            (λ same. inr (ap (weigh (has_hand k)) e ∙ ap one_if (eq-eqb x.hand k same), sym same ∙ (comes x e).0, (comes x e).1))
            (λ ne. inl (ap (weigh (has_hand k)) e ∙ other-hand k x ne))

    once : (k : ℕ) → M (has_hand k) ≤ 1
    once k = go (new k)
      where
        go : (weigh (has_hand k) there ≡ 0) ⊎ ((weigh (has_hand k) there ≡ 1) × (k ≡ n + 1) × (next ≡ n + 1)) → M (has_hand k) ≤ 1
        go (inl none) = let a = was (has_hand k) in let b = is (has_hand k) in let c = o.once k in omega arith
        go (inr (one, at, after)) = let a = was (has_hand k) in let b = is (has_hand k) in let c = old k at in omega arith

    below : (k : ℕ) → 1 ≤ M (has_hand k) → k ≤ next
    below k some = go (new k)
      where
        go : (weigh (has_hand k) there ≡ 0) ⊎ ((weigh (has_hand k) there ≡ 1) × (k ≡ n + 1) × (next ≡ n + 1)) → k ≤ next
        go (inl none) = let a = was (has_hand k) in let b = is (has_hand k) in let c = o.below k (omega arith) in omega arith
        go (inr (one, at, after)) = omega arith

    only : (k : ℕ) → M (has_hand k) ≡ 0 → spot (Hand w.number k) (heap_of w) ≡ None
    only k none = go put refl
      where
        comes_not : (h : Held) → there ≡ Some h → k ≢ h.hand
        comes_not h e same =
            let b = is (has_hand k) in
            let one : weigh (has_hand k) there ≡ 1 = ap (weigh (has_hand k)) e ∙ ap one_if (eq-eqb h.hand k (sym same)) in
            absurd (omega arith)

        stood : ((x : Held) → put ≡ Some x → k ≢ x.hand) → L (has_hand k) ≡ 0 → spot (Hand w.number k) (heap_of w) ≡ None
        stood goes_not zero_is = spots k goes_not comes_not ∙ o.only k zero_is

        go : (m : Option Held) → put ≡ m → spot (Hand w.number k) (heap_of w) ≡ None
        go None e = stood (λ x put_is. absurd (None≢Some x (sym e ∙ put_is))) (let a = was (has_hand k) in let b = is (has_hand k) in let z : weigh (has_hand k) put ≡ 0 = ap (weigh (has_hand k)) e in omega arith)
        go (Some x) e = dite (ℕ_discrete k x.hand)
            (λ same. ap (λ m. spot (Hand w.number m) (heap_of w)) same ∙ gone x e)
            (λ ne. stood (λ y put_is same. ne (same ∙ ap (λ (r : Held). r.hand) (Some-inj (sym put_is ∙ e)))) (let a = was (has_hand k) in let b = is (has_hand k) in let z : weigh (has_hand k) put ≡ 0 = ap (weigh (has_hand k)) e ∙ other-hand k x (λ q. ne (sym q)) in omega arith))

-- one goes that is in no variable
pub owns_less : (v w : View) (n : ℕ) (vars : List (Option Held)) (L M : (Held → ℕ) → ℕ) (held : Held) → Owns v n L → ((f : Held → ℕ) → L f ≡ in_vars vars f + f held) → ((f : Held → ℕ) → M f ≡ in_vars vars f)
    → ((h : Held) → h.hand ≢ held.hand → Leads v h → Leads w h) → spot (Hand w.number held.hand) (heap_of w) ≡ None → ((k : ℕ) → k ≢ held.hand → spot (Hand w.number k) (heap_of w) ≡ spot (Hand v.number k) (heap_of v)) → Owns w n M
owns_less v w n vars L M held o was is leads gone spots =
    owns_exchanged v w n n vars L M (Some held) None o was (λ f. let e = is f in omega arith) (omega arith) (λ h e. absurd (None≢Some h e)) (λ h other. leads h (other held refl))
    (λ x e. ap (λ (r : Held). spot (Hand w.number r.hand) (heap_of w)) (sym (Some-inj e)) ∙ gone) (λ k other new. spots k (other held refl))
