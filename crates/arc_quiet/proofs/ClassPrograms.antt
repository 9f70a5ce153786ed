-- A thread that runs a program of a script puts into each cell an object of the cell's class.
use Rattle.std.proofs.Common.{◌≡◌, ◌≤◌, ◌+◌, ◌-◌, ℕ, zero, suc, Bool, true, false, List, [], ◌∷◌, ◌++◌, length, Option, Some, None, ◌⊎◌, inl, inr, refl, sym, ap, ◌∙◌, subst, arith}
use Rattle.std.specs.Prelude.{slice_get}
use Rattle.std.specs.List.{list_all}
use Rattle.std.proofs.lemmas.Bool.{ne_eqb}
use Rattle.arc_model.specs.declared.answer.Answer.{Answer}
use Rattle.arc_model.specs.declared.event.Origin.{Origin}
use Rattle.arc_model.specs.declared.event.Got.{Got}
use Rattle.arc_model.specs.declared.event.Origin.TheVariants as origins
use Rattle.arc_model.specs.declared.event.Got.TheVariants as gots
use Rattle.arc_model.specs.declared.event.Act.{Act}
use Rattle.arc_model.specs.declared.event.Act.TheVariants as acts
use Rattle.arc_model.specs.declared.event.CellName.{CellName}
use Rattle.arc_model.specs.declared.shape.Kind.{Kind}
use Rattle.arc_model.specs.declared.shape.Kind.TheVariants.{Strong, Unowned, Weak}
use Rattle.arc_model.specs.declared.shape.RefShape.{RefShape}
use Rattle.arc_model.specs.Shapes.{HeapShape}
use Rattle.arc_model.specs.Heaps.{Hand, Object}
use Rattle.arc_model.specs.Cells.{cell_shape}
use Rattle.arc_model.specs.History.{History, heap_after, brings, is_of, IsLegal}
use Rattle.arc_model.specs.Lookup.{Spot, spot}
use Rattle.arc_model.specs.Own.{ends_hand, in_list}
use Rattle.arc_spelling.specs.Spelling.{Note, is_fact, hands_of, one_more_if}
use Rattle.arc_spelling.specs.Spelling.Note.{Did, Name, Entry}
use Rattle.arc_spelling.specs.SpellingGains.{IsGain}
use Rattle.arc_spelling.specs.SpellingTies.{Causes, Ties}
use Rattle.arc_model.specs.References.{place_of}
use Rattle.arc_spelling.specs.SpellingTies.Ties.{start as no_event, other as other_event}
use Rattle.arc_model.proofs.Basics.{None≢Some, Some-inj}
use Rattle.arc_model.proofs.Others.{false-if}
use Rattle.arc_model.proofs.Tally.{no, clash}
use Rattle.arc_script.specs.Valid as valid
use Rattle.arc_script.specs.declared.script.Script.{Script}
use Rattle.arc_script.specs.declared.script.Op.{Op}
use Rattle.arc_script.specs.declared.script.OpCell.{OpCell}
use Rattle.arc_programs.specs.Variables.{Held, Variables, all_nil, value, put, hand_in, cell_of}
use Rattle.arc_programs.specs.Programs.{Hands, IsDropped, HasSource, Source, Replaces, IsAnswered, OpsDone, ScopeEnds, GlobalsCleared}
use Rattle.arc_programs.specs.Programs.IsDropped.{nothing, dropped}
use Rattle.arc_programs.specs.Programs.HasSource.{copy, unown, weak, load, get}
use Rattle.arc_programs.specs.Programs.IsAnswered.{made, full, copied, unowned_formed, weak_formed, loaded, found_dead, weakly_loaded, found_nil, looked, got, put_in_nil, swapped, no_owner, given_up, nothing_there, moved, from_nil, count_full, no_entry}
use Rattle.arc_programs.specs.Programs.OpsDone.{none as no_ops, one as one_more, block as at_block}
use Rattle.arc_programs.specs.Programs.ScopeEnds.{begins, nil as var_nil, dropped as var_dropped}
use Rattle.arc_programs.specs.Programs.GlobalsCleared.{begins as end_begins, nil as global_nil, cleared}
use Rattle.arc_programs.specs.ProgramsTied.{hands_in, Spells}
use Rattle.arc_programs.specs.ProgramsTied.Spells.{thread, end}
use Rattle.arc_quiet.proofs.ClassCells.{Puts, PutFits}
use Rattle.arc_quiet.proofs.ClassHands.{NewFits, LeavesHand, new-stable, new-from, weak-new, weak-loaded, made-new, got-new}
use Rattle.arc_quiet.proofs.ClassVars.{Setting, declared, HandFits, VarsFit, AllFit, has_hand, Having, has-var, value-put, Good, vars-stable, good-before, keep-good, sub-good, sub-put, IsAway, none-away, put-away, put-good, cell-declared}
use Rattle.arc_quiet.proofs.HandFits.{Fit, fit-step}
use Rattle.arc_quiet.proofs.Pasts.{legal-past, Spares, spares-both, AtNotes, over-event, along}
use Rattle.arc_quiet.proofs.Pasts.Past.{now, before}
use Rattle.arc_quiet.proofs.Pasts.Spares.{here as none_added, more}
use Rattle.arc_quiet.proofs.ProgramsCounted.{ops_are, all-at}
use Rattle.arc_quiet.proofs.Spared.{Leaves, puts_none, leaves-all, spares-grow, drop-spares, ready-spares, settled-spares, read-spares, refused-spares}

-- up to an operation's line: the variables are good, and what is dropped last is none of theirs
record Answered (x : Setting) (vars : Variables) (last : Option Held) (ns : List Note) : Type 0 where
  good : Good x vars ns
  away : IsAway vars last

-- ---- gains

-- an act that ends no hand, puts none in
record IsGainAct (a : Act) : Type 0 where
  ends : (j : ℕ) → ends_hand j a ≡ false
  puts : puts_none a ≡ true

behind : (x : Setting) (vars : Variables) {source : Kind} {slot : ℕ} {list : Kind} {act : Act} {b ns : List Note} (read : List Note) → list_all is_fact read ≡ true → IsGainAct act → (g : IsGain source slot list act read b ns) → Good x vars b →
    Good x vars (read ++ Did act ∷ g.decided)
behind x vars {act = act} read facts plain g good =
    keep-good x vars good (spares-both (spares-both (ready-spares (has_hand vars) g.ready) (more none_added (leaves-all (has_hand vars) act plain.ends plain.puts))) (read-spares (has_hand vars) read facts))

-- a gain that gives nothing
gain-kept : (x : Setting) (vars : Variables) {source : Kind} {slot : ℕ} {list : Kind} {act : Act} {b ns : List Note} (read : List Note) → list_all is_fact read ≡ true → IsGainAct act → IsGain source slot list act read b ns → Good x vars b → Good x vars ns
gain-kept x vars read facts plain g good = keep-good x vars (behind x vars read facts plain g good) (settled-spares (has_hand vars) g.settled)

later : (x : Setting) {source : Kind} {slot : ℕ} {list : Kind} {act : Act} {b ns : List Note} (read : List Note) → list_all is_fact read ≡ true → brings act ≡ true → (g : IsGain source slot list act read b ns) → hands_of b + 1 ≤ hands_of (read ++ Did act ∷ g.decided)
later x {act = act} read facts one g =
    let a = spares-grow (Leaves (λ j. false)) (ready-spares (λ j. false) g.ready) in
    let b = spares-grow (Leaves (λ j. false)) (read-spares (λ j. false) read {ns = Did act ∷ g.decided} facts) in
    let c : hands_of (Did act ∷ g.decided) ≡ one_more_if true (hands_of g.decided) = ap (λ t. one_more_if t (hands_of g.decided)) one in
    omega arith

-- a gain for a variable
gained : (x : Setting) (vars vars' : Variables) (last : Option Held) {source : Kind} {slot : ℕ} {list : Kind} {act : Act} {b ns : List Note} (read : List Note) (to : ℕ) (new : Held) → list_all is_fact read ≡ true → IsGainAct act → brings act ≡ true → new.hand ≡ hands_of b + 1 →
    (g : IsGain source slot list act read b ns) → Good x vars b → Replaces to (Some new) vars vars' last → (Good x vars g.decided → AtNotes x.causes x.shape x.p x.h (read ++ Did act ∷ g.decided) (NewFits x to new)) → Answered x vars' last ns
gained x vars vars' last {act = act} {b = b} read to new facts plain one next g good r fits =
    let came = later x read facts one g in
    let ready = keep-good x vars good (ready-spares (has_hand vars) g.ready) in
    let done = put-good x vars vars' (read ++ Did act ∷ g.decided) to new (behind x vars read facts plain g good) r.replaced (λ v held there same. let a = good.old v held there in omega (arith, a, same, next)) (omega arith) (fits ready) in
    record {
      good = keep-good x vars' done (settled-spares (has_hand vars') g.settled);
      away = put-away x vars vars' b to (Some new) last good r.replaced r.old (λ held old is has same. let a = good.old to old (sym r.old ∙ has) in let c : held.hand ≡ new.hand = ap (λ (q : Held). q.hand) (Some-inj (sym is)) in omega (arith, a, c, same, next));
    }

-- the destination becomes nil
emptied : (x : Setting) (vars vars' : Variables) (last : Option Held) (ns : List Note) (to : ℕ) → Good x vars ns → Replaces to None vars vars' last → Answered x vars' last ns
emptied x vars vars' last ns to good r = record {
  good = sub-good x vars vars' ns (sub-put vars vars' to r.replaced) good;
  away = put-away x vars vars' ns to None last good r.replaced r.old (λ held old is has same. absurd (None≢Some held is));
}

-- nothing changes
kept : (x : Setting) (vars vars' : Variables) (b ns : List Note) → vars' ≡ vars → ns ≡ b → Good x vars b → Answered x vars' None ns
kept x vars vars' b ns v n good = record { good = subst (λ vs. Good x vs ns) (sym v) (subst (Good x vars) (sym n) good); away = none-away vars' }

still : (x : Setting) (vars vars' : Variables) (ns : List Note) → vars' ≡ vars → Good x vars ns → Answered x vars' None ns
still x vars vars' ns v good = kept x vars vars' ns ns v refl good

plain-copy : (from : Origin) (k : ℕ) → IsGainAct (acts.Copy from k)
plain-copy from k = record { ends = λ j. refl; puts = refl }

plain-unowned : (h k : ℕ) → IsGainAct (acts.UnownedOf h k)
plain-unowned h k = record { ends = λ j. refl; puts = refl }

plain-weak : (h k : ℕ) → IsGainAct (acts.WeakOf h k)
plain-weak h k = record { ends = λ j. refl; puts = refl }

plain-load : (h : ℕ) (g : Got) → IsGainAct (acts.Load h g)
plain-load h g = record { ends = λ j. refl; puts = refl }

plain-full : (k : Kind) (from : Origin) → IsGainAct (acts.CountFull k from)
plain-full k from = record { ends = λ j. refl; puts = refl }

source-kept : (x : Setting) (vars : Variables) {o : Op} {source : Source} {b ns : List Note} → HasSource vars o source b ns → Good x vars b → Good x vars ns
source-kept x vars (copy e s) good = good
source-kept x vars (unown e s) good = good
source-kept x vars (weak e s) good = good
source-kept x vars (load e s) good = good
source-kept x vars (get e s) good = keep-good x vars good (more none_added tt)

-- ---- what is put into a cell

swap-parts : (c d : CellName) (h i k l : Option ℕ) → acts.Swap c h k ≡ acts.Swap d i l → (c ≡ d) × (h ≡ i)
swap-parts c d h i k l e = (cc, cc)

-- the variable's reference goes into the cell that the operation names
puts-in : (x : Setting) (vars vars' : Variables) (b : List Note) (from : ℕ) (c : OpCell) (name : CellName) (hand took : Option ℕ) → Good x vars b → cell_of vars c ≡ Some name → hand ≡ hand_in (value vars from) → vars' ≡ put vars from None →
    valid.IsCell x.classes x.globals x.decls c → declared x from ≡ valid.cell_ref x.classes x.globals x.decls c → Good x vars' (Did (acts.Swap name hand took) ∷ b)
puts-in x vars vars' b from c name hand took good named is v there class =
    let fewer = sub-good x vars vars' b (sub-put vars vars' from v) good in
    record {
      old = λ u held e. let a = fewer.old u held e in let g = grows (brings act) (hands_of b) in omega arith;
      apart = fewer.apart;
      fits = over-event x.causes x.shape x.p x.h (Leaves (has_hand vars')) (AllFit x vars') act b x.legal (vars-stable x vars') (λ g past t.
          let q = good.fits g (before past) t in
          let legal = legal-past x.shape past x.legal in (
            (q.0, λ mine cells. fit g legal.1 (q.1 cells)),
            λ cells u held e. let f = q.1 cells.1 u held (sub-put vars vars' from v u held e) in
                (f.0, (f.1.0, fit-step x.shape (record { thread = x.p; act = act }) g legal x.p held.hand f.1.0 held.kind (declared x u).class (Some held.place) (λ mine. away u held e (value vars from) refl) f.1.1)),
          ));
    }
  where
    act : Act
    act = acts.Swap name hand took

    grows : (t : Bool) (n : ℕ) → n ≤ one_more_if t n
    grows true n = omega arith
    grows false n = omega arith

    -- the hand that goes into the cell is none of the variables that are left
    away : (u : ℕ) (held : Held) → value vars' u ≡ Some held → (m : Option Held) → value vars from ≡ m → ends_hand held.hand act ≡ false
    away u held e None m = ap (λ h. ends_hand held.hand (acts.Swap name h took)) (is ∙ ap hand_in m)
    away u held e (Some old) m =
        ap (λ h. ends_hand held.hand (acts.Swap name h took)) (is ∙ ap hand_in m)
        ∙ elim (value-put vars from u None held (ap (λ vs. value vs u) (sym v) ∙ e)) [
          | inl same ↦ absurd (None≢Some held same.1)
          | inr apart ↦ ne_eqb old.hand held.hand (λ same. apart.0 (sym (good.apart from u old held m apart.1 same)))
        ]

    fit : (g : History) → IsLegal x.shape g → VarsFit x vars g → PutFits x.shape (record { thread = x.p; act = act }) g
    fit g legal vf d n k r s o same shaped at here = go (value vars from) refl
      where
        parts : (name ≡ d) × (hand ≡ Some n)
        parts = swap-parts name d hand (Some n) took k same

        go : (m : Option Held) → value vars from ≡ m → o.class ≡ r.class
        go None m = absurd (None≢Some n (sym (is ∙ ap hand_in m) ∙ parts.1))
        go (Some held) m =
            let f = vf from held m in
            let hands : held.hand ≡ n = Some-inj (sym (is ∙ ap hand_in m) ∙ parts.1) in
            let spots : record { place = f.1.0; kind = held.kind } ≡ s = Some-inj (sym f.1.1.at ∙ ap (λ j. spot (Hand x.p j) (heap_after g)) hands ∙ at) in
            let places : f.1.0 ≡ s.place = ap (λ (t : Spot). t.place) spots in
            let objects : o ≡ f.1.1.object = Some-inj (sym here ∙ ap (slice_get (heap_after g).objects) (sym places) ∙ f.1.1.here) in
            let refs : r ≡ valid.cell_ref x.classes x.globals x.decls c = Some-inj (sym shaped ∙ ap (cell_shape x.shape (heap_after g)) (sym parts.0) ∙ cell-declared x vars g c name legal vf there named) in
            ap (λ (q : Object). q.class) objects ∙ f.1.1.is_class ∙ ap (λ (q : RefShape). q.class) (class ∙ sym refs)

-- ---- a reference that moves

moves : (x : Setting) (vars mid vars' : Variables) (last : Option Held) (ns : List Note) (to from : ℕ) (held : Held) → Good x vars ns → value vars from ≡ Some held → Replaces to (Some held) vars mid last → vars' ≡ put mid from None → valid.ArePair x.decls to from (valid.kind_at x.decls from) (valid.kind_at x.decls from) → (to ≡ from → ⊥) →
    Answered x vars' last ns
moves x vars mid vars' last ns to from held good there r v are differ = record {
  good = record {
    old = λ u a e. elim (split u a e) [
      | inl same ↦ good.old from a (there ∙ same.1)
      | inr other ↦ good.old u a other.2
    ];
    apart = λ u w a b e f same. pair u w a b same (split u a e) (split w b f);
    fits = λ g past t. let q = good.fits g past t in (q.0, λ cells u a e. fit g (q.1 cells) u a (split u a e));
  };
  away = λ old has. false-if (has_hand vars' old.hand) (λ t. away old has (has-var vars' old.hand t));
}
  where
    split : (u : ℕ) (a : Held) → value vars' u ≡ Some a → ((u ≡ to) × (Some held ≡ Some a)) ⊎ ((u ≡ to → ⊥) × (u ≡ from → ⊥) × (value vars u ≡ Some a))
    split u a e = elim (value-put mid from u None a (ap (λ vs. value vs u) (sym v) ∙ e)) [
      | inl same ↦ absurd (None≢Some a same.1)
      | inr other ↦ elim (value-put vars to u (Some held) a (ap (λ vs. value vs u) (sym r.replaced) ∙ other.1)) [
        | inl same ↦ inl same
        | inr apart ↦ inr (apart.0, other.0, apart.1)
      ]
    ]

    pair : (u w : ℕ) (a b : Held) → a.hand ≡ b.hand → ((u ≡ to) × (Some held ≡ Some a)) ⊎ ((u ≡ to → ⊥) × (u ≡ from → ⊥) × (value vars u ≡ Some a)) → ((w ≡ to) × (Some held ≡ Some b)) ⊎ ((w ≡ to → ⊥) × (w ≡ from → ⊥) × (value vars w ≡ Some b)) → u ≡ w
    pair u w a b same (inl p) (inl q) = p.0 ∙ sym q.0
    pair u w a b same (inl p) (inr q) = absurd (q.1 (sym (good.apart from w a b (there ∙ p.1) q.2 same)))
    pair u w a b same (inr p) (inl q) = absurd (p.1 (good.apart u from a b p.2 (there ∙ q.1) same))
    pair u w a b same (inr p) (inr q) = good.apart u w a b p.2 q.2 same

    fit : (g : History) → VarsFit x vars g → (u : ℕ) (a : Held) → ((u ≡ to) × (Some held ≡ Some a)) ⊎ ((u ≡ to → ⊥) × (u ≡ from → ⊥) × (value vars u ≡ Some a)) → (a.kind ≡ (declared x u).kind) × HandFits x a (declared x u).class g
    fit g vf u a (inl p) =
        let f = vf from a (there ∙ p.1) in
        let class : (declared x from).class ≡ (declared x u).class = sym (ap (λ n. (declared x n).class) p.0 ∙ are.one_class) in
        (f.0 ∙ sym (ap (λ n. (declared x n).kind) p.0 ∙ are.kind_of_to), (f.1.0, subst (λ c. Fit x.p a.hand f.1.0 a.kind c (Some a.place) (heap_after g)) class f.1.1))
    fit g vf u a (inr p) = vf u a p.2

    away : (old : Held) → last ≡ Some old → Having vars' old.hand → ⊥
    away old has h = elim (split h.var h.held h.there) [
      | inl same ↦ differ (good.apart to from old h.held (sym r.old ∙ has) (there ∙ same.1) (sym h.is))
      | inr other ↦ other.0 (good.apart h.var to h.held old other.2 (sym r.old ∙ has) h.is)
    ]

-- ---- an operation

answers : (x : Setting) {o : Op} {vars vars' : Variables} {answer : Answer} {last : Option Held} {b ns : List Note} → valid.IsOp x.classes x.globals x.decls o → Good x vars b → IsAnswered x.p (hands_in x.p x.h) o vars b vars' answer last ns → Answered x vars' last ns
answers x {vars = vars} {vars' = vars'} {last = last} {b = b} is good (made {to = to} {class = class} {slot = slot} {k = k} next n r) =
    let new : Held = record { hand = k; kind = Strong; place = slot } in
    let then = keep-good x vars good (more none_added (leaves-all (has_hand vars) (acts.New k class slot) (λ j. refl) refl)) in
    record {
      good = put-good x vars vars' (Did (acts.New k class slot) ∷ b) to new then r.replaced (λ v held there same. let a = good.old v held there in omega (arith, a, same, next)) (omega arith) (made-new x b to k class slot is.2);
      away = put-away x vars vars' b to (Some new) last good r.replaced r.old (λ held old e has same. let a = good.old to old (sym r.old ∙ has) in let c : held.hand ≡ k = ap (λ (q : Held). q.hand) (Some-inj (sym e)) in omega (arith, a, c, same, next));
    }
answers x {vars = vars} {vars' = vars'} {b = b} is good (full v) = still x vars vars' (Did acts.Full ∷ b) v (keep-good x vars good (more none_added (leaves-all (has_hand vars) acts.Full (λ j. refl) refl)))
answers x {vars = vars} {vars' = vars'} {last = last} is good (copied {to = to} {from = from} {k = k} {held = held} e next g r) =
    gained x vars vars' last [] to (record { hand = k; kind = held.kind; place = held.place }) refl (plain-copy (origins.Hand held.hand) k) refl next g good r (λ ready.
    new-from x vars g.decided to from k held (acts.Copy (origins.Hand held.hand) k) held.kind ready e refl (λ j. refl) (λ h i at. at) (λ kind. (kind ∙ sym is.0.kind_of_to, λ o. refl)) (sym is.0.one_class))
answers x {vars = vars} {vars' = vars'} {last = last} is good (unowned_formed {to = to} {of = of} {k = k} {held = held} e next g r) =
    gained x vars vars' last [] to (record { hand = k; kind = Unowned; place = held.place }) refl (plain-unowned held.hand k) refl next g good r (λ ready.
    new-from x vars g.decided to of k held (acts.UnownedOf held.hand k) Unowned ready e refl (λ j. refl) (λ h i at. ap (in_list Unowned) at) (λ kind. (sym is.kind_of_to, λ o. ap (λ l. place_of l o) (kind ∙ is.kind_of_of))) (sym is.one_class))
answers x {vars = vars} {vars' = vars'} {last = last} is good (weak_formed {to = to} {of = of} {k = k} {entry = entry} {held = held} e next g r) =
    gained x vars vars' last (Entry held.place (Some entry) ∷ []) to (record { hand = k; kind = Weak; place = entry }) refl (plain-weak held.hand k) refl next g good r (λ ready.
    weak-new x vars g.decided to of k entry held ready e is.kind_of_of is.kind_of_to (sym is.one_class))
answers x {vars = vars} {vars' = vars'} {last = last} is good (loaded {to = to} {of = of} {k = k} {name = name} {held = held} e u next g r) =
    gained x vars vars' last (Name held.place name ∷ []) to (record { hand = k; kind = Strong; place = held.place }) refl (plain-load held.hand (gots.Hand k)) refl next g good r (λ ready.
    along x.causes x.shape x.p x.h (LeavesHand k) (NewFits x to (record { hand = k; kind = Strong; place = held.place })) x.legal (new-stable x to (record { hand = k; kind = Strong; place = held.place })) (more none_added tt) (
    new-from x vars g.decided to of k held (acts.Load held.hand (gots.Hand k)) Strong ready e refl (λ j. refl) (λ h i at. ap (in_list Strong) at) (λ kind. (sym is.0.kind_of_to, λ o. ap (λ l. place_of l o) u)) (sym is.0.one_class)))
answers x {vars = vars} {vars' = vars'} {last = last} {ns = ns} is good (found_dead {to = to} {held = held} e u g r) = emptied x vars vars' last ns to (gain-kept x vars [] refl (plain-load held.hand gots.Dead) g good) r
answers x {vars = vars} {vars' = vars'} {last = last} is good (weakly_loaded {to = to} {of = of} {k = k} {slot = slot} {name = name} {held = held} e u next g r) =
    gained x vars vars' last (Name slot name ∷ Entry slot (Some held.place) ∷ []) to (record { hand = k; kind = Strong; place = slot }) refl (plain-load held.hand (gots.Hand k)) refl next g good r (λ ready.
    weak-loaded x vars g.decided to of k slot name held ready e u is.0.kind_of_to (sym is.0.one_class))
answers x {vars = vars} {vars' = vars'} {last = last} {ns = ns} is good (found_nil {to = to} {held = held} e u g r) = emptied x vars vars' last ns to (gain-kept x vars [] refl (plain-load held.hand gots.Nil) g good) r
answers x {vars = vars} {vars' = vars'} {last = last} {b = b} is good (looked {to = to} {cell = name} e r) =
    emptied x vars vars' last (Did (acts.Look name) ∷ b) to (keep-good x vars good (more none_added (leaves-all (has_hand vars) (acts.Look name) (λ j. refl) refl))) r
answers x {vars = vars} {vars' = vars'} {last = last} is good (got {to = to} {k = k} {place = place} {kind = kind} {c = c} {cell = name} e next came g r) =
    gained x vars vars' last [] to (record { hand = k; kind = kind; place = place }) refl (plain-copy (origins.Cell name) k) refl next g (keep-good x vars good (more none_added tt)) r (λ ready.
    got-new x vars g.decided to k place kind c name ready came e is.1 is.2)
answers x {vars = vars} {vars' = vars'} {b = b} is good (put_in_nil {from = from} {c = c} {cell = name} {hand = hand} e h v) =
    record { good = puts-in x vars vars' b from c name hand None good e h v is.1 is.2; away = none-away vars' }
answers x {vars = vars} {vars' = vars'} {last = last} {b = b} is good (swapped {from = from} {k = k} {there = there} {c = c} {cell = name} {hand = hand} e h v next came l) =
    record {
      good = puts-in x vars vars' b from c name hand (Some k) good e h v is.1 is.2;
      away = λ old has. false-if (has_hand vars' old.hand) (λ t.
          let r = has-var vars' old.hand t in
          let a = good.old r.var r.held (sub-put vars vars' from v r.var r.held r.there) in
          let n : old.hand ≡ k = ap (λ (q : Held). q.hand) (Some-inj (sym has ∙ l)) in
          let s = r.is in omega (arith, a, n, s, next));
    }
answers x {vars = vars} {vars' = vars'} {b = b} {ns = ns} is good (no_owner e v n) = kept x vars vars' b ns v n good
answers x {vars = vars} {vars' = vars'} {last = last} {ns = ns} is good (given_up {v = v} e r n) = emptied x vars vars' last ns v (subst (Good x vars) (sym n) good) r
answers x {vars = vars} {vars' = vars'} {b = b} {ns = ns} is good (nothing_there e v n) = kept x vars vars' b ns v n good
answers x {vars = vars} {vars' = vars'} {last = last} {ns = ns} is good (moved {to = to} {from = from} {held = held} {mid = mid} e r v n) = moves x vars mid vars' last ns to from held (subst (Good x vars) (sym n) good) e r v is.0 is.1
answers x {vars = vars} {vars' = vars'} {last = last} {ns = ns} is good (from_nil {to = to} f r n) = emptied x vars vars' last ns to (subst (Good x vars) (sym n) good) r
answers x {vars = vars} {vars' = vars'} {ns = ns} is good (count_full {source = source} s g v) = still x vars vars' ns v (gain-kept x vars [] refl (plain-full source.list source.origin) g (source-kept x vars s good))
answers x {vars = vars} {vars' = vars'} {ns = ns} is good (no_entry s g v) = still x vars vars' ns v (keep-good x vars (source-kept x vars s good) (refused-spares (has_hand vars) g))

-- ---- programs

nil-value : (count v : ℕ) (held : Held) → value (all_nil count) v ≡ Some held → ⊥
nil-value zero v held e = None≢Some held e
nil-value (suc count) zero held e = None≢Some held e
nil-value (suc count) (suc v) held e = nil-value count v held e

-- a thread without notes has done nothing
no-puts : (x : Setting) (vars : Variables) → ((v : ℕ) (held : Held) → value vars v ≡ Some held → ⊥) → AtNotes x.causes x.shape x.p x.h [] (AllFit x vars)
no-puts x vars nil g past no_event = (tt, λ cells v held e. absurd (nil v held e))
no-puts x vars nil g past (other_event {e = e} {h = g0} t y) =
    let q = no-puts x vars nil g0 (before past) t in
    ((q.0, λ mine. clash (is_of x.p e) mine y), λ cells v held e. absurd (nil v held e))

last-good : (x : Setting) (vars : Variables) (last : Option Held) {b ns : List Note} → Answered x vars last b → IsDropped x.shape last b ns → Good x vars ns
last-good x vars last a nothing = a.good
last-good x vars last {b = b} a (dropped {held = held} d) = keep-good x vars a.good (drop-spares (has_hand vars) (good-before x vars b a.good) (a.away held refl) d)

ops-good : (x : Setting) {program : List Op} {n : ℕ} {vars : Variables} {ns : List Note} → ((i : ℕ) (o : Op) → slice_get program i ≡ Some o → valid.IsOp x.classes x.globals x.decls o) → OpsDone x.shape x.p (hands_in x.p x.h) program (length x.decls) n vars ns → Good x vars ns
ops-good x are (no_ops {vars = vars} e) =
    let nil : (v : ℕ) (held : Held) → value vars v ≡ Some held → ⊥ = λ v held is. nil-value (length x.decls) v held (ap (λ vs. value vs v) (sym e) ∙ is) in
    record { old = λ v held is. absurd (nil v held is); apart = λ v w a b is it same. absurd (nil v a is); fits = no-puts x vars nil }
ops-good x are (one_more {i = i} {n = n} {o = o} {vars = vars} {vars' = vars'} d there e y) =
    let good = ops-good x are d in
    let a = answers x (are i o there) (keep-good x vars good (more none_added tt)) y.does in
    last-good x vars' y.last (record { good = keep-good x vars' a.good (more none_added tt); away = a.away }) y.ends
ops-good x are (at_block d there is next forth) = ops-good x are d

scope-good : (x : Setting) {first vars : Variables} {n : ℕ} {b ns : List Note} → Good x first b → ScopeEnds x.shape first n vars b ns → Good x vars ns
scope-good x {first = first} good begins = keep-good x first good (more none_added tt)
scope-good x good (var_nil s l e n) = scope-good x good s
scope-good x good (var_dropped {v = v} {held = held} {vars = vars} {vars' = vars'} {ns = ns} s l e n r d) =
    let g = scope-good x good s in
    let gave : Replaces v None vars vars' (value vars v) = record { replaced = r; old = refl } in
    let a = emptied x vars vars' (value vars v) ns v g gave in
    keep-good x vars' a.good (drop-spares (has_hand vars') (good-before x vars' ns a.good) (a.away held e) d)

-- thread 0 puts nothing into a cell
pub end-spares : (shape : HeapShape) {came : Hands} {n : ℕ} {ns : List Note} → GlobalsCleared shape came n ns → Spares (Leaves (λ j. false)) [] ns
end-spares shape end_begins = more none_added tt
end-spares shape (global_nil c l e) = more (end-spares shape c) (leaves-all (λ j. false) _ (λ j. refl) refl)
end-spares shape (cleared c l e k r d) = spares-both (more (end-spares shape c) (leaves-all (λ j. false) _ (λ j. refl) refl)) (drop-spares (λ j. false) (λ j t. no t) refl d)

-- what a thread of a script puts into cells fits
pub program_puts : (causes : Causes) (script : Script) (p : ℕ) (h : History) (notes : List Note) → valid.IsScript script → IsLegal script.shape h → Ties causes script.shape p notes h → Spells script (hands_in p h) p notes → Puts script.shape p h
program_puts causes script p h notes is legal tied (thread {decl = decl} some at y) =
    let x : Setting = record { causes = causes; shape = script.shape; p = p; h = h; legal = legal; classes = script.classes; globals = script.globals; decls = decl.vars; heading = is.heading } in
    let t = all-at (valid.IsThread script.classes script.globals) script.threads (p - 1) decl is.threads at in
    let worked = ops-good x (ops_are script.classes script.globals decl t) y.ops in
    ((scope-good x worked y.scope).fits h now tied).0
program_puts causes script p h notes is legal tied (end c e) =
    let x : Setting = record { causes = causes; shape = script.shape; p = 0; h = h; legal = legal; classes = script.classes; globals = script.globals; decls = []; heading = is.heading } in
    let nil : Good x [] [] = record { old = λ v held is. absurd (None≢Some held is); apart = λ v w a b is it same. absurd (None≢Some a is); fits = no-puts x [] (λ v held is. None≢Some held is) } in
    ((keep-good x [] nil (end-spares script.shape c)).fits h now tied).0
