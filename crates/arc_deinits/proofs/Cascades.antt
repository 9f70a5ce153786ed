-- Each word that a cascade may be given keeps what it stands for.
use Rattle.std.proofs.Common.{◌≡◌, ◌≤◌, ◌<◌, ◌+◌, ◌-◌, ℕ, Bool, true, false, cond, eqb, ltb, List, [], ◌∷◌, Option, Some, None, refl, sym, ap, subst, ◌∙◌, arith, eq-eqb}
use Rattle.std.proofs.lemmas.Bool.{eqb-true, eqb-false, ltb-true, ltb-false}
use Rattle.std.specs.Option.{unwrap_or}
use Rattle.arc_model.specs.declared.event.ObjectName.{ObjectName}
use Rattle.arc_model.specs.declared.event.CellName.TheVariants as cells
use Rattle.arc_model.specs.declared.event.Act.{Act}
use Rattle.arc_model.specs.declared.event.Act.TheVariants.{Drop, Take, Finish}
use Rattle.arc_model.specs.declared.shape.Kind.{Kind}
use Rattle.arc_model.specs.declared.shape.Kind.TheVariants.{Strong, Unowned, Weak}
use Rattle.arc_model.specs.Shapes.{HeapShape}
use Rattle.arc_spelling.specs.Spelling.{Note, hands_of, IsEnd, IsDrop, IsCascade}
use Rattle.arc_model.specs.References.{field_count}
use Rattle.arc_spelling.specs.Spelling.Note.{Did, Name, Entry, Nil, Refers}
use Rattle.arc_spelling.specs.Spelling.FieldsDone.{named, noted, nil, taken}
use Rattle.arc_spelling.specs.Spelling.IsDrop.{last_strong}
use Rattle.arc_spelling.specs.Spelling.IsCascade.{finish_more, finish_last}
use Rattle.arc_rule.specs.Extents.{Extent}
use Rattle.arc_rule.specs.Isa.{isa_name_of}
use Rattle.arc_rule.specs.declared.plan.Next.{Next}
use Rattle.arc_rule.specs.declared.plan.Next.TheVariants as nexts
use Rattle.arc_rule.specs.declared.step.Step.{Step}
use Rattle.arc_rule.specs.declared.step.Step.TheVariants.{Load, Store}
use Rattle.arc_rule.specs.declared.layout.Place.TheVariants.{Count, Field, Next as NextPlace}
use Rattle.arc_rule.specs.Places.{number}
use Rattle.arc_rule.specs.declared.step.Intent.{Intent}
use Rattle.arc_rule.specs.declared.step.Intent.TheVariants as intents
use Rattle.arc_side.specs.Downs.{Fall, down_turned, down_answer}
use Rattle.arc_side.specs.declared.down.DownAnswer.{DownAnswer}
use Rattle.arc_side.specs.declared.down.DownAnswer.TheVariants as downs
use Rattle.arc_side.specs.Lasts.{DownSays, IsSameFall}
use Rattle.arc_side.proofs.Lasts.{down_says, down_same}
use Rattle.arc_side.specs.SlotEnds.{SlotEnding, slot_end_turn}
use Rattle.arc_side.specs.declared.slot_end.SlotEndNext.{SlotEndNext}
use Rattle.arc_side.specs.declared.slot_end.SlotEndNext.TheVariants as end_says
use Rattle.arc_cells.specs.Chains.{Frame, parent_of, rest_of}
use Rattle.arc_cells.specs.Drops.{Dropping, DropTurn, drop_from, drop_begins, drop_turn, drop_takes}
use Rattle.arc_cells.specs.declared.parent.Parent.{Parent}
use Rattle.arc_cells.specs.declared.ref_drop.RefDropNext.{RefDropNext}
use Rattle.arc_cells.specs.declared.ref_drop.RefDropNext.TheVariants as drop_says
use Rattle.arc_cells.specs.declared.cascade.At.{At}
use Rattle.arc_cells.specs.declared.cascade.At.TheVariants.{Start, Entering, Naming, Named, Looking, Taking, Dropping as DroppingOne, Leaving, Finishing, Ending, Resuming, Ended}
use Rattle.arc_cells.specs.declared.cascade.CascadeNext.TheVariants as says
use Rattle.arc_cells.specs.Cascades.{CascadeState, CascadeTurn, field_kind, asks, looks, climbs, looked, has_taken, drops_on, drops_by, takes_out, ends_on, has_finished, finishes, turn_at, NamesClass, IsCellWord, takes_at}
use Rattle.arc_deinits.specs.Found.{name_in, CameOut, Reads, FindsEntry, with_act, Shows}
use Rattle.arc_deinits.specs.Found.CameOut.{taken as came_out}
use Rattle.arc_deinits.specs.Found.Reads.{nothing as read_nothing, name as read_name, nil_field, reference}
use Rattle.arc_deinits.specs.Found.FindsEntry.{nothing as found_nothing, finished, dropped}
use Rattle.arc_deinits.specs.References.{DropComes, IsSameDrop, DropGoesOn, EndComes}
use Rattle.arc_deinits.specs.Stands.{asked_by, with_deinit, Begun, FieldsUpTo, InFields, AllDone, IsFound, IsTaken, IsReleasing, CascadeUpTo, CascadeStandsFor, chained_by, chained_at, NamesFirst, ChainFitsAt, IsSameCascade, CascadeComes, CascadesBegin, CascadesGoOn}
use Rattle.arc_deinits.proofs.Ends.{slot_ends_go_on}
use Rattle.arc_deinits.proofs.Drops.{drop_given, same_begun, comes_begun, exchange_asked, drops_go_on}

-- the cascade while it is given a word
abbrev given : CascadeState → CascadeState
given c = record c { at = Ended; event = None }

-- a turn of q, whose event was told, and which stands for the notes
record Goes (root : ℕ) (base : List Note) (q : CascadeState) (fs : List Frame) (t : CascadeTurn) (now : List Note) : Type 0 where
  stands : CascadeStandsFor root base t.after fs (asked_by t.says) (with_deinit t.says now)
  same : IsSameCascade q t.after
  event : t.after.event ≡ q.event
  done : t.says ≡ says.Done → IsCascade q.shape root base now

comes : (root : ℕ) (base : List Note) (c q : CascadeState) (fs : List Frame) (t : CascadeTurn) (asked : Option (Step × Intent)) (last : Option ℕ) (now found : List Note) →
    IsSameCascade c q → Shows c.shape c.layout asked last q.event now found → Goes root base q fs t found → CascadeComes root base c t fs asked last now
comes root base c q fs t asked last now found same shows g = record {
  found = found;
  shows = subst (λ (e : Option Act). Shows c.shape c.layout asked last e now found) (sym g.event) shows;
  stands = g.stands;
  same = record { layout = g.same.layout ∙ same.layout; shape = g.same.shape ∙ same.shape; before = g.same.before ∙ same.before };
  done = λ e. subst (λ (s : HeapShape). IsCascade s root base found) same.shape (g.done e);
}

same_as : (c new : CascadeState) → new.layout ≡ c.layout → new.shape ≡ c.shape → new.before ≡ c.before → IsSameCascade c new
same_as c new layout shape before = record { layout = layout; shape = shape; before = before }

-- the event that is told, and nothing that is read
tells : (shape : HeapShape) (layout : Extent) (asked : Option (Step × Intent)) (last : Option ℕ) (event : Option Act) (now : List Note) → Shows shape layout asked last event now (with_act event now)
tells shape layout asked last event now = record { read = now; reads = read_nothing; finds = found_nothing }

reads_only : (shape : HeapShape) (layout : Extent) (asked : Option (Step × Intent)) (last : Option ℕ) (now found : List Note) → Reads shape layout asked last now found → Shows shape layout asked last None now found
reads_only shape layout asked last now found r = record { read = found; reads = r; finds = found_nothing }

-- a name that was read just now
same_name : (slot : ℕ) (name : ObjectName) (ns : List Note) → name_in slot (Name slot name ∷ ns) ≡ Some name
same_name slot name ns = subst (λ (b : Bool). cond b (Some name) (name_in slot ns) ≡ Some name) (sym (eq-eqb slot slot refl)) refl

-- the next field is looked at, or all are done
looks_on : (root : ℕ) (base : List Note) (q : CascadeState) (fs : List Frame) (name : ObjectName) (field : ℕ) (now : List Note) → q.before + q.taken ≡ hands_of now → field ≤ field_count q.shape name →
    InFields q.shape root base fs q.slot name field now → Goes root base q fs (looks q name field) now
looks_on root base q fs name field now hands within done = go (ltb field (field_count q.shape name)) refl
  where
    go : (b : Bool) → ltb field (field_count q.shape name) ≡ b →
        Goes root base q fs (cond b (asks q (Looking name field) (Load (number q.layout (Field q.slot field)))) (asks q Leaving (Load (number q.layout (NextPlace q.slot))))) now
    go true e = record {
      stands = record { hands = hands; up_to = (ltb-true field (field_count q.shape name) e, done, refl) };
      same = record { layout = refl; shape = refl; before = refl };
      event = refl;
      done = λ d. absurd (cc);
    }
    go false e = record {
      stands = record { hands = hands; up_to = record { name = name; up_to = subst (λ (f : ℕ). FieldsUpTo q.shape root base fs q.slot name f now) all done.up_to } };
      same = record { layout = refl; shape = refl; before = refl };
      event = refl;
      done = λ d. absurd (cc);
    }
      where
        all : field ≡ field_count q.shape name
        all = omega (arith, ltb-false field (field_count q.shape name) e, within)

-- the deinit is over: the one that waits goes on
climbs_on : (root : ℕ) (base : List Note) (q : CascadeState) (fs : List Frame) (parent : Option Parent) (began now : List Note) → q.before + q.taken ≡ hands_of now → parent ≡ parent_of fs →
    Begun q.shape root base fs q.slot began → IsCascade q.shape q.slot began now → Goes root base q fs (climbs q parent) now
climbs_on root base q [] parent began now hands parent_is begun c = subst (λ (o : Option Parent). Goes root base q [] (climbs q o) now) (sym parent_is) (record {
  stands = record { hands = hands; up_to = whole };
  same = record { layout = refl; shape = refl; before = refl };
  event = refl;
  done = λ e. whole;
})
  where
    whole : IsCascade q.shape root base now
    whole = subst (λ (s : ℕ). IsCascade q.shape s base now) begun.0 (subst (λ (b : List Note). IsCascade q.shape q.slot b now) begun.1 c)
climbs_on root base q (p ∷ fs) parent began now hands parent_is begun c = subst (λ (o : Option Parent). Goes root base q (p ∷ fs) (climbs q o) now) (sym parent_is) (record {
  stands = record { hands = hands; up_to = ((refl, refl, within, parent_done), refl) };
  same = record { layout = refl; shape = refl; before = refl };
  event = refl;
  done = λ e. absurd (cc);
})
  where
    within : p.field ≤ field_count q.shape p.name
    within = omega (arith, begun.1.inside, begun.1.going_on)

    child : IsDrop q.shape Strong q.slot (hands_of begun.1.before + 1) (Did (Take p.slot begun.1.field (hands_of begun.1.before + 1)) ∷ Refers (cells.Field p.slot begun.1.field) Strong q.slot ∷ begun.1.before) now
    child = last_strong (subst (λ (b : List Note). IsCascade q.shape q.slot b now) begun.1.now_is c)

    parent_done : FieldsUpTo q.shape root base fs p.slot p.name p.field now
    parent_done = record { began = begun.0; begun = begun.2; done = taken begun.1.done begun.1.inside begun.1.going_on refl child }

-- the drop of a reference that was taken out of a field goes on
record TakenOut (root : ℕ) (base : List Note) (q : CascadeState) (fs : List Frame) (name : ObjectName) (field : ℕ) (d : Dropping) (starts before found : List Note) : Type 0 where
  inside : field < field_count q.shape name
  in_fields : InFields q.shape root base fs q.slot name field before
  layout : d.layout ≡ q.layout
  hand : d.hand ≡ hands_of before + 1
  kind : d.kind ≡ field_kind q.shape name field
  starts_is : starts ≡ Did (Take q.slot field (hands_of before + 1)) ∷ Refers (cells.Field q.slot field) (field_kind q.shape name field) d.place ∷ before
  named : name_in q.slot found ≡ Some name
  hands : q.before + q.taken ≡ hands_of found

drop_goes : (root : ℕ) (base : List Note) (q : CascadeState) (fs : List Frame) (name : ObjectName) (field : ℕ) (d : Dropping) (starts before found : List Note) → TakenOut root base q fs name field d starts before found →
    (a : RefDropNext) → DropComes q.shape d a starts found → Goes root base q (chained_by q name field a fs) (drops_on q name field d a) found
drop_goes root base q fs name field d starts before found u (drop_says.Step step intent) c = record {
  stands = record {
    hands = u.hands;
    up_to = record { inside = u.inside; before = before; in_fields = u.in_fields; layout = u.layout; hand = u.hand; kind = u.kind; starts = starts; starts_is = u.starts_is; named = u.named; drop = c };
  };
  same = record { layout = refl; shape = refl; before = refl };
  event = refl;
  done = λ e. absurd (cc);
}
drop_goes root base q fs name field d starts before found u (drop_says.Dies slot) c = record {
  stands = record {
    hands = u.hands;
    up_to = (u.in_fields.up_to.began, record { field = field; before = before; done = u.in_fields.up_to.done; inside = u.inside; going_on = refl; now_is = now_is }, u.in_fields.up_to.begun);
  };
  same = record { layout = refl; shape = refl; before = refl };
  event = refl;
  done = λ e. absurd (cc);
}
  where
    now_is : found ≡ Did (Drop (hands_of before + 1) true) ∷ Did (Take q.slot field (hands_of before + 1)) ∷ Refers (cells.Field q.slot field) Strong slot ∷ before
    now_is = let strong = sym u.kind ∙ c.0 in let s = c.1 in let n = c.2 in let h = u.hand in let b = u.starts_is in cc
drop_goes root base q fs name field d starts before found u drop_says.Done c =
    looks_on root base q fs name (field + 1) found u.hands (omega (arith, u.inside)) (record {
      up_to = record { began = u.in_fields.up_to.began; begun = u.in_fields.up_to.begun; done = taken {place = d.place} {kind = field_kind q.shape name field} u.in_fields.up_to.done u.inside refl refl dropped_is };
      named = u.named;
    })
  where
    dropped_is : IsDrop q.shape (field_kind q.shape name field) d.place (hands_of before + 1) (Did (Take q.slot field (hands_of before + 1)) ∷ Refers (cells.Field q.slot field) (field_kind q.shape name field) d.place ∷ before) found
    dropped_is = subst (λ (b : List Note). IsDrop q.shape (field_kind q.shape name field) d.place (hands_of before + 1) b found) u.starts_is
        (subst (λ (h : ℕ). IsDrop q.shape (field_kind q.shape name field) d.place h starts found) u.hand (subst (λ (k : Kind). IsDrop q.shape k d.place d.hand starts found) u.kind c))

-- what is found of entries, and the events of drops, name no object
name_found : (slot : ℕ) (shape : HeapShape) (layout : Extent) (asked : Option (Step × Intent)) (last : Option ℕ) (event : Option Act) (b found : List Note) → FindsEntry shape layout asked last event b found → name_in slot found ≡ name_in slot b
name_found slot shape layout asked last event b found found_nothing = refl
name_found slot shape layout asked last event b found (finished e asks l c) = refl
name_found slot shape layout asked last event b found (dropped e came asks l c) = refl

name_told : (slot : ℕ) (event : Option Act) (now : List Note) → name_in slot (with_act event now) ≡ name_in slot now
name_told slot None now = refl
name_told slot (Some a) now = refl

-- a reference comes into the next hand, and its drop begins
abbrev drop_of : CascadeState → ObjectName → (field place : ℕ) → Dropping
drop_of c name field place = drop_from c.layout (c.before + c.taken + 1) (field_kind c.shape name field) place

abbrev begins : CascadeState → ObjectName → (field place : ℕ) → Kind → DropTurn
begins c name field place kind = drop_begins (drop_given (drop_of c name field place)) kind

abbrev with_take : CascadeState → (field : ℕ) → List Note → List Note
with_take c field now = Did (Take c.slot field (c.before + c.taken + 1)) ∷ now

takes_one : (root : ℕ) (base : List Note) (c : CascadeState) (fs : List Frame) (asked : Option (Step × Intent)) (last : Option ℕ) (name : ObjectName) (field place : ℕ) (now : List Note) → c.before + c.taken ≡ hands_of now →
    IsFound c.shape root base fs c.slot name field place now → CascadeComes root base c (takes_out (given c) name field place) fs asked last now
takes_one root base c fs asked last name field place now hands u =
    comes root base c (has_taken (given c) field) fs _ asked last now (with_take c field now) (same_as c _ refl refl refl) (tells c.shape c.layout asked last (Some (Take c.slot field (c.before + c.taken + 1))) now) (go (field_kind c.shape name field) refl)
  where
    count : c.before + c.taken ≡ hands_of u.before
    count = hands ∙ ap (λ (ns : List Note). hands_of ns) u.now_is

    found_is : with_take c field now ≡ Did (Take c.slot field (hands_of u.before + 1)) ∷ Refers (cells.Field c.slot field) (field_kind c.shape name field) place ∷ u.before
    found_is = let k = count in let n = u.now_is in cc

    out : (new : Dropping) → IsSameDrop (drop_of c name field place) new → TakenOut root base (has_taken (given c) field) fs name field new (with_take c field now) u.before (with_take c field now)
    out new same = record {
      inside = u.inside;
      in_fields = u.in_fields;
      layout = same.layout;
      hand = same.hand ∙ ap (λ n. n + 1) count;
      kind = same.kind;
      starts_is = subst (λ (at : ℕ). with_take c field now ≡ Did (Take c.slot field (hands_of u.before + 1)) ∷ Refers (cells.Field c.slot field) (field_kind c.shape name field) at ∷ u.before) (sym same.place) found_is;
      named = ap (λ (ns : List Note). name_in c.slot ns) u.now_is ∙ u.in_fields.named;
      hands = omega (arith, hands);
    }

    go : (kind : Kind) → field_kind c.shape name field ≡ kind →
        Goes root base (has_taken (given c) field) fs (drops_by (has_taken (given c) field) name field (begins c name field place kind)) (with_take c field now)
    go Strong e = drop_goes root base (has_taken (given c) field) fs name field (begins c name field place Strong).after (with_take c field now) u.before (with_take c field now)
        (out (begins c name field place Strong).after (same_begun (drop_of c name field place) Strong)) (begins c name field place Strong).says (comes_begun c.shape (drop_of c name field place) (with_take c field now) Strong e)
    go Unowned e = drop_goes root base (has_taken (given c) field) fs name field (begins c name field place Unowned).after (with_take c field now) u.before (with_take c field now)
        (out (begins c name field place Unowned).after (same_begun (drop_of c name field place) Unowned)) (begins c name field place Unowned).says (comes_begun c.shape (drop_of c name field place) (with_take c field now) Unowned e)
    go Weak e = drop_goes root base (has_taken (given c) field) fs name field (begins c name field place Weak).after (with_take c field now) u.before (with_take c field now)
        (out (begins c name field place Weak).after (same_begun (drop_of c name field place) Weak)) (begins c name field place Weak).says (comes_begun c.shape (drop_of c name field place) (with_take c field now) Weak e)

-- the exchange of the object's own count goes on, or its deinit is over
finishes_on : (root : ℕ) (base : List Note) (c : CascadeState) (fs : List Frame) (asked : Option (Step × Intent)) (last : Option ℕ) (parent : Option Parent) (p new : Fall) (now : List Note) → c.before + c.taken ≡ hands_of now →
    parent ≡ parent_of fs → IsReleasing c asked p → AllDone c.shape root base fs c.slot now → IsSameFall p new → (a : Next DownAnswer) → DownSays p new last a →
    CascadeComes root base c (finishes (given c) parent new a) fs asked last now
finishes_on root base c fs asked last parent p new now hands parent_is r all same (nexts.Step step) says =
    comes root base c (given c) fs _ asked last now now (same_as c _ refl refl refl) (tells c.shape c.layout asked last None now) (record {
      stands = record {
        hands = hands;
        up_to = (parent_is, record { layout = same.layout ∙ r.layout; slot = same.slot ∙ r.slot; list = same.list ∙ r.list; step = step; asks = refl; waits = says }, all);
      };
      same = record { layout = refl; shape = refl; before = refl };
      event = refl;
      done = λ e. absurd (cc);
    })
finishes_on root base c fs asked last parent p new now hands parent_is r all same (nexts.Done (downs.More entry)) says =
    comes root base c (has_finished (given c) false) fs _ asked last now (Did (Finish c.slot false) ∷ now) (same_as c _ refl refl refl) (tells c.shape c.layout asked last (Some (Finish c.slot false)) now)
    (climbs_on root base (has_finished (given c) false) fs parent all.up_to.began (Did (Finish c.slot false) ∷ now) hands parent_is all.up_to.begun (finish_more all.up_to.done refl))
finishes_on root base c fs asked last parent p new now hands parent_is r all same (nexts.Done (downs.Last entry)) says =
    comes root base c (has_finished (given c) true) fs _ asked last now (Entry c.slot entry ∷ Did (Finish c.slot true) ∷ now) (same_as c _ refl refl refl) shown (record {
      stands = record { hands = hands; up_to = (parent_is, record { before = now; all_done = all; slot = refl; end = refl }) };
      same = record { layout = refl; shape = refl; before = refl };
      event = refl;
      done = λ e. absurd (cc);
    })
  where
    shown : Shows c.shape c.layout asked last (Some (Finish c.slot true)) now (Entry c.slot entry ∷ Did (Finish c.slot true) ∷ now)
    shown = record {
      read = now;
      reads = read_nothing;
      finds = finished refl (exchange_asked p c.layout c.slot Unowned entry says.seen says.new asked r.step (intents.Deinit c.slot) r.layout r.slot r.list says.entry_is says.exchanged r.asks r.waits) says.found says.counts;
    }
finishes_on root base c fs asked last parent p new now hands parent_is r all same (nexts.Done (downs.Again changed)) says =
    comes root base c (given c) fs _ asked last now now (same_as c _ refl refl refl) (tells c.shape c.layout asked last None now) (record {
      stands = record { hands = hands; up_to = (parent_is, record { layout = refl; slot = refl; list = refl; step = Load (number c.layout (Count c.slot)); asks = refl; waits = refl }, all) };
      same = record { layout = refl; shape = refl; before = refl };
      event = refl;
      done = λ e. absurd (cc);
    })

-- the end of the slot goes on, or is over
ends_with : (root : ℕ) (base : List Note) (q : CascadeState) (fs : List Frame) (parent : Option Parent) (after : SlotEnding) (before found : List Note) → q.before + q.taken ≡ hands_of found → parent ≡ parent_of fs →
    AllDone q.shape root base fs q.slot before → after.slot ≡ q.slot → (a : SlotEndNext) → EndComes after a (Did (Finish q.slot true) ∷ before) found → Goes root base q fs (ends_on q parent after a) found
ends_with root base q fs parent after before found hands parent_is all slot (end_says.Step step intent) c = record {
  stands = record { hands = hands; up_to = (parent_is, record { before = before; all_done = all; slot = slot; end = c }) };
  same = record { layout = refl; shape = refl; before = refl };
  event = refl;
  done = λ e. absurd (cc);
}
ends_with root base q fs parent after before found hands parent_is all slot end_says.Done c =
    climbs_on root base q fs parent all.up_to.began found hands parent_is all.up_to.begun
    (finish_last all.up_to.done refl (subst (λ (s : ℕ). IsEnd s (Did (Finish q.slot true) ∷ before) found) slot c))

-- a field was read
reads_field : (root : ℕ) (base : List Note) (c : CascadeState) (fs : List Frame) (asked : Option (Step × Intent)) (last : Option ℕ) (name : ObjectName) (field : ℕ) (now : List Note) → c.before + c.taken ≡ hands_of now →
    CascadeUpTo c root base fs asked now (Looking name field) → IsCellWord c.layout (field_kind c.shape name field) last → CascadeComes root base c (looked (given c) name field (unwrap_or last 0)) fs asked last now
reads_field root base c fs asked None name field now hands u takes = absurd takes
reads_field root base c fs asked (Some w) name field now hands u takes = go (eqb w 0) refl
  where
    go : (b : Bool) → eqb w 0 ≡ b →
        CascadeComes root base c (cond b (looks (given c) name (field + 1)) (asks (given c) (Taking name field (w - 2)) (Store (number c.layout (Field c.slot field)) 0))) fs asked (Some w) now
    go true e =
        comes root base c (given c) fs _ asked (Some w) now (Nil (cells.Field c.slot field) ∷ now) (same_as c _ refl refl refl)
        (reads_only c.shape c.layout asked (Some w) now (Nil (cells.Field c.slot field) ∷ now) (nil_field u.2 (ap Some (eqb-true w 0 e)) u.1.named u.0))
        (looks_on root base (given c) fs name (field + 1) (Nil (cells.Field c.slot field) ∷ now) hands (omega (arith, u.0)) (record {
          up_to = record { began = u.1.up_to.began; begun = u.1.up_to.begun; done = nil u.1.up_to.done u.0 refl };
          named = u.1.named;
        }))
    go false e =
        comes root base c (given c) fs _ asked (Some w) now (Refers (cells.Field c.slot field) (field_kind c.shape name field) (w - 2) ∷ now) (same_as c _ refl refl refl)
        (reads_only c.shape c.layout asked (Some w) now (Refers (cells.Field c.slot field) (field_kind c.shape name field) (w - 2) ∷ now) (reference u.2 refl (takes (λ z. eqb-false w 0 e z)).0 u.1.named u.0)) (record {
          stands = record { hands = hands; up_to = record { inside = u.0; before = now; in_fields = u.1; now_is = refl } };
          same = record { layout = refl; shape = refl; before = refl };
          event = refl;
          done = λ d. absurd (cc);
        })

-- the isa word was read
names : (root : ℕ) (base : List Note) (c : CascadeState) (fs : List Frame) (asked : Option (Step × Intent)) (last : Option ℕ) (now : List Note) → c.before + c.taken ≡ hands_of now → CascadeUpTo c root base fs asked now Naming →
    NamesClass c.shape last → CascadeComes root base c (turn_at (given c) last Naming) fs asked last now
names root base c fs asked None now hands u takes = absurd takes
names root base c fs asked (Some w) now hands u takes =
    comes root base c (given c) fs _ asked (Some w) now (Name c.slot (isa_name_of w) ∷ now) (same_as c _ refl refl refl)
    (reads_only c.shape c.layout asked (Some w) now (Name c.slot (isa_name_of w) ∷ now) (read_name u.1 refl)) (record {
      stands = record { hands = hands; up_to = record { up_to = record { began = now; begun = u.0; done = named }; named = same_name c.slot (isa_name_of w) now } };
      same = record { layout = refl; shape = refl; before = refl };
      event = refl;
      done = λ d. absurd (cc);
    })

-- the isa word of the deinit that goes on was read
resumes : (root : ℕ) (base : List Note) (c : CascadeState) (fs : List Frame) (asked : Option (Step × Intent)) (last : Option ℕ) (field : ℕ) (now : List Note) → c.before + c.taken ≡ hands_of now →
    CascadeUpTo c root base fs asked now (Resuming field) → NamesFirst fs (isa_name_of (unwrap_or last 0)) → NamesClass c.shape last →
    CascadeComes root base c (looks (given c) (isa_name_of (unwrap_or last 0)) field) (rest_of fs) asked last now
resumes root base c [] asked last field now hands u fits takes = absurd fits
resumes root base c (p ∷ fs) asked None field now hands u fits takes = absurd takes
resumes root base c (p ∷ fs) asked (Some w) field now hands u fits takes =
    comes root base c (given c) fs _ asked (Some w) now (Name c.slot (isa_name_of w) ∷ now) (same_as c _ refl refl refl) (reads_only c.shape c.layout asked (Some w) now (Name c.slot (isa_name_of w) ∷ now) (read_name u.1 refl))
    (looks_on root base (given c) fs (isa_name_of w) field (Name c.slot (isa_name_of w) ∷ now) hands (subst (λ (n : ObjectName). field ≤ field_count c.shape n) (sym fits) u.0.2) (record { up_to = going; named = same_name c.slot (isa_name_of w) now }))
  where
    there : FieldsUpTo c.shape root base fs p.slot p.name p.field (Name c.slot (isa_name_of w) ∷ now)
    there = record { began = u.0.3.began; begun = u.0.3.begun; done = noted u.0.3.done refl }

    going : FieldsUpTo c.shape root base fs c.slot (isa_name_of w) field (Name c.slot (isa_name_of w) ∷ now)
    going = subst (λ (s : ℕ). FieldsUpTo c.shape root base fs s (isa_name_of w) field (Name c.slot (isa_name_of w) ∷ now)) (sym u.0.0)
        (subst (λ (n : ObjectName). FieldsUpTo c.shape root base fs p.slot n field (Name c.slot (isa_name_of w) ∷ now)) (sym fits)
        (subst (λ (f : ℕ). FieldsUpTo c.shape root base fs p.slot p.name f (Name c.slot (isa_name_of w) ∷ now)) (sym u.0.1) there))

-- a reference that was taken out is dropped
abbrev told : CascadeState → DropTurn → CascadeState
told c t = record (given c) { event = t.after.event }

drops_one : (root : ℕ) (base : List Note) (c : CascadeState) (fs : List Frame) (asked : Option (Step × Intent)) (last : Option ℕ) (name : ObjectName) (field : ℕ) (d : Dropping) (now : List Note) → c.before + c.taken ≡ hands_of now →
    IsTaken c root base fs asked name field d now → drop_takes d last →
    CascadeComes root base c (drops_by (told c (drop_turn d last)) name field (drop_turn d last)) (chained_by c name field (drop_turn d last).says fs) asked last now
drops_one root base c fs asked last name field d now hands u takes =
    comes root base c (told c (drop_turn d last)) _ _ asked last now one.found (same_as c _ refl refl refl)
    (record { read = now; reads = read_nothing; finds = subst (λ (l : Extent). FindsEntry c.shape l asked last (drop_turn d last).after.event (with_act (drop_turn d last).after.event now) one.found) u.layout one.finds })
    (drop_goes root base (told c (drop_turn d last)) fs name field (drop_turn d last).after u.starts u.before one.found out (drop_turn d last).says one.comes)
  where
    came : d.kind ≡ Unowned → CameOut c.shape d.hand d.place u.starts
    came e = subst (λ (b : List Note). CameOut c.shape d.hand d.place b) (sym whole) (came_out u.in_fields.named u.inside)
      where
        whole : u.starts ≡ Did (Take c.slot field d.hand) ∷ Refers (cells.Field c.slot field) Unowned d.place ∷ u.before
        whole = let h = u.hand in let k = sym u.kind ∙ e in let b = u.starts_is in cc

    one : DropGoesOn c.shape d (drop_turn d last) asked last u.starts now
    one = drops_go_on c.shape d asked last u.starts now came u.drop takes

    out : TakenOut root base (told c (drop_turn d last)) fs name field (drop_turn d last).after u.starts u.before one.found
    out = record {
      inside = u.inside;
      in_fields = u.in_fields;
      layout = one.same.layout ∙ u.layout;
      hand = one.same.hand ∙ u.hand;
      kind = one.same.kind ∙ u.kind;
      starts_is = subst (λ (at : ℕ). u.starts ≡ Did (Take c.slot field (hands_of u.before + 1)) ∷ Refers (cells.Field c.slot field) (field_kind c.shape name field) at ∷ u.before) (sym one.same.place) u.starts_is;
      named = name_found c.slot c.shape d.layout asked last (drop_turn d last).after.event _ one.found one.finds ∙ name_told c.slot (drop_turn d last).after.event now ∙ u.named;
      hands = hands ∙ sym one.hands;
    }

pub cascade_goes_on : CascadesGoOn
cascade_goes_on root base c fs asked last now s fits takes = go c.at s.up_to fits takes
  where
    none : Shows c.shape c.layout asked last None now now
    none = tells c.shape c.layout asked last None now

    go : (at : At) → CascadeUpTo c root base fs asked now at → ChainFitsAt fs last at → takes_at c last at → CascadeComes root base c (turn_at (record c { at = Ended; event = None }) last at) (chained_at c last at fs) asked last now
    go Start u fits takes = comes root base c (given c) fs _ asked last now now (same_as c _ refl refl refl) none (record {
      stands = record { hands = s.hands; up_to = subst (λ (gs : List Frame). Begun c.shape root base gs c.slot now) (sym u.0) (u.1, u.2) };
      same = record { layout = refl; shape = refl; before = refl };
      event = refl;
      done = λ d. absurd (cc);
    })
    go Entering u fits takes = comes root base c (given c) fs _ asked last now now (same_as c _ refl refl refl) none (record {
      stands = record { hands = s.hands; up_to = (u, refl) };
      same = record { layout = refl; shape = refl; before = refl };
      event = refl;
      done = λ d. absurd (cc);
    })
    go Naming u fits takes = names root base c fs asked last now s.hands u takes
    go (Named name) u fits takes = comes root base c (given c) fs _ asked last now now (same_as c _ refl refl refl) none (looks_on root base (given c) fs name 0 now s.hands (omega arith) u)
    go (Looking name field) u fits takes = reads_field root base c fs asked last name field now s.hands u takes
    go (Taking name field place) u fits takes = takes_one root base c fs asked last name field place now s.hands u
    go (DroppingOne name field d) u fits takes = drops_one root base c fs asked last name field d now s.hands u takes
    go Leaving u fits takes = comes root base c (given c) fs _ asked last now now (same_as c _ refl refl refl) none (record {
      stands = record { hands = s.hands; up_to = (fits, record { layout = refl; slot = refl; list = refl; step = Load (number c.layout (Count c.slot)); asks = refl; waits = refl }, u) };
      same = record { layout = refl; shape = refl; before = refl };
      event = refl;
      done = λ d. absurd (cc);
    })
    go (Finishing parent p) u fits takes = finishes_on root base c fs asked last parent p (down_turned p last) now s.hands u.0 u.1 u.2 (down_same p last) (down_answer p last) (down_says p last takes)
    go (Ending parent p) u fits takes =
        let e = slot_ends_go_on p last (Did (Finish c.slot true) ∷ u.1.before) now u.1.end takes in
        comes root base c (record (given c) { event = (slot_end_turn p last).after.event }) fs _ asked last now (with_act (slot_end_turn p last).after.event now) (same_as c _ refl refl refl)
        (tells c.shape c.layout asked last (slot_end_turn p last).after.event now)
        (ends_with root base (record (given c) { event = (slot_end_turn p last).after.event }) fs parent (slot_end_turn p last).after u.1.before (with_act (slot_end_turn p last).after.event now)
        (s.hands ∙ sym e.hands) u.0 u.1.all_done (e.slot ∙ u.1.slot) (slot_end_turn p last).says e.comes)
    go (Resuming field) u fits takes = resumes root base c fs asked last field now s.hands u fits takes
    go Ended u fits takes = absurd takes

pub cascades_begin : CascadesBegin
cascades_begin layout shape slot base = record { hands = omega arith; up_to = (refl, refl, refl) }
