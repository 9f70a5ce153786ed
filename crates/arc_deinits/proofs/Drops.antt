-- Each word that the drop of a reference may be given keeps what it stands for.
use Rattle.std.proofs.Common.{◌≡◌, ℕ, true, false, List, ◌∷◌, Option, Some, None, refl, sym, ap, subst, ◌∙◌}
use Rattle.std.specs.Prelude.{option_map}
use Rattle.arc_model.specs.declared.event.Act.TheVariants.{Drop, Back}
use Rattle.arc_model.specs.declared.shape.Kind.{Kind}
use Rattle.arc_model.specs.declared.shape.Kind.TheVariants.{Strong, Unowned, Weak}
use Rattle.arc_model.specs.Shapes.{HeapShape}
use Rattle.arc_spelling.specs.Spelling.{Note, hands_of, IsEnd}
use Rattle.arc_spelling.specs.Spelling.Note.{Did, Entry}
use Rattle.arc_spelling.specs.Spelling.IsDrop.{more, last_unowned, last_weak}
use Rattle.arc_rule.specs.Extents.{Extent}
use Rattle.arc_rule.specs.Places.{number}
use Rattle.arc_rule.specs.Attempts.{asked_at}
use Rattle.arc_rule.specs.declared.attempt.At.{At as CountAt}
use Rattle.arc_rule.specs.declared.attempt.At.TheVariants.{Exchanging}
use Rattle.arc_rule.specs.declared.plan.Next.{Next}
use Rattle.arc_rule.specs.declared.plan.Next.TheVariants as nexts
use Rattle.arc_rule.specs.declared.step.Step.{Step}
use Rattle.arc_rule.specs.declared.step.Step.TheVariants.{Load, Exchange}
use Rattle.arc_rule.specs.declared.layout.Place.TheVariants as places
use Rattle.arc_rule.specs.declared.step.Intent.{Intent}
use Rattle.arc_rule.specs.declared.step.Intent.TheVariants as intents
use Rattle.arc_side.specs.Entries.{EntryFall, entry_down_turned, entry_down_answer}
use Rattle.arc_side.specs.declared.entry_down.EntryDownAnswer.{EntryDownAnswer}
use Rattle.arc_side.specs.declared.entry_down.EntryDownAnswer.TheVariants as entry_downs
use Rattle.arc_side.specs.Inline.{IsCountedInline, counted_at}
use Rattle.arc_side.specs.Downs.{Fall, down_place, down_turned, down_answer}
use Rattle.arc_side.specs.declared.down.DownAnswer.{DownAnswer}
use Rattle.arc_side.specs.declared.down.DownAnswer.TheVariants as downs
use Rattle.arc_side.specs.Lasts.{IsLastIn, DownSays, IsSameFall}
use Rattle.arc_side.proofs.Lasts.{down_says, down_same}
use Rattle.arc_side.specs.SlotEnds.{SlotEnding, slot_end_turn}
use Rattle.arc_side.specs.declared.slot_end.SlotEndNext.{SlotEndNext}
use Rattle.arc_side.specs.declared.slot_end.SlotEndNext.TheVariants as end_says
use Rattle.arc_cells.specs.Drops.{Dropping, drop_begins, counts_down, has_dropped, has_emptied, ended_on, counted_on, entry_counted_on, drop_at, drop_takes_at}
use Rattle.arc_cells.specs.declared.ref_drop.At.{At}
use Rattle.arc_cells.specs.declared.ref_drop.At.TheVariants as drops
use Rattle.arc_deinits.specs.Found.{CameOut, with_act}
use Rattle.arc_deinits.specs.Found.FindsEntry.{nothing, dropped}
use Rattle.arc_deinits.specs.References.{EndComes, IsCounting, DropUpTo, DropComes, IsSameDrop, DropGoesOn, DropsGoOn}
use Rattle.arc_deinits.proofs.Ends.{slot_ends_go_on}

abbrev fall : Extent → ℕ → Kind → Option ℕ → CountAt → Fall
fall layout slot list entry at = record { layout = layout; slot = slot; list = list; entry = entry; at = at }

-- an attempt that exchanges a count asked for that exchange
pub exchange_asked : (p : Fall) (layout : Extent) (slot : ℕ) (list : Kind) (entry : Option ℕ) (seen new : ℕ) (asked : Option (Step × Intent)) (step : Step) (intent : Intent) →
    p.layout ≡ layout → p.slot ≡ slot → p.list ≡ list → p.entry ≡ entry → p.at ≡ Exchanging seen new → asked ≡ Some (step, intent) → asked_at (down_place p) p.at ≡ Some step →
    asked ≡ Some (Exchange (number layout (counted_at list slot entry)) seen new, intent)
exchange_asked p layout slot list entry seen new asked step intent layout_is slot_is list_is entry_is at_is asks waits =
    asks ∙ ap (option_map (λ (s : Step). (s, intent))) (sym (subst (λ (q : Fall). asked_at (down_place q) q.at ≡ Some step) whole waits))
  where
    whole : p ≡ record { layout = layout; slot = slot; list = list; entry = entry; at = Exchanging seen new }
    whole = ap (λ (l : Extent). fall l p.slot p.list p.entry p.at) layout_is ∙ ap (λ (s : ℕ). fall layout s p.list p.entry p.at) slot_is ∙ ap (λ (k : Kind). fall layout slot k p.entry p.at) list_is
        ∙ ap (λ (e : Option ℕ). fall layout slot list e p.at) entry_is ∙ ap (λ (a : CountAt). fall layout slot list entry a) at_is

-- the machine while it is given a word
abbrev pub drop_given : Dropping → Dropping
drop_given d = record d { at = drops.Ended; event = None }

counting : (shape : HeapShape) (d : Dropping) (asked : Option (Step × Intent)) (last : Option ℕ) (base now : List Note) → IsCountedInline d.kind → now ≡ base → DropGoesOn shape d (counts_down (drop_given d)) asked last base now
counting shape d asked last base now counted is = record {
  found = now;
  same = record { layout = refl; hand = refl; kind = refl; place = refl };
  hands = refl;
  finds = nothing;
  comes = (record { counted = counted; layout = refl; slot = refl; list = refl; step = Load (number d.layout (places.Count d.place)); asks = refl; waits = refl }, is);
}

begun : (shape : HeapShape) (d : Dropping) (asked : Option (Step × Intent)) (last : Option ℕ) (base now : List Note) (kind : Kind) → d.kind ≡ kind → now ≡ base → DropGoesOn shape d (drop_begins (drop_given d) kind) asked last base now
begun shape d asked last base now Strong e is = counting shape d asked last base now (subst (λ (k : Kind). IsCountedInline k) (sym e) tt) is
begun shape d asked last base now Unowned e is = counting shape d asked last base now (subst (λ (k : Kind). IsCountedInline k) (sym e) tt) is
begun shape d asked last base now Weak e is = record { found = now; same = record { layout = refl; hand = refl; kind = refl; place = refl }; hands = refl; finds = nothing; comes = (e, is) }

-- the last reference of its kind is gone
emptied : (shape : HeapShape) (d : Dropping) (asked : Option (Step × Intent)) (last : Option ℕ) (base now : List Note) (p : Fall) (entry : Option ℕ) →
    (d.kind ≡ Unowned → CameOut shape d.hand d.place base) → IsCounting d asked p → now ≡ base → IsLastIn p last entry → (kind : Kind) → d.kind ≡ kind →
    DropGoesOn shape d (has_emptied (has_dropped (drop_given d) true) kind entry) asked last base now
emptied shape d asked last base now p entry came c is l Strong e = record {
  found = Did (Drop d.hand true) ∷ now;
  same = record { layout = refl; hand = refl; kind = refl; place = refl };
  hands = refl;
  finds = nothing;
  comes = (e, refl, ap (λ (ns : List Note). Did (Drop d.hand true) ∷ ns) is);
}
emptied shape d asked last base now p entry came c is l Unowned e = record {
  found = Entry d.place entry ∷ Did (Drop d.hand true) ∷ now;
  same = record { layout = refl; hand = refl; kind = refl; place = refl };
  hands = refl;
  finds = dropped refl (rw is (came e)) (exchange_asked p d.layout d.place Unowned entry l.seen l.new asked c.step (intents.Drop d.hand) c.layout c.slot (c.list ∙ e) l.entry_is l.exchanged c.asks c.waits) l.found l.counts;
  comes = (e, refl, ap (λ (ns : List Note). Entry d.place entry ∷ Did (Drop d.hand true) ∷ ns) is);
}
emptied shape d asked last base now p entry came c is l Weak e = absurd (subst (λ (k : Kind). IsCountedInline k) e c.counted)

counted : (shape : HeapShape) (d : Dropping) (asked : Option (Step × Intent)) (last : Option ℕ) (base now : List Note) (p new : Fall) → (d.kind ≡ Unowned → CameOut shape d.hand d.place base) → IsCounting d asked p → now ≡ base →
    IsSameFall p new → (a : Next DownAnswer) → DownSays p new last a → DropGoesOn shape d (counted_on (drop_given d) new a) asked last base now
counted shape d asked last base now p new came c is same (nexts.Step step) says = record {
  found = now;
  same = record { layout = refl; hand = refl; kind = refl; place = refl };
  hands = refl;
  finds = nothing;
  comes = (record { counted = c.counted; layout = same.layout ∙ c.layout; slot = same.slot ∙ c.slot; list = same.list ∙ c.list; step = step; asks = refl; waits = says }, is);
}
counted shape d asked last base now p new came c is same (nexts.Done (downs.More entry)) says = record {
  found = Did (Drop d.hand false) ∷ now;
  same = record { layout = refl; hand = refl; kind = refl; place = refl };
  hands = refl;
  finds = nothing;
  comes = rw is more;
}
counted shape d asked last base now p new came c is same (nexts.Done (downs.Last entry)) says = emptied shape d asked last base now p entry came c is says d.kind refl
counted shape d asked last base now p new came c is same (nexts.Done (downs.Again changed)) says = counting shape d asked last base now c.counted is

entry_counted : (shape : HeapShape) (d : Dropping) (asked : Option (Step × Intent)) (last : Option ℕ) (base now : List Note) (new : EntryFall) → d.kind ≡ Weak → now ≡ base → (a : Next EntryDownAnswer) →
    DropGoesOn shape d (entry_counted_on (drop_given d) new a) asked last base now
entry_counted shape d asked last base now new e is (nexts.Step step) = record { found = now; same = record { layout = refl; hand = refl; kind = refl; place = refl }; hands = refl; finds = nothing; comes = (e, is) }
entry_counted shape d asked last base now new e is (nexts.Done entry_downs.More) = record {
  found = Did (Drop d.hand false) ∷ now;
  same = record { layout = refl; hand = refl; kind = refl; place = refl };
  hands = refl;
  finds = nothing;
  comes = rw is more;
}
entry_counted shape d asked last base now new e is (nexts.Done entry_downs.Last) = record {
  found = Did (Drop d.hand true) ∷ now;
  same = record { layout = refl; hand = refl; kind = refl; place = refl };
  hands = refl;
  finds = nothing;
  comes = (e, ap (λ (ns : List Note). Did (Drop d.hand true) ∷ ns) is);
}
entry_counted shape d asked last base now new e is (nexts.Done (entry_downs.Again changed)) = record { found = now; same = record { layout = refl; hand = refl; kind = refl; place = refl }; hands = refl; finds = nothing; comes = (e, is) }

-- the slot ends
ended : (shape : HeapShape) (d : Dropping) (asked : Option (Step × Intent)) (last : Option ℕ) (base now : List Note) → d.kind ≡ Unowned → (after : SlotEnding) → after.slot ≡ d.place → hands_of (with_act after.event now) ≡ hands_of now →
    (a : SlotEndNext) → EndComes after a (Did (Drop d.hand true) ∷ base) (with_act after.event now) → DropGoesOn shape d (ended_on (record d { at = drops.Ended; event = after.event }) after a) asked last base now
ended shape d asked last base now e after slot hands (end_says.Step step intent) comes = record {
  found = with_act after.event now;
  same = record { layout = refl; hand = refl; kind = refl; place = refl };
  hands = hands;
  finds = nothing;
  comes = (e, slot, comes);
}
ended shape d asked last base now e after slot hands end_says.Done comes = record {
  found = with_act after.event now;
  same = record { layout = refl; hand = refl; kind = refl; place = refl };
  hands = hands;
  finds = nothing;
  comes = rw e (last_unowned (subst (λ (s : ℕ). IsEnd s (Did (Drop d.hand true) ∷ base) (with_act after.event now)) slot comes));
}

-- the drop begins, which asks for its first step at once
pub same_begun : (d : Dropping) (kind : Kind) → IsSameDrop d (drop_begins (drop_given d) kind).after
same_begun d Strong = record { layout = refl; hand = refl; kind = refl; place = refl }
same_begun d Unowned = record { layout = refl; hand = refl; kind = refl; place = refl }
same_begun d Weak = record { layout = refl; hand = refl; kind = refl; place = refl }

pub comes_begun : (shape : HeapShape) (d : Dropping) (base : List Note) (kind : Kind) → d.kind ≡ kind → DropComes shape (drop_begins (drop_given d) kind).after (drop_begins (drop_given d) kind).says base base
comes_begun shape d base Strong e = (record { counted = subst (λ (k : Kind). IsCountedInline k) (sym e) tt; layout = refl; slot = refl; list = refl; step = Load (number d.layout (places.Count d.place)); asks = refl; waits = refl }, refl)
comes_begun shape d base Unowned e = (record { counted = subst (λ (k : Kind). IsCountedInline k) (sym e) tt; layout = refl; slot = refl; list = refl; step = Load (number d.layout (places.Count d.place)); asks = refl; waits = refl }, refl)
comes_begun shape d base Weak e = (e, refl)

pub drops_go_on : DropsGoOn
drops_go_on shape d asked last base now came stands takes = go d.at stands takes
  where
    go : (at : At) → DropUpTo d asked base now at → drop_takes_at last at → DropGoesOn shape d (drop_at (record d { at = drops.Ended; event = None }) last at) asked last base now
    go drops.Start stands takes = begun shape d asked last base now d.kind refl stands
    go (drops.Counting p) stands takes = counted shape d asked last base now p (down_turned p last) came stands.0 stands.1 (down_same p last) (down_answer p last) (down_says p last takes)
    go (drops.InEntry p) stands takes = entry_counted shape d asked last base now (entry_down_turned p last) stands.0 stands.1 (entry_down_answer p last)
    go (drops.Ending p) stands takes =
        let e = slot_ends_go_on p last (Did (Drop d.hand true) ∷ base) now stands.2 takes in
        ended shape d asked last base now stands.0 (slot_end_turn p last).after (e.slot ∙ stands.1) e.hands (slot_end_turn p last).says e.comes
    go drops.Returning stands takes = record {
      found = Did (Back d.place) ∷ now;
      same = record { layout = refl; hand = refl; kind = refl; place = refl };
      hands = refl;
      finds = nothing;
      comes = rw (stands.0, stands.1) last_weak;
    }
    go drops.Ended stands takes = absurd stands
