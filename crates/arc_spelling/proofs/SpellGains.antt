-- A gain with the newest note first is one from left to right.
use Rattle.std.proofs.Common.{◌≡◌, ℕ, true, List, [], ◌∷◌, ◌++◌, refl, sym, ap, ◌∙◌, append_assoc}
use Rattle.arc_model.specs.declared.event.Act.{Act}
use Rattle.arc_model.specs.declared.event.Act.TheVariants.{Claim, NoEntry, Side, Back}
use Rattle.arc_model.specs.declared.shape.Kind.{Kind}
use Rattle.arc_spelling.specs.Spelling.{Note, is_fact}
use Rattle.arc_spelling.specs.Spelling.Note.{Did, NeedsEntry}
use Rattle.arc_spelling.specs.SpellingGains.{Spare, IsReady, IsSettled, IsGain, IsRefused}
use Rattle.arc_spelling.specs.SpellingGains.Spare.{Unclaimed, Claimed, Published}
use Rattle.arc_spelling.specs.SpellingGains.IsReady.{start, noted as done_noted, claimed, published}
use Rattle.arc_spelling.specs.SpellingGains.IsSettled.{unclaimed, published as stays_published, given_back}
use Rattle.arc_spelling.specs.SpellingGains.IsRefused.{no_entry}
use Rattle.arc_spelling.specs.SpellingInOrder.{GainOf, ClaimedGainOf, PublishedGainOf, RefusalOf, ReadsInOrder, Between, onto, decided}
use Rattle.arc_spelling.specs.SpellingInOrder.GainOf.{noted as gain_noted, claim, alone}
use Rattle.arc_spelling.specs.SpellingInOrder.ClaimedGainOf.{noted as claimed_noted, side, back}
use Rattle.arc_spelling.specs.SpellingInOrder.PublishedGainOf.{noted as published_noted, decides}
use Rattle.arc_spelling.specs.SpellingInOrder.RefusalOf.{noted as refusal_noted, no_entry as refusal_no_entry}
use Rattle.arc_spelling.proofs.SpellOrder.{onto-append, reads-end, drops_read, cascades_read}

onto-rest : (xs ys b : List Note) → onto xs (ys ++ b) ≡ onto xs ys ++ b
onto-rest [] ys b = refl
onto-rest (x ∷ xs) ys b = onto-rest xs (x ∷ ys) b

-- the rest of a gain, by what became of its spare entry
abbrev RestFor : Spare → ℕ → Kind → Kind → Act → List Note → List Note → Type 0
RestFor Unclaimed slot list source act read rest = GainOf source slot list act read rest
RestFor (Claimed entry) slot list source act read rest = ClaimedGainOf slot list act read entry rest
RestFor Published slot list source act read rest = PublishedGainOf act read rest

note_first : (spare : Spare) (slot : ℕ) (list source : Kind) (act : Act) (read : List Note) (n : Note) (rest : List Note) →
    is_fact n ≡ true → RestFor spare slot list source act read rest → RestFor spare slot list source act read (n ∷ rest)
note_first Unclaimed slot list source act read n rest e r = gain_noted e r
note_first (Claimed entry) slot list source act read n rest e r = claimed_noted e r
note_first Published slot list source act read n rest e r = published_noted e r

-- what was done of a gain, such that each rest completes it
record ReadyBetween (source : Kind) (slot : ℕ) (list : Kind) (act : Act) (read : List Note) (spare : Spare) (before after : List Note) : Type 0 where
  notes : List Note
  after_is : after ≡ onto notes before
  completes : (rest : List Note) → RestFor spare slot list source act read rest → GainOf source slot list act read (notes ++ rest)

goes_on : {source list : Kind} {slot : ℕ} {act : Act} {read : List Note} {spare later : Spare} {b ns after : List Note} (added : List Note) →
    ReadyBetween source slot list act read spare b ns → after ≡ onto added ns →
    ((rest : List Note) → RestFor later slot list source act read rest → RestFor spare slot list source act read (added ++ rest)) →
    ReadyBetween source slot list act read later b after
goes_on {b = b} added h e put =
    record {
      notes = h.notes ++ added;
      after_is = e ∙ ap (onto added) h.after_is ∙ sym (onto-append h.notes added b);
      completes = λ rest r. rw append_assoc (h.completes (added ++ rest) (put rest r));
    }

reads-ready : (source : Kind) (slot : ℕ) (list : Kind) (act : Act) (read : List Note) {spare : Spare} {b ns : List Note} →
    IsReady source slot list spare b ns → ReadyBetween source slot list act read spare b ns
reads-ready source slot list act read start = record { notes = []; after_is = refl; completes = λ rest r. r }
reads-ready source slot list act read (done_noted {spare = spare} {n = n} r e) =
    goes_on (n ∷ []) (reads-ready source slot list act read r) refl (λ rest x. note_first spare slot list source act read n rest e x)
reads-ready source slot list act read (claimed {entry = entry} r e) =
    goes_on (NeedsEntry slot list ∷ Did (Claim entry) ∷ []) (reads-ready source slot list act read r) refl (λ rest x. claim e x)
reads-ready source slot list act read (published {entry = entry} r) =
    goes_on (Did (Side slot entry list) ∷ []) (reads-ready source slot list act read r) refl (λ rest x. side x)

-- the deciding event and what is read behind it, on top of what was done
decided-onto : (notes read tail b : List Note) (act : Act) → onto tail (onto read [] ++ Did act ∷ onto notes b) ≡ onto (notes ++ decided act read tail) b
decided-onto notes read tail b act =
    ap (onto tail) (sym (onto-rest read [] (Did act ∷ onto notes b))) ∙ sym (onto-append read tail (Did act ∷ onto notes b)) ∙ sym (onto-append notes (decided act read tail) b)

settles : (source : Kind) (slot : ℕ) (list : Kind) (act : Act) (read : List Note) {spare : Spare} {b ready ns after : List Note} →
    ReadyBetween source slot list act read spare b ready → ns ≡ onto read [] ++ Did act ∷ ready → IsSettled spare ns after → Between (GainOf source slot list act read) b after
settles source slot list act read {b = b} h e unclaimed =
    (h.notes ++ decided act read [], e ∙ ap (λ x. onto read [] ++ Did act ∷ x) h.after_is ∙ decided-onto h.notes read [] b act, h.completes (decided act read []) (alone refl))
settles source slot list act read {b = b} h e stays_published =
    (h.notes ++ decided act read [], e ∙ ap (λ x. onto read [] ++ Did act ∷ x) h.after_is ∙ decided-onto h.notes read [] b act, h.completes (decided act read []) (decides refl))
settles source slot list act read {b = b} h e (given_back {entry = entry}) =
    let tail : List Note = Did (Back entry) ∷ [] in
    (h.notes ++ decided act read tail, ap (λ x. Did (Back entry) ∷ x) (e ∙ ap (λ x. onto read [] ++ Did act ∷ x) h.after_is) ∙ decided-onto h.notes read tail b act, h.completes (decided act read tail) (back refl))

gains_read : (source : Kind) (slot : ℕ) (list : Kind) (act : Act) (read before after : List Note) →
    IsGain source slot list act (onto read []) before after → Between (GainOf source slot list act read) before after
gains_read source slot list act read before after g = settles source slot list act read (reads-ready source slot list act read g.ready) refl g.settled

-- facts alone stand before a refusal
record FactsBetween (source : Kind) (slot : ℕ) (list : Kind) (spare : Spare) (before after : List Note) : Type 0 where
  notes : List Note
  after_is : after ≡ onto notes before
  completes : spare ≡ Unclaimed → (rest : List Note) → RefusalOf source slot list rest → RefusalOf source slot list (notes ++ rest)

reads-facts : (source : Kind) (slot : ℕ) (list : Kind) {spare : Spare} {b ns : List Note} → IsReady source slot list spare b ns → FactsBetween source slot list spare b ns
reads-facts source slot list start = record { notes = []; after_is = refl; completes = λ e rest r. r }
reads-facts source slot list {b = b} (done_noted {n = n} r e) =
    let h = reads-facts source slot list r in
    record { notes = h.notes ++ n ∷ []; after_is = ap (λ x. n ∷ x) h.after_is ∙ sym (onto-append h.notes (n ∷ []) b); completes = λ s rest x. rw append_assoc (h.completes s (n ∷ rest) (refusal_noted e x)) }
reads-facts source slot list {b = b} (claimed {entry = entry} r e) =
    let h = reads-facts source slot list r in
    let added : List Note = NeedsEntry slot list ∷ Did (Claim entry) ∷ [] in
    record { notes = h.notes ++ added; after_is = ap (onto added) h.after_is ∙ sym (onto-append h.notes added b); completes = λ s rest x. absurd cc }
reads-facts source slot list {b = b} (published {entry = entry} r) =
    let h = reads-facts source slot list r in
    let added : List Note = Did (Side slot entry list) ∷ [] in
    record { notes = h.notes ++ added; after_is = ap (onto added) h.after_is ∙ sym (onto-append h.notes added b); completes = λ s rest x. absurd cc }

refusals_read : (source : Kind) (slot : ℕ) (list : Kind) (before after : List Note) → IsRefused source slot list before after → Between (RefusalOf source slot list) before after
refusals_read source slot list before after (no_entry r e) =
    let h = reads-facts source slot list r in
    let added : List Note = NeedsEntry slot list ∷ Did NoEntry ∷ [] in
    (h.notes ++ added, ap (onto added) h.after_is ∙ sym (onto-append h.notes added before), h.completes refl added (refusal_no_entry e))

pub reads_in_order : ReadsInOrder
reads_in_order = record { drops = drops_read; cascades = cascades_read; ends = λ slot before after x. reads-end x; gains = gains_read; refusals = refusals_read }
