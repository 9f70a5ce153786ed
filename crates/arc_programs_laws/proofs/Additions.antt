-- What a drop or a gain adds to a thread's notes: each deinit that is told ends, its name was just read, and no object is made.
use Rattle.std.proofs.Common.{◌≡◌, ℕ, ◌+◌, ◌<◌, Bool, true, false, List, [], ◌∷◌, ◌++◌, length, Option, refl, ap, ◌∙◌, arith}
use Rattle.std.specs.Prelude.{⊤}
use Rattle.std.specs.List.{AllByRecursion, list_all}
use Rattle.std.proofs.lemmas.Bool.{and_parts}
use Rattle.arc_model.specs.declared.answer.Answer.TheVariants as answers
use Rattle.arc_model.specs.declared.event.ObjectName.{ObjectName}
use Rattle.arc_model.specs.declared.event.Act.{Act}
use Rattle.arc_model.specs.declared.event.Act.TheVariants as acts
use Rattle.arc_model.specs.declared.shape.Kind.{Kind}
use Rattle.arc_model.specs.Shapes.{HeapShape}
use Rattle.arc_spelling.specs.Spelling.{Note, is_fact, one_more_if, acts_of, deinits_of, FieldsDone, IsEnd, IsDrop, IsCascade}
use Rattle.arc_spelling.specs.Spelling.Note.{Did, Line as Says, Operation, Name, Entry, NeedsEntry, Nil, Refers}
use Rattle.arc_spelling.specs.Spelling.IsEnd.{inline, gone_more, gone_last}
use Rattle.arc_spelling.specs.Spelling.FieldsDone.{named, noted, nil, taken}
use Rattle.arc_spelling.specs.Spelling.IsDrop.{more, last_strong, last_unowned, last_weak}
use Rattle.arc_spelling.specs.Spelling.IsCascade.{finish_more, finish_last}
use Rattle.arc_spelling.specs.SpellingGains.{Spare, IsReady, IsSettled, IsGain, IsRefused}
use Rattle.arc_spelling.specs.SpellingGains.IsReady.{start, noted as ready_noted, claimed, published}
use Rattle.arc_spelling.specs.SpellingGains.IsSettled.{unclaimed, published as stays_published, given_back}
use Rattle.arc_spelling.specs.SpellingGains.IsRefused.{no_entry}
use Rattle.arc_model.proofs.Tally.{no}
use Rattle.arc_programs.specs.Variables.{Held}
use Rattle.arc_programs.specs.Programs.{makes, made_of, IsDropped}
use Rattle.arc_programs.specs.Programs.IsDropped.{nothing, dropped}
use Rattle.arc_programs.specs.ProgramsLines.{lines_of}
use Rattle.arc_programs_laws.specs.Names.{LineFits, ClassFits}
use Rattle.arc_programs_laws.proofs.ObjectsCounted.{is_finish, finishes_of}

-- ---- what is added

-- facts, events that make no object, operations that begin, and deinit lines with a name that was just read
pub data Adds : (before after : List Note) → Type 0 where
  none : {b : List Note} → Adds b b
  fact : {n : Note} {b ns : List Note} → Adds b ns → is_fact n ≡ true → Adds b (n ∷ ns)
  did : {a : Act} {b ns : List Note} → Adds b ns → makes a ≡ false → Adds b (Did a ∷ ns)
  begun : {n : ℕ} {b ns : List Note} → Adds b ns → Adds b (Operation n ∷ ns)
  told : {slot : ℕ} {name : ObjectName} {b ns : List Note} → Adds b ns → Adds b (Says (answers.Deinit name) ∷ Name slot name ∷ ns)

adds-both : {b ns after : List Note} → Adds b ns → Adds ns after → Adds b after
adds-both a none = a
adds-both a (fact c e) = fact (adds-both a c) e
adds-both a (did c e) = did (adds-both a c) e
adds-both a (begun c) = begun (adds-both a c)
adds-both a (told c) = told (adds-both a c)

-- ---- what it leaves

-- the events of the notes make objects of so many classes
abbrev pub ActsFit : ℕ → List Note → Type 0
ActsFit m ns = AllByRecursion (ClassFits m) (acts_of ns)

-- the objects whose names are read are of so many classes
abbrev pub NamesFit : ℕ → List Note → Type 0
NamesFit m [] = ⊤
NamesFit m (Name slot name ∷ ns) = (name.class < m) × NamesFit m ns
NamesFit m (_ ∷ ns) = NamesFit m ns

-- the lines of the notes name objects of so many classes
abbrev pub LinesFit : ℕ → List Note → Type 0
LinesFit m ns = AllByRecursion (LineFits m) (lines_of ns)

-- where the names that are read fit, so do those of the lines that were added
abbrev pub NamesLines : ℕ → List Note → List Note → Type 0
NamesLines m before after = NamesFit m after → NamesFit m before × (LinesFit m before → LinesFit m after)

fact-made : (n : Note) (ns : List Note) → is_fact n ≡ true → made_of (n ∷ ns) ≡ made_of ns
fact-made (Did a) ns e = no e
fact-made (Says a) ns e = no e
fact-made (Operation k) ns e = no e
fact-made (Name s name) ns e = refl
fact-made (Entry s o) ns e = refl
fact-made (NeedsEntry s l) ns e = refl
fact-made (Nil c) ns e = refl
fact-made (Refers c kind place) ns e = refl

fact-acts : (m : ℕ) (n : Note) (ns : List Note) → is_fact n ≡ true → ActsFit m ns → ActsFit m (n ∷ ns)
fact-acts m (Did a) ns e f = no e
fact-acts m (Says a) ns e f = no e
fact-acts m (Operation k) ns e f = no e
fact-acts m (Name s name) ns e f = f
fact-acts m (Entry s o) ns e f = f
fact-acts m (NeedsEntry s l) ns e f = f
fact-acts m (Nil c) ns e f = f
fact-acts m (Refers c kind place) ns e f = f

fact-names : (m : ℕ) (n : Note) (ns : List Note) → is_fact n ≡ true → NamesLines m ns (n ∷ ns)
fact-names m (Did a) ns e f = no e
fact-names m (Says a) ns e f = no e
fact-names m (Operation k) ns e f = no e
fact-names m (Name s name) ns e f = (f.1, λ l. l)
fact-names m (Entry s o) ns e f = (f, λ l. l)
fact-names m (NeedsEntry s l) ns e f = (f, λ l. l)
fact-names m (Nil c) ns e f = (f, λ l. l)
fact-names m (Refers c kind place) ns e f = (f, λ l. l)

none-made : (m : ℕ) (a : Act) → makes a ≡ false → ClassFits m a
none-made m (acts.New k c s) e = no (sym-of e)
  where
    sym-of : true ≡ false → false ≡ true
    sym-of e = cc
none-made m _ e = tt

pub adds-made : {b after : List Note} → Adds b after → made_of after ≡ made_of b
adds-made none = refl
adds-made (fact {n = n} {ns = ns} a e) = fact-made n ns e ∙ adds-made a
adds-made (did {ns = ns} a e) = ap (λ c. one_more_if c (made_of ns)) e ∙ adds-made a
adds-made (begun a) = adds-made a
adds-made (told a) = adds-made a

pub adds-acts : {b after : List Note} (m : ℕ) → Adds b after → ActsFit m b → ActsFit m after
adds-acts m none f = f
adds-acts m (fact {n = n} {ns = ns} a e) f = fact-acts m n ns e (adds-acts m a f)
adds-acts m (did {a = act} a e) f = (none-made m act e, adds-acts m a f)
adds-acts m (begun a) f = adds-acts m a f
adds-acts m (told a) f = adds-acts m a f

pub adds-names : {b after : List Note} (m : ℕ) → Adds b after → NamesLines m b after
adds-names m none f = (f, λ l. l)
adds-names m (fact {n = n} {ns = ns} a e) f =
    let g = fact-names m n ns e f in
    let h = adds-names m a g.0 in (h.0, λ l. g.1 (h.1 l))
adds-names m (did a e) f = adds-names m a f
adds-names m (begun a) f = adds-names m a f
adds-names m (told a) f = let h = adds-names m a f.1 in (h.0, λ l. (f.0, h.1 l))

-- ---- drops

-- so many more deinits were told than ended
pub record Tells (unended : ℕ) (before after : List Note) : Type 0 where
  pub ends : length (deinits_of after) + finishes_of before ≡ length (deinits_of before) + finishes_of after + unended
  pub adds : Adds before after

fact-counts : (n : Note) (ns : List Note) → is_fact n ≡ true → (length (deinits_of (n ∷ ns)) ≡ length (deinits_of ns)) × (finishes_of (n ∷ ns) ≡ finishes_of ns)
fact-counts (Did a) ns e = no e
fact-counts (Says a) ns e = no e
fact-counts (Operation k) ns e = no e
fact-counts (Name s name) ns e = (refl, refl)
fact-counts (Entry s o) ns e = (refl, refl)
fact-counts (NeedsEntry s l) ns e = (refl, refl)
fact-counts (Nil c) ns e = (refl, refl)
fact-counts (Refers c kind place) ns e = (refl, refl)

then-fact : {d : ℕ} {b : List Note} (n : Note) (ns : List Note) → is_fact n ≡ true → Tells d b ns → Tells d b (n ∷ ns)
then-fact n ns e t = let c = fact-counts n ns e in let x = c.0 in let y = c.1 in let a = t.ends in record { ends = omega arith; adds = fact t.adds e }

then-did : {d : ℕ} {b ns : List Note} (act : Act) → is_finish act ≡ false → makes act ≡ false → Tells d b ns → Tells d b (Did act ∷ ns)
then-did {ns = ns} act f m t =
    let a : finishes_of (Did act ∷ ns) ≡ finishes_of ns = ap (λ c. one_more_if c (finishes_of ns)) f in
    let b = t.ends in
    record { ends = omega arith; adds = did t.adds m }

pub then-begun : {d : ℕ} {b ns : List Note} (n : ℕ) → Tells d b ns → Tells d b (Operation n ∷ ns)
then-begun n t = let a = t.ends in record { ends = omega arith; adds = begun t.adds }

pub same : {b : List Note} → Tells 0 b b
same = record { ends = omega arith; adds = none }

pub over : {d : ℕ} {b ns after : List Note} → Tells d b ns → Tells 0 ns after → Tells d b after
over t u = let a = t.ends in let b = u.ends in record { ends = omega arith; adds = adds-both t.adds u.adds }

end-tells : {slot : ℕ} {b ns : List Note} → IsEnd slot b ns → Tells 0 b ns
end-tells (inline {slot = slot} {b = b}) = then-did (acts.Vacate slot) refl refl (then-fact (Entry slot _) b refl same)
end-tells (gone_more {slot = slot} {entry = entry} {b = b}) = then-did (acts.Gone entry false) refl refl (then-did (acts.Vacate slot) refl refl (then-fact (Entry slot _) b refl same))
end-tells (gone_last {slot = slot} {entry = entry} {b = b}) =
    then-did (acts.Back entry) refl refl (then-did (acts.Gone entry true) refl refl (then-did (acts.Vacate slot) refl refl (then-fact (Entry slot _) b refl same)))

then-finish : {slot : ℕ} {last : Bool} {b ns : List Note} → Tells 1 b ns → Tells 0 b (Did (acts.Finish slot last) ∷ ns)
then-finish t = let a = t.ends in record { ends = omega arith; adds = did t.adds refl }

mutual
  -- the deinit was told, and hasn't ended
  fields-tell : {slot f : ℕ} {shape : HeapShape} {name : ObjectName} {b ns : List Note} → FieldsDone shape slot name f b ns → Tells 1 b ns
  fields-tell named = record { ends = omega arith; adds = told none }
  fields-tell (noted {n = n} {ns = ns} d e) = then-fact n ns e (fields-tell d)
  fields-tell (nil {ns = ns} d l e) = then-fact (Nil _) ns refl (fields-tell d)
  fields-tell (taken {slot = slot} {f = f} {k = k} {ns = ns} d l e is x) = over (then-did (acts.Take slot f k) refl refl (then-fact (Refers _ _ _) ns refl (fields-tell d))) (drop-tells x)

  pub drop-tells : {place k : ℕ} {shape : HeapShape} {kind : Kind} {b ns : List Note} → IsDrop shape kind place k b ns → Tells 0 b ns
  drop-tells (more {k = k}) = then-did (acts.Drop k false) refl refl same
  drop-tells (last_strong {k = k} c) = over (then-did (acts.Drop k true) refl refl same) (cascade-tells c)
  drop-tells (last_unowned {k = k} x) = over (then-did (acts.Drop k true) refl refl same) (end-tells x)
  drop-tells (last_weak {entry = entry} {k = k}) = then-did (acts.Back entry) refl refl (then-did (acts.Drop k true) refl refl same)

  cascade-tells : {slot : ℕ} {shape : HeapShape} {b ns : List Note} → IsCascade shape slot b ns → Tells 0 b ns
  cascade-tells (finish_more d e) = then-finish (fields-tell d)
  cascade-tells (finish_last d e x) = over (then-finish (fields-tell d)) (end-tells x)

pub dropped-tells : {shape : HeapShape} {last : Option Held} {b after : List Note} → IsDropped shape last b after → Tells 0 b after
dropped-tells nothing = same
dropped-tells (dropped d) = drop-tells d

-- ---- gains

ready-tells : {source : Kind} {slot : ℕ} {list : Kind} {spare : Spare} {b ns : List Note} → IsReady source slot list spare b ns → Tells 0 b ns
ready-tells start = same
ready-tells (ready_noted {n = n} {ns = ns} r e) = then-fact n ns e (ready-tells r)
ready-tells (claimed {entry = entry} {ns = ns} r e) = then-did (acts.Claim entry) refl refl (then-fact (NeedsEntry _ _) ns refl (ready-tells r))
ready-tells {slot = slot} {list = list} (published {entry = entry} r) = then-did (acts.Side slot entry list) refl refl (ready-tells r)

settled-tells : {spare : Spare} {b ns : List Note} → IsSettled spare b ns → Tells 0 b ns
settled-tells unclaimed = same
settled-tells stays_published = same
settled-tells (given_back {entry = entry}) = then-did (acts.Back entry) refl refl same

then-facts : {b : List Note} (read ns : List Note) → list_all is_fact read ≡ true → Tells 0 b ns → Tells 0 b (read ++ ns)
then-facts [] ns e t = t
then-facts (n ∷ read) ns e t = let a = and_parts (is_fact n) (list_all is_fact read) e in then-fact n (read ++ ns) a.0 (then-facts read ns a.1 t)

pub gain-tells : {source : Kind} {slot : ℕ} {list : Kind} {act : Act} {b ns : List Note} (read : List Note) → list_all is_fact read ≡ true → is_finish act ≡ false → makes act ≡ false →
    IsGain source slot list act read b ns → Tells 0 b ns
gain-tells {act = act} read e f m g = over (then-facts read (Did act ∷ g.decided) e (then-did act f m (ready-tells g.ready))) (settled-tells g.settled)

pub refused-tells : {source : Kind} {slot : ℕ} {list : Kind} {b ns : List Note} → IsRefused source slot list b ns → Tells 0 b ns
refused-tells (no_entry {ns = ns} r e) = then-did acts.NoEntry refl refl (then-fact (NeedsEntry _ _) ns refl (ready-tells r))

-- a name that a gain reads behind its event is among the notes
pub read-fits : {spare : Spare} {slot : ℕ} {name : ObjectName} {ns after : List Note} (m : ℕ) → IsSettled spare (Name slot name ∷ ns) after → NamesFit m after → name.class < m
read-fits m unclaimed f = f.0
read-fits m stays_published f = f.0
read-fits m given_back f = f.0
