-- A replay that has come to its end is one legal history, and leaves no entry taken, and where strong fields lead one way no object but immortal ones.
use Rattle.std.proofs.Common.{◌≡◌, ◌⊎◌, inl, inr, ℕ, zero, suc, ◌+◌, ◌/◌, ◌≤◌, ◌<◌, true, false, cond, List, [], ◌∷◌, length, map, drop, Option, Some, None, refl, sym, ap, ◌∙◌, subst, arith}
use Rattle.std.specs.Prelude.{All, find, slice_get, slice_index, sum_by, is_some, ◌||◌}
use Rattle.std.specs.List.{AllByRecursion, list_any}
use Rattle.std.proofs.lemmas.Bool.{cases_lt}
use Rattle.std.proofs.lemmas.List.{length-map}
use Rattle.std.proofs.lemmas.List.Elements.{All-from_recursion}
use Rattle.std.proofs.lemmas.List.Sums.{sum_by-cons}
use Rattle.std.proofs.lemmas.Option.{slice_get_within}
use Rattle.arc_model.specs.declared.event.ObjectName.{ObjectName}
use Rattle.arc_model.specs.Shapes.{HeapShape, class_at}
use Rattle.arc_model.specs.References.{name_of}
use Rattle.arc_model.specs.Heaps.{Object}
use Rattle.arc_model.specs.Holders.{is_number, has_entry, at_slot, claims_it, is_slot_taken, is_entry_taken}
use Rattle.arc_model.specs.History.{History, heap_after}
use Rattle.arc_spelling.specs.SpellingTies.Causes.{Judged}
use Rattle.arc_model.proofs.Basics.{None≢Some, Some-inj}
use Rattle.arc_model.proofs.Courses.{well_formed}
use Rattle.arc_cells.specs.Chains.{Frame}
use Rattle.arc_rule.specs.Places.{extent_of, number}
use Rattle.arc_rule.specs.Bits.{words_of, is_set}
use Rattle.arc_rule.proofs.Bits.{bit_shown}
use Rattle.arc_rule.specs.Isa.{IsIsaWord, isa_word_of, isa_name_of}
use Rattle.arc_rule.specs.Shown.{Shows, ShowsCounts, ShowsName, IsInline}
use Rattle.arc_rule.specs.declared.layout.Place.TheVariants.{Count, Isa, SlotBits, EntryBits}
use Rattle.arc_script.specs.declared.answer.Line.{Line}
use Rattle.arc_script.specs.declared.script.Script.{Script}
use Rattle.arc_script.specs.Valid.{IsScript}
use Rattle.arc_script.proofs.OneList.{length_in_one}
use Rattle.arc_programs.specs.Programs.{Hands}
use Rattle.arc_programs.specs.ProgramsLines.{told}
use Rattle.arc_programs.specs.ProgramsTied.{HasProgram}
use Rattle.arc_quiet.specs.OneWay.{NoClassIsImmortal, StrongFieldsLeadOneWay, CellsKeepClasses, AllDead}
use Rattle.arc_quiet.specs.Quiet.{IsQuietHeap}
use Rattle.arc_quiet.specs.Whole.{AllFinish, StandsLast}
use Rattle.arc_quiet.proofs.Leaving.{cells_keep_classes, leaves_nothing, whole_is_quiet}
use Rattle.arc_programs_laws.specs.Deinits.{deinit_lines, emptied}
use Rattle.arc_programs_laws.specs.Phases.{PhaseEnds, PhasesFollow}
use Rattle.arc_programs_laws.specs.Room.{room}
use Rattle.arc_programs_laws.proofs.ClassesNamed.{lines_name_classes}
use Rattle.arc_programs_laws.proofs.Totals.{claims_end, deinit_lines_are_emptied, every_line_finds_room}
use Rattle.arc_ops.specs.declared.told.Stamped.{Stamped}
use Rattle.arc_ops.specs.declared.told.ThreadLines.{ThreadLines}
use Rattle.arc_served.specs.Programs.{phases_of, new_count, room_in}
use Rattle.arc_served.specs.Served.{IsServed}
use Rattle.arc_ops.specs.Thread.{Thread}
use Rattle.arc_spelled.specs.Spelled.{work_of}
use Rattle.arc_view.specs.Rule.{InShape}
use Rattle.arc_view.proofs.Put.{is_number_some}
use Rattle.arc_view_laws.proofs.Names.{is_name, name_back, is_isa}
use Rattle.arc_replays.specs.Histories.{history_of, lines_from, first_lines, deinits_printed, IsHistory}
use Rattle.arc_replays.specs.Laws.{ReplaysAreHistories, IsWholeReplay}
use Rattle.arc_replays.specs.Left.{isa_of, IsImmortalSlot, IsBareSlot, ImmortalsHaveNoFields, OnlyImmortals}
use Rattle.arc_replays.specs.Named.{LineFits, ActFits, EventsFit}
use Rattle.arc_replays.specs.Replaying.{IsSpelledInLog, IsOneHistory}
use Rattle.arc_replays.specs.Stages.{Stage, IsRun, is_phase_end, chains_at}
use Rattle.arc_replays.proofs.Bare.{came_in, IsBareHeap, AreBare, bare_at, bare_after}
use Rattle.arc_replays.proofs.GoesOn.{there_is, replays_are_one_history, ended_threads_spell}
use Rattle.arc_replays.proofs.Words.{below_inline, bare_word}
use Rattle.arc_replays.proofs.Holds.{Holds, is_sized, few_came, few_unowned_came, reached_holds}
use Rattle.arc_replays.proofs.Left.{slotted_immortal, found_there}
use Rattle.arc_replays.proofs.Phases.{IsPoint, IsPhased, reached_phased}
use Rattle.arc_replays.proofs.Promises.{deinits_once, loads_come_before, slots_are_vacated, entries_are_given_back}

-- ---- lines

first_is : (ts : List Thread) (t : Thread) → slice_get ts 0 ≡ Some t → first_lines ts ≡ t.kept.lines
first_is [] t at = absurd (None≢Some t at)
first_is (x ∷ ts) t at = ap (λ (u : Thread). u.kept.lines) (Some-inj at)

behind_first : (ts : List Thread) (i : ℕ) (t : Thread) → slice_get (drop 1 ts) i ≡ Some t → slice_get ts (suc i) ≡ Some t
behind_first [] i t at = absurd (None≢Some t at)
behind_first (x ∷ ts) i t at = at

lines_long : (p : ℕ) (ts : List Thread) → length (lines_from p ts) ≡ length ts
lines_long p [] = refl
lines_long p (t ∷ ts) = ap suc (lines_long (p + 1) ts)

drop_long : (ts : List Thread) (n : ℕ) → length ts ≡ n + 1 → length (drop 1 ts) ≡ n
drop_long [] n e = omega arith
drop_long (t ∷ ts) n e = omega arith

lines_at : (p : ℕ) (ts : List Thread) (i : ℕ) (x : ThreadLines) → slice_get (lines_from p ts) i ≡ Some x → (t : Thread) × (slice_get ts i ≡ Some t) × (x.thread ≡ p + i) × (x.lines ≡ t.kept.lines)
lines_at p [] i x at = absurd (None≢Some x at)
lines_at p (t ∷ ts) zero x at = (t, refl, ap (λ (y : ThreadLines). y.thread) (sym (Some-inj at)) ∙ omega arith, ap (λ (y : ThreadLines). y.lines) (sym (Some-inj at)))
lines_at p (t ∷ ts) (suc i) x at = let y = lines_at (p + 1) ts i x at in (y.0, y.1, y.2 ∙ omega arith, y.3)

map_at : (xs : List ThreadLines) (i : ℕ) (lines : List Line) → slice_get (map (λ (x : ThreadLines). x.lines) xs) i ≡ Some lines → (x : ThreadLines) × (slice_get xs i ≡ Some x) × (x.lines ≡ lines)
map_at [] i lines at = absurd (None≢Some lines at)
map_at (x ∷ xs) zero lines at = (x, refl, Some-inj at)
map_at (x ∷ xs) (suc i) lines at = map_at xs i lines at

sum_of_lines : (xs : List ThreadLines) → sum_by deinit_lines (map (λ (x : ThreadLines). x.lines) xs) ≡ sum_by (λ (x : ThreadLines). deinit_lines x.lines) xs
sum_of_lines [] = refl
sum_of_lines (x ∷ xs) = sum_by-cons deinit_lines x.lines (map (λ (y : ThreadLines). y.lines) xs) ∙ (ap (λ n. deinit_lines x.lines + n) (sum_of_lines xs) ∙ sym (sum_by-cons (λ (y : ThreadLines). deinit_lines y.lines) x xs))

all_at : (P : ThreadLines → Type 0) (xs : List ThreadLines) → ((i : ℕ) (x : ThreadLines) → slice_get xs i ≡ Some x → P x) → AllByRecursion P xs
all_at P [] each = tt
all_at P (x ∷ xs) each = (each zero x refl, all_at P xs (λ i y at. each (suc i) y at))

-- ---- what is left

no_entry : (n e : ℕ) (os : List Object) → AreBare n os → find (has_entry e) os ≡ None
no_entry n e [] b = refl
no_entry n e (o ∷ os) b = ap (λ (m : Option ℕ). cond (is_number m e) (Some o) (find (has_entry e) os)) b.0.entry ∙ no_entry n e os b.1

-- ---- events

stamped_fit : (shape : HeapShape) (events : List Stamped) → EventsFit shape (history_of events) → AllByRecursion (λ (x : Stamped). ActFits shape x.event.act) events
stamped_fit shape [] fits = tt
stamped_fit shape (e ∷ events) fits = (fits.0, stamped_fit shape events fits.1)

-- ---- the whole

module _ (script : Script) (s : Stage) (valid : IsScript script) (served : IsServed script) (run : IsRun script s) where
  nothing : Hands
  nothing k = None

  abbrev log : History
  log = history_of s.events

  abbrev chains : ℕ → List Frame
  chains = chains_at run.reached

  holds : Holds script nothing chains s
  holds = reached_holds script nothing valid served 0 s run.reached

  one : IsOneHistory script.shape (λ p. work_of script p nothing) chains s.threads s.words log
  one = replays_are_one_history script.shape (λ p. work_of script p nothing) chains s.threads s.words log holds.replaying

  spelled : (p : ℕ) (t : Thread) → slice_get s.threads p ≡ Some t → IsSpelledInLog script p t log
  spelled p t at =
      ended_threads_spell script nothing chains s.threads s.words log p t valid served (let lt = slice_get_within s.threads p t at in let long = holds.as_many in omega arith) holds.replaying at (run.ended p t at)

  -- ---- each thread's program

  program : (p : ℕ) (t : Thread) (at : slice_get s.threads p ≡ Some t) → HasProgram Judged script p (told (spelled p t at).notes) log
  program p t at = record { notes = (spelled p t at).notes; tied = (spelled p t at).tied; spelled = (spelled p t at).spelled.spelled; lines_are = refl }

  finish : AllFinish Judged script log
  finish p le = let t = there_is s.threads p (let long = holds.as_many in omega arith) in (told (spelled p t.0 t.1).notes, program p t.0 t.1)

  room_is : (p : ℕ) → room script p ≡ room_in script p
  room_is p = ap (λ n. n + new_count script) (sym (length_in_one 0 (phases_of script p)))

  all_lines : (p : ℕ) (t : Thread) (at : slice_get s.threads p ≡ Some t) → t.kept.lines ≡ told (spelled p t at).notes
  all_lines p t at =
      let le : p ≤ length script.threads = let lt = slice_get_within s.threads p t at in let long = holds.as_many in omega arith in
      let few = every_line_finds_room Judged script log p (told (spelled p t at).notes) valid one.legal finish holds.no_other le (program p t at) in
      (spelled p t at).spelled.all_lines (subst (λ n. length (told (spelled p t at).notes) ≤ n) (room_is p) few)

  its_program : (p : ℕ) (t : Thread) (at : slice_get s.threads p ≡ Some t) → HasProgram Judged script p t.kept.lines log
  its_program p t at = record { notes = (spelled p t at).notes; tied = (spelled p t at).tied; spelled = (spelled p t at).spelled.spelled; lines_are = sym (all_lines p t at) }

  main : (t : Thread) × (slice_get s.threads 0 ≡ Some t)
  main = there_is s.threads 0 (let long = holds.as_many in omega arith)

  abbrev threads : List ThreadLines
  threads = lines_from 1 (drop 1 s.threads)

  each_spelled : (i : ℕ) (x : ThreadLines) → slice_get threads i ≡ Some x → (x.thread ≡ i + 1) × HasProgram Judged script (i + 1) x.lines log
  each_spelled i x at =
      let y = lines_at 1 (drop 1 s.threads) i x at in
      let there : slice_get s.threads (i + 1) ≡ Some y.0 = ap (slice_get s.threads) (omega arith) ∙ behind_first s.threads i y.0 y.1 in
      (y.2 ∙ omega arith, subst (λ (lines : List Line). HasProgram Judged script (i + 1) lines log) (sym y.3) (its_program (i + 1) y.0 there))

  end_spelled : HasProgram Judged script 0 (first_lines s.threads) log
  end_spelled = subst (λ (lines : List Line). HasProgram Judged script 0 lines log) (sym (first_is s.threads main.0 main.1)) (its_program 0 main.0 main.1)

  as_many : length threads ≡ length script.threads
  as_many = lines_long 1 (drop 1 s.threads) ∙ drop_long s.threads (length script.threads) holds.as_many

  deinits : deinits_printed threads (first_lines s.threads) ≡ emptied log
  deinits =
      ap (λ n. n + deinit_lines (first_lines s.threads)) (sym (sum_of_lines threads))
      ∙ deinit_lines_are_emptied Judged script log (map (λ (x : ThreadLines). x.lines) threads) (first_lines s.threads) valid one.legal (length-map threads (λ (x : ThreadLines). x.lines) ∙ as_many)
      (λ i lines at. let x = map_at threads i lines at in subst (λ (l : List Line). HasProgram Judged script (i + 1) l log) x.2 (each_spelled i x.0 x.1).1) end_spelled holds.no_other

  -- ---- thread 0, and phases

  phased : IsPhased script s
  phased = reached_phased script nothing valid served 0 s run.reached

  stands_last : StandsLast 0 log
  stands_last = phased.last

  phases : PhasesFollow script log
  phases k = of_point (at (cases_lt k s.begun))
    where
      at : (k < s.begun) ⊎ (s.begun ≤ k) → IsPoint script k log
      at (inl lt) = phased.points k lt
      at (inr ge) = (phased.begun_last main.0 main.1 (ap is_phase_end (run.ended 0 main.0 main.1))).points k ge

      of_point : IsPoint script k log → PhaseEnds script k log
      of_point x = record { later = x.later; earlier = x.earlier; split = x.split; done = x.done; none_of_main = x.none_of_main }

  -- ---- what is left

  shows : Shows script.shape (heap_after log) s.words
  shows = one.shows run.ended

  all_dead : NoClassIsImmortal script.shape → StrongFieldsLeadOneWay script.shape → AllDead script.shape (heap_after log)
  all_dead mortal ways = leaves_nothing Judged script log valid mortal ways one.legal finish stands_last holds.no_other

  bare : IsBareHeap (came_in log) (heap_after log)
  bare = bare_after script.shape log holds.events_fit

  quiet : IsQuietHeap (heap_after log)
  quiet = whole_is_quiet Judged script log valid one.legal finish stands_last holds.no_other

  word_in : (s k : ℕ) → s < k → s / 64 < words_of k
  word_in s k lt = omega (arith, lt)

  within : InShape script.shape log
  within = subst (InShape script.shape) holds.replaying.log_is holds.replaying.kept.in_shape

  classes : CellsKeepClasses script.shape (heap_after log)
  classes = cells_keep_classes Judged script log valid one.legal finish holds.no_other

  -- what the words of a slot show of its object
  record IsShown (k i : ℕ) (o : Object) : Type 0 where
    here : slice_get (heap_after log).objects i ≡ Some o
    slot : o.slot ≡ Some k
    counts : ShowsCounts script.shape (Some o) (slice_index s.words (number (extent_of script.shape) (Count k)))
    named : IsIsaWord (isa_of script.shape s.words k)
    name_is : isa_name_of (isa_of script.shape s.words k) ≡ name_of o
    class_there : (isa_name_of (isa_of script.shape s.words k)).class < length script.shape.classes

  shown : (k : ℕ) → k < script.shape.slots → is_slot_taken k (heap_after log) ≡ true → (i : ℕ) × (o : Object) × IsShown k i o
  shown k lt taken = go (at_slot k (heap_after log)) refl taken
    where
      go : (m : Option Object) → at_slot k (heap_after log) ≡ m → is_some m ≡ true → (i : ℕ) × (o : Object) × IsShown k i o
      go None e none = absurd cc
      go (Some o) e some =
          let there = found_there k (heap_after log).objects o e in
          let fits = is_name script.shape log there.0 o (is_sized script valid) within there.1 in
          let isa : isa_of script.shape s.words k ≡ isa_word_of (name_of o) = subst (λ (m : Option Object). ShowsName m (isa_of script.shape s.words k)) e (shows.says (Isa k) lt (λ x. x)) in
          let same : isa_name_of (isa_of script.shape s.words k) ≡ name_of o = ap isa_name_of isa ∙ sym (name_back (name_of o) fits) in (
            there.0,
            o,
            record {
              here = there.1;
              slot = is_number_some o.slot k there.2;
              counts = subst (λ (m : Option Object). ShowsCounts script.shape m (slice_index s.words (number (extent_of script.shape) (Count k)))) e (shows.says (Count k) lt (λ x. x));
              named = subst IsIsaWord (sym isa) (is_isa (name_of o) fits);
              name_is = same;
              class_there = subst (λ (n : ObjectName). n.class < length script.shape.classes) (sym same) (within.classes there.0 o there.1).0;
            },
          )

  -- a slot whose bit is set is taken
  set_taken : (k : ℕ) → k < script.shape.slots → is_set k (slice_index s.words (number (extent_of script.shape) (SlotBits (k / 64)))) ≡ true → is_slot_taken k (heap_after log) ≡ true
  set_taken k lt set =
      let bits = shows.says (SlotBits (k / 64)) (word_in k script.shape.slots lt) (λ x. x) in
      sym (bit_shown script.shape.slots (k / 64) (λ x. is_slot_taken x (heap_after log)) (slice_index s.words (number (extent_of script.shape) (SlotBits (k / 64)))) bits k refl lt) ∙ set

  -- its counts lie in the inline word
  bare_slot : (k : ℕ) → k < script.shape.slots → is_set k (slice_index s.words (number (extent_of script.shape) (SlotBits (k / 64)))) ≡ true → IsBareSlot script.shape s.words k
  bare_slot k lt set =
      let x = shown k lt (set_taken k lt set) in record {
        named = x.2.named;
        class_there = x.2.class_there;
        inline = below_inline script.shape.caps _
            (bare_word script.shape (came_in log) (slice_index s.words (number (extent_of script.shape) (Count k))) x.1 (is_sized script valid) ((well_formed script.shape log one.legal).whole x.0 x.1 x.2.here) (bare_at (came_in log) (heap_after log).objects x.0 x.1 bare.objects x.2.here)
            (few_came script nothing valid served chains s holds) (few_unowned_came script nothing valid served chains s holds) x.2.counts);
      }

  no_entry_taken : (e : ℕ) → is_entry_taken e (heap_after log) ≡ false
  no_entry_taken e =
      (λ j. list_any (claims_it e) (bare.claims j) || is_some (no_entry (came_in log) e (heap_after log).objects bare.objects j))

  no_entry_set : (e : ℕ) → e < script.shape.entries → is_set e (slice_index s.words (number (extent_of script.shape) (EntryBits (e / 64)))) ≡ false
  no_entry_set e lt =
      let bits = shows.says (EntryBits (e / 64)) (word_in e script.shape.entries lt) (λ x. x) in
      bit_shown script.shape.entries (e / 64) (λ x. is_entry_taken x (heap_after log)) (slice_index s.words (number (extent_of script.shape) (EntryBits (e / 64)))) bits e refl lt ∙ no_entry_taken e

  -- where strong fields lead one way and immortal objects have none, an object in a slot is immortal, as its words say
  left : ImmortalsHaveNoFields script.shape → StrongFieldsLeadOneWay script.shape → OnlyImmortals script.shape s.words
  left none ways = record { whole = shows.whole; slots = slot_is; entries = no_entry_set }
    where
      slot_is : (k : ℕ) → k < script.shape.slots → is_set k (slice_index s.words (number (extent_of script.shape) (SlotBits (k / 64)))) ≡ true → IsImmortalSlot script.shape s.words k
      slot_is k lt set =
          let x = shown k lt (set_taken k lt set) in
          let immortal = slotted_immortal script.shape log one.legal none ways classes quiet x.0 k x.1 x.2.here x.2.slot in record {
            count = subst (λ b. IsInline b script.shape x.1 (slice_index s.words (number (extent_of script.shape) (Count k)))) immortal x.2.counts;
            named = x.2.named;
            class_there = x.2.class_there;
            immortal = subst (λ (n : ObjectName). (class_at script.shape n.class).immortal ≡ true) (sym x.2.name_is) immortal;
          }

  history : IsHistory script threads (first_lines s.threads) log s.words
  history = record {
    legal = one.legal;
    in_shape = within;
    spelled = record { each = as_many; spelled = each_spelled };
    end_spelled = end_spelled;
    no_other = holds.no_other;
    phases = phases;
    last = stands_last;
    shows = shows;
    once = deinits_once script.shape log one.legal;
    loads = loads_come_before script.shape log one.legal;
    slots = slots_are_vacated script.shape log one.legal;
    entries = entries_are_given_back script.shape log one.legal;
    deinits = deinits;
    no_claim = claims_end Judged script log valid one.legal finish holds.no_other;
    leaves = all_dead;
  }

  fit : (p : ℕ) (lines : List Line) → HasProgram Judged script p lines log → All (LineFits (length script.shape.classes)) lines
  fit p lines x = lines_name_classes Judged script log p lines valid finish holds.no_other x

  pub whole : IsWholeReplay script s
  whole = record {
    history = history;
    no_entries = record { whole = shows.whole; slots = bare_slot; entries = no_entry_set };
    left = left;
    lines_fit = All-from_recursion (λ (x : ThreadLines). All (LineFits (length script.shape.classes)) x.lines) threads (all_at (λ (x : ThreadLines). All (LineFits (length script.shape.classes)) x.lines) threads (λ i x at. fit (i + 1) x.lines (each_spelled i x at).1));
    end_fits = fit 0 (first_lines s.threads) end_spelled;
    events_fit = All-from_recursion (λ (x : Stamped). ActFits script.shape x.event.act) s.events (stamped_fit script.shape s.events holds.events_fit);
  }

pub replays_are_histories : ReplaysAreHistories
replays_are_histories script s valid served run = whole script s valid served run
