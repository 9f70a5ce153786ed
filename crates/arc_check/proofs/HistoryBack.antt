-- The canonical text of a history is read as that history.
use Rattle.std.proofs.Common.{◌≡◌, ℕ, suc, ◌+◌, ◌-◌, ◌^◌, ◌<◌, ◌≤◌, Bool, true, false, eqb, List, [], ◌∷◌, ◌++◌, length, map, drop, Option, Some, None, Ok, refl, sym, ap, ◌∙◌, append_assoc, inl, inr, arith, lit<}
use Rattle.std.specs.Prelude.{codes, slice_index}
use Rattle.std.specs.List.{AllByRecursion}
use Rattle.std.specs.Fmt.{decimal}
use Rattle.std.proofs.lemmas.List.{map-append, length-map, length-append}
use Rattle.std.proofs.lemmas.Bool.{cases_eq}
use Rattle.std.proofs.lemmas.Fmt.{decimal_digit}
use Rattle.arc_text.specs.Words.{is_name}
use Rattle.arc_text.specs.Lines.{lines_of}
use Rattle.arc_model.specs.Shapes.{ObjectClass, HeapShape}
use Rattle.arc_model.specs.declared.shape.RefShape.{RefShape}
use Rattle.arc_script.specs.declared.script.ClassDecl.{ClassDecl}
use Rattle.arc_script.specs.declared.script.VarDecl.{VarDecl}
use Rattle.arc_script.specs.declared.keyword.Place.TheVariants as behind
use Rattle.arc_script.specs.Valid.{name_at, class_names, var_names, var_refs, OfSecond, AreFields, AreClasses, IsHeading}
use Rattle.arc_script.specs.Said.{Grouped, HeadSaid}
use Rattle.arc_script.specs.Group.{run_group}
use Rattle.arc_script.specs.Grammar.{nothing, shape_said}
use Rattle.arc_script.specs.HeadingText.{head_from}
use Rattle.arc_script.specs.Canonical.{numbers_line, class_line, decl_line, heading_lines}
use Rattle.arc_script_laws.proofs.Spelled.{word_from_test, body, lines_of_text, words_of_body, plain_body, number_back}
use Rattle.arc_script_laws.proofs.LinesSpelled.{IsLine, AreLines, lines_append, numbers_spelled, class_spelled, decl_spelled}
use Rattle.arc_script_laws.proofs.Written.{texts, run_step}
use Rattle.arc_check.specs.declared.line.EventLine.{EventLine}
use Rattle.arc_check.specs.declared.line.Opening.TheVariants as opening
use Rattle.arc_check.specs.declared.line.Told.TheVariants as told
use Rattle.arc_check.specs.Scopes.{Naming}
use Rattle.arc_check.specs.EventTexts.{version_begun, behind_start, opening_form, opening_line, opened_from, told_form, told_line, events_from, with_shape, told_behind, behind_heading, from_start, history_of}
use Rattle.arc_check.specs.WrittenHistory.{events_lines, later_lines, history_lines, written_history, numbered, first_line, EventFits}
use Rattle.arc_check.proofs.ActsBack.{event_spelled, event_back}
use Rattle.arc_check.proofs.HeadingBack.{ends_there, head_with, Stops, heading_back}

-- ---- single lines

starts_so : (version : ℕ) (lines : List (List ℕ)) → 1 ≤ version → version ≤ 2 → behind_start (body (numbers_line (codes "history") (version ∷ [])) ∷ lines) ≡ Some (record { version = version; lines = lines })
unfolding version_begun
starts_so version lines least most = elim (cases_eq version 1) [
  | inl one ↦ rw (one, decimal_digit 1 (lit< tt)) refl
  | inr other ↦ let two : version ≡ 2 = omega arith in rw (two, decimal_digit 2 (lit< tt)) refl
]

-- a line that isn't passed over
opening_in : (threads : Option ℕ) (w : List ℕ) (ws : List (List ℕ)) → IsLine (w ∷ ws) → eqb (slice_index w 0) 35 ≡ false → opening_line threads (body (w ∷ ws)) ≡ opening_form threads w ws
unfolding opening_line
opening_in threads w ws words not_comment = rw (words_of_body w ws words.0 words.1, not_comment, plain_body w ws words.0 words.1) refl

told_in : (scope : Naming) (ended : Bool) (w : List ℕ) (ws : List (List ℕ)) → IsLine (w ∷ ws) → eqb (slice_index w 0) 35 ≡ false → told_line scope ended (body (w ∷ ws)) ≡ told_form scope ended w ws
unfolding told_line
told_in scope ended w ws words not_comment = rw (words_of_body w ws words.0 words.1, not_comment, plain_body w ws words.0 words.1) refl

threads_said : (n : ℕ) → n ≤ 64 → opening_line None (body (numbers_line (codes "threads") (n ∷ []))) ≡ Ok (opening.Threads n)
threads_said n few =
    let back = number_back 0 64 n (omega arith) few (omega arith) in
    opening_in None (codes "threads") (decimal n ∷ []) (numbers_spelled (codes "threads") (n ∷ []) (word_from_test (codes "threads") refl) (omega arith, tt)) refl ∙ rw back refl

events_said : (n : ℕ) → opening_line (Some n) (body (codes "events" ∷ [])) ≡ Ok (opening.Events n)
events_said n = opening_in (Some n) (codes "events") [] (word_from_test (codes "events") refl, tt) refl

done_said : (scope : Naming) → told_line scope false (body (codes "done" ∷ [])) ≡ Ok told.Done
done_said scope = told_in scope false (codes "done") [] (word_from_test (codes "done") refl, tt) refl

drop_past : {X : Type 0} (xs ys : List X) → drop (length xs) (xs ++ ys) ≡ ys
drop_past [] ys = refl
drop_past (x ∷ xs) ys = drop_past xs ys

-- ---- the heading's lines are words

classes_spelled : (classes : List ClassDecl) → AreClasses classes → (cs : List ClassDecl) → ((i : ℕ) → i < length (class_names cs) → is_name (name_at (class_names cs) i) ≡ true) → AllByRecursion (λ (c : ClassDecl). AreFields (length classes) c.fields) cs
    → AreLines (map (class_line classes) cs)
classes_spelled classes are [] spelled fields = tt
classes_spelled classes are (c ∷ cs) spelled fields = (class_spelled classes are c (spelled 0 (omega arith)) fields.0, classes_spelled classes are cs (λ i h. spelled (suc i) (omega arith)) fields.1)

globals_spelled : (classes : List ClassDecl) → AreClasses classes → (vs : List VarDecl) → ((i : ℕ) → i < length (var_names vs) → is_name (name_at (var_names vs) i) ≡ true) → AllByRecursion (λ (v : VarDecl). v.class < length classes) vs
    → AreLines (map (decl_line (codes "global") classes) vs)
globals_spelled classes are [] spelled of = tt
globals_spelled classes are (v ∷ vs) spelled of = (decl_spelled (codes "global") (word_from_test (codes "global") refl) classes are v (spelled 0 (omega arith)) of.0, globals_spelled classes are vs (λ i h. spelled (suc i) (omega arith)) of.1)

module _ (version : ℕ) (least_version : 1 ≤ version) (most_version : version ≤ 2) (shape : HeapShape) (classes : List ClassDecl) (globals : List VarDecl) (of_version : AllByRecursion (λ (c : ClassDecl). OfSecond version c.immortal) classes) (h : IsHeading shape classes globals) (most : shape.caps.wide < 2 ^ 32) (threads : ℕ) (few : threads ≤ 64) where
  abbrev scope : Naming
  scope = record { slots = shape.slots; entries = shape.entries; threads = threads; classes = classes; globals = globals }

  heading_spelled : AreLines (heading_lines shape classes globals)
  heading_spelled =
      let slots = h.slots.1 in
      let entries = h.entries.1 in
      let strong = h.caps.strong_fits in
      let unowned = h.caps.unowned_fits.1 in
      let wide : shape.caps.wide < 2 ^ 64 = omega arith in (
        numbers_spelled (codes "slots") (shape.slots ∷ []) (word_from_test (codes "slots") refl) (omega arith, tt),
        (
          numbers_spelled (codes "entries") (shape.entries ∷ []) (word_from_test (codes "entries") refl) (omega arith, tt),
          (
            numbers_spelled (codes "caps") (shape.caps.strong ∷ shape.caps.unowned ∷ shape.caps.wide ∷ []) (word_from_test (codes "caps") refl) (omega arith, (omega arith, (wide, tt))),
            lines_append (map (class_line classes) classes) (map (decl_line (codes "global") classes) globals)
                (classes_spelled classes h.classes_named classes h.classes_named.names.spelled h.classes_named.fields)
                (globals_spelled classes h.classes_named globals h.globals_named.names.spelled h.globals_named.of_classes),
          ),
        ),
      )

  events_spelled : (es : List EventLine) → AllByRecursion (EventFits scope) es → AreLines (events_lines classes globals es)
  events_spelled [] fit = ((word_from_test (codes "done") refl, tt), tt)
  events_spelled (e ∷ es) fit = (event_spelled scope h.slots.1 h.entries.1 few h.classes_named h.globals_named e fit.0, events_spelled es fit.1)

  -- ---- the lines behind the heading

  events_back : (es : List EventLine) (n : ℕ) → AllByRecursion (EventFits scope) es → events_from scope n false (texts (events_lines classes globals es)) ≡ Ok (numbered n es)
  events_back [] n fit = let done = done_said scope in rw done refl
  events_back (e ∷ es) n fit =
      let said = event_back scope h.slots.1 h.entries.1 few h.classes_named h.globals_named e fit.0 in
      let later = events_back es (n + 1) fit.1 in
      rw (said, later) refl

  module _ (es : List EventLine) (fit : AllByRecursion (EventFits scope) es) where
    abbrev heading_text : List (List ℕ)
    heading_text = texts (heading_lines shape classes globals)

    abbrev events_text : List (List ℕ)
    events_text = texts (events_lines classes globals es)

    abbrev later_text : List (List ℕ)
    later_text = body (numbers_line (codes "threads") (threads ∷ [])) ∷ body (codes "events" ∷ []) ∷ events_text

    abbrev count : ℕ
    count = length classes + length globals

    cut : lines_of (written_history version shape classes globals threads es) ≡ body (numbers_line (codes "history") (version ∷ [])) ∷ (heading_text ++ later_text)
    cut =
        lines_of_text (history_lines version shape classes globals threads es) (
          numbers_spelled (codes "history") (version ∷ []) (word_from_test (codes "history") refl) (omega arith, tt),
          lines_append (heading_lines shape classes globals) (later_lines classes globals threads es) heading_spelled
              (numbers_spelled (codes "threads") (threads ∷ []) (word_from_test (codes "threads") refl) (omega arith, tt), ((word_from_test (codes "events") refl, tt), events_spelled es fit)),
        )
        ∙ ap (λ (ls : List (List ℕ)). body (numbers_line (codes "history") (version ∷ [])) ∷ ls) (map-append body (heading_lines shape classes globals) (later_lines classes globals threads es))

    long : length heading_text ≡ 3 + count
    long =
        let cs = map (class_line classes) classes in
        let gs = map (decl_line (codes "global") classes) globals in
        let a : length (map body (cs ++ gs)) ≡ length (cs ++ gs) = length-map (cs ++ gs) body in
        let b : length (cs ++ gs) ≡ length cs + length gs = length-append cs gs in
        let c : length cs ≡ length classes = length-map classes (class_line classes) in
        let d : length gs ≡ length globals = length-map globals (decl_line (codes "global") classes) in
        omega arith

    behind_it : drop (3 + count) (heading_text ++ later_text) ≡ later_text
    behind_it = ap (λ (n : ℕ). drop n (heading_text ++ later_text)) (sym long) ∙ drop_past heading_text later_text

    no_class : run_group version later_text ≡ []
    no_class = run_step version (codes "threads") (decimal threads ∷ []) (body (codes "events" ∷ []) ∷ events_text) (numbers_spelled (codes "threads") (threads ∷ []) (word_from_test (codes "threads") refl) (omega arith, tt))

    heading_lines_split : heading_text ++ later_text ≡ body (numbers_line (codes "slots") (shape.slots ∷ [])) ∷ body (numbers_line (codes "entries") (shape.entries ∷ []))
        ∷ body (numbers_line (codes "caps") (shape.caps.strong ∷ shape.caps.unowned ∷ shape.caps.wide ∷ []))
        ∷ (texts (map (class_line classes) classes) ++ (texts (map (decl_line (codes "global") classes) globals) ++ later_text))
    heading_lines_split =
        let cs = map (class_line classes) classes in
        let gs = map (decl_line (codes "global") classes) globals in
        let split : map body (cs ++ gs) ++ later_text ≡ map body cs ++ (map body gs ++ later_text) = rw (map-append body cs gs) (append_assoc (map body cs) (map body gs) later_text) in
        ap (λ (ls : List (List ℕ)). body (numbers_line (codes "slots") (shape.slots ∷ [])) ∷ body (numbers_line (codes "entries") (shape.entries ∷ []))
        ∷ body (numbers_line (codes "caps") (shape.caps.strong ∷ shape.caps.unowned ∷ shape.caps.wide ∷ [])) ∷ ls) split

    head_back : (g : List Grouped) × (head_from true 2 2 (nothing version behind.Version) (heading_text ++ later_text) ≡ Ok (record { head = head_with version shape classes globals h classes globals g; line = 5 + length classes + length globals }))
    head_back =
        let stops : Stops version shape classes globals h later_text = λ n front place. ends_there n front (codes "threads") (decimal threads ∷ []) (body (codes "events" ∷ []) ∷ events_text) (numbers_spelled (codes "threads") (threads ∷ []) (word_from_test (codes "threads") refl) (omega arith, tt)) refl refl place in
        let b = heading_back version shape classes globals h of_version most later_text stops no_class in
        (b.0, ap (head_from true 2 2 (nothing version behind.Version)) heading_lines_split ∙ b.1)

    shape_back : (g : List Grouped) → shape_said (head_with version shape classes globals h classes globals g) ≡ shape
    shape_back g =
        ap (λ (cs : List ObjectClass). (let t : HeapShape = record { slots = shape.slots; entries = shape.entries; caps = shape.caps; classes = cs; globals = var_refs globals } in t)) (sym h.of_classes)
        ∙ ap (λ (gs : List RefShape). (let t : HeapShape = record { slots = shape.slots; entries = shape.entries; caps = shape.caps; classes = shape.classes; globals = gs } in t)) (sym h.of_globals)

    opened_back : (n : ℕ) (head : HeadSaid) → opened_from n None later_text (told_behind head) ≡ told_behind head threads (n + 1 + 1) events_text
    opened_back n head =
        let said = threads_said threads few in
        let begun = events_said threads in
        rw (said, begun) refl

    pub history_back : history_of (written_history version shape classes globals threads es) ≡ Ok (record { shape = shape; threads = threads; events = numbered (first_line classes globals) es })
    history_back =
        let b = head_back in
        let head = head_with version shape classes globals h classes globals b.0 in
        let n = 5 + length classes + length globals in
        let less : n - 2 ≡ 3 + count = omega arith in
        let first : n + 1 + 1 ≡ first_line classes globals = omega arith in
        ap (λ (ls : List (List ℕ)). from_start (behind_start ls)) cut
        ∙ (ap from_start (starts_so version (heading_text ++ later_text) least_version most_version)
        ∙ (ap (behind_heading (heading_text ++ later_text)) b.1
        ∙ (ap (λ (ls : List (List ℕ)). opened_from n None ls (told_behind head)) (ap (λ (k : ℕ). drop k (heading_text ++ later_text)) less ∙ behind_it)
        ∙ (opened_back n head
        ∙ (ap (λ (k : ℕ). told_behind head threads k events_text) first
        ∙ (ap (with_shape (shape_said head) threads) (events_back es (first_line classes globals) fit)
        ∙ ap (λ (s : HeapShape). with_shape s threads (Ok (numbered (first_line classes globals) es))) (shape_back b.0)))))))
