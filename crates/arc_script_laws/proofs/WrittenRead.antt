-- The canonical text of a script is read as that script, group of lines by group of lines.
use Rattle.std.proofs.Common.{◌≡◌, ℕ, zero, suc, ◌+◌, ◌^◌, ◌<◌, ◌≤◌, Bool, true, false, cond, leb, ltb, List, [], ◌∷◌, ◌++◌, length, map, take, drop, Result, Ok, refl, sym, ap, subst, ◌∙◌, append_assoc, append-nil, arith, rules, tests, lit<, sum_by}
use Rattle.std.specs.Prelude.{codes, slice_get}
use Rattle.std.specs.List.{AllByRecursion, list_any, flat_map}
use Rattle.std.specs.Fmt.{decimal}
use Rattle.std.proofs.lemmas.Bool.{le-ltb}
use Rattle.std.proofs.lemmas.List.{map-append, length-map, length-append}
use Rattle.std.proofs.lemmas.List.Sums.{sum_by-cons}
use Rattle.arc_text.specs.Words.{is_name}
use Rattle.arc_text.specs.Lines.{lines_of}
use Rattle.arc_model.specs.Shapes.{ObjectClass}
use Rattle.arc_model.specs.declared.shape.RefShape.{RefShape}
use Rattle.arc_script.specs.declared.script.FieldDecl.{FieldDecl}
use Rattle.arc_script.specs.declared.script.ClassDecl.{ClassDecl}
use Rattle.arc_script.specs.declared.script.VarDecl.{VarDecl}
use Rattle.arc_script.specs.declared.script.Op.{Op}
use Rattle.arc_script.specs.declared.script.Op.TheVariants as op
use Rattle.arc_script.specs.declared.script.ThreadDecl.{ThreadDecl}
use Rattle.arc_script.specs.declared.script.Script.{Script}
use Rattle.arc_script.specs.declared.reason.Reason.{Reason}
use Rattle.arc_script.specs.declared.keyword.PairWord.TheVariants as pair
use Rattle.arc_script.specs.declared.keyword.BlockWord.TheVariants as begin
use Rattle.arc_script.specs.declared.keyword.Keyword.{Keyword}
use Rattle.arc_script.specs.declared.keyword.Keyword.TheVariants as word
use Rattle.arc_script.specs.declared.keyword.Place.{Place}
use Rattle.arc_script.specs.declared.keyword.Place.TheVariants as behind
use Rattle.arc_script.specs.Keywords.{stands, is_class, is_open}
use Rattle.arc_script.specs.Valid.{name_at, class_names, var_names, var_refs, immortals_of, is_weak_immortal, AreFields, AreVars, IsOp, begins_block, goes_to, Nested, none, operation, block, OfSecond, OpOfVersion, ThreadOfVersion, IsThread, op_count, IsScript}
use Rattle.arc_script.specs.Said.{Grouped, HeadSaid, BodySaid}
use Rattle.arc_script.specs.Group.{run_group, group_of}
use Rattle.arc_script.specs.HeadLines.{is_weak_field, slots_line, entries_line, caps_line, with_global, decl_of}
use Rattle.arc_script.specs.HeadLines as form
use Rattle.arc_script.specs.OpLines.{op_of}
use Rattle.arc_script.specs.BodyLines.{closed, thread_line, with_var, opened_by, with_op, ended_by, schedule_line, done_line}
use Rattle.arc_script.specs.Grammar.{Front, Refusal, no_head, no_body, nothing, with_head, with_body, grouped, settled, any_line, script_said, lines_from, script_of}
use Rattle.arc_script.specs.Canonical.{kind_word, field_word, numbers_line, class_line, decl_line, op_line, ops_from, op_lines, later_phase, phase_lines, threads_lines, schedule_upto, schedule_lines, script_lines, canonical}
use Rattle.arc_script.proofs.Blocks.{begins_still}
use Rattle.arc_script.proofs.ReadValid.{immortals_back}
use Rattle.arc_script_laws.proofs.BlocksBack.{all_past, all_past_or, all_left, all_right, plain_step, block_step, end_step, plain_opened, block_opened, ended_to, later_stands, end_stands, named_of, names_back, none_passes, class_enters}
use Rattle.arc_script_laws.proofs.Spelled.{word_from_test, body, lines_of_text, number_back}
use Rattle.arc_script_laws.proofs.FormsBack.{fresh_at, name_here, decl_back, class_back}
use Rattle.arc_script_laws.proofs.OpsBack.{op_keyword, op_rest, op_back}
use Rattle.arc_script_laws.proofs.LinesSpelled.{IsLine, numbers_spelled, class_spelled, decl_spelled, op_spelled, all_take, all_drop, small_places, script_spelled}
use Rattle.arc_script_laws.proofs.Written.{enters, goes_on, texts, run_step, run_of, heading_open, class_global, global_thread, open_thread, thread_end, thread_back, schedule_back, op_room, phase_room}

-- ---- texts of groups

texts_split : (w : List (List ℕ)) (vs ps rest : List (List (List ℕ))) (more : List (List ℕ)) → texts ((w ∷ (vs ++ ps)) ++ rest) ++ more ≡ body w ∷ (texts vs ++ (texts ps ++ (texts rest ++ more)))
texts_split w vs ps rest more = ap (λ (l : List (List ℕ)). body w ∷ l) (rw (map-append body (vs ++ ps) rest, map-append body vs ps) (simp append_assoc))

texts_two : (xs ys : List (List (List ℕ))) (more : List (List ℕ)) → texts (xs ++ ys) ++ more ≡ texts xs ++ (texts ys ++ more)
texts_two xs ys more = rw (map-append body xs ys) (append_assoc (map body xs) (map body ys) more)

take_drop : {X : Type 0} (n : ℕ) (xs : List X) → take n xs ++ drop n xs ≡ xs
take_drop zero xs = refl
take_drop (suc n) [] = refl
take_drop (suc n) (x ∷ xs) = ap (λ l. x ∷ l) (take_drop n xs)

-- ---- the script

module _ (s : Script) (h : IsScript s) where
  abbrev names : List (List ℕ)
  names = class_names s.classes

  abbrev head_with : List ClassDecl → List VarDecl → List Grouped → HeadSaid
  head_with cs gs g = record { version = s.version; slots = s.shape.slots; entries = s.shape.entries; caps = s.shape.caps; classes = cs; globals = gs; group = g }

  abbrev with : Place → HeadSaid → BodySaid → Front
  with p head b = record { place = p; head = head; body = b }

  -- what was said of threads and the schedule, where no thread is open
  abbrev closed_with : List ThreadDecl → ℕ → List ℕ → BodySaid
  closed_with threads k places = record { threads = threads; vars = []; phases = []; ops = []; opened = []; count = k; schedule = places }

  abbrev done_text : List (List ℕ)
  done_text = body (codes "done" ∷ []) ∷ []

  script_back : (g : List Grouped) (k : ℕ) → script_said (with behind.Ended (head_with s.classes s.globals g) (closed_with s.threads k s.schedule)) ≡ s
  script_back g k =
      let of = h.heading.of_classes in
      let to = h.heading.of_globals in
      ap (λ (cs : List ObjectClass). (let t : Script = record { version = s.version; shape = record { slots = s.shape.slots; entries = s.shape.entries; caps = s.shape.caps; classes = cs; globals = var_refs s.globals }; classes = s.classes; globals = s.globals; threads = s.threads; schedule = s.schedule } in t)) (sym of)
      ∙ ap (λ (gs : List RefShape). (let t : Script = record { version = s.version; shape = record { slots = s.shape.slots; entries = s.shape.entries; caps = s.shape.caps; classes = s.shape.classes; globals = gs }; classes = s.classes; globals = s.globals; threads = s.threads; schedule = s.schedule } in t)) (sym to)

  done_read : (n : ℕ) (p : Place) (b : BodySaid) (g : List Grouped) (k : ℕ) → stands s.version p word.Done ≡ true → settled (with p (head_with s.classes s.globals g) b) ≡ closed_with s.threads k s.schedule
      → lines_from n (with p (head_with s.classes s.globals g) b) done_text ≡ Ok s
  done_read n p b g k st e =
      let front = with p (head_with s.classes s.globals g) b in
      let next = with behind.Ended (head_with s.classes s.globals g) (closed_with s.threads k s.schedule) in
      let entered : any_line front (body (codes "done" ∷ [])) [] ≡ Ok next =
      enters front (codes "done") [] word.Done [] (word_from_test (codes "done") refl, tt) refl refl st ∙ ap (λ (c : BodySaid). with_body front behind.Ended (done_line c)) e in
      goes_on n front next (body (codes "done" ∷ [])) [] entered ∙ ap (λ (t : Script). (let r : Result Script Refusal = Ok t in r)) (script_back g k)

  schedule_read : (fuel : ℕ) (xs seen : List ℕ) (n : ℕ) (p : Place) (b : BodySaid) (g : List Grouped) (k : ℕ) → length xs ≤ fuel → seen ++ xs ≡ s.schedule → AllByRecursion (λ q. (1 ≤ q) × (q ≤ length s.threads)) xs
      → stands s.version p word.Done ≡ true → settled (with p (head_with s.classes s.globals g) b) ≡ closed_with s.threads k seen → lines_from n (with p (head_with s.classes s.globals g) b) (texts (schedule_upto fuel xs) ++ done_text) ≡ Ok s
  schedule_read zero [] seen n p b g k few all are st e = done_read n p b g k st (e ∙ ap (λ (l : List ℕ). closed_with s.threads k l) (sym (append-nil seen) ∙ all))
  schedule_read zero (x ∷ xs) seen n p b g k few all are st e = absurd (omega arith)
  schedule_read (suc fuel) [] seen n p b g k few all are st e = done_read n p b g k st (e ∙ ap (λ (l : List ℕ). closed_with s.threads k l) (sym (append-nil seen) ∙ all))
  schedule_read (suc fuel) (x ∷ xs) seen n p b g k few all are st e =
      let row = take 32 (x ∷ xs) in
      let rest = drop 32 (x ∷ xs) in
      let front = with p (head_with s.classes s.globals g) b in
      let next = with behind.Schedule (head_with s.classes s.globals g) (closed_with s.threads k (seen ++ row)) in
      let cut : row ++ rest ≡ x ∷ xs = take_drop 32 (x ∷ xs) in
      let whole : (seen ++ row) ++ rest ≡ s.schedule = append_assoc seen row rest ∙ (ap (λ (l : List ℕ). seen ++ l) cut ∙ all) in
      let sum : length seen + length (x ∷ xs) ≡ length s.schedule = sym (length-append seen (x ∷ xs)) ∙ ap length all in
      let parts : length row + length rest ≡ length (x ∷ xs) = sym (length-append row rest) ∙ ap length cut in
      let some : 0 < length row = omega arith in
      let most = h.few_places in
      let threads = h.few_threads in
      let small : AllByRecursion (λ q. q < 2 ^ 64) row = small_places (length s.threads) row threads (all_take (λ q. (1 ≤ q) × (q ≤ length s.threads)) 32 (x ∷ xs) are) in
      let back : schedule_line (closed_with s.threads k seen) (map decimal row) ≡ Ok (closed_with s.threads k (seen ++ row)) =
      schedule_back (closed_with s.threads k seen) row threads (all_take (λ q. (1 ≤ q) × (q ≤ length s.threads)) 32 (x ∷ xs) are) (omega arith) refl in
      let entered : any_line front (body (numbers_line (codes "schedule") row)) (texts (schedule_upto fuel rest) ++ done_text) ≡ Ok next =
      enters front (codes "schedule") (map decimal row) word.Schedule (texts (schedule_upto fuel rest) ++ done_text) (numbers_spelled (codes "schedule") row (word_from_test (codes "schedule") refl) small) refl refl st
      ∙ (ap (λ (c : BodySaid). with_body front behind.Schedule (schedule_line c (map decimal row))) e ∙ ap (with_body front behind.Schedule) back) in
      goes_on n front next (body (numbers_line (codes "schedule") row)) (texts (schedule_upto fuel rest) ++ done_text) entered
      ∙ schedule_read fuel rest (seen ++ row) (n + 1) behind.Schedule (closed_with s.threads k (seen ++ row)) g k (omega arith) whole (all_drop (λ q. (1 ≤ q) × (q ≤ length s.threads)) 32 (x ∷ xs) are) refl refl

  -- ---- threads

  module _ (g : List Grouped) where
    abbrev at_place : Place → BodySaid → Front
    at_place p b = with p (head_with s.classes s.globals g) b

    abbrev open_with : List ThreadDecl → List VarDecl → List (List Op) → List Op → List ℕ → ℕ → BodySaid
    open_with threads vars phases ops opened k = record { threads = threads; vars = vars; phases = phases; ops = ops; opened = opened; count = k; schedule = [] }

    abbrev keyword_in : (b : BodySaid) → AreVars 256 (length s.classes) b.vars → Op → Keyword
    keyword_in b known o = op_keyword s.classes h.heading.classes_named s.globals h.heading.globals_named b.vars known o

    abbrev rest_in : (b : BodySaid) → AreVars 256 (length s.classes) b.vars → Op → List (List ℕ)
    rest_in b known o = op_rest s.classes h.heading.classes_named s.globals h.heading.globals_named b.vars known o

    op_enters : (b : BodySaid) (known : AreVars 256 (length s.classes) b.vars) (p : Place) (o : Op) (lines : List (List ℕ)) → is_open p ≡ true → OpOfVersion s.version o → IsLine (op_line s.classes s.globals b.vars o)
        → any_line (at_place p b) (body (op_line s.classes s.globals b.vars o)) lines ≡ with_body (at_place p b) behind.Operation (with_op b (op_of s.classes s.globals b.vars (keyword_in b known o) (rest_in b known o)))
    op_enters b known p (op.New to class) lines st second words = enters (at_place p b) (codes "new") (rest_in b known (op.New to class)) word.New lines words refl refl st
    op_enters b known p (op.Copy to from) lines st second words = enters (at_place p b) (codes "copy") (rest_in b known (op.Copy to from)) (word.Pair pair.Copy) lines words refl refl st
    op_enters b known p (op.Drop var) lines st second words = enters (at_place p b) (codes "drop") (rest_in b known (op.Drop var)) word.Drop lines words refl refl st
    op_enters b known p (op.Move to from) lines st second words = enters (at_place p b) (codes "move") (rest_in b known (op.Move to from)) (word.Pair pair.Move) lines words refl refl st
    op_enters b known p (op.Unown to of) lines st second words = enters (at_place p b) (codes "unown") (rest_in b known (op.Unown to of)) (word.Pair pair.Unown) lines words refl refl st
    op_enters b known p (op.Weak to of) lines st second words = enters (at_place p b) (codes "weak") (rest_in b known (op.Weak to of)) (word.Pair pair.Weak) lines words refl refl st
    op_enters b known p (op.Load to of) lines st second words = enters (at_place p b) (codes "load") (rest_in b known (op.Load to of)) (word.Pair pair.Load) lines words refl refl st
    op_enters b known p (op.Get to c) lines st second words = enters (at_place p b) (codes "get") (rest_in b known (op.Get to c)) word.Get lines words refl refl st
    op_enters b known p (op.IfNil var to) lines st second words = enters (at_place p b) (codes "ifnil") (rest_in b known (op.IfNil var to)) (word.Block begin.IfNil) lines words refl refl (later_stands s.version p (word.Block begin.IfNil) (second refl) st)
    op_enters b known p (op.IfSome var to) lines st second words = enters (at_place p b) (codes "ifsome") (rest_in b known (op.IfSome var to)) (word.Block begin.IfSome) lines words refl refl (later_stands s.version p (word.Block begin.IfSome) (second refl) st)
    op_enters b known p (op.Set c from) lines st second words = enters (at_place p b) (codes "set") (rest_in b known (op.Set c from)) word.Set lines words refl refl st

    -- what is read behind an operation, or where a block begins
    abbrev behind_op : BodySaid → Op → BodySaid
    behind_op b o = record b { ops = b.ops ++ goes_to 0 o ∷ []; opened = opened_by b (goes_to 0 o); count = b.count + 1 }

    op_read : (b : BodySaid) (known : AreVars 256 (length s.classes) b.vars) (p : Place) (o : Op) (lines : List (List ℕ)) → is_open p ≡ true → IsOp s.classes s.globals b.vars o → OpOfVersion s.version o → b.count < 100000
        → (begins_block (goes_to 0 o) ≡ true → length b.opened < 8) → any_line (at_place p b) (body (op_line s.classes s.globals b.vars o)) lines ≡ Ok (at_place behind.Operation (behind_op b o))
    op_read b known p o lines st is of room depth =
        let finish : with_body (at_place p b) behind.Operation (with_op b (op_of s.classes s.globals b.vars (keyword_in b known o) (rest_in b known o))) ≡ Ok (at_place behind.Operation (behind_op b o)) =
        ap (λ (r : Result Op Reason). with_body (at_place p b) behind.Operation (with_op b r)) (op_back s.classes h.heading.classes_named s.globals h.heading.globals_named b.vars known o is)
        ∙ ap (with_body (at_place p b) behind.Operation) (op_room b (goes_to 0 o) room depth) in
        op_enters b known p o lines st of (op_spelled s.classes h.heading.classes_named s.globals h.heading.globals_named b.vars known o is) ∙ finish

    module _ (done : List ThreadDecl) (t : ThreadDecl) (known : AreVars 256 (length s.classes) t.vars) (more : List (List ℕ)) where
      abbrev ops_in : ℕ → List ℕ → List Op → List (List (List ℕ))
      ops_in at ends xs = ops_from s.classes s.globals t.vars at ends xs

      abbrev words_in : Op → List (List ℕ)
      words_in o = op_line s.classes s.globals t.vars o

      -- the operations of a level, blocks and all; ends and opened are of the blocks around it, and later come behind it
      nest_read : (deep at : ℕ) (xs : List Op) → Nested deep at xs → (later : List Op) (ends opened : List ℕ) (seen : List Op) (phases : List (List Op)) (p : Place) (k n : ℕ) → is_open p ≡ true → length seen ≡ at
          → AllByRecursion (IsOp s.classes s.globals t.vars) xs → AllByRecursion (OpOfVersion s.version) xs → AllByRecursion (λ e. at + length xs ≤ e) ends → deep + length opened ≤ 8 → k + length xs ≤ 100000 → (rest : List (List ℕ))
          → ((m n : ℕ) (p : Place) (ops : List Op) (k' : ℕ) → m ≡ at + length xs → is_open p ≡ true → ops ≡ seen ++ xs → k' ≡ k + length xs → lines_from n (at_place p (open_with done t.vars phases ops opened k')) (texts (ops_in m ends later) ++ rest) ≡ Ok s)
          → lines_from n (at_place p (open_with done t.vars phases seen opened k)) (texts (ops_in at ends (xs ++ later)) ++ rest) ≡ Ok s
      nest_read deep at xs none later ends opened seen phases p k n st long are of ended few room rest then = then at n p seen k (omega arith) st (sym (append-nil seen)) (omega arith)
      nest_read deep at xs (operation o ops isnt inner) later ends opened seen phases p k n st long are of ended few room rest then =
          let b = open_with done t.vars phases seen opened k in
          let next = at_place behind.Operation (open_with done t.vars phases (seen ++ o ∷ []) opened (k + 1)) in
          let lines = texts (ops_in (at + 1) ends (ops ++ later)) ++ rest in
          let past = all_past at (at + suc (length ops)) ends (omega arith) ended in
          let step : ops_in at ends (o ∷ (ops ++ later)) ≡ words_in o ∷ ops_in (at + 1) ends (ops ++ later) = plain_step s.classes s.globals t.vars at ends o (ops ++ later) past isnt in
          let one : length (seen ++ o ∷ []) ≡ suc (length seen) = length-append seen (o ∷ []) ∙ (let n : length seen + 1 ≡ suc (length seen) = omega arith in n) in
          let entered : any_line (at_place p b) (body (words_in o)) lines ≡ Ok next =
          op_read b known p o lines st are.0 of.0 (omega arith) (λ begins. absurd (let no = begins_still 0 o ∙ isnt in cc)) ∙ ap (λ (c : BodySaid). (let r : Result Front Reason = Ok (at_place behind.Operation c) in r)) (plain_opened b o isnt) in
          let from : suc at ≡ at + 1 = omega arith in
          ap (λ (ls : List (List (List ℕ))). lines_from n (at_place p b) (texts ls ++ rest)) step
          ∙ (goes_on n (at_place p b) next (body (words_in o)) lines entered
          ∙ subst (λ (m : ℕ). lines_from (n + 1) next (texts (ops_in m ends (ops ++ later)) ++ rest) ≡ Ok s) from
          (nest_read deep (suc at) ops inner later ends opened (seen ++ o ∷ []) phases behind.Operation (k + 1) (n + 1) refl (omega arith) are.1 of.1 (all_past_or (suc at + length ops) (at + suc (length ops)) ends (omega arith) ended) few (omega arith) rest
          (λ m n p ops' k' e o' eq q. then m n p ops' k' (omega arith) o' (eq ∙ append_assoc seen (o ∷ []) ops) (omega arith))))
      nest_read deep at xs (block {deep = inmost} o inside ops is in_it behind_it) later ends opened seen phases p k n st long are of ended few room rest then =
          let to = suc at + length inside in
          let x = goes_to to o in
          let begun = goes_to 0 o in
          let b = open_with done t.vars phases seen opened k in
          let next = at_place behind.Operation (open_with done t.vars phases (seen ++ begun ∷ []) (length seen ∷ opened) (k + 1)) in
          let both : length (inside ++ ops) ≡ length inside + length ops = length-append inside ops in
          let lines = texts (ops_in (at + 1) (to ∷ ends) (inside ++ (ops ++ later))) ++ rest in
          let past = all_past at (at + suc (length (inside ++ ops))) ends (omega arith) ended in
          let step : ops_in at ends (x ∷ ((inside ++ ops) ++ later)) ≡ words_in x ∷ ops_in (at + 1) (to ∷ ends) (inside ++ (ops ++ later)) =
          block_step s.classes s.globals t.vars at to ends o ((inside ++ ops) ++ later) past is ∙ ap (λ (os : List Op). words_in x ∷ ops_in (at + 1) (to ∷ ends) os) (append_assoc inside ops later) in
          let one : length (seen ++ begun ∷ []) ≡ length seen + 1 = length-append seen (begun ∷ []) in
          let second : s.version ≡ 2 = of.0 (begins_still to o ∙ is) in
          let entered : any_line (at_place p b) (body (words_in x)) lines ≡ Ok next =
          op_read b known p x lines st are.0 of.0 (omega arith) (λ begins. omega arith) ∙ ap (λ (c : BodySaid). (let r : Result Front Reason = Ok (at_place behind.Operation c) in r)) (block_opened b o to is) in
          let from : suc at ≡ at + 1 = omega arith in
          ap (λ (ls : List (List (List ℕ))). lines_from n (at_place p b) (texts ls ++ rest)) step
          ∙ (goes_on n (at_place p b) next (body (words_in x)) lines entered
          ∙ subst (λ (m : ℕ). lines_from (n + 1) next (texts (ops_in m (to ∷ ends) (inside ++ (ops ++ later))) ++ rest) ≡ Ok s) from
          (nest_read inmost (suc at) inside in_it (ops ++ later) (to ∷ ends) (length seen ∷ opened) (seen ++ begun ∷ []) phases behind.Operation (k + 1) (n + 1) refl (omega arith)
          (all_left (IsOp s.classes s.globals t.vars) inside ops are.1) (all_left (OpOfVersion s.version) inside ops of.1) (omega arith, all_past_or (suc at + length inside) (at + suc (length (inside ++ ops))) ends (omega arith) ended) (omega arith) (omega arith) rest
          (λ m n p ops' k' e o' eq q.
          let c = open_with done t.vars phases ops' (length seen ∷ opened) k' in
          let after = at_place behind.Operation (open_with done t.vars phases (seen ++ x ∷ inside) opened k') in
          let left = texts (ops_in to ends (ops ++ later)) ++ rest in
          let closes : ended_by ops' (length seen) (slice_get ops' (length seen)) ≡ seen ++ x ∷ inside = ended_to ops' seen inside o to eq (omega arith) in
          let ended_in : any_line (at_place p c) (body (codes "end" ∷ [])) left ≡ Ok after =
          enters (at_place p c) (codes "end") [] word.End left (word_from_test (codes "end") refl, tt) refl refl (end_stands s.version p second o')
          ∙ ap (λ (os : List Op). (let r : Result Front Reason = Ok (at_place behind.Operation (open_with done t.vars phases os opened k')) in r)) closes in
          let all : length (seen ++ x ∷ inside) ≡ length seen + suc (length inside) = length-append seen (x ∷ inside) in
          ap (λ (j : ℕ). lines_from n (at_place p c) (texts (ops_in j (to ∷ ends) (ops ++ later)) ++ rest)) e
          ∙ (ap (λ (ls : List (List (List ℕ))). lines_from n (at_place p c) (texts ls ++ rest)) (end_step s.classes s.globals t.vars to ends (ops ++ later))
          ∙ (goes_on n (at_place p c) after (body (codes "end" ∷ [])) left ended_in
          ∙ nest_read (suc inmost) to ops behind_it later ends opened (seen ++ x ∷ inside) phases behind.Operation k' (n + 1) refl (omega arith)
          (all_right (IsOp s.classes s.globals t.vars) inside ops are.1) (all_right (OpOfVersion s.version) inside ops of.1) (all_past_or (to + length ops) (at + suc (length (inside ++ ops))) ends (omega arith) ended) few (omega arith) rest
          (λ m' n' p' ops'' k'' e' o'' eq' q'. then m' n' p' ops'' k'' (omega arith) o'' (eq' ∙ append_assoc seen (x ∷ inside) ops) (omega arith)))))))

      ops_read : (xs : List Op) (phases : List (List Op)) (p : Place) (k n : ℕ) → is_open p ≡ true → Nested 8 0 xs → AllByRecursion (IsOp s.classes s.globals t.vars) xs → AllByRecursion (OpOfVersion s.version) xs → k + length xs ≤ 100000
          → (rest : List (List ℕ)) → ((n : ℕ) (p : Place) (ops : List Op) (k' : ℕ) → is_open p ≡ true → ops ≡ xs → k' ≡ k + length xs → lines_from n (at_place p (open_with done t.vars phases ops [] k')) rest ≡ Ok s)
          → lines_from n (at_place p (open_with done t.vars phases [] [] k)) (texts (op_lines s.classes s.globals t.vars xs) ++ rest) ≡ Ok s
      ops_read xs phases p k n st nested are of few rest then =
          subst (λ (os : List Op). lines_from n (at_place p (open_with done t.vars phases [] [] k)) (texts (ops_in 0 [] os) ++ rest) ≡ Ok s) (append-nil xs)
          (nest_read 8 0 xs nested [] [] [] [] phases p k n st refl are of tt (omega arith) few rest (λ m n p ops k' e o eq q. then n p ops k' o eq q))

      phases_read : (xs : List (List Op)) (phases : List (List Op)) (ops : List Op) (p : Place) (k n : ℕ) → is_open p ≡ true → length phases + length xs ≤ 63
          → AllByRecursion (λ (ops : List Op). AllByRecursion (IsOp s.classes s.globals t.vars) ops) xs → AllByRecursion (Nested 8 0) xs → AllByRecursion (λ (ops : List Op). AllByRecursion (OpOfVersion s.version) ops) xs → k + sum_by (λ (ops : List Op). length ops) xs ≤ 100000
          → ((n : ℕ) (p : Place) (phases' : List (List Op)) (ops' : List Op) (k' : ℕ) → is_open p ≡ true → phases' ++ ops' ∷ [] ≡ (phases ++ ops ∷ []) ++ xs → k' ≡ k + sum_by (λ (ops : List Op). length ops) xs
          → lines_from n (at_place p (open_with done t.vars phases' ops' [] k')) more ≡ Ok s)
          → lines_from n (at_place p (open_with done t.vars phases ops [] k)) (texts (flat_map (later_phase s.classes s.globals t.vars) xs) ++ more) ≡ Ok s
      phases_read [] phases ops p k n st few are nested of room then = then n p phases ops k st (sym (append-nil (phases ++ ops ∷ []))) (omega arith)
      phases_read (x ∷ xs) phases ops p k n st few are nested of room then =
          let b = open_with done t.vars phases ops [] k in
          let next = at_place behind.Operation (open_with done t.vars (phases ++ ops ∷ []) [] [] k) in
          let rest = texts (flat_map (later_phase s.classes s.globals t.vars) xs) ++ more in
          let sum : sum_by (λ (ops : List Op). length ops) (x ∷ xs) ≡ length x + sum_by (λ (ops : List Op). length ops) xs = sum_by-cons (λ (ops : List Op). length ops) x xs in
          let long : length (phases ++ ops ∷ []) ≡ length phases + 1 = length-append phases (ops ∷ []) in
          let entered : any_line (at_place p b) (body (codes "phase" ∷ [])) (texts (op_lines s.classes s.globals t.vars x) ++ rest) ≡ Ok next =
          enters (at_place p b) (codes "phase") [] word.Phase (texts (op_lines s.classes s.globals t.vars x) ++ rest) (word_from_test (codes "phase") refl, tt) refl refl st
          ∙ ap (with_body (at_place p b) behind.Operation) (phase_room b (omega arith) refl) in
          ap (lines_from n (at_place p b)) (texts_two (later_phase s.classes s.globals t.vars x) (flat_map (later_phase s.classes s.globals t.vars) xs) more)
          ∙ (goes_on n (at_place p b) next (body (codes "phase" ∷ [])) (texts (op_lines s.classes s.globals t.vars x) ++ rest) entered
          ∙ ops_read x (phases ++ ops ∷ []) behind.Operation k (n + 1) refl nested.0 are.0 of.0 (omega arith) rest
          (λ n p ops' k' o e q. phases_read xs (phases ++ ops ∷ []) ops' p k' n o (omega arith) are.1 nested.1 of.1 (omega arith)
          (λ n p phases'' ops'' k'' o' e' q'. then n p phases'' ops'' k'' o'
          (e' ∙ (ap (λ (l : List Op). ((phases ++ ops ∷ []) ++ l ∷ []) ++ xs) e ∙ append_assoc (phases ++ ops ∷ []) (x ∷ []) xs)) (omega arith))))

      -- the phases of a thread, of which there is one at least
      first_read : (all : List (List Op)) (k n : ℕ) → 1 ≤ length all → length all ≤ 64 → AllByRecursion (λ (ops : List Op). AllByRecursion (IsOp s.classes s.globals t.vars) ops) all → AllByRecursion (Nested 8 0) all → AllByRecursion (λ (ops : List Op). AllByRecursion (OpOfVersion s.version) ops) all → k + sum_by (λ (ops : List Op). length ops) all ≤ 100000
          → ((n : ℕ) (p : Place) (phases : List (List Op)) (ops : List Op) (k' : ℕ) → is_open p ≡ true → phases ++ ops ∷ [] ≡ all → k' ≡ k + sum_by (λ (ops : List Op). length ops) all → lines_from n (at_place p (open_with done t.vars phases ops [] k')) more ≡ Ok s)
          → lines_from n (at_place behind.Thread (open_with done t.vars [] [] [] k)) (texts (phase_lines s.classes s.globals t.vars all) ++ more) ≡ Ok s
      first_read [] k n some few are nested of room then = absurd (omega arith)
      first_read (ops ∷ later) k n some few are nested of room then =
          let sum : sum_by (λ (ops : List Op). length ops) (ops ∷ later) ≡ length ops + sum_by (λ (ops : List Op). length ops) later = sum_by-cons (λ (ops : List Op). length ops) ops later in
          let rest = texts (flat_map (later_phase s.classes s.globals t.vars) later) ++ more in
          ap (lines_from n (at_place behind.Thread (open_with done t.vars [] [] [] k))) (texts_two (op_lines s.classes s.globals t.vars ops) (flat_map (later_phase s.classes s.globals t.vars) later) more)
          ∙ ops_read ops [] behind.Thread k n refl nested.0 are.0 of.0 (omega arith) rest
          (λ n p ops' k' o e q. phases_read later [] ops' p k' n o (omega arith) are.1 nested.1 of.1 (omega arith)
          (λ n p phases'' ops'' k'' o' e' q'. then n p phases'' ops'' k'' o' (e' ∙ ap (λ (l : List Op). l ∷ later) e) (omega arith)))

      vars_read : (xs seen : List VarDecl) (k n : ℕ) → seen ++ xs ≡ t.vars → AllByRecursion (λ (v : VarDecl). v.class < length s.classes) xs → AllByRecursion (λ (v : VarDecl). is_weak_immortal (immortals_of s.classes) v.kind v.class ≡ false) xs → (rest : List (List ℕ))
          → ((n : ℕ) → lines_from n (at_place behind.Thread (open_with done t.vars [] [] [] k)) rest ≡ Ok s)
          → lines_from n (at_place behind.Thread (open_with done seen [] [] [] k)) (texts (map (decl_line (codes "var") s.classes) xs) ++ rest) ≡ Ok s
      vars_read [] seen k n e of allowed rest then = subst (λ (vs : List VarDecl). lines_from n (at_place behind.Thread (open_with done vs [] [] [] k)) rest ≡ Ok s) (sym (sym (append-nil seen) ∙ e)) (then n)
      vars_read (x ∷ xs) seen k n e of allowed rest then =
          let b = open_with done seen [] [] [] k in
          let next = at_place behind.Thread (open_with done (seen ++ x ∷ []) [] [] [] k) in
          let lines = texts (map (decl_line (codes "var") s.classes) xs) ++ rest in
          let sum : length seen + suc (length xs) ≡ length t.vars = sym (length-append seen (x ∷ xs)) ∙ ap length e in
          let few = known.names.few in
          let long : length (var_names t.vars) ≡ length t.vars = length-map t.vars (λ (v : VarDecl). v.name) in
          let at : var_names seen ++ x.name ∷ var_names xs ≡ var_names t.vars = sym (map-append (λ (v : VarDecl). v.name) seen (x ∷ xs)) ∙ ap var_names e in
          let name = name_here (var_names t.vars) (var_names seen) (var_names xs) x.name known.names.spelled at in
          let fresh = fresh_at (var_names t.vars) (var_names seen) (var_names xs) x.name known.names.apart at in
          let entered : any_line (at_place behind.Thread b) (body (decl_line (codes "var") s.classes x)) lines ≡ Ok next =
          enters (at_place behind.Thread b) (codes "var") (x.name ∷ kind_word x.kind ∷ name_at names x.class ∷ []) word.Var lines (decl_spelled (codes "var") (word_from_test (codes "var") refl) s.classes h.heading.classes_named x name of.0) refl refl refl
          ∙ ap (λ (r : Result VarDecl Reason). with_body (at_place behind.Thread b) behind.Thread (with_var b r)) (decl_back 256 seen s.classes x h.heading.classes_named name fresh of.0 (omega arith) allowed.0) in
          goes_on n (at_place behind.Thread b) next (body (decl_line (codes "var") s.classes x)) lines entered
          ∙ vars_read xs (seen ++ x ∷ []) k (n + 1) (append_assoc seen (x ∷ []) xs ∙ e) of.1 allowed.1 rest then

      settled_open : (p : Place) (b : BodySaid) → is_open p ≡ true → settled (at_place p b) ≡ closed b
      settled_open p b o = rw o refl

      thread_read : (p : Place) (b : BodySaid) (k m n : ℕ) → stands s.version p word.Thread ≡ true → settled (at_place p b) ≡ closed_with done k [] → m ≡ length done + 1 → length done < 64 → IsThread s.classes s.globals t → ThreadOfVersion s.version t
          → k + sum_by (λ (ops : List Op). length ops) t.phases ≤ 100000
          → ((n : ℕ) (p : Place) (b : BodySaid) (k' : ℕ) → is_open p ≡ true → settled (at_place p b) ≡ closed_with (done ++ t ∷ []) k' [] → k' ≡ k + sum_by (λ (ops : List Op). length ops) t.phases → lines_from n (at_place p b) more ≡ Ok s)
          → lines_from n (at_place p b) (body (numbers_line (codes "thread") (m ∷ [])) ∷ (texts (map (decl_line (codes "var") s.classes) t.vars) ++ (texts (phase_lines s.classes s.globals t.vars t.phases) ++ more))) ≡ Ok s
      thread_read p b k m n st e number few is of room then =
          let front = at_place p b in
          let next = at_place behind.Thread (open_with done [] [] [] [] k) in
          let phases = texts (phase_lines s.classes s.globals t.vars t.phases) ++ more in
          let lines = texts (map (decl_line (codes "var") s.classes) t.vars) ++ phases in
          let entered : any_line front (body (numbers_line (codes "thread") (m ∷ []))) lines ≡ Ok next =
          enters front (codes "thread") (decimal m ∷ []) word.Thread lines (numbers_spelled (codes "thread") (m ∷ []) (word_from_test (codes "thread") refl) (omega arith, tt)) refl refl st
          ∙ (ap (λ (c : BodySaid). with_body front behind.Thread (thread_line c (decimal m))) e ∙ ap (with_body front behind.Thread) (thread_back (closed_with done k []) m number few refl)) in
          goes_on n front next (body (numbers_line (codes "thread") (m ∷ []))) lines entered
          ∙ vars_read t.vars [] k (n + 1) refl is.vars.of_classes is.vars_allowed phases
          (λ n. first_read t.phases k n is.some_phase is.few_phases is.ops is.nested of room
          (λ n p phases' ops' k' o e' q. then n p (open_with done t.vars phases' ops' [] k') k' o
          (settled_open p (open_with done t.vars phases' ops' [] k') o
          ∙ ap (λ (ps : List (List Op)). closed_with (done ++ (let u : ThreadDecl = record { vars = t.vars; phases = ps } in u) ∷ []) k' []) e')
          q))

    threads_read : (ts done : List ThreadDecl) (p : Place) (b : BodySaid) (k m n : ℕ) → stands s.version p word.Thread ≡ true → settled (at_place p b) ≡ closed_with done k [] → done ++ ts ≡ s.threads → m ≡ length done + 1
        → AllByRecursion (IsThread s.classes s.globals) ts → AllByRecursion (ThreadOfVersion s.version) ts → k + op_count ts ≤ 100000 → (more : List (List ℕ))
        → ((n : ℕ) (p : Place) (b : BodySaid) (k : ℕ) → stands s.version p word.Done ≡ true → settled (at_place p b) ≡ closed_with s.threads k [] → lines_from n (at_place p b) more ≡ Ok s)
        → lines_from n (at_place p b) (texts (threads_lines s.classes s.globals m ts) ++ more) ≡ Ok s
    threads_read [] done p b k m n st e all number are of room more then = then n p b k (thread_end s.version p st) (e ∙ ap (λ (l : List ThreadDecl). closed_with l k []) (sym (append-nil done) ∙ all))
    threads_read (t ∷ ts) done p b k m n st e all number are of room more then =
        let is = are.0 in
        let sum : length done + suc (length ts) ≡ length s.threads = sym (length-append done (t ∷ ts)) ∙ ap length all in
        let few = h.few_threads in
        let ops : op_count (t ∷ ts) ≡ sum_by (λ (ops : List Op). length ops) t.phases + op_count ts = sum_by-cons (λ (u : ThreadDecl). sum_by (λ (ops : List Op). length ops) u.phases) t ts in
        let long : length (done ++ t ∷ []) ≡ length done + 1 = length-append done (t ∷ []) in
        ap (lines_from n (at_place p b)) (texts_split (numbers_line (codes "thread") (m ∷ [])) (map (decl_line (codes "var") s.classes) t.vars) (phase_lines s.classes s.globals t.vars t.phases) (threads_lines s.classes s.globals (m + 1) ts) more)
        ∙ thread_read done t is.vars (texts (threads_lines s.classes s.globals (m + 1) ts) ++ more) p b k m n st e number (omega arith) is of.0 (omega arith)
        (λ n p b k' o e' q. threads_read ts (done ++ t ∷ []) p b k' (m + 1) n (open_thread s.version p o) e' (append_assoc done (t ∷ []) ts ∙ all) (omega arith) are.1 of.1 (omega arith) more then)

  -- ---- the heading

  globals_read : (g : List Grouped) (xs seen : List VarDecl) (p : Place) (n : ℕ) → stands s.version p word.Global ≡ true → seen ++ xs ≡ s.globals → AllByRecursion (λ (v : VarDecl). v.class < length s.classes) xs → AllByRecursion (λ (v : VarDecl). is_weak_immortal (immortals_of s.classes) v.kind v.class ≡ false) xs → (more : List (List ℕ))
      → ((n : ℕ) (p : Place) → stands s.version p word.Global ≡ true → lines_from n (with p (head_with s.classes s.globals g) no_body) more ≡ Ok s)
      → lines_from n (with p (head_with s.classes seen g) no_body) (texts (map (decl_line (codes "global") s.classes) xs) ++ more) ≡ Ok s
  globals_read g [] seen p n st e of allowed more then = subst (λ (vs : List VarDecl). lines_from n (with p (head_with s.classes vs g) no_body) more ≡ Ok s) (sym (sym (append-nil seen) ∙ e)) (then n p st)
  globals_read g (x ∷ xs) seen p n st e of allowed more then =
      let known = h.heading.globals_named in
      let front = with p (head_with s.classes seen g) no_body in
      let next = with behind.Global (head_with s.classes (seen ++ x ∷ []) g) no_body in
      let lines = texts (map (decl_line (codes "global") s.classes) xs) ++ more in
      let sum : length seen + suc (length xs) ≡ length s.globals = sym (length-append seen (x ∷ xs)) ∙ ap length e in
      let few = known.names.few in
      let long : length (var_names s.globals) ≡ length s.globals = length-map s.globals (λ (v : VarDecl). v.name) in
      let at : var_names seen ++ x.name ∷ var_names xs ≡ var_names s.globals = sym (map-append (λ (v : VarDecl). v.name) seen (x ∷ xs)) ∙ ap var_names e in
      let name = name_here (var_names s.globals) (var_names seen) (var_names xs) x.name known.names.spelled at in
      let fresh = fresh_at (var_names s.globals) (var_names seen) (var_names xs) x.name known.names.apart at in
      let entered : any_line front (body (decl_line (codes "global") s.classes x)) lines ≡ Ok next =
      enters front (codes "global") (x.name ∷ kind_word x.kind ∷ name_at names x.class ∷ []) word.Global lines (decl_spelled (codes "global") (word_from_test (codes "global") refl) s.classes h.heading.classes_named x name of.0) refl refl st
      ∙ ap (λ (r : Result VarDecl Reason). with_head front behind.Global (with_global (head_with s.classes seen g) r)) (decl_back 64 seen s.classes x h.heading.classes_named name fresh of.0 (omega arith) allowed.0) in
      goes_on n front next (body (decl_line (codes "global") s.classes x)) lines entered
      ∙ globals_read g xs (seen ++ x ∷ []) behind.Global (n + 1) refl (append_assoc seen (x ∷ []) xs ∙ e) of.1 allowed.1 more then

  abbrev group : List Grouped
  group = group_of s.classes

  group_is : (b : Bool) (head : HeadSaid) (g : List Grouped) → (b ≡ true → head.group ≡ group) → (b ≡ false → g ≡ group) → (let k : HeadSaid = cond b head (record head { group = g }) in k) ≡ record head { group = group }
  group_is true head g t f = ap (λ (l : List Grouped). (let k : HeadSaid = record head { group = l } in k)) (t refl)
  group_is false head g t f = ap (λ (l : List Grouped). (let k : HeadSaid = record head { group = l } in k)) (f refl)

  classes_read : (xs seen : List ClassDecl) (p : Place) (g : List Grouped) (n : ℕ) → stands s.version p word.Class ≡ true → (is_class p ≡ true → g ≡ group) → (is_class p ≡ false → seen ≡ []) → seen ++ xs ≡ s.classes
      → ((i : ℕ) → i < length (class_names xs) → is_name (name_at (class_names xs) i) ≡ true) → AllByRecursion (λ (c : ClassDecl). AreFields (length s.classes) c.fields) xs
      → AllByRecursion (λ (c : ClassDecl). AllByRecursion (λ (f : FieldDecl). is_weak_immortal (immortals_of s.classes) f.kind f.class ≡ false) c.fields) xs → AllByRecursion (λ (c : ClassDecl). OfSecond s.version c.immortal) xs
      → (more : List (List ℕ)) → run_group s.version more ≡ []
      → ((n : ℕ) (p : Place) (g : List Grouped) → stands s.version p word.Global ≡ true → lines_from n (with p (head_with s.classes [] g) no_body) more ≡ Ok s)
      → lines_from n (with p (head_with seen [] g) no_body) (texts (map (class_line s.classes) xs) ++ more) ≡ Ok s
  classes_read [] seen p g n st later first e spelled fields allowed of more stops then = subst (λ (cs : List ClassDecl). lines_from n (with p (head_with cs [] g) no_body) more ≡ Ok s) (sym (sym (append-nil seen) ∙ e)) (then n p g (class_global s.version p st))
  classes_read (x ∷ xs) seen p g n st later first e spelled fields allowed of more stops then =
      let known = h.heading.classes_named in
      let front = with p (head_with seen [] g) no_body in
      let next = with behind.Class (head_with (seen ++ x ∷ []) [] group) no_body in
      let lines = texts (map (class_line s.classes) xs) ++ more in
      let words = x.name ∷ map (field_word s.classes) x.fields in
      let sum : length seen + suc (length xs) ≡ length s.classes = sym (length-append seen (x ∷ xs)) ∙ ap length e in
      let few = known.names.few in
      let long : length names ≡ length s.classes = length-map s.classes (λ (c : ClassDecl). c.name) in
      let at : class_names seen ++ x.name ∷ class_names xs ≡ names = sym (map-append (λ (c : ClassDecl). c.name) seen (x ∷ xs)) ∙ ap class_names e in
      let at_group : group_of seen ++ named_of x ∷ group_of xs ≡ group = sym (map-append named_of seen (x ∷ xs)) ∙ ap group_of e in
      let name = name_here names (class_names seen) (class_names xs) x.name known.names.spelled at in
      let fresh = fresh_at names (class_names seen) (class_names xs) x.name known.names.apart at in
      let run : run_group s.version lines ≡ group_of xs = run_of s.version s.classes known xs more (λ i lt. spelled (suc i) (omega arith)) fields.1 of.1 ∙ (ap (λ (l : List Grouped). group_of xs ++ l) stops ∙ append-nil (group_of xs)) in
      let grouped_is : grouped front x.immortal words lines ≡ head_with seen [] group =
      group_is (is_class p) (head_with seen [] g) (named_of x ∷ run_group s.version lines) later
      (λ no. ap (λ (l : List Grouped). named_of x ∷ l) run ∙ (ap (λ (cs : List ClassDecl). group_of cs ++ named_of x ∷ group_of xs) (sym (first no)) ∙ at_group)) in
      let none_weak : list_any (is_weak_field group) x.fields ≡ false =
      none_passes (is_weak_field group) x.fields (subst (λ (is : List Bool). AllByRecursion (λ (f : FieldDecl). is_weak_immortal is f.kind f.class ≡ false) x.fields) (sym (immortals_back s.classes)) allowed.0) in
      let entered : any_line front (body (class_line s.classes x)) lines ≡ Ok next =
      class_enters front x.immortal words lines (class_spelled s.classes known x name fields.0) st of.0
      ∙ (ap (λ (k : HeadSaid). with_head front behind.Class (form.class_line k x.immortal words)) grouped_is
      ∙ ap (with_head front behind.Class) (class_back (head_with seen [] group) names (length s.classes) x (names_back s.classes) known.names long name fresh fields.0 (omega arith) none_weak)) in
      goes_on n front next (body (class_line s.classes x)) lines entered
      ∙ classes_read xs (seen ++ x ∷ []) behind.Class group (n + 1) refl (λ _. refl) (λ no. absurd cc) (append_assoc seen (x ∷ []) xs ∙ e) (λ i lt. spelled (suc i) (omega arith)) fields.1 allowed.1 of.1 more stops then

  -- ---- no class line follows the classes

  stop_done : run_group s.version done_text ≡ []
  stop_done = run_step s.version (codes "done") [] [] (word_from_test (codes "done") refl, tt)

  stop_schedule : (fuel : ℕ) (xs : List ℕ) → AllByRecursion (λ q. (1 ≤ q) × (q ≤ length s.threads)) xs → run_group s.version (texts (schedule_upto fuel xs) ++ done_text) ≡ []
  stop_schedule zero xs are = stop_done
  stop_schedule (suc fuel) [] are = stop_done
  stop_schedule (suc fuel) (x ∷ xs) are =
      run_step s.version (codes "schedule") (map decimal (take 32 (x ∷ xs))) (texts (schedule_upto fuel (drop 32 (x ∷ xs))) ++ done_text)
      (numbers_spelled (codes "schedule") (take 32 (x ∷ xs)) (word_from_test (codes "schedule") refl) (small_places (length s.threads) (take 32 (x ∷ xs)) h.few_threads (all_take (λ q. (1 ≤ q) × (q ≤ length s.threads)) 32 (x ∷ xs) are)))

  stop_threads : (ts : List ThreadDecl) (m : ℕ) (more : List (List ℕ)) → m < 2 ^ 64 → run_group s.version more ≡ [] → run_group s.version (texts (threads_lines s.classes s.globals m ts) ++ more) ≡ []
  stop_threads [] m more small e = e
  stop_threads (t ∷ ts) m more small e =
      run_step s.version (codes "thread") (decimal m ∷ []) (texts ((map (decl_line (codes "var") s.classes) t.vars ++ phase_lines s.classes s.globals t.vars t.phases) ++ threads_lines s.classes s.globals (m + 1) ts) ++ more)
      (numbers_spelled (codes "thread") (m ∷ []) (word_from_test (codes "thread") refl) (small, tt))

  stop_globals : (vs : List VarDecl) (more : List (List ℕ)) → ((i : ℕ) → i < length (var_names vs) → is_name (name_at (var_names vs) i) ≡ true) → AllByRecursion (λ (v : VarDecl). v.class < length s.classes) vs → run_group s.version more ≡ []
      → run_group s.version (texts (map (decl_line (codes "global") s.classes) vs) ++ more) ≡ []
  stop_globals [] more spelled of e = e
  stop_globals (v ∷ vs) more spelled of e =
      run_step s.version (codes "global") (v.name ∷ kind_word v.kind ∷ name_at names v.class ∷ []) (texts (map (decl_line (codes "global") s.classes) vs) ++ more)
      (decl_spelled (codes "global") (word_from_test (codes "global") refl) s.classes h.heading.classes_named v (spelled 0 (omega arith)) of.0)

  -- ---- the whole

  module _ (most : s.shape.caps.wide < 2 ^ 32) where
    abbrev schedule_text : List (List ℕ)
    schedule_text = texts (schedule_lines s.schedule) ++ done_text

    abbrev threads_text : List (List ℕ)
    threads_text = texts (threads_lines s.classes s.globals 1 s.threads) ++ schedule_text

    abbrev globals_text : List (List ℕ)
    globals_text = texts (map (decl_line (codes "global") s.classes) s.globals) ++ threads_text

    abbrev classes_text : List (List ℕ)
    classes_text = texts (map (class_line s.classes) s.classes) ++ globals_text

    cut : lines_of (canonical s) ≡ body (numbers_line (codes "arc") (s.version ∷ [])) ∷ body (numbers_line (codes "slots") (s.shape.slots ∷ [])) ∷ body (numbers_line (codes "entries") (s.shape.entries ∷ []))
        ∷ body (numbers_line (codes "caps") (s.shape.caps.strong ∷ s.shape.caps.unowned ∷ s.shape.caps.wide ∷ [])) ∷ classes_text
    cut =
        let cs = map (class_line s.classes) s.classes in
        let gs = map (decl_line (codes "global") s.classes) s.globals in
        let ts = threads_lines s.classes s.globals 1 s.threads in
        let ps = schedule_lines s.schedule in
        let end : List (List (List ℕ)) = (codes "done" ∷ []) ∷ [] in
        let split : map body ((cs ++ gs) ++ (ts ++ (ps ++ end))) ≡ classes_text =
        rw (map-append body (cs ++ gs) (ts ++ (ps ++ end)), map-append body cs gs, map-append body ts (ps ++ end), map-append body ps end) (append_assoc (map body cs) (map body gs) (map body ts ++ (map body ps ++ done_text))) in
        lines_of_text (script_lines s) (script_spelled s h most)
        ∙ ap (λ (l : List (List ℕ)). body (numbers_line (codes "arc") (s.version ∷ [])) ∷ body (numbers_line (codes "slots") (s.shape.slots ∷ [])) ∷ body (numbers_line (codes "entries") (s.shape.entries ∷ []))
        ∷ body (numbers_line (codes "caps") (s.shape.caps.strong ∷ s.shape.caps.unowned ∷ s.shape.caps.wide ∷ [])) ∷ l) split

    classes_on : (n : ℕ) → lines_from n (with behind.Caps (head_with [] [] []) no_body) classes_text ≡ Ok s
    classes_on n =
        let known = h.heading.classes_named in
        let cells = h.heading.globals_named in
        let room = h.few_ops in
        let stops : run_group s.version globals_text ≡ [] =
        stop_globals s.globals threads_text cells.names.spelled cells.of_classes (stop_threads s.threads 1 schedule_text (lit< tt) (stop_schedule (length s.schedule) s.schedule h.places)) in
        classes_read s.classes [] behind.Caps [] n refl (λ no. absurd cc) (λ _. refl) refl known.names.spelled known.fields h.heading.fields_allowed h.classes_of_version globals_text stops
        (λ n p g st. globals_read g s.globals [] p n st refl cells.of_classes h.heading.globals_allowed threads_text
        (λ n p st. threads_read g s.threads [] p no_body 0 1 n (global_thread s.version p st) (let closed_too = heading_open s.version p st in rw closed_too refl) refl (omega arith) h.threads h.threads_of_version (omega arith) schedule_text
        (λ n p b k st e. schedule_read (length s.schedule) s.schedule [] n p b g k (omega arith) refl h.places st e)))

    abbrev slots_head : HeadSaid
    slots_head = record (no_head s.version) { slots = s.shape.slots }

    abbrev entries_head : HeadSaid
    entries_head = record slots_head { entries = s.shape.entries }

    pub written_back : script_of (canonical s) ≡ Ok s
    written_back =
        let slots = h.heading.slots in
        let entries = h.heading.entries in
        let caps = h.heading.caps in
        let least_slots = slots.0 in let most_slots = slots.1 in
        let least_entries = entries.0 in let most_entries = entries.1 in
        let strong = caps.strong_fits in
        let unowned = caps.unowned_fits in
        let least_unowned = unowned.0 in let most_unowned = unowned.1 in
        let wide = caps.wide_fits in
        let above = wide.0 in let covers = wide.1 in
        let slots_text = body (numbers_line (codes "slots") (s.shape.slots ∷ [])) in
        let entries_text = body (numbers_line (codes "entries") (s.shape.entries ∷ [])) in
        let caps_text = body (numbers_line (codes "caps") (s.shape.caps.strong ∷ s.shape.caps.unowned ∷ s.shape.caps.wide ∷ [])) in
        let least = h.version.0 in
        let most_version = h.version.1 in
        let one = number_back 1 2 s.version least most_version (omega arith) in
        let slots_back = number_back 1 4096 s.shape.slots least_slots most_slots (omega arith) in
        let entries_back = number_back 1 4096 s.shape.entries least_entries most_entries (omega arith) in
        let strong_back = number_back 0 1073741823 s.shape.caps.strong (omega arith) strong (omega arith) in
        let unowned_back = number_back 1 2147483647 s.shape.caps.unowned least_unowned most_unowned (omega arith) in
        let wide_back = number_back 1 4294967295 s.shape.caps.wide (omega arith) (omega arith) (omega arith) in
        let not_low : leb s.shape.caps.wide s.shape.caps.strong ≡ false = search (rules, tests) in
        let not_less : ltb s.shape.caps.wide s.shape.caps.unowned ≡ false = le-ltb _ _ covers in
        let arc_in : any_line (nothing 1 behind.Start) (body (numbers_line (codes "arc") (s.version ∷ []))) (slots_text ∷ entries_text ∷ caps_text ∷ classes_text) ≡ Ok (with behind.Version (no_head s.version) no_body) =
        enters (nothing 1 behind.Start) (codes "arc") (decimal s.version ∷ []) word.Arc (slots_text ∷ entries_text ∷ caps_text ∷ classes_text) (numbers_spelled (codes "arc") (s.version ∷ []) (word_from_test (codes "arc") refl) (omega arith, tt)) refl refl refl ∙ rw one refl in
        let slots_in : any_line (with behind.Version (no_head s.version) no_body) slots_text (entries_text ∷ caps_text ∷ classes_text) ≡ Ok (with behind.Slots slots_head no_body) =
        enters (with behind.Version (no_head s.version) no_body) (codes "slots") (decimal s.shape.slots ∷ []) word.Slots (entries_text ∷ caps_text ∷ classes_text) (numbers_spelled (codes "slots") (s.shape.slots ∷ []) (word_from_test (codes "slots") refl) (omega arith, tt)) refl refl refl ∙ rw slots_back refl in
        let entries_in : any_line (with behind.Slots slots_head no_body) entries_text (caps_text ∷ classes_text) ≡ Ok (with behind.Entries entries_head no_body) =
        enters (with behind.Slots slots_head no_body) (codes "entries") (decimal s.shape.entries ∷ []) word.Entries (caps_text ∷ classes_text) (numbers_spelled (codes "entries") (s.shape.entries ∷ []) (word_from_test (codes "entries") refl) (omega arith, tt)) refl refl refl ∙ rw entries_back refl in
        let caps_in : any_line (with behind.Entries entries_head no_body) caps_text classes_text ≡ Ok (with behind.Caps (head_with [] [] []) no_body) =
        enters (with behind.Entries entries_head no_body) (codes "caps") (decimal s.shape.caps.strong ∷ decimal s.shape.caps.unowned ∷ decimal s.shape.caps.wide ∷ []) word.Caps classes_text
        (numbers_spelled (codes "caps") (s.shape.caps.strong ∷ s.shape.caps.unowned ∷ s.shape.caps.wide ∷ []) (word_from_test (codes "caps") refl) (omega arith, (omega arith, (omega arith, tt)))) refl refl refl
        ∙ rw (strong_back, unowned_back, wide_back, not_low, not_less) refl in
        ap (lines_from 1 (nothing 1 behind.Start)) cut
        ∙ (goes_on 1 (nothing 1 behind.Start) (with behind.Version (no_head s.version) no_body) (body (numbers_line (codes "arc") (s.version ∷ []))) (slots_text ∷ entries_text ∷ caps_text ∷ classes_text) arc_in
        ∙ (goes_on 2 (with behind.Version (no_head s.version) no_body) (with behind.Slots slots_head no_body) slots_text (entries_text ∷ caps_text ∷ classes_text) slots_in
        ∙ (goes_on 3 (with behind.Slots slots_head no_body) (with behind.Entries entries_head no_body) entries_text (caps_text ∷ classes_text) entries_in
        ∙ (goes_on 4 (with behind.Entries entries_head no_body) (with behind.Caps (head_with [] [] []) no_body) caps_text classes_text caps_in
        ∙ classes_on 5))))
