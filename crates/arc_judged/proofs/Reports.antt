-- The report of a replay goes before a history text.
use Rattle.std.proofs.Common.{◌≡◌, ℕ, ◌<◌, Bool, true, false, Option, Some, None, cond, eqb, List, [], ◌∷◌, ◌++◌, length, get_or, refl, sym, ap, subst, ◌∙◌, append_assoc, ⊎_elim, arith}
use Rattle.std.specs.Prelude.{codes, All}
use Rattle.std.specs.List.{AllByRecursion, flat_map}
use Rattle.std.specs.Fmt.{decimal}
use Rattle.std.proofs.lemmas.Bool.{cases_lt}
use Rattle.std.proofs.lemmas.List.{length-map, get_or_past}
use Rattle.std.proofs.lemmas.List.Elements.{recursion_from_All}
use Rattle.arc_text.specs.Words.{is_name}
use Rattle.arc_model.specs.declared.event.ObjectName.{ObjectName}
use Rattle.arc_model.specs.declared.answer.Answer.{Answer}
use Rattle.arc_model.specs.declared.answer.Answer.TheVariants as answer
use Rattle.arc_bits.specs.declared.packing.Word.{Word}
use Rattle.arc_bits.specs.declared.packing.Word.TheVariants as word
use Rattle.arc_bits.specs.Words.{unpacked}
use Rattle.arc_rule.specs.Extents.{Extent}
use Rattle.arc_rule.specs.Places.{extent_of}
use Rattle.arc_rule.specs.declared.layout.Place.TheVariants as place
use Rattle.arc_script.specs.declared.answer.Line.{Line}
use Rattle.arc_script.specs.declared.script.ClassDecl.{ClassDecl}
use Rattle.arc_script.specs.declared.script.Script.{Script}
use Rattle.arc_script.specs.Valid.{name_at, class_names, IsScript}
use Rattle.arc_ops.specs.declared.told.ThreadLines.{ThreadLines}
use Rattle.arc_plain.specs.declared.replay.Replay.{Replay}
use Rattle.arc_replays.specs.Named.{LineFits}
use Rattle.arc_plain.specs.Replays.{IsReplay}
use Rattle.arc_report.specs.Names.{object_text}
use Rattle.arc_report.specs.Lines.{answer_text, operation_text, line_text, thread_text, end_line_text, end_text, object_total, deinit_total}
use Rattle.arc_report.specs.Words.{word_at, is_live}
use Rattle.arc_report.proofs.AllThere.{each_leak}
use Rattle.arc_rule.specs.Isa.{isa_name_of}
use Rattle.arc_report.specs.Leaks.{leaks_of, leak_at, leak_name, leak_text, is_immortal, counts_text, state_text, side_text, hex_text, freed_of, freed_text}
use Rattle.arc_report.specs.Report.{totals_text, left_text, left_total}
use Rattle.arc_check.specs.Behind.{GoesBefore}
use Rattle.arc_check.proofs.OtherLines.{Unbroken, both_before, each_before}
use Rattle.arc_judged.specs.Written.{report_of}
use Rattle.arc_judged.proofs.Lines.{joined, hex_unbroken, unbroken_test, Opens, opens_unbroken, opens_more, line_end, part, opened, decimal_opens, decimal_unbroken, name_unbroken}

module _ (names : List (List ℕ)) (spelled : (i : ℕ) → i < length names → is_name (name_at names i) ≡ true) where
  object_unbroken : (name : ObjectName) → name.class < length names → Unbroken (object_text names name)
  object_unbroken name h =
      joined (name_at names name.class) (35 ∷ (decimal name.thread ++ 46 ∷ decimal name.number)) (name_unbroken (name_at names name.class) (spelled name.class h))
      (refl, joined (decimal name.thread) (46 ∷ decimal name.number) (decimal_unbroken name.thread) (refl, decimal_unbroken name.number))

  answer_opens : (n : ℕ) → n ≡ length names → (line : Line) → LineFits n line → Opens (answer_text names line.answer)
  answer_opens n e line fits = at line.answer fits
    where
      within : (name : ObjectName) → name.class < n → name.class < length names
      within name h = omega arith

      at : (a : Answer) → LineFits n (record { operation = 0; answer = a }) → Opens (answer_text names a)
      at (answer.New name) h = opens_more (codes "new ") (object_text names name) (refl, refl, unbroken_test (codes "new ") refl) (object_unbroken name (within name h))
      at answer.Full h = (refl, refl, unbroken_test (codes "full") refl)
      at (answer.Got name) h = opens_more (codes "got ") (object_text names name) (refl, refl, unbroken_test (codes "got ") refl) (object_unbroken name (within name h))
      at answer.Ok h = (refl, refl, unbroken_test (codes "ok") refl)
      at answer.Nil h = (refl, refl, unbroken_test (codes "nil") refl)
      at answer.Dead h = (refl, refl, unbroken_test (codes "dead") refl)
      at answer.NoEntry h = (refl, refl, unbroken_test (codes "noentry") refl)
      at answer.CountFull h = (refl, refl, unbroken_test (codes "countfull") refl)
      at (answer.Deinit name) h = opens_more (codes "deinit ") (object_text names name) (refl, refl, unbroken_test (codes "deinit ") refl) (object_unbroken name (within name h))

  operation_opens : (n : ℕ) → Opens (operation_text n)
  operation_opens n = go (eqb n 0)
    where
      go : (b : Bool) → Opens (cond b (codes "end") (decimal n))
      go true = (refl, refl, unbroken_test (codes "end") refl)
      go false = decimal_opens n

  line_goes : (n : ℕ) → n ≡ length names → (line : Line) → LineFits n line → GoesBefore (line_text names line)
  line_goes n e line fits =
      opened (operation_text line.operation) (32 ∷ (answer_text names line.answer ++ 10 ∷ [])) (operation_opens line.operation)
      (part (32 ∷ []) (answer_text names line.answer ++ 10 ∷ []) (refl, tt) (part (answer_text names line.answer) (10 ∷ []) (opens_unbroken (answer_text names line.answer) (answer_opens n e line fits)) line_end))

  end_line_goes : (n : ℕ) → n ≡ length names → (line : Line) → LineFits n line → GoesBefore (end_line_text names line)
  end_line_goes n e line fits = opened (answer_text names line.answer) (10 ∷ []) (answer_opens n e line fits) line_end

  thread_goes : (n : ℕ) → n ≡ length names → (t : ThreadLines) → AllByRecursion (LineFits n) t.lines → GoesBefore (thread_text names t)
  thread_goes n e t fit =
      let head = opened (codes "thread ") (decimal t.thread ++ 10 ∷ []) (refl, refl, unbroken_test (codes "thread ") refl) (part (decimal t.thread) (10 ∷ []) (decimal_unbroken t.thread) line_end) in
      subst GoesBefore (ap (λ (l : List ℕ). codes "thread " ++ l) (append_assoc (decimal t.thread) (10 ∷ []) (flat_map (line_text names) t.lines)))
      (both_before (codes "thread " ++ (decimal t.thread ++ 10 ∷ [])) (flat_map (line_text names) t.lines) head (each_before (LineFits n) (line_text names) (line_goes n e) t.lines fit))

  end_goes : (n : ℕ) → n ≡ length names → (lines : List Line) → AllByRecursion (LineFits n) lines → GoesBefore (end_text names lines)
  end_goes n e lines fit =
      both_before (codes "end\n") (flat_map (end_line_text names) lines) (opened (codes "end") (10 ∷ []) (refl, refl, unbroken_test (codes "end") refl) line_end)
      (each_before (LineFits n) (end_line_text names) (end_line_goes n e) lines fit)

totals_go : (objects deinits leaks : ℕ) → GoesBefore (totals_text objects deinits leaks)
totals_go objects deinits leaks =
    opened (codes "objects ") (decimal objects ++ (codes " deinits " ++ (decimal deinits ++ (codes " leaks " ++ (decimal leaks ++ codes "\n"))))) (refl, refl, unbroken_test (codes "objects ") refl)
    (part (decimal objects) (codes " deinits " ++ (decimal deinits ++ (codes " leaks " ++ (decimal leaks ++ codes "\n")))) (decimal_unbroken objects)
    (part (codes " deinits ") (decimal deinits ++ (codes " leaks " ++ (decimal leaks ++ codes "\n"))) (unbroken_test (codes " deinits ") refl)
    (part (decimal deinits) (codes " leaks " ++ (decimal leaks ++ codes "\n")) (decimal_unbroken deinits)
    (part (codes " leaks ") (decimal leaks ++ codes "\n") (unbroken_test (codes " leaks ") refl)
    (part (decimal leaks) (10 ∷ []) (decimal_unbroken leaks) line_end)))))

-- ---- what is left

module _ (s : Script) (words : List ℕ) (valid : IsScript s) where
  abbrev names : List (List ℕ)
  names = class_names s.classes

  abbrev l : Extent
  l = extent_of s.shape

  -- a name that is none is empty
  name_whole : (i : ℕ) → Unbroken (name_at names i)
  name_whole i = ⊎_elim (λ within. name_unbroken (name_at names i) (valid.heading.classes_named.names.spelled i within)) (λ past. subst Unbroken (sym (get_or_past names i [] past)) tt) (cases_lt i (length names))

  object_whole : (name : ObjectName) → Unbroken (object_text names name)
  object_whole name =
      joined (name_at names name.class) (35 ∷ (decimal name.thread ++ 46 ∷ decimal name.number)) (name_whole name.class)
      (refl, joined (decimal name.thread) (46 ∷ decimal name.number) (decimal_unbroken name.thread) (refl, decimal_unbroken name.number))

  state_whole : (live : Bool) → Unbroken (state_text live)
  state_whole true = unbroken_test (codes "live") refl
  state_whole false = unbroken_test (codes "deinited") refl

  side_whole : (w : Option Word) → Unbroken (side_text l words w)
  side_whole (Some word.Free) = tt
  side_whole (Some (word.Counts c)) = tt
  side_whole (Some (word.Slow e)) =
      let strong = word_at l words (place.Strong e) in
      let unowned = word_at l words (place.Unowned e) in
      let weak = word_at l words (place.Weak e) in
      joined (codes " side ") (decimal strong ++ (codes " " ++ (decimal unowned ++ (codes " " ++ decimal weak)))) (unbroken_test (codes " side ") refl)
      (joined (decimal strong) (codes " " ++ (decimal unowned ++ (codes " " ++ decimal weak))) (decimal_unbroken strong)
      (joined (codes " ") (decimal unowned ++ (codes " " ++ decimal weak)) (unbroken_test (codes " ") refl)
      (joined (decimal unowned) (codes " " ++ decimal weak) (decimal_unbroken unowned) (joined (codes " ") (decimal weak) (unbroken_test (codes " ") refl) (decimal_unbroken weak)))))
  side_whole (Some word.Immortal) = tt
  side_whole None = tt

  counts_whole : (w : ℕ) → Unbroken (counts_text l words w)
  counts_whole w =
      joined (state_text (is_live l words (unpacked w))) (codes " " ++ (hex_text w ++ side_text l words (unpacked w))) (state_whole (is_live l words (unpacked w)))
      (joined (codes " ") (hex_text w ++ side_text l words (unpacked w)) (unbroken_test (codes " ") refl)
      (joined (hex_text w) (side_text l words (unpacked w)) (hex_unbroken w) (side_whole (unpacked w))))

  -- the line of an object that is left
  leak_goes : (slot : ℕ) → GoesBefore (leak_text s.classes l words (leak_at l words slot))
  leak_goes slot = by (is_immortal s.classes (leak_at l words slot))
    where
      name : List ℕ
      name = leak_name names (leak_at l words slot)

      name_is_whole : Unbroken name
      name_is_whole = object_whole (isa_name_of (word_at l words (place.Isa slot)))

      counts : List ℕ
      counts = counts_text l words (word_at l words (place.Count slot))

      by : (b : Bool) → GoesBefore (cond b (codes "immortal " ++ (name ++ codes "\n")) (codes "leak " ++ (name ++ (codes " " ++ (counts ++ codes "\n")))))
      by true = opened (codes "immortal ") (name ++ codes "\n") (refl, refl, unbroken_test (codes "immortal ") refl) (part name (codes "\n") name_is_whole line_end)
      by false =
          opened (codes "leak ") (name ++ (codes " " ++ (counts ++ codes "\n"))) (refl, refl, unbroken_test (codes "leak ") refl)
          (part name (codes " " ++ (counts ++ codes "\n")) name_is_whole
          (part (codes " ") (counts ++ codes "\n") (unbroken_test (codes " ") refl) (part counts (codes "\n") (counts_whole (word_at l words (place.Count slot))) line_end)))

  -- the line of an entry whose object has no slot
  freed_goes : (e : ℕ) → GoesBefore (freed_text l words e)
  freed_goes e =
      let weak = word_at l words (place.Weak e) in
      opened (codes "freed ") (decimal e ++ (codes " " ++ (decimal weak ++ codes "\n"))) (refl, refl, unbroken_test (codes "freed ") refl)
      (part (decimal e) (codes " " ++ (decimal weak ++ codes "\n")) (decimal_unbroken e)
      (part (codes " ") (decimal weak ++ codes "\n") (unbroken_test (codes " ") refl) (part (decimal weak) (codes "\n") (decimal_unbroken weak) line_end)))

  left_goes : GoesBefore (left_text s.classes l words)
  left_goes =
      both_before (flat_map (leak_text s.classes l words) (leaks_of l words)) (flat_map (freed_text l words) (freed_of l words))
      (each_before (λ leak. GoesBefore (leak_text s.classes l words leak)) (leak_text s.classes l words) (λ leak goes. goes) (leaks_of l words) (each_leak GoesBefore s.classes l words (λ slot there taken. leak_goes slot)))
      (each_before (λ e. Unit {0}) (freed_text l words) (λ e any. freed_goes e) (freed_of l words) (any_all (freed_of l words)))
    where
      any_all : (es : List ℕ) → AllByRecursion (λ (e : ℕ). Unit {0}) es
      any_all [] = tt
      any_all (e ∷ es) = (tt, any_all es)

-- the lines of all threads
lines_all : (n : ℕ) (threads : List ThreadLines) → All (λ (t : ThreadLines). All (LineFits n) t.lines) threads → AllByRecursion (λ (t : ThreadLines). AllByRecursion (LineFits n) t.lines) threads
lines_all n threads all =
    recursion_from_All (λ (t : ThreadLines). AllByRecursion (LineFits n) t.lines) threads (λ k d h. recursion_from_All (LineFits n) (get_or threads k d).lines (all k d h))

-- ---- the whole report

abbrev lines_in : Script → Replay → List ℕ
lines_in s r = flat_map (thread_text (class_names s.classes)) r.threads.items

abbrev end_in : Script → Replay → List ℕ
end_in s r = end_text (class_names s.classes) r.end.items

abbrev left_in : Script → Replay → List ℕ
left_in s r = left_text s.classes (extent_of s.shape) r.words.items

abbrev totals_in : Script → Replay → List ℕ
totals_in s r = totals_text (object_total r.threads.items) (deinit_total r.threads.items r.end.items) (left_total s.classes (extent_of s.shape) r.words.items)

pub replay_before : (s : Script) (r : Replay) → IsScript s → IsReplay s r → GoesBefore (report_of s r)
replay_before s r valid replay =
    both_before (codes "report 1\n") (lines_in s r ++ (end_in s r ++ (left_in s r ++ totals_in s r))) (opened (codes "report 1") (10 ∷ []) (refl, refl, unbroken_test (codes "report 1") refl) line_end)
    (both_before (lines_in s r) (end_in s r ++ (left_in s r ++ totals_in s r)) threads (both_before (end_in s r) (left_in s r ++ totals_in s r) end (both_before (left_in s r) (totals_in s r) none
    (totals_go (object_total r.threads.items) (deinit_total r.threads.items r.end.items) (left_total s.classes (extent_of s.shape) r.words.items)))))
  where
    none : GoesBefore (left_text s.classes (extent_of s.shape) r.words.items)
    none = left_goes s r.words.items valid

    spelled : (i : ℕ) → i < length (class_names s.classes) → is_name (name_at (class_names s.classes) i) ≡ true
    spelled = valid.heading.classes_named.names.spelled

    n_is : length s.shape.classes ≡ length (class_names s.classes)
    n_is = ap length valid.heading.of_classes ∙ length-map s.classes _ ∙ sym (length-map s.classes (λ (c : ClassDecl). c.name))

    threads : GoesBefore (flat_map (thread_text (class_names s.classes)) r.threads.items)
    threads = each_before (λ (t : ThreadLines). AllByRecursion (LineFits (length s.shape.classes)) t.lines) (thread_text (class_names s.classes))
        (thread_goes (class_names s.classes) spelled (length s.shape.classes) n_is) r.threads.items (lines_all (length s.shape.classes) r.threads.items replay.lines_fit)

    end : GoesBefore (end_text (class_names s.classes) r.end.items)
    end = end_goes (class_names s.classes) spelled (length s.shape.classes) n_is r.end.items (recursion_from_All (LineFits (length s.shape.classes)) r.end.items replay.end_fits)
