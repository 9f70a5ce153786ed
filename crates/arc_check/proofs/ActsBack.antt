-- The line of an event is read as the event.
use Rattle.std.proofs.Common.{◌≡◌, ℕ, ◌^◌, ◌<◌, ◌≤◌, Bool, true, false, eqb, List, [], ◌∷◌, length, Some, Ok, refl, sym, ap, subst, ◌∙◌, arith, rules, tests, lit<, lit≤, Option, None}
use Rattle.std.specs.Prelude.{bytes_eq, codes, slice_index}
use Rattle.std.specs.Char.{is_ascii_digit}
use Rattle.std.specs.Fmt.{decimal}
use Rattle.std.proofs.lemmas.List.{length-map}
use Rattle.arc_text.specs.Words.{is_name}
use Rattle.arc_model.specs.declared.shape.Kind.{Kind}
use Rattle.arc_model.specs.declared.shape.Kind.TheVariants as kind
use Rattle.arc_model.specs.declared.event.CellName.{CellName}
use Rattle.arc_model.specs.declared.event.CellName.TheVariants as cells
use Rattle.arc_model.specs.declared.event.Origin.{Origin}
use Rattle.arc_model.specs.declared.event.Origin.TheVariants as origins
use Rattle.arc_model.specs.declared.event.Got.{Got}
use Rattle.arc_model.specs.declared.event.Got.TheVariants as got
use Rattle.arc_model.specs.declared.event.Act.{Act}
use Rattle.arc_model.specs.declared.event.Act.TheVariants as act
use Rattle.arc_script.specs.declared.script.VarDecl.{VarDecl}
use Rattle.arc_script.specs.Valid.{name_at, class_names, var_names, AreClasses, AreVars}
use Rattle.arc_script.specs.Lookups.{var_place, is_cell_word}
use Rattle.arc_script.specs.Canonical.{kind_word}
use Rattle.arc_script_laws.proofs.Spelled.{IsInk, IsWord, word_from_test, name_word, decimal_word, marked_word, sign_word, body, words_of_body, plain_body}
use Rattle.arc_script_laws.proofs.FormsBack.{kind_back, class_at}
use Rattle.arc_script_laws.proofs.LinesSpelled.{IsLine}
use Rattle.arc_check.specs.declared.word.EventWord.{EventWord}
use Rattle.arc_check.specs.declared.word.EventWord.TheVariants as word
use Rattle.arc_check.specs.declared.line.EventLine.{EventLine}
use Rattle.arc_check.specs.declared.line.Told.TheVariants as told
use Rattle.arc_check.specs.Scopes.{Naming}
use Rattle.arc_check.specs.EventWords.{event_word_of}
use Rattle.arc_check.specs.EventForms.{cell_of, has_origin_parts, origin_of, fits, act_of, event_form, event_line}
use Rattle.arc_check.specs.EventTexts.{told_line}
use Rattle.arc_check.specs.WrittenHistory.{last_word, got_word, hand_word, field_word, cell_word, origin_word, act_words, event_words, HandFits, HandOrNilFits, GotFits, CellFits, OriginFits, ActFits, EventFits}
use Rattle.arc_check.proofs.WordsBack.{IsDigits, decimal_digits, begins_with_digit, no_text, hand_back, slot_back, entry_back, thread_back, step_back, index_back, last_back, hand_or_nil_back, got_back, parts_back, hand_word_back}

-- ---- words

kind_spelled : (k : Kind) → IsWord (kind_word k)
kind_spelled kind.Strong = word_from_test (codes "strong") refl
kind_spelled kind.Unowned = word_from_test (codes "unowned") refl
kind_spelled kind.Weak = word_from_test (codes "weak") refl

last_spelled : (l : Bool) → IsWord (last_word l)
last_spelled true = word_from_test (codes "last") refl
last_spelled false = word_from_test (codes "more") refl

hand_spelled : (k : ℕ) → HandFits k → IsWord (decimal k)
hand_spelled k h = decimal_word k (omega arith)

hand_or_nil_spelled : (o : Option ℕ) → HandOrNilFits o → IsWord (hand_word o)
hand_or_nil_spelled None h = word_from_test (codes "nil") refl
hand_or_nil_spelled (Some k) h = hand_spelled k h

got_spelled : (g : Got) → GotFits g → IsWord (got_word g)
got_spelled got.Dead h = word_from_test (codes "dead") refl
got_spelled got.Nil h = word_from_test (codes "nil") refl
got_spelled (got.Hand k) h = hand_spelled k h

dot_ink : IsInk 46
dot_ink = (lit≤ tt, lit≤ tt)

sign_ink : IsInk 64
sign_ink = (lit≤ tt, lit≤ tt)

field_spelled : (s f : ℕ) → s < 2 ^ 64 → f < 2 ^ 64 → IsWord (field_word s f)
field_spelled s f hs hf = marked_word 46 (decimal s) (decimal f) dot_ink (decimal_word s hs) (decimal_word f hf)

-- what an act's line says behind the step and the thread
pub record ActBack (scope : Naming) (a : Act) : Type 0 where
  pub word : EventWord
  pub first : List ℕ
  pub rest : List (List ℕ)
  pub is : act_words scope.classes scope.globals a ≡ first ∷ rest
  pub spelled : IsLine (first ∷ rest)
  pub known : event_word_of first ≡ Some word
  pub fits_it : fits word rest ≡ true
  pub back : act_of scope word rest ≡ Ok a

module _ (scope : Naming) (slots : scope.slots ≤ 4096) (entries : scope.entries ≤ 4096) (threads : scope.threads ≤ 64) (classes : AreClasses scope.classes) (globals : AreVars 64 (length scope.classes) scope.globals) where
  global_at : (g : ℕ) → g < length scope.globals → (var_place scope.globals (name_at (var_names scope.globals) g) ≡ Some g) × (is_name (name_at (var_names scope.globals) g) ≡ true)
  global_at g lt =
      let long : length (var_names scope.globals) ≡ length scope.globals = length-map scope.globals (λ (v : VarDecl). v.name) in
      (globals.names.apart g (omega arith), globals.names.spelled g (omega arith))

  cell_spelled : (c : CellName) → CellFits scope c → IsWord (cell_word scope.globals c)
  cell_spelled (cells.Field s f) h = let hs = h.0 in let hf = h.1 in field_spelled s f (omega arith) (omega arith)
  cell_spelled (cells.Global g) h = sign_word 64 (name_at (var_names scope.globals) g) sign_ink (name_word (name_at (var_names scope.globals) g) (global_at g h).1)

  cell_parts : (c : CellName) → CellFits scope c → is_cell_word (cell_word scope.globals c) ≡ true
  cell_parts (cells.Field s f) h =
      let hs = h.0 in let hf = h.1 in
      let p = parts_back s f (omega arith) (omega arith) in
      let sign = p.sign in let one = p.one in
      rw (sign, one) refl
  cell_parts (cells.Global g) h = refl

  cell_back : (c : CellName) → CellFits scope c → cell_of scope (cell_word scope.globals c) ≡ Ok c
  cell_back (cells.Field s f) h =
      let hs = h.0 in let hf = h.1 in
      let p = parts_back s f (omega arith) (omega arith) in
      let sign = p.sign in let first = p.first in let second = p.second in
      let slot = slot_back scope s slots hs in
      let field = index_back f hf in
      rw (sign, first, second, slot, field) refl
  cell_back (cells.Global g) h =
      let at = global_at g h in
      let place = at.0 in let name = at.1 in
      rw (name, place) refl

  origin_spelled : (o : Origin) → OriginFits scope o → IsWord (origin_word scope.globals o)
  origin_spelled (origins.Hand k) h = hand_spelled k h
  origin_spelled (origins.Cell c) h = cell_spelled c h

  origin_parts : (o : Origin) → OriginFits scope o → has_origin_parts (origin_word scope.globals o) ≡ true
  origin_parts (origins.Hand k) h =
      let p = hand_word_back k (omega arith) in
      let sign = p.sign in let none = p.none in
      rw (sign, none) refl
  origin_parts (origins.Cell (cells.Field s f)) h =
      let hs = h.0 in let hf = h.1 in
      let p = parts_back s f (omega arith) (omega arith) in
      let sign = p.sign in let one = p.one in
      rw (sign, one) refl
  origin_parts (origins.Cell (cells.Global g)) h = refl

  origin_back : (o : Origin) → OriginFits scope o → origin_of scope (origin_word scope.globals o) ≡ Ok o
  origin_back (origins.Hand k) h =
      let p = hand_word_back k (omega arith) in
      let sign = p.sign in let none = p.none in
      let back = hand_back k h in
      rw (sign, none, back) refl
  origin_back (origins.Cell (cells.Field s f)) h =
      let hs = h.0 in let hf = h.1 in
      let p = parts_back s f (omega arith) (omega arith) in
      let sign = p.sign in let one = p.one in let first = p.first in let second = p.second in
      let slot = slot_back scope s slots hs in
      let field = index_back f hf in
      rw (sign, one, first, second, slot, field) refl
  origin_back (origins.Cell (cells.Global g)) h =
      let at = global_at g h in
      let place = at.0 in let name = at.1 in
      rw (name, place) refl

  slot_spelled : (s : ℕ) → s < scope.slots → IsWord (decimal s)
  slot_spelled s h = decimal_word s (omega arith)

  entry_spelled : (e : ℕ) → e < scope.entries → IsWord (decimal e)
  entry_spelled e h = decimal_word e (omega arith)

  pub act_back : (a : Act) → ActFits scope a → ActBack scope a
  act_back (act.New hand class slot) h =
      let at = class_at scope.classes classes class h.1 in
      let place = at.0 in let name = at.1 in
      let k = hand_back hand h.0 in
      let s = slot_back scope slot slots h.2 in
      record {
        word = word.New;
        first = codes "new";
        rest = decimal hand ∷ name_at (class_names scope.classes) class ∷ decimal slot ∷ [];
        is = refl;
        spelled = (word_from_test (codes "new") refl, (hand_spelled hand h.0, (name_word (name_at (class_names scope.classes) class) name, (slot_spelled slot h.2, tt))));
        known = refl;
        fits_it = refl;
        back = rw (k, s, name, place) refl;
      }
  act_back act.Full h = record { word = word.Full; first = codes "full"; rest = []; is = refl; spelled = (word_from_test (codes "full") refl, tt); known = refl; fits_it = refl; back = refl }
  act_back (act.Copy from hand) h =
      let k = hand_back hand h.1 in
      let o = origin_back from h.0 in
      record {
        word = word.Copy;
        first = codes "copy";
        rest = origin_word scope.globals from ∷ decimal hand ∷ [];
        is = refl;
        spelled = (word_from_test (codes "copy") refl, (origin_spelled from h.0, (hand_spelled hand h.1, tt)));
        known = refl;
        fits_it = origin_parts from h.0;
        back = rw (k, o) refl;
      }
  act_back (act.UnownedOf of hand) h =
      let o = hand_back of h.0 in
      let k = hand_back hand h.1 in
      record {
        word = word.Unown;
        first = codes "unown";
        rest = decimal of ∷ decimal hand ∷ [];
        is = refl;
        spelled = (word_from_test (codes "unown") refl, (hand_spelled of h.0, (hand_spelled hand h.1, tt)));
        known = refl;
        fits_it = refl;
        back = rw (o, k) refl;
      }
  act_back (act.WeakOf of hand) h =
      let o = hand_back of h.0 in
      let k = hand_back hand h.1 in
      record {
        word = word.Weak;
        first = codes "weak";
        rest = decimal of ∷ decimal hand ∷ [];
        is = refl;
        spelled = (word_from_test (codes "weak") refl, (hand_spelled of h.0, (hand_spelled hand h.1, tt)));
        known = refl;
        fits_it = refl;
        back = rw (o, k) refl;
      }
  act_back (act.Load of g) h =
      let o = hand_back of h.0 in
      let k = got_back g h.1 in
      record {
        word = word.Load;
        first = codes "load";
        rest = decimal of ∷ got_word g ∷ [];
        is = refl;
        spelled = (word_from_test (codes "load") refl, (hand_spelled of h.0, (got_spelled g h.1, tt)));
        known = refl;
        fits_it = refl;
        back = rw (o, k) refl;
      }
  act_back (act.Drop hand last) h =
      let k = hand_back hand h in
      let l = last_back last in
      record {
        word = word.Drop;
        first = codes "drop";
        rest = decimal hand ∷ last_word last ∷ [];
        is = refl;
        spelled = (word_from_test (codes "drop") refl, (hand_spelled hand h, (last_spelled last, tt)));
        known = refl;
        fits_it = refl;
        back = rw (k, l) refl;
      }
  act_back (act.CountFull list from) h =
      let o = origin_back from h in
      let k = kind_back list in
      record {
        word = word.CountFull;
        first = codes "countfull";
        rest = kind_word list ∷ origin_word scope.globals from ∷ [];
        is = refl;
        spelled = (word_from_test (codes "countfull") refl, (kind_spelled list, (origin_spelled from h, tt)));
        known = refl;
        fits_it = origin_parts from h;
        back = rw (o, k) refl;
      }
  act_back (act.Claim entry) h =
      let e = entry_back scope entry entries h in
      record {
        word = word.Claim;
        first = codes "claim";
        rest = decimal entry ∷ [];
        is = refl;
        spelled = (word_from_test (codes "claim") refl, (entry_spelled entry h, tt));
        known = refl;
        fits_it = refl;
        back = rw e refl;
      }
  act_back act.NoEntry h = record { word = word.NoEntry; first = codes "noentry"; rest = []; is = refl; spelled = (word_from_test (codes "noentry") refl, tt); known = refl; fits_it = refl; back = refl }
  act_back (act.Side slot entry why) h =
      let s = slot_back scope slot slots h.0 in
      let e = entry_back scope entry entries h.1 in
      let k = kind_back why in
      record {
        word = word.Side;
        first = codes "side";
        rest = decimal slot ∷ decimal entry ∷ kind_word why ∷ [];
        is = refl;
        spelled = (word_from_test (codes "side") refl, (slot_spelled slot h.0, (entry_spelled entry h.1, (kind_spelled why, tt))));
        known = refl;
        fits_it = refl;
        back = rw (s, e, k) refl;
      }
  act_back (act.Back entry) h =
      let e = entry_back scope entry entries h in
      record {
        word = word.Back;
        first = codes "back";
        rest = decimal entry ∷ [];
        is = refl;
        spelled = (word_from_test (codes "back") refl, (entry_spelled entry h, tt));
        known = refl;
        fits_it = refl;
        back = rw e refl;
      }
  act_back (act.Swap c put took) h =
      let cell = cell_back c h.0 in
      let p = hand_or_nil_back put h.1 in
      let t = hand_or_nil_back took h.2 in
      record {
        word = word.Swap;
        first = codes "swap";
        rest = cell_word scope.globals c ∷ hand_word put ∷ hand_word took ∷ [];
        is = refl;
        spelled = (word_from_test (codes "swap") refl, (cell_spelled c h.0, (hand_or_nil_spelled put h.1, (hand_or_nil_spelled took h.2, tt))));
        known = refl;
        fits_it = cell_parts c h.0;
        back = rw (p, t, cell) refl;
      }
  act_back (act.Look c) h =
      let cell = cell_back c h in
      record {
        word = word.Look;
        first = codes "look";
        rest = cell_word scope.globals c ∷ [];
        is = refl;
        spelled = (word_from_test (codes "look") refl, (cell_spelled c h, tt));
        known = refl;
        fits_it = cell_parts c h;
        back = rw cell refl;
      }
  act_back (act.Take slot field hand) h =
      let hs = h.0 in let hf = h.1 in
      let p = parts_back slot field (omega arith) (omega arith) in
      let one = p.one in let first = p.first in let second = p.second in
      let s = slot_back scope slot slots h.0 in
      let f = index_back field h.1 in
      let k = hand_back hand h.2 in
      record {
        word = word.Take;
        first = codes "take";
        rest = field_word slot field ∷ decimal hand ∷ [];
        is = refl;
        spelled = (word_from_test (codes "take") refl, (field_spelled slot field (omega arith) (omega arith), (hand_spelled hand h.2, tt)));
        known = refl;
        fits_it = rw one refl;
        back = rw (first, second, s, f, k) refl;
      }
  act_back (act.Finish slot last) h =
      let s = slot_back scope slot slots h in
      let l = last_back last in
      record {
        word = word.Finish;
        first = codes "finish";
        rest = decimal slot ∷ last_word last ∷ [];
        is = refl;
        spelled = (word_from_test (codes "finish") refl, (slot_spelled slot h, (last_spelled last, tt)));
        known = refl;
        fits_it = refl;
        back = rw (s, l) refl;
      }
  act_back (act.Vacate slot) h =
      let s = slot_back scope slot slots h in
      record {
        word = word.Vacate;
        first = codes "vacate";
        rest = decimal slot ∷ [];
        is = refl;
        spelled = (word_from_test (codes "vacate") refl, (slot_spelled slot h, tt));
        known = refl;
        fits_it = refl;
        back = rw s refl;
      }
  act_back (act.Gone entry last) h =
      let e = entry_back scope entry entries h in
      let l = last_back last in
      record {
        word = word.Gone;
        first = codes "gone";
        rest = decimal entry ∷ last_word last ∷ [];
        is = refl;
        spelled = (word_from_test (codes "gone") refl, (entry_spelled entry h, (last_spelled last, tt)));
        known = refl;
        fits_it = refl;
        back = rw (e, l) refl;
      }

  -- ---- the whole line

  pub event_spelled : (e : EventLine) → EventFits scope e → IsLine (event_words scope.classes scope.globals e)
  event_spelled e h =
      let b = act_back e.event.act h.act_fits in
      let few = h.thread_fits in
      (decimal_word e.step h.step_fits, (decimal_word e.event.thread (omega arith), subst (λ (ws : List (List ℕ)). IsLine ws) (sym b.is) b.spelled))

  form_back : (e : EventLine) (h : EventFits scope e) (b : ActBack scope e.event.act) → event_form scope (decimal e.step) (decimal e.event.thread) b.word b.rest ≡ Ok (told.Event e.step e.event)
  form_back e h b =
      let step = step_back e.step h.step_fits in
      let thread = thread_back scope e.event.thread threads h.thread_fits in
      let count = b.fits_it in
      let said = b.back in
      rw (count, step, thread, said) refl

  line_back : (e : EventLine) (h : EventFits scope e) → event_line scope (decimal e.step) (decimal e.event.thread ∷ act_words scope.classes scope.globals e.event.act) ≡ Ok (told.Event e.step e.event)
  line_back e h =
      let b = act_back e.event.act h.act_fits in
      let known = b.known in
      ap (λ (ws : List (List ℕ)). event_line scope (decimal e.step) (decimal e.event.thread ∷ ws)) b.is
      ∙ rw known (form_back e h b)

  digits_no_comment : (w : List ℕ) → IsDigits w → eqb (slice_index w 0) 35 ≡ false
  digits_no_comment w i = let low = i.digit.0 in let c : eqb i.first 35 ≡ false = search (rules, tests) in ap (λ (v : List ℕ). eqb (slice_index v 0) 35) i.is ∙ c

  digits_no_done : (w : List ℕ) → IsDigits w → bytes_eq w (codes "done") ≡ false
  digits_no_done w i = no_text 100 (111 ∷ 110 ∷ 101 ∷ []) w (lit< tt) i

  digits_first : (w : List ℕ) → IsDigits w → is_ascii_digit (slice_index w 0) ≡ true
  digits_first w i = ap (λ (v : List ℕ). is_ascii_digit (slice_index v 0)) i.is ∙ begins_with_digit w i

  pub event_back : (e : EventLine) → EventFits scope e → told_line scope false (body (event_words scope.classes scope.globals e)) ≡ Ok (told.Event e.step e.event)
  unfolding told_line
  event_back e h =
      let s = event_spelled e h in
      let d = decimal_digits e.step h.step_fits in
      let words = words_of_body (decimal e.step) (decimal e.event.thread ∷ act_words scope.classes scope.globals e.event.act) s.0 s.1 in
      let plain = plain_body (decimal e.step) (decimal e.event.thread ∷ act_words scope.classes scope.globals e.event.act) s.0 s.1 in
      let no_comment = digits_no_comment (decimal e.step) d in
      let no_done = digits_no_done (decimal e.step) d in
      let first = digits_first (decimal e.step) d in
      rw (words, no_comment, plain, no_done, first) (line_back e h)
