-- What an event that was read names is there.
use Rattle.std.proofs.Common.{◌≡◌, ℕ, ◌-◌, ◌^◌, ◌<◌, ◌≤◌, Bool, true, false, cond, eqb, List, [], ◌∷◌, length, Option, Some, None, Result, Ok, Err, refl, sym, subst, arith}
use Rattle.std.specs.Prelude.{not, bytes_eq, codes, slice_index, option_map, drop}
use Rattle.std.specs.List.{list_all, before_first, after_first}
use Rattle.std.specs.Char.{is_ascii_digit}
use Rattle.std.proofs.lemmas.List.{length-map}
use Rattle.arc_text.specs.Words.{is_name, is_plain, number_in, words_of}
use Rattle.arc_text.specs.Chain.{refuse, need}
use Rattle.arc_text.proofs.Numbers.{number_range}
use Rattle.arc_model.specs.declared.event.CellName.{CellName}
use Rattle.arc_model.specs.declared.event.CellName.TheVariants as cells
use Rattle.arc_model.specs.declared.event.Origin.{Origin}
use Rattle.arc_model.specs.declared.event.Origin.TheVariants as origins
use Rattle.arc_model.specs.declared.event.Got.{Got}
use Rattle.arc_model.specs.declared.event.Got.TheVariants as got
use Rattle.arc_model.specs.declared.event.Act.{Act}
use Rattle.arc_model.specs.declared.event.Act.TheVariants as act
use Rattle.arc_script.specs.declared.script.ClassDecl.{ClassDecl}
use Rattle.arc_script.specs.declared.script.VarDecl.{VarDecl}
use Rattle.arc_script.specs.declared.reason.Reason.{Reason}
use Rattle.arc_script.specs.declared.reason.Reason.TheVariants as why
use Rattle.arc_script.specs.Valid.{class_names, var_names}
use Rattle.arc_script.specs.Lookups.{kind_of, class_place, var_place, is_at_sign, is_dot}
use Rattle.arc_script.proofs.Inverted.{passed, found, ok_is, place_found}
use Rattle.arc_check.specs.declared.word.EventWord.{EventWord}
use Rattle.arc_check.specs.declared.word.EventWord.TheVariants as word
use Rattle.arc_check.specs.declared.line.Told.{Told}
use Rattle.arc_check.specs.declared.line.Told.TheVariants as told
use Rattle.arc_check.specs.Scopes.{Naming, slot_in, entry_in, thread_in}
use Rattle.arc_check.specs.EventWords.{event_word_of}
use Rattle.arc_check.specs.EventForms.{on_ok, hand_in, hand_or_nil, got_in, last_in, global_of, field_of, cell_of, is_cell_like, origin_of, fits, act_of, event_form, event_line}
use Rattle.arc_check.specs.EventTexts.{done_line, told_form, told_words, told_line}
use Rattle.arc_check.specs.WrittenHistory.{HandFits, HandOrNilFits, GotFits, CellFits, OriginFits, ActFits, EventFits}

-- what stands behind a part that was read
went_on : {X Y : Type 0} (r : Result X Reason) (f : X → Result Y Reason) (y : Y) → on_ok r f ≡ Ok y → (x : X) × (r ≡ Ok x) × (f x ≡ Ok y)
went_on (Ok x) f y e = (x, refl, e)
went_on (Err why) f y e = absurd cc

is_it : {X : Type 0} (P : X → Type 0) (x y : X) → (let r : Result X Reason = Ok x in r) ≡ Ok y → P x → P y
is_it P x y e p = subst P (sym (ok_is x y e)) p

-- ---- words

hand_fits : (w : List ℕ) (k : ℕ) → hand_in w ≡ Some k → HandFits k
hand_fits w k e = (number_range 0 4294967295 w k e).1

mapped : {X Y : Type 0} (f : X → Y) (o : Option X) (y : Y) → option_map f o ≡ Some y → (x : X) × (o ≡ Some x) × (f x ≡ y)
mapped f None y e = absurd cc
mapped f (Some x) y e = (x, refl, cc)

nil_or : (b : Bool) (w : List ℕ) (o : Option ℕ) → cond b (Some None) (option_map (λ h. Some h) (hand_in w)) ≡ Some o → HandOrNilFits o
nil_or true w o e = let n : o ≡ None = cc in subst HandOrNilFits (sym n) tt
nil_or false w o e = let m = mapped (λ (h : ℕ). Some h) (hand_in w) o e in subst HandOrNilFits m.2 (hand_fits w m.0 m.1)

hand_or_nil_fits : (w : List ℕ) (o : Option ℕ) → hand_or_nil w ≡ Some o → HandOrNilFits o
hand_or_nil_fits w o e = nil_or (bytes_eq w (codes "nil")) w o e

got_or : (b d : Bool) (w : List ℕ) (g : Got) → cond b (Some got.Dead) (cond d (Some got.Nil) (option_map (λ h. got.Hand h) (hand_in w))) ≡ Some g → GotFits g
got_or true d w g e = let n : g ≡ got.Dead = cc in subst GotFits (sym n) tt
got_or false true w g e = let n : g ≡ got.Nil = cc in subst GotFits (sym n) tt
got_or false false w g e = let m = mapped (λ (h : ℕ). got.Hand h) (hand_in w) g e in subst GotFits m.2 (hand_fits w m.0 m.1)

got_fits : (w : List ℕ) (g : Got) → got_in w ≡ Some g → GotFits g
got_fits w g e = got_or (bytes_eq w (codes "dead")) (bytes_eq w (codes "nil")) w g e

abbrev pub ToldFits : Naming → Told → Type 0
ToldFits scope told.Passed = Unit {0}
ToldFits scope (told.Event step e) = (n : ℕ) → EventFits scope (record { line = n; step = step; event = e })
ToldFits scope told.Done = Unit {0}

module _ (scope : Naming) (slots : 1 ≤ scope.slots) (entries : 1 ≤ scope.entries) where
  slot_fits : (w : List ℕ) (k : ℕ) → slot_in scope w ≡ Some k → k < scope.slots
  slot_fits w k e = let r = (number_range 0 (scope.slots - 1) w k e).1 in omega arith

  entry_fits : (w : List ℕ) (k : ℕ) → entry_in scope w ≡ Some k → k < scope.entries
  entry_fits w k e = let r = (number_range 0 (scope.entries - 1) w k e).1 in omega arith

  index_fits : (w : List ℕ) (k : ℕ) → number_in 0 7 w ≡ Some k → k < 8
  index_fits w k e = let r = (number_range 0 7 w k e).1 in omega arith

  class_fits : (w : List ℕ) (k : ℕ) → class_place scope.classes w ≡ Some k → k < length scope.classes
  class_fits w k e =
      let p = (place_found (class_names scope.classes) w k e).0 in
      let long : length (class_names scope.classes) ≡ length scope.classes = length-map scope.classes (λ (c : ClassDecl). c.name) in
      omega arith

  global_fits : (w : List ℕ) (k : ℕ) → var_place scope.globals w ≡ Some k → k < length scope.globals
  global_fits w k e =
      let p = (place_found (var_names scope.globals) w k e).0 in
      let long : length (var_names scope.globals) ≡ length scope.globals = length-map scope.globals (λ (v : VarDecl). v.name) in
      omega arith

  global_of_fits : (w : List ℕ) (c : CellName) → global_of scope w ≡ Ok c → CellFits scope c
  global_of_fits w c e =
      let p = passed (not (is_name w)) why.Spelling _ c e in
      let g = found (var_place scope.globals w) why.Unknown _ c p.1 in
      is_it (CellFits scope) (cells.Global g.0) c g.2 (global_fits w g.0 g.1)

  field_of_fits : (w v : List ℕ) (c : CellName) → field_of scope w v ≡ Ok c → CellFits scope c
  field_of_fits w v c e =
      let s = found (slot_in scope w) why.Number _ c e in
      let f = found (number_in 0 7 v) why.Number _ c s.2 in
      is_it (CellFits scope) (cells.Field s.0 f.0) c f.2 (slot_fits w s.0 s.1, index_fits v f.0 f.1)

  cell_or : (b : Bool) (w : List ℕ) (c : CellName) → cond b (global_of scope (drop 1 w)) (field_of scope (before_first is_dot w) (after_first is_dot w)) ≡ Ok c → CellFits scope c
  cell_or true w c e = global_of_fits (drop 1 w) c e
  cell_or false w c e = field_of_fits (before_first is_dot w) (after_first is_dot w) c e

  cell_fits : (w : List ℕ) (c : CellName) → cell_of scope w ≡ Ok c → CellFits scope c
  cell_fits w c e = cell_or (is_at_sign w) w c e

  origin_or : (b : Bool) (w : List ℕ) (o : Origin) → cond b (on_ok (cell_of scope w) (λ c. Ok (origins.Cell c))) (need (hand_in w) why.Number (λ h. Ok (origins.Hand h))) ≡ Ok o → OriginFits scope o
  origin_or true w o e =
      let c = went_on (cell_of scope w) _ o e in
      is_it (OriginFits scope) (origins.Cell c.0) o c.2 (cell_fits w c.0 c.1)
  origin_or false w o e =
      let h = found (hand_in w) why.Number _ o e in
      is_it (OriginFits scope) (origins.Hand h.0) o h.2 (hand_fits w h.0 h.1)

  origin_fits : (w : List ℕ) (o : Origin) → origin_of scope w ≡ Ok o → OriginFits scope o
  origin_fits w o e = origin_or (is_cell_like w) w o e

  -- ---- acts

  act_fits : (w : EventWord) (words : List (List ℕ)) (a : Act) → act_of scope w words ≡ Ok a → ActFits scope a
  act_fits word.New (hand ∷ class ∷ slot ∷ []) a e =
      let k = found (hand_in hand) why.Number _ a e in
      let s = found (slot_in scope slot) why.Number _ a k.2 in
      let n = passed (not (is_name class)) why.Spelling _ a s.2 in
      let c = found (class_place scope.classes class) why.Unknown _ a n.1 in
      is_it (ActFits scope) (act.New k.0 c.0 s.0) a c.2 (hand_fits hand k.0 k.1, class_fits class c.0 c.1, slot_fits slot s.0 s.1)
  act_fits word.Full [] a e = is_it (ActFits scope) act.Full a e tt
  act_fits word.Copy (from ∷ hand ∷ []) a e =
      let k = found (hand_in hand) why.Number _ a e in
      let o = went_on (origin_of scope from) _ a k.2 in
      is_it (ActFits scope) (act.Copy o.0 k.0) a o.2 (origin_fits from o.0 o.1, hand_fits hand k.0 k.1)
  act_fits word.Unown (of ∷ hand ∷ []) a e =
      let h = found (hand_in of) why.Number _ a e in
      let k = found (hand_in hand) why.Number _ a h.2 in
      is_it (ActFits scope) (act.UnownedOf h.0 k.0) a k.2 (hand_fits of h.0 h.1, hand_fits hand k.0 k.1)
  act_fits word.Weak (of ∷ hand ∷ []) a e =
      let h = found (hand_in of) why.Number _ a e in
      let k = found (hand_in hand) why.Number _ a h.2 in
      is_it (ActFits scope) (act.WeakOf h.0 k.0) a k.2 (hand_fits of h.0 h.1, hand_fits hand k.0 k.1)
  act_fits word.Load (of ∷ g ∷ []) a e =
      let h = found (hand_in of) why.Number _ a e in
      let k = found (got_in g) why.Number _ a h.2 in
      is_it (ActFits scope) (act.Load h.0 k.0) a k.2 (hand_fits of h.0 h.1, got_fits g k.0 k.1)
  act_fits word.Drop (hand ∷ last ∷ []) a e =
      let h = found (hand_in hand) why.Number _ a e in
      let l = found (last_in last) why.Number _ a h.2 in
      is_it (ActFits scope) (act.Drop h.0 l.0) a l.2 (hand_fits hand h.0 h.1)
  act_fits word.CountFull (list ∷ from ∷ []) a e =
      let o = went_on (origin_of scope from) _ a e in
      let k = found (kind_of list) why.Kind _ a o.2 in
      is_it (ActFits scope) (act.CountFull k.0 o.0) a k.2 (origin_fits from o.0 o.1)
  act_fits word.Claim (entry ∷ []) a e =
      let n = found (entry_in scope entry) why.Number _ a e in
      is_it (ActFits scope) (act.Claim n.0) a n.2 (entry_fits entry n.0 n.1)
  act_fits word.NoEntry [] a e = is_it (ActFits scope) act.NoEntry a e tt
  act_fits word.Side (slot ∷ entry ∷ reason ∷ []) a e =
      let s = found (slot_in scope slot) why.Number _ a e in
      let n = found (entry_in scope entry) why.Number _ a s.2 in
      let k = found (kind_of reason) why.Kind _ a n.2 in
      is_it (ActFits scope) (act.Side s.0 n.0 k.0) a k.2 (slot_fits slot s.0 s.1, entry_fits entry n.0 n.1)
  act_fits word.Back (entry ∷ []) a e =
      let n = found (entry_in scope entry) why.Number _ a e in
      is_it (ActFits scope) (act.Back n.0) a n.2 (entry_fits entry n.0 n.1)
  act_fits word.Swap (cell ∷ put ∷ took ∷ []) a e =
      let h = found (hand_or_nil put) why.Number _ a e in
      let k = found (hand_or_nil took) why.Number _ a h.2 in
      let c = went_on (cell_of scope cell) _ a k.2 in
      is_it (ActFits scope) (act.Swap c.0 h.0 k.0) a c.2 (cell_fits cell c.0 c.1, hand_or_nil_fits put h.0 h.1, hand_or_nil_fits took k.0 k.1)
  act_fits word.Look (cell ∷ []) a e =
      let c = went_on (cell_of scope cell) _ a e in
      is_it (ActFits scope) (act.Look c.0) a c.2 (cell_fits cell c.0 c.1)
  act_fits word.Take (cell ∷ hand ∷ []) a e =
      let s = found (slot_in scope (before_first is_dot cell)) why.Number _ a e in
      let f = found (number_in 0 7 (after_first is_dot cell)) why.Number _ a s.2 in
      let k = found (hand_in hand) why.Number _ a f.2 in
      is_it (ActFits scope) (act.Take s.0 f.0 k.0) a k.2 (slot_fits (before_first is_dot cell) s.0 s.1, index_fits (after_first is_dot cell) f.0 f.1, hand_fits hand k.0 k.1)
  act_fits word.Finish (slot ∷ last ∷ []) a e =
      let s = found (slot_in scope slot) why.Number _ a e in
      let l = found (last_in last) why.Number _ a s.2 in
      is_it (ActFits scope) (act.Finish s.0 l.0) a l.2 (slot_fits slot s.0 s.1)
  act_fits word.Vacate (slot ∷ []) a e =
      let s = found (slot_in scope slot) why.Number _ a e in
      is_it (ActFits scope) (act.Vacate s.0) a s.2 (slot_fits slot s.0 s.1)
  act_fits word.Gone (entry ∷ last ∷ []) a e =
      let n = found (entry_in scope entry) why.Number _ a e in
      let l = found (last_in last) why.Number _ a n.2 in
      is_it (ActFits scope) (act.Gone n.0 l.0) a l.2 (entry_fits entry n.0 n.1)
  act_fits w words a e = absurd cc

  -- ---- lines

  form_fits : (step thread : List ℕ) (w : EventWord) (words : List (List ℕ)) (t : Told) → event_form scope step thread w words ≡ Ok t → ToldFits scope t
  form_fits step thread w words t e =
      let c = passed (not (fits w words)) why.WordCount _ t e in
      let n = found (number_in 0 (2 ^ 64 - 1) step) why.Number _ t c.1 in
      let p = found (thread_in scope thread) why.Number _ t n.2 in
      let a = went_on (act_of scope w words) _ t p.2 in
      let small : n.0 < 2 ^ 64 = (let r = (number_range 0 (2 ^ 64 - 1) step n.0 n.1).1 in omega arith) in
      let few : p.0 ≤ scope.threads = (number_range 0 scope.threads thread p.0 p.1).1 in
      is_it (ToldFits scope) (told.Event n.0 (record { thread = p.0; act = a.0 })) t a.2
      (λ k. record { step_fits = small; thread_fits = few; act_fits = act_fits w words a.0 a.1 })

  line_fits : (step : List ℕ) (words : List (List ℕ)) (t : Told) → event_line scope step words ≡ Ok t → ToldFits scope t
  line_fits step [] t e = absurd cc
  line_fits step (thread ∷ []) t e = absurd cc
  line_fits step (thread ∷ first ∷ words) t e =
      let w = found (event_word_of first) why.FirstWord _ t e in
      form_fits step thread w.0 words t w.2

  done_fits : (words : List (List ℕ)) (t : Told) → done_line words ≡ Ok t → ToldFits scope t
  done_fits [] t e = is_it (ToldFits scope) told.Done t e tt
  done_fits (w ∷ ws) t e = absurd cc

  done_or : (b : Bool) (first : List ℕ) (words : List (List ℕ)) (t : Told) → cond b (done_line words) (refuse (not (is_ascii_digit (slice_index first 0))) why.FirstWord (event_line scope first words)) ≡ Ok t → ToldFits scope t
  done_or true first words t e = done_fits words t e
  done_or false first words t e = line_fits first words t (passed (not (is_ascii_digit (slice_index first 0))) why.FirstWord _ t e).1

  told_form_fits : (ended : Bool) (first : List ℕ) (words : List (List ℕ)) (t : Told) → told_form scope ended first words ≡ Ok t → ToldFits scope t
  told_form_fits true first words t e = absurd cc
  told_form_fits false first words t e = done_or (bytes_eq first (codes "done")) first words t e

  comment_or : (b : Bool) (r : Result Told Reason) (t : Told) → cond b (Ok told.Passed) r ≡ Ok t → (r ≡ Ok t → ToldFits scope t) → ToldFits scope t
  comment_or true r t e k = is_it (ToldFits scope) told.Passed t e tt
  comment_or false r t e k = k e

  words_fit : (ended : Bool) (line : List ℕ) (words : List (List ℕ)) (t : Told) → told_words scope ended line words ≡ Ok t → ToldFits scope t
  words_fit ended line [] t e = is_it (ToldFits scope) told.Passed t e tt
  words_fit ended line (first ∷ words) t e =
      comment_or (eqb (slice_index first 0) 35) _ t e (λ k. told_form_fits ended first words t (passed (not (list_all is_plain line)) why.Byte _ t k).1)

  pub told_fits : (ended : Bool) (line : List ℕ) (t : Told) → told_line scope ended line ≡ Ok t → ToldFits scope t
  unfolding told_line
  told_fits ended line t e = words_fit ended line (words_of line) t e
