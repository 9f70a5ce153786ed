-- The heading of a canonical text is read as that heading.
use Rattle.std.proofs.Common.{◌≡◌, ℕ, suc, ◌+◌, ◌^◌, ◌<◌, Bool, true, false, cond, eqb, leb, ltb, List, [], ◌∷◌, ◌++◌, length, map, Result, Ok, Some, None, refl, sym, ap, ◌∙◌, append_assoc, append-nil, arith, rules, tests}
use Rattle.std.specs.Prelude.{codes, slice_index}
use Rattle.std.specs.List.{AllByRecursion, list_any}
use Rattle.std.specs.Fmt.{decimal}
use Rattle.std.proofs.lemmas.Bool.{le-ltb}
use Rattle.std.proofs.lemmas.List.{map-append, length-map, length-append}
use Rattle.arc_text.specs.Words.{is_name}
use Rattle.arc_model.specs.Shapes.{HeapShape}
use Rattle.arc_script.specs.declared.script.FieldDecl.{FieldDecl}
use Rattle.arc_script.specs.declared.script.ClassDecl.{ClassDecl}
use Rattle.arc_script.specs.declared.script.VarDecl.{VarDecl}
use Rattle.arc_script.specs.declared.reason.Reason.{Reason}
use Rattle.arc_script.specs.declared.keyword.Keyword.{Keyword}
use Rattle.arc_script.specs.declared.keyword.Keyword.TheVariants as word
use Rattle.arc_script.specs.declared.keyword.Place.{Place}
use Rattle.arc_script.specs.declared.keyword.Place.TheVariants as behind
use Rattle.arc_script.specs.Keywords.{keyword_of, is_class}
use Rattle.arc_script.specs.Valid.{name_at, class_names, var_names, immortals_of, is_weak_immortal, OfSecond, AreFields, IsHeading}
use Rattle.arc_script.specs.Said.{Grouped, HeadSaid}
use Rattle.arc_script.specs.Group.{run_group, group_of}
use Rattle.arc_script.specs.HeadLines.{is_weak_field, with_global, decl_of}
use Rattle.arc_script.specs.HeadLines as form
use Rattle.arc_script.specs.Grammar.{Front, Refusal, no_head, no_body, nothing, with_head, grouped, class_form, heading_form}
use Rattle.arc_script.specs.HeadingText.{entered, entering, heads, may_end, headed_line, HeadEnd, head_from}
use Rattle.arc_script.specs.Canonical.{kind_word, field_word, numbers_line, class_word, class_line, decl_line}
use Rattle.arc_script.proofs.ReadValid.{immortals_back}
use Rattle.arc_script_laws.proofs.BlocksBack.{names_back}
use Rattle.arc_script_laws.proofs.Spelled.{word_from_test, body, words_of_body, plain_body, number_back}
use Rattle.arc_script_laws.proofs.FormsBack.{fresh_at, name_here, decl_back, class_back}
use Rattle.arc_script_laws.proofs.LinesSpelled.{IsLine, numbers_spelled, class_spelled, decl_spelled}
use Rattle.arc_script_laws.proofs.Written.{texts, run_step, run_of}

-- ---- one line

headed : (front : Front) (w : List ℕ) (ws : List (List ℕ)) (k : Keyword) (lines : List (List ℕ)) → IsLine (w ∷ ws) → eqb (slice_index w 0) 35 ≡ false → keyword_of w ≡ Some k → heads true front.head.version front.place k ≡ true
    → headed_line true front (body (w ∷ ws)) lines ≡ entering (heading_form front k ws lines)
unfolding headed_line
headed front w ws k lines words not_comment keyword place = rw (words_of_body w ws words.0 words.1, not_comment, keyword, place, plain_body w ws words.0 words.1) refl

goes_on : (n : ℕ) (front next : Front) (line : List ℕ) (lines : List (List ℕ)) → headed_line true front line lines ≡ Ok (entered next) → head_from true n n front (line ∷ lines) ≡ head_from true (n + 1) (n + 1) next lines
goes_on n front next line lines e = rw e refl

-- a line that is none of the heading ends it, where it may end
pub ends_there : (n : ℕ) (front : Front) (w : List ℕ) (ws lines : List (List ℕ)) → IsLine (w ∷ ws) → eqb (slice_index w 0) 35 ≡ false → keyword_of w ≡ None → may_end true front.place ≡ true
    → head_from true n n front (body (w ∷ ws) ∷ lines) ≡ Ok (record { head = front.head; line = n })
unfolding headed_line
ends_there n front w ws lines words not_comment keyword place = rw (words_of_body w ws words.0 words.1, not_comment, keyword, place) refl

class_ends : (version : ℕ) (p : Place) → heads true version p word.Class ≡ true → may_end true p ≡ true
class_ends version behind.Caps h = refl
class_ends version behind.Class h = refl
class_ends version p h = absurd cc

abbrev class_key : Bool → Keyword
class_key true = word.Immortal
class_key false = word.Class

key_of : (immortal : Bool) → keyword_of (class_word immortal) ≡ Some (class_key immortal)
key_of true = refl
key_of false = refl

no_comment : (immortal : Bool) → eqb (slice_index (class_word immortal) 0) 35 ≡ false
no_comment true = refl
no_comment false = refl

key_heads : (version : ℕ) (immortal : Bool) (p : Place) → OfSecond version immortal → heads true version p word.Class ≡ true → heads true version p (class_key immortal) ≡ true
key_heads version true p of h = let two : version ≡ 2 = of refl in rw two h
key_heads version false p of h = h

-- the line of a class, by its keyword
key_form : (front : Front) (immortal : Bool) (words lines : List (List ℕ)) → heading_form front (class_key immortal) words lines ≡ class_form front immortal words lines
key_form front true words lines = refl
key_form front false words lines = refl

ends_global : (version : ℕ) (p : Place) → may_end true p ≡ true → heads true version p word.Global ≡ true
ends_global version behind.Caps h = refl
ends_global version behind.Class h = refl
ends_global version behind.Global h = refl
ends_global version p h = absurd cc

module _ (version : ℕ) (shape : HeapShape) (classes : List ClassDecl) (globals : List VarDecl) (h : IsHeading shape classes globals) where
  abbrev names : List (List ℕ)
  names = class_names classes

  abbrev pub head_with : List ClassDecl → List VarDecl → List Grouped → HeadSaid
  head_with cs gs g = record { version = version; slots = shape.slots; entries = shape.entries; caps = shape.caps; classes = cs; globals = gs; group = g }

  abbrev with : Place → HeadSaid → Front
  with p head = record { place = p; head = head; body = no_body }

  abbrev HeadIs : ℕ → Place → HeadSaid → List (List ℕ) → ℕ → Type 0
  HeadIs n p head lines m = (g : List Grouped) × (head_from true n n (with p head) lines ≡ Ok (record { head = head_with classes globals g; line = m }))

  -- what stands behind the heading ends it wherever it may end
  abbrev pub Stops : List (List ℕ) → Type 0
  Stops more = (n : ℕ) (front : Front) → may_end true front.place ≡ true → head_from true n n front more ≡ Ok (record { head = front.head; line = n })

  module _ (more : List (List ℕ)) (stops : Stops more) where
    globals_read : (g : List Grouped) (xs seen : List VarDecl) (p : Place) (n : ℕ) → may_end true p ≡ true → seen ++ xs ≡ globals → AllByRecursion (λ (v : VarDecl). v.class < length classes) xs → AllByRecursion (λ (v : VarDecl). is_weak_immortal (immortals_of classes) v.kind v.class ≡ false) xs
        → HeadIs n p (head_with classes seen g) (texts (map (decl_line (codes "global") classes) xs) ++ more) (n + length xs)
    globals_read g [] seen p n st e of allowed = (
      g,
      stops n (with p (head_with classes seen g)) st ∙ (let zero_more : n ≡ n + length (let none : List VarDecl = [] in none) = omega arith in
          ap (λ (m : ℕ). (let r : Result HeadEnd Refusal = Ok (record { head = head_with classes seen g; line = m }) in r)) zero_more
          ∙ ap (λ (vs : List VarDecl). (let r : Result HeadEnd Refusal = Ok (record { head = head_with classes vs g; line = n + 0 }) in r)) (sym (append-nil seen) ∙ e)),
    )
    globals_read g (x ∷ xs) seen p n st e of allowed =
        let known = h.globals_named in
        let front = with p (head_with classes seen g) in
        let next = with behind.Global (head_with classes (seen ++ x ∷ []) g) in
        let lines = texts (map (decl_line (codes "global") classes) xs) ++ more in
        let sum : length seen + suc (length xs) ≡ length globals = sym (length-append seen (x ∷ xs)) ∙ ap length e in
        let few = known.names.few in
        let long : length (var_names globals) ≡ length globals = length-map globals (λ (v : VarDecl). v.name) in
        let at : var_names seen ++ x.name ∷ var_names xs ≡ var_names globals = sym (map-append (λ (v : VarDecl). v.name) seen (x ∷ xs)) ∙ ap var_names e in
        let name = name_here (var_names globals) (var_names seen) (var_names xs) x.name known.names.spelled at in
        let fresh = fresh_at (var_names globals) (var_names seen) (var_names xs) x.name known.names.apart at in
        let entered_it : headed_line true front (body (decl_line (codes "global") classes x)) lines ≡ Ok (entered next) =
        headed front (codes "global") (x.name ∷ kind_word x.kind ∷ name_at names x.class ∷ []) word.Global lines (decl_spelled (codes "global") (word_from_test (codes "global") refl) classes h.classes_named x name of.0) refl refl (ends_global version p st)
        ∙ ap (λ (r : Result VarDecl Reason). entering (with_head front behind.Global (with_global (head_with classes seen g) r))) (decl_back 64 seen classes x h.classes_named name fresh of.0 (omega arith) allowed.0) in
        let later = globals_read g xs (seen ++ x ∷ []) behind.Global (n + 1) refl (append_assoc seen (x ∷ []) xs ∙ e) of.1 allowed.1 in
        let count : n + 1 + length xs ≡ n + suc (length xs) = omega arith in
        (later.0, goes_on n front next (body (decl_line (codes "global") classes x)) lines entered_it ∙ (later.1 ∙ ap (λ (m : ℕ). (let r : Result HeadEnd Refusal = Ok (record { head = head_with classes globals later.0; line = m }) in r)) count))

    group_is : (b : Bool) (head : HeadSaid) (g : List Grouped) → (b ≡ true → head.group ≡ group_of classes) → (b ≡ false → g ≡ group_of classes) → (let k : HeadSaid = cond b head (record head { group = g }) in k) ≡ record head { group = group_of classes }
    group_is true head g t f = ap (λ (l : List Grouped). (let k : HeadSaid = record head { group = l } in k)) (t refl)
    group_is false head g t f = ap (λ (l : List Grouped). (let k : HeadSaid = record head { group = l } in k)) (f refl)

    weak_fields : (fs : List FieldDecl) → AllByRecursion (λ (f : FieldDecl). is_weak_immortal (immortals_of classes) f.kind f.class ≡ false) fs → list_any (is_weak_field (group_of classes)) fs ≡ false
    weak_fields [] allowed = refl
    weak_fields (f ∷ fs) allowed =
        let one : is_weak_field (group_of classes) f ≡ false = ap (λ (bs : List Bool). is_weak_immortal bs f.kind f.class) (immortals_back classes) ∙ allowed.0 in
        rw one (weak_fields fs allowed.1)

    abbrev globals_text : List (List ℕ)
    globals_text = texts (map (decl_line (codes "global") classes) globals) ++ more

    module _ (no_class : run_group version globals_text ≡ []) where
      -- its version has such a class, and it has no weak field of an immortal class
      abbrev AllowsClass : ClassDecl → Type 0
      AllowsClass c = OfSecond version c.immortal × AllByRecursion (λ (f : FieldDecl). is_weak_immortal (immortals_of classes) f.kind f.class ≡ false) c.fields

      of_version : (cs : List ClassDecl) → AllByRecursion AllowsClass cs → AllByRecursion (λ (c : ClassDecl). OfSecond version c.immortal) cs
      of_version [] allowed = tt
      of_version (c ∷ cs) allowed = (allowed.0.0, of_version cs allowed.1)

      allows : (cs : List ClassDecl) → AllByRecursion (λ (c : ClassDecl). OfSecond version c.immortal) cs → AllByRecursion (λ (c : ClassDecl). AllByRecursion (λ (f : FieldDecl). is_weak_immortal (immortals_of classes) f.kind f.class ≡ false) c.fields) cs → AllByRecursion AllowsClass cs
      allows [] of weak = tt
      allows (c ∷ cs) of weak = ((of.0, weak.0), allows cs of.1 weak.1)

      classes_read : (xs seen : List ClassDecl) (p : Place) (g : List Grouped) (n : ℕ) → heads true version p word.Class ≡ true → (is_class p ≡ true → g ≡ group_of classes) → (is_class p ≡ false → seen ≡ []) → seen ++ xs ≡ classes
          → ((i : ℕ) → i < length (class_names xs) → is_name (name_at (class_names xs) i) ≡ true) → AllByRecursion (λ (c : ClassDecl). AreFields (length classes) c.fields) xs → AllByRecursion AllowsClass xs
          → HeadIs n p (head_with seen [] g) (texts (map (class_line classes) xs) ++ globals_text) (n + length xs + length globals)
      classes_read [] seen p g n st later first e spelled fields allowed =
          let done = globals_read g globals [] p n (class_ends version p st) refl h.globals_named.of_classes h.globals_allowed in
          let count : n + length globals ≡ n + 0 + length globals = omega arith in (
            done.0,
            ap (λ (cs : List ClassDecl). head_from true n n (with p (head_with cs [] g)) globals_text) (sym (append-nil seen) ∙ e)
                ∙ (done.1 ∙ ap (λ (m : ℕ). (let r : Result HeadEnd Refusal = Ok (record { head = head_with classes globals done.0; line = m }) in r)) count),
          )
      classes_read (x ∷ xs) seen p g n st later first e spelled fields allowed =
          let known = h.classes_named in
          let front = with p (head_with seen [] g) in
          let next = with behind.Class (head_with (seen ++ x ∷ []) [] (group_of classes)) in
          let lines = texts (map (class_line classes) xs) ++ globals_text in
          let words = x.name ∷ map (field_word classes) x.fields in
          let sum : length seen + suc (length xs) ≡ length classes = sym (length-append seen (x ∷ xs)) ∙ ap length e in
          let few = known.names.few in
          let long : length names ≡ length classes = length-map classes (λ (c : ClassDecl). c.name) in
          let at : class_names seen ++ x.name ∷ class_names xs ≡ names = sym (map-append (λ (c : ClassDecl). c.name) seen (x ∷ xs)) ∙ ap class_names e in
          let name = name_here names (class_names seen) (class_names xs) x.name known.names.spelled at in
          let fresh = fresh_at names (class_names seen) (class_names xs) x.name known.names.apart at in
          let own : Grouped = record { name = x.name; immortal = x.immortal } in
          let run : run_group version lines ≡ group_of xs = run_of version classes known xs globals_text (λ i lt. spelled (suc i) (omega arith)) fields.1 (of_version xs allowed.1) ∙ (ap (λ (l : List Grouped). group_of xs ++ l) no_class ∙ append-nil (group_of xs)) in
          let group : grouped front x.immortal words lines ≡ head_with seen [] (group_of classes) =
          group_is (is_class p) (head_with seen [] g) (own ∷ run_group version lines) later
          (λ no. ap (λ (l : List Grouped). own ∷ l) run ∙ ap group_of (ap (λ (cs : List ClassDecl). cs ++ x ∷ xs) (sym (first no)) ∙ e)) in
          let back : form.class_line (head_with seen [] (group_of classes)) x.immortal words ≡ Ok (head_with (seen ++ x ∷ []) [] (group_of classes)) =
          class_back (head_with seen [] (group_of classes)) names (length classes) x (names_back classes) known.names long name fresh fields.0 (omega arith) (weak_fields x.fields allowed.0.1) in
          let entered_it : headed_line true front (body (class_line classes x)) lines ≡ Ok (entered next) =
          headed front (class_word x.immortal) words (class_key x.immortal) lines (class_spelled classes known x name fields.0) (no_comment x.immortal) (key_of x.immortal) (key_heads version x.immortal p allowed.0.0 st)
          ∙ (ap entering (key_form front x.immortal words lines)
          ∙ (ap (λ (k : HeadSaid). entering (with_head front behind.Class (form.class_line k x.immortal words))) group
          ∙ ap (λ (r : Result HeadSaid Reason). entering (with_head front behind.Class r)) back)) in
          let rest = classes_read xs (seen ++ x ∷ []) behind.Class (group_of classes) (n + 1) refl (λ _. refl) (λ no. absurd cc) (append_assoc seen (x ∷ []) xs ∙ e) (λ i lt. spelled (suc i) (omega arith)) fields.1 allowed.1 in
          let count : n + 1 + length xs + length globals ≡ n + suc (length xs) + length globals = omega arith in
          (rest.0, goes_on n front next (body (class_line classes x)) lines entered_it ∙ (rest.1 ∙ ap (λ (m : ℕ). (let r : Result HeadEnd Refusal = Ok (record { head = head_with classes globals rest.0; line = m }) in r)) count))

  stop_globals : (vs : List VarDecl) (more : List (List ℕ)) → ((i : ℕ) → i < length (var_names vs) → is_name (name_at (var_names vs) i) ≡ true) → AllByRecursion (λ (v : VarDecl). v.class < length classes) vs → run_group version more ≡ []
      → run_group version (texts (map (decl_line (codes "global") classes) vs) ++ more) ≡ []
  stop_globals [] more spelled of e = e
  stop_globals (v ∷ vs) more spelled of e =
      run_step version (codes "global") (v.name ∷ kind_word v.kind ∷ name_at names v.class ∷ []) (texts (map (decl_line (codes "global") classes) vs) ++ more)
      (decl_spelled (codes "global") (word_from_test (codes "global") refl) classes h.classes_named v (spelled 0 (omega arith)) of.0)

  module _ (of_classes : AllByRecursion (λ (c : ClassDecl). OfSecond version c.immortal) classes) (most : shape.caps.wide < 2 ^ 32) (more : List (List ℕ)) (stops : Stops more) (no_class : run_group version more ≡ []) where
    abbrev slots_head : HeadSaid
    slots_head = record (no_head version) { slots = shape.slots }

    abbrev entries_head : HeadSaid
    entries_head = record slots_head { entries = shape.entries }

    abbrev slots_text : List ℕ
    slots_text = body (numbers_line (codes "slots") (shape.slots ∷ []))

    abbrev entries_text : List ℕ
    entries_text = body (numbers_line (codes "entries") (shape.entries ∷ []))

    abbrev caps_text : List ℕ
    caps_text = body (numbers_line (codes "caps") (shape.caps.strong ∷ shape.caps.unowned ∷ shape.caps.wide ∷ []))

    abbrev pub classes_text : List (List ℕ)
    classes_text = texts (map (class_line classes) classes) ++ (texts (map (decl_line (codes "global") classes) globals) ++ more)

    pub heading_back : (g : List Grouped) × (head_from true 2 2 (nothing version behind.Version) (slots_text ∷ entries_text ∷ caps_text ∷ classes_text) ≡ Ok (record { head = head_with classes globals g; line = 5 + length classes + length globals }))
    heading_back =
        let slots = h.slots in
        let entries = h.entries in
        let caps = h.caps in
        let least_slots = slots.0 in let most_slots = slots.1 in
        let least_entries = entries.0 in let most_entries = entries.1 in
        let strong = caps.strong_fits in
        let unowned = caps.unowned_fits in
        let least_unowned = unowned.0 in let most_unowned = unowned.1 in
        let wide = caps.wide_fits in
        let above = wide.0 in let covers = wide.1 in
        let known = h.classes_named in
        let slots_back = number_back 1 4096 shape.slots least_slots most_slots (omega arith) in
        let entries_back = number_back 1 4096 shape.entries least_entries most_entries (omega arith) in
        let strong_back = number_back 0 1073741823 shape.caps.strong (omega arith) strong (omega arith) in
        let unowned_back = number_back 1 2147483647 shape.caps.unowned least_unowned most_unowned (omega arith) in
        let wide_back = number_back 1 4294967295 shape.caps.wide (omega arith) (omega arith) (omega arith) in
        let not_low : leb shape.caps.wide shape.caps.strong ≡ false = search (rules, tests) in
        let not_less : ltb shape.caps.wide shape.caps.unowned ≡ false = le-ltb _ _ covers in
        let front_slots = with behind.Slots slots_head in
        let front_entries = with behind.Entries entries_head in
        let front_caps = with behind.Caps (head_with [] [] []) in
        let slots_in : headed_line true (nothing version behind.Version) slots_text (entries_text ∷ caps_text ∷ classes_text) ≡ Ok (entered front_slots) =
        headed (nothing version behind.Version) (codes "slots") (decimal shape.slots ∷ []) word.Slots (entries_text ∷ caps_text ∷ classes_text) (numbers_spelled (codes "slots") (shape.slots ∷ []) (word_from_test (codes "slots") refl) (omega arith, tt)) refl refl refl ∙ rw slots_back refl in
        let entries_in : headed_line true front_slots entries_text (caps_text ∷ classes_text) ≡ Ok (entered front_entries) =
        headed front_slots (codes "entries") (decimal shape.entries ∷ []) word.Entries (caps_text ∷ classes_text) (numbers_spelled (codes "entries") (shape.entries ∷ []) (word_from_test (codes "entries") refl) (omega arith, tt)) refl refl refl ∙ rw entries_back refl in
        let caps_in : headed_line true front_entries caps_text classes_text ≡ Ok (entered front_caps) =
        headed front_entries (codes "caps") (decimal shape.caps.strong ∷ decimal shape.caps.unowned ∷ decimal shape.caps.wide ∷ []) word.Caps classes_text
        (numbers_spelled (codes "caps") (shape.caps.strong ∷ shape.caps.unowned ∷ shape.caps.wide ∷ []) (word_from_test (codes "caps") refl) (omega arith, (omega arith, (omega arith, tt)))) refl refl refl
        ∙ rw (strong_back, unowned_back, wide_back, not_low, not_less) refl in
        let no_more = stop_globals globals more h.globals_named.names.spelled h.globals_named.of_classes no_class in
        let rest = classes_read more stops no_more classes [] behind.Caps [] 5 refl (λ no. absurd cc) (λ _. refl) refl known.names.spelled known.fields (allows more stops no_more classes of_classes h.fields_allowed) in (
          rest.0,
          goes_on 2 (nothing version behind.Version) front_slots slots_text (entries_text ∷ caps_text ∷ classes_text) slots_in
              ∙ (goes_on 3 front_slots front_entries entries_text (caps_text ∷ classes_text) entries_in
              ∙ (goes_on 4 front_entries front_caps caps_text classes_text caps_in ∙ rest.1)),
        )
