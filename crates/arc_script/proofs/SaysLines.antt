-- What a line that was accepted says.
use Rattle.std.proofs.Common.{◌≡◌, ℕ, ◌+◌, ◌<◌, ◌≤◌, Bool, true, false, cond, eqb, leb, ltb, ◌&&◌, ◌||◌, List, [], ◌∷◌, ◌++◌, length, map, Option, Some, None, Result, Ok, Err, refl, sym, ap, subst, ◌∙◌, arith, rules, tests, count_by}
use Rattle.std.specs.Prelude.{not, codes, is_some, unwrap_or, slice_get}
use Rattle.std.specs.List.{AllByRecursion, list_all, list_any, before_first, after_first}
use Rattle.std.specs.Option.{option_map_or}
use Rattle.std.specs.Fmt.{decimal}
use Rattle.std.proofs.lemmas.Bool.{eqb-true}
use Rattle.std.proofs.lemmas.List.{length-map}
use Rattle.arc_text.specs.Words.{is_name, is_plain, number_in}
use Rattle.arc_text.specs.Chain.{need}
use Rattle.arc_model.specs.declared.shape.Kind.{Kind}
use Rattle.arc_model.specs.declared.shape.Kind.TheVariants as kind
use Rattle.arc_model.specs.Ranges.{CapsFit}
use Rattle.arc_script.specs.declared.script.FieldDecl.{FieldDecl}
use Rattle.arc_script.specs.declared.script.ClassDecl.{ClassDecl}
use Rattle.arc_script.specs.declared.script.VarDecl.{VarDecl}
use Rattle.arc_script.specs.declared.script.Op.{Op}
use Rattle.arc_script.specs.declared.reason.Reason.{Reason}
use Rattle.arc_script.specs.declared.reason.Reason.TheVariants as why
use Rattle.arc_script.specs.declared.keyword.Keyword.{Keyword}
use Rattle.arc_script.specs.declared.keyword.Keyword.TheVariants as word
use Rattle.arc_script.specs.declared.keyword.Place.TheVariants as behind
use Rattle.arc_script.specs.declared.keyword.Place.{Place}
use Rattle.arc_script.specs.Keywords.{keyword_of, is_later, stands, is_class, is_open}
use Rattle.arc_script.specs.Valid.{name_at, place_of, field_names, class_names, immortals_of, is_weak_immortal, begins_block, OfSecond, OpOfVersion, AreNames, AreFields}
use Rattle.arc_script.specs.Said.{Grouped, HeadSaid, BodySaid}
use Rattle.arc_script.specs.Lookups.{kind_of, has_repeat, class_place, var_place}
use Rattle.arc_script.specs.HeadLines.{Spelled, is_colon, is_field_word, spelled_of, is_misspelled, lacks_class, lacks_kind, declared_of, is_weak_field, class_line, decl_of, slots_line, entries_line, caps_line, global_line, with_global}
use Rattle.arc_script.specs.BodyLines.{thread_line, var_line, with_var, with_op, op_line, has_block, opened_by, ended_by, end_of, end_line, phase_line, is_place, place_in, schedule_line, done_line}
use Rattle.arc_script.specs.Group.{run_group, group_names}
use Rattle.arc_script.specs.Grammar.{Front, with_head, with_body, class_form, settled, arc_line, form_line, said_line}
use Rattle.arc_script.specs.Canonical.{kind_word, class_word}
use Rattle.arc_script.specs.Accepted.{field_word, IsDecl, run_head, head_after, body_after, Says, version, slots, entries, caps, class, global, thread, var, operation, end, phase, schedule, done}
use Rattle.arc_script.proofs.Inverted.{passed, found, ok_is, no_not, neither_not, neither, both, none_of, some_of, spelled, text_of_keyword, keyword_text, comes_of, second_of, kind_is, place_found, cut, left}
use Rattle.arc_script.proofs.Names.{all_at, apart_of}
use Rattle.arc_script.proofs.SaysOps.{op_is, begins_later, class_found}

-- ---- fields

abbrev spelled_text : Spelled → List ℕ
spelled_text f = f.name ++ 58 ∷ (f.kind ++ 58 ∷ f.class)

field_spelled : (w : List ℕ) → is_field_word w ≡ true → w ≡ spelled_text (spelled_of w)
field_spelled w h =
    let two : count_by is_colon w ≡ 2 = eqb-true _ _ h in
    let one : count_by is_colon (after_first is_colon w) ≡ 1 = left 58 w 1 two in
    cut 58 w (omega arith) ∙ ap (λ (rest : List ℕ). before_first is_colon w ++ 58 ∷ rest) (cut 58 (after_first is_colon w) (omega arith))

field_back : (group : List (List ℕ)) (f : Spelled) → lacks_class group f ≡ false → lacks_kind f ≡ false → field_word group (declared_of group f) ≡ spelled_text f
field_back group f c k =
    let at = some_of (place_of group f.class) c in
    let of = some_of (kind_of f.kind) k in
    let name : name_at group (unwrap_or (place_of group f.class) 0) ≡ f.class = ap (λ (o : Option ℕ). name_at group (unwrap_or o 0)) at.1 ∙ (place_found group f.class at.0 at.1).1 in
    let text : kind_word (unwrap_or (kind_of f.kind) kind.Strong) ≡ f.kind = ap (λ (o : Option Kind). kind_word (unwrap_or o kind.Strong)) of.1 ∙ sym (kind_is f.kind of.0 of.1) in
    ap (λ (n : List ℕ). f.name ++ 58 ∷ (kind_word (unwrap_or (kind_of f.kind) kind.Strong) ++ 58 ∷ n)) name ∙ ap (λ (t : List ℕ). f.name ++ 58 ∷ (t ++ 58 ∷ f.class)) text

fields_back : (group : List (List ℕ)) (ws : List (List ℕ)) → list_all is_field_word ws ≡ true → list_any (lacks_class group) (map spelled_of ws) ≡ false → list_any lacks_kind (map spelled_of ws) ≡ false
    → ws ≡ map (field_word group) (map (declared_of group) (map spelled_of ws))
fields_back group [] p c k = refl
fields_back group (w ∷ ws) p c k =
    let ps = both (is_field_word w) (list_all is_field_word ws) p in
    let cs = neither (lacks_class group (spelled_of w)) (list_any (lacks_class group) (map spelled_of ws)) c in
    let ks = neither (lacks_kind (spelled_of w)) (list_any lacks_kind (map spelled_of ws)) k in
    ap (λ (x : List ℕ). x ∷ ws) (field_spelled w ps.0 ∙ sym (field_back group (spelled_of w) cs.0 ks.0)) ∙ ap (λ (xs : List (List ℕ)). field_word group (declared_of group (spelled_of w)) ∷ xs) (fields_back group ws ps.1 cs.1 ks.1)

known_classes : (group : List (List ℕ)) (fs : List Spelled) → list_any (lacks_class group) fs ≡ false → AllByRecursion (λ (f : FieldDecl). f.class < length group) (map (declared_of group) fs)
known_classes group [] c = tt
known_classes group (f ∷ fs) c =
    let cs = neither (lacks_class group f) (list_any (lacks_class group) fs) c in
    let at = some_of (place_of group f.class) cs.0 in
    let lt = (place_found group f.class at.0 at.1).0 in
    (subst (λ (o : Option ℕ). unwrap_or o 0 < length group) (sym at.1) lt, known_classes group fs cs.1)

names_are : (fs : List Spelled) → list_any is_misspelled fs ≡ false → AllByRecursion (λ n. is_name n ≡ true) (map (λ (f : Spelled). f.name) fs)
names_are [] h = tt
names_are (f ∷ fs) h =
    let n = neither (is_misspelled f) (list_any is_misspelled fs) h in
    ((neither_not (is_name f.name) (is_name f.class) n.0).0, names_are fs n.1)

same_names : (group : List (List ℕ)) (fs : List Spelled) → field_names (map (declared_of group) fs) ≡ map (λ (f : Spelled). f.name) fs
same_names group [] = refl
same_names group (f ∷ fs) = ap (λ (ns : List (List ℕ)). f.name ∷ ns) (same_names group fs)

fields_are : (group : List (List ℕ)) (fs : List Spelled) → list_any is_misspelled fs ≡ false → has_repeat (map (λ (f : Spelled). f.name) fs) ≡ false → list_any (lacks_class group) fs ≡ false → length fs ≤ 8
    → AreFields (length group) (map (declared_of group) fs)
fields_are group fs good once known few =
    let long : length (map (λ (f : Spelled). f.name) fs) ≡ length fs = length-map fs (λ (f : Spelled). f.name) in
    record {
      names = subst (AreNames 8) (sym (same_names group fs)) (record {
        few = omega arith;
        spelled = all_at (λ n. is_name n ≡ true) (map (λ (f : Spelled). f.name) fs) [] (names_are fs good);
        apart = apart_of (map (λ (f : Spelled). f.name) fs) once;
      });
      of_classes = known_classes group fs known;
    }

none_any : {X : Type 0} (p : X → Bool) (xs : List X) → list_any p xs ≡ false → AllByRecursion (λ x. p x ≡ false) xs
none_any p [] h = tt
none_any p (x ∷ xs) h = let n = neither (p x) (list_any p xs) h in (n.0, none_any p xs n.1)

outside : (opened : List ℕ) → has_block opened ≡ false → opened ≡ []
outside [] h = refl
outside (at ∷ opened) h = absurd cc

-- ---- lines of the heading

same_classes : (b : Bool) (h : HeadSaid) (g : List Grouped) → (let k : HeadSaid = cond b h (record h { group = g }) in k.classes) ≡ h.classes
same_classes true h g = refl
same_classes false h g = refl

headed : (front next : Front) (place : Place) (r : Result HeadSaid Reason) → with_head front place r ≡ Ok next → (h : HeadSaid) × (r ≡ Ok h) × (next ≡ head_after front place h)
headed front next place (Ok h) e = (h, refl, ok_is _ next e)
headed front next place (Err why) e = absurd cc

bodied : (front next : Front) (place : Place) (r : Result BodySaid Reason) → with_body front place r ≡ Ok next → (b : BodySaid) × (r ≡ Ok b) × (next ≡ body_after front place b)
bodied front next place (Ok b) e = (b, refl, ok_is _ next e)
bodied front next place (Err why) e = absurd cc

decl_is : (limit : ℕ) (vars : List VarDecl) (classes : List ClassDecl) (name of_kind class_word : List ℕ) (v : VarDecl) → decl_of limit vars classes name of_kind class_word ≡ Ok v
    → IsDecl limit vars classes v × (name ≡ v.name) × (of_kind ≡ kind_word v.kind) × (class_word ≡ name_at (class_names classes) v.class)
decl_is limit vars classes name of_kind class_word v e =
    let a = passed (not (is_name name) || not (is_name class_word)) _ _ v e in
    let f = passed (is_some (var_place vars name)) _ _ v a.1 in
    let c = found (class_place classes class_word) _ _ v f.1 in
    let k = found (kind_of of_kind) _ _ v c.2 in
    let r = passed (leb limit (length vars)) _ _ v k.2 in
    let room : length vars < limit = (let h = r.0 in search (rules, tests)) in
    let w = passed (is_weak_immortal (immortals_of classes) k.0 c.0) _ _ v r.1 in
    let d = class_found classes class_word c.0 c.1 in
    subst (λ (w : VarDecl). IsDecl limit vars classes w × (name ≡ w.name) × (of_kind ≡ kind_word w.kind) × (class_word ≡ name_at (class_names classes) w.class)) (sym (ok_is _ v w.1))
    (record { spelled = (neither_not (is_name name) (is_name class_word) a.0).0; fresh = none_of _ f.0; of_class = d.0; room = room; allowed = w.0 }, refl, kind_is of_kind k.0 k.1, d.1)

four : (k a b c x y z : List ℕ) → a ≡ x → b ≡ y → c ≡ z → k ∷ a ∷ b ∷ c ∷ [] ≡ k ∷ x ∷ y ∷ z ∷ []
four k a b c x y z p q r = ap (λ (w : List ℕ). k ∷ w ∷ b ∷ c ∷ []) p ∙ (ap (λ (w : List ℕ). k ∷ x ∷ w ∷ c ∷ []) q ∙ ap (λ (w : List ℕ). k ∷ x ∷ y ∷ w ∷ []) r)

two : (k a x : List ℕ) → a ≡ x → k ∷ a ∷ [] ≡ k ∷ x ∷ []
two k a x p = ap (λ (w : List ℕ). k ∷ w ∷ []) p

caps_are : (s u w : ℕ) → s ≤ 1073741823 → 1 ≤ u → u ≤ 2147483647 → (leb w s || ltb w u) ≡ false → CapsFit s u w
caps_are s u w few some less h =
    let n = neither (leb w s) (ltb w u) h in
    let a : s < w = (let t = n.0 in search (rules, tests)) in
    let b : u ≤ w = (let t = n.1 in search (rules, tests)) in
    record { strong_fits = few; unowned_fits = (some, less); wide_fits = (a, b) }

caps_says : (front next : Front) (lines : List (List ℕ)) (strong unowned wide : List ℕ) → stands front.head.version front.place word.Caps ≡ true → with_head front behind.Caps (caps_line front.head strong unowned wide) ≡ Ok next
    → Says front (codes "caps" ∷ strong ∷ unowned ∷ wide ∷ []) lines next
caps_says front next lines strong unowned wide st e =
    let h = headed front next behind.Caps _ e in
    let s = found (number_in 0 1073741823 strong) _ _ h.0 h.1 in
    let u = found (number_in 1 2147483647 unowned) _ _ h.0 s.2 in
    let w = found (number_in 1 4294967295 wide) _ _ h.0 u.2 in
    let c = passed (leb w.0 s.0 || ltb w.0 u.0) _ _ h.0 w.2 in
    let a = spelled 0 1073741823 strong s.0 (omega arith) s.1 in
    let b = spelled 1 2147483647 unowned u.0 (omega arith) u.1 in
    let d = spelled 1 4294967295 wide w.0 (omega arith) w.1 in
    caps (record { strong = s.0; unowned = u.0; wide = w.0 }) (four (codes "caps") strong unowned wide _ _ _ a.0 b.0 d.0) st (caps_are s.0 u.0 w.0 a.2 b.1 b.2 c.0) (let most = d.2 in omega arith)
    (h.2 ∙ ap (head_after front behind.Caps) (ok_is _ h.0 c.1))

class_says : (front next : Front) (lines : List (List ℕ)) (immortal : Bool) (name : List ℕ) (words : List (List ℕ)) → stands front.head.version front.place word.Class ≡ true → OfSecond front.head.version immortal
    → class_form front immortal (name ∷ words) lines ≡ Ok next → Says front (class_word immortal ∷ name ∷ words) lines next
class_says front next lines immortal name words st of e =
    let head = run_head front immortal name lines in
    let names = group_names head.group in
    let same : head.classes ≡ front.head.classes = same_classes (is_class front.place) front.head (record { name = name; immortal = immortal } ∷ run_group front.head.version lines) in
    let long : length names ≡ length head.group = length-map head.group (λ (g : Grouped). g.name) in
    let fs = map spelled_of words in
    let h = headed front next behind.Class _ e in
    let p = passed (not (list_all is_field_word words)) _ _ h.0 h.1 in
    let a = passed (not (is_name name) || list_any is_misspelled fs) _ _ h.0 p.1 in
    let b = passed (is_some (class_place head.classes name) || has_repeat (map (λ (f : Spelled). f.name) fs)) _ _ h.0 a.1 in
    let c = passed (list_any (lacks_class names) fs) _ _ h.0 b.1 in
    let k = passed (list_any lacks_kind fs) _ _ h.0 c.1 in
    let r = passed (leb 64 (length head.classes) || ltb 8 (length fs)) _ _ h.0 k.1 in
    let w = passed (list_any (is_weak_field head.group) (map (declared_of names) fs)) _ _ h.0 r.1 in
    let good = neither (not (is_name name)) (list_any is_misspelled fs) a.0 in
    let once = neither (is_some (class_place head.classes name)) (has_repeat (map (λ (f : Spelled). f.name) fs)) b.0 in
    let rooms = neither (leb 64 (length head.classes)) (ltb 8 (length fs)) r.0 in
    let room : length head.classes < 64 = (let t = rooms.0 in search (rules, tests)) in
    let few : length fs ≤ 8 = (let t = rooms.1 in search (rules, tests)) in
    let decl : ClassDecl = record { name = name; immortal = immortal; fields = map (declared_of names) fs } in
    class decl (ap (λ (ws : List (List ℕ)). class_word immortal ∷ name ∷ ws) (fields_back names words (no_not _ p.0) c.0 k.0)) st
    (record {
      spelled = no_not _ good.0;
      fresh = subst (λ (cs : List ClassDecl). place_of (class_names cs) name ≡ None) same (none_of _ once.0);
      fields = subst (λ (n : ℕ). AreFields n (map (declared_of names) fs)) long (fields_are names fs good.1 once.1 c.0 few);
      allowed = none_any (is_weak_field head.group) (map (declared_of names) fs) w.0;
      room = subst (λ (cs : List ClassDecl). length cs < 64) same room;
      of_version = of;
    })
    (h.2 ∙ ap (head_after front behind.Class) (ok_is _ h.0 w.1 ∙ ap (λ (cs : List ClassDecl). let k : HeadSaid = record head { classes = cs ++ decl ∷ [] } in k) same))

declared : (head h : HeadSaid) (r : Result VarDecl Reason) → with_global head r ≡ Ok h → (v : VarDecl) × (r ≡ Ok v) × (h ≡ record head { globals = head.globals ++ v ∷ [] })
declared head h (Ok v) e = (v, refl, ok_is _ h e)
declared head h (Err why) e = absurd cc

global_says : (front next : Front) (lines : List (List ℕ)) (name of_kind class_word : List ℕ) → stands front.head.version front.place word.Global ≡ true
    → with_head front behind.Global (global_line front.head name of_kind class_word) ≡ Ok next → Says front (codes "global" ∷ name ∷ of_kind ∷ class_word ∷ []) lines next
global_says front next lines name of_kind class_word st e =
    let h = headed front next behind.Global _ e in
    let d = declared front.head h.0 _ h.1 in
    let is = decl_is 64 front.head.globals front.head.classes name of_kind class_word d.0 d.1 in
    global d.0 (four (codes "global") name of_kind class_word _ _ _ is.1 is.2 is.3) st is.0 (h.2 ∙ ap (head_after front behind.Global) d.2)

-- ---- lines of threads

thread_says : (front next : Front) (lines : List (List ℕ)) (number : List ℕ) → stands front.head.version front.place word.Thread ≡ true → with_body front behind.Thread (thread_line (settled front) number) ≡ Ok next
    → Says front (codes "thread" ∷ number ∷ []) lines next
thread_says front next lines number st e =
    let b = bodied front next behind.Thread _ e in
    let n = found (number_in 1 4294967295 number) _ _ b.0 b.1 in
    let m = passed (not (eqb n.0 (length (settled front).threads + 1))) _ _ b.0 n.2 in
    let r = passed (leb 64 (length (settled front).threads)) _ _ b.0 m.1 in
    let room : length (settled front).threads < 64 = (let t = r.0 in search (rules, tests)) in
    let out = passed (has_block (settled front).opened) _ _ b.0 r.1 in
    let s = spelled 1 4294967295 number n.0 (omega arith) n.1 in
    thread (two (codes "thread") number _ (s.0 ∙ ap decimal (eqb-true _ _ (no_not _ m.0)))) st room (outside _ out.0) (b.2 ∙ ap (body_after front behind.Thread) (ok_is _ b.0 out.1))

added : (body b : BodySaid) (r : Result VarDecl Reason) → with_var body r ≡ Ok b → (v : VarDecl) × (r ≡ Ok v) × (b ≡ record body { vars = body.vars ++ v ∷ [] })
added body b (Ok v) e = (v, refl, ok_is _ b e)
added body b (Err why) e = absurd cc

var_says : (front next : Front) (lines : List (List ℕ)) (name of_kind class_word : List ℕ) → stands front.head.version front.place word.Var ≡ true
    → with_body front behind.Thread (var_line front.head front.body name of_kind class_word) ≡ Ok next → Says front (codes "var" ∷ name ∷ of_kind ∷ class_word ∷ []) lines next
var_says front next lines name of_kind class_word st e =
    let b = bodied front next behind.Thread _ e in
    let d = added front.body b.0 _ b.1 in
    let is = decl_is 256 front.body.vars front.head.classes name of_kind class_word d.0 d.1 in
    var d.0 (four (codes "var") name of_kind class_word _ _ _ is.1 is.2 is.3) st is.0 (b.2 ∙ ap (body_after front behind.Thread) d.2)

record Operated (body b : BodySaid) (r : Result Op Reason) : Type 0 where
  o : Op
  is : r ≡ Ok o
  room : body.count < 100000
  depth : begins_block o ≡ true → length body.opened < 8
  made : b ≡ record body { ops = body.ops ++ o ∷ []; opened = opened_by body o; count = body.count + 1 }

not_deep : (b : Bool) (n : ℕ) → (b && leb 8 n) ≡ false → b ≡ true → n < 8
not_deep true n h e = search (rules, tests)
not_deep false n h e = absurd cc

operated : (body b : BodySaid) (r : Result Op Reason) → with_op body r ≡ Ok b → Operated body b r
operated body b (Ok o) e =
    let r = passed (leb 100000 body.count || (begins_block o && leb 8 (length body.opened))) _ _ b e in
    let n = neither (leb 100000 body.count) (begins_block o && leb 8 (length body.opened)) r.0 in
    record { o = o; is = refl; room = (let t = n.0 in search (rules, tests)); depth = not_deep (begins_block o) (length body.opened) n.1; made = ok_is _ b r.1 }
operated body b (Err why) e = absurd cc

op_says : (front next : Front) (lines : List (List ℕ)) (k : Keyword) (words : List (List ℕ)) → is_open front.place ≡ true → (is_later k ≡ true → front.head.version ≡ 2) → with_body front behind.Operation (op_line front.head front.body k words) ≡ Ok next
    → Says front (text_of_keyword k ∷ words) lines next
op_says front next lines k words st of e =
    let b = bodied front next behind.Operation _ e in
    let o = operated front.body b.0 _ b.1 in
    let is = op_is front.head.classes front.head.globals front.body.vars k words o.o o.is in
    let of_op : OpOfVersion front.head.version o.o = λ begins. of (begins_later front.head.classes front.head.globals front.body.vars k words o.o is.0 begins) in
    operation o.o is.0 st is.1 of_op o.room o.depth (b.2 ∙ ap (body_after front behind.Operation) o.made)

end_is : (body b : BodySaid) (opened : List ℕ) → end_of body opened ≡ Ok b → (at : ℕ) × (rest : List ℕ) × (opened ≡ at ∷ rest) × (b ≡ record body { ops = ended_by body.ops at (slice_get body.ops at); opened = rest })
end_is body b [] e = absurd cc
end_is body b (at ∷ rest) e = (at, rest, refl, ok_is _ b e)

end_says : (front next : Front) (lines : List (List ℕ)) → with_body front behind.Operation (end_line front.body) ≡ Ok next → Says front (codes "end" ∷ []) lines next
end_says front next lines e =
    let b = bodied front next behind.Operation _ e in
    let t = end_is front.body b.0 front.body.opened b.1 in
    end t.0 t.1 refl t.2 (b.2 ∙ ap (body_after front behind.Operation) t.3)

done_says : (front next : Front) (lines : List (List ℕ)) → stands front.head.version front.place word.Done ≡ true → with_body front behind.Ended (done_line (settled front)) ≡ Ok next → Says front (codes "done" ∷ []) lines next
done_says front next lines st e =
    let b = bodied front next behind.Ended _ e in
    let out = passed (has_block (settled front).opened) _ _ b.0 b.1 in
    done refl st (outside _ out.0) (b.2 ∙ ap (body_after front behind.Ended) (ok_is _ b.0 out.1))

place_is : (threads : ℕ) (w : List ℕ) (o : Option ℕ) → number_in 1 4294967295 w ≡ o → option_map_or (λ n. leb n threads) o false ≡ true
    → (w ≡ decimal (unwrap_or o 0)) × ((1 ≤ unwrap_or o 0) × (unwrap_or o 0 ≤ threads))
place_is threads w None e h = absurd cc
place_is threads w (Some n) e h =
    let s = spelled 1 4294967295 w n (omega arith) e in
    let few : n ≤ threads = search (rules, tests) in
    (s.0, (s.1, few))

places_are : (threads : ℕ) (ws : List (List ℕ)) → list_all (is_place threads) ws ≡ true → (ws ≡ map decimal (map place_in ws)) × AllByRecursion (λ p. (1 ≤ p) × (p ≤ threads)) (map place_in ws)
places_are threads [] h = (refl, tt)
places_are threads (w ∷ ws) h =
    let p = both (is_place threads w) (list_all (is_place threads) ws) h in
    let one = place_is threads w (number_in 1 4294967295 w) refl p.0 in
    let more = places_are threads ws p.1 in
    (ap (λ (x : List ℕ). x ∷ ws) one.0 ∙ ap (λ (xs : List (List ℕ)). decimal (place_in w) ∷ xs) more.0, (one.1, more.1))

schedule_says : (front next : Front) (lines : List (List ℕ)) (first : List ℕ) (more : List (List ℕ)) → stands front.head.version front.place word.Schedule ≡ true
    → with_body front behind.Schedule (schedule_line (settled front) (first ∷ more)) ≡ Ok next → Says front (codes "schedule" ∷ first ∷ more) lines next
schedule_says front next lines first more st e =
    let b = bodied front next behind.Schedule _ e in
    let p = passed (not (list_all (is_place (length (settled front).threads)) (first ∷ more))) _ _ b.0 b.1 in
    let r = passed (ltb 1000000 (length (settled front).schedule + length (first ∷ more))) _ _ b.0 p.1 in
    let room : length (settled front).schedule + length (first ∷ more) ≤ 1000000 = (let t = r.0 in search (rules, tests)) in
    let are = places_are (length (settled front).threads) (first ∷ more) (no_not _ p.0) in
    let long : length (map place_in (first ∷ more)) ≡ length (first ∷ more) = length-map (first ∷ more) place_in in
    let out = passed (has_block (settled front).opened) _ _ b.0 r.1 in
    schedule (map place_in (first ∷ more)) (ap (λ (ws : List (List ℕ)). codes "schedule" ∷ ws) are.0) st (omega arith) are.1 (omega arith) (outside _ out.0)
    (b.2 ∙ ap (body_after front behind.Schedule) (ok_is _ b.0 out.1))

phase_says : (front next : Front) (lines : List (List ℕ)) → is_open front.place ≡ true → with_body front behind.Operation (phase_line front.body) ≡ Ok next → Says front (codes "phase" ∷ []) lines next
phase_says front next lines st e =
    let b = bodied front next behind.Operation _ e in
    let r = passed (leb 63 (length front.body.phases)) _ _ b.0 b.1 in
    let room : length front.body.phases < 63 = (let t = r.0 in search (rules, tests)) in
    let out = passed (has_block front.body.opened) _ _ b.0 r.1 in
    phase refl st room (outside _ out.0) (b.2 ∙ ap (body_after front behind.Operation) (ok_is _ b.0 out.1))

slots_says : (front next : Front) (lines : List (List ℕ)) (number : List ℕ) → stands front.head.version front.place word.Slots ≡ true → with_head front behind.Slots (slots_line front.head number) ≡ Ok next
    → Says front (codes "slots" ∷ number ∷ []) lines next
slots_says front next lines number st e =
    let h = headed front next behind.Slots _ e in
    let n = found (number_in 1 4096 number) _ _ h.0 h.1 in
    let s = spelled 1 4096 number n.0 (omega arith) n.1 in
    slots n.0 (two (codes "slots") number _ s.0) st (s.1, s.2) (h.2 ∙ ap (head_after front behind.Slots) (ok_is _ h.0 n.2))

entries_says : (front next : Front) (lines : List (List ℕ)) (number : List ℕ) → stands front.head.version front.place word.Entries ≡ true → with_head front behind.Entries (entries_line front.head number) ≡ Ok next
    → Says front (codes "entries" ∷ number ∷ []) lines next
entries_says front next lines number st e =
    let h = headed front next behind.Entries _ e in
    let n = found (number_in 1 4096 number) _ _ h.0 h.1 in
    let s = spelled 1 4096 number n.0 (omega arith) n.1 in
    entries n.0 (two (codes "entries") number _ s.0) st (s.1, s.2) (h.2 ∙ ap (head_after front behind.Entries) (ok_is _ h.0 n.2))

version_says : (front next : Front) (lines : List (List ℕ)) (number : List ℕ) → stands front.head.version front.place word.Arc ≡ true → arc_line front number ≡ Ok next → Says front (codes "arc" ∷ number ∷ []) lines next
version_says front next lines number st e =
    let n = found (number_in 1 2 number) _ _ next e in
    let s = spelled 1 2 number n.0 (omega arith) n.1 in
    version n.0 (two (codes "arc") number _ s.0) st (s.1, s.2) (ok_is _ next n.2)

-- ---- any line

form_says : (front next : Front) (k : Keyword) (words lines : List (List ℕ)) → stands front.head.version front.place k ≡ true → form_line front k words lines ≡ Ok next → Says front (text_of_keyword k ∷ words) lines next
form_says front next word.Arc (number ∷ []) lines st e = version_says front next lines number st e
form_says front next word.Slots (number ∷ []) lines st e = slots_says front next lines number st e
form_says front next word.Entries (number ∷ []) lines st e = entries_says front next lines number st e
form_says front next word.Caps (s ∷ u ∷ w ∷ []) lines st e = caps_says front next lines s u w st e
form_says front next word.Class [] lines st e = absurd cc
form_says front next word.Class (name ∷ words) lines st e = class_says front next lines false name words st (λ no. absurd cc) e
form_says front next word.Immortal [] lines st e = absurd cc
form_says front next word.Immortal (name ∷ words) lines st e = class_says front next lines true name words (comes_of front.head.version front.place word.Immortal st) (λ yes. second_of front.head.version front.place word.Immortal st refl) e
form_says front next word.Global (a ∷ b ∷ c ∷ []) lines st e = global_says front next lines a b c st e
form_says front next word.Thread (number ∷ []) lines st e = thread_says front next lines number st e
form_says front next word.Var (a ∷ b ∷ c ∷ []) lines st e = var_says front next lines a b c st e
form_says front next word.New words lines st e = op_says front next lines word.New words st (λ no. absurd cc) e
form_says front next word.Drop words lines st e = op_says front next lines word.Drop words st (λ no. absurd cc) e
form_says front next (word.Pair w) words lines st e = op_says front next lines (word.Pair w) words st (λ no. absurd cc) e
form_says front next word.Get words lines st e = op_says front next lines word.Get words st (λ no. absurd cc) e
form_says front next word.Set words lines st e = op_says front next lines word.Set words st (λ no. absurd cc) e
form_says front next (word.Block w) words lines st e = op_says front next lines (word.Block w) words (comes_of front.head.version front.place (word.Block w) st) (second_of front.head.version front.place (word.Block w) st) e
form_says front next word.End [] lines st e = end_says front next lines e
form_says front next word.Phase [] lines st e = phase_says front next lines st e
form_says front next word.Schedule (number ∷ numbers) lines st e = schedule_says front next lines number numbers st e
form_says front next word.Done [] lines st e = done_says front next lines st e
form_says front next k words lines st e = absurd cc

pub line_says : (front next : Front) (line first : List ℕ) (words lines : List (List ℕ)) → said_line front line first words lines ≡ Ok next → Says front (first ∷ words) lines next
line_says front next line first words lines e =
    let a = passed (not (list_all is_plain line)) _ _ next e in
    let k = found (keyword_of first) _ _ next a.1 in
    let s = passed (not (stands front.head.version front.place k.0)) _ _ next k.2 in
    subst (λ (w : List ℕ). Says front (w ∷ words) lines next) (sym (keyword_text first k.0 k.1)) (form_says front next k.0 words lines (no_not _ s.0) s.1)
