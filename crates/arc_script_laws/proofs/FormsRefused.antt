-- A line that is refused has what its reason says: each form of line.
use Rattle.std.proofs.Common.{◌≡◌, ◌≢◌, ℕ, suc, ◌+◌, ◌^◌, ◌<◌, ◌≤◌, Bool, true, false, cond, eqb, leb, ltb, ◌&&◌, ◌||◌, ◌⊎◌, inl, inr, List, [], ◌∷◌, length, map, Option, Some, None, Result, Ok, Err, refl, sym, ap, subst, ◌∙◌, arith, rules, tests}
use Rattle.std.specs.Prelude.{not, is_some, unwrap_or, slice_index_or}
use Rattle.std.specs.List.{list_all, list_any, Any, flat_map}
use Rattle.std.proofs.lemmas.Bool.{eqb-true}
use Rattle.std.proofs.lemmas.List.{length-map}
use Rattle.arc_text.specs.Words.{is_name, is_plain, number_in}
use Rattle.arc_model.specs.declared.shape.Kind.{Kind}
use Rattle.arc_model.specs.declared.shape.Kind.TheVariants as kind
use Rattle.arc_script.specs.declared.script.ClassDecl.{ClassDecl}
use Rattle.arc_script.specs.declared.script.Op.{Op}
use Rattle.arc_script.specs.declared.reason.Reason.{Reason}
use Rattle.arc_script.specs.declared.reason.Reason.TheVariants as why
use Rattle.arc_script.specs.declared.keyword.PairWord.{PairWord}
use Rattle.arc_script.specs.declared.keyword.BlockWord.{BlockWord}
use Rattle.arc_script.specs.declared.keyword.Keyword.{Keyword}
use Rattle.arc_script.specs.declared.keyword.Keyword.TheVariants as word
use Rattle.arc_script.specs.declared.keyword.Place.TheVariants as behind
use Rattle.arc_script.specs.declared.operation.AtCell.{AtCell}
use Rattle.arc_script.specs.Keywords.{keyword_of, is_later, stands, is_class}
use Rattle.arc_script.specs.Valid.{place_of, is_weak, begins_block, class_names, var_names, var_refs, ref_at}
use Rattle.arc_script.specs.Said.{Grouped, HeadSaid, BodySaid}
use Rattle.arc_script.specs.Lookups.{kind_of, same_kind, has_repeat, class_place, var_place, is_owner}
use Rattle.arc_script.specs.HeadLines.{Spelled, is_field_word, spelled_of, is_misspelled, lacks_class, lacks_kind, declared_of, is_weak_field, class_line, decl_of, slots_line, entries_line, caps_line}
use Rattle.arc_script.specs.OpLines.{new_of, drop_of, block_of, pair_kinds, needs_two, pair_of, at_cell, as_get, as_set, op_of}
use Rattle.arc_script.specs.BodyLines.{thread_line, with_op, has_block, end_of, phase_line, is_place, schedule_line, done_line}
use Rattle.arc_script.specs.Group.{run_group, group_names, group_immortals}
use Rattle.arc_script.specs.Grammar.{Front, grouped, settled, form_line, said_line}
use Rattle.arc_script.specs.Accepted.{run_head}
use Rattle.arc_script_laws.specs.Faults.{IsBadByte, IsNoNumber, IsNoKind, IsNoName, IsIn, IsNotIn, LacksFieldParts, LacksCellParts, NumberWord, NameWord, field_parts, after_others, class_names_new, group_at, class_names_used, IsWeakField, HasFault, LineHas}
use Rattle.arc_script.proofs.Inverted.{both, neither, some_of, spelled}
use Rattle.arc_script.proofs.SaysOps.{op_is, begins_later}
use Rattle.arc_script_laws.proofs.Spelled.{number_back}
use Rattle.arc_script_laws.proofs.LineRefused.{unless, unless_none, accepted, here, there, either, not_not, some_fails, some_passes, any_map, any_append_right, bad_byte, no_number, no_kind, not_some, not_in, is_in, repeats_in, other_kind, two_names, weak_word, decl_fails, headless, bodiless, globalless, varless, Missing, at_fails, at_places}

-- ---- numbers

-- no number of a part of a range
no_number_within : (low high least most : ℕ) (w : List ℕ) → high < 2 ^ 64 → low ≤ least → most ≤ high → number_in low high w ≡ None → IsNoNumber least most w
no_number_within low high least most w fits l m none n a b same =
    let back : number_in low high w ≡ Some n = ap (number_in low high) same ∙ number_back low high n (omega arith) (omega arith) (omega arith) in
    absurd cc

other_number : (w : List ℕ) (n next : ℕ) → number_in 1 4294967295 w ≡ Some n → n ≢ next → 1 ≤ next → next ≤ 4294967295 → IsNoNumber next next w
other_number w n next at other some fits m a b same =
    let is : m ≡ next = omega arith in
    let back : number_in 1 4294967295 w ≡ Some m = ap (number_in 1 4294967295) same ∙ number_back 1 4294967295 m (omega arith) (omega arith) (omega arith) in
    let one : n ≡ m = cc in
    absurd (other (one ∙ is))

abbrev Wrong : NumberWord → Type 0
Wrong n = IsNoNumber n.low n.high n.text

abbrev number_word : ℕ → ℕ → List ℕ → NumberWord
number_word low high w = record { low = low; high = high; text = w }

no_place : (threads : ℕ) (w : List ℕ) → threads < 4294967295 → is_place threads w ≡ false → IsNoNumber 1 threads w
no_place threads w few h n a b same =
    let back : number_in 1 4294967295 w ≡ Some n = ap (number_in 1 4294967295) same ∙ number_back 1 4294967295 n a (omega arith) (omega arith) in
    let within : leb n threads ≡ true = search (rules, tests) in
    let holds : is_place threads w ≡ true = rw (back, within) refl in
    absurd cc

-- ---- each form

abbrev fault_of : Front → Keyword → List (List ℕ) → List (List ℕ) → Reason → Type 0
fault_of front k words lines r = HasFault r front k words lines

slots_refused : (front : Front) (w : List ℕ) (lines : List (List ℕ)) (r : Reason) → slots_line front.head w ≡ Err r → HasFault r front word.Slots (w ∷ []) lines
slots_refused front w lines r e = unless_none (fault_of front word.Slots (w ∷ []) lines) (number_in 1 4096 w) _ r _ e (λ none. here Wrong (number_word 1 4096 w) [] (no_number 1 4096 w (omega arith) none)) (λ n _ e. accepted _ r e)

entries_refused : (front : Front) (w : List ℕ) (lines : List (List ℕ)) (r : Reason) → entries_line front.head w ≡ Err r → HasFault r front word.Entries (w ∷ []) lines
entries_refused front w lines r e = unless_none (fault_of front word.Entries (w ∷ []) lines) (number_in 1 4096 w) _ r _ e (λ none. here Wrong (number_word 1 4096 w) [] (no_number 1 4096 w (omega arith) none)) (λ n _ e. accepted _ r e)

caps_refused : (front : Front) (s u w : List ℕ) (lines : List (List ℕ)) (r : Reason) → caps_line front.head s u w ≡ Err r → HasFault r front word.Caps (s ∷ u ∷ w ∷ []) lines
caps_refused front s u w lines r e =
    let P = fault_of front word.Caps (s ∷ u ∷ w ∷ []) lines in
    let third = number_word 1 4294967295 w in
    let second = number_word 1 2147483647 u in
    let first = number_word 0 1073741823 s in
    unless_none P (number_in 0 1073741823 s) _ r _ e (λ none. here Wrong first (second ∷ third ∷ []) (no_number 0 1073741823 s (omega arith) none)) (λ a at_a e.
    unless_none P (number_in 1 2147483647 u) _ r _ e (λ none. there Wrong first (second ∷ third ∷ []) (here Wrong second (third ∷ []) (no_number 1 2147483647 u (omega arith) none))) (λ b at_b e.
    unless_none P (number_in 1 4294967295 w) _ r _ e (λ none. there Wrong first (second ∷ third ∷ []) (there Wrong second (third ∷ []) (here Wrong third [] (no_number 1 4294967295 w (omega arith) none)))) (λ c at_c e.
    unless P (leb c a || ltb c b) _ r _ e (λ h. (
      a,
      b,
      c,
      (spelled 0 1073741823 s a (omega arith) at_a).0,
      (spelled 1 2147483647 u b (omega arith) at_b).0,
      (spelled 1 4294967295 w c (omega arith) at_c).0,
      elim (either (leb c a) (ltb c b) h) [
        | inl x ↦ inl (let t : c ≤ a = search (rules, tests) in omega arith)
        | inr y ↦ inr (let t : c < b = search (rules, tests) in t)
      ],
    )) (λ _ e. accepted _ r e))))

misspelled_in : (ws : List (List ℕ)) → list_any is_misspelled (map spelled_of ws) ≡ true → Any IsNoName (flat_map field_parts ws)
misspelled_in [] h = absurd cc
misspelled_in (w ∷ ws) h = elim (either (is_misspelled (spelled_of w)) (list_any is_misspelled (map spelled_of ws)) h) [
  | inl a ↦ two_names (spelled_of w).name (spelled_of w).class (flat_map field_parts ws) a
  | inr b ↦ any_append_right IsNoName (field_parts w) (flat_map field_parts ws) (misspelled_in ws b)
]

map_names : (ws : List (List ℕ)) → map (λ (f : Spelled). f.name) (map spelled_of ws) ≡ map (λ (w : List ℕ). (spelled_of w).name) ws
map_names [] = refl
map_names (w ∷ ws) = ap (λ (l : List (List ℕ)). (spelled_of w).name ∷ l) (map_names ws)

same_classes : (b : Bool) (h : HeadSaid) (g : List Grouped) → (let k : HeadSaid = cond b h (record h { group = g }) in k.classes) ≡ h.classes
same_classes true h g = refl
same_classes false h g = refl

-- what a fault of a class line is, the same for both keywords
record ClassFaults (P : Reason → Type 0) (front : Front) (immortal : Bool) (name : List ℕ) (words lines : List (List ℕ)) : Type 0 where
  counts : Any LacksFieldParts words → P why.WordCount
  names : Any IsNoName (name ∷ flat_map field_parts words) → P why.Spelling
  again : Any (λ (n : NameWord). IsIn n.set n.name) (class_names_new front name words) → P why.Again
  unknown : Any Missing (class_names_used (group_at front immortal name lines) words) → P why.Unknown
  kinds : Any IsNoKind (map (λ (w : List ℕ). (spelled_of w).kind) words) → P why.Kind
  many : (64 ≤ length front.head.classes) ⊎ (9 < suc (length words)) → P why.TooMany
  weak : Any (IsWeakField (group_at front immortal name lines)) words → P why.WeakImmortal

-- the word of a declared field that is weak and of an immortal class
weak_field : (group : List Grouped) (w : List ℕ) → lacks_class (group_names group) (spelled_of w) ≡ false → lacks_kind (spelled_of w) ≡ false → is_weak_field group (declared_of (group_names group) (spelled_of w)) ≡ true → IsWeakField group w
weak_field group w known kinded h =
    let at = some_of (place_of (group_names group) (spelled_of w).class) known in
    let of = some_of (kind_of (spelled_of w).kind) kinded in
    let t = both (is_weak (unwrap_or (kind_of (spelled_of w).kind) kind.Strong)) (slice_index_or (group_immortals group) (unwrap_or (place_of (group_names group) (spelled_of w).class) 0) false) h in (
      weak_word (spelled_of w).kind of.0 of.1 (subst (λ (o : Option Kind). is_weak (unwrap_or o kind.Strong) ≡ true) of.1 t.0),
      (at.0, at.1, subst (λ (o : Option ℕ). slice_index_or (group_immortals group) (unwrap_or o 0) false ≡ true) at.1 t.1),
    )

weak_fields : (group : List Grouped) (ws : List (List ℕ)) → list_any (lacks_class (group_names group)) (map spelled_of ws) ≡ false → list_any lacks_kind (map spelled_of ws) ≡ false
    → list_any (is_weak_field group) (map (declared_of (group_names group)) (map spelled_of ws)) ≡ true → Any (IsWeakField group) ws
weak_fields group [] known kinded h = absurd cc
weak_fields group (w ∷ ws) known kinded h =
    let c = neither (lacks_class (group_names group) (spelled_of w)) (list_any (lacks_class (group_names group)) (map spelled_of ws)) known in
    let k = neither (lacks_kind (spelled_of w)) (list_any lacks_kind (map spelled_of ws)) kinded in
    elim (either (is_weak_field group (declared_of (group_names group) (spelled_of w))) (list_any (is_weak_field group) (map (declared_of (group_names group)) (map spelled_of ws))) h) [
      | inl a ↦ here (IsWeakField group) w ws (weak_field group w c.0 k.0 a)
      | inr b ↦ there (IsWeakField group) w ws (weak_fields group ws c.1 k.1 b)
    ]

class_fails : (P : Reason → Type 0) (front : Front) (immortal : Bool) (name : List ℕ) (words lines : List (List ℕ)) (r : Reason) → ClassFaults P front immortal name words lines
    → class_line (grouped front immortal (name ∷ words) lines) immortal (name ∷ words) ≡ Err r → P r
class_fails P front immortal name words lines r faults e =
    let head = run_head front immortal name lines in
    let names = group_names head.group in
    let same : head.classes ≡ front.head.classes = same_classes (is_class front.place) front.head (record { name = name; immortal = immortal } ∷ run_group front.head.version lines) in
    let fs = map spelled_of words in
    let given : NameWord = record { set = class_names front.head.classes; name = name } in
    let others = after_others [] (map (λ (w : List ℕ). (spelled_of w).name) words) in
    unless P (not (list_all is_field_word words)) _ r _ e (λ h. faults.counts (some_fails is_field_word LacksFieldParts (λ w no. search (rules, tests)) words h)) (λ _ e.
    unless P (not (is_name name) || list_any is_misspelled fs) _ r _ e (λ h. faults.names (elim (either (not (is_name name)) (list_any is_misspelled fs) h) [
      | inl a ↦ here IsNoName name (flat_map field_parts words) (not_not _ a)
      | inr b ↦ there IsNoName name (flat_map field_parts words) (misspelled_in words b)
    ])) (λ _ e.
    unless P (is_some (class_place head.classes name) || has_repeat (map (λ (f : Spelled). f.name) fs)) _ r _ e (λ h. faults.again (elim (either (is_some (class_place head.classes name)) (has_repeat (map (λ (f : Spelled). f.name) fs)) h) [
      | inl a ↦ here (λ (n : NameWord). IsIn n.set n.name) given others (subst (λ (cs : List ClassDecl). IsIn (class_names cs) name) same (is_in (class_names head.classes) name a))
      | inr b ↦ there (λ (n : NameWord). IsIn n.set n.name) given others (repeats_in [] (map (λ (w : List ℕ). (spelled_of w).name) words) (ap has_repeat (sym (map_names words)) ∙ b))
    ])) (λ _ e.
    unless P (list_any (lacks_class names) fs) _ r _ e
    (λ h. faults.unknown (any_map (λ (w : List ℕ). let n : NameWord = record { set = names; name = (spelled_of w).class } in n) Missing words
    (some_passes (lacks_class names) spelled_of (λ (w : List ℕ). IsNotIn names (spelled_of w).class) (λ w no. not_in names (spelled_of w).class (not_some _ no)) words h))) (λ known e.
    unless P (list_any lacks_kind fs) _ r _ e
    (λ h. faults.kinds (any_map (λ (w : List ℕ). (spelled_of w).kind) IsNoKind words (some_passes lacks_kind spelled_of (λ (w : List ℕ). IsNoKind (spelled_of w).kind) (λ w no. no_kind (spelled_of w).kind (not_some _ no)) words h))) (λ kinded e.
    unless P (leb 64 (length head.classes) || ltb 8 (length fs)) _ r _ e (λ h. faults.many (elim (either (leb 64 (length head.classes)) (ltb 8 (length fs)) h) [
      | inl a ↦ inl (subst (λ (cs : List ClassDecl). 64 ≤ length cs) same (search (rules, tests)))
      | inr b ↦ inr (let long : length fs ≡ length words = length-map words spelled_of in let many : 8 < length fs = search (rules, tests) in omega arith)
    ])) (λ _ e.
    unless P (list_any (is_weak_field head.group) (map (declared_of names) fs)) _ r _ e (λ h. faults.weak (weak_fields head.group words known kinded h)) (λ _ e. accepted _ r e)))))))

class_refused : (front : Front) (name : List ℕ) (words lines : List (List ℕ)) (r : Reason) → class_line (grouped front false (name ∷ words) lines) false (name ∷ words) ≡ Err r → HasFault r front word.Class (name ∷ words) lines
class_refused front name words lines r e =
    class_fails (fault_of front word.Class (name ∷ words) lines) front false name words lines r
    (record { counts = λ h. inr (inl h); names = λ h. h; again = λ h. h; unknown = λ h. h; kinds = λ h. inl h; many = λ h. h; weak = λ h. h }) e

immortal_refused : (front : Front) (name : List ℕ) (words lines : List (List ℕ)) (r : Reason) → class_line (grouped front true (name ∷ words) lines) true (name ∷ words) ≡ Err r → HasFault r front word.Immortal (name ∷ words) lines
immortal_refused front name words lines r e =
    class_fails (fault_of front word.Immortal (name ∷ words) lines) front true name words lines r
    (record { counts = λ h. inr (inl h); names = λ h. h; again = λ h. h; unknown = λ h. h; kinds = λ h. inl h; many = λ h. h; weak = λ h. h }) e

global_refused : (front : Front) (name of_kind class : List ℕ) (lines : List (List ℕ)) (r : Reason) → decl_of 64 front.head.globals front.head.classes name of_kind class ≡ Err r → HasFault r front word.Global (name ∷ of_kind ∷ class ∷ []) lines
global_refused front name of_kind class lines r e =
    decl_fails (fault_of front word.Global (name ∷ of_kind ∷ class ∷ []) lines) 64 front.head.globals front.head.classes name of_kind class r e (λ h. h)
    (λ h. here (λ (n : NameWord). IsIn n.set n.name) (record { set = var_names front.head.globals; name = name }) [] h) (λ h. here Missing (record { set = class_names front.head.classes; name = class }) [] h)
    (λ h. inl (here IsNoKind of_kind [] h)) (λ h. h) (λ h. h)

var_refused : (front : Front) (name of_kind class : List ℕ) (lines : List (List ℕ)) (r : Reason) → decl_of 256 front.body.vars front.head.classes name of_kind class ≡ Err r → HasFault r front word.Var (name ∷ of_kind ∷ class ∷ []) lines
var_refused front name of_kind class lines r e =
    decl_fails (fault_of front word.Var (name ∷ of_kind ∷ class ∷ []) lines) 256 front.body.vars front.head.classes name of_kind class r e (λ h. h)
    (λ h. here (λ (n : NameWord). IsIn n.set n.name) (record { set = var_names front.body.vars; name = name }) [] h) (λ h. here Missing (record { set = class_names front.head.classes; name = class }) [] h)
    (λ h. inl (here IsNoKind of_kind [] h)) (λ h. h) (λ h. h)

block_open : (opened : List ℕ) → has_block opened ≡ true → opened ≢ []
block_open [] h = absurd cc
block_open (at ∷ opened) h = λ none. absurd cc

thread_refused : (front : Front) (w : List ℕ) (lines : List (List ℕ)) (r : Reason) → length (settled front).threads < 4294967295 → thread_line (settled front) w ≡ Err r → HasFault r front word.Thread (w ∷ []) lines
thread_refused front w lines r few e =
    let P = fault_of front word.Thread (w ∷ []) lines in
    let next = length (settled front).threads + 1 in
    unless_none P (number_in 1 4294967295 w) _ r _ e (λ none. here Wrong (number_word next next w) [] (no_number_within 1 4294967295 next next w (omega arith) (omega arith) (omega arith) none)) (λ n at e.
    unless P (not (eqb n next)) _ r _ e (λ h. here Wrong (number_word next next w) [] (other_number w n next at (let t = not_not _ h in search (rules, tests)) (omega arith) (omega arith))) (λ _ e.
    unless P (leb 64 (length (settled front).threads)) _ r _ e (λ h. search (rules, tests)) (λ _ e.
    unless P (has_block (settled front).opened) _ r _ e (block_open _) (λ _ e. accepted _ r e))))

schedule_refused : (front : Front) (words lines : List (List ℕ)) (r : Reason) → length (settled front).threads < 4294967295 → schedule_line (settled front) words ≡ Err r → HasFault r front word.Schedule words lines
schedule_refused front words lines r few e =
    let P = fault_of front word.Schedule words lines in
    let threads = length (settled front).threads in
    unless P (not (list_all (is_place threads) words)) _ r _ e
    (λ h. any_map (λ (w : List ℕ). number_word 1 threads w) Wrong words (some_fails (is_place threads) (IsNoNumber 1 threads) (λ w no. no_place threads w few no) words h)) (λ _ e.
    unless P (ltb 1000000 (length (settled front).schedule + length words)) _ r _ e (λ h. search (rules, tests)) (λ _ e.
    unless P (has_block (settled front).opened) _ r _ e (block_open _) (λ _ e. accepted _ r e)))

done_refused : (front : Front) (lines : List (List ℕ)) (r : Reason) → done_line (settled front) ≡ Err r → HasFault r front word.Done [] lines
done_refused front lines r e = unless (fault_of front word.Done [] lines) (has_block (settled front).opened) _ r _ e (block_open _) (λ _ e. accepted _ r e)

end_or_refused : (front : Front) (lines : List (List ℕ)) (opened : List ℕ) (r : Reason) → front.body.opened ≡ opened → end_of front.body opened ≡ Err r → HasFault r front word.End [] lines
end_or_refused front lines [] r is e = subst (fault_of front word.End [] lines) (let same : why.OpenBlock ≡ r = cc in same) is
end_or_refused front lines (at ∷ opened) r is e = accepted _ r e

phase_refused : (front : Front) (lines : List (List ℕ)) (r : Reason) → phase_line front.body ≡ Err r → HasFault r front word.Phase [] lines
phase_refused front lines r e = unless (fault_of front word.Phase [] lines) (leb 63 (length front.body.phases)) _ r _ e (λ h. search (rules, tests)) (λ _ e.
    unless (fault_of front word.Phase [] lines) (has_block front.body.opened) _ r _ e (block_open _) (λ _ e. accepted _ r e))

arc_refused : (front : Front) (w : List ℕ) (lines : List (List ℕ)) (r : Reason) → form_line front word.Arc (w ∷ []) lines ≡ Err r → HasFault r front word.Arc (w ∷ []) lines
arc_refused front w lines r e = unless_none (fault_of front word.Arc (w ∷ []) lines) (number_in 1 2 w) _ r _ e (λ none. here Wrong (number_word 1 2 w) [] (no_number 1 2 w (omega arith) none)) (λ n _ e. accepted _ r e)

-- ---- operations

-- an operation that is refused, or one more than there may be
op_or_limit : (P : Reason → Type 0) (b : BodySaid) (x : Result Op Reason) (r : Reason) → with_op b x ≡ Err r → (x ≡ Err r → P r)
    → ((o : Op) → x ≡ Ok o → (100000 ≤ b.count) ⊎ ((begins_block o ≡ true) × (8 ≤ length b.opened)) → P why.TooMany) → P r
op_or_limit P b (Ok o) r e f g =
    unless P (leb 100000 b.count || (begins_block o && leb 8 (length b.opened))) _ r _ e (λ h. g o refl (elim (either (leb 100000 b.count) (begins_block o && leb 8 (length b.opened)) h) [
      | inl a ↦ inl (search (rules, tests))
      | inr c ↦ inr (let t = both (begins_block o) (leb 8 (length b.opened)) c in (t.0, (let u = t.1 in search (rules, tests))))
    ])) (λ _ e. accepted _ r e)
op_or_limit P b (Err w) r e f g = f (ap (λ (q : Reason). let y : Result Op Reason = Err q in y) (let same : w ≡ r = cc in same))

-- an operation that isn't the beginning of a block
only_many : (front : Front) (k : Keyword) (words : List (List ℕ)) → is_later k ≡ false → (o : Op) → op_of front.head.classes front.head.globals front.body.vars k words ≡ Ok o
    → (100000 ≤ front.body.count) ⊎ ((begins_block o ≡ true) × (8 ≤ length front.body.opened)) → 100000 ≤ front.body.count
only_many front k words isnt o e (inl many) = many
only_many front k words isnt o e (inr deep) =
    let is = op_is front.head.classes front.head.globals front.body.vars k words o e in
    let later : is_later k ≡ true = begins_later front.head.classes front.head.globals front.body.vars k words o is.0 deep.0 in
    absurd cc

too_many_or : {A B C : Type 0} → A ⊎ (C × B) → A ⊎ B
too_many_or (inl a) = inl a
too_many_or (inr b) = inr b.1

abbrev var_word : Front → List ℕ → NameWord
var_word front name = record { set = var_names front.body.vars; name = name }

new_refused : (front : Front) (to class : List ℕ) (lines : List (List ℕ)) (r : Reason) → new_of front.head.classes front.body.vars to class ≡ Err r → HasFault r front word.New (to ∷ class ∷ []) lines
new_refused front to class lines r e =
    let P = fault_of front word.New (to ∷ class ∷ []) lines in
    let vars = front.body.vars in
    let classes = front.head.classes in
    let second : NameWord = record { set = class_names classes; name = class } in
    unless P (not (is_name to) || not (is_name class)) _ r _ e (λ h. two_names to class [] h) (λ _ e.
    unless_none P (var_place vars to) _ r _ e (λ none. here Missing (var_word front to) (second ∷ []) (not_in (var_names vars) to none)) (λ t at_t e.
    unless_none P (class_place classes class) _ r _ e (λ none. there Missing (var_word front to) (second ∷ []) (here Missing second [] (not_in (class_names classes) class none))) (λ c at_c e.
    unless P (not (same_kind (ref_at (var_refs vars) t).kind kind.Strong)) _ r _ e (λ h. inr (t, at_t, other_kind _ kind.Strong (not_not _ h))) (λ _ e.
    unless P (not (eqb (ref_at (var_refs vars) t).class c)) _ r _ e (λ h. (t, c, at_t, at_c, (let u = not_not _ h in search (rules, tests)))) (λ _ e. accepted _ r e)))))

drop_refused : (front : Front) (var : List ℕ) (lines : List (List ℕ)) (r : Reason) → drop_of front.body.vars var ≡ Err r → HasFault r front word.Drop (var ∷ []) lines
drop_refused front var lines r e =
    let P = fault_of front word.Drop (var ∷ []) lines in
    unless P (not (is_name var)) _ r _ e (λ h. here IsNoName var [] (not_not _ h)) (λ _ e.
    unless_none P (var_place front.body.vars var) _ r _ e (λ none. here Missing (var_word front var) [] (not_in (var_names front.body.vars) var none)) (λ v _ e. accepted _ r e))

block_refused : (front : Front) (w : BlockWord) (var : List ℕ) (lines : List (List ℕ)) (r : Reason) → block_of front.body.vars w var ≡ Err r → HasFault r front (word.Block w) (var ∷ []) lines
block_refused front w var lines r e =
    let P = fault_of front (word.Block w) (var ∷ []) lines in
    unless P (not (is_name var)) _ r _ e (λ h. here IsNoName var [] (not_not _ h)) (λ _ e.
    unless_none P (var_place front.body.vars var) _ r _ e (λ none. here Missing (var_word front var) [] (not_in (var_names front.body.vars) var none)) (λ v _ e. accepted _ r e))

pair_refused : (front : Front) (w : PairWord) (to of : List ℕ) (lines : List (List ℕ)) (r : Reason) → pair_of front.body.vars w to of ≡ Err r → HasFault r front (word.Pair w) (to ∷ of ∷ []) lines
pair_refused front w to of lines r e =
    let P = fault_of front (word.Pair w) (to ∷ of ∷ []) lines in
    let vars = front.body.vars in
    unless P (not (is_name to) || not (is_name of)) _ r _ e (λ h. two_names to of [] h) (λ _ e.
    unless_none P (var_place vars to) _ r _ e (λ none. here Missing (var_word front to) (var_word front of ∷ []) (not_in (var_names vars) to none)) (λ t at_t e.
    unless_none P (var_place vars of) _ r _ e (λ none. there Missing (var_word front to) (var_word front of ∷ []) (here Missing (var_word front of) [] (not_in (var_names vars) of none))) (λ o at_o e.
    unless P (not (pair_kinds w (ref_at (var_refs vars) t).kind (ref_at (var_refs vars) o).kind)) _ r _ e (λ h. inr (t, o, at_t, at_o, not_not _ h)) (λ _ e.
    unless P (not (eqb (ref_at (var_refs vars) t).class (ref_at (var_refs vars) o).class)) _ r _ e (λ h. (t, o, at_t, at_o, (let u = not_not _ h in search (rules, tests)))) (λ _ e.
    unless P (needs_two w && eqb t o) _ r _ e (λ h. let b = both (needs_two w) (eqb t o) h in (b.0, (t, o, at_t, at_o, eqb-true _ _ b.1))) (λ _ e. accepted _ r e))))))

get_or_refused : (front : Front) (to w : List ℕ) (lines : List (List ℕ)) (r : Reason) (x : Result AtCell Reason) → at_cell front.head.classes front.head.globals front.body.vars to w ≡ x → as_get x ≡ Err r → HasFault r front word.Get (to ∷ w ∷ []) lines
get_or_refused front to w lines r (Ok at) h e = accepted _ r e
get_or_refused front to w lines r (Err q) h e =
    let same : q ≡ r = cc in
    at_fails (fault_of front word.Get (to ∷ w ∷ []) lines) front to w r (h ∙ ap (λ (p : Reason). let y : Result AtCell Reason = Err p in y) same) (λ f. inr (inr (here LacksCellParts w [] f))) (λ f. f) (λ f. f) (λ f. inr f) (λ f. f)

set_or_refused : (front : Front) (from w : List ℕ) (lines : List (List ℕ)) (r : Reason) (x : Result AtCell Reason) → at_cell front.head.classes front.head.globals front.body.vars from w ≡ x → as_set x ≡ Err r → HasFault r front word.Set (w ∷ from ∷ []) lines
set_or_refused front from w lines r (Ok at) h e =
    let places = at_places front from w at h in
    unless (fault_of front word.Set (w ∷ from ∷ []) lines) (is_owner at.var at.cell) _ r _ e (λ own. (at.var, at.cell, places.0, places.1, own)) (λ _ e. accepted _ r e)
set_or_refused front from w lines r (Err q) h e =
    let same : q ≡ r = cc in
    at_fails (fault_of front word.Set (w ∷ from ∷ []) lines) front from w r (h ∙ ap (λ (p : Reason). let y : Result AtCell Reason = Err p in y) same) (λ f. inr (inr (here LacksCellParts w [] f))) (λ f. f) (λ f. f) (λ f. inr f) (λ f. f)

-- ---- any line

form_refused : (front : Front) (k : Keyword) (words lines : List (List ℕ)) (r : Reason) → length (settled front).threads < 4294967295 → form_line front k words lines ≡ Err r → HasFault r front k words lines
form_refused front word.Arc (w ∷ []) lines r few e = arc_refused front w lines r e
form_refused front word.Slots (w ∷ []) lines r few e = slots_refused front w lines r (headless front behind.Slots _ r e)
form_refused front word.Entries (w ∷ []) lines r few e = entries_refused front w lines r (headless front behind.Entries _ r e)
form_refused front word.Caps (s ∷ u ∷ w ∷ []) lines r few e = caps_refused front s u w lines r (headless front behind.Caps _ r e)
form_refused front word.Class (name ∷ words) lines r few e = class_refused front name words lines r (headless front behind.Class _ r e)
form_refused front word.Immortal (name ∷ words) lines r few e = immortal_refused front name words lines r (headless front behind.Class _ r e)
form_refused front word.Global (a ∷ b ∷ c ∷ []) lines r few e = global_refused front a b c lines r (globalless front.head _ r (headless front behind.Global _ r e))
form_refused front word.Thread (w ∷ []) lines r few e = thread_refused front w lines r few (bodiless front behind.Thread _ r e)
form_refused front word.Var (a ∷ b ∷ c ∷ []) lines r few e = var_refused front a b c lines r (varless front.body _ r (bodiless front behind.Thread _ r e))
form_refused front word.New (to ∷ class ∷ []) lines r few e = op_or_limit (fault_of front word.New (to ∷ class ∷ []) lines) front.body _ r (bodiless front behind.Operation _ r e) (new_refused front to class lines r) (only_many front word.New (to ∷ class ∷ []) refl)
form_refused front word.Drop (var ∷ []) lines r few e = op_or_limit (fault_of front word.Drop (var ∷ []) lines) front.body _ r (bodiless front behind.Operation _ r e) (drop_refused front var lines r) (only_many front word.Drop (var ∷ []) refl)
form_refused front (word.Pair w) (to ∷ of ∷ []) lines r few e = op_or_limit (fault_of front (word.Pair w) (to ∷ of ∷ []) lines) front.body _ r (bodiless front behind.Operation _ r e) (pair_refused front w to of lines r) (only_many front (word.Pair w) (to ∷ of ∷ []) refl)
form_refused front word.Get (to ∷ w ∷ []) lines r few e =
    op_or_limit (fault_of front word.Get (to ∷ w ∷ []) lines) front.body _ r (bodiless front behind.Operation _ r e) (get_or_refused front to w lines r (at_cell front.head.classes front.head.globals front.body.vars to w) refl) (only_many front word.Get (to ∷ w ∷ []) refl)
form_refused front word.Set (w ∷ from ∷ []) lines r few e =
    op_or_limit (fault_of front word.Set (w ∷ from ∷ []) lines) front.body _ r (bodiless front behind.Operation _ r e) (set_or_refused front from w lines r (at_cell front.head.classes front.head.globals front.body.vars from w) refl) (only_many front word.Set (w ∷ from ∷ []) refl)
form_refused front (word.Block w) (var ∷ []) lines r few e =
    op_or_limit (fault_of front (word.Block w) (var ∷ []) lines) front.body _ r (bodiless front behind.Operation _ r e) (block_refused front w var lines r) (λ o is h. too_many_or h)
form_refused front word.End [] lines r few e = end_or_refused front lines front.body.opened r refl (bodiless front behind.Operation _ r e)
form_refused front word.Phase [] lines r few e = phase_refused front lines r (bodiless front behind.Operation _ r e)
form_refused front word.Schedule (w ∷ words) lines r few e = schedule_refused front (w ∷ words) lines r few (bodiless front behind.Schedule _ r e)
form_refused front word.Done [] lines r few e = done_refused front lines r (bodiless front behind.Ended _ r e)
form_refused front k words lines r few e = subst (fault_of front k words lines) (let same : why.WordCount ≡ r = cc in same) (inl (λ fits. absurd (omega arith)))

-- a fault of the words behind the first is one of the line
of_line : (r : Reason) (front : Front) (line first : List ℕ) (words lines : List (List ℕ)) (k : Keyword) → keyword_of first ≡ Some k → HasFault r front k words lines → LineHas r front line first words lines
of_line why.Byte front line first words lines k e h = absurd h
of_line why.FirstWord front line first words lines k e h = absurd h
of_line r front line first words lines k e h = (k, e, h)

pub line_has : (front : Front) (line first : List ℕ) (words lines : List (List ℕ)) (r : Reason) → length (settled front).threads < 4294967295 → said_line front line first words lines ≡ Err r → LineHas r front line first words lines
line_has front line first words lines r few e =
    let P : Reason → Type 0 = λ r. LineHas r front line first words lines in
    unless P (not (list_all is_plain line)) _ r _ e (λ h. some_fails is_plain IsBadByte bad_byte line h) (λ _ e.
    unless_none P (keyword_of first) _ r _ e (λ none. inl none) (λ k at e.
    unless P (not (stands front.head.version front.place k)) _ r _ e (λ h. inr (k, at, not_not _ h)) (λ _ e.
    of_line r front line first words lines k at (form_refused front k words lines r few e))))
