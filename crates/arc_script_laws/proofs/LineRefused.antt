-- A line that is refused has what its reason says.
use Rattle.std.proofs.Common.{◌≡◌, ◌≢◌, ℕ, zero, suc, ◌^◌, ◌<◌, ◌≤◌, Bool, true, false, cond, eqb, leb, ltb, ◌&&◌, ◌||◌, ◌⊎◌, inl, inr, List, [], ◌∷◌, ◌++◌, length, map, drop, Option, Some, None, Result, Ok, Err, refl, sym, ap, subst, ◌∙◌, arith, rules, tests, count_by}
use Rattle.std.specs.Prelude.{not, is_some, bytes_eq, option_map, codes, slice_index_or}
use Rattle.std.specs.List.{list_all, list_any, Any, before_first, after_first, position_or_len}
use Rattle.std.proofs.lemmas.Bool.{ltb-false}
use Rattle.std.proofs.lemmas.List.Sums.{fails_before_first, prefix_len-le-length}
use Rattle.arc_text.specs.Words.{is_name, is_plain, number_in}
use Rattle.arc_text.specs.Chain.{refuse, need}
use Rattle.arc_model.specs.declared.shape.Kind.{Kind}
use Rattle.arc_model.specs.declared.shape.Kind.TheVariants as kind
use Rattle.arc_script.specs.declared.script.ClassDecl.{ClassDecl}
use Rattle.arc_script.specs.declared.script.VarDecl.{VarDecl}
use Rattle.arc_script.specs.declared.script.OpCell.{OpCell}
use Rattle.arc_script.specs.declared.script.OpCell.TheVariants as cell
use Rattle.arc_script.specs.declared.reason.Reason.{Reason}
use Rattle.arc_script.specs.declared.reason.Reason.TheVariants as why
use Rattle.arc_script.specs.declared.keyword.Place.{Place}
use Rattle.arc_script.specs.declared.operation.AtCell.{AtCell}
use Rattle.arc_script.specs.Valid.{name_at, place_of, immortals_of, is_weak, is_weak_immortal, class_names, var_names, field_names, var_refs, ref_at, owner_fields, cell_ref}
use Rattle.arc_script.specs.Said.{HeadSaid, BodySaid}
use Rattle.arc_script.specs.Lookups.{kind_of, same_kind, is_among, repeats, class_place, var_place, is_at_sign, is_dot, is_cell_word, is_cell_spelled, field_of, cell_of, has_strong_owner}
use Rattle.arc_script.specs.HeadLines.{decl_of, with_global}
use Rattle.arc_script.specs.OpLines.{at_cell}
use Rattle.arc_script.specs.BodyLines.{with_var}
use Rattle.arc_script.specs.Grammar.{Front, with_head, with_body}
use Rattle.arc_script_laws.specs.Faults.{IsBadByte, IsNoNumber, IsNoKind, IsNoName, IsIn, IsNotIn, LacksCellParts, NameWord, cell_names, after_others, field_used, cell_used, CellIs, IsImmortalIn}
use Rattle.arc_script.proofs.Inverted.{both, kind_is, passed, found, ok_is, neither, place_found, same_bytes, same_text}
use Rattle.arc_script.specs.Group.{group_names, group_of}
use Rattle.arc_script.proofs.ReadValid.{immortals_back}
use Rattle.arc_script_laws.proofs.Spelled.{number_back}
use Rattle.arc_script_laws.proofs.FormsBack.{kind_back, same_self}

-- ---- chains

-- the test fails, or the rest of the chain does
pub unless : {X R : Type 0} (P : R → Type 0) (b : Bool) (w r : R) (rest : Result X R) → refuse b w rest ≡ Err r → (b ≡ true → P w) → (b ≡ false → rest ≡ Err r → P r) → P r
unless P true w r rest e f g = let same : w ≡ r = cc in subst P same (f refl)
unless P false w r rest e f g = g refl e

pub unless_none : {A X R : Type 0} (P : R → Type 0) (o : Option A) (w r : R) (k : A → Result X R) → need o w k ≡ Err r → (o ≡ None → P w) → ((x : A) → o ≡ Some x → k x ≡ Err r → P r) → P r
unless_none P None w r k e f g = let same : w ≡ r = cc in subst P same (f refl)
unless_none P (Some x) w r k e f g = g x refl e

pub accepted : {X R : Type 0} {Q : Type 0} (x : X) (r : R) → (let y : Result X R = Ok x in y) ≡ Err r → Q
accepted x r e = absurd cc

-- ---- elements

pub here : {X : Type 0} (P : X → Type 0) (x : X) (xs : List X) → P x → Any P (x ∷ xs)
here P x xs p = (0, x, omega arith, refl, p)

pub there : {X : Type 0} (P : X → Type 0) (x : X) (xs : List X) → Any P xs → Any P (x ∷ xs)
there P x xs (k, y, lt, at, p) = (suc k, y, omega arith, at, p)

pub either : (a b : Bool) → (a || b) ≡ true → (a ≡ true) ⊎ (b ≡ true)
either true b h = inl refl
either false b h = inr h

pub not_not : (b : Bool) → not b ≡ true → b ≡ false
not_not true h = absurd cc
not_not false h = refl

pub not_all : (a b : Bool) → not (a && b) ≡ true → (a ≡ false) ⊎ (not b ≡ true)
not_all true b h = inr h
not_all false b h = inl refl

pub some_fails : {X : Type 0} (p : X → Bool) (P : X → Type 0) → ((x : X) → p x ≡ false → P x) → (xs : List X) → not (list_all p xs) ≡ true → Any P xs
some_fails p P f [] h = absurd cc
some_fails p P f (x ∷ xs) h = elim (not_all (p x) (list_all p xs) h) [ inl a ↦ here P x xs (f x a) | inr b ↦ there P x xs (some_fails p P f xs b) ]

pub some_passes : {X Y : Type 0} (p : Y → Bool) (g : X → Y) (P : X → Type 0) → ((x : X) → p (g x) ≡ true → P x) → (xs : List X) → list_any p (map g xs) ≡ true → Any P xs
some_passes p g P f [] h = absurd cc
some_passes p g P f (x ∷ xs) h = elim (either (p (g x)) (list_any p (map g xs)) h) [ inl a ↦ here P x xs (f x a) | inr b ↦ there P x xs (some_passes p g P f xs b) ]

pub any_map : {X Y : Type 0} (g : X → Y) (P : Y → Type 0) (xs : List X) → Any (λ x. P (g x)) xs → Any P (map g xs)
any_map g P [] (k, x, lt, at, p) = absurd (omega arith)
any_map g P (y ∷ ys) (zero, x, lt, at, p) = here P (g y) (map g ys) (subst (λ z. P (g z)) (sym at) p)
any_map g P (y ∷ ys) (suc k, x, lt, at, p) = there P (g y) (map g ys) (any_map g P ys (k, x, omega arith, at, p))

pub any_append_right : {X : Type 0} (P : X → Type 0) (xs ys : List X) → Any P ys → Any P (xs ++ ys)
any_append_right P [] ys a = a
any_append_right P (x ∷ xs) ys a = there P x (xs ++ ys) (any_append_right P xs ys a)

-- ---- bytes, numbers, names, kinds

pub bad_byte : (b : ℕ) → is_plain b ≡ false → IsBadByte b
bad_byte b h =
    let n = neither (eqb b 9) (leb 32 b && leb b 126) h in
    let tab : b ≢ 9 = (let t = n.0 in search (rules, tests)) in (
      tab,
      elim (not_all (leb 32 b) (leb b 126) (ap not n.1)) [
        | inl low ↦ inl (let t = low in let is : b < 32 = search (rules, tests) in is)
        | inr high ↦ inr (let t = not_not _ high in let is : 126 < b = search (rules, tests) in is)
      ],
    )

pub no_number : (low high : ℕ) (w : List ℕ) → high < 2 ^ 64 → number_in low high w ≡ None → IsNoNumber low high w
no_number low high w fits none n least most same =
    let back : number_in low high w ≡ Some n = ap (number_in low high) same ∙ number_back low high n least most (omega arith) in
    absurd cc

pub no_kind : (w : List ℕ) → kind_of w ≡ None → IsNoKind w
no_kind w none k same = let back : kind_of w ≡ Some k = ap kind_of same ∙ kind_back k in absurd cc

pub not_some : {X : Type 0} (o : Option X) → not (is_some o) ≡ true → o ≡ None
not_some None h = refl
not_some (Some x) h = absurd cc

pub is_one : {X : Type 0} (o : Option X) → is_some o ≡ true → (x : X) × (o ≡ Some x)
is_one None h = absurd cc
is_one (Some x) h = (x, refl)

unknown : (b : Bool) (m : ℕ) → cond b (Some m) None ≡ None → b ≡ false
unknown true m e = absurd cc
unknown false m e = refl

pub not_in : (names : List (List ℕ)) (n : List ℕ) → place_of names n ≡ None → IsNotIn names n
not_in names n none i lt same =
    let least : position_or_len (λ m. bytes_eq m n) names ≤ length names = prefix_len-le-length (λ m. not (bytes_eq m n)) names in
    let past : length names ≤ position_or_len (λ m. bytes_eq m n) names = ltb-false _ _ (unknown (ltb (position_or_len (λ m. bytes_eq m n) names) (length names)) (position_or_len (λ m. bytes_eq m n) names) none) in
    let fails : bytes_eq (name_at names i) n ≡ false = fails_before_first (λ m. bytes_eq m n) names i [] (omega arith) in
    let holds : bytes_eq (name_at names i) n ≡ true = ap (λ (m : List ℕ). bytes_eq m n) same ∙ same_bytes n in
    absurd cc

pub is_in : (names : List (List ℕ)) (n : List ℕ) → is_some (place_of names n) ≡ true → IsIn names n
is_in names n h = let p = is_one (place_of names n) h in let f = place_found names n p.0 p.1 in (p.0, f.0, f.1)

pub among_in : (names : List (List ℕ)) (n : List ℕ) → is_among names n ≡ true → IsIn names n
among_in [] n h = absurd cc
among_in (m ∷ ms) n h = elim (either (bytes_eq m n) (is_among ms n) h) [
  | inl a ↦ (0, omega arith, same_text m n a)
  | inr b ↦ (let r = among_in ms n b in let lt = r.1 in (suc r.0, omega arith, r.2))
]

pub repeats_in : (seen names : List (List ℕ)) → repeats seen names ≡ true → Any (λ (n : NameWord). IsIn n.set n.name) (after_others seen names)
repeats_in seen [] h = absurd cc
repeats_in seen (n ∷ ns) h = elim (either (is_among seen n) (repeats (seen ++ n ∷ []) ns) h) [
  | inl a ↦ here (λ (m : NameWord). IsIn m.set m.name) (record { set = seen; name = n }) (after_others (seen ++ n ∷ []) ns) (among_in seen n a)
  | inr b ↦ there (λ (m : NameWord). IsIn m.set m.name) (record { set = seen; name = n }) (after_others (seen ++ n ∷ []) ns) (repeats_in (seen ++ n ∷ []) ns b)
]

pub other_kind : (k l : Kind) → same_kind k l ≡ false → k ≢ l
other_kind k l h same = absurd (let self : same_kind k l ≡ true = subst (λ (m : Kind). same_kind k m ≡ true) same (same_self k) in cc)

pub two_names : (a b : List ℕ) (rest : List (List ℕ)) → (not (is_name a) || not (is_name b)) ≡ true → Any IsNoName (a ∷ b ∷ rest)
two_names a b rest h = elim (either (not (is_name a)) (not (is_name b)) h) [
  | inl x ↦ here IsNoName a (b ∷ rest) (not_not _ x)
  | inr y ↦ there IsNoName a (b ∷ rest) (here IsNoName b rest (not_not _ y))
]

-- ---- declarations

pub weak_word : (w : List ℕ) (k : Kind) → kind_of w ≡ Some k → is_weak k ≡ true → w ≡ codes "weak"
weak_word w kind.Weak is h = kind_is w kind.Weak is
weak_word w k is h = absurd cc

names_of : (classes : List ClassDecl) → group_names (group_of classes) ≡ class_names classes
names_of [] = refl
names_of (c ∷ cs) = ap (λ (ns : List (List ℕ)). c.name ∷ ns) (names_of cs)

pub decl_fails : (P : Reason → Type 0) (limit : ℕ) (vars : List VarDecl) (classes : List ClassDecl) (name of_kind class : List ℕ) (r : Reason) → decl_of limit vars classes name of_kind class ≡ Err r
    → (Any IsNoName (name ∷ class ∷ []) → P why.Spelling) → (IsIn (var_names vars) name → P why.Again) → (IsNotIn (class_names classes) class → P why.Unknown) → (IsNoKind of_kind → P why.Kind) → (limit ≤ length vars → P why.TooMany)
    → ((of_kind ≡ codes "weak") × IsImmortalIn (group_of classes) class → P why.WeakImmortal) → P r
decl_fails P limit vars classes name of_kind class r e spelling again unknown_class kinds many weak =
    unless P (not (is_name name) || not (is_name class)) _ r _ e (λ h. spelling (two_names name class [] h)) (λ _ e.
    unless P (is_some (var_place vars name)) _ r _ e (λ h. again (is_in (var_names vars) name h)) (λ _ e.
    unless_none P (class_place classes class) _ r _ e (λ none. unknown_class (not_in (class_names classes) class none)) (λ c at e.
    unless_none P (kind_of of_kind) _ r _ e (λ none. kinds (no_kind of_kind none)) (λ k is e.
    unless P (leb limit (length vars)) _ r _ e (λ h. many (search (rules, tests))) (λ _ e.
    unless P (is_weak_immortal (immortals_of classes) k c) _ r _ e (λ h.
    let w = both (is_weak k) (slice_index_or (immortals_of classes) c false) h in
    weak (weak_word of_kind k is w.0, (c, ap (λ (ns : List (List ℕ)). place_of ns class) (names_of classes) ∙ at, ap (λ (is : List Bool). slice_index_or is c false) (immortals_back classes) ∙ w.1))) (λ _ e. accepted _ r e))))))

pub headless : (front : Front) (place : Place) (x : Result HeadSaid Reason) (r : Reason) → with_head front place x ≡ Err r → x ≡ Err r
headless front place (Ok h) r e = absurd cc
headless front place (Err w) r e = ap (λ (q : Reason). let y : Result HeadSaid Reason = Err q in y) (let same : w ≡ r = cc in same)

pub bodiless : (front : Front) (place : Place) (x : Result BodySaid Reason) (r : Reason) → with_body front place x ≡ Err r → x ≡ Err r
bodiless front place (Ok h) r e = absurd cc
bodiless front place (Err w) r e = ap (λ (q : Reason). let y : Result BodySaid Reason = Err q in y) (let same : w ≡ r = cc in same)

pub globalless : (head : HeadSaid) (x : Result VarDecl Reason) (r : Reason) → with_global head x ≡ Err r → x ≡ Err r
globalless head (Ok v) r e = absurd cc
globalless head (Err w) r e = ap (λ (q : Reason). let y : Result VarDecl Reason = Err q in y) (let same : w ≡ r = cc in same)

pub varless : (body : BodySaid) (x : Result VarDecl Reason) (r : Reason) → with_var body x ≡ Err r → x ≡ Err r
varless body (Ok v) r e = absurd cc
varless body (Err w) r e = ap (λ (q : Reason). let y : Result VarDecl Reason = Err q in y) (let same : w ≡ r = cc in same)

-- ---- cells

unmapped : {A B : Type 0} (f : A → B) (o : Option A) → option_map f o ≡ None → o ≡ None
unmapped f None e = refl
unmapped f (Some x) e = absurd cc

names_or : (b x y z : Bool) (d p q : List ℕ) → x ≡ is_name d → y ≡ is_name p → z ≡ is_name q → not (cond b x (y && z)) ≡ true → Any IsNoName (cond b (d ∷ []) (p ∷ q ∷ []))
names_or true x y z d p q a b c h = here IsNoName d [] (sym a ∙ not_not x h)
names_or false x y z d p q a b c h = elim (not_all y z h) [
  | inl n ↦ here IsNoName p (q ∷ []) (sym b ∙ n)
  | inr m ↦ there IsNoName p (q ∷ []) (here IsNoName q [] (sym c ∙ not_not z m))
]

abbrev pub Missing : NameWord → Type 0
Missing n = IsNotIn n.set n.name

field_missing : (front : Front) (owner_word field : List ℕ) (o : Option ℕ) → var_place front.body.vars owner_word ≡ o → field_of front.head.classes front.body.vars o field ≡ None
    → Any Missing (record { set = var_names front.body.vars; name = owner_word } ∷ field_used front o field)
field_missing front owner_word field None at e = here Missing (record { set = var_names front.body.vars; name = owner_word }) [] (not_in (var_names front.body.vars) owner_word at)
field_missing front owner_word field (Some owner) at e =
    let none = unmapped (λ f. cell.Field owner f) (place_of (field_names (owner_fields front.head.classes front.body.vars owner)) field) e in
    there Missing (record { set = var_names front.body.vars; name = owner_word }) (field_used front (Some owner) field)
    (here Missing (record { set = field_names (owner_fields front.head.classes front.body.vars owner); name = field }) [] (not_in (field_names (owner_fields front.head.classes front.body.vars owner)) field none))

cell_missing : (front : Front) (w : List ℕ) (b : Bool) → cond b (option_map (λ g. cell.Global g) (var_place front.head.globals (drop 1 w))) (field_of front.head.classes front.body.vars (var_place front.body.vars (before_first is_dot w)) (after_first is_dot w)) ≡ None
    → Any Missing (cond b (record { set = var_names front.head.globals; name = drop 1 w } ∷ []) (record { set = var_names front.body.vars; name = before_first is_dot w } ∷ field_used front (var_place front.body.vars (before_first is_dot w)) (after_first is_dot w)))
cell_missing front w true e = here Missing (record { set = var_names front.head.globals; name = drop 1 w }) [] (not_in (var_names front.head.globals) (drop 1 w) (unmapped (λ g. cell.Global g) (var_place front.head.globals (drop 1 w)) e))
cell_missing front w false e = field_missing front (before_first is_dot w) (after_first is_dot w) (var_place front.body.vars (before_first is_dot w)) refl e

pub at_fails : (P : Reason → Type 0) (front : Front) (var w : List ℕ) (r : Reason) → at_cell front.head.classes front.head.globals front.body.vars var w ≡ Err r
    → (LacksCellParts w → P why.WordCount) → (Any IsNoName (var ∷ cell_names w) → P why.Spelling) → (Any Missing (record { set = var_names front.body.vars; name = var } ∷ cell_used front w) → P why.Unknown)
    → (CellIs front var w (λ v c. (has_strong_owner front.body.vars c ≡ false) ⊎ ((ref_at (var_refs front.body.vars) v).kind ≢ (cell_ref front.head.classes front.head.globals front.body.vars c).kind)) → P why.Kind)
    → (CellIs front var w (λ v c. (ref_at (var_refs front.body.vars) v).class ≢ (cell_ref front.head.classes front.head.globals front.body.vars c).class) → P why.Classes) → P r
at_fails P front var w r e parts spelling missing kinds classes_differ =
    let vars = front.body.vars in
    let classes = front.head.classes in
    let globals = front.head.globals in
    let first : NameWord = record { set = var_names vars; name = var } in
    unless P (not (is_cell_word w)) _ r _ e (λ h. parts (let n = neither (is_at_sign w) (eqb (count_by is_dot w) 1) (not_not _ h) in (n.0, (let t = n.1 in search (rules, tests))))) (λ _ e.
    unless P (not (is_name var) || not (is_cell_spelled w)) _ r _ e
    (λ h. spelling (elim (either (not (is_name var)) (not (is_cell_spelled w)) h) [
      | inl a ↦ here IsNoName var (cell_names w) (not_not _ a)
      | inr b ↦ there IsNoName var (cell_names w) (names_or (is_at_sign w) _ _ _ (drop 1 w) (before_first is_dot w) (after_first is_dot w) refl refl refl b)
    ])) (λ _ e.
    unless_none P (var_place vars var) _ r _ e (λ none. missing (here Missing first (cell_used front w) (not_in (var_names vars) var none))) (λ v at e.
    unless_none P (cell_of classes globals vars w) _ r _ e (λ none. missing (there Missing first (cell_used front w) (cell_missing front w (is_at_sign w) none))) (λ c is e.
    unless P (not (has_strong_owner vars c) || not (same_kind (ref_at (var_refs vars) v).kind (cell_ref classes globals vars c).kind)) _ r _ e
    (λ h. kinds (
      v,
      c,
      at,
      is,
      elim (either (not (has_strong_owner vars c)) (not (same_kind (ref_at (var_refs vars) v).kind (cell_ref classes globals vars c).kind)) h) [
        | inl a ↦ inl (not_not _ a)
        | inr b ↦ inr (other_kind _ _ (not_not _ b))
      ],
    )) (λ _ e.
    unless P (not (eqb (ref_at (var_refs vars) v).class (cell_ref classes globals vars c).class)) _ r _ e
    (λ h. classes_differ (v, c, at, is, (let t = not_not _ h in search (rules, tests)))) (λ _ e. accepted _ r e))))))

pub at_places : (front : Front) (var w : List ℕ) (at : AtCell) → at_cell front.head.classes front.head.globals front.body.vars var w ≡ Ok at
    → (var_place front.body.vars var ≡ Some at.var) × (cell_of front.head.classes front.head.globals front.body.vars w ≡ Some at.cell)
at_places front var w at e =
    let vars = front.body.vars in
    let classes = front.head.classes in
    let globals = front.head.globals in
    let a = passed (not (is_cell_word w)) _ _ at e in
    let b = passed (not (is_name var) || not (is_cell_spelled w)) _ _ at a.1 in
    let v = found (var_place vars var) _ _ at b.1 in
    let c = found (cell_of classes globals vars w) _ _ at v.2 in
    let k = passed (not (has_strong_owner vars c.0) || not (same_kind (ref_at (var_refs vars) v.0).kind (cell_ref classes globals vars c.0).kind)) _ _ at c.2 in
    let s = passed (not (eqb (ref_at (var_refs vars) v.0).class (cell_ref classes globals vars c.0).class)) _ _ at k.1 in
    let is = ok_is _ at s.1 in
    (v.1 ∙ ap (λ (x : AtCell). let o : Option ℕ = Some x.var in o) (sym is), c.1 ∙ ap (λ (x : AtCell). let o : Option OpCell = Some x.cell in o) (sym is))
