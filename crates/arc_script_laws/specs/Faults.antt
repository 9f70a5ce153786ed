-- What a line has that is refused: a sentence for each reason.
use Rattle.std.specs.Prelude.{◌≡◌, ◌≢◌, ℕ, ◌+◌, ◌<◌, ◌≤◌, Bool, true, false, ◌⊎◌, codes, slice_index_or, List, [], ◌∷◌, ◌++◌, length, map, drop, Option, Some, None, if◌then◌else◌, count_by}
use Rattle.std.specs.List.{Any, flat_map, before_first, after_first}
use Rattle.std.specs.Fmt.{decimal}
use Rattle.arc_text.specs.Words.{is_name}
use Rattle.arc_model.specs.declared.shape.Kind.{Kind}
use Rattle.arc_model.specs.declared.shape.Kind.TheVariants as kind
use Rattle.arc_script.specs.declared.script.VarDecl.{VarDecl}
use Rattle.arc_script.specs.declared.script.OpCell.{OpCell}
use Rattle.arc_script.specs.declared.reason.Reason.{Reason}
use Rattle.arc_script.specs.declared.reason.Reason.TheVariants as why
use Rattle.arc_script.specs.declared.keyword.Keyword.{Keyword}
use Rattle.arc_script.specs.declared.keyword.Keyword.TheVariants as word
use Rattle.arc_script.specs.Keywords.{keyword_of, stands}
use Rattle.arc_script.specs.Said.{Grouped}
use Rattle.arc_script.specs.Group.{group_names, group_immortals, group_of}
use Rattle.arc_script.specs.Valid.{name_at, place_of, class_names, var_names, field_names, owner_fields, ref_at, var_refs, cell_ref, kind_at}
use Rattle.arc_script.specs.Lookups.{var_place, class_place, cell_of, is_at_sign, is_dot, has_strong_owner, is_owner}
use Rattle.arc_script.specs.HeadLines.{is_colon, spelled_of}
use Rattle.arc_script.specs.OpLines.{pair_kinds, needs_two}
use Rattle.arc_script.specs.Grammar.{Front, settled}
use Rattle.arc_script.specs.Canonical.{kind_word}
use Rattle.arc_script.specs.Accepted.{run_head}

-- ---- words

abbrev pub IsBadByte : ℕ → Type 0
IsBadByte b = (b ≢ 9) × ((b < 32) ⊎ (126 < b))

-- not the decimals of a number in the range
abbrev pub IsNoNumber : ℕ → ℕ → List ℕ → Type 0
IsNoNumber low high w = (n : ℕ) → low ≤ n → n ≤ high → w ≢ decimal n

abbrev pub IsNoKind : List ℕ → Type 0
IsNoKind w = (k : Kind) → w ≢ kind_word k

abbrev pub IsNoName : List ℕ → Type 0
IsNoName w = is_name w ≡ false

abbrev pub IsIn : List (List ℕ) → List ℕ → Type 0
IsIn names n = (i : ℕ) × (i < length names) × (name_at names i ≡ n)

abbrev pub IsNotIn : List (List ℕ) → List ℕ → Type 0
IsNotIn names n = (i : ℕ) → i < length names → name_at names i ≢ n

-- FIELD:KIND:CLASS has two colons
abbrev pub LacksFieldParts : List ℕ → Type 0
LacksFieldParts w = count_by is_colon w ≢ 2

-- @NAME begins with its sign, VARIABLE.FIELD has one dot
abbrev pub LacksCellParts : List ℕ → Type 0
LacksCellParts w = (is_at_sign w ≡ false) × (count_by is_dot w ≢ 1)

-- a word that is to be a number of a range
pub record NumberWord : Type 0 where
  pub low : ℕ
  pub high : ℕ
  pub text : List ℕ

-- a name, and the set that it is to be in, or is to be new in
pub record NameWord : Type 0 where
  pub set : List (List ℕ)
  pub name : List ℕ

-- ---- the parts of a line, by its keyword and the words behind it

abbrev pub CountFits : Keyword → ℕ → Type 0
CountFits word.Arc n = n ≡ 1
CountFits word.Slots n = n ≡ 1
CountFits word.Entries n = n ≡ 1
CountFits word.Caps n = n ≡ 3
CountFits word.Class n = 1 ≤ n
CountFits word.Immortal n = 1 ≤ n
CountFits word.Global n = n ≡ 3
CountFits word.Thread n = n ≡ 1
CountFits word.Var n = n ≡ 3
CountFits word.New n = n ≡ 2
CountFits word.Drop n = n ≡ 1
CountFits (word.Pair w) n = n ≡ 2
CountFits word.Get n = n ≡ 2
CountFits word.Set n = n ≡ 2
CountFits (word.Block w) n = n ≡ 1
CountFits word.End n = n ≡ 0
CountFits word.Phase n = n ≡ 0
CountFits word.Schedule n = 1 ≤ n
CountFits word.Done n = n ≡ 0

abbrev pub field_words : Keyword → List (List ℕ) → List (List ℕ)
field_words word.Class (name ∷ fields) = fields
field_words word.Immortal (name ∷ fields) = fields
field_words k words = []

abbrev pub cell_words : Keyword → List (List ℕ) → List (List ℕ)
cell_words word.Get (to ∷ cell ∷ []) = cell ∷ []
cell_words word.Set (cell ∷ from ∷ []) = cell ∷ []
cell_words k words = []

abbrev pub number_words : Front → Keyword → List (List ℕ) → List NumberWord
number_words front word.Arc (w ∷ []) = record { low = 1; high = 2; text = w } ∷ []
number_words front word.Slots (w ∷ []) = record { low = 1; high = 4096; text = w } ∷ []
number_words front word.Entries (w ∷ []) = record { low = 1; high = 4096; text = w } ∷ []
number_words front word.Caps (s ∷ u ∷ w ∷ []) = record { low = 0; high = 1073741823; text = s } ∷ record { low = 1; high = 2147483647; text = u } ∷ record { low = 1; high = 4294967295; text = w } ∷ []
number_words front word.Thread (w ∷ []) = record { low = length (settled front).threads + 1; high = length (settled front).threads + 1; text = w } ∷ []
number_words front word.Schedule words = map (λ (w : List ℕ). let n : NumberWord = record { low = 1; high = length (settled front).threads; text = w } in n) words
number_words front k words = []

abbrev pub cell_names : List ℕ → List (List ℕ)
cell_names w = if is_at_sign w then drop 1 w ∷ [] else before_first is_dot w ∷ after_first is_dot w ∷ []

abbrev pub field_parts : List ℕ → List (List ℕ)
field_parts w = (spelled_of w).name ∷ (spelled_of w).class ∷ []

-- what is to be spelled as a name
abbrev pub name_words : Keyword → List (List ℕ) → List (List ℕ)
name_words word.Class (name ∷ fields) = name ∷ flat_map field_parts fields
name_words word.Immortal (name ∷ fields) = name ∷ flat_map field_parts fields
name_words word.Global (name ∷ of_kind ∷ class ∷ []) = name ∷ class ∷ []
name_words word.Var (name ∷ of_kind ∷ class ∷ []) = name ∷ class ∷ []
name_words word.New (to ∷ class ∷ []) = to ∷ class ∷ []
name_words word.Drop (var ∷ []) = var ∷ []
name_words (word.Pair w) (to ∷ of ∷ []) = to ∷ of ∷ []
name_words word.Get (to ∷ cell ∷ []) = to ∷ cell_names cell
name_words word.Set (cell ∷ from ∷ []) = from ∷ cell_names cell
name_words (word.Block w) (var ∷ []) = var ∷ []
name_words k words = []

-- each with those that stand before it
abbrev pub after_others : List (List ℕ) → List (List ℕ) → List NameWord
after_others seen [] = []
after_others seen (n ∷ ns) = record { set = seen; name = n } ∷ after_others (seen ++ n ∷ []) ns

abbrev pub class_names_new : Front → List ℕ → List (List ℕ) → List NameWord
class_names_new front name fields = record { set = class_names front.head.classes; name = name } ∷ after_others [] (map (λ (w : List ℕ). (spelled_of w).name) fields)

-- names that a line gives
abbrev pub new_names : Front → Keyword → List (List ℕ) → List NameWord
new_names front word.Class (name ∷ fields) = class_names_new front name fields
new_names front word.Immortal (name ∷ fields) = class_names_new front name fields
new_names front word.Global (name ∷ of_kind ∷ class ∷ []) = record { set = var_names front.head.globals; name = name } ∷ []
new_names front word.Var (name ∷ of_kind ∷ class ∷ []) = record { set = var_names front.body.vars; name = name } ∷ []
new_names front k words = []

abbrev pub field_used : Front → Option ℕ → List ℕ → List NameWord
field_used front None field = []
field_used front (Some owner) field = record { set = field_names (owner_fields front.head.classes front.body.vars owner); name = field } ∷ []

abbrev pub cell_used : Front → List ℕ → List NameWord
cell_used front w =
    if is_at_sign w then record { set = var_names front.head.globals; name = drop 1 w } ∷ []
    else record { set = var_names front.body.vars; name = before_first is_dot w } ∷ field_used front (var_place front.body.vars (before_first is_dot w)) (after_first is_dot w)

abbrev pub group_at : Front → Bool → List ℕ → List (List ℕ) → List Grouped
group_at front immortal name lines = (run_head front immortal name lines).group

abbrev pub class_names_used : List Grouped → List (List ℕ) → List NameWord
class_names_used group fields = map (λ (w : List ℕ). let n : NameWord = record { set = group_names group; name = (spelled_of w).class } in n) fields

-- names that a line needs. A class of a field may be that of any line of the group
abbrev pub used_names : Front → Keyword → List (List ℕ) → List (List ℕ) → List NameWord
used_names front word.Class (name ∷ fields) lines = class_names_used (group_at front false name lines) fields
used_names front word.Immortal (name ∷ fields) lines = class_names_used (group_at front true name lines) fields
used_names front word.Global (name ∷ of_kind ∷ class ∷ []) lines = record { set = class_names front.head.classes; name = class } ∷ []
used_names front word.Var (name ∷ of_kind ∷ class ∷ []) lines = record { set = class_names front.head.classes; name = class } ∷ []
used_names front word.New (to ∷ class ∷ []) lines = record { set = var_names front.body.vars; name = to } ∷ record { set = class_names front.head.classes; name = class } ∷ []
used_names front word.Drop (var ∷ []) lines = record { set = var_names front.body.vars; name = var } ∷ []
used_names front (word.Pair w) (to ∷ of ∷ []) lines = record { set = var_names front.body.vars; name = to } ∷ record { set = var_names front.body.vars; name = of } ∷ []
used_names front word.Get (to ∷ cell ∷ []) lines = record { set = var_names front.body.vars; name = to } ∷ cell_used front cell
used_names front word.Set (cell ∷ from ∷ []) lines = record { set = var_names front.body.vars; name = from } ∷ cell_used front cell
used_names front (word.Block w) (var ∷ []) lines = record { set = var_names front.body.vars; name = var } ∷ []
used_names front k words lines = []

abbrev pub kind_words : Keyword → List (List ℕ) → List (List ℕ)
kind_words word.Class (name ∷ fields) = map (λ (w : List ℕ). (spelled_of w).kind) fields
kind_words word.Immortal (name ∷ fields) = map (λ (w : List ℕ). (spelled_of w).kind) fields
kind_words word.Global (name ∷ of_kind ∷ class ∷ []) = of_kind ∷ []
kind_words word.Var (name ∷ of_kind ∷ class ∷ []) = of_kind ∷ []
kind_words k words = []

-- ---- references of an operation

-- the variable and the cell that these words name are such
abbrev pub CellIs : Front → List ℕ → List ℕ → (ℕ → OpCell → Type 0) → Type 0
CellIs front var cell P = (v : ℕ) × (c : OpCell) × (var_place front.body.vars var ≡ Some v) × (cell_of front.head.classes front.head.globals front.body.vars cell ≡ Some c) × P v c

-- the two variables that these words name are such
abbrev pub PairIs : Front → List ℕ → List ℕ → (ℕ → ℕ → Type 0) → Type 0
PairIs front to of P = (t o : ℕ) × (var_place front.body.vars to ≡ Some t) × (var_place front.body.vars of ≡ Some o) × P t o

abbrev pub class_at : List VarDecl → ℕ → ℕ
class_at vars v = (ref_at (var_refs vars) v).class

abbrev pub WrongCellKind : Front → ℕ → OpCell → Type 0
WrongCellKind front v c = (has_strong_owner front.body.vars c ≡ false) ⊎ (kind_at front.body.vars v ≢ (cell_ref front.head.classes front.head.globals front.body.vars c).kind)

-- a reference of another kind than the operation needs
abbrev pub HasWrongKind : Front → Keyword → List (List ℕ) → Type 0
HasWrongKind front word.New (to ∷ class ∷ []) = (t : ℕ) × (var_place front.body.vars to ≡ Some t) × (kind_at front.body.vars t ≢ kind.Strong)
HasWrongKind front (word.Pair w) (to ∷ of ∷ []) = PairIs front to of (λ t o. pair_kinds w (kind_at front.body.vars t) (kind_at front.body.vars o) ≡ false)
HasWrongKind front word.Get (to ∷ cell ∷ []) = CellIs front to cell (WrongCellKind front)
HasWrongKind front word.Set (cell ∷ from ∷ []) = CellIs front from cell (WrongCellKind front)
HasWrongKind front k words = ⊥

abbrev pub OtherCellClass : Front → ℕ → OpCell → Type 0
OtherCellClass front v c = class_at front.body.vars v ≢ (cell_ref front.head.classes front.head.globals front.body.vars c).class

-- two references of different classes where they must agree
abbrev pub HasTwoClasses : Front → Keyword → List (List ℕ) → Type 0
HasTwoClasses front word.New (to ∷ class ∷ []) = (t c : ℕ) × (var_place front.body.vars to ≡ Some t) × (class_place front.head.classes class ≡ Some c) × (class_at front.body.vars t ≢ c)
HasTwoClasses front (word.Pair w) (to ∷ of ∷ []) = PairIs front to of (λ t o. class_at front.body.vars t ≢ class_at front.body.vars o)
HasTwoClasses front word.Get (to ∷ cell ∷ []) = CellIs front to cell (OtherCellClass front)
HasTwoClasses front word.Set (cell ∷ from ∷ []) = CellIs front from cell (OtherCellClass front)
HasTwoClasses front k words = ⊥

-- one variable where it must name two
abbrev pub NamesOneVariable : Front → Keyword → List (List ℕ) → Type 0
NamesOneVariable front (word.Pair w) (to ∷ of ∷ []) = (needs_two w ≡ true) × PairIs front to of (λ t o. t ≡ o)
NamesOneVariable front word.Set (cell ∷ from ∷ []) = CellIs front from cell (λ v c. is_owner v c ≡ true)
NamesOneVariable front k words = ⊥

-- ---- limits

abbrev pub IsTooMany : Front → Keyword → List (List ℕ) → Type 0
IsTooMany front word.Class words = (64 ≤ length front.head.classes) ⊎ (9 < length words)
IsTooMany front word.Immortal words = (64 ≤ length front.head.classes) ⊎ (9 < length words)
IsTooMany front word.Global words = 64 ≤ length front.head.globals
IsTooMany front word.Thread words = 64 ≤ length (settled front).threads
IsTooMany front word.Var words = 256 ≤ length front.body.vars
IsTooMany front word.New words = 100000 ≤ front.body.count
IsTooMany front word.Drop words = 100000 ≤ front.body.count
IsTooMany front (word.Pair w) words = 100000 ≤ front.body.count
IsTooMany front word.Get words = 100000 ≤ front.body.count
IsTooMany front word.Set words = 100000 ≤ front.body.count
IsTooMany front (word.Block w) words = (100000 ≤ front.body.count) ⊎ (8 ≤ length front.body.opened)
IsTooMany front word.Phase words = 63 ≤ length front.body.phases
IsTooMany front word.Schedule words = 1000000 < length (settled front).schedule + length words
IsTooMany front k words = ⊥

abbrev pub HasLowWideCap : Keyword → List (List ℕ) → Type 0
HasLowWideCap word.Caps (s ∷ u ∷ w ∷ []) = (strong unowned wide : ℕ) × (s ≡ decimal strong) × (u ≡ decimal unowned) × (w ≡ decimal wide) × ((wide < strong + 1) ⊎ (wide < unowned))
HasLowWideCap k words = ⊥

-- ---- what version 2 adds

-- the first line of the group with this name is that of an immortal class
abbrev pub IsImmortalIn : List Grouped → List ℕ → Type 0
IsImmortalIn group name = (i : ℕ) × (place_of (group_names group) name ≡ Some i) × (slice_index_or (group_immortals group) i false ≡ true)

abbrev pub IsWeakField : List Grouped → List ℕ → Type 0
IsWeakField group w = ((spelled_of w).kind ≡ codes "weak") × IsImmortalIn group (spelled_of w).class

abbrev pub IsWeakDecl : Front → List ℕ → List ℕ → Type 0
IsWeakDecl front of_kind class = (of_kind ≡ codes "weak") × IsImmortalIn (group_of front.head.classes) class

-- a weak field, global or variable of an immortal class
abbrev pub HasWeakImmortal : Front → Keyword → List (List ℕ) → List (List ℕ) → Type 0
HasWeakImmortal front word.Class (name ∷ fields) lines = Any (IsWeakField (group_at front false name lines)) fields
HasWeakImmortal front word.Immortal (name ∷ fields) lines = Any (IsWeakField (group_at front true name lines)) fields
HasWeakImmortal front word.Global (name ∷ of_kind ∷ class ∷ []) lines = IsWeakDecl front of_kind class
HasWeakImmortal front word.Var (name ∷ of_kind ∷ class ∷ []) lines = IsWeakDecl front of_kind class
HasWeakImmortal front k words lines = ⊥

-- an end where no block is open, or a line that may not stand where one is
abbrev pub HasOpenBlock : Front → Keyword → Type 0
HasOpenBlock front word.End = front.body.opened ≡ []
HasOpenBlock front word.Phase = front.body.opened ≢ []
HasOpenBlock front word.Thread = (settled front).opened ≢ []
HasOpenBlock front word.Schedule = (settled front).opened ≢ []
HasOpenBlock front word.Done = (settled front).opened ≢ []
HasOpenBlock front k = ⊥

-- ---- the sentences

-- of a line that begins with a keyword which may stand there
abbrev pub HasFault : Reason → Front → Keyword → List (List ℕ) → List (List ℕ) → Type 0
HasFault why.Byte front k words lines = ⊥
HasFault why.FirstWord front k words lines = ⊥
HasFault why.WordCount front k words lines = ¬ (CountFits k (length words)) ⊎ Any LacksFieldParts (field_words k words) ⊎ Any LacksCellParts (cell_words k words)
HasFault why.Number front k words lines = Any (λ (n : NumberWord). IsNoNumber n.low n.high n.text) (number_words front k words)
HasFault why.Spelling front k words lines = Any IsNoName (name_words k words)
HasFault why.Again front k words lines = Any (λ (n : NameWord). IsIn n.set n.name) (new_names front k words)
HasFault why.Unknown front k words lines = Any (λ (n : NameWord). IsNotIn n.set n.name) (used_names front k words lines)
HasFault why.Kind front k words lines = Any IsNoKind (kind_words k words) ⊎ HasWrongKind front k words
HasFault why.Classes front k words lines = HasTwoClasses front k words
HasFault why.SameVariable front k words lines = NamesOneVariable front k words
HasFault why.TooMany front k words lines = IsTooMany front k words
HasFault why.WideCap front k words lines = HasLowWideCap k words
HasFault why.WeakImmortal front k words lines = HasWeakImmortal front k words lines
HasFault why.OpenBlock front k words lines = HasOpenBlock front k

-- of any line: first is its first word, words are those behind it, and lines stand behind it
abbrev pub LineHas : Reason → Front → List ℕ → List ℕ → List (List ℕ) → List (List ℕ) → Type 0
LineHas why.Byte front line first words lines = Any IsBadByte line
LineHas why.FirstWord front line first words lines = (keyword_of first ≡ None) ⊎ ((k : Keyword) × (keyword_of first ≡ Some k) × (stands front.head.version front.place k ≡ false))
LineHas reason front line first words lines = (k : Keyword) × (keyword_of first ≡ Some k) × HasFault reason front k words lines
