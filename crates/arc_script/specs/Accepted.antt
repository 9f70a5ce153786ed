-- What an accepted text says, line by line: the words of each line are those of what it stands for.
use Rattle.std.specs.Prelude.{◌≡◌, ℕ, ◌+◌, ◌^◌, ◌<◌, ◌≤◌, Bool, true, false, List, [], ◌∷◌, ◌++◌, length, map, None, codes, slice_index, slice_get}
use Rattle.std.specs.List.{AllByRecursion, list_all}
use Rattle.arc_text.specs.Words.{is_name, is_plain, words_of}
use Rattle.arc_text.specs.Lines.{lines_of}
use Rattle.arc_model.specs.Shapes.{CapNumbers}
use Rattle.arc_model.specs.Ranges.{SlotsFit, EntriesFit, CapsFit}
use Rattle.arc_script.specs.declared.script.FieldDecl.{FieldDecl}
use Rattle.arc_script.specs.declared.script.ClassDecl.{ClassDecl}
use Rattle.arc_script.specs.declared.script.VarDecl.{VarDecl}
use Rattle.arc_script.specs.declared.script.Op.{Op}
use Rattle.arc_script.specs.declared.script.Script.{Script}
use Rattle.arc_script.specs.declared.keyword.Keyword.TheVariants as word
use Rattle.arc_script.specs.declared.keyword.Place.{Place}
use Rattle.arc_script.specs.declared.keyword.Place.TheVariants as behind
use Rattle.arc_script.specs.Keywords.{stands, is_open}
use Rattle.arc_script.specs.Valid.{name_at, place_of, class_names, var_names, immortals_of, is_weak_immortal, AreFields, IsOp, begins_block, OfSecond, OpOfVersion}
use Rattle.arc_script.specs.Said.{HeadSaid, BodySaid}
use Rattle.arc_script.specs.Group.{group_names}
use Rattle.arc_script.specs.HeadLines.{is_weak_field}
use Rattle.arc_script.specs.BodyLines.{opened_by, ended_by}
use Rattle.arc_script.specs.Grammar.{Front, nothing, grouped, settled, script_said}
use Rattle.arc_script.specs.Canonical.{kind_word, class_word, numbers_line, decl_line, op_line}

-- the head with the group of this class line: what the whole unbroken run of class lines names
abbrev pub run_head : Front → Bool → List ℕ → List (List ℕ) → HeadSaid
run_head front immortal name lines = grouped front immortal (name ∷ []) lines

-- FIELD:KIND:CLASS, the class by its place among these names
abbrev pub field_word : List (List ℕ) → FieldDecl → List ℕ
field_word classes f = f.name ++ (58 ∷ (kind_word f.kind ++ (58 ∷ name_at classes f.class)))

abbrev pub class_words : List (List ℕ) → ClassDecl → List (List ℕ)
class_words classes c = class_word c.immortal ∷ c.name ∷ map (field_word classes) c.fields

-- a declaration that may stand behind these, of which there are at most so many
pub record IsDecl (limit : ℕ) (vars : List VarDecl) (classes : List ClassDecl) (v : VarDecl) : Type 0 where
  pub spelled : is_name v.name ≡ true
  pub fresh : place_of (var_names vars) v.name ≡ None
  pub of_class : v.class < length classes
  pub room : length vars < limit
  pub allowed : is_weak_immortal (immortals_of classes) v.kind v.class ≡ false

-- a class line: lines are those behind it
pub record IsClass (front : Front) (lines : List (List ℕ)) (c : ClassDecl) : Type 0 where
  pub spelled : is_name c.name ≡ true
  pub fresh : place_of (class_names front.head.classes) c.name ≡ None
  pub fields : AreFields (length (run_head front c.immortal c.name lines).group) c.fields
  pub allowed : AllByRecursion (λ (f : FieldDecl). is_weak_field (run_head front c.immortal c.name lines).group f ≡ false) c.fields
  pub room : length front.head.classes < 64
  pub of_version : OfSecond front.head.version c.immortal

abbrev pub head_after : Front → Place → HeadSaid → Front
head_after front place head = record { place = place; head = head; body = front.body }

abbrev pub body_after : Front → Place → BodySaid → Front
body_after front place body = record { place = place; head = front.head; body = body }

-- what these words say where they come behind what was said so far, and before these lines
pub data Says (front : Front) (words lines : List (List ℕ)) (next : Front) : Type 0 where
  version : (n : ℕ) → words ≡ numbers_line (codes "arc") (n ∷ []) → stands front.head.version front.place word.Arc ≡ true → (1 ≤ n) × (n ≤ 2)
      → next ≡ head_after front behind.Version (record front.head { version = n }) → Says front words lines next
  slots : (n : ℕ) → words ≡ numbers_line (codes "slots") (n ∷ []) → stands front.head.version front.place word.Slots ≡ true → SlotsFit n
      → next ≡ head_after front behind.Slots (record front.head { slots = n }) → Says front words lines next
  entries : (n : ℕ) → words ≡ numbers_line (codes "entries") (n ∷ []) → stands front.head.version front.place word.Entries ≡ true → EntriesFit n
      → next ≡ head_after front behind.Entries (record front.head { entries = n }) → Says front words lines next
  caps : (c : CapNumbers) → words ≡ numbers_line (codes "caps") (c.strong ∷ c.unowned ∷ c.wide ∷ []) → stands front.head.version front.place word.Caps ≡ true → CapsFit c.strong c.unowned c.wide → c.wide < 2 ^ 32
      → next ≡ head_after front behind.Caps (record front.head { caps = c }) → Says front words lines next
  class : (c : ClassDecl) → words ≡ class_words (group_names (run_head front c.immortal c.name lines).group) c → stands front.head.version front.place word.Class ≡ true → IsClass front lines c
      → next ≡ head_after front behind.Class (record (run_head front c.immortal c.name lines) { classes = front.head.classes ++ c ∷ [] }) → Says front words lines next
  global : (v : VarDecl) → words ≡ decl_line (codes "global") front.head.classes v → stands front.head.version front.place word.Global ≡ true → IsDecl 64 front.head.globals front.head.classes v
      → next ≡ head_after front behind.Global (record front.head { globals = front.head.globals ++ v ∷ [] }) → Says front words lines next
  thread : words ≡ numbers_line (codes "thread") ((length (settled front).threads + 1) ∷ []) → stands front.head.version front.place word.Thread ≡ true → length (settled front).threads < 64 → (settled front).opened ≡ []
      → next ≡ body_after front behind.Thread (settled front) → Says front words lines next
  var : (v : VarDecl) → words ≡ decl_line (codes "var") front.head.classes v → stands front.head.version front.place word.Var ≡ true → IsDecl 256 front.body.vars front.head.classes v
      → next ≡ body_after front behind.Thread (record front.body { vars = front.body.vars ++ v ∷ [] }) → Says front words lines next
  operation : (o : Op) → words ≡ op_line front.head.classes front.head.globals front.body.vars o → is_open front.place ≡ true
      → IsOp front.head.classes front.head.globals front.body.vars o → OpOfVersion front.head.version o → front.body.count < 100000 → (begins_block o ≡ true → length front.body.opened < 8)
      → next ≡ body_after front behind.Operation (record front.body { ops = front.body.ops ++ o ∷ []; opened = opened_by front.body o; count = front.body.count + 1 }) → Says front words lines next
  end : (at : ℕ) (opened : List ℕ) → words ≡ codes "end" ∷ [] → front.body.opened ≡ at ∷ opened
      → next ≡ body_after front behind.Operation (record front.body { ops = ended_by front.body.ops at (slice_get front.body.ops at); opened = opened }) → Says front words lines next
  phase : words ≡ codes "phase" ∷ [] → is_open front.place ≡ true → length front.body.phases < 63 → front.body.opened ≡ []
      → next ≡ body_after front behind.Operation (record front.body { phases = front.body.phases ++ front.body.ops ∷ []; ops = [] }) → Says front words lines next
  schedule : (places : List ℕ) → words ≡ numbers_line (codes "schedule") places → stands front.head.version front.place word.Schedule ≡ true → 0 < length places
      → AllByRecursion (λ p. (1 ≤ p) × (p ≤ length (settled front).threads)) places → length (settled front).schedule + length places ≤ 1000000 → (settled front).opened ≡ []
      → next ≡ body_after front behind.Schedule (record (settled front) { schedule = (settled front).schedule ++ places }) → Says front words lines next
  done : words ≡ codes "done" ∷ [] → stands front.head.version front.place word.Done ≡ true → (settled front).opened ≡ [] → next ≡ body_after front behind.Ended (settled front) → Says front words lines next

-- a line without a word, or whose first word begins with #
pub data IsPassedOver (line : List ℕ) : Type 0 where
  blank : words_of line ≡ [] → IsPassedOver line
  comment : (first : List ℕ) (words : List (List ℕ)) → words_of line ≡ first ∷ words → slice_index first 0 ≡ 35 → IsPassedOver line

-- these lines lead from what was said so far to the end of the text
pub data Tells (last : Front) : Front → List (List ℕ) → Type 0 where
  nothing_left : Tells last last []
  passed : {front : Front} (line : List ℕ) (rest : List (List ℕ)) → IsPassedOver line → Tells last front rest → Tells last front (line ∷ rest)
  said : {front : Front} (line : List ℕ) (rest : List (List ℕ)) (next : Front) → list_all is_plain line ≡ true → Says front (words_of line) rest next
      → Tells last next rest → Tells last front (line ∷ rest)

-- the text is that of this script
pub record StandsFor (text : List ℕ) (s : Script) : Type 0 where
  pub last : Front
  pub told : Tells last (nothing 1 behind.Start) (lines_of text)
  pub finished : last.place ≡ behind.Ended
  pub said_it : s ≡ script_said last
