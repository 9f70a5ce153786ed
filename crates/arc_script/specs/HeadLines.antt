-- The lines of a heading and the declarations of variables, by what stands behind the first word: each form is a chain of tests in
-- ascending order of reasons.
use Rattle.std.specs.Prelude.{ℕ, Bool, not, ◌||◌, List, [], ◌∷◌, ◌++◌, length, map, nat_le, nat_lt, ◌==◌, is_some, unwrap_or, Result, Ok, Err, count_by}
use Rattle.std.specs.List.{list_any, list_all, before_first, after_first}
use Rattle.arc_text.specs.Words.{is_name, number_in}
use Rattle.arc_text.specs.Chain.{refuse, need}
use Rattle.arc_model.specs.declared.shape.Kind.TheVariants as kind
use Rattle.arc_script.specs.declared.script.FieldDecl.{FieldDecl}
use Rattle.arc_script.specs.declared.script.ClassDecl.{ClassDecl}
use Rattle.arc_script.specs.declared.script.VarDecl.{VarDecl}
use Rattle.arc_script.specs.declared.reason.Reason.{Reason}
use Rattle.arc_script.specs.declared.reason.Reason.TheVariants as why
use Rattle.arc_script.specs.Valid.{place_of, immortals_of, is_weak_immortal}
use Rattle.arc_script.specs.Lookups.{kind_of, has_repeat, class_place, var_place}
use Rattle.arc_script.specs.Said.{Grouped, HeadSaid}
use Rattle.arc_script.specs.Group.{group_names, group_immortals}

-- slots N
abbrev pub slots_line : HeadSaid → List ℕ → Result HeadSaid Reason
slots_line head number =
    need (number_in 1 4096 number) why.Number (λ slots.
    Ok (record head { slots = slots }))

-- entries N
abbrev pub entries_line : HeadSaid → List ℕ → Result HeadSaid Reason
entries_line head number =
    need (number_in 1 4096 number) why.Number (λ entries.
    Ok (record head { entries = entries }))

-- caps S U W
abbrev pub caps_line : HeadSaid → List ℕ → List ℕ → List ℕ → Result HeadSaid Reason
caps_line head strong unowned wide =
    need (number_in 0 1073741823 strong) why.Number (λ s.
    need (number_in 1 2147483647 unowned) why.Number (λ u.
    need (number_in 1 4294967295 wide) why.Number (λ w.
    refuse (nat_le w s || nat_lt w u) why.WideCap (
    Ok (record head { caps = record { strong = s; unowned = u; wide = w } })))))

-- ---- class NAME FIELD:KIND:CLASS .. or immortal NAME FIELD:KIND:CLASS ..

-- a field as it is spelled
pub record Spelled : Type 0 where
  pub name : List ℕ
  pub kind : List ℕ
  pub class : List ℕ

abbrev pub is_colon : ℕ → Bool
is_colon b = b == 58

-- the word has a field's three parts
abbrev pub is_field_word : List ℕ → Bool
is_field_word word = count_by is_colon word == 2

abbrev pub spelled_of : List ℕ → Spelled
spelled_of word = record {
  name = before_first is_colon word;
  kind = before_first is_colon (after_first is_colon word);
  class = after_first is_colon (after_first is_colon word);
}

abbrev pub is_misspelled : Spelled → Bool
is_misspelled f = not (is_name f.name) || not (is_name f.class)

abbrev pub lacks_class : List (List ℕ) → Spelled → Bool
lacks_class group f = not (is_some (place_of group f.class))

abbrev pub lacks_kind : Spelled → Bool
lacks_kind f = not (is_some (kind_of f.kind))

-- a field of a class and a kind that there are
abbrev pub declared_of : List (List ℕ) → Spelled → FieldDecl
declared_of group f = record { name = f.name; kind = unwrap_or (kind_of f.kind) kind.Strong; class = unwrap_or (place_of group f.class) 0 }

-- a weak field of an immortal class
abbrev pub is_weak_field : List Grouped → FieldDecl → Bool
is_weak_field group f = is_weak_immortal (group_immortals group) f.kind f.class

abbrev pub class_with : HeadSaid → Bool → List ℕ → List Spelled → Result HeadSaid Reason
class_with head immortal name fields =
    refuse (not (is_name name) || list_any is_misspelled fields) why.Spelling (
    refuse (is_some (class_place head.classes name) || has_repeat (map (λ (f : Spelled). f.name) fields)) why.Again (
    refuse (list_any (lacks_class (group_names head.group)) fields) why.Unknown (
    refuse (list_any lacks_kind fields) why.Kind (
    refuse (nat_le 64 (length head.classes) || nat_lt 8 (length fields)) why.TooMany (
    refuse (list_any (is_weak_field head.group) (map (declared_of (group_names head.group)) fields)) why.WeakImmortal (
    Ok (record head { classes = head.classes ++ record { name = name; immortal = immortal; fields = map (declared_of (group_names head.group)) fields } ∷ [] })))))))

abbrev pub class_line : HeadSaid → Bool → List (List ℕ) → Result HeadSaid Reason
class_line head immortal [] = Err why.WordCount
class_line head immortal (name ∷ words) =
    refuse (not (list_all is_field_word words)) why.WordCount (
    class_with head immortal name (map spelled_of words))

-- ---- NAME KIND CLASS, of at most so many

abbrev pub decl_of : ℕ → List VarDecl → List ClassDecl → List ℕ → List ℕ → List ℕ → Result VarDecl Reason
decl_of limit vars classes name kind class =
    refuse (not (is_name name) || not (is_name class)) why.Spelling (
    refuse (is_some (var_place vars name)) why.Again (
    need (class_place classes class) why.Unknown (λ c.
    need (kind_of kind) why.Kind (λ k.
    refuse (nat_le limit (length vars)) why.TooMany (
    refuse (is_weak_immortal (immortals_of classes) k c) why.WeakImmortal (
    Ok (record { name = name; kind = k; class = c })))))))

-- global NAME KIND CLASS
abbrev pub with_global : HeadSaid → Result VarDecl Reason → Result HeadSaid Reason
with_global head (Ok decl) = Ok (record head { globals = head.globals ++ decl ∷ [] })
with_global head (Err reason) = Err reason

abbrev pub global_line : HeadSaid → List ℕ → List ℕ → List ℕ → Result HeadSaid Reason
global_line head name kind class = with_global head (decl_of 64 head.globals head.classes name kind class)
