-- Lines with a wrong number of words.
use Rattle.std.proofs.Common.{◌≡◌, ◌≢◌, ℕ, List, [], ◌∷◌, length, map, Bor, Err, refl}
use Rattle.arc_script.specs.declared.script.ClassDecl.{ClassDecl}
use Rattle.arc_script.specs.declared.script.VarDecl.{VarDecl}
use Rattle.arc_script.specs.declared.reason.Reason.TheVariants as why
use Rattle.arc_script.specs.declared.keyword.Keyword.TheVariants as word
use Rattle.arc_script.specs.OpLines.{op_of}
use Rattle.arc_script.specs.Grammar.{Front, heading_form}

pub get_count : (classes : List ClassDecl) (globals vars : List VarDecl) (words : List (Bor (List ℕ))) → length words ≢ 2 → op_of classes globals vars word.Get (map (λ w. w.now) words) ≡ Err why.WordCount
get_count classes globals vars [] h = refl
get_count classes globals vars (a ∷ []) h = refl
get_count classes globals vars (a ∷ b ∷ []) h = absurd (h refl)
get_count classes globals vars (a ∷ b ∷ c ∷ words) h = refl

pub set_count : (classes : List ClassDecl) (globals vars : List VarDecl) (words : List (Bor (List ℕ))) → length words ≢ 2 → op_of classes globals vars word.Set (map (λ w. w.now) words) ≡ Err why.WordCount
set_count classes globals vars [] h = refl
set_count classes globals vars (a ∷ []) h = refl
set_count classes globals vars (a ∷ b ∷ []) h = absurd (h refl)
set_count classes globals vars (a ∷ b ∷ c ∷ words) h = refl

pub caps_count : (front : Front) (words : List (Bor (List ℕ))) (lines : List (List ℕ)) → length words ≢ 3 → heading_form front word.Caps (map (λ w. w.now) words) lines ≡ Err why.WordCount
caps_count front [] lines h = refl
caps_count front (a ∷ []) lines h = refl
caps_count front (a ∷ b ∷ []) lines h = refl
caps_count front (a ∷ b ∷ c ∷ []) lines h = absurd (h refl)
caps_count front (a ∷ b ∷ c ∷ d ∷ words) lines h = refl
