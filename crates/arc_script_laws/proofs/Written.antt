-- The canonical text of a script is read as that script.
use Rattle.std.proofs.Common.{◌≡◌, ℕ, suc, ◌+◌, ◌<◌, ◌≤◌, Bool, true, false, eqb, leb, ltb, ◌&&◌, List, [], ◌∷◌, ◌++◌, length, map, Some, Ok, refl, ap, ◌∙◌, arith, rules, tests}
use Rattle.std.specs.Prelude.{codes, slice_index}
use Rattle.std.specs.List.{AllByRecursion, list_all}
use Rattle.std.specs.Fmt.{decimal}
use Rattle.std.proofs.lemmas.Bool.{le-ltb}
use Rattle.std.proofs.lemmas.List.{length-map}
use Rattle.arc_text.specs.Words.{is_name}
use Rattle.arc_script.specs.declared.script.ClassDecl.{ClassDecl}
use Rattle.arc_script.specs.declared.script.Op.{Op}
use Rattle.arc_script.specs.declared.keyword.Keyword.{Keyword}
use Rattle.arc_script.specs.declared.keyword.Keyword.TheVariants as word
use Rattle.arc_script.specs.declared.keyword.Place.{Place}
use Rattle.arc_script.specs.declared.keyword.Place.TheVariants as behind
use Rattle.arc_script.specs.Keywords.{keyword_of, stands, is_open}
use Rattle.arc_script.specs.Valid.{name_at, class_names, OfSecond, begins_block, AreFields, AreClasses}
use Rattle.arc_script.specs.Said.{BodySaid}
use Rattle.arc_script.specs.Said.{Grouped}
use Rattle.arc_script.specs.Group.{run_group, line_group, group_of}
use Rattle.arc_script.specs.BodyLines.{thread_line, has_block, opened_by, with_op, phase_line, is_place, place_in, schedule_line}
use Rattle.arc_script.specs.Grammar.{Front, form_line, any_line, lines_from}
use Rattle.arc_script.specs.Canonical.{field_word, class_word, class_line}
use Rattle.arc_script_laws.proofs.Spelled.{body, words_of_body, plain_body, number_back}
use Rattle.arc_script.proofs.ReadValid.{class_named}
use Rattle.arc_script_laws.proofs.LinesSpelled.{IsLine, class_spelled}

-- ---- one line

-- a line whose first word is a keyword that may stand there
pub enters : (front : Front) (w : List ℕ) (ws : List (List ℕ)) (k : Keyword) (lines : List (List ℕ)) → IsLine (w ∷ ws) → eqb (slice_index w 0) 35 ≡ false → keyword_of w ≡ Some k → stands front.head.version front.place k ≡ true
    → any_line front (body (w ∷ ws)) lines ≡ form_line front k ws lines
unfolding any_line
enters front w ws k lines words not_comment keyword place = rw (words_of_body w ws words.0 words.1, not_comment, plain_body w ws words.0 words.1, keyword, place) refl

-- where a line is entered, the rest is read from there
pub goes_on : (n : ℕ) (front next : Front) (line : List ℕ) (lines : List (List ℕ)) → any_line front line lines ≡ Ok next → lines_from n front (line ∷ lines) ≡ lines_from (n + 1) next lines
goes_on n front next line lines e = rw e refl

abbrev pub texts : List (List (List ℕ)) → List (List ℕ)
texts lines = map body lines

-- ---- runs of class lines

pub run_step : (version : ℕ) (w : List ℕ) (ws rest : List (List ℕ)) → IsLine (w ∷ ws) → run_group version (body (w ∷ ws) ∷ rest) ≡ line_group version (w ∷ ws) (run_group version rest)
run_step version w ws rest words = ap (λ (l : List (List ℕ)). line_group version l (run_group version rest)) (words_of_body w ws words.0 words.1)

pub run_of : (version : ℕ) (classes : List ClassDecl) (are : AreClasses classes) (cs : List ClassDecl) (more : List (List ℕ)) → ((i : ℕ) → i < length (class_names cs) → is_name (name_at (class_names cs) i) ≡ true)
    → AllByRecursion (λ (c : ClassDecl). AreFields (length classes) c.fields) cs → AllByRecursion (λ (c : ClassDecl). OfSecond version c.immortal) cs → run_group version (texts (map (class_line classes) cs) ++ more) ≡ group_of cs ++ run_group version more
run_of version classes are [] more spelled fields of = refl
run_of version classes are (c ∷ cs) more spelled fields of =
    run_step version (class_word c.immortal) (c.name ∷ map (field_word classes) c.fields) (texts (map (class_line classes) cs) ++ more) (class_spelled classes are c (spelled 0 (omega arith)) fields.0)
    ∙ (class_named version c.immortal c.name (map (field_word classes) c.fields) (run_group version (texts (map (class_line classes) cs) ++ more)) of.0
    ∙ ap (λ (ns : List Grouped). record { name = c.name; immortal = c.immortal } ∷ ns) (run_of version classes are cs more (λ i h. spelled (suc i) (omega arith)) fields.1 of.1))

-- ---- places

pub heading_open : (v : ℕ) (p : Place) → stands v p word.Global ≡ true → is_open p ≡ false
heading_open v behind.Entries h = refl
heading_open v behind.Caps h = refl
heading_open v behind.Class h = refl
heading_open v behind.Global h = refl
heading_open v p h = absurd cc

pub class_global : (v : ℕ) (p : Place) → stands v p word.Class ≡ true → stands v p word.Global ≡ true
class_global v behind.Entries h = refl
class_global v behind.Caps h = refl
class_global v behind.Class h = refl
class_global v p h = absurd cc

pub global_thread : (v : ℕ) (p : Place) → stands v p word.Global ≡ true → stands v p word.Thread ≡ true
global_thread v behind.Entries h = refl
global_thread v behind.Caps h = refl
global_thread v behind.Class h = refl
global_thread v behind.Global h = refl
global_thread v p h = absurd cc

pub open_thread : (v : ℕ) (p : Place) → is_open p ≡ true → stands v p word.Thread ≡ true
open_thread v behind.Thread h = refl
open_thread v behind.Operation h = refl
open_thread v p h = absurd cc

pub thread_end : (v : ℕ) (p : Place) → stands v p word.Thread ≡ true → stands v p word.Done ≡ true
thread_end v behind.Entries h = refl
thread_end v behind.Caps h = refl
thread_end v behind.Class h = refl
thread_end v behind.Global h = refl
thread_end v behind.Thread h = refl
thread_end v behind.Operation h = refl
thread_end v p h = absurd cc

-- ---- chains on numbers

pub thread_back : (b : BodySaid) (n : ℕ) → n ≡ length b.threads + 1 → length b.threads < 64 → has_block b.opened ≡ false → thread_line b (decimal n) ≡ Ok b
thread_back b n e room out =
    let back = number_back 1 4294967295 n (omega arith) (omega arith) (omega arith) in
    let next : eqb n (length b.threads + 1) ≡ true = search (rules, tests) in
    let few : leb 64 (length b.threads) ≡ false = search (rules, tests) in
    rw (back, next, few, out) refl

places_pass : (threads : ℕ) (ps : List ℕ) → threads ≤ 64 → AllByRecursion (λ p. (1 ≤ p) × (p ≤ threads)) ps → list_all (is_place threads) (map decimal ps) ≡ true
places_pass threads [] few h = refl
places_pass threads (p ∷ ps) few h =
    let q = h.0 in
    let least = q.0 in
    let most = q.1 in
    let back = number_back 1 4294967295 p least (omega arith) (omega arith) in
    let within : leb p threads ≡ true = search (rules, tests) in
    rw (back, within) (places_pass threads ps few h.1)

places_back : (threads : ℕ) (ps : List ℕ) → threads ≤ 64 → AllByRecursion (λ p. (1 ≤ p) × (p ≤ threads)) ps → map place_in (map decimal ps) ≡ ps
places_back threads [] few h = refl
places_back threads (p ∷ ps) few h =
    let q = h.0 in
    let least = q.0 in
    let most = q.1 in
    let back = number_back 1 4294967295 p least (omega arith) (omega arith) in
    rw (back, places_back threads ps few h.1) refl

pub schedule_back : (b : BodySaid) (ps : List ℕ) → length b.threads ≤ 64 → AllByRecursion (λ p. (1 ≤ p) × (p ≤ length b.threads)) ps → length b.schedule + length ps ≤ 1000000 → has_block b.opened ≡ false
    → schedule_line b (map decimal ps) ≡ Ok (record b { schedule = b.schedule ++ ps })
schedule_back b ps few are room out =
    let pass = places_pass (length b.threads) ps few are in
    let back = places_back (length b.threads) ps few are in
    let long : length (map decimal ps) ≡ length ps = length-map ps decimal in
    let fits : ltb 1000000 (length b.schedule + length (map decimal ps)) ≡ false = le-ltb _ _ (omega arith) in
    rw (pass, fits, out, back) refl

not_deep : (b : Bool) (n : ℕ) → (b ≡ true → n < 8) → (b && leb 8 n) ≡ false
not_deep true n h = let lt = h refl in search (rules, tests)
not_deep false n h = refl

pub op_room : (b : BodySaid) (o : Op) → b.count < 100000 → (begins_block o ≡ true → length b.opened < 8) → with_op b (Ok o) ≡ Ok (record b { ops = b.ops ++ o ∷ []; opened = opened_by b o; count = b.count + 1 })
op_room b o room depth =
    let few : leb 100000 b.count ≡ false = search (rules, tests) in
    let deep = not_deep (begins_block o) (length b.opened) depth in
    rw (few, deep) refl

pub phase_room : (b : BodySaid) → length b.phases < 63 → has_block b.opened ≡ false → phase_line b ≡ Ok (record b { phases = b.phases ++ b.ops ∷ []; ops = [] })
phase_room b room out = let few : leb 63 (length b.phases) ≡ false = search (rules, tests) in rw (few, out) refl
