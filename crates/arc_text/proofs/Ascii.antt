-- A name is ASCII text.
use Rattle.std.proofs.Common.{◌≡◌, ℕ, zero, suc, ◌<◌, Bool, true, false, ltb, ◌&&◌, List, [], ◌∷◌, length, refl, lit<, rules, tests}
use Rattle.std.specs.List.{list_all}
use Rattle.std.specs.Char.{is_ascii_alphabetic}
use Rattle.std.specs.Str.{IsAscii, IsUtf8}
use Rattle.std.proofs.lemmas.Str.{IsUtf8-from_ascii}
use Rattle.arc_text.specs.Words.{is_name_byte, is_name}

more : (b : ℕ) (bs : List ℕ) → b < 128 → IsAscii bs → IsAscii (b ∷ bs)
more b bs h k zero = h
more b bs h k (suc i) = k i

none : IsAscii []
none i = lit< tt

both : (a b : Bool) → (a && b) ≡ true → (a ≡ true) × (b ≡ true)
both true b h = (refl, h)
both false b h = absurd cc

letter : (b : ℕ) → is_ascii_alphabetic b ≡ true → b < 128
letter b h = search (rules, tests)

name_byte : (b : ℕ) → is_name_byte b ≡ true → b < 128
name_byte b h = search (rules, tests)

name_bytes : (bs : List ℕ) → list_all is_name_byte bs ≡ true → IsAscii bs
name_bytes [] h = none
name_bytes (b ∷ bs) h = let p = both (is_name_byte b) (list_all is_name_byte bs) h in more b bs (name_byte b p.0) (name_bytes bs p.1)

pub name_text : (name : List ℕ) → is_name name ≡ true → IsUtf8 name
name_text [] h = absurd cc
name_text (b ∷ bs) h =
    let p = both (is_ascii_alphabetic b) (ltb (length bs) 32 && list_all is_name_byte bs) h in
    let q = both (ltb (length bs) 32) (list_all is_name_byte bs) p.1 in
    IsUtf8-from_ascii (b ∷ bs) (more b bs (letter b p.0) (name_bytes bs q.1))
