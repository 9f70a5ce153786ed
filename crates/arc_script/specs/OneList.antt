-- The operations of a thread in one list, phase by phase.
use Rattle.std.specs.Prelude.{ℕ, ◌+◌, ◌≡◌, not, Bool, false, List, [], ◌∷◌, ◌++◌, length, map, count_by, slice_get, Some}
use Rattle.arc_script.specs.declared.script.Op.{Op}
use Rattle.arc_script.specs.declared.script.Op.TheVariants as op
use Rattle.arc_script.specs.Valid.{begins_block}

-- so many operations stand before: the place behind a block is counted with them
abbrev pub moved_behind : ℕ → Op → Op
moved_behind n (op.IfNil var to) = op.IfNil var (n + to)
moved_behind n (op.IfSome var to) = op.IfSome var (n + to)
moved_behind n o = o

-- the operations of phases, one phase behind the other, where so many operations stand before
abbrev pub in_one_list : ℕ → List (List Op) → List Op
in_one_list n [] = []
in_one_list n (ops ∷ phases) = map (moved_behind n) ops ++ in_one_list (n + length ops) phases

-- how many of the operations have a number: the beginnings of blocks have none
abbrev pub numbered : List Op → ℕ
numbered ops = count_by (λ o. not (begins_block o)) ops

-- no operation begins a block
abbrev pub HasNoBlock : List Op → Type 0
HasNoBlock ops = (i : ℕ) (o : Op) → slice_get ops i ≡ Some o → begins_block o ≡ false
