use Rattle.std.proofs.Common.{◌≡◌, ap, arith}
use Rattle.arc_check.proofs.FewWords.{count, wrong_count}
use Rattle.arc_check.proofs.act.act_of.Goals as goal

pub returns-in_default : goal.returns-in_default
returns-in_default c = wrong_count c.args.scope.now _ c.args.word c.args.words.now (λ e. let n : count c.args.word ≡ 3 = ap count c.in-New.is in let b = c.in_default.len_below in absurd (omega arith))

pub returns-in_default-words-2 : goal.returns-in_default-words-2
returns-in_default-words-2 c = wrong_count c.args.scope.now _ c.args.word c.args.words.now (λ e. let n : count c.args.word ≡ 2 = ap count c.in-Copy.is in let b = c.in_default-words-2.len_below in absurd (omega arith))

pub returns-in_default-words-3 : goal.returns-in_default-words-3
returns-in_default-words-3 c = wrong_count c.args.scope.now _ c.args.word c.args.words.now (λ e. let n : count c.args.word ≡ 2 = ap count c.in-Unown.is in let b = c.in_default-words-3.len_below in absurd (omega arith))

pub returns-in_default-words-4 : goal.returns-in_default-words-4
returns-in_default-words-4 c = wrong_count c.args.scope.now _ c.args.word c.args.words.now (λ e. let n : count c.args.word ≡ 2 = ap count c.in-Weak.is in let b = c.in_default-words-4.len_below in absurd (omega arith))

pub returns-in_default-words-5 : goal.returns-in_default-words-5
returns-in_default-words-5 c = wrong_count c.args.scope.now _ c.args.word c.args.words.now (λ e. let n : count c.args.word ≡ 2 = ap count c.in-Load.is in let b = c.in_default-words-5.len_below in absurd (omega arith))

pub returns-in_default-words-6 : goal.returns-in_default-words-6
returns-in_default-words-6 c = wrong_count c.args.scope.now _ c.args.word c.args.words.now (λ e. let n : count c.args.word ≡ 2 = ap count c.in-Drop.is in let b = c.in_default-words-6.len_below in absurd (omega arith))

pub returns-in_default-words-7 : goal.returns-in_default-words-7
returns-in_default-words-7 c = wrong_count c.args.scope.now _ c.args.word c.args.words.now (λ e. let n : count c.args.word ≡ 2 = ap count c.in-CountFull.is in let b = c.in_default-words-7.len_below in absurd (omega arith))

pub returns-in_default-words-7-2 : goal.returns-in_default-words-7-2
returns-in_default-words-7-2 c = wrong_count c.args.scope.now _ c.args.word c.args.words.now (λ e. let n : count c.args.word ≡ 2 = ap count c.in-CountFull.is in let b = c.in_default-words-7.len_at_least in absurd (omega arith))

pub returns-in_default-words-10 : goal.returns-in_default-words-10
returns-in_default-words-10 c = wrong_count c.args.scope.now _ c.args.word c.args.words.now (λ e. let n : count c.args.word ≡ 3 = ap count c.in-Side.is in let b = c.in_default-words-10.len_below in absurd (omega arith))

pub returns-in_default-words-12 : goal.returns-in_default-words-12
returns-in_default-words-12 c = wrong_count c.args.scope.now _ c.args.word c.args.words.now (λ e. let n : count c.args.word ≡ 3 = ap count c.in-Swap.is in let b = c.in_default-words-12.len_below in absurd (omega arith))

pub returns-in_default-words-12-2 : goal.returns-in_default-words-12-2
returns-in_default-words-12-2 c = wrong_count c.args.scope.now _ c.args.word c.args.words.now (λ e. let n : count c.args.word ≡ 3 = ap count c.in-Swap.is in let b = c.in_default-words-12.len_at_least in absurd (omega arith))

pub returns-in_default-words-13-2 : goal.returns-in_default-words-13-2
returns-in_default-words-13-2 c = wrong_count c.args.scope.now _ c.args.word c.args.words.now (λ e. let n : count c.args.word ≡ 1 = ap count c.in-Look.is in let b = c.in_default-words-13.len_at_least in absurd (omega arith))

pub returns-in_default-words-14 : goal.returns-in_default-words-14
returns-in_default-words-14 c = wrong_count c.args.scope.now _ c.args.word c.args.words.now (λ e. let n : count c.args.word ≡ 2 = ap count c.in-Take.is in let b = c.in_default-words-14.len_below in absurd (omega arith))

pub returns-in_default-words-15 : goal.returns-in_default-words-15
returns-in_default-words-15 c = wrong_count c.args.scope.now _ c.args.word c.args.words.now (λ e. let n : count c.args.word ≡ 2 = ap count c.in-Finish.is in let b = c.in_default-words-15.len_below in absurd (omega arith))

pub returns-in_default-words-17 : goal.returns-in_default-words-17
returns-in_default-words-17 c = wrong_count c.args.scope.now _ c.args.word c.args.words.now (λ e. let n : count c.args.word ≡ 2 = ap count c.in-Gone.is in let b = c.in_default-words-17.len_below in absurd (omega arith))
