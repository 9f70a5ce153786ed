use Rattle.std.proofs.Common.{rules, ◌-◌, ◌^◌, arith}
use Rattle.arc_bits.specs.declared.packing.Word.TheVariants.{Counts, Slow}
use Rattle.arc_bits.specs.Words.{counts_of}
use Rattle.arc_bits.proofs.Unpacking.{slow_is, counts_are, slow_has_word, past_slow}
use Rattle.arc_bits.proofs.packing.unpack.Goals as goal

pub returns-then-entry-lt-DEINITING-clause-none : goal.returns-then-entry-lt-DEINITING-clause-none
returns-then-entry-lt-DEINITING-clause-none c = ((λ e. cc), λ no. absurd (no (Slow (c.args.word - 2 ^ 63), slow_is _ (omega arith) (omega arith))))

pub returns-then-entry-lt-DEINITING-clause-none_by_bits :
    goal.returns-then-entry-lt-DEINITING-clause-none_by_bits
returns-then-entry-lt-DEINITING-clause-none_by_bits c = ((λ e. cc), λ no. absurd (slow_has_word _ (omega arith) (omega arith) no))

pub returns-else-entry-lt-DEINITING-clause-none_by_bits :
    goal.returns-else-entry-lt-DEINITING-clause-none_by_bits
returns-else-entry-lt-DEINITING-clause-none_by_bits c = ((λ e. past_slow _ (omega arith) (omega arith)), λ no. search rules)

pub returns-clause-none : goal.returns-clause-none
returns-clause-none c = ((λ e. cc), λ no. absurd (no (Counts (counts_of c.args.word), counts_are _ (omega arith) (omega arith) (omega arith))))
