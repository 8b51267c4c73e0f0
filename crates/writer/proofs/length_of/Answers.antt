-- `length_of` meets its contract: the two counts, which are small enough for the sum. Assumes nothing.
use native.Mathlib.Omega.{arith}
use Rattle.fixed_form.proofs.Lengths.{written_length, transition_count_few}
use Rattle.writer.proofs.WrittenParts.{accepting_count_word}
use Rattle.writer.proofs.length_of.Goals as goal

pub overflow_mul-result-2 : goal.overflow_mul-result-2
overflow_mul-result-2 c = let v = c.args.valid in
    omega (arith, c.transition_count.ensures, transition_count_few v.automaton.now v.in_range.few_states v.in_range.few_letters)

pub overflow_add-result-2 : goal.overflow_add-result-2
overflow_add-result-2 c = let v = c.args.valid in
    omega (arith, c.transition_count.ensures, transition_count_few v.automaton.now v.in_range.few_states v.in_range.few_letters)

pub returns : goal.returns
returns c = let v = c.args.valid in
    let d = accepting_count_word v.automaton.now v.in_range.few_states c.of_bytes-set.result c.of_bytes-set.ensures in
    omega (arith, d, c.transition_count.ensures, c.count_below-accepting.ensures.0, written_length v.automaton.now)
