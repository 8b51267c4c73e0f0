-- `prepend_letter` meets its contract: the targets of a state choose among the pairs, each with its visits; on a letter that the automaton lacks there are
-- none. Assumes nothing.
use mathlib.Core.Path.{subst}
use native.Mathlib.Omega.{arith}
use Rattle.unions.specs.Unions.{Unions}
use Rattle.verdict.proofs.WordSets.{pairs_on, targets_none}
use Rattle.verdict.proofs.pairs.prepend_letter.Goals as goal

pub returns-then-a-valid : goal.returns-then-a-valid
returns-then-a-valid c v h =
    let a = c.args in
    let after = c.met_pairs.new.after in
    pairs_on a.valid.automaton.now a.valid.in_range a.letter v a.pairs.now after c.join_pairs.new.pairs h c.met_pairs.ensures
    (c.join_pairs.ensures after (subst (Unions c.fill.new.table after) c.groups_for.ensures.groups c.fill.ensures.unions))

pub returns-else-a-valid : goal.returns-else-a-valid
returns-else-a-valid c v h =
    let a = c.args in
    let after = c.met_pairs.new.after in
    pairs_on a.valid.automaton.now a.valid.in_range a.letter v a.pairs.now after _ h c.met_pairs.ensures
    (targets_none a.valid.automaton.now a.valid.in_range a.letter (omega arith) after)
