-- The measures of the label reader's cycle of calls: four times the text that is left and the rank of the function: an operand at the same place is below
-- its conjunction, this below its disjunction, this below its parenthesis, and what stands behind a `!`, `(`, `&` or `|` has a byte less. The invariant of
-- a chain's loop: what follows from the present place comes to the whole (`Chaining`). Assumes nothing.
use Rattle.std.proofs.Common.{◌+◌, ◌-◌, ◌*◌, length}
use Rattle.label_reader.proofs.ReadTruths.{And, Or, Chaining}
use Rattle.label_reader.proofs.Labels.+label.Given as goal

abbrev pub decreases-not_at : goal.decreases-not_at
decreases-not_at l = 4 * (length l.scanner.now.text.now - l.scanner.now.at) + 1

abbrev pub decreases-and_at : goal.decreases-and_at
decreases-and_at l = 4 * (length l.scanner.now.text.now - l.scanner.now.at) + 2

abbrev pub decreases-or_at : goal.decreases-or_at
decreases-or_at l = 4 * (length l.scanner.now.text.now - l.scanner.now.at) + 3

abbrev pub decreases-paren_at : goal.decreases-paren_at
decreases-paren_at l = 4 * (length l.scanner.now.text.now - l.scanner.now.at) + 4

abbrev pub invariant-and_at-loop-self : goal.invariant-and_at-loop-self
invariant-and_at-loop-self l = Chaining And l.self.propositions l.depth l.fn.scanner l.mask l.scanner

abbrev pub decreases-and_at-loop-self : goal.decreases-and_at-loop-self
decreases-and_at-loop-self l = length l.scanner.text.now - l.scanner.at

abbrev pub invariant-or_at-loop-self : goal.invariant-or_at-loop-self
invariant-or_at-loop-self l = Chaining Or l.self.propositions l.depth l.fn.scanner l.mask l.scanner

abbrev pub decreases-or_at-loop-self : goal.decreases-or_at-loop-self
decreases-or_at-loop-self l = length l.scanner.text.now - l.scanner.at
