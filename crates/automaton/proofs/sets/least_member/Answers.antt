-- `least_member` meets its contract: the least member is the number of trailing zeros, which is at most 8. Assumes nothing.
use Rattle.automaton.proofs.LeastMembers.{trailing_least}
use Rattle.automaton.proofs.sets.least_member.Goals as goal

pub returns : goal.returns
returns c = trailing_least _
