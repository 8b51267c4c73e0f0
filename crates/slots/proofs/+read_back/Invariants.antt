-- `slots::read_back` meets its contract, by recursion along the parents, whose numbers fall: the parent's word stands in front, and the
-- slot's letter goes behind it. Assumes nothing.
use Rattle.slots.proofs.+read_back.Given as goal

abbrev pub decreases-read_back : goal.decreases-read_back
decreases-read_back l = l.s
