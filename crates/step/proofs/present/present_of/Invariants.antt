-- `step::present::present_of` meets its contract. The loop's invariant: the states below p that have a counter above 0 are listed, lowest first.
-- Assumes nothing.
use Rattle.step.proofs.PresentStates.{Listing}
use Rattle.step.proofs.present.present_of.Given as goal

abbrev pub invariant-loop-p : goal.invariant-loop-p
invariant-loop-p l = Listing l.counters l.count l.places l.p
