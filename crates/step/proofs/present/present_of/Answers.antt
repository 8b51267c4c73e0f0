-- `step::present::present_of` meets its contract. The loop's invariant: the states below p that have a counter above 0 are listed, lowest first.
-- Assumes nothing.
use native.Mathlib.Omega.{arith}
use Rattle.step.proofs.PresentStates.{listing_none, listing_next}
use Rattle.step.proofs.present.present_of.Goals as goal

pub loop-p-init : goal.loop-p-init
loop-p-init c = listing_none _

pub loop-p-preserved : goal.loop-p-preserved
loop-p-preserved c = let w = c.counted-count.ensures in listing_next _ _ _ _ c.loop-p.invariant (omega arith) _ w.0 w.1
