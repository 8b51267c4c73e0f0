-- `classes::lookups::class_of` meets its contract. Along the chain of the counters' key, the class lies at or below the slot where the walk stands,
-- and that slot's number falls. Assumes nothing.
use Rattle.classes.proofs.Leaders.{OnChain}
use Rattle.classes.proofs.lookups.class_of.Given as goal

abbrev pub invariant-loop-c : goal.invariant-loop-c
invariant-loop-c l = OnChain l.work l.keyed.counters.now l.n l.keyed.key l.c

abbrev pub decreases-loop-c : goal.decreases-loop-c
decreases-loop-c l = l.c
