-- `walk::expand_all` meets its contract. Before each place those still to come, expanded from the list that the work buffer represents, make the walk,
-- and the steps that are kept are those of the slots so far; places are listed ones, so there are no more of them than slots. Assumes nothing.
use Prim.Native.Nat.{◌-◌}
use Rattle.slots.specs.Slots.{max_slots}
use Rattle.discovery.specs.Lists.{Grown}
use Rattle.successors.specs.Steps.{LinesKept}
use Rattle.walk.proofs.ExpandLoops.{PlacesToGo}
use Rattle.walk.proofs.expand_all.Given as goal

abbrev pub invariant-loop-p : goal.invariant-loop-p
invariant-loop-p l = record {
  grown : Grown l.initial.listed l.listed;
  lines : LinesKept l.pair.rules l.listed l.kept;
  to_go : PlacesToGo l.pair.rules.left.now l.pair.rules.right.now l.pair.bound.value l.initial.listed.work.now l.initial.listed.count
      l.listed.work.now l.listed.count l.p;
}

abbrev pub decreases-loop-p : goal.decreases-loop-p
decreases-loop-p l = max_slots - l.p
