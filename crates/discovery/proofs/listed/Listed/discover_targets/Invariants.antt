-- `discovery::Listed::discover_targets` meets its contract. Before each target those that are left, discovered from the list that the work buffer
-- shows, make the walk of all of them, and none of them is listed. Assumes nothing.
use Rattle.discovery.specs.Lists.{Grown}
use Rattle.discovery.proofs.LeftTargets.{TargetsReady, TargetsToGo}
use Rattle.discovery.proofs.listed.Listed.discover_targets.Given as goal

abbrev pub invariant-loop-t : goal.invariant-loop-t
invariant-loop-t l = record {
  grown : Grown l.initial.self l.self;
  targets : TargetsReady l.n l.sides l.self.work.now l.self.count l.t-iterator;
  to_go : TargetsToGo l.edge.letter l.sides l.edge.parent l.initial.self.work.now l.n l.targets l.self.work.now l.self.count l.t-iterator;
}
