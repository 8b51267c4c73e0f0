-- `walk::expand` meets its contract. Before each letter the successors on the letters still to come, from the list that the work buffer
-- represents, make all of them; and the line of the place's class has the steps of its counters. Assumes nothing.
use Rattle.discovery.specs.Lists.{Grown}
use Rattle.successors.specs.Steps.{LinesKept}
use Rattle.walk.proofs.ExpandLoops.{LettersToGo}
use Rattle.walk.proofs.KeptLoops.{Owns}
use Rattle.walk.proofs.expand.Given as goal

abbrev pub invariant-loop-letter : goal.invariant-loop-letter
invariant-loop-letter l = record {
  grown : Grown l.initial.listed l.listed;
  lines : LinesKept l.pair.rules l.listed l.kept;
  owns : Owns l.listed l.line l.source.vertex.counters l.kept.owners;
  to_go : LettersToGo l.pair.rules.left.now l.pair.rules.right.now l.pair.bound.value l.source.vertex l.p l.initial.listed.work.now l.initial.listed.count
      l.listed.work.now l.listed.count l.letter;
}
