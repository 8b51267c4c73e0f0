-- Two automata of a walk, for the contracts of its private functions.
--   graph_of pair      the lag-checking graph of the two automata at the bound
-- Nothing settles it: only contracts between functions name it. Assumes nothing.
use Rattle.graph.specs.Discovery.{Graph}
use Rattle.graph.specs.LagGraph.{lag_graph}
use Rattle.walk.specs.declared.pair.Pair.{Pair}

abbrev pub graph_of : Pair → Graph
graph_of pair = lag_graph pair.rules.left.now pair.rules.right.now pair.bound.value
