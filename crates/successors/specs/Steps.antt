-- A step by the rules of a walk.
--   edges_on A B b v a              the successors of the vertex v on letter a, each behind its letter
--   StepKept rules l kept v step    what the two places of the step may say of the step on its letter from the counters of v
--   LinesKept rules l kept          the same of each line and letter
-- Nothing settles it: only contracts between functions name it. Assumes nothing.
use Rattle.std.specs.Prelude.{List, map, ℕ}
use Rattle.automaton.specs.declared.Automaton.{Automaton}
use Rattle.automaton.specs.Automata.{targets}
use Rattle.slots.specs.declared.Vertex.{Vertex}
use Rattle.graph.specs.LagGraph.{successor}
use Rattle.kept.specs.declared.Kept.{Kept}
use Rattle.kept.specs.Kept.{KeptStep, KeptLines}
use Rattle.discovery.specs.declared.listed.Listed.{Listed}
use Rattle.successors.specs.declared.Step.{Step}
use Rattle.successors.specs.declared.rules.Rules.{Rules}

abbrev pub edges_on : Automaton → Automaton → ℕ → Vertex → ℕ → List (ℕ × Vertex)
edges_on A B b v a = map (successor A B b v a) (targets A v.left a)

abbrev pub StepKept : Rules → Listed → List ℕ → Vertex → Step → Type 0
StepKept rules l kept v step =
    KeptStep rules.tops.now rules.masks.now rules.right.now.states l.work.now l.count kept step.at step.edge.letter v.counters

abbrev pub LinesKept : Rules → Listed → Kept → Type 0
LinesKept rules l kept = KeptLines rules.tops.now rules.masks.now rules.right.now.states l.work.now l.count kept.owners kept.lines
