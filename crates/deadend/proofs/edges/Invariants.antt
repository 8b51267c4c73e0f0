-- `deadend::edges` meets its contract. The loop's invariant: the targets on the letters below a are found. Assumes nothing.
use mathlib.Core.Path.{◌≡◌}
use Prim.Native.Nat.{ℕ, ◌<◌}
use Rattle.automaton.specs.Automata.{transition_bit}
use Rattle.automaton.specs.Ranges.{some}
use Rattle.automaton.specs.Sets.{bit}
use Rattle.deadend.proofs.edges.Given as goal

abbrev pub invariant-loop-a : goal.invariant-loop-a
invariant-loop-a l = (r : ℕ) → r < 32 → bit l.found r ≡ some (λ x. transition_bit l.automaton l.q x r) l.a 0
