-- `stray_from` meets its contract. The loop's invariant: whether a letter before a has such a transition. Assumes nothing.
use mathlib.Core.Path.{◌≡◌}
use Prim.Native.Nat.{ℕ}
use Rattle.automaton.specs.Automata.{stray_transition}
use Rattle.automaton.specs.Ranges.{some}
use Rattle.range_test.proofs.strays.stray_from.Given as goal

abbrev pub invariant-loop-a : goal.invariant-loop-a
invariant-loop-a l = l.found ≡ some (λ (a : ℕ). some (stray_transition l.automaton l.q a) 32 0) l.a 0
