-- `deadend::edge_rows` meets its contract. The loop's invariant: each row below q has the targets of its state. Assumes nothing.
use mathlib.Core.Path.{◌≡◌}
use Prim.Native.Nat.{ℕ, ◌<◌}
use lib.ListN.{length}
use Rattle.automaton.specs.Automata.{transition_bit}
use Rattle.automaton.specs.Ranges.{some}
use Rattle.relations.specs.Closure.{row_has}
use Rattle.deadend.proofs.edge_rows.Given as goal

abbrev pub invariant-loop-q : goal.invariant-loop-q
invariant-loop-q l = (length l.rows ≡ 32)
    × ((p r : ℕ) → p < l.q → r < 32 → row_has l.rows p r ≡ some (λ a. transition_bit l.automaton p a r) l.automaton.letters 0)
