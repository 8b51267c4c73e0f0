-- `letter_targets` meets its contract. The loop's invariant: each row below p has the targets of its state. Assumes nothing.
use mathlib.Core.Path.{◌≡◌}
use Prim.Native.Nat.{ℕ, ◌<◌}
use lib.ListN.{length}
use Rattle.automaton.specs.Automata.{transition_bit}
use Rattle.relations.specs.Closure.{row_has}
use Rattle.verdict.proofs.stem.letter_targets.Given as goal

abbrev pub invariant-loop-p : goal.invariant-loop-p
invariant-loop-p l = record {
  size : length l.targets ≡ 32;
  made : (p q : ℕ) → p < l.p → q < 32 → row_has l.targets p q ≡ transition_bit l.automaton p l.a q;
}
