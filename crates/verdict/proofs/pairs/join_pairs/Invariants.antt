-- `join_pairs` meets its contract, pair by pair. Assumes nothing.
use mathlib.Core.Path.{◌≡◌}
use mathlib.Core.Bool.{◌&&◌}
use mathlib.Core.List.{List}
use Prim.Native.Nat.{ℕ, ◌<◌}
use lib.ListN.{length}
use Rattle.automaton.specs.Automata.{transition}
use Rattle.automaton.specs.Ranges.{some}
use Rattle.relations.specs.Closure.{row_has}
use Rattle.unions.specs.Unions.{Unions, groups_for}
use Rattle.verdict.proofs.pairs.join_pairs.Given as goal

abbrev pub invariant-loop-p : goal.invariant-loop-p
invariant-loop-p l = record {
  size : length l.pairs ≡ 32;
  joined : (values : List ℕ) → Unions l.table values (groups_for l.n) → (p x : ℕ) → p < l.p
      → row_has l.pairs p x ≡ some (λ t. transition l.valid.automaton.now p l.a t && row_has values t x) l.n 0;
}
