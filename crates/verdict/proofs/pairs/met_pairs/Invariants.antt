-- `met_pairs` meets its contract, pair by pair. Assumes nothing.
use mathlib.Core.Path.{◌≡◌}
use mathlib.Core.Bool.{◌&&◌, ◌||◌}
use Prim.Native.Nat.{ℕ, ◌+◌, ◌<◌}
use lib.ListN.{length}
use Rattle.automaton.specs.Sets.{bit}
use Rattle.relations.specs.Closure.{row_has}
use Rattle.verdict.proofs.pairs.met_pairs.Given as goal

abbrev pub invariant-loop-t : goal.invariant-loop-t
invariant-loop-t l = record {
  size : length l.after ≡ 32;
  runs : (t q : ℕ) → t < l.t → q < 32 → row_has l.after t q ≡ row_has l.pairs t q;
  visits : (t q : ℕ) → t < l.t → q < 32 → row_has l.after t (32 + q) ≡ (row_has l.pairs t (32 + q) || (bit l.accepting t && row_has l.pairs t q));
}
