-- `of_word` meets its contract. The loop's invariant: the pairs are those for the letters behind the ones that are left. Assumes nothing.
use mathlib.Core.Path.{◌≡◌}
use mathlib.Core.List.{List, ◌++◌}
use Prim.Native.Nat.{ℕ}
use Rattle.std.specs.Slice.Iter.{iter_rest}
use Rattle.verdict.specs.Words.{PairsOf}
use Rattle.verdict.proofs.pairs.of_word.Given as goal

abbrev pub invariant-loop-letter : goal.invariant-loop-letter
invariant-loop-letter l = (v : List ℕ) × (iter_rest l.letter-iterator.iter ++ v ≡ l.word) × PairsOf l.valid.automaton.now v l.pairs
