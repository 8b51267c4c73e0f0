-- `letter_unions` meets its contract. The loop's invariant: the letters before a have their unions. Assumes nothing.
use mathlib.Core.Path.{◌≡◌}
use mathlib.Core.List.{[]}
use Prim.Native.Nat.{ℕ, ◌<◌}
use lib.ListN.{length, get_or}
use Rattle.verdict.specs.Words.{HeldLetter}
use Rattle.verdict.proofs.stem.letter_unions.Given as goal

abbrev pub invariant-loop-a : goal.invariant-loop-a
invariant-loop-a l = (length l.tables ≡ 16) × ((b : ℕ) → b < l.a → ∥ HeldLetter l.automaton b (get_or l.tables b []) ∥₁)
