-- `slots::word_length` meets its contract. The letters counted so far and those on the way to the present slot are those on the way
-- to slot s. Assumes nothing.
use mathlib.Core.Path.{◌≡◌}
use Prim.Native.Nat.{◌+◌, ◌≤◌}
use lib.ListN.{length}
use Rattle.slots.specs.Bytes.{Falls, word_at}
use Rattle.slots.proofs.word_length.Given as goal

abbrev pub invariant-loop-at : goal.invariant-loop-at
invariant-loop-at l = (l.at ≤ l.s) × Falls l.work l.at × (l.n + length (word_at l.work l.at) ≡ length (word_at l.work l.s))

abbrev pub decreases-loop-at : goal.decreases-loop-at
decreases-loop-at l = l.at
