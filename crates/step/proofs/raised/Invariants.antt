-- `step::raised` meets its contract. The counters below the present one are raised, the others are as they were. Assumes nothing.
use mathlib.Core.Path.{◌≡◌}
use Prim.Native.Nat.{ℕ, ◌+◌, ◌≤◌, max, min}
use lib.ListN.{get_or}
use Rattle.step.proofs.SteppedBytes.{TableWritten}
use Rattle.step.proofs.raised.Given as goal

abbrev pub invariant-loop-r : goal.invariant-loop-r
invariant-loop-r l = TableWritten (λ k. max (get_or l.initial.after k 0) (min l.counter (get_or l.masks (l.at + k) 0))) l.after l.r
    × ((k : ℕ) → l.r ≤ k → get_or l.after k 0 ≡ get_or l.initial.after k 0)
