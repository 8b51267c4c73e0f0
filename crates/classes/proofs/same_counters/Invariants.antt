-- `classes::same_counters` meets its contract: the test holds so far exactly if the counters before the present one are those of the slot.
-- Assumes nothing.
use mathlib.Core.Path.{◌≡◌}
use Prim.Native.Nat.{◌+◌}
use lib.Dec.{eqb}
use lib.ListN.{get_or}
use Rattle.slots.proofs.Compared.{every}
use Rattle.classes.proofs.same_counters.Given as goal

abbrev pub invariant-loop-r : goal.invariant-loop-r
invariant-loop-r l = l.same ≡ every (λ k. eqb (get_or l.counters k 0) (get_or l.work (l.from + k) 0)) l.r
