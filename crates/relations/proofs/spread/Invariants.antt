-- `relations::spread` meets its contract. The loop's invariant: what is found are the members of the rows below p whose state
-- the set has. Assumes nothing.
use mathlib.Core.Path.{◌≡◌}
use mathlib.Core.Bool.{◌&&◌}
use Prim.Native.Nat.{ℕ}
use Rattle.automaton.specs.Ranges.{some}
use Rattle.automaton.specs.Sets.{bit}
use Rattle.relations.specs.Closure.{row_has}
use Rattle.relations.proofs.spread.Given as goal

abbrev pub invariant-loop-p : goal.invariant-loop-p
invariant-loop-p l = (q : ℕ) → bit l.found q ≡ some (λ x. bit l.set x && row_has l.rows x q) l.p 0
