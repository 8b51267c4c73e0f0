-- `states::least` meets its contract: whatever the bytes passed, the least state from the next byte on is the answer. Assumes nothing.
use mathlib.Core.Path.{◌≡◌}
use Prim.Native.Nat.{◌*◌, ◌-◌}
use Rattle.automaton.specs.Ranges.{next_from}
use Rattle.automaton.specs.Sets.{bit}
use Rattle.relations.proofs.states.least.Given as goal

abbrev pub invariant-loop-b : goal.invariant-loop-b
invariant-loop-b l = next_from (bit l.set) 32 0 ≡ next_from (bit l.set) (32 - l.b * 8) (l.b * 8)
