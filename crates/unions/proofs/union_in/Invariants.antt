-- `unions::union_in` meets its contract. The loop's invariant: the entries named in the groups before g are joined. Assumes nothing.
use mathlib.Core.Path.{◌≡◌}
use Prim.Native.Nat.{ℕ}
use Rattle.automaton.specs.Sets.{bit}
use Rattle.unions.specs.Unions.{named}
use Rattle.unions.proofs.union_in.Given as goal

abbrev pub invariant-loop-g : goal.invariant-loop-g
invariant-loop-g g l = (q : ℕ) → bit l.found q ≡ named l.table l.g l.choice q
