-- `walk::walk_with` meets its contract: the masks are filled, and the walk goes on from the initial vertex by the rules of the two automata.
-- Assumes nothing.
use Prim.Native.Nat.{ℕ}
use native.Mathlib.Omega.{arith}
use lib.ListN.{replicate, length-replicate}
use Rattle.walk.proofs.FirstVertices.{rules_hold}
use Rattle.walk.proofs.walk_with.Goals as goal

pub invariant_of-walk_from : goal.invariant_of-walk_from
invariant_of-walk_from g c =
    let a = c.args in
    record {
      rules_of = rules_hold _ a.bound.value a.left.in_range a.right.in_range c.of_bytes.ensures c.tops_of-tops.ensures (replicate g.row.N 0)
          (omega (arith, length-replicate {A = ℕ} g.row.N 0, c.requires.0)) c.fill.ensures;
    }
