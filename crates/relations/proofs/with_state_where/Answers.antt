-- `relations::with_state_where` meets its contract: by the bits of the set with q where the test passes, and as it stands where not.
-- Assumes nothing.
use mathlib.Core.Path.{sym, ap, ◌∙◌}
use mathlib.Core.Bool.{Bool, ◌&&◌, ◌||◌}
use Prim.Native.Nat.{ℕ}
use lib.Dec.{eqb}
use Rattle.automaton.specs.Sets.{bit}
use Rattle.automaton.proofs.Bits.{bit_with}
use Rattle.relations.proofs.with_state_where.Goals as goal

pub returns-then-test : goal.returns-then-test
returns-then-test c k = let a = c.args in
    ap (λ (w : ℕ). bit w k) c.with_state.ensures ∙ bit_with a.set a.q k
    ∙ ap (λ (b : Bool). bit a.set k || (b && eqb a.q k)) (sym c.if-test.true)
