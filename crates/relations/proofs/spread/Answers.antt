-- `relations::spread` meets its contract. The loop's invariant: what is found are the members of the rows below p whose state
-- the set has. Assumes nothing.
use mathlib.Core.Path.{sym, ap, ◌∙◌}
use mathlib.Core.Bool.{Bool, ◌&&◌, ◌||◌}
use Prim.Native.Nat.{ℕ}
use lib.ListN.{get_or}
use Rattle.automaton.specs.Sets.{bit}
use Rattle.relations.specs.Closure.{row_has}
use Rattle.automaton.proofs.Bits.{bit_zero}
use Rattle.relations.proofs.Rows.{some_none, some_more, bit_with_row}
use Rattle.relations.proofs.spread.Goals as goal

pub loop-p-init : goal.loop-p-init
loop-p-init c q = bit_zero q ∙ sym (some_none _)

pub loop-p-preserved : goal.loop-p-preserved
loop-p-preserved c q = let l = c.loop-p in
    let a = c.args in
    ap (λ (w : ℕ). bit w q) c.with_row-found.ensures
    ∙ bit_with_row l.found a.set l.p (get_or a.rows.now l.p 0) q
    ∙ ap (λ (b : Bool). b || (bit a.set l.p && row_has a.rows.now l.p q)) (l.invariant q)
    ∙ sym (some_more (λ x. bit a.set x && row_has a.rows.now x q) l.p)
