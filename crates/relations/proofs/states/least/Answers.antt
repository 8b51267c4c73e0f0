-- `states::least` meets its contract: whatever the bytes passed, the least state from the next byte on is the answer. Assumes nothing.
use mathlib.Core.Path.{sym, ◌∙◌}
use Prim.Native.Nat.{◌<◌}
use native.Mathlib.Omega.{arith}
use Rattle.relations.proofs.StateLists.{least_in_byte, least_inside, least_past_byte, least_end}
use Rattle.relations.proofs.states.least.Goals as goal
use Rattle.relations.proofs.states.least.Goals.{Then-m-ne8}

inside : (c : Then-m-ne8) → c.least_member-m.result < 8
inside c = least_inside c.args.set c.loop-b.b c.least_member-m.result (omega arith) c.least_member-m.ensures c.if-m-ne8.true

pub overflow_add-result : goal.overflow_add-result
overflow_add-result c = let h = inside c in omega arith

pub returns-then-m-ne8 : goal.returns-then-m-ne8
returns-then-m-ne8 c = let l = c.loop-b in
    sym (l.invariant ∙ least_in_byte c.args.set l.b c.least_member-m.result (omega arith) c.least_member-m.ensures (inside c))

pub loop-b-preserved : goal.loop-b-preserved
loop-b-preserved c = let l = c.loop-b in
    l.invariant ∙ least_past_byte c.args.set l.b c.least_member-m.result (omega arith) c.least_member-m.ensures (omega (arith, c.if-m-ne8.false))

pub returns : goal.returns
returns c = let l = c.loop-b in sym (l.invariant ∙ least_end c.args.set l.b (omega arith) (omega arith))
