-- `put_transitions` meets its contract: the records from each state, one after another. Assumes nothing.
use native.Mathlib.Omega.{arith}
use Rattle.fixed_form.specs.FixedForm.{transition_items}
use Rattle.writer.proofs.Records.{chaining_room, chaining_more, chaining_end}
use Rattle.writer.proofs.putting.put_transitions.Goals as goal

pub put_from-requires : goal.put_from-requires
unfolding transition_items
put_from-requires c = (omega arith, chaining_room _ _ c.loop-q.invariant (omega arith) c.requires)

pub loop-q-preserved : goal.loop-q-preserved
loop-q-preserved c = chaining_more _ _ c.loop-q.invariant (omega arith) c.put_from.ensures

pub returns : goal.returns
unfolding transition_items
returns c = chaining_end _ _ c.loop-q.invariant (omega arith)
