-- `put_from` meets its contract: the records on each letter, one after another. Assumes nothing.
use native.Mathlib.Omega.{arith}
use Rattle.writer.proofs.Records.{chaining_room, chaining_more, chaining_end}
use Rattle.writer.proofs.putting.put_from.Goals as goal

pub put_targets-requires : goal.put_targets-requires
put_targets-requires c = ((omega arith, omega arith), chaining_room _ _ c.loop-a.invariant (omega arith) c.requires.1)

pub loop-a-preserved : goal.loop-a-preserved
loop-a-preserved c = chaining_more _ _ c.loop-a.invariant (omega arith) c.put_targets.ensures

pub returns : goal.returns
returns c = chaining_end _ _ c.loop-a.invariant (omega arith)
