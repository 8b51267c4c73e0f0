-- `relations::close` meets its contract. Assumes nothing.
use mathlib.Core.Path.{refl}
use Rattle.relations.specs.Rows.{rounds_rows}
use Rattle.relations.proofs.Rows.{rounds_more}
use Rattle.relations.proofs.close.Goals as goal

pub loop-k-init : goal.loop-k-init
unfolding rounds_rows
loop-k-init c = refl

pub loop-k-preserved : goal.loop-k-preserved
loop-k-preserved c = rounds_more _ _ _ _ _ c.loop-k.invariant c.round.ensures
