-- `successors::side_of` meets its contract: a class that is kept and not 0 is the class of the counters. Assumes nothing.
use mathlib.Core.Path.{◌∙◌, sym}
use Rattle.successors.proofs.side_of.Goals as goal
use Rattle.successors.proofs.side_of.Goals.{then-targets-eq0, else-targets-eq0}

pub returns-clause-known : goal.returns-clause-known
returns-clause-known c s e =
    elim c.if-targets-eq0.branch [
      | then-targets-eq0 w ↦ rw c.new-keyed.ensures (c.requires s (sym w.class-is ∙ e))
      | else-targets-eq0 w ↦ sym w.class_of-class.ensures ∙ sym w.class-is ∙ e
    ]
