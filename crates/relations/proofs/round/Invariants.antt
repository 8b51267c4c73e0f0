-- `relations::round` meets its contract. The loop's invariant: the round is done in the rows below p, and the others are as they
-- were. Assumes nothing.
use mathlib.Core.Path.{◌≡◌}
use Rattle.relations.proofs.Rows.{Rewritten, round_row}
use Rattle.relations.proofs.round.Given as goal

abbrev pub invariant-loop-p : goal.invariant-loop-p
invariant-loop-p l = Rewritten (λ i w. w ≡ round_row l.initial.rows l.k i) l.initial.rows l.p l.rows
