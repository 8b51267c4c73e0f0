-- `relations::close` meets its contract. The loop's invariant: the rounds by way of the states below k are done. Assumes nothing.
use mathlib.Core.Path.{◌≡◌}
use Rattle.relations.specs.Rows.{rounds_rows}
use Rattle.relations.proofs.close.Given as goal

abbrev pub invariant-loop-k : goal.invariant-loop-k
invariant-loop-k l = l.rows ≡ rounds_rows l.n l.k l.initial.rows
