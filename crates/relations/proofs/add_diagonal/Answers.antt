-- `relations::add_diagonal` meets its contract. Assumes nothing.
use native.Mathlib.Omega.{arith}
use Rattle.relations.proofs.Rows.{first_rows_changed}
use Rattle.relations.proofs.add_diagonal.Goals as goal

pub returns : goal.returns
returns c = let l = c.loop-p in
    first_rows_changed c.args.n l.p _ c.args.rows.now l.rows (omega arith) (omega arith) l.auto.rows l.invariant
