-- `relations::round` meets its contract. Assumes nothing.
use native.Mathlib.Omega.{arith}
use Rattle.relations.proofs.Rows.{rewriting_goes_on, first_rows_changed, round_row, round_row_lem}
use Rattle.relations.proofs.round.Goals as goal

pub loop-p-preserved : goal.loop-p-preserved
loop-p-preserved c = let l = c.loop-p in
    rewriting_goes_on l.p l.rows c.with_row.result (omega arith) l.invariant
    (round_row_lem c.args.rows.now c.args.k l.p l.rows c.with_row.result l.invariant c.with_row.ensures)

pub returns : goal.returns
returns c = let l = c.loop-p in
    let a = c.args in
    first_rows_changed a.n l.p (round_row a.rows.now a.k) a.rows.now l.rows (omega arith) (omega arith) l.auto.rows l.invariant
