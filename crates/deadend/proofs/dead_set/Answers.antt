-- `deadend::dead_set` meets its contract: what the functions that it calls ensure are the facts from which the dead states in words are
-- the computed ones. Assumes nothing.
use native.Mathlib.Omega.{arith}
use Rattle.relations.proofs.Rows.{closed_rows_lem, diagonal_rows_lem}
use Rattle.deadend.proofs.WordDeadEnds.{dead_at}
use Rattle.deadend.proofs.dead_set.Goals as goal

pub returns : goal.returns
returns c =
    let A = c.args.valid.automaton.now in
    let closed = c.close.new.rows in
    let joined = c.add_diagonal.new.rows in
    dead_at A c.args.valid.in_range c.edge_rows-rows.result c.edge_rows-rows.ensures
    closed (closed_rows_lem A.states c.edge_rows-rows.result closed c.close.ensures (omega arith))
    c.of_bytes.result c.on_loops-loops.result c.of_bytes.ensures c.on_loops-loops.ensures
    joined (diagonal_rows_lem A.states closed joined c.add_diagonal.ensures (omega arith))
    c.dead_among.result c.dead_among.ensures
