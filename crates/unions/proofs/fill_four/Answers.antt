-- `unions::fill_four` meets its contract: the first entry is 0, and each value doubles the entries. Assumes nothing.
use native.Mathlib.Omega.{arith}
use lib.ListN.{length-set}
use Rattle.unions.proofs.UnionTables.{four_filled}
use Rattle.unions.proofs.fill_four.Goals as goal

pub returns : goal.returns
returns c =
    let a = c.args in
    let start = length-set a.entries.now 0 0 in
    four_filled a.entries.now c.double.new.entries c.double-2.new.entries c.double-3.new.entries c.double-4.new.entries
    a.values.now (omega arith) (omega arith) (omega arith) (omega arith) (omega arith)
    c.double.ensures c.double-2.ensures c.double-3.ensures c.double-4.ensures
