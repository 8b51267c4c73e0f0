-- `unions::fill` meets its contract: what is filled are unions. Assumes nothing.
use mathlib.Core.Path.{◌≡◌, ap, ◌∙◌}
use native.Mathlib.Omega.{arith}
use Rattle.unions.proofs.UnionTables.{filled_unions}
use Rattle.unions.specs.Unions.{filled}
use Rattle.unions.proofs.fill.Goals as goal

pub returns-clause-unions : goal.returns-clause-unions
returns-clause-unions c =
    let l = c.loop-g in
    let a = c.args in
    let e : l.g ≡ a.groups = omega arith in
    (filled_unions a.table.now l.table a.values.now a.groups (omega arith) (l.invariant ∙ ap (filled a.table.now a.values.now) e)).0
