-- `unions::fill` meets its contract. The loop's invariant: the groups before g are filled. Assumes nothing.
use mathlib.Core.Path.{◌≡◌}
use Rattle.unions.specs.Unions.{filled}
use Rattle.unions.proofs.fill.Given as goal

abbrev pub invariant-loop-g : goal.invariant-loop-g
invariant-loop-g l = l.table ≡ filled l.initial.table l.values l.g
