-- `names` meets its contract, name by name. Assumes nothing.
use Rattle.std.proofs.Common.{◌+◌, ◌-◌, ◌∙◌, arith}
use Rattle.hanoi_header.proofs.ItemLaws.{name_missed}
use Rattle.hanoi_header.proofs.names.Goals as goal

pub returns-then-not-name-clause-meaning : goal.returns-then-not-name-clause-meaning
returns-then-not-name-clause-meaning c = λ go.
    c.loop.invariant.left go ∙ name_missed _ _ _ _ c.name.ensures.meaning _ (c.args.count - (c.loop.counter + 1)) (omega arith) go c.if-not-name.true
