-- `acc_name` meets its contract, by what the call for the first word answered. Assumes nothing.
use Rattle.std.proofs.Common.{◌∙◌}
use Rattle.hanoi_header.proofs.ItemLaws.{kind_passed}
use Rattle.hanoi_header.proofs.acc_name.Goals as goal

pub returns-then-token-clause-meaning : goal.returns-then-token-clause-meaning
returns-then-token-clause-meaning c = λ go. kind_passed _ _ _ _ c.token.ensures.meaning go c.if-token.true ∙ rw (← c.token.ensures.moved.text) (c.expect.ensures.meaning go)
