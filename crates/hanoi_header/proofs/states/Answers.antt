-- `states` meets its contract: two words, and then the number. Assumes nothing.
use Rattle.std.proofs.Common.{◌∙◌}
use Rattle.hanoi_header.proofs.ItemLaws.{states_in}
use Rattle.hanoi_header.proofs.states.Goals as goal

pub returns-clause-meaning : goal.returns-clause-meaning
returns-clause-meaning c = λ zero go.
    let first = c.in_ok-expect.ensures in
    let second = c.in_ok-expect-2.ensures in
    (rw zero at first.meaning) _
    ∙ (rw (first.moved.text) at second.meaning) _
    ∙ (rw (second.moved.text, first.moved.text) at c.numbered.ensures.meaning) _ states_in go
