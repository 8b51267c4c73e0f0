-- `mark_at` meets its contract: `{`, `0` and `}`, or nothing. Assumes nothing.
use Rattle.std.proofs.Common.{refl, ◌∙◌}
use Rattle.std.proofs.lemmas.Result.{err_from_is_err_and}
use Rattle.hanoi_reader.proofs.PartLaws.{mark_none, mark_begins}
use Rattle.hanoi_reader.proofs.parts.mark_at.Goals as goal

pub returns-then-not-token-clause-meaning : goal.returns-then-not-token-clause-meaning
returns-then-not-token-clause-meaning c =
    let m = c.if-not-token.ensures in rw (m.moved.stays refl) (λ go. mark_none _ _ go m.meaning)

pub returns-in_err-expect-clause-meaning : goal.returns-in_err-expect-clause-meaning
returns-in_err-expect-clause-meaning c =
    let p = err_from_is_err_and c.from_residual.result c.from_residual.ensures.1 in
    let m = c.if-not-token.ensures in
    rw (p.1, p.2) (λ go. mark_begins _ _ go _ m.meaning ∙ rw (← m.moved.text) (c.in_err-expect.ensures.meaning _))

pub returns-in_err-expect-2-clause-meaning : goal.returns-in_err-expect-2-clause-meaning
returns-in_err-expect-2-clause-meaning c =
    let p = err_from_is_err_and c.from_residual-in_err-expect-2.result c.from_residual-in_err-expect-2.ensures.1 in
    let m = c.if-not-token.ensures in
    let l = c.in_ok-expect.ensures in
    rw (p.1, p.2)
    (λ go. mark_begins _ _ go _ m.meaning ∙ rw (← m.moved.text) (l.meaning _ ∙ rw (← l.moved.text) (c.in_err-expect-2.ensures.meaning _)))

pub returns-clause-meaning : goal.returns-clause-meaning
returns-clause-meaning c =
    let m = c.if-not-token.ensures in
    let l = c.in_ok-expect.ensures in
    λ go. mark_begins _ _ go _ m.meaning ∙ rw (← m.moved.text) (l.meaning _ ∙ rw (← l.moved.text) (c.in_ok-expect-2.ensures.meaning _))
