-- `acceptance` meets its contract, word by word; up to the third the check finds it by itself. Assumes nothing.
use Rattle.std.proofs.Common.{◌∙◌}
use Rattle.std.proofs.lemmas.Result.{err_from_is_err_and}
use Rattle.hanoi_header.proofs.acceptance.Goals as goal

pub returns-in_err-expect-4-clause-meaning : goal.returns-in_err-expect-4-clause-meaning
returns-in_err-expect-4-clause-meaning c =
    let p = err_from_is_err_and c.from_residual-in_err-expect-4.result c.from_residual-in_err-expect-4.ensures.1 in
    let x = c.in_ok-expect.ensures in
    let y = c.in_ok-expect-2.ensures in
    let z = c.in_ok-expect-3.ensures in
    rw (p.1, p.2)
    (λ go. x.meaning _ ∙ rw (← x.moved.text) (y.meaning _ ∙ rw (← y.moved.text) (z.meaning _ ∙ rw (← z.moved.text) (c.in_err-expect-4.ensures.meaning _))))

pub returns-in_err-expect-5-clause-meaning : goal.returns-in_err-expect-5-clause-meaning
returns-in_err-expect-5-clause-meaning c =
    let p = err_from_is_err_and c.from_residual-in_err-expect-5.result c.from_residual-in_err-expect-5.ensures.1 in
    let x = c.in_ok-expect.ensures in
    let y = c.in_ok-expect-2.ensures in
    let z = c.in_ok-expect-3.ensures in
    let u = c.in_ok-expect-4.ensures in
    rw (p.1, p.2)
    (λ go. x.meaning _ ∙ rw (← x.moved.text) (y.meaning _ ∙ rw (← y.moved.text) (z.meaning _ ∙ rw (← z.moved.text) (u.meaning _
    ∙ rw (← u.moved.text) (c.in_err-expect-5.ensures.meaning _)))))

pub returns-in_err-expect-6-clause-meaning : goal.returns-in_err-expect-6-clause-meaning
returns-in_err-expect-6-clause-meaning c =
    let p = err_from_is_err_and c.from_residual-in_err-expect-6.result c.from_residual-in_err-expect-6.ensures.1 in
    let x = c.in_ok-expect.ensures in
    let y = c.in_ok-expect-2.ensures in
    let z = c.in_ok-expect-3.ensures in
    let u = c.in_ok-expect-4.ensures in
    let v = c.in_ok-expect-5.ensures in
    rw (p.1, p.2)
    (λ go. x.meaning _ ∙ rw (← x.moved.text) (y.meaning _ ∙ rw (← y.moved.text) (z.meaning _ ∙ rw (← z.moved.text) (u.meaning _
    ∙ rw (← u.moved.text) (v.meaning _ ∙ rw (← v.moved.text) (c.in_err-expect-6.ensures.meaning _))))))

pub returns-clause-meaning : goal.returns-clause-meaning
returns-clause-meaning c =
    let x = c.in_ok-expect.ensures in
    let y = c.in_ok-expect-2.ensures in
    let z = c.in_ok-expect-3.ensures in
    let u = c.in_ok-expect-4.ensures in
    let v = c.in_ok-expect-5.ensures in
    let w = c.in_ok-expect-6.ensures in
    λ go. x.meaning _ ∙ rw (← x.moved.text) (y.meaning _ ∙ rw (← y.moved.text) (z.meaning _ ∙ rw (← z.moved.text) (u.meaning _
    ∙ rw (← u.moved.text) (v.meaning _ ∙ rw (← v.moved.text) (w.meaning _ ∙ rw (← w.moved.text) (c.expect-7.ensures.meaning _))))))
