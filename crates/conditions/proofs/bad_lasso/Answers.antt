-- `conditions::bad_lasso` meets its contract: no length decides, so the letters do. Assumes nothing.
use mathlib.Core.Path.{refl, sym, ◌∙◌}
use Rattle.history.specs.Verdicts.{bad_lasso}
use Rattle.conditions.proofs.Letters.{outside_any, passed}
use Rattle.conditions.proofs.bad_lasso.Goals as goal

pub returns-then-outside : goal.returns-then-outside
unfolding bad_lasso
returns-then-outside c =
    let a = c.args in
    c.if-outside.true
    ∙ rw (sym c.is_empty.ensures) (passed c.if-stem-is_empty.false (sym c.if-outside.true ∙ c.outside.ensures ∙ outside_any a.letters a.stem.now) refl)

pub returns-else-outside : goal.returns-else-outside
unfolding bad_lasso
returns-else-outside c =
    let a = c.args in
    rw (sym c.is_empty.ensures) (passed c.if-stem-is_empty.false (sym c.if-outside.false ∙ c.outside.ensures ∙ outside_any a.letters a.stem.now)
    (c.outside-else-outside.ensures ∙ outside_any a.letters a.cycle.now))
