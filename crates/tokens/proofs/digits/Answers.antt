-- `digits` meets its contract: the value so far with the digits that are left is the whole value, as far as 1,000. Assumes nothing.
use Rattle.std.proofs.Common.{◌≡◌, ap, sym, ◌∙◌, length, arith}
use Rattle.tokens.specs.Tokens.{digit}
use Rattle.tokens.proofs.Numbers.{digits_value, digit_taken}
use Rattle.tokens.proofs.Runs.{byte_past, digits_here, digits_on}
use Rattle.tokens.proofs.digits.Goals as goal

pub returns-then-not-is_ascii_digit-clause-value : goal.returns-then-not-is_ascii_digit-clause-value
returns-then-not-is_ascii_digit-clause-value c =
    let i = c.loop-j.invariant in digits_value _ _ _ i.same_value i.held (sym c.is_ascii_digit.ensures.value ∙ c.if-not-is_ascii_digit.true)

pub returns-then-not-is_ascii_digit-clause-count : goal.returns-then-not-is_ascii_digit-clause-count
returns-then-not-is_ascii_digit-clause-count c =
    let i = c.loop-j.invariant in
    (sym (i.same_end ∙ digits_here c.args.text.now c.loop-j.j (sym c.is_ascii_digit.ensures.value ∙ c.if-not-is_ascii_digit.true)), omega arith)

pub loop-j-preserved : goal.loop-j-preserved
loop-j-preserved c =
    let l = c.loop-j in
    let w = sym c.is_ascii_digit.ensures.value ∙ c.if-not-is_ascii_digit.false in
    let q = c.with_digit-value.ensures in record {
      same_value = digit_taken c.args.text.now l.value l.j l.invariant.same_value _ c.loop-j-test.true w q.0;
      same_end = l.invariant.same_end ∙ digits_on c.args.text.now l.j w;
      held = q.1;
    }

pub returns-clause-value : goal.returns-clause-value
returns-clause-value c =
    let i = c.loop-j.invariant in digits_value _ _ _ i.same_value i.held (ap (λ b. digit b) (byte_past c.args.text.now c.loop-j.j c.loop-j-test.false))

pub returns-clause-count : goal.returns-clause-count
returns-clause-count c =
    let i = c.loop-j.invariant in
    let e : c.loop-j.j ≡ length c.args.text.now = omega arith in
    (sym (i.same_end ∙ digits_here c.args.text.now c.loop-j.j (ap (λ b. digit b) (byte_past c.args.text.now c.loop-j.j c.loop-j-test.false)) ∙ e), omega arith)
