-- The label reader's cycle of calls meets its contracts. Assumes nothing.
use Rattle.label_reader.proofs.ReadTruths.{And, Or, chaining_starts, chaining_absent, chaining_ends, chaining_breaks, chaining_goes_on}
use Rattle.label_reader.proofs.Labels.+label.Goals as goal

pub and_at-returns-in_err-mask-clause-meaning : goal.and_at-returns-in_err-mask-clause-meaning
and_at-returns-in_err-mask-clause-meaning t c = rw c.from_residual.ensures (chaining_absent And _ _ c.args.scanner.now c.in_err-mask.ensures.meaning)

pub and_at-loop-self-init : goal.and_at-loop-self-init
and_at-loop-self-init t c = chaining_starts And _ _ c.args.scanner.now _ _ c.in_ok-mask.ensures.meaning c.in_ok-mask.ensures.moved

pub and_at-returns-clause-meaning : goal.and_at-returns-clause-meaning
and_at-returns-clause-meaning t c = chaining_ends And _ _ _ _ _ c.loop-self.invariant _ c.loop-self-test.ensures.meaning c.loop-self-test.ensures.moved

pub and_at-returns-in_err-mask-2-clause-meaning : goal.and_at-returns-in_err-mask-2-clause-meaning
and_at-returns-in_err-mask-2-clause-meaning t c =
    let l = c.loop-self-test.ensures in
    rw c.from_residual-in_err-mask-2.ensures (chaining_breaks And _ _ _ _ _ c.loop-self.invariant _ l.meaning l.moved c.in_err-mask-2.ensures.meaning)

pub and_at-loop-self-preserved : goal.and_at-loop-self-preserved
and_at-loop-self-preserved t c =
    let l = c.loop-self-test.ensures in
    let u = c.in_ok-mask-2.ensures in
    chaining_goes_on And _ _ _ _ _ c.loop-self.invariant _ l.meaning l.moved _ _ u.meaning u.moved

pub or_at-returns-in_err-mask-clause-meaning : goal.or_at-returns-in_err-mask-clause-meaning
or_at-returns-in_err-mask-clause-meaning t c = rw c.from_residual.ensures (chaining_absent Or _ _ c.args.scanner.now c.in_err-mask.ensures.meaning)

pub or_at-loop-self-init : goal.or_at-loop-self-init
or_at-loop-self-init t c = chaining_starts Or _ _ c.args.scanner.now _ _ c.in_ok-mask.ensures.meaning c.in_ok-mask.ensures.moved

pub or_at-returns-clause-meaning : goal.or_at-returns-clause-meaning
or_at-returns-clause-meaning t c = chaining_ends Or _ _ _ _ _ c.loop-self.invariant _ c.loop-self-test.ensures.meaning c.loop-self-test.ensures.moved

pub or_at-returns-in_err-mask-2-clause-meaning : goal.or_at-returns-in_err-mask-2-clause-meaning
or_at-returns-in_err-mask-2-clause-meaning t c =
    let l = c.loop-self-test.ensures in
    rw c.from_residual-in_err-mask-2.ensures (chaining_breaks Or _ _ _ _ _ c.loop-self.invariant _ l.meaning l.moved c.in_err-mask-2.ensures.meaning)

pub or_at-loop-self-preserved : goal.or_at-loop-self-preserved
or_at-loop-self-preserved t c =
    let l = c.loop-self-test.ensures in
    let u = c.in_ok-mask-2.ensures in
    chaining_goes_on Or _ _ _ _ _ c.loop-self.invariant _ l.meaning l.moved _ _ u.meaning u.moved
