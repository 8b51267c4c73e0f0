-- `read_records` meets its contract. The invariant: the file is read up to the position, with the automaton so far; the measure is the number of
-- bytes left. Assumes nothing.
use mathlib.Core.Path.{refl, sym, ap, ◌∙◌}
use native.Mathlib.Omega.{arith}
use Rattle.std.proofs.Common.{Ok}
use Rattle.std.proofs.lemmas.Result.{err_from_is_err_and}
use Rattle.file.proofs.RecordParts.{header_holds, reading_starts, said_fault, said_end, said_refused, said_added}
use Rattle.file.proofs.read_records.Goals as goal

pub loop-state-init : goal.loop-state-init
loop-state-init c =
    let h = header_holds _ _ c.requires in
    rw (c.new-reader.ensures.0, c.new-reader.ensures.1) (refl, h.2, h.0, h.1, reading_starts _ _ c.requires)

pub returns-in_err-state : goal.returns-in_err-state
returns-in_err-state c =
    let p = err_from_is_err_and c.from_residual.result c.from_residual.ensures.1 in
    let i = c.loop-state.invariant in
    let both = said_fault i.4 (rw i.0 at c.next_record.ensures.record) c.in_err-state.was in
    record { answer = rw (p.1, p.2) (sym both.0); automaton = sym both.1 }

pub returns-in-End : goal.returns-in-End
returns-in-End c =
    let i = c.loop-state.invariant in
    let both = said_end i.4 (rw i.0 at c.next_record.ensures.record) (c.in_ok-state.was ∙ ap Ok c.in-End.is) in
    record { answer = sym both.0; automaton = sym both.1 }

pub returns-in_err-take_accepting-in-Accepting : goal.returns-in_err-take_accepting-in-Accepting
returns-in_err-take_accepting-in-Accepting c =
    let r = c.from_residual-in_err-take_accepting-in-Accepting in
    let p = err_from_is_err_and r.result r.ensures.1 in
    let i = c.loop-state.invariant in
    let both = said_refused i.4 (rw i.0 at c.next_record.ensures.record) c.in-Accepting.next (c.in_ok-state.was ∙ ap Ok c.in-Accepting.is)
    (c.take_accepting.ensures.taken c.in-Accepting.next) c.in_err-take_accepting-in-Accepting.was in
    record { answer = rw (p.1, p.2) (sym both.0); automaton = sym both.1 }

pub loop-state-smaller-in-Continue-branch-3 : goal.loop-state-smaller-in-Continue-branch-3
loop-state-smaller-in-Continue-branch-3 c =
    let i = c.loop-state.invariant in
    let a = said_added i.4 (rw i.0 at c.next_record.ensures.record) c.in-Accepting.next (c.in_ok-state.was ∙ ap Ok c.in-Accepting.is)
    (c.take_accepting.ensures.taken c.in-Accepting.next) c.in_ok-take_accepting-in-Accepting.was c.next_record.ensures.at refl in
    omega (arith, a.0, a.1)

pub loop-state-preserved-in-Continue-branch-3 : goal.loop-state-preserved-in-Continue-branch-3
loop-state-preserved-in-Continue-branch-3 c =
    let i = c.loop-state.invariant in
    let a = said_added i.4 (rw i.0 at c.next_record.ensures.record) c.in-Accepting.next (c.in_ok-state.was ∙ ap Ok c.in-Accepting.is)
    (c.take_accepting.ensures.taken c.in-Accepting.next) c.in_ok-take_accepting-in-Accepting.was c.next_record.ensures.at refl in
    let h = c.take_accepting.ensures.header in
    (rw (c.next_record.ensures.file) i.0, a.1, omega (arith, h.0), omega (arith, h.1), a.2)

pub returns-in_err-take_transition-in-Transition : goal.returns-in_err-take_transition-in-Transition
returns-in_err-take_transition-in-Transition c =
    let r = c.from_residual-in_err-take_transition-in-Transition in
    let p = err_from_is_err_and r.result r.ensures.1 in
    let i = c.loop-state.invariant in
    let both = said_refused i.4 (rw i.0 at c.next_record.ensures.record) c.in-Transition.next (c.in_ok-state.was ∙ ap Ok c.in-Transition.is)
    (c.take_transition.ensures.taken c.in-Transition.next) c.in_err-take_transition-in-Transition.was in
    record { answer = rw (p.1, p.2) (sym both.0); automaton = sym both.1 }

pub loop-state-smaller : goal.loop-state-smaller
loop-state-smaller c =
    let i = c.loop-state.invariant in
    let a = said_added i.4 (rw i.0 at c.next_record.ensures.record) c.in-Transition.next (c.in_ok-state.was ∙ ap Ok c.in-Transition.is)
    (c.take_transition.ensures.taken c.in-Transition.next) c.in_ok-take_transition-in-Transition.was c.next_record.ensures.at refl in
    omega (arith, a.0, a.1)

pub loop-state-preserved : goal.loop-state-preserved
loop-state-preserved c =
    let i = c.loop-state.invariant in
    let a = said_added i.4 (rw i.0 at c.next_record.ensures.record) c.in-Transition.next (c.in_ok-state.was ∙ ap Ok c.in-Transition.is)
    (c.take_transition.ensures.taken c.in-Transition.next) c.in_ok-take_transition-in-Transition.was c.next_record.ensures.at refl in
    let h = c.take_transition.ensures.header in
    (rw (c.next_record.ensures.file) i.0, a.1, omega (arith, h.0), omega (arith, h.1), a.2)
