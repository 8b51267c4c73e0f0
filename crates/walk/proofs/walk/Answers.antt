-- `walk::walk` meets its contract: the initial vertex is final, or there is no slot for it, or the walk goes on from it with the masks of the
-- right automaton, for which either array has room. Assumes nothing.
use mathlib.Core.Path.{sym, ◌∙◌}
use native.Mathlib.Omega.{arith}
use Rattle.step.proofs.Steps.{initial_from_lem}
use Rattle.walk.proofs.FirstVertices.{few_pairs, first_final, first_full}
use Rattle.walk.proofs.walk.Goals as goal

pub returns-then-all_zero : goal.returns-then-all_zero
returns-then-all_zero c =
    let a = c.args in
    let A = a.left.automaton.now in
    let B = a.right.automaton.now in
    let d = first_final A B a.bound.value c.initial_vertex-first.result
    (c.initial_vertex-first.ensures ∙ initial_from_lem A B a.bound.value a.left.in_range a.right.in_range) a.work.now
    (sym c.all_zero.ensures ∙ c.if-all_zero.true) in
    record { answer = d.answer; bytes = d.bytes }

pub returns-then-slot_count-eq0 : goal.returns-then-slot_count-eq0
returns-then-slot_count-eq0 c =
    let a = c.args in
    let A = a.left.automaton.now in
    let B = a.right.automaton.now in
    let d = first_full A B a.bound.value c.initial_vertex-first.result
    (c.initial_vertex-first.ensures ∙ initial_from_lem A B a.bound.value a.left.in_range a.right.in_range) a.work.now
    (sym c.all_zero.ensures ∙ c.if-all_zero.false) (omega (arith, c.slot_count.ensures, c.if-slot_count-eq0.true)) in
    record { answer = d.answer; bytes = d.bytes }

pub walk_with-requires : goal.walk_with-requires
walk_with-requires c =
    let a = c.args in (
      omega (arith, c.if-left-right-le64.true),
      omega arith,
      c.initial_vertex-first.ensures ∙ initial_from_lem a.left.automaton.now a.right.automaton.now a.bound.value a.left.in_range a.right.in_range,
      sym c.all_zero.ensures ∙ c.if-all_zero.false,
      omega (arith, c.slot_count.ensures, c.if-slot_count-eq0.false),
    )

pub walk_with-requires-2 : goal.walk_with-requires-2
walk_with-requires-2 c =
    let a = c.args in (
      omega (arith, few_pairs a.left.automaton.now a.right.automaton.now a.left.in_range a.right.in_range),
      omega arith,
      c.initial_vertex-first.ensures ∙ initial_from_lem a.left.automaton.now a.right.automaton.now a.bound.value a.left.in_range a.right.in_range,
      sym c.all_zero.ensures ∙ c.if-all_zero.false,
      omega (arith, c.slot_count.ensures, c.if-slot_count-eq0.false),
    )
