-- `successors::expand_letter` meets its contract: the targets that are listed with a kept class can be left out, and those that are left have the counters
-- and the classes of their side. Assumes nothing.
use mathlib.Core.Path.{refl, ◌∙◌, ap}
use native.Mathlib.Omega.{arith}
use Rattle.step.specs.Steps.{stepped_counters}
use Rattle.discovery.specs.Lists.{answered}
use Rattle.successors.proofs.LetterSteps.{known_slots, kept_left, sides_left, sides_ready, kept_low, kept_other, kept_both, letter_done, letter_listed}
use Rattle.successors.proofs.expand_letter.Goals as goal

pub targets_unlisted-requires : goal.targets_unlisted-requires
targets_unlisted-requires c =
    let a = c.args in
    let l = a.listed.now in (
      known_slots l _ _ (kept_low a.rules.now l a.kept.now a.source.now.vertex a.step c.requires.4),
      known_slots l _ _ (kept_other a.rules.now l a.kept.now a.source.now.vertex a.step c.requires.4),
    )

pub returns-then-targets_unlisted-eq0-clause-represents : goal.returns-then-targets_unlisted-eq0-clause-represents
returns-then-targets_unlisted-eq0-clause-represents c = λ A B b R.
    let a = c.args in
    let u = a.rules.now in
    let v = a.source.now.vertex in
    let l = a.listed.now in
    let z = c.if-targets_unlisted-eq0.true in
    letter_listed u A B b R v.left a.step.edge.letter v.counters c.row-targets.result c.row-targets.ensures c.requires.0 c.requires.1
    c.requires.2.bytes _ _ refl refl a.step.edge.parent l.work.now l.count c.targets_unlisted.result
    (kept_left l u a.kept.now v a.step c.requires.4 c.row-targets.result c.targets_unlisted.result c.row-targets.type_inv c.targets_unlisted.ensures z) z

pub side_of-requires : goal.side_of-requires
side_of-requires c =
    let a = c.args in
    rw (c.counters_after-lowered.ensures, c.largest_from-largest.ensures)
    (kept_low a.rules.now a.listed.now a.kept.now a.source.now.vertex a.step c.requires.4)

pub side_of-requires-2 : goal.side_of-requires-2
side_of-requires-2 c =
    let a = c.args in
    rw (c.counters_after-others.ensures, c.largest_from-largest.ensures)
    (kept_other a.rules.now a.listed.now a.kept.now a.source.now.vertex a.step c.requires.4)

pub overflow_cast-kept : goal.overflow_cast-kept
overflow_cast-kept c = let small = known_slots c.args.listed.now _ _ c.side_of.ensures.known in omega arith

pub overflow_cast-kept-2 : goal.overflow_cast-kept-2
overflow_cast-kept-2 c = let small = known_slots c.args.listed.now _ _ c.side_of-2.ensures.known in omega arith

pub targets_unlisted-unlisted-requires : goal.targets_unlisted-unlisted-requires
targets_unlisted-unlisted-requires c =
    let l = c.args.listed.now in (known_slots l _ _ c.side_of.ensures.known, known_slots l _ _ c.side_of-2.ensures.known)

pub discover_targets-requires : goal.discover_targets-requires
discover_targets-requires c =
    sides_ready c.args.listed.now _ c.row-targets.result c.targets_unlisted-unlisted.result c.row-targets.type_inv c.targets_unlisted-unlisted.ensures
    c.side_of.ensures.class c.side_of-2.ensures.class

pub returns-clause-represents : goal.returns-clause-represents
returns-clause-represents c = λ A B b R.
    let a = c.args in
    let u = a.rules.now in
    let v = a.source.now.vertex in
    let l = a.listed.now in
    let low = c.side_of in
    let other = c.side_of-2 in
    let d = c.discover_targets in
    letter_done u A B b R v.left a.step.edge.letter v.counters c.row-targets.result c.row-targets.ensures c.requires.0 c.requires.1
    c.requires.2.bytes low.result.keyed.counters.now other.result.keyed.counters.now
    (low.ensures.counters ∙ c.counters_after-lowered.ensures ∙ ap (stepped_counters u.tops.now 1) c.largest_from-largest.ensures)
    (other.ensures.counters ∙ c.counters_after-others.ensures ∙ ap (stepped_counters u.tops.now 0) c.largest_from-largest.ensures)
    a.step.edge.parent l.work.now l.count c.targets_unlisted-unlisted.result
    (sides_left l (record { accepting = u.accepting; low = low.result; other = other.result }) c.row-targets.result
    c.targets_unlisted-unlisted.result c.row-targets.type_inv c.targets_unlisted-unlisted.ensures low.ensures.class other.ensures.class)
    d.new.self.work.now (answered d.result d.new.self.count) (d.ensures.represents A B b)

pub returns-clause-step : goal.returns-clause-step
returns-clause-step c =
    let a = c.args in
    let low = c.side_of in
    let other = c.side_of-2 in
    kept_both a.rules.now a.listed.now a.kept.now a.source.now.vertex a.step _ _ c.requires.3
    (rw (low.ensures.counters, c.counters_after-lowered.ensures, c.largest_from-largest.ensures) at low.ensures.known)
    (rw (other.ensures.counters, c.counters_after-others.ensures, c.largest_from-largest.ensures) at other.ensures.known)
