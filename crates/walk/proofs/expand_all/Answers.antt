-- `walk::expand_all` meets its contract. Before each place those still to come, expanded from the list that the work buffer represents, make the walk,
-- and the steps that are kept are those of the slots so far; places are listed ones, so there are no more of them than slots. Assumes nothing.
use mathlib.Core.Path.{ap}
use Rattle.std.proofs.lemmas.Result.{err_from_is_err_and}
use Rattle.discovery.specs.Lists.{answered}
use Rattle.discovery.proofs.LeftTargets.{grown_on}
use Rattle.walk.proofs.ExpandLoops.{expand_all_next, expand_all_stop, expand_all_end}
use Rattle.walk.proofs.expand_all.Goals as goal

pub returns-in_err-expand-clause-represents : goal.returns-in_err-expand-clause-represents
returns-in_err-expand-clause-represents c =
    let a = c.args in
    let u = a.pair.now in
    let l = c.loop-p in
    let v = c.expand in
    let p = err_from_is_err_and c.from_residual.result c.from_residual.ensures.1 in
    rw (p.1, p.2)
    (expand_all_stop u.rules.left.now u.rules.right.now u.bound.value a.listed.now.work.now a.listed.now.count l.listed.work.now l.listed.count l.p
    l.invariant.to_go c.loop-p-test.true v.new.listed.work.now (answered v.result v.new.listed.count) v.ensures.represents _
    (ap (λ r. answered r v.new.listed.count) c.in_err-expand.was))

pub loop-p-preserved : goal.loop-p-preserved
loop-p-preserved c =
    let a = c.args in
    let u = a.pair.now in
    let l = c.loop-p in
    let v = c.expand in record {
      grown = grown_on a.listed.now l.listed v.new.listed l.invariant.grown v.ensures.grows;
      lines = v.ensures.lines;
      to_go = expand_all_next u.rules.left.now u.rules.right.now u.bound.value a.listed.now.work.now a.listed.now.count l.listed.work.now l.listed.count
          l.p l.invariant.to_go c.loop-p-test.true v.new.listed.work.now (answered v.result v.new.listed.count) v.ensures.represents _
          (ap (λ r. answered r v.new.listed.count) c.in_ok-expand.was);
    }

pub returns-clause-represents : goal.returns-clause-represents
returns-clause-represents c =
    let a = c.args in
    let u = a.pair.now in
    let l = c.loop-p in
    expand_all_end u.rules.left.now u.rules.right.now u.bound.value a.listed.now.work.now a.listed.now.count l.listed.work.now l.listed.count l.p
    l.invariant.to_go c.loop-p-test.false
