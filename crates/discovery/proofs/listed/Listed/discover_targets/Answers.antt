-- `discovery::Listed::discover_targets` meets its contract. Before each target those that are left, discovered from the list that the work buffer
-- shows, make the walk of all of them, and none of them is listed. Assumes nothing.
use mathlib.Core.Path.{refl, ◌∙◌, ap}
use Rattle.std.proofs.lemmas.Result.{err_from_is_err_and}
use Rattle.discovery.specs.Lists.{answered}
use Rattle.discovery.proofs.LeftTargets.{grown_none, grown_on, targets_ready, targets_kept, targets_end, targets_stop, targets_next}
use Rattle.discovery.proofs.listed.Listed.discover_targets.Goals as goal

pub loop-t-init : goal.loop-t-init
loop-t-init c =
    let l = c.args.self.now in
    let e = c.into_iter-t-iterator.ensures.into_iter_gives ∙ c.states_of-t-items.ensures.states in record {
      grown = grown_none l;
      targets = rw e (targets_ready l.count c.args.sides l.work.now c.args.targets c.requires);
      to_go = λ A B b start ns S. (ns, S, rw e refl);
    }

pub returns-in_err-discover_target-clause-represents : goal.returns-in_err-discover_target-clause-represents
returns-in_err-discover_target-clause-represents c =
    let a = c.args in
    let l = c.loop-t in
    let d = c.discover_target in
    let p = err_from_is_err_and c.from_residual.result c.from_residual.ensures.1 in
    rw (p.1, p.2)
    (targets_stop a.edge.letter a.sides a.edge.parent a.self.now.work.now a.self.now.count a.targets l.self.work.now l.self.count l.t-iterator
    l.invariant.to_go c.in-Some.t c.next.new.self c.in-Some.ensures.steps d.new.self.work.now (answered d.result d.new.self.count)
    d.ensures.represents _ (ap (λ r. answered r d.new.self.count) c.in_err-discover_target.was))

pub loop-t-preserved : goal.loop-t-preserved
loop-t-preserved c =
    let a = c.args in
    let l = c.loop-t in
    let i = l.invariant in
    let d = c.discover_target in
    let k = c.in_ok-discover_target.ensures in record {
      grown = grown_on a.self.now l.self d.new.self i.grown d.ensures.grows;
      targets = targets_kept a.self.now.count a.sides l.self.work.now l.self.count c.in-Some.t c.next.new.self d.new.self.count d.new.self.work.now
          (rw c.in-Some.ensures.steps at i.targets) i.grown.grows.no_fewer d.ensures.grows.grows k.takes;
      to_go = targets_next a.edge.letter a.sides a.edge.parent a.self.now.work.now a.self.now.count a.targets l.self.work.now l.self.count
          l.t-iterator i.to_go c.in-Some.t c.next.new.self c.in-Some.ensures.steps d.new.self.work.now (answered d.result d.new.self.count)
          d.ensures.represents _ (ap (λ r. answered r d.new.self.count) c.in_ok-discover_target.was);
    }

pub returns-clause-represents : goal.returns-clause-represents
returns-clause-represents c =
    let a = c.args in
    let l = c.loop-t in
    targets_end a.edge.letter a.sides a.edge.parent a.self.now.work.now a.self.now.count a.targets l.self.work.now l.self.count l.t-iterator
    l.invariant.to_go c.in-None.ensures.steps.0
