-- `walk::expand` meets its contract. Before each letter the successors on the letters still to come, from the list that the work buffer
-- represents, make all of them; and the line of the place's class has the steps of its counters. Assumes nothing.
use mathlib.Core.Path.{sym, ap, subst}
use mathlib.Core.List.{List}
use Prim.Native.Nat.{ℕ, ◌<◌}
use native.Mathlib.Omega.{arith}
use Rattle.std.proofs.lemmas.Result.{err_from_is_err_and}
use Rattle.automaton.specs.Automata.{max_states}
use Rattle.slots.specs.declared.Vertex.{Vertex}
use Rattle.discovery.specs.Lists.{answered}
use Rattle.discovery.proofs.LeftTargets.{grown_none, grown_on}
use Rattle.walk.proofs.ExpandLoops.{letters_start, letters_next, letters_stop, letters_end}
use Rattle.walk.proofs.KeptLoops.{Owns, class_small, line_begins, line_step, place_fits, line_kept}
use Rattle.walk.proofs.expand.Goals as goal

pub line_of-line-requires : goal.line_of-line-requires
line_of-line-requires c =
    let few = class_small c.args.listed.now c.args.p c.requires.0 c.class_at.result c.class_at.ensures in
    omega arith

pub loop-letter-init : goal.loop-letter-init
loop-letter-init c =
    let a = c.args in
    let u = a.pair.now in
    let l = a.listed.now in
    let o = c.line_of-line in
    let v = c.vertex-vertex in
    let b = line_begins l a.p c.requires.0 c.class_at.result c.class_at.ensures u.rules o.result a.kept.now o.new.self c.requires.1 o.ensures.place
    o.ensures.owners o.ensures.kept in record {
      grown = grown_none l;
      lines = b.0;
      owns = subst (λ (f : List ℕ). Owns l o.result f o.new.self.owners) (sym (ap (λ (x : Vertex). x.counters) v.ensures)) b.1;
      to_go = letters_start u.rules.left.now u.rules.right.now u.bound.value v.result a.p l.work.now l.count v.ensures c.requires.0;
    }

pub expand_letter-requires : goal.expand_letter-requires
expand_letter-requires c =
    let u = c.args.pair.now in
    let l = c.loop-letter in
    let i = l.invariant in
    let few : l.letter < 16 = omega (arith, c.loop-letter-test.true, u.rules.few_letters) in (
      subst (λ (x : Vertex). x.left < max_states) (sym c.vertex-vertex.ensures) (c.args.listed.now.ready.lefts c.args.p c.requires.0),
      c.loop-letter-test.true,
      c.present_of-present.ensures.listed,
      place_fits u.rules l.listed _ _ l.kept i.lines i.owns l.letter few,
      line_step u.rules l.listed _ _ l.kept i.lines i.owns l.letter few,
    )

pub returns-in_err-expand_letter-clause-represents : goal.returns-in_err-expand_letter-clause-represents
returns-in_err-expand_letter-clause-represents c =
    let a = c.args in
    let u = a.pair.now in
    let v = c.expand_letter in
    let l = c.loop-letter in
    let p = err_from_is_err_and c.from_residual.result c.from_residual.ensures.1 in
    rw (p.1, p.2)
    (letters_stop u.rules.left.now u.rules.right.now u.bound.value c.vertex-vertex.result a.p a.listed.now.work.now a.listed.now.count l.listed.work.now
    l.listed.count l.letter l.invariant.to_go c.loop-letter-test.true v.new.listed.work.now (answered v.result v.new.listed.count)
    (v.ensures.represents u.rules.left.now u.rules.right.now u.bound.value u.rules_of) _
    (ap (λ r. answered r v.new.listed.count) c.in_err-expand_letter.was))

pub returns-in_err-expand_letter-clause-lines : goal.returns-in_err-expand_letter-clause-lines
returns-in_err-expand_letter-clause-lines c =
    let u = c.args.pair.now in
    let v = c.expand_letter in
    let l = c.loop-letter in
    let i = l.invariant in
    let few : l.letter < 16 = omega (arith, c.loop-letter-test.true, u.rules.few_letters) in
    (line_kept u.rules l.listed c.line_of-line.result c.vertex-vertex.result.counters l.kept i.lines i.owns l.letter few v.new.kept v.auto.kept
    v.ensures.step v.ensures.others v.new.listed v.ensures.grows.grows).0

pub loop-letter-preserved : goal.loop-letter-preserved
loop-letter-preserved c =
    let a = c.args in
    let u = a.pair.now in
    let v = c.expand_letter in
    let l = c.loop-letter in
    let i = l.invariant in
    let few : l.letter < 16 = omega (arith, c.loop-letter-test.true, u.rules.few_letters) in
    let K = line_kept u.rules l.listed c.line_of-line.result c.vertex-vertex.result.counters l.kept i.lines i.owns l.letter few v.new.kept v.auto.kept
    v.ensures.step v.ensures.others v.new.listed v.ensures.grows.grows in record {
      grown = grown_on a.listed.now l.listed v.new.listed i.grown v.ensures.grows;
      lines = K.0;
      owns = K.1;
      to_go = letters_next u.rules.left.now u.rules.right.now u.bound.value c.vertex-vertex.result a.p a.listed.now.work.now a.listed.now.count
          l.listed.work.now l.listed.count l.letter i.to_go c.loop-letter-test.true v.new.listed.work.now (answered v.result v.new.listed.count)
          (v.ensures.represents u.rules.left.now u.rules.right.now u.bound.value u.rules_of) _
          (ap (λ r. answered r v.new.listed.count) c.in_ok-expand_letter.was);
    }

pub returns-clause-represents : goal.returns-clause-represents
returns-clause-represents c =
    let a = c.args in
    let u = a.pair.now in
    let l = c.loop-letter in
    letters_end u.rules.left.now u.rules.right.now u.bound.value c.vertex-vertex.result a.p a.listed.now.work.now a.listed.now.count l.listed.work.now
    l.listed.count l.letter l.invariant.to_go c.loop-letter-test.false
