-- `walk::walk_from` meets its contract: the initial vertex takes slot 0 and leads its class, and then every place is expanded. Assumes nothing.
use mathlib.Core.Path.{◌≡◌, sym, subst}
use mathlib.Core.List.{List}
use Prim.Native.Nat.{ℕ, ◌<◌}
use native.Mathlib.Omega.{arith}
use Rattle.std.proofs.Common.{rules, Result}
use Rattle.std.proofs.lemmas.Result.{err_from_is_err_and}
use Rattle.automaton.specs.Automata.{max_states}
use Rattle.slots.specs.declared.Vertex.{Vertex}
use Rattle.classes.proofs.Leaders.{class_absent}
use Rattle.classes.proofs.Appended.{classes_begin}
use Rattle.graph.specs.Discovery.{Walk}
use Rattle.discovery.specs.declared.Stop.{Stop}
use Rattle.discovery.specs.Lists.{answered}
use Rattle.discovery.specs.Representation.{Represents}
use Rattle.walk.proofs.FirstVertices.{initial_small, ready_initial, first_slot}
use Rattle.walk.proofs.walk_from.Goals as goal

-- the buffer that is lent has the bytes of the list's
same_bytes : (work work' : List ℕ) (r : Result ℕ Stop) (start : List ℕ) (w : Walk Vertex) → work' ≡ work → Represents work r start w
    → Represents work' r start w
same_bytes work work' r start w e S = subst (λ (x : List ℕ). Represents x r start w) (sym e) S

pub append-requires : goal.append-requires
append-requires c =
    let a = c.args in
    let u = a.pair.now in
    let k = c.key_of.ensures in (
      c.requires.2,
      subst (λ (v : Vertex). v.left < max_states) (sym c.requires.0) (initial_small u.rules.left.now u.rules.right.now u.bound.value u.rules_of.in_range),
      k.0,
      k.1,
      rw c.empty-index.ensures (classes_begin a.work.now),
      sym (class_absent a.work.now a.first.counters 0 (λ r l. absurd (omega arith))),
    )

pub invariant_of-listed : goal.invariant_of-listed
invariant_of-listed c =
    let a = c.args in
    let u = a.pair.now in record {
      ready = ready_initial u.rules.left.now u.rules.right.now u.bound.value a.first c.requires.0 a.work.now c.requires.1 c.requires.2 c.append.new.work
          c.append.ensures.bytes c.append.new.self u.rules_of.in_range c.append.ensures.classes;
    }

pub returns-in_err-expand_all : goal.returns-in_err-expand_all
returns-in_err-expand_all c =
    let a = c.args in
    let u = a.pair.now in
    let v = c.expand_all in
    let p = err_from_is_err_and c.from_residual.result c.from_residual.ensures.1 in
    rw (p.1, p.2)
    (same_bytes v.new.listed.work.now _ _ _ _ (search rules)
    (rw c.in_err-expand_all.was at
    (first_slot u.rules.left.now u.rules.right.now u.bound.value a.first c.requires.0 a.work.now c.requires.1 c.requires.2 c.append.new.work
    c.append.ensures.bytes v.new.listed.work.now (answered v.result v.new.listed.count) v.ensures.represents)))

pub returns : goal.returns
returns c =
    let a = c.args in
    let u = a.pair.now in
    let v = c.expand_all in
    same_bytes v.new.listed.work.now _ _ _ _ (search rules)
    (rw c.in_ok-expand_all.was at
    (first_slot u.rules.left.now u.rules.right.now u.bound.value a.first c.requires.0 a.work.now c.requires.1 c.requires.2 c.append.new.work
    c.append.ensures.bytes v.new.listed.work.now (answered v.result v.new.listed.count) v.ensures.represents))
