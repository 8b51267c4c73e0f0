-- `discovery::Listed::discover` meets its contract: the vertex is not listed, and the tests decide among final, slot written and no slot left. Where
-- the counters have a class, the vertex is not final. Assumes nothing.
use mathlib.Core.Path.{◌≡◌, refl, sym, ◌∙◌}
use mathlib.Core.Bool.{false}
use Prim.Native.Nat.{◌<◌}
use lib.ListN.{length}
use Rattle.slots.specs.Slots.{slot_count, all_zero}
use Rattle.discovery.specs.Representation.{vertex_of}
use Rattle.discovery.proofs.FinalVertices.{final_zero, not_final}
use Rattle.discovery.proofs.RepresentedSlots.{discover_final, discover_full, discover_with_slot, ready_with_slot, grows_with_slot, taken_slot}
use Rattle.discovery.proofs.listed.Listed.discover.Goals as goal
use Rattle.discovery.proofs.listed.Listed.discover.Goals.{After-slot_count, Then-place-slot_count}

alive : (c : After-slot_count) → all_zero c.args.side.keyed.counters.now ≡ false
alive c =
    not_final c.args.self.now c.args.side.keyed.counters.now c.class_now-number.result c.class_now-number.ensures (sym c.is_final.ensures ∙ c.if-is_final.false)

free : (c : Then-place-slot_count) → c.args.self.now.count < slot_count (length c.args.self.now.work.now)
free c = rw c.slot_count.ensures at c.if-place-slot_count.true

pub returns-then-is_final-clause-represents : goal.returns-then-is_final-clause-represents
returns-then-is_final-clause-represents c =
    let a = c.args in
    let l = a.self.now in λ A B b start ns S.
    discover_final A B b l.work.now l.count start ns S a.edge.parent a.edge.letter (vertex_of a.left a.side.keyed.counters.now) c.requires.1.unlisted
    (final_zero a.side.keyed.counters.now c.class_now-number.result (sym c.is_final.ensures ∙ c.if-is_final.true))

pub invariant_of-self : goal.invariant_of-self
invariant_of-self c =
    let a = c.args in
    let l = a.self.now in
    let g = goal.at.invariant_of-self c in
    let w = c.append.ensures in record {
      ready = rw w.bytes
          (ready_with_slot l.work.now l.count (vertex_of a.left a.side.keyed.counters.now) a.edge.letter a.edge.parent (free g.Then-place-slot_count)
          a.side.keyed.keyed.long l.index.now _ l.ready c.requires.0 (alive g.After-slot_count) (rw w.bytes at w.classes));
    }

pub returns-then-place-slot_count-clause-represents : goal.returns-then-place-slot_count-clause-represents
returns-then-place-slot_count-clause-represents c =
    let a = c.args in
    let l = a.self.now in
    let g = goal.at.returns-then-place-slot_count-clause-represents c in λ A B b start ns S.
    rw c.append.ensures.bytes
    (discover_with_slot A B b l.work.now l.count start ns S a.edge.parent a.edge.letter (vertex_of a.left a.side.keyed.counters.now) c.requires.1.unlisted
    (alive g.After-slot_count) (free g.Then-place-slot_count) a.side.keyed.keyed.long)

pub returns-then-place-slot_count-clause-grows : goal.returns-then-place-slot_count-clause-grows
returns-then-place-slot_count-clause-grows c =
    let a = c.args in
    let l = a.self.now in
    let g = goal.at.returns-then-place-slot_count-clause-grows c in record {
      same_buffer = refl;
      same_length = c.append.auto.work;
      same_index = refl;
      grows = rw c.append.ensures.bytes
          (grows_with_slot l.work.now l.count (vertex_of a.left a.side.keyed.counters.now) a.edge.letter a.edge.parent (free g.Then-place-slot_count)
          a.side.keyed.keyed.long);
    }

pub returns-then-place-slot_count-clause-takes : goal.returns-then-place-slot_count-clause-takes
returns-then-place-slot_count-clause-takes c =
    let a = c.args in
    let l = a.self.now in
    let g = goal.at.returns-then-place-slot_count-clause-takes c in (
      refl,
      rw c.append.ensures.bytes
          (taken_slot l.work.now l.count (vertex_of a.left a.side.keyed.counters.now) a.edge.letter a.edge.parent (free g.Then-place-slot_count)
          a.side.keyed.keyed.long),
    )

pub returns-clause-represents : goal.returns-clause-represents
returns-clause-represents c =
    let a = c.args in
    let l = a.self.now in
    let none = rw c.slot_count.ensures at c.if-place-slot_count.false in λ A B b start ns S.
    discover_full A B b l.work.now l.count start ns S a.edge.parent a.edge.letter (vertex_of a.left a.side.keyed.counters.now) c.requires.1.unlisted
    (alive (goal.at.returns-clause-represents c).After-slot_count) none
