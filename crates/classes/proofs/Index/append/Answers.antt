-- `classes::Index::append` meets its contract: the slot is written and joined, which is the index of one slot more. Assumes nothing.
use Rattle.std.proofs.Common.{arith}
use borrow.Author.Rules.{rules}
use Rattle.slots.proofs.SlotLayout.{slot_fits}
use Rattle.classes.proofs.Leaders.{class_le}
use Rattle.classes.proofs.Appended.{classes_append}
use Rattle.classes.proofs.Index.append.Goals as goal

pub join-requires : goal.join-requires
join-requires c =
    let r = c.requires in
    (r.3, omega arith, omega (arith, r.5, class_le c.args.work.now c.args.slot.vertex.counters c.args.n), r.1)

pub returns-clause-classes : goal.returns-clause-classes
returns-clause-classes c =
    let a = c.args in
    let r = c.requires in
    rw (c.write_slot.ensures, c.join.ensures)
    (classes_append a.work.now a.n a.slot.vertex a.slot.edge.letter a.slot.edge.parent (slot_fits a.n _ r.0) (search rules) a.self.now a.class.key a.class.number
    r.4 r.2 r.3 (omega arith) r.5)
