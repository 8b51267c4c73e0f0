-- `boundary::bytes::decode` meets its contract: each field is read from its bytes. Assumes nothing.
use Rattle.boundary.proofs.EntryBytes.{entry_read}
use Rattle.boundary.proofs.bytes.decode.Goals as goal

pub returns : goal.returns
returns c =
    let edition = rw c.unwrap.ensures at c.try_into.ensures in
    let accepting = rw c.unwrap-2.ensures at c.try_into-2.ensures in
    let transitions = rw c.unwrap-3.ensures at c.try_into-3.ensures in
    entry_read c.args.bytes.now c.requires _ _ _ _ c.from_le_bytes.ensures edition.1.same accepting.1.same transitions.1.same
