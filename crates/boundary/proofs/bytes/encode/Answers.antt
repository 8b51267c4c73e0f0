-- `boundary::bytes::encode` meets its contract: five stores make the front, and the edition's bytes and the two arrays are copied behind it. Assumes nothing.
use mathlib.Core.Path.{◌∙◌}
use borrow.Author.Rules.{rules}
use Rattle.boundary.specs.Bytes.{Sized}
use Rattle.boundary.proofs.EntryBytes.{entry_encoded}
use Rattle.boundary.proofs.bytes.encode.Goals as goal

pub returns : goal.returns
returns c =
    let a = c.args in
    -- the arrays of the entry that is written have their lengths
    let sized : Sized a.entry.now = record { accepting_long = search (rules, c.well_formed); transitions_long = search (rules, c.well_formed) } in
    entry_encoded a.entry.now a.bytes.now _ _ _ _ sized c.requires.1 c.requires.0 c.from.ensures
    (c.copy_from_slice.ensures.after ∙ c.to_le_bytes.ensures) c.copy_from_slice-2.ensures.after c.copy_from_slice-3.ensures.after
