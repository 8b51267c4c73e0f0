-- `report::listings::listing_line` meets its contract: nothing without the room for any line, else the line of the misuse or of the calls.
-- Assumes nothing.
use Rattle.std.proofs.Common.{◌+◌, ◌*◌, sym, arith}
use borrow.Author.Tests.{lt-leb}
use Rattle.report.specs.Listing.{word_bytes}
use Rattle.report.proofs.Lines.{line_left}
use Rattle.report.proofs.ListingCases.{lined_more}
use Rattle.report.proofs.listings.listing_line.Goals as goal

pub returns-then-line-lt-ROOM : goal.returns-then-line-lt-ROOM
returns-then-line-lt-ROOM c = line_left _ _ (sym (lt-leb (256 + 4 * word_bytes) _ (omega arith)))

pub returns-in-Err : goal.returns-in-Err
returns-in-Err c = rw (sym c.in-Err.ensures) (lined_more (omega arith) c.if-line-lt-ROOM.false c.misuse_line.ensures)
