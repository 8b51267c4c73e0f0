-- `report::listings::open_listing` meets its contract: the refusal's line where the first file is not opened. Assumes nothing.
use Rattle.std.proofs.Common.{sym, arith}
use Rattle.report.proofs.ListingCases.{lined_more}
use Rattle.report.proofs.listings.open_listing.Goals as goal

pub returns-in-Err : goal.returns-in-Err
returns-in-Err c =
    rw (sym c.fresh-entry.ensures)
    (rw (sym c.in-Err.ensures.answer) (lined_more (omega arith) c.requires c.refused_line.ensures))
