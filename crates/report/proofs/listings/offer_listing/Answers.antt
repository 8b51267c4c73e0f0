-- `report::listings::offer_listing` meets its contract: the line of the offer's answer, with the part of the word buffer that the offer hands
-- back. Assumes nothing.
use Rattle.std.proofs.Common.{ap, ◌∙◌, length, arith}
use Rattle.std.proofs.lemmas.List.{length-take}
use Rattle.report.proofs.ListingCases.{lined_more, listing_offered}
use Rattle.report.proofs.listings.offer_listing.Goals as goal

pub returns : goal.returns
returns c =
    let x = c.offer_entry-answer in
    let part = c.offer_part-part.ensures.part in
    let short = ap length part ∙ length-take _ x.new.word in
    rw (listing_offered _ _ _ x.ensures.answer x.ensures.entry x.ensures.word part)
    (lined_more (omega (arith, short)) c.requires c.offer_line.ensures)
