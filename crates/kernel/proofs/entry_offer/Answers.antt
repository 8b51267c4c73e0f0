-- `kernel::entry_offer` meets its contract: bytes of no entry are refused and stay; of an entry's bytes offer decides, and the entry that "taken" leaves fits
-- its bytes. Demand 1 is the chapter's theorem. Assumes nothing.
use mathlib.Core.Path.{sym, ◌∙◌}
use Rattle.kernel.proofs.EntryCallLaws.{entry_long, taken_result_fits}
use Rattle.kernel.proofs.BytesDemand1.{entry_offer_demand_1}
use Rattle.kernel.proofs.entry_offer.Goals as goal

pub returns-then-not-is_entry-clause-demand1 : goal.returns-then-not-is_entry-clause-demand1
returns-then-not-is_entry-clause-demand1 c = entry_offer_demand_1 _ _ _ _ _

pub encode-requires : goal.encode-requires
encode-requires c =
    let o = c.offer_entry-offered.ensures in (
      entry_long _ (sym c.is_entry.ensures ∙ c.if-not-is_entry.false),
      taken_result_fits _ _ _ _ _ _ _ o.answer o.entry (sym c.is_taken.ensures ∙ c.if-is_taken.true),
    )

pub returns-clause-demand1 : goal.returns-clause-demand1
returns-clause-demand1 c = entry_offer_demand_1 _ _ _ _ _
