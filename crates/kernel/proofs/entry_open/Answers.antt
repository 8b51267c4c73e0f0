-- `kernel::entry_open` meets its contract: bytes of no entry are refused and stay; of an entry's bytes open decides, and the entry that "opened" leaves fits
-- its bytes. Demand 1 is the chapter's theorem. Assumes nothing.
use mathlib.Core.Path.{sym, ◌∙◌}
use Rattle.kernel.proofs.EntryCallLaws.{entry_long, opened_result_fits}
use Rattle.kernel.proofs.BytesDemand1.{entry_open_demand_1}
use Rattle.kernel.proofs.entry_open.Goals as goal

pub returns-then-not-is_entry-clause-demand1 : goal.returns-then-not-is_entry-clause-demand1
returns-then-not-is_entry-clause-demand1 c = entry_open_demand_1 _ _

pub encode-requires : goal.encode-requires
encode-requires c =
    let o = c.open_entry-opened.ensures in (
      entry_long _ (sym c.is_entry.ensures ∙ c.if-not-is_entry.false),
      opened_result_fits _ _ _ _ o.answer o.entry (sym c.is_ok.ensures.value ∙ c.if-is_ok.true),
    )
