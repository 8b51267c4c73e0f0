-- `entry::offers::offer_entry` meets its contract: what it answers and leaves is the definition's, check by check; past condition 9 the held automaton of a
-- filled entry is in range, and its edition number can be raised; demand 1 is the chapter's theorem. Assumes nothing.
use mathlib.Core.Path.{sym, ◌∙◌}
use native.Mathlib.Omega.{arith}
use Rattle.history.proofs.CallDemands.{offer_demand_1}
use Rattle.history.proofs.EntryChecks.{passed_well_formed}
use Rattle.entry.proofs.offers.offer_entry.Goals as goal

pub vet-requires : goal.vet-requires
vet-requires c =
    (passed_well_formed c.args.entry.now (sym c.malformed.ensures ∙ c.if-malformed.false) c.if-not-entry.false).in_range

pub invariant_of-held : goal.invariant_of-held
invariant_of-held c = record {
  in_range = (passed_well_formed c.args.entry.now (sym c.malformed.ensures ∙ c.if-malformed.false) c.if-not-entry.false).in_range;
}

pub overflow_add-entry : goal.overflow_add-entry
overflow_add-entry c =
    let e = (passed_well_formed c.args.entry.now (sym c.malformed.ensures ∙ c.if-malformed.false) c.if-not-entry.false).edition_in in
    omega arith

pub returns-then-malformed-clause-demand1 : goal.returns-then-malformed-clause-demand1
returns-then-malformed-clause-demand1 c = offer_demand_1 _ _ _ _ _

pub returns-then-not-entry-clause-demand1 : goal.returns-then-not-entry-clause-demand1
returns-then-not-entry-clause-demand1 c = offer_demand_1 _ _ _ _ _

pub returns-in_err-map_err-clause-demand1 : goal.returns-in_err-map_err-clause-demand1
returns-in_err-map_err-clause-demand1 c = offer_demand_1 _ _ _ _ _

pub returns-in_err-bound-clause-demand1 : goal.returns-in_err-bound-clause-demand1
returns-in_err-bound-clause-demand1 c = offer_demand_1 _ _ _ _ _

pub returns-then-is_taken-clause-demand1 : goal.returns-then-is_taken-clause-demand1
returns-then-is_taken-clause-demand1 c = offer_demand_1 _ _ _ _ _

pub returns-else-is_taken-clause-demand1 : goal.returns-else-is_taken-clause-demand1
returns-else-is_taken-clause-demand1 c = offer_demand_1 _ _ _ _ _
