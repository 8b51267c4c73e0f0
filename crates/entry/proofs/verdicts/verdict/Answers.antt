-- `entry::verdicts::verdict` meets its contract: its answer is the definition's, check by check; past condition 9 the held automaton of a filled entry is
-- in range; demand 1 is the chapter's theorem. Assumes nothing.
use mathlib.Core.Path.{sym, ◌∙◌}
use Rattle.history.proofs.CallDemands.{verdict_demand_1}
use Rattle.history.proofs.EntryChecks.{passed_well_formed}
use Rattle.entry.proofs.verdicts.verdict.Goals as goal

pub invariant_of-held : goal.invariant_of-held
invariant_of-held c = record {
  in_range = (passed_well_formed c.args.entry.now (sym c.malformed.ensures ∙ c.if-malformed.false) c.if-not-entry.false).in_range;
}

pub returns-then-malformed-clause-demand1 : goal.returns-then-malformed-clause-demand1
returns-then-malformed-clause-demand1 c = verdict_demand_1 _ _ _

pub returns-then-not-entry-clause-demand1 : goal.returns-then-not-entry-clause-demand1
returns-then-not-entry-clause-demand1 c = verdict_demand_1 _ _ _

pub returns-then-bad_lasso-clause-demand1 : goal.returns-then-bad_lasso-clause-demand1
returns-then-bad_lasso-clause-demand1 c = verdict_demand_1 _ _ _

pub returns-clause-demand1 : goal.returns-clause-demand1
returns-clause-demand1 c = verdict_demand_1 _ _ _
