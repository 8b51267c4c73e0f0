-- Demand 1 of verdict (01, the table of refusals and "Verdict"): what it answers, and the refusals that can occur. It changes nothing.
-- Shown by `verdict_demand_1`. Assumes nothing.
use Rattle.std.specs.Prelude.{◌≡◌, List, ◌↔◌, ℕ}
use Rattle.checks.specs.Checks.{First}
use Rattle.history.specs.declared.Entry.{Entry}
use Rattle.history.specs.VerdictAnswers.{VerdictAnswer}
use Rattle.history.specs.VerdictAnswers.{Yes, No, Refused}
use Rattle.history.specs.Verdicts.{verdict_of}
use Rattle.history.specs.Tables.{verdict_rows}

pub data VerdictRefusal : ℕ → Type 0 where
  malformed_entry : VerdictRefusal 9
  empty_entry : VerdictRefusal 13
  lasso_is_bad : VerdictRefusal 15

-- the answer can occur
abbrev pub VerdictListed : VerdictAnswer → Type 0
VerdictListed Yes = Unit {0}
VerdictListed No = Unit {0}
VerdictListed (Refused n) = VerdictRefusal n

pub record VerdictDemand1 (E : Entry) (u v : List ℕ) : Type 0 where
  -- the first row of the table whose condition holds gives the answer
  pub table : (x : VerdictAnswer) → (verdict_of E u v ≡ x) ↔ First (verdict_rows E u v) x
  pub occurs : VerdictListed (verdict_of E u v)
