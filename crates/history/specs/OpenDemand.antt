-- Demand 1 of open (01, the table of refusals and "Entry, open, offer"): what it answers, the refusals that can occur, and the entry after
-- each answer. Shown by `open_demand_1`. Assumes nothing.
use Rattle.std.specs.Prelude.{◌≡◌, List, ◌↔◌, ℕ, ◌≤◌}
use Rattle.format.specs.Refusals.{ReadsAs}
use Rattle.checks.specs.Checks.{First, FileHolds}
use Rattle.history.specs.declared.Entry.{Entry}
use Rattle.history.specs.OpenAnswers.{OpenAnswer}
use Rattle.history.specs.OpenAnswers.{Opened, Refused}
use Rattle.history.specs.Opens.{open_of, first_edition}
use Rattle.history.specs.Tables.{open_rows}

pub data OpenRefusal : ℕ → Type 0 where
  malformed_entry : OpenRefusal 9
  already_open : OpenRefusal 12
  bad_file : {n : ℕ} → 1 ≤ n → n ≤ 5 → OpenRefusal n
  dead_state : OpenRefusal 6

-- the answer can occur
abbrev pub OpenListed : OpenAnswer → Type 0
OpenListed Opened = Unit {0}
OpenListed (Refused n) = OpenRefusal n

module _ (E : Entry) (f : List ℕ) where
  -- the entry after an answer
  abbrev pub AfterOpen : OpenAnswer → Entry → Type 0
  AfterOpen Opened E' = FileHolds f (λ A. E' ≡ first_edition A)
  AfterOpen (Refused n) E' = E' ≡ E

  pub record OpenDemand1 : Type 0 where
    -- the first row of the table whose condition holds gives the answer
    pub table : (x : OpenAnswer) → ((open_of E f).answer ≡ x) ↔ First (open_rows E f) x
    -- its rows 1-5 in the table's terms, and the automaton of a file that is read
    pub reads : ReadsAs f
    pub occurs : OpenListed (open_of E f).answer
    pub leaves : AfterOpen (open_of E f).answer (open_of E f).entry
