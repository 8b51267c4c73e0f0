-- Open (01, "Entry, open, offer"): the checks 9, 12, 1-5, 6 in this order, and edition 0.
--   Vetted         what the checks of open or offer give: a refusal's number, or the file's automaton
--   first_edition  the entry of an opened automaton
--   Open           what open gives: its answer, and the entry afterwards
--   open_of        the whole call
-- Shown by `open_demand_1`. Assumes nothing.
use Rattle.std.specs.Prelude.{true, cond, List, ℕ}
use Rattle.automaton.specs.declared.Automaton.{Automaton}
use Rattle.format.specs.File.{read_file}
use Rattle.deadstates.specs.DeadEnds.{has_dead}
use Rattle.checks.specs.Checks.{on_read}
use Rattle.history.specs.declared.Entry.{Entry}
use Rattle.history.specs.OpenAnswers.{OpenAnswer}
use Rattle.history.specs.OpenAnswers.{Opened, Refused}
use Rattle.history.specs.Entries.{malformed}

pub data Vetted : Type 0 where
  stopped : ℕ → Vetted
  passed : Automaton → Vetted

-- a refusal where its condition holds, else what follows
unfoldable pub open_checks : Entry → List ℕ → Vetted
open_checks E f =
    cond (malformed E) (stopped 9)
    (cond E.filled (stopped 12)
    (on_read (read_file f) stopped (λ A. cond (has_dead A) (stopped 6) (passed A))))

abbrev pub first_edition : Automaton → Entry
first_edition A = record { filled = true; edition = 0; first = A.states; held = A }

pub record Open : Type 0 where
  pub answer : OpenAnswer
  pub entry : Entry

abbrev pub opened : Entry → Vetted → Open
opened E (stopped n) = record { answer = Refused n; entry = E }
opened E (passed A) = record { answer = Opened; entry = first_edition A }

unfoldable pub open_of : Entry → List ℕ → Open
open_of E f = opened E (open_checks E f)
