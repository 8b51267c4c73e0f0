-- What the call that takes a Hanoi text answers under which condition, in the order of the checks (02, S-2). The rows speak of the grammar, of the first
-- fault and of the automaton that is described, and of no reader.
--   TextHolds s P     the text s is a file of the grammar, and P holds of its automaton
--   hanoi_rows s out  the rows: the text's first fault, 3, 4, 17 or 18; 16; then the length written
-- Shown by `hanoi_table`. Assumes nothing.
use Rattle.std.specs.Prelude.{◌≡◌, List, [], ◌∷◌, ℕ, ◌<◌, length}
use Rattle.automaton.specs.declared.Automaton.{Automaton}
use Rattle.checks.specs.Checks.{Row, answers_by}
use Rattle.fixed_form.specs.WriteAnswers.{WriteAnswer}
use Rattle.fixed_form.specs.WriteAnswers.{Wrote, Refused, NoRoom}
use Rattle.fixed_form.specs.FixedForm.{written}
use Rattle.hanoi.specs.Descriptions.{Description}
use Rattle.hanoi.specs.Grammar.{IsFile}
use Rattle.hanoi.specs.Faults.{Fault}
use Rattle.hanoi.specs.Meaning.{IsDescribed}

pub record TextHolds (s : List ℕ) (P : Automaton → Type 0) : Type 0 where
  pub description : Description
  pub says : IsFile s description
  pub automaton : Automaton
  pub described : IsDescribed description automaton
  pub condition : P automaton

abbrev pub hanoi_rows : List ℕ → List ℕ → List (Row WriteAnswer)
hanoi_rows s out =
    answers_by Refused (Fault s)
    ∷ answers_by NoRoom (λ len. TextHolds s (λ A. (len ≡ length (written A)) × (length out < len)))
    ∷ answers_by Wrote (λ len. TextHolds s (λ A. len ≡ length (written A)))
    ∷ []
