-- Demand 1 of the call that takes a Hanoi text (02, S-2): what it answers, the numbers that can occur, and every byte of the output buffer after each
-- answer; how the text is read; and what the file that was written says.
--   HanoiListed room x   no other answer x occurs with a buffer of so many bytes
--   AfterHanoi x out'    the buffer out' after the answer x
--   TextReads s          the computed reader and the computed automaton are those of the grammar, the faults and the meaning
--   HanoiDemand1 s out   demand 1
--   HanoiBack s          what was written is the fixed form of the text's automaton, and reading it gives that automaton
-- Shown by `hanoi_demand_1` and `hanoi_read_back`. Assumes nothing.
use Rattle.std.specs.Prelude.{◌≡◌, false, List, ◌++◌, ◌↔◌, ◌⊎◌, ℕ, ◌≤◌, ◌<◌, length, take, drop}
use Rattle.automaton.specs.declared.Automaton.{Automaton}
use Rattle.automaton.specs.Automata.{accepts, transition}
use Rattle.format.specs.File.{holds, read_file}
use Rattle.checks.specs.Checks.{First}
use Rattle.fixed_form.specs.WriteAnswers.{WriteAnswer}
use Rattle.fixed_form.specs.WriteAnswers.{Wrote, Refused, NoRoom}
use Rattle.fixed_form.specs.FixedForm.{FixedForm, written}
use Rattle.fixed_form.specs.WriteDemand.{shortest_file, longest_file}
use Rattle.hanoi.specs.Descriptions.{Description}
use Rattle.hanoi.specs.Reading.{refused, describes, read_hanoi}
use Rattle.hanoi.specs.Grammar.{Declares, IsFile}
use Rattle.hanoi.specs.Faults.{Fault}
use Rattle.hanoi.specs.Meaning.{IsDescribed, automaton_of}
use Rattle.hanoi.specs.Hanoi.{hanoi_of}
use Rattle.hanoi.specs.HanoiTable.{TextHolds, hanoi_rows}

abbrev pub HanoiListed : ℕ → WriteAnswer → Type 0
HanoiListed room (Refused n) = (n ≡ 3) ⊎ (n ≡ 4) ⊎ (n ≡ 17) ⊎ (n ≡ 18)
HanoiListed room (NoRoom len) = (shortest_file ≤ len) × (len ≤ longest_file) × (room < len)
HanoiListed room (Wrote len) = (shortest_file ≤ len) × (len ≤ longest_file) × (len ≤ room)

pub record TextReads (s : List ℕ) : Type 0 where
  -- the text describes D exactly when it is a file of the grammar that says D
  pub grammar : (D : Description) → (read_hanoi s ≡ describes D) ↔ IsFile s D
  -- it is refused with n exactly when its first fault is n
  pub faults : (n : ℕ) → (read_hanoi s ≡ refused n) ↔ Fault s n
  -- the automaton that is computed is the one that D describes, transition by transition, and there is no other
  pub automaton : (D : Description) → IsFile s D → IsDescribed D (automaton_of D)
  pub only : (D : Description) (A : Automaton) → IsFile s D → IsDescribed D A → A ≡ automaton_of D
  -- a state that is not declared neither accepts nor has transitions
  pub undeclared : (D : Description) (A : Automaton) (q : ℕ) → IsFile s D → IsDescribed D A → (Declares q D.parts → ⊥)
      → (accepts A q ≡ false) × ((a r : ℕ) → transition A q a r ≡ false)

module _ (s out : List ℕ) where
  abbrev pub AfterHanoi : WriteAnswer → List ℕ → Type 0
  AfterHanoi (Refused n) out' = out' ≡ out
  AfterHanoi (NoRoom len) out' = out' ≡ out
  AfterHanoi (Wrote len) out' = TextHolds s (λ A. (len ≡ length (written A)) × (out' ≡ written A ++ drop len out))

  pub record HanoiDemand1 : Type 0 where
    -- the first row of the table whose condition holds gives the answer
    pub table : (x : WriteAnswer) → ((hanoi_of s out).answer ≡ x) ↔ First (hanoi_rows s out) x
    pub reads : TextReads s
    pub occurs : HanoiListed (length out) (hanoi_of s out).answer
    pub leaves : AfterHanoi (hanoi_of s out).answer (hanoi_of s out).out

pub record HanoiBack (s : List ℕ) : Type 0 where
  -- what was written spells the text's automaton, with ascending records
  pub fixed : (out : List ℕ) (len : ℕ) → (hanoi_of s out).answer ≡ Wrote len → TextHolds s (λ A. FixedForm (take len (hanoi_of s out).out) A)
  -- so the file reader gives that automaton
  pub reads : (out : List ℕ) (len : ℕ) → (hanoi_of s out).answer ≡ Wrote len → TextHolds s (λ A. read_file (take len (hanoi_of s out).out) ≡ holds A)
