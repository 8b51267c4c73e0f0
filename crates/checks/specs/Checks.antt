-- Checks in order, where the first condition that holds decides (01, "Contain", "Verdict", "Entry, open, offer"; 02, S-1 and S-2).
--   Row            a row of a table, as a condition on answers: of x it says that the row's condition holds and that x is its answer
--   answers x C    the row with the answer x under the condition C
--   answers_by a C  the row with the answer a n for the number n of which C holds; answers_by₂ and answers_by₃ take two and three numbers
--   First rows x   x is the answer of a row whose condition holds, and no earlier row's does
--   None rows      no row's condition holds
--   At k rows x    the row at place k, counted from 0, has the answer x and its condition holds
--   on_read        what follows a file: by the refusal's number, or by the automaton
--   FileHolds f P  the file can be read, and P holds of its automaton
-- Nothing settles these: they are how a table is read. `contain_table`, `open_table`, `offer_table`, `verdict_table`, `write_table` and `hanoi_table` are
-- stated in them. Assumes nothing.
use Rattle.std.specs.Prelude.{◌≡◌, List, [], ◌∷◌, ◌⊎◌, ℕ, zero, suc}
use Rattle.automaton.specs.declared.Automaton.{Automaton}
use Rattle.format.specs.File.{Read, refused, holds, read_file}

abbrev pub Row : Type 0 → Type 1
Row X = X → Type 0

abbrev pub answers : {X : Type 0} → X → Type 0 → Row X
answers {X} x C y = C × (y ≡ x)

abbrev pub answers_by : {X : Type 0} → (ℕ → X) → (ℕ → Type 0) → Row X
answers_by {X} answer C y = (n : ℕ) × C n × (y ≡ answer n)

abbrev pub answers_by₂ : {X : Type 0} → (ℕ → ℕ → X) → (ℕ → ℕ → Type 0) → Row X
answers_by₂ {X} answer C y = (m : ℕ) × (n : ℕ) × C m n × (y ≡ answer m n)

abbrev pub answers_by₃ : {X : Type 0} → (ℕ → ℕ → ℕ → X) → (ℕ → ℕ → ℕ → Type 0) → Row X
answers_by₃ {X} answer C y = (l : ℕ) × (m : ℕ) × (n : ℕ) × C l m n × (y ≡ answer l m n)

abbrev pub First : {X : Type 0} → List (Row X) → X → Type 0
First {X} [] x = ⊥
First {X} (P ∷ rows) x = P x ⊎ (((y : X) → P y → ⊥) × First rows x)

abbrev pub None : {X : Type 0} → List (Row X) → Type 0
None {X} [] = Unit {0}
None {X} (P ∷ rows) = ((y : X) → P y → ⊥) × None rows

abbrev pub At : {X : Type 0} → ℕ → List (Row X) → X → Type 0
At {X} k [] x = ⊥
At {X} zero (P ∷ rows) x = P x
At {X} (suc k) (P ∷ rows) x = At k rows x

abbrev pub on_read : {X : Type 0} → Read → (ℕ → X) → (Automaton → X) → X
on_read (refused n) stop go = stop n
on_read (holds A) stop go = go A

pub record FileHolds (f : List ℕ) (P : Automaton → Type 0) : Type 0 where
  pub automaton : Automaton
  pub read : read_file f ≡ holds automaton
  pub condition : P automaton
