-- What contain answers under which condition, in the order of the checks (01, "Contain" and the table of refusals).
--   Both f g P         both files can be read, and P holds of their automata
--   Final, Whole       the discovery list fits S slots and ends with a final vertex, or has none, and P holds of it
--   HasDead, TooLong, FinalAt, NoneFinal   conditions that rows name, of an automaton and of the discovery list of two
--   refuses n file C   the row of refusal n, with its file, under the condition C
--   contain_rows       the rows: 1-5 of the first file, 1-5 of the second, 8, 7, 6 of the first, 6 of the second, 10, 11; then the outcomes
--   contain_place x    the place of the row of x, counted from 0
-- Shown by `contain_table` and `contain_answer`. Assumes nothing.
use Rattle.std.specs.Prelude.{◌≡◌, cond, ◌≢◌, List, [], ◌∷◌, ℕ, ◌<◌, eqb, leb, length}
use Rattle.automaton.specs.declared.Automaton.{Automaton}
use Rattle.runs.specs.DeadStates.{Dead}
use Rattle.format.specs.File.{holds, read_file}
use Rattle.format.specs.Refusals.{Refusal}
use Rattle.slots.specs.declared.Vertex.{Vertex}
use Rattle.slots.specs.Slots.{slot_count}
use Rattle.graph.specs.Discovery.{Node, going, ended}
use Rattle.graph.specs.LagGraph.{max_bound}
use Rattle.graph.specs.Walks.{word_of, Fits, NeedsMore}
use Rattle.answers.specs.Outcomes.{Contained, Differs, NoSlots, NoRoom}
use Rattle.answers.specs.Outcomes.{Outcome}
use Rattle.answers.specs.Outcomes.{Refused, Compared}
use Rattle.checks.specs.Checks.{Row, answers, answers_by, answers_by₂}
use Rattle.answers.specs.Contain.{contained, differs, no_slots, no_room}

pub record Both (f g : List ℕ) (P : Automaton → Automaton → Type 0) : Type 0 where
  pub first : Automaton
  pub second : Automaton
  pub first_read : read_file f ≡ holds first
  pub second_read : read_file g ≡ holds second
  pub condition : P first second

-- the discovery list of A and B has the vertices ns and ends with the final vertex n, and ns fit S slots
pub record Final (A B : Automaton) (b S : ℕ) (P : List (Node Vertex) → Node Vertex → Type 0) : Type 0 where
  pub nodes : List (Node Vertex)
  pub last : Node Vertex
  pub fits : Fits A B b S (ended nodes last)
  pub condition : P nodes last

-- it has the vertices ns, none of them final, and they fit S slots
pub record Whole (A B : Automaton) (b S : ℕ) (P : List (Node Vertex) → Type 0) : Type 0 where
  pub nodes : List (Node Vertex)
  pub fits : Fits A B b S (going nodes)
  pub condition : P nodes

abbrev pub HasDead : Automaton → Type 0
HasDead A = (q : ℕ) × Dead A q

-- the final vertex has a word of so many letters, for which there is no room
abbrev pub TooLong : Automaton → Automaton → ℕ → ℕ → ℕ → ℕ → Type 0
TooLong A B b S room len = Final A B b S (λ ns n. (len ≡ length (word_of A B b ns n)) × (room < len))

-- the final vertex stands at a place and has a word of so many letters
abbrev pub FinalAt : Automaton → Automaton → ℕ → ℕ → ℕ → ℕ → Type 0
FinalAt A B b S place len = Final A B b S (λ ns n. (place ≡ length ns) × (len ≡ length (word_of A B b ns n)))

-- the list has so many vertices, none of them final
abbrev pub NoneFinal : Automaton → Automaton → ℕ → ℕ → ℕ → Type 0
NoneFinal A B b S count = Whole A B b S (λ ns. count ≡ length ns)

-- with the file, or 0 where none is meant
abbrev pub refuses : ℕ → ℕ → Type 0 → Row Outcome
refuses n file = answers (Refused n file)

module _ (f g : List ℕ) (b : ℕ) (work word : List ℕ) where
  abbrev slots : ℕ
  slots = slot_count (length work)

  abbrev pub contain_rows : List (Row Outcome)
  contain_rows =
      answers_by (λ n. Refused n 1) (Refusal f)
      ∷ answers_by (λ n. Refused n 2) (Refusal g)
      ∷ refuses 8 0 (max_bound < b)
      ∷ refuses 7 0 (Both f g (λ A B. A.letters ≢ B.letters))
      ∷ refuses 6 1 (Both f g (λ A B. HasDead A))
      ∷ refuses 6 2 (Both f g (λ A B. HasDead B))
      ∷ answers (no_slots slots) (Both f g (λ A B. NeedsMore A B b slots))
      ∷ answers_by no_room (λ len. Both f g (λ A B. TooLong A B b slots (length word) len))
      ∷ answers_by contained (λ count. Both f g (λ A B. NoneFinal A B b slots count))
      ∷ answers_by₂ differs (λ place len. Both f g (λ A B. FinalAt A B b slots place len))
      ∷ []

abbrev pub contain_place : Outcome → ℕ
contain_place (Refused n file) =
    cond (leb n 5) (cond (eqb file 1) 0 1) (cond (eqb n 8) 2 (cond (eqb n 7) 3 (cond (eqb file 1) 4 5)))
contain_place (Compared (NoSlots n)) = 6
contain_place (Compared (NoRoom len)) = 7
contain_place (Compared (Contained n)) = 8
contain_place (Compared (Differs i len)) = 9
