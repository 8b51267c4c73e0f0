-- How the code holds what the verdict computes with (01, "Verdict"); only contracts between functions name it. Sets of states are words. A pair
-- of a state has the ends of its runs on a word in bits 0 to 31, and those of its visits in bits 32 to 63.
--   set_of n w             the set of the states below n that the word w has
--   HeldLetter A a t       the table t has the unions of the choices of the rows of the targets on letter a
--   HeldUnions A tables    A is in range, and each of its letters has its table so
--   Met A pairs pairs'     pairs' are the pairs with every run of an accepting state a visit besides
--   PairsOf A v pairs      pairs are the pairs of the states for the word v
--   comes_back n runs visits r       the rows visits lead from r to some state that the rows runs lead back to r from
--   returns_from n runs visits ends  the rows runs lead from a state of ends to some state that comes back
-- Shown by `words_decide`. Assumes nothing.
use Rattle.std.specs.Prelude.{◌≡◌, Bool, ◌&&◌, ◌||◌, List, [], ℕ, ◌+◌, ◌<◌, get_or}
use Rattle.automaton.specs.declared.Automaton.{Automaton}
use Rattle.automaton.specs.Ranges.{some, table}
use Rattle.automaton.specs.Sets.{bit}
use Rattle.automaton.specs.Automata.{accepts, transition, InRange}
use Rattle.relations.specs.Closure.{related, row_has}
use Rattle.lassos.specs.Verdict.{loop_runs, loop_visits}
use Rattle.unions.specs.Unions.{Unions, groups_for}

abbrev pub set_of : ℕ → ℕ → List Bool
set_of n w = table (bit w) n 0

pub record HeldLetter (A : Automaton) (a : ℕ) (entries : List ℕ) : Type 0 where
  pub rows : List ℕ
  pub targets : (p q : ℕ) → p < 32 → q < 32 → row_has rows p q ≡ transition A p a q
  pub unions : Unions entries rows (groups_for A.states)

pub record HeldUnions (A : Automaton) (tables : List (List ℕ)) : Type 0 where
  pub in_range : InRange A
  pub letter : (a : ℕ) → a < A.letters → ∥ HeldLetter A a (get_or tables a []) ∥₁

pub record Met (A : Automaton) (pairs pairs' : List ℕ) : Type 0 where
  pub runs : (t q : ℕ) → t < A.states → q < 32 → row_has pairs' t q ≡ row_has pairs t q
  pub visits : (t q : ℕ) → t < A.states → q < 32
      → row_has pairs' t (32 + q) ≡ (row_has pairs t (32 + q) || (accepts A t && row_has pairs t q))

pub record PairsOf (A : Automaton) (v pairs : List ℕ) : Type 0 where
  pub runs : (p q : ℕ) → p < A.states → q < A.states → row_has pairs p q ≡ related (loop_runs A v) p q
  pub visits : (p q : ℕ) → p < A.states → q < A.states → row_has pairs p (32 + q) ≡ related (loop_visits A v) p q

abbrev pub comes_back : ℕ → List ℕ → List ℕ → ℕ → Bool
comes_back n runs visits r = some (λ s. row_has visits r s && row_has runs s r) n 0

unfoldable pub returns_from : ℕ → List ℕ → List ℕ → ℕ → Bool
returns_from n runs visits ends = some (λ r. some (λ p. bit ends p && row_has runs p r) n 0 && comes_back n runs visits r) n 0
