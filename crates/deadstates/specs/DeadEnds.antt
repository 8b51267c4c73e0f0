-- Dead states, computed with the closure of the transitions (01, "Dead ends"). `Rattle.runs.specs.DeadStates` says what a dead state is.
--   edge A p r     some transition goes from p to r
--   paths A        one or more transitions go from p to r, for all p and r
--   live A C q     q, or a state that a path leads to from q, is accepting and has a path to itself; C are the paths of A
--   dead A C q     q is the initial state, or a path leads to it from there, and q is not live
--   dead_states A  the set of dead states: whether each of the 32 states is dead
--   has_dead A     some state is dead
-- Shown by `dead_states_right` and `has_dead_right`. Assumes nothing.
use Rattle.std.specs.Prelude.{Bool, false, ◌&&◌, not, List, ℕ, get_or}
use Rattle.automaton.specs.declared.Automaton.{Automaton}
use Rattle.automaton.specs.Ranges.{some, table}
use Rattle.automaton.specs.Automata.{max_states, accepts, transition}
use Rattle.relations.specs.Closure.{related, relation, closure, reaches}

unfoldable pub edge : Automaton → ℕ → ℕ → Bool
edge A p r = some (λ a. transition A p a r) A.letters 0

unfoldable pub paths : Automaton → List (List Bool)
paths A = closure A.states (relation A.states (edge A))

module _ (A : Automaton) (C : List (List Bool)) where
  unfoldable pub live : ℕ → Bool
  live q = some (λ r. reaches C q r && (accepts A r && related C r r)) A.states 0

  unfoldable pub dead : ℕ → Bool
  dead q = reaches C A.initial q && not (live q)

unfoldable pub dead_states : Automaton → List Bool
dead_states A = let C = paths A in table (dead A C) max_states 0

unfoldable pub has_dead : Automaton → Bool
has_dead A = let D = dead_states A in some (λ q. get_or D q false) max_states 0
