-- The verdict on a lasso word, computed with sets of states (01, "Verdict"). `Rattle.runs.specs.Lassos` says what acceptance is.
--   in_set S q        state q is in the set S
--   only p           the set of p alone
--   on_letter S a    the states that a transition on letter a reaches from a state of S
--   on_word S w      the states that a run on w reaches from a state of S
--   loop_runs v      the relation of p and q where a run on v goes from p to q
--   loop_visits v    the same of runs that meet an accepting state after their first
--   accepted u v     u leads from the initial state to some p, copies of v lead from p to some r, a run on v from r to some s
--                    meets an accepting state, and copies of v lead from s back to r
-- Shown by `verdict_decides_acceptance`. Assumes nothing.
use Rattle.std.specs.Prelude.{Bool, true, false, ◌&&◌, ◌||◌, List, [], ◌∷◌, ℕ, eqb, get_or}
use Rattle.automaton.specs.declared.Automaton.{Automaton}
use Rattle.automaton.specs.Ranges.{some, table}
use Rattle.automaton.specs.Automata.{accepts, transition}
use Rattle.relations.specs.Closure.{related, relation, closure, reaches}

abbrev pub in_set : List Bool → ℕ → Bool
in_set S q = get_or S q false

module _ (A : Automaton) where
  unfoldable pub only : ℕ → List Bool
  only p = table (λ q. eqb q p) A.states 0

  unfoldable pub on_letter : List Bool → ℕ → List Bool
  on_letter S a = table (λ r. some (λ p. in_set S p && transition A p a r) A.states 0) A.states 0

  unfoldable pub on_word : List Bool → List ℕ → List Bool
  on_word S [] = S
  on_word S (a ∷ w) = on_word (on_letter S a) w

  unfoldable pub loop_runs : List ℕ → List (List Bool)
  loop_runs [] = relation A.states eqb
  loop_runs (a ∷ v) =
      let R = loop_runs v in
      relation A.states (λ p q. some (λ t. transition A p a t && related R t q) A.states 0)

  unfoldable pub loop_visits : List ℕ → List (List Bool)
  loop_visits [] = relation A.states (λ p q. false)
  loop_visits (a ∷ v) =
      let R = loop_runs v in
      let M = loop_visits v in
      relation A.states (λ p q. some (λ t. transition A p a t && (related M t q || (accepts A t && related R t q))) A.states 0)

  unfoldable pub accepted : List ℕ → List ℕ → Bool
  accepted u v =
      let S = on_word (only A.initial) u in
      let C = closure A.states (loop_runs v) in
      let M = loop_visits v in
      some (λ p. in_set S p
      && some (λ r. reaches C p r && some (λ s. related M r s && reaches C s r) A.states 0) A.states 0) A.states 0
