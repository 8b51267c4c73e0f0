-- What the counters of the lag-checking graph mean (the paper, section 3.2, Lemmas 2 and 3, here at every bound).
--   counters_after w ts   the counters after the word w along a left run, from the initial vertex; ts are the targets of the run
--   visits_since π ρ      the visits of π to accepting states of A after the last visit of ρ to an accepting state of B
--   Witness b w π r c     a right run prefix on w ends in r, its lag behind π is at most b, and π has had at most b + 1 - c visits since its
--                         last one
-- Shown by `counters_mean`. Assumes nothing.
use Rattle.std.specs.Prelude.{◌≡◌, Bool, true, false, List, [], ◌∷◌, ℕ, ◌+◌, ◌≤◌}
use Rattle.automaton.specs.declared.Automaton.{Automaton}
use Rattle.automaton.specs.Automata.{accepts}
use Rattle.runs.specs.Containment.{Follows}
use Rattle.graph.specs.LagGraph.{initial_vertex, stepped}

module _ (A B : Automaton) (b : ℕ) where
  -- the counters f after a word, along the targets ts of a left run on it
  unfoldable pub counters_from : List ℕ → List ℕ → List ℕ → List ℕ
  counters_from f [] ts = f
  counters_from f (a ∷ w) [] = f
  counters_from f (a ∷ w) (t ∷ ts) = counters_from (stepped A B b a t f) w ts

  unfoldable pub counters_after : List ℕ → List ℕ → List ℕ
  counters_after w ts = counters_from (initial_vertex A B b).counters w ts

module _ (A B : Automaton) where
  -- the left visits after the last right visit, where k came before the next position
  abbrev pub counted : Bool → Bool → ℕ → ℕ
  counted l true k = 0
  counted true false k = k + 1
  counted false false k = k

  abbrev pub visits_from : ℕ → List ℕ → List ℕ → ℕ
  visits_from k [] ρ = k
  visits_from k (p ∷ π) [] = k
  visits_from k (p ∷ π) (r ∷ ρ) = visits_from (counted (accepts A p) (accepts B r) k) π ρ

  abbrev pub visits_since : List ℕ → List ℕ → ℕ
  visits_since π ρ = visits_from 0 π ρ

  pub record Witness (b : ℕ) (w π : List ℕ) (r c : ℕ) : Type 0 where
    pub follows : Follows A B b w π
    pub ends : follows.prefix.end ≡ r
    pub since : visits_since π follows.states + c ≤ b + 1
