-- Direct simulation, the rule by which editions were approved before there was the lag rule: a relation R on states that holds of the two initial states; where it holds of p
-- and q, p is accepting only if q is, and every step of p on a letter is met by a step of q on it to a related state.
-- Shown by `direct_simulation_contained`: it gives containment at every bound, 0 included. Assumes nothing.
use Rattle.std.specs.Prelude.{ℕ, T}
use Rattle.automaton.specs.declared.Automaton.{Automaton}
use Rattle.automaton.specs.Automata.{accepts, transition}

pub record DirectSimulation (A B : Automaton) (R : ℕ → ℕ → Type 0) : Type 0 where
  pub starts : R A.initial B.initial
  pub accepting_too : (p q : ℕ) → R p q → T (accepts A p) → T (accepts B q)
  pub meets : (p q a t : ℕ) → R p q → T (transition A p a t) → (u : ℕ) × T (transition B q a u) × R t u

-- each simulates the other, by a relation of its own
pub record SimulateEachOther (A B : Automaton) : Type 1 where
  pub Over : ℕ → ℕ → Type 0
  pub Back : ℕ → ℕ → Type 0
  pub over : DirectSimulation A B Over
  pub back : DirectSimulation B A Back
