-- Dead states, 01's term (01, "Dead ends"): a run can come to the state, and no run that goes on from there can be accepting, since it comes to no
-- accepting state that lies on a loop. What no run comes to is not dead.
-- Shown by `dead_states_right` and `has_dead_right` of the crate deadstates. Assumes nothing.
use Rattle.std.specs.Prelude.{ℕ, T}
use Rattle.automaton.specs.declared.Automaton.{Automaton}
use Rattle.automaton.specs.Automata.{accepts}
use Rattle.runs.specs.Runs.{Reaches, OnLoop}

pub record Dead (A : Automaton) (q : ℕ) : Type 0 where
  pub reached : Reaches A A.initial q
  pub no_loop : (r : ℕ) → T (accepts A r) → OnLoop A r → Reaches A q r → ⊥
