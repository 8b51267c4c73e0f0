-- The set of the dead states of an automaton (01, "Dead ends"; 02, S-4), said: one number, in which state q counts 2 ^ q.
--   HasDead A        A has a dead state
--   IsDeadSet A s    the bits of s that are set are the dead states of A: of every number q, so no bit above the states is set
--   NamesDead A s    A has a dead state, and s is the set of them
--   dead_set A       that number, computed: the sum of 2 ^ q over the dead states q
-- Shown by `dead_set_right` and `dead_set_only`: `dead_set A` is the one number of which this holds. No call answers with it. Assumes nothing.
use Rattle.std.specs.Prelude.{◌≡◌, true, ◌↔◌, ℕ, ◌*◌, ◌^◌}
use Rattle.automaton.specs.declared.Automaton.{Automaton}
use Rattle.automaton.specs.Ranges.{total}
use Rattle.automaton.specs.Sets.{bit}
use Rattle.automaton.specs.Automata.{max_states, one}
use Rattle.runs.specs.DeadStates.{Dead}
use Rattle.deadstates.specs.DeadEnds.{paths, dead}

abbrev pub HasDead : Automaton → Type 0
HasDead A = (q : ℕ) × Dead A q

abbrev pub IsDeadSet : Automaton → ℕ → Type 0
IsDeadSet A s = (q : ℕ) → (bit s q ≡ true) ↔ Dead A q

pub record NamesDead (A : Automaton) (s : ℕ) : Type 0 where
  pub some_dead : HasDead A
  pub is_set : IsDeadSet A s

unfoldable pub dead_set : Automaton → ℕ
dead_set A = let C = paths A in total (λ q. one (dead A C q) * 2 ^ q) max_states 0
