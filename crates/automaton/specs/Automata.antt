-- The automaton as a value: what a file says of it (01, "The file"), and the range of its values (01, "Entry, open, offer").
--   accepts A q            state q is accepting
--   transition A q a r     there is a transition from q on letter a to r
--   targets A q a          the targets of q on letter a, lowest first
--   transition_count A     the number of transitions
--   bare n k i             n states, k letters, initial state i, nothing accepting and no transition
--   with_accepting, with_transition  one accepting state, one transition more
--   InRange A, in_range A  the header's numbers are those that a file may have, and no bit is set for a state or a letter that they
--                          leave out: said, and computed
-- Shown by `in_range_iff`: the two say the same. By `equal_automata` an automaton in range is known by its header, its accepting states and its
-- transitions. Assumes nothing.
use Rattle.std.specs.Prelude.{Bool, true, false, ◌&&◌, ◌||◌, not, List, ℕ, ◌+◌, ◌*◌, ◌/◌, ◌%◌, ◌≤◌, ◌<◌, T, leb, ltb, get_or, set, replicate}
use Rattle.automaton.specs.declared.Automaton.{Automaton}
use Rattle.automaton.specs.Ranges.{some, those, total}
use Rattle.automaton.specs.Sets.{bit, with_bit, member}

-- the most states of a file; there is at least one
abbrev pub max_states : ℕ
max_states = 32

-- the most letters; there is at least one
abbrev pub max_letters : ℕ
max_letters = 16

unfoldable pub accepts : Automaton → ℕ → Bool
accepts A q = ltb q A.states && member A.accepting q

-- the byte that holds the transitions from q on letter a to the eight states from r - r % 8 on
abbrev pub place : ℕ → ℕ → ℕ → ℕ
place q a r = (q * max_letters + a) * 4 + r / 8

-- the bit for a transition, whether or not the header has its states and its letter
abbrev pub transition_bit : Automaton → ℕ → ℕ → ℕ → Bool
transition_bit A q a r = bit (get_or A.transitions (place q a r) 0) (r % 8)

unfoldable pub transition : Automaton → ℕ → ℕ → ℕ → Bool
transition A q a r = ltb q A.states && ltb a A.letters && ltb r A.states && transition_bit A q a r

unfoldable pub targets : Automaton → ℕ → ℕ → List ℕ
targets A q a = those (transition A q a) A.states 0

abbrev pub one : Bool → ℕ
one true = 1
one false = 0

unfoldable pub transition_count : Automaton → ℕ
transition_count A =
    total (λ q. total (λ a. total (λ r. one (transition A q a r)) A.states 0) A.letters 0) A.states 0

unfoldable pub bare : ℕ → ℕ → ℕ → Automaton
bare n k i = record { states = n; letters = k; initial = i; accepting = replicate 4 0; transitions = replicate 2048 0 }

unfoldable pub with_accepting : Automaton → ℕ → Automaton
with_accepting A q =
    record {
      states = A.states;
      letters = A.letters;
      initial = A.initial;
      accepting = set A.accepting (q / 8) (with_bit (get_or A.accepting (q / 8) 0) (q % 8));
      transitions = A.transitions;
    }

unfoldable pub with_transition : Automaton → ℕ → ℕ → ℕ → Automaton
with_transition A q a r =
    record {
      states = A.states;
      letters = A.letters;
      initial = A.initial;
      accepting = A.accepting;
      transitions = set A.transitions (place q a r) (with_bit (get_or A.transitions (place q a r) 0) (r % 8));
    }

-- a header's three numbers are in their ranges; the initial state is one of the n states
unfoldable pub header_values : ℕ → ℕ → ℕ → Bool
header_values n k i = leb 1 n && leb n max_states && leb 1 k && leb k max_letters && ltb i n

pub record InRange (A : Automaton) : Type 0 where
  pub some_states : 1 ≤ A.states
  pub few_states : A.states ≤ max_states
  pub some_letters : 1 ≤ A.letters
  pub few_letters : A.letters ≤ max_letters
  pub initial_below : A.initial < A.states
  pub accepting_in : (q : ℕ) → q < max_states → T (member A.accepting q) → q < A.states
  pub transitions_in : (q a r : ℕ) → q < max_states → a < max_letters → r < max_states → T (transition_bit A q a r)
      → (q < A.states) × (a < A.letters) × (r < A.states)

-- a bit is set for a state, or for a transition, that the header lacks
unfoldable pub stray_state : Automaton → ℕ → Bool
stray_state A q = member A.accepting q && not (ltb q A.states)

unfoldable pub stray_transition : Automaton → ℕ → ℕ → ℕ → Bool
stray_transition A q a r = transition_bit A q a r && not (ltb q A.states && ltb a A.letters && ltb r A.states)

unfoldable pub stray : Automaton → Bool
stray A =
    some (stray_state A) max_states 0
    || some (λ q. some (λ a. some (stray_transition A q a) max_states 0) max_letters 0) max_states 0

unfoldable pub in_range : Automaton → Bool
in_range A = header_values A.states A.letters A.initial && not (stray A)
