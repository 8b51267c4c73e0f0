-- Entries and editions, 01's terms (01, "Entry, open, offer").
--   max_edition        183,071, one less than the number of pairs of counts of states and transitions
--   WellFormed E       an open entry meets condition 9 nowhere: in range, no dead state, first states not fewer than held, edition
--                      at most 183,071
--   fresh_entry        an empty entry, all of whose numbers are 0
--   malformed E        condition 9, computed; of an empty entry no other field is looked at
--   Smaller, smaller   one automaton is smaller than another: by its states, then by its transitions; said and computed
-- Shown by `malformed_iff` and `smaller_iff`. Assumes nothing.
use Rattle.std.specs.Prelude.{◌≡◌, Bool, false, ◌&&◌, ◌||◌, not, ◌⊎◌, ℕ, ◌≤◌, ◌<◌, eqb, leb, ltb}
use Rattle.automaton.specs.declared.Automaton.{Automaton}
use Rattle.automaton.specs.Automata.{max_states, transition_count, bare, InRange, in_range}
use Rattle.runs.specs.DeadStates.{Dead}
use Rattle.deadstates.specs.DeadEnds.{has_dead}
use Rattle.history.specs.declared.Entry.{Entry}

abbrev pub max_edition : ℕ
max_edition = 183071

unfoldable pub fresh_entry : Entry
fresh_entry = record { filled = false; edition = 0; first = 0; held = bare 0 0 0 }

pub record WellFormed (E : Entry) : Type 0 where
  pub in_range : InRange E.held
  pub some_first : 1 ≤ E.first
  pub few_first : E.first ≤ max_states
  pub alive : (q : ℕ) → Dead E.held q → ⊥
  pub not_fewer : E.held.states ≤ E.first
  pub edition_in : E.edition ≤ max_edition

unfoldable pub malformed : Entry → Bool
malformed E =
    E.filled
    && not
    (in_range E.held
    && (leb 1 E.first && leb E.first max_states)
    && not (has_dead E.held)
    && leb E.held.states E.first
    && leb E.edition max_edition)

abbrev pub Smaller : Automaton → Automaton → Type 0
Smaller B A =
    (B.states < A.states) ⊎ ((B.states ≡ A.states) × (transition_count B < transition_count A))

unfoldable pub smaller : Automaton → Automaton → Bool
smaller B A =
    ltb B.states A.states
    || (eqb B.states A.states && ltb (transition_count B) (transition_count A))
