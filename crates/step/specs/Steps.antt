-- One step of the counters as the code makes it (01, "The walk"): from the masks of the right automaton's transitions the largest counter
-- of each right state's predecessors, and from that number its counter afterwards; and the vertex that the first step starts from.
--   present_states f n       the states below n that have a counter above 0 in f, lowest first
--   places_after f n         the 32 places once the states below n have been gone through, with the room to work in past the list
--   PresentOf                the first `count` places are a list of them, as the code holds it
--   largest_masked m n a f r  the largest counter of the predecessors of r on letter a among the states below n, by their masks in m
--   all_largest m n a f      the same of all right states
--   tops_of accepting top     the counter that each right state is raised to: top where it accepts, and 0 where it does not
--   counter_at top visits x  the counter after a step of a right state that is raised to top, where its predecessors have x at most;
--                            visits is 1 where the left target accepts, and 0 where it does not
--   stepped_counters tops visits xs  the same of all right states
--   counters_on tops m n a f visits  the counters after a step on letter a from the counters f
--   initial_from p x q y b   the initial vertex of two automata with the initial states p and q and the accepting states x and y
--   RightRules               the tops, the number n of states and the masks are those of the automaton B at the bound b
-- Shown by `counters_on_lem` and `initial_from_lem`: what the code makes of counters and a letter are the counters of the lag-checking graph, and the
-- vertex that it starts from is the graph's. Assumes nothing.
use Rattle.std.specs.Prelude.{◌≡◌, cond, ◌&&◌, not, List, ℕ, suc, zero, ◌+◌, ◌-◌, ◌<◌, min, eqb, ltb, length, get_or, take, set, replicate}
use Rattle.automaton.specs.declared.Automaton.{Automaton}
use Rattle.automaton.specs.Automata.{max_states, InRange}
use Rattle.automaton.specs.Ranges.{those, table, largest}
use Rattle.automaton.specs.Sets.{member}
use Rattle.slots.specs.declared.Vertex.{Vertex}
use Rattle.step.specs.Masks.{row_place, Masks}

abbrev pub present_states : List ℕ → ℕ → List ℕ
present_states f n = those (λ p. ltb 0 (get_or f p 0)) n 0

-- each state is written to the next place, and stays there if it is present
unfoldable pub places_after : List ℕ → ℕ → List ℕ
places_after f zero = replicate max_states 0
places_after f (suc p) = set (places_after f p) (length (present_states f p)) p

-- the places past the count are room to work in; that the counters are bytes is told besides
pub record PresentOf (count : ℕ) (places f : List ℕ) (n : ℕ) : Type 0 where
  pub count_is : count ≡ length (present_states f n)
  pub places_are : take count places ≡ present_states f n
  pub bytes : (p : ℕ) → p < n → get_or f p 0 < 256

abbrev pub largest_masked : List ℕ → ℕ → ℕ → List ℕ → ℕ → ℕ
largest_masked m n a f r = largest (λ p. min (get_or f p 0) (get_or m (row_place n a p + r) 0)) n 0

unfoldable pub all_largest : List ℕ → ℕ → ℕ → List ℕ → List ℕ
all_largest m n a f = table (largest_masked m n a f) max_states 0

unfoldable pub tops_of : List ℕ → ℕ → List ℕ
tops_of accepting top = table (λ r. cond (member accepting r) top 0) max_states 0

-- a state that does not accept has the top 0
abbrev pub counter_at : ℕ → ℕ → ℕ → ℕ
counter_at top visits x = cond (eqb top 0) (x - visits) (cond (ltb 0 x) top 0)

unfoldable pub stepped_counters : List ℕ → ℕ → List ℕ → List ℕ
stepped_counters tops visits xs = table (λ r. counter_at (get_or tops r 0) visits (get_or xs r 0)) max_states 0

abbrev pub counters_on : List ℕ → List ℕ → ℕ → ℕ → List ℕ → ℕ → List ℕ
counters_on tops m n a f visits = stepped_counters tops visits (all_largest m n a f)

unfoldable pub initial_from : ℕ → List ℕ → ℕ → List ℕ → ℕ → Vertex
initial_from p x q y b =
    record {
      left = p;
      counters = table (λ r. cond (eqb r q) (cond (member x p && not (member y q)) b (b + 1)) 0) max_states 0;
    }

-- the masks are those of the letters below k
pub record RightRules (tops m : List ℕ) (n k b : ℕ) (B : Automaton) : Type 0 where
  pub tops_are : tops ≡ tops_of B.accepting (b + 1)
  pub states_are : n ≡ B.states
  pub masks_are : Masks m B.transitions n k
  pub in_range : InRange B
