-- The fixed form of a file (02, S-1): the header, then the accepting states lowest first, then the transitions in the order of from, letter and to,
-- and the end record.
--   Before x y         record x comes before record y: accepting ones first, by state; then transitions by from, then letter, then to
--   Ascending xs       each record comes before all that follow it
--   FixedForm s A      the file s is the fixed form of A: it spells A, and its records ascend
--   accepting_items A  the records of the accepting states, and
--   transition_items A  those of the transitions
--   items_of A          all records of A
--   written A          the fixed form of A, computed
--   SameAutomaton A B  the same header, accepting states and transitions
--   accepting_count A  the number of accepting states
--   full_automaton     32 states and 16 letters, every state accepting, and every transition
-- Shown by `fixed_form_iff`, of automata in range whose sets are bytes, as those of files are: `written A` is the one file that is the fixed form of A; by
-- `written_read`: it holds A; by `written_alike`: two of them have the same fixed form exactly when they are the same automaton; by `ascending_distinct`:
-- ascending records have no repeats; by `written_length` and `longest_met`: the length. Assumes nothing.
use Rattle.std.specs.Prelude.{◌≡◌, ◌⊎◌, ℕ, ◌<◌, replicate}
use mathlib.Core.List.{List, [], ◌∷◌, ◌++◌, map, Memᴰ}
use Rattle.automaton.specs.declared.Automaton.{Automaton}
use Rattle.automaton.specs.Ranges.{those, chained, total}
use Rattle.automaton.specs.Automata.{max_states, max_letters, accepts, transition, targets, one}
use Rattle.format.specs.Writing.{Item, accepting_item, transition_item, file_bytes}
use Rattle.format.specs.Spelling.{Spells}

abbrev pub Before : Item → Item → Type 0
Before (accepting_item p) (accepting_item q) = p < q
Before (accepting_item p) (transition_item q a r) = Unit {0}
Before (transition_item p b s) (accepting_item q) = ⊥
Before (transition_item p b s) (transition_item q a r) = (p < q) ⊎ ((p ≡ q) × ((b < a) ⊎ ((b ≡ a) × (s < r))))

unfoldable pub Ascending : List Item → Type 0
Ascending [] = Unit {0}
Ascending (x ∷ xs) = ((y : Item) → Memᴰ y xs → Before x y) × Ascending xs

pub record FixedForm (s : List ℕ) (A : Automaton) : Type 0 where
  pub spells : Spells s A
  pub ascending : Ascending spells.items

unfoldable pub accepting_items : Automaton → List Item
accepting_items A = map accepting_item (those (accepts A) A.states 0)

unfoldable pub transition_items : Automaton → List Item
transition_items A = chained (λ q. chained (λ a. map (transition_item q a) (targets A q a)) A.letters 0) A.states 0

abbrev pub items_of : Automaton → List Item
items_of A = accepting_items A ++ transition_items A

unfoldable pub written : Automaton → List ℕ
written A = file_bytes A.states A.letters A.initial (items_of A)

pub record SameAutomaton (A B : Automaton) : Type 0 where
  pub states : A.states ≡ B.states
  pub letters : A.letters ≡ B.letters
  pub initial : A.initial ≡ B.initial
  pub accepting : (q : ℕ) → accepts A q ≡ accepts B q
  pub transitions : (q a r : ℕ) → transition A q a r ≡ transition B q a r

unfoldable pub accepting_count : Automaton → ℕ
accepting_count A = total (λ q. one (accepts A q)) A.states 0

abbrev pub full_automaton : Automaton
full_automaton =
    record { states = max_states; letters = max_letters; initial = 0; accepting = replicate 4 255; transitions = replicate 2048 255 }
