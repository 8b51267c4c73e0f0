-- The right automaton's transitions as masks: a byte for each letter and each pair of states, in the order letter, source, target, for the
-- automaton's own n sources and for all 32 targets.
--   mask c               255 for true and 0 for false
--   row_place n a p      with n states, the masks of the 32 targets of p on letter a stand from here on
--   row_masks t n p a m  the bytes m, with the masks of the targets of p on letter a from the transitions t
--   letter_masks t n a m  the bytes m, with the masks of the states below n on letter a
--   masks_after t n k m  the bytes m, with the masks of the states below n on the letters below k
--   Masks m t n k        m has the masks of the transitions t from the states below n on the letters below k
-- Shown by `masks_after_lem`: the bytes that are filled have the masks. Assumes nothing.
use Rattle.std.specs.Prelude.{◌≡◌, Bool, cond, List, ℕ, zero, suc, ◌+◌, ◌*◌, ◌/◌, ◌%◌, ◌<◌, get_or}
use Rattle.automaton.specs.Automata.{max_states}
use Rattle.automaton.specs.Members.{transition_in}
use Rattle.relations.specs.Rows.{changed_rows}

abbrev pub mask : Bool → ℕ
mask c = cond c 255 0

abbrev pub row_place : ℕ → ℕ → ℕ → ℕ
row_place n a p = (a * n + p) * max_states

abbrev pub row_masks : List ℕ → ℕ → ℕ → ℕ → List ℕ → List ℕ
row_masks t n p a m = changed_rows (row_place n a p) max_states (λ r. mask (transition_in t p a r)) m

abbrev pub letter_masks : List ℕ → ℕ → ℕ → List ℕ → List ℕ
letter_masks t n a m =
    changed_rows (row_place n a 0) (n * max_states) (λ j. mask (transition_in t (j / max_states) a (j % max_states))) m

unfoldable pub masks_after : List ℕ → ℕ → ℕ → List ℕ → List ℕ
masks_after t n zero m = m
masks_after t n (suc k) m = letter_masks t n k (masks_after t n k m)

abbrev pub Masks : List ℕ → List ℕ → ℕ → ℕ → Type 0
Masks m t n k = (a p r : ℕ) → a < k → p < n → r < max_states → get_or m (row_place n a p + r) 0 ≡ mask (transition_in t p a r)
