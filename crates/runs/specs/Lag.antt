-- Lag, 01's term (01, "The walk"): how many visits of accepting states the first of two equally long run prefixes can make while the second
-- makes none. The visits are counted at positions in ascending order, and from the first of these to the last, at both of them too, the
-- second is at no accepting state; the lag is the largest such count.
--   Ascending xs          each position of xs is below the later ones
--   Lagging A B π ρ xs    xs are such positions of the run prefixes π of A and ρ of B
--   Lags A B π ρ j        there are j such positions
--   Largest P n           n is the largest number that P holds of
--   LagIs A B π ρ n       the lag of π and ρ, in this order, is n
-- The empty list is such a list of positions, so without any visit the lag is 0.
-- Shown by `lag_exists` and `lag_unique`: there is exactly one lag. Assumes nothing.
use Rattle.std.specs.Prelude.{◌≡◌, not, ℕ, ◌≤◌, ◌<◌, T, length, get_or}
use mathlib.Core.List.{List, [], ◌∷◌, Memᴰ}
use Rattle.automaton.specs.declared.Automaton.{Automaton}
use Rattle.automaton.specs.Automata.{accepts}

pub data Ascending : List ℕ → Type 0 where
  none : Ascending []
  more : {x : ℕ} {xs : List ℕ} → ((y : ℕ) → Memᴰ y xs → x < y) → Ascending xs → Ascending (x ∷ xs)

pub record Lagging (A B : Automaton) (π ρ xs : List ℕ) : Type 0 where
  pub ascending : Ascending xs
  pub visits : (x : ℕ) → Memᴰ x xs → (x < length π) × T (accepts A (get_or π x 0))
  pub between : (x i y : ℕ) → Memᴰ x xs → Memᴰ y xs → x ≤ i → i ≤ y → T (not (accepts B (get_or ρ i 0)))

unfoldable pub Lags : Automaton → Automaton → List ℕ → List ℕ → ℕ → Type 0
Lags A B π ρ j = (xs : List ℕ) × (length xs ≡ j) × Lagging A B π ρ xs

pub record Largest (P : ℕ → Type 0) (n : ℕ) : Type 0 where
  pub holds : P n
  pub most : (m : ℕ) → P m → m ≤ n

unfoldable pub LagIs : Automaton → Automaton → List ℕ → List ℕ → ℕ → Type 0
LagIs A B π ρ n = Largest (Lags A B π ρ) n
