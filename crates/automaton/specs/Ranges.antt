-- Tests, next members, lists, sums and largest values over the n numbers from i on: what the definitions of the other files go through states, letters and
-- places with.
--   some f n i      f holds at one of them
--   next_from f n i  the least of them at which f holds; the number after them where there is none
--   those f n i     those of them at which f holds, lowest first
--   chained f n i   the lists f of each of them, one after the other
--   table f n i     f of each of them
--   largest f n i   the largest value of f at them; of none it is 0
--   total f n i     the sum of f over them
-- Shown by `some_at` and `some_below`, `next_holds`, `next_before` and `next_none`, `those_has` and `those_pass`, `chained_has` and `chained_from`,
-- `table_at`, `largest_ub` and `largest_at`. Assumes nothing.
use Rattle.std.specs.Prelude.{Bool, true, false, ◌||◌, List, [], ◌∷◌, ◌++◌, ℕ, zero, suc, ◌+◌, max}

unfoldable pub some : (ℕ → Bool) → ℕ → ℕ → Bool
some f zero i = false
some f (suc n) i = f i || some f n (suc i)

unfoldable pub next_from : (ℕ → Bool) → ℕ → ℕ → ℕ
next_from f zero i = i
next_from f (suc n) i = elim (f i) [ true ↦ i | false ↦ next_from f n (suc i) ]

unfoldable pub those : (ℕ → Bool) → ℕ → ℕ → List ℕ
those f zero i = []
those f (suc n) i = elim (f i) [ true ↦ i ∷ those f n (suc i) | false ↦ those f n (suc i) ]

unfoldable pub chained : {X : Type 0} → (ℕ → List X) → ℕ → ℕ → List X
chained f zero i = []
chained f (suc n) i = f i ++ chained f n (suc i)

unfoldable pub table {ℓ} : {A : Type ℓ} → (ℕ → A) → ℕ → ℕ → List A
table f zero i = []
table f (suc n) i = f i ∷ table f n (suc i)

unfoldable pub largest : (ℕ → ℕ) → ℕ → ℕ → ℕ
largest f zero i = 0
largest f (suc n) i = max (f i) (largest f n (suc i))

unfoldable pub total : (ℕ → ℕ) → ℕ → ℕ → ℕ
total f zero i = 0
total f (suc n) i = f i + total f n (suc i)
