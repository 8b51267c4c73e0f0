-- Laws of tables, tests, next members, lists and largest values over a range of numbers. Assumes nothing.
use mathlib.Core.Path.{◌≡◌, refl, sym, ap, subst, ◌∙◌}
use mathlib.Core.Bool.{Bool, true, false}
use mathlib.Core.Logic.{◌⊎◌, inl, inr, ⊎_elim}
use mathlib.Core.List.Memᴰ
use mathlib.Core.List.{◌∷◌, Memᴰ}
use Prim.Native.Nat.{ℕ, zero, suc, ◌+◌, ◌-◌, ◌≤◌, ◌<◌, max}
use native.Mathlib.Nat.{add-zero, zero-add, add-suc, suc-add, le_of_suc-le-suc, eq-or-lt_of_le, not-suc-le-zero, le-max_left, le-max_right, le_trans, zero-max, max-zero, suc-max-suc}
use native.Mathlib.Omega.{arith}
use lib.Dec.{T}
use lib.ListN.{length, get_or}
use Rattle.automaton.specs.Ranges.{some, next_from, those, table, largest}
use Rattle.automaton.proofs.Booleans.{or_cases, or_left, or_right}

-- Along a range.

-- what does not change from k to k + 1, for the k from i to below j, is the same at i and j
pub same_along : {X : Type 0} (g : ℕ → X) (i j : ℕ) → i ≤ j → ((k : ℕ) → i ≤ k → k < j → g k ≡ g (suc k)) → g i ≡ g j
same_along g i j h same = go (j - i) i (omega arith) (omega arith)
  where
    go : (d k : ℕ) → i ≤ k → k + d ≡ j → g k ≡ g j
    go zero k p e = ap g (omega arith)
    go (suc d) k p e = same k p (omega arith) ∙ go d (suc k) (omega arith) (omega arith)

-- Tables.

pub get_or-table {ℓ} : {A : Type ℓ} (f : ℕ → A) (n i k : ℕ) (d : A) → k < n → get_or (table f n i) k d ≡ f (i + k)
unfolding table
get_or-table f zero i k d h = absurd (not-suc-le-zero h)
get_or-table f (suc n) i zero d h = ap f (sym (add-zero i))
get_or-table f (suc n) i (suc k) d h = get_or-table f n (suc i) k d (le_of_suc-le-suc h) ∙ ap f (suc-add i k ∙ sym (add-suc i k))

-- the element at k of a table that starts at 0
pub table_at {ℓ} : {A : Type ℓ} (f : ℕ → A) (n k : ℕ) (d : A) → k < n → get_or (table f n 0) k d ≡ f k
table_at f n k d h = get_or-table f n 0 k d h ∙ ap f (zero-add k)

pub length-table {ℓ} : {A : Type ℓ} (f : ℕ → A) (n i : ℕ) → length (table f n i) ≡ n
unfolding table
length-table f zero i = refl
length-table f (suc n) i = ap suc (length-table f n (suc i))

-- Tests.

pub some_find : (f : ℕ → Bool) (n i : ℕ) → T (some f n i) → (k : ℕ) × (k < i + n) × T (f k)
unfolding some
some_find f zero i t = absurd t
some_find f (suc n) i t = go (some_find f n (suc i)) (or_cases (f i) (some f n (suc i)) t)
  where
    go : (T (some f n (suc i)) → (k : ℕ) × (k < suc i + n) × T (f k)) → T (f i) ⊎ T (some f n (suc i)) → (k : ℕ) × (k < i + suc n) × T (f k)
    go ih (inl h) = (i, omega arith, h)
    go ih (inr h) = let r = ih h in (r.0, omega (arith, r.1), r.2)

pub some_intro : (f : ℕ → Bool) (n i k : ℕ) → k < n → T (f (i + k)) → T (some f n i)
unfolding some
some_intro f zero i k h t = absurd (not-suc-le-zero h)
some_intro f (suc n) i zero h t = or_left (f i) _ (rw add-zero at t)
some_intro f (suc n) i (suc k) h t = or_right (f i) _ (some_intro f n (suc i) k (le_of_suc-le-suc h) (rw (add-suc i k, ← suc-add i k) at t))

-- the same for ranges that start at 0
pub some_at : (f : ℕ → Bool) (n k : ℕ) → k < n → T (f k) → T (some f n 0)
some_at f n k h t = some_intro f n 0 k h (rw zero-add t)

pub some_below : (f : ℕ → Bool) (n : ℕ) → T (some f n 0) → (k : ℕ) × (k < n) × T (f k)
some_below f n t = let r = some_find f n 0 t in (r.0, omega (arith, r.1), r.2)

-- Next members.

module _ (f : ℕ → Bool) where
  pub next_from_lem : (n i : ℕ) → i ≤ next_from f n i
  unfolding next_from
  next_from_lem zero i = omega arith
  next_from_lem (suc n) i = go (f i) (next_from_lem n (suc i))
    where
      go : (b : Bool) → suc i ≤ next_from f n (suc i) → i ≤ elim b [ true ↦ i | false ↦ next_from f n (suc i) ]
      go true h = omega arith
      go false h = omega arith

  pub next_to : (n i : ℕ) → next_from f n i ≤ i + n
  unfolding next_from
  next_to zero i = omega arith
  next_to (suc n) i = go (f i) (next_to n (suc i))
    where
      go : (b : Bool) → next_from f n (suc i) ≤ suc i + n → elim b [ true ↦ i | false ↦ next_from f n (suc i) ] ≤ i + suc n
      go true h = omega arith
      go false h = omega arith

  pub next_holds : (n i : ℕ) → next_from f n i < i + n → f (next_from f n i) ≡ true
  unfolding next_from
  next_holds zero i h = absurd (omega arith)
  next_holds (suc n) i h = go (f i) refl (next_holds n (suc i)) h
    where
      go : (b : Bool) → f i ≡ b → (next_from f n (suc i) < suc i + n → f (next_from f n (suc i)) ≡ true)
          → elim b [ true ↦ i | false ↦ next_from f n (suc i) ] < i + suc n
          → f (elim b [ true ↦ i | false ↦ next_from f n (suc i) ]) ≡ true
      go true e ih l = e
      go false e ih l = ih (omega arith)

  pub next_before : (n i k : ℕ) → i ≤ k → k < next_from f n i → f k ≡ false
  unfolding next_from
  next_before zero i k h l = absurd (omega arith)
  next_before (suc n) i k h l = go (f i) refl (next_before n (suc i) k) l
    where
      go : (b : Bool) → f i ≡ b → (suc i ≤ k → k < next_from f n (suc i) → f k ≡ false)
          → k < elim b [ true ↦ i | false ↦ next_from f n (suc i) ] → f k ≡ false
      go true e ih m = absurd (omega arith)
      go false e ih m = ⊎_elim (λ q. subst (λ (x : ℕ). f x ≡ false) q e) (λ q. ih q m) (eq-or-lt_of_le h)

  -- a number at which f does not hold is passed over
  next_suc : (m i : ℕ) → i < m → f i ≡ false → next_from f (m - i) i ≡ next_from f (m - suc i) (suc i)
  unfolding next_from
  next_suc m i h e = go (m - i) (m - suc i) (omega arith)
    where
      go : (n l : ℕ) → n ≡ suc l → next_from f n i ≡ next_from f l (suc i)
      go n l q = ap (λ (x : ℕ). next_from f x i) q ∙ ap (λ (b : Bool). elim b [ true ↦ i | false ↦ next_from f l (suc i) ]) e

  -- numbers at which f does not hold are passed over
  pub next_skip : (m i j : ℕ) → i ≤ j → j ≤ m → ((k : ℕ) → i ≤ k → k < j → f k ≡ false)
      → next_from f (m - i) i ≡ next_from f (m - j) j
  next_skip m i j h l none = same_along (λ k. next_from f (m - k) k) i j h (λ k p q. next_suc m k (omega arith) (none k p q))

  -- where f holds nowhere, it is the number after the range
  pub next_none : (m i : ℕ) → i ≤ m → ((k : ℕ) → i ≤ k → k < m → f k ≡ false) → next_from f (m - i) i ≡ m
  unfolding next_from
  next_none m i h none = next_skip m i m h (omega arith) none ∙ go (m - m) (omega arith)
    where
      go : (n : ℕ) → n ≡ 0 → next_from f n m ≡ m
      go n q = ap (λ (x : ℕ). next_from f x m) q

  -- the first number at which f holds is the next member
  pub next_is : (m i t : ℕ) → i ≤ t → t < m → f t ≡ true → ((k : ℕ) → i ≤ k → k < t → f k ≡ false) → next_from f (m - i) i ≡ t
  unfolding next_from
  next_is m i t h l e none = next_skip m i t h (omega arith) none ∙ go (m - t) (m - suc t) (omega arith)
    where
      go : (n k : ℕ) → n ≡ suc k → next_from f n t ≡ t
      go n k q = ap (λ (x : ℕ). next_from f x t) q ∙ ap (λ (b : Bool). elim b [ true ↦ t | false ↦ next_from f k (suc t) ]) e

-- tests that agree over a range have the same next member
pub next_same : (f g : ℕ → Bool) (n i : ℕ) → ((k : ℕ) → i ≤ k → k < i + n → f k ≡ g k) → next_from f n i ≡ next_from g n i
unfolding next_from
next_same f g zero i e = refl
next_same f g (suc n) i e =
    ap (λ (b : Bool). elim b [ true ↦ i | false ↦ next_from f n (suc i) ]) (e i (omega arith) (omega arith))
    ∙ ap (λ (x : ℕ). elim (g i) [ true ↦ i | false ↦ x ]) (next_same f g n (suc i) (λ k p q. e k (omega arith) (omega arith)))

-- Lists of the numbers that pass.

pub those_has : (f : ℕ → Bool) (n i k : ℕ) → k < n → T (f (i + k)) → Memᴰ (i + k) (those f n i)
unfolding those
those_has f zero i k h t = absurd (not-suc-le-zero h)
those_has f (suc n) i zero h t = go (f i) (rw add-zero at t)
  where
    go : (b : Bool) → T b → Memᴰ (i + 0) (elim b [ true ↦ i ∷ those f n (suc i) | false ↦ those f n (suc i) ])
    go true s = Memᴰ.head (add-zero i)
    go false s = absurd s
those_has f (suc n) i (suc k) h t =
    go (f i) (subst (λ (m : ℕ). Memᴰ m (those f n (suc i))) e (those_has f n (suc i) k (le_of_suc-le-suc h) (subst (λ (m : ℕ). T (f m)) (sym e) t)))
  where
    e : suc i + k ≡ i + suc k
    e = suc-add i k ∙ sym (add-suc i k)

    go : (b : Bool) → Memᴰ (i + suc k) (those f n (suc i)) → Memᴰ (i + suc k) (elim b [ true ↦ i ∷ those f n (suc i) | false ↦ those f n (suc i) ])
    go true m = Memᴰ.tail m
    go false m = m

pub those_pass : (f : ℕ → Bool) (n i k : ℕ) → Memᴰ k (those f n i) → T (f k)
unfolding those
those_pass f zero i k m = absurd (Memᴰ.not-nil m)
those_pass f (suc n) i k m = go (those_pass f n (suc i) k) (f i) refl m
  where
    go : (Memᴰ k (those f n (suc i)) → T (f k)) → (b : Bool) → f i ≡ b
        → Memᴰ k (elim b [ true ↦ i ∷ those f n (suc i) | false ↦ those f n (suc i) ]) → T (f k)
    go ih true e m' = ⊎_elim (λ q. subst (λ (x : ℕ). T (f x)) (sym q) (subst T (sym e) tt)) ih (Memᴰ.cases_cons m')
    go ih false e m' = ih m'

-- Largest values.

pub largest_ub : (f : ℕ → ℕ) (n i k : ℕ) → k < n → f (i + k) ≤ largest f n i
unfolding largest
largest_ub f zero i k h = absurd (not-suc-le-zero h)
largest_ub f (suc n) i zero h = rw add-zero (le-max_left (f i) _)
largest_ub f (suc n) i (suc k) h =
    rw (add-suc i k, ← suc-add i k) (le_trans (largest_ub f n (suc i) k (le_of_suc-le-suc h)) (le-max_right (f i) _))

pub max_is : (a b : ℕ) → (max a b ≡ a) ⊎ (max a b ≡ b)
max_is zero b = inr (zero-max b)
max_is (suc a) zero = inl (max-zero (suc a))
max_is (suc a) (suc b) =
    ⊎_elim (λ e. inl (suc-max-suc a b ∙ ap suc e)) (λ e. inr (suc-max-suc a b ∙ ap suc e)) (max_is a b)

-- where the largest is above 0, it is the value somewhere
pub largest_at : (f : ℕ → ℕ) (n i : ℕ) → 0 < largest f n i → (k : ℕ) × (largest f n i ≡ f k)
unfolding largest
largest_at f zero i h = absurd (not-suc-le-zero h)
largest_at f (suc n) i h = go (largest_at f n (suc i)) (max_is (f i) (largest f n (suc i)))
  where
    go : (0 < largest f n (suc i) → (k : ℕ) × (largest f n (suc i) ≡ f k))
        → (max (f i) (largest f n (suc i)) ≡ f i) ⊎ (max (f i) (largest f n (suc i)) ≡ largest f n (suc i))
        → (k : ℕ) × (max (f i) (largest f n (suc i)) ≡ f k)
    go ih (inl e) = (i, e)
    go ih (inr e) = let r = ih (rw e at h) in (r.0, e ∙ r.1)
