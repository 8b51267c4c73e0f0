-- Warshall's closure of a table is the paths of one or more of its steps: after the rounds by way of the first k states the table
-- relates what a path with inner states below k joins, and two such paths that meet in a state below k are joined by one.
-- Assumes nothing.
use mathlib.Core.Path.{◌≡◌, refl, sym, ◌∙◌, ap, subst}
use mathlib.Core.Bool.{Bool, true, false, ◌&&◌, ◌||◌}
use mathlib.Core.Logic.{◌⊎◌, inl, inr}
use mathlib.Core.List.{List, []}
use Prim.Native.Nat.{ℕ, zero, suc, ◌≤◌, ◌<◌}
use native.Mathlib.Nat.{eq-or-lt_of_le, not-suc-le-zero}
use native.Mathlib.Omega.{arith}
use lib.Dec.{T, ltb}
use lib.ListN.{length, get_or, get_or-eq_default}
use borrow.Author.Tests.{ltb-true, ltb-false}
use Rattle.automaton.specs.Ranges.{table}
use Rattle.relations.specs.Closure.{related, relation, through, rounds, closure}
use Rattle.automaton.proofs.Booleans.{or_cases, or_left, or_right, and_both, both_and}
use Rattle.automaton.proofs.Ranges.{table_at, length-table}

-- Tables of tests.

-- what passes in a table of n tests is below n
pub table_below : (f : ℕ → Bool) (n q : ℕ) → T (get_or (table f n 0) q false) → q < n
table_below f n q t = go (ltb q n) refl
  where
    go : (c : Bool) → ltb q n ≡ c → q < n
    go true e = ltb-true q n e
    go false e =
        let h : length (table f n 0) ≤ q = omega (arith, length-table f n 0, ltb-false q n e) in
        absurd (subst T (get_or-eq_default (table f n 0) false h) t)

pub related_relation : (n : ℕ) (f : ℕ → ℕ → Bool) (p q : ℕ) → p < n → q < n → related (relation n f) p q ≡ f p q
unfolding relation
related_relation n f p q hp hq =
    ap (λ (row : List Bool). get_or row q false) (table_at (λ x. table (f x) n 0) n p [] hp) ∙ table_at (f p) n q false hq

pub related_below : (n : ℕ) (f : ℕ → ℕ → Bool) (p q : ℕ) → T (related (relation n f) p q) → (p < n) × (q < n)
unfolding relation
related_below n f p q t = go (ltb p n) refl
  where
    rows : List (List Bool)
    rows = table (λ x. table (f x) n 0) n 0

    go : (c : Bool) → ltb p n ≡ c → (p < n) × (q < n)
    go true e =
        let hp = ltb-true p n e in
        (hp, table_below (f p) n q (subst (λ (row : List Bool). T (get_or row q false)) (table_at (λ x. table (f x) n 0) n p [] hp) t))
    go false e =
        let h : length rows ≤ p = omega (arith, length-table (λ x. table (f x) n 0) n 0, ltb-false p n e) in
        absurd (subst (λ (row : List Bool). T (get_or row q false)) (get_or-eq_default rows [] h) t)

-- Paths.

-- a path of one or more steps of f, its inner states below n
pub data Steps (f : ℕ → ℕ → Bool) (n : ℕ) : ℕ → ℕ → Type 0 where
  one : {p q : ℕ} → T (f p q) → Steps f n p q
  more : {p r q : ℕ} → r < n → T (f p r) → Steps f n r q → Steps f n p q

pub steps_append : {f : ℕ → ℕ → Bool} {n p r q : ℕ} → r < n → Steps f n p r → Steps f n r q → Steps f n p q
steps_append h (one s) k = more h s k
steps_append h (more l s i) k = more l s (steps_append h i k)

-- The rounds.

module _ (n : ℕ) (R : List (List Bool)) where
  -- p and q are related after the rounds by way of the first k states
  abbrev after : ℕ → ℕ → ℕ → Bool
  after k p q = related (rounds n k R) p q

  after_suc : (k p q : ℕ) → p < n → q < n → after (suc k) p q ≡ (after k p q || (after k p k && after k k q))
  unfolding rounds through
  after_suc k p q hp hq = related_relation n (λ x y. after k x y || (after k x k && after k k y)) p q hp hq

  after_up : (k p q : ℕ) → p < n → q < n → T (after k p q) → T (after (suc k) p q)
  after_up k p q hp hq t = subst T (sym (after_suc k p q hp hq)) (or_left (after k p q) (after k p k && after k k q) t)

  after_through : (k p q : ℕ) → p < n → q < n → T (after k p k) → T (after k k q) → T (after (suc k) p q)
  after_through k p q hp hq s t =
      subst T (sym (after_suc k p q hp hq))
      (or_right (after k p q) (after k p k && after k k q) (both_and (after k p k) (after k k q) s t))

  after_cases : (k p q : ℕ) → p < n → q < n → T (after (suc k) p q) → T (after k p q) ⊎ (T (after k p k) × T (after k k q))
  after_cases k p q hp hq t = go (or_cases (after k p q) (after k p k && after k k q) (subst T (after_suc k p q hp hq) t))
    where
      go : T (after k p q) ⊎ T (after k p k && after k k q) → T (after k p q) ⊎ (T (after k p k) × T (after k k q))
      go (inl s) = inl s
      go (inr s) = inr (and_both (after k p k) (after k k q) s)

  -- a path into k, and one from k, needs no way by k
  after_into : (k p : ℕ) → p < n → k < n → T (after (suc k) p k) → T (after k p k)
  after_into k p hp hk t = go (after_cases k p k hp hk t)
    where
      go : T (after k p k) ⊎ (T (after k p k) × T (after k k k)) → T (after k p k)
      go (inl s) = s
      go (inr s) = s.0

  after_from : (k q : ℕ) → k < n → q < n → T (after (suc k) k q) → T (after k k q)
  after_from k q hk hq t = go (after_cases k k q hk hq t)
    where
      go : T (after k k q) ⊎ (T (after k k k) × T (after k k q)) → T (after k k q)
      go (inl s) = s
      go (inr s) = s.1

  after_joins : (k p r q : ℕ) → k ≤ n → p < n → q < n → r < k → T (after k p r) → T (after k r q) → T (after k p q)
  after_joins zero p r q hk hp hq h s t = absurd (not-suc-le-zero h)
  after_joins (suc k) p r q hk hp hq h s t =
      go (λ p' q' hp' hq' l s' t'. after_joins k p' r q' (omega arith) hp' hq' l s' t') (eq-or-lt_of_le h)
    where
      Joins : Type 0
      Joins = (p' q' : ℕ) → p' < n → q' < n → r < k → T (after k p' r) → T (after k r q') → T (after k p' q')

      meet : Joins → r < k → T (after k p r) ⊎ (T (after k p k) × T (after k k r))
          → T (after k r q) ⊎ (T (after k r k) × T (after k k q)) → T (after (suc k) p q)
      meet ih l (inl x) (inl y) = after_up k p q hp hq (ih p q hp hq l x y)
      meet ih l (inl x) (inr y) = after_through k p q hp hq (ih p k hp (omega arith) l x y.0) y.1
      meet ih l (inr x) (inl y) = after_through k p q hp hq x.0 (ih k q (omega arith) hq l x.1 y)
      meet ih l (inr x) (inr y) = after_through k p q hp hq x.0 y.1

      go : Joins → (suc r ≡ suc k) ⊎ (suc r < suc k) → T (after (suc k) p q)
      go ih (inl d) =
          let e : r ≡ k = omega arith in
          after_through k p q hp hq
          (after_into k p hp (omega arith) (subst (λ (x : ℕ). T (after (suc k) p x)) e s))
          (after_from k q (omega arith) hq (subst (λ (x : ℕ). T (after (suc k) x q)) e t))
      go ih (inr l) = meet ih (omega arith) (after_cases k p r hp (omega arith) s) (after_cases k r q (omega arith) hq t)

  after_step : (k p q : ℕ) → p < n → q < n → T (related R p q) → T (after k p q)
  unfolding rounds
  after_step zero p q hp hq t = t
  after_step (suc k) p q hp hq t = after_up k p q hp hq (after_step k p q hp hq t)

  after_sound : (k p q : ℕ) → k ≤ n → p < n → q < n → T (after k p q) → Steps (related R) n p q
  unfolding rounds
  after_sound zero p q hk hp hq t = one t
  after_sound (suc k) p q hk hp hq t =
      go (λ p' q' hp' hq' s. after_sound k p' q' (omega arith) hp' hq' s) (after_cases k p q hp hq t)
    where
      go : ((p' q' : ℕ) → p' < n → q' < n → T (after k p' q') → Steps (related R) n p' q')
          → T (after k p q) ⊎ (T (after k p k) × T (after k k q)) → Steps (related R) n p q
      go ih (inl s) = ih p q hp hq s
      go ih (inr s) = steps_append (omega arith) (ih p k hp (omega arith) s.0) (ih k q (omega arith) hq s.1)

  after_complete : {p q : ℕ} → p < n → q < n → Steps (related R) n p q → T (after n p q)
  after_complete {p} {q} hp hq (one s) = after_step n p q hp hq s
  after_complete {p} {q} hp hq (more {r = r} h s k) =
      after_joins n p r q (omega arith) hp hq h (after_step n p r hp h s) (after_complete h hq k)

-- The closure.

pub closure_sound : (n : ℕ) (R : List (List Bool)) (p q : ℕ) → p < n → q < n → T (related (closure n R) p q) → Steps (related R) n p q
unfolding closure
closure_sound n R p q hp hq t = after_sound n R n p q (omega arith) hp hq t

pub closure_complete : (n : ℕ) (R : List (List Bool)) (p q : ℕ) → p < n → q < n → Steps (related R) n p q → T (related (closure n R) p q)
unfolding closure
closure_complete n R p q hp hq k = after_complete n R hp hq k

pub closure_below : (n : ℕ) (f : ℕ → ℕ → Bool) (p q : ℕ) → T (related (closure n (relation n f)) p q) → (p < n) × (q < n)
unfolding closure rounds through
closure_below n f p q t = go n t
  where
    go : (k : ℕ) → T (related (rounds n k (relation n f)) p q) → (p < n) × (q < n)
    go zero s = related_below n f p q s
    go (suc k) s =
        let C = rounds n k (relation n f) in
        related_below n (λ x y. related C x y || (related C x k && related C k y)) p q s
