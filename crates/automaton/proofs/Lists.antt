-- Laws of lists over a range: the members of `those` found one after the other by `next_from`, and lists chained, part by part and by their
-- members. Assumes nothing.
use mathlib.Core.Path.{◌≡◌, refl, sym, ap, ap₂, subst, ◌∙◌}
use mathlib.Core.Bool.{Bool, true, false}
use mathlib.Core.Logic.{⊎_elim}
use mathlib.Core.List.Memᴰ
use mathlib.Core.List.{List, [], ◌∷◌, ◌++◌, Memᴰ}
use Prim.Native.Nat.{ℕ, zero, suc, ◌+◌, ◌-◌, ◌≤◌, ◌<◌}
use native.Mathlib.Nat.{add-zero, zero-add, add-suc, suc-add}
use native.Mathlib.Numerals.{add-one}
use native.Mathlib.Omega.{arith}
use lib.Dec.{T}
use Rattle.automaton.specs.Ranges.{next_from, those, chained}
use Rattle.automaton.proofs.Ranges.{same_along, next_from_lem, next_before, those_has}

-- The members, one after the other.

module _ (f : ℕ → Bool) where
  those_suc : (m i : ℕ) → f i ≡ false → those f (m - i) i ≡ those f (m - suc i) (suc i)
  unfolding those
  those_suc m i e = go (m - i) (m - suc i) (omega arith)
    where
      go : (n l : ℕ) → l ≡ n - 1 → those f n i ≡ those f l (suc i)
      go zero l q = let z : 0 ≡ l = omega arith in ap (λ (x : ℕ). those f x (suc i)) z
      go (suc n) l q =
          let z : n ≡ l = omega arith in
          ap (λ (b : Bool). elim b [ true ↦ i ∷ those f n (suc i) | false ↦ those f n (suc i) ]) e
          ∙ ap (λ (x : ℕ). those f x (suc i)) z

  -- A loop that starts at `t = next_from f (M - i) i` and goes on, while t < m, to the next member from t + 1 on goes through the
  -- members below m: here they are those from t on, ..
  pub those_next : (M m i : ℕ) → i ≤ M → those f (m - i) i ≡ those f (m - next_from f (M - i) i) (next_from f (M - i) i)
  those_next M m i h =
      same_along (λ k. those f (m - k) k) i (next_from f (M - i) i) (next_from_lem f (M - i) i)
      (λ k p q. those_suc m k (next_before f (M - i) i k p q))

  -- .. of these t is the first, and the rest are those from t + 1 on, ..
  pub those_here : (m t : ℕ) → t < m → f t ≡ true → those f (m - t) t ≡ t ∷ those f (m - (t + 1)) (t + 1)
  unfolding those
  those_here m t h e = let q : m - t ≡ suc (m - (t + 1)) = omega arith in rw (q, those, e, add-one)

  -- .. and from m on there are none.
  pub those_end : (m t : ℕ) → m ≤ t → those f (m - t) t ≡ []
  unfolding those
  those_end m t h = let q : m - t ≡ 0 = omega arith in rw q

-- a member of those from i on is among the n numbers from i on
pub those_from : (f : ℕ → Bool) (n i k : ℕ) → Memᴰ k (those f n i) → (i ≤ k) × (k < i + n)
unfolding those
those_from f zero i k m = absurd (Memᴰ.not-nil m)
those_from f (suc n) i k m = go (λ m'. those_from f n (suc i) k m') (f i) m
  where
    go : (Memᴰ k (those f n (suc i)) → (suc i ≤ k) × (k < suc i + n)) → (b : Bool)
        → Memᴰ k (elim b [ true ↦ i ∷ those f n (suc i) | false ↦ those f n (suc i) ]) → (i ≤ k) × (k < i + suc n)
    go ih true m' =
        ⊎_elim (λ e. (omega (arith, e), omega (arith, e))) (λ l. let h = ih l in (omega (arith, h), omega (arith, h))) (Memᴰ.cases_cons m')
    go ih false m' = let h = ih m' in (omega (arith, h), omega (arith, h))

-- the same for ranges that start at 0
pub those_at : (f : ℕ → Bool) (n k : ℕ) → k < n → T (f k) → Memᴰ k (those f n 0)
those_at f n k h t =
    subst (λ (j : ℕ). Memᴰ j (those f n 0)) (zero-add k)
    (those_has f n 0 k h (subst (λ (j : ℕ). T (f j)) (sym (zero-add k)) t))

-- Lists chained: a loop over a range of m numbers, at i the rest starts at i.

module _ {X : Type 0} (f : ℕ → List X) where
  pub chained_start : (m : ℕ) → chained f m 0 ≡ chained f (m - 0) 0
  chained_start m = let e : m ≡ m - 0 = omega arith in ap (λ (n : ℕ). chained f n 0) e

  pub chained_past : (m i : ℕ) → i < m → chained f (m - i) i ≡ f i ++ chained f (m - (i + 1)) (i + 1)
  unfolding chained
  chained_past m i h = let q : m - i ≡ suc (m - (i + 1)) = omega arith in rw (q, add-one)

  pub chained_end : (m i : ℕ) → m ≤ i → chained f (m - i) i ≡ []
  unfolding chained
  chained_end m i h = let q : m - i ≡ 0 = omega arith in rw q

  -- members
  pub chained_from : (n i : ℕ) (x : X) → Memᴰ x (chained f n i) → (k : ℕ) × (i ≤ k) × (k < i + n) × Memᴰ x (f k)
  unfolding chained
  chained_from zero i x m = absurd (Memᴰ.not-nil m)
  chained_from (suc n) i x m =
      ⊎_elim (λ l. (i, omega arith, omega arith, l))
      (λ l. let r = chained_from n (suc i) x l in (r.0, omega (arith, r.1), omega (arith, r.2), r.3))
      (Memᴰ.append_cases (f i) m)

  pub chained_has : (n i k : ℕ) (x : X) → k < n → Memᴰ x (f (i + k)) → Memᴰ x (chained f n i)
  unfolding chained
  chained_has zero i k x h m = absurd (omega arith)
  chained_has (suc n) i zero x h m = Memᴰ.append_left _ (subst (λ (j : ℕ). Memᴰ x (f j)) (add-zero i) m)
  chained_has (suc n) i (suc k) x h m =
      Memᴰ.append_right (f i)
      (chained_has n (suc i) k x (omega arith) (subst (λ (j : ℕ). Memᴰ x (f j)) (add-suc i k ∙ sym (suc-add i k)) m))

  -- the same for ranges that start at 0
  pub chained_at : (n k : ℕ) (x : X) → k < n → Memᴰ x (f k) → Memᴰ x (chained f n 0)
  chained_at n k x h m = chained_has n 0 k x h (subst (λ (j : ℕ). Memᴰ x (f j)) (sym (zero-add k)) m)

-- lists that agree over the range
pub chained_same : {X : Type 0} (f g : ℕ → List X) (n i : ℕ) → ((k : ℕ) → i ≤ k → k < i + n → f k ≡ g k) → chained f n i ≡ chained g n i
unfolding chained
chained_same f g zero i e = refl
chained_same f g (suc n) i e =
    ap₂ (λ (x y : List _). x ++ y) (e i (omega arith) (omega arith)) (chained_same f g n (suc i) (λ k p q. e k (omega arith) (omega arith)))
