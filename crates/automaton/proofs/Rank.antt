-- The bound on editions (01, "Entry, open, offer"): with n states there are 16 n² + 1 possible numbers of transitions, 0 included, and added up
-- for all 32 numbers of states that makes 183,072 pairs. An automaton's rank is the place of its pair in the order by states and then by
-- transitions: it is below that number, and a smaller automaton has a lower one. Assumes nothing.
use mathlib.Core.Path.{◌≡◌, refl, sym, ap, subst, ◌∙◌}
use mathlib.Core.Bool.{Bool, true, false}
use mathlib.Core.Logic.{◌⊎◌, inl, inr}
use Prim.Native.Nat.{ℕ, zero, suc, ◌+◌, ◌*◌, ◌≤◌, ◌<◌}
use native.Mathlib.Nat.{eq-or-lt_of_le, le_trans, le_of_eq, mul-le-mul, mul_left_comm, mul-one}
use native.Mathlib.Omega.{arith}
use Rattle.automaton.specs.declared.Automaton.{Automaton}
use Rattle.automaton.specs.Ranges.{total}
use Rattle.automaton.specs.Automata.{max_states, max_letters, transition, one, transition_count, InRange}

-- how many pairs have at most n states: the sum over i from 1 to n of 16 i² + 1
abbrev pub pairs_to : ℕ → ℕ
pairs_to zero = 0
pairs_to (suc n) = pairs_to n + (16 * (suc n * suc n) + 1)

pub all_pairs : pairs_to max_states ≡ 183072
all_pairs = refl

-- the rank of the pair of n states and m transitions
abbrev rank_of : ℕ → ℕ → ℕ
rank_of zero m = 0
rank_of (suc n) m = pairs_to n + m

unfoldable pub rank : Automaton → ℕ
rank A = rank_of A.states (transition_count A)

pairs_to_mono : (a b : ℕ) → a ≤ b → pairs_to a ≤ pairs_to b
pairs_to_mono zero zero h = omega arith
pairs_to_mono (suc a) zero h = absurd (omega arith)
pairs_to_mono a (suc b) h = go (λ l. pairs_to_mono a b l) (eq-or-lt_of_le h)
  where
    go : (a ≤ b → pairs_to a ≤ pairs_to b) → (a ≡ suc b) ⊎ (a < suc b) → pairs_to a ≤ pairs_to (suc b)
    go ih (inl e) = rw e (omega arith)
    go ih (inr l) = omega (arith, ih (omega arith))

rank_of_below : (n m : ℕ) → 1 ≤ n → m ≤ 16 * (n * n) → rank_of n m < pairs_to n
rank_of_below zero m p h = absurd (omega arith)
rank_of_below (suc n) m p h = omega arith

rank_of_above : (n k m : ℕ) → n < k → pairs_to n ≤ rank_of k m
rank_of_above n zero m h = absurd (omega arith)
rank_of_above n (suc k) m h = omega (arith, pairs_to_mono n k (omega arith))

rank_of_mono : (n i j : ℕ) → 1 ≤ n → i < j → rank_of n i < rank_of n j
rank_of_mono zero i j p h = absurd (omega arith)
rank_of_mono (suc n) i j p h = omega arith

pub total_le : (f : ℕ → ℕ) (m n i : ℕ) → ((k : ℕ) → f k ≤ m) → total f n i ≤ n * m
unfolding total
total_le f m zero i h = omega arith
total_le f m (suc n) i h =
    let e : suc n * m ≡ m + n * m = omega arith in
    omega (arith, h i, total_le f m n (suc i) h)

pub one_le : (x : Bool) → one x ≤ 1
one_le true = omega arith
one_le false = omega arith

-- there are at most 16 n² transitions
pub transition_count_le : (A : Automaton) → A.letters ≤ max_letters → transition_count A ≤ 16 * (A.states * A.states)
unfolding transition_count
transition_count_le A h =
    let n = A.states in
    let into : ℕ → ℕ → ℕ = λ q a. total (λ r. one (transition A q a r)) n 0 in
    let on : ℕ → ℕ = λ q. total (into q) A.letters 0 in
    let t₁ : (q a : ℕ) → into q a ≤ n * 1 = λ q a. total_le (λ r. one (transition A q a r)) 1 n 0 (λ r. one_le (transition A q a r)) in
    let t₂ : (q : ℕ) → on q ≤ 16 * (n * 1) =
    λ q. le_trans (total_le (into q) (n * 1) A.letters 0 (t₁ q)) (mul-le-mul h (omega arith)) in
    le_trans (total_le on (16 * (n * 1)) n 0 t₂) (le_of_eq (mul_left_comm n 16 (n * 1) ∙ ap (λ (x : ℕ). 16 * (n * x)) (mul-one n)))

rank_below_pairs : (A : Automaton) → InRange A → rank A < pairs_to A.states
unfolding rank
rank_below_pairs A c = rank_of_below A.states (transition_count A) c.some_states (transition_count_le A c.few_letters)

pub rank_below : (A : Automaton) → InRange A → rank A < 183072
rank_below A c = omega (arith, rank_below_pairs A c, pairs_to_mono A.states max_states c.few_states, all_pairs)

pub rank_falls : (B A : Automaton) → InRange B → InRange A
    → (B.states < A.states) ⊎ ((B.states ≡ A.states) × (transition_count B < transition_count A)) → rank B < rank A
unfolding rank
rank_falls B A b a (inl h) = omega (arith, rank_below_pairs B b, rank_of_above B.states A.states (transition_count A) h)
rank_falls B A b a (inr h) =
    subst (λ (n : ℕ). rank_of n (transition_count B) < rank A) (sym h.0)
    (rank_of_mono A.states (transition_count B) (transition_count A) a.some_states h.1)
