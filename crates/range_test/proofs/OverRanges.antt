-- The sum of what is mapped over a range of numbers, and bounds on such sums.
-- Assumes nothing.
use mathlib.Core.Path.{◌≡◌, sym, ap, ◌∙◌}
use mathlib.Core.Bool.{Bool, true, false}
use mathlib.Core.List.{List, map}
use Prim.Native.Nat.{ℕ, zero, suc, ◌+◌, ◌-◌, ◌*◌, ◌/◌, ◌≤◌, ◌<◌}
use native.Mathlib.Nat.{add-zero, zero-add, mul-suc}
use native.Mathlib.Numerals.{add-one}
use native.Mathlib.Omega.{arith}
use denote.Param.Members.{Mut}
use Rattle.std.specs.declared.ops.Range.{Range}
use Rattle.std.specs.declared.iter.Map.{Map}
use Rattle.std.specs.Bool.{⊤}
use Rattle.std.specs.Fn.{Called}
use Rattle.std.specs.Iterator.{Drains}
use Rattle.std.specs.Iterator.Adapters.{map_source, map_callee}
use Rattle.std.specs.Iterator.Runs.{EachRunFrom}
use Rattle.std.specs.List.{fold, range_with_len}
use Rattle.std.proofs.iter.Yields.{nat_range_steps}
use Rattle.std.proofs.lemmas.Iterator.{maps, YieldsList-from_range, YieldsList-from_map}
use Rattle.std.proofs.lemmas.Iterator.Adapters.{at_most_from_yields_List, fits_from_length, total_from_yields_List}
use Rattle.std.proofs.lemmas.List.FromFn.{length-range_with_len}
use Rattle.automaton.specs.Automata.{one}
use Rattle.automaton.specs.Ranges.{total}

total_listed : (f : ℕ → ℕ) (c n i : ℕ) → fold (λ a x. a + x) c (map f (range_with_len i n)) ≡ c + total f n i
unfolding total
total_listed f c zero i = sym (add-zero c)
total_listed f c (suc n) i =
    ap (λ (k : ℕ). fold (λ a x. a + x) (c + f i) (map f (range_with_len k n))) (add-one i)
    ∙ total_listed f (c + f i) n (suc i)
    ∙ omega arith

total_folded : (f : ℕ → ℕ) (n : ℕ) → fold (λ a x. a + x) 0 (map f (range_with_len 0 n)) ≡ total f n 0
total_folded f n = total_listed f 0 n 0 ∙ zero-add (total f n 0)

-- `map` and `sum` over the numbers below n: the sum of f over them, ..
pub total_from_sum : {F : Type 0} {g : Mut F (ℕ × Unit {0}) ℕ} {s : Map (Range ℕ) F} (f : ℕ → ℕ) (n : ℕ) (k : F) (r : ℕ)
    → (xs : List ℕ) × (⊤ → Drains (maps nat_range_steps g) s xs) × (r ≡ fold (λ a x. a + x) 0 xs)
    → map_source s ≡ record { start = 0; end = n } → map_callee s ≡ k
    → ((x r : ℕ) (q : F) → Called g k (x, tt) r q → (q ≡ k) × (r ≡ f x)) → r ≡ total f n 0
total_from_sum {g = g} f n k r ran e d calls =
    total_from_yields_List (λ a x. a + x) 0 r ran (YieldsList-from_map g f (YieldsList-from_range 0 n n e (omega arith)) d calls) ∙ total_folded f n

-- .. which fits where n is at most m, and what is mapped is small enough
pub sum_fits : {F : Type 0} {s : Map (Range ℕ) F} (g : Mut F (ℕ × Unit {0}) ℕ) (k : F) (n m top : ℕ) → n ≤ m
    → map_source s ≡ record { start = 0; end = n } → map_callee s ≡ k → 0 < top
    → ((x r : ℕ) (q : F) → Called g k (x, tt) r q → (q ≡ k) × (r ≤ (top - 1) / m))
    → EachRunFrom (maps nat_range_steps g) s (λ p. fold (λ a x. a + x) 0 p.items < top)
sum_fits g k n m top h e d l calls =
    fits_from_length g k m top
    (at_most_from_yields_List (YieldsList-from_range 0 n n e (omega arith)) (omega (arith, length-range_with_len 0 n))) d l calls

-- a sum of numbers that are not above m
pub total_few : (f : ℕ → ℕ) (m n i : ℕ) → ((k : ℕ) → f k ≤ m) → total f n i ≤ m * n
unfolding total
total_few f m zero i h = omega arith
total_few f m (suc n) i h = let l = total_few f m n (suc i) h in let g = h i in rw mul-suc (omega arith)

pub one_few : (b : Bool) → one b ≤ 1
one_few true = omega arith
one_few false = omega arith

-- of n states not more than n pass a test
pub passing_few : (f : ℕ → Bool) (n : ℕ) → total (λ r. one (f r)) n 0 ≤ n
passing_few f n = let l = total_few (λ r. one (f r)) 1 n 0 (λ k. one_few (f k)) in omega arith
