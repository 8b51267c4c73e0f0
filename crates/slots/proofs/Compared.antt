-- Vertices and counters compared one counter at a time, as the code compares them: a counter that differs decides, and so do
-- all of them together. Assumes nothing.
use mathlib.Core.Path.{◌≡◌, refl, sym, ap, subst}
use mathlib.Core.Bool.{Bool, true, false, ◌&&◌}
use mathlib.Core.Logic.{⊎_elim}
use mathlib.Core.List.{List, [], ◌∷◌}
use Prim.Native.Nat.{ℕ, zero, suc, ◌+◌, ◌<◌}
use native.Mathlib.Nat.{eq-or-lt_of_le}
use native.Mathlib.Numerals.{add-one}
use native.Mathlib.Omega.{arith}
use borrow.Author.Tests.{eq-eqb}
use lib.Dec.{T}
use lib.ListN.{length, get_or}
use Rattle.automaton.proofs.Booleans.{not_T_false, and_both, is_true, clash}
use Rattle.slots.specs.declared.Vertex.{Vertex}
use Rattle.slots.specs.Slots.{same_vertex, all_zero}
use Rattle.slots.proofs.Vertices.{same_vertex_eq, all_zero_at}

pub not_zero_at : (cs : List ℕ) (i : ℕ) → (get_or cs i 0 ≡ 0 → ⊥) → all_zero cs ≡ false
not_zero_at cs i n = not_T_false (all_zero cs) (λ t. n (all_zero_at cs t i))

pub zero_everywhere : (cs : List ℕ) → ((k : ℕ) → k < length cs → get_or cs k 0 ≡ 0) → all_zero cs ≡ true
unfolding all_zero
zero_everywhere [] h = refl
zero_everywhere (c ∷ cs) h = rw (eq-eqb c 0 (h 0 (omega arith))) (zero_everywhere cs (λ k l. h (suc k) (omega arith)))

-- f holds at the first n numbers
unfoldable pub every : (ℕ → Bool) → ℕ → Bool
every f zero = true
every f (suc n) = every f n && f n

pub every_more : (f : ℕ → Bool) (n : ℕ) (s : Bool) → s ≡ every f n → (s && f n) ≡ every f (n + 1)
unfolding every
every_more f n s e = rw (add-one, e)

every_at : (f : ℕ → Bool) (n : ℕ) → T (every f n) → (k : ℕ) → k < n → T (f k)
unfolding every
every_at f zero t k h = absurd (omega arith)
every_at f (suc n) t k h =
    let b = and_both (every f n) (f n) t in
    ⊎_elim (λ e. subst (λ (i : ℕ). T (f i)) (sym e) b.1) (λ l. every_at f n b.0 k l) (eq-or-lt_of_le {n = k} {m = n} (omega arith))

every_not : (f : ℕ → Bool) (n : ℕ) → every f n ≡ false → (k : ℕ) × (k < n) × (f k ≡ false)
unfolding every
every_not f zero e = clash refl e
every_not f (suc n) e = go (every f n) refl (every_not f n) e
  where
    go : (b : Bool) → every f n ≡ b → (every f n ≡ false → (k : ℕ) × (k < n) × (f k ≡ false)) → (b && f n) ≡ false
        → (k : ℕ) × (k < suc n) × (f k ≡ false)
    go true q again d = (n, omega arith, d)
    go false q again d = let w = again q in (w.0, omega (arith, w.1), w.2)

-- a test that is decided by the first n numbers
pub every_is : (f : ℕ → Bool) (n : ℕ) (x : Bool) → (((k : ℕ) → k < n → T (f k)) → x ≡ true)
    → ((k : ℕ) → k < n → f k ≡ false → x ≡ false) → every f n ≡ x
every_is f n x all one = go (every f n) refl
  where
    go : (b : Bool) → every f n ≡ b → b ≡ x
    go true e = sym (all (every_at f n (is_true (every f n) e)))
    go false e = let w = every_not f n e in sym (one w.0 w.1 w.2)

module _ (u v : Vertex) where
  pub left_differs : (u.left ≡ v.left → ⊥) → same_vertex u v ≡ false
  left_differs n = not_T_false (same_vertex u v) (λ t. n (ap (λ (x : Vertex). x.left) (same_vertex_eq u v t)))
