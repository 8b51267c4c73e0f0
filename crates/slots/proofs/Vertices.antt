-- Two vertices are the same exactly if they are equal, and the counters of a vertex are all 0 exactly if none is above 0.
-- Assumes nothing.
use mathlib.Core.Path.{◌≡◌, refl, ap₂}
use mathlib.Core.List.{List, [], ◌∷◌}
use Prim.Native.Nat.{ℕ, zero, suc, ◌<◌}
use native.Mathlib.Omega.{arith}
use lib.Dec.{T, eqb, eqb→eq, eqb_refl}
use lib.ListN.{length, get_or}
use Rattle.automaton.proofs.Booleans.{and_both, both_and}
use Rattle.slots.specs.declared.Vertex.{Vertex}
use Rattle.slots.specs.Slots.{same_list, same_vertex, all_zero}

pub same_list_eq : (xs ys : List ℕ) → T (same_list xs ys) → xs ≡ ys
unfolding same_list
same_list_eq [] [] t = refl
same_list_eq [] (y ∷ ys) t = absurd t
same_list_eq (x ∷ xs) [] t = absurd t
same_list_eq (x ∷ xs) (y ∷ ys) t =
    let h = and_both (eqb x y) (same_list xs ys) t in
    ap₂ ◌∷◌ (eqb→eq x y h.0) (same_list_eq xs ys h.1)

pub same_list_refl : (xs : List ℕ) → T (same_list xs xs)
unfolding same_list
same_list_refl [] = tt
same_list_refl (x ∷ xs) = both_and (eqb x x) (same_list xs xs) (eqb_refl x) (same_list_refl xs)

pub same_vertex_eq : (u v : Vertex) → T (same_vertex u v) → u ≡ v
unfolding same_vertex
same_vertex_eq u v t =
    let h = and_both (eqb u.left v.left) (same_list u.counters v.counters) t in
    ap₂ (λ (l : ℕ) (cs : List ℕ). record { left = l; counters = cs }) (eqb→eq u.left v.left h.0)
    (same_list_eq u.counters v.counters h.1)

pub same_vertex_refl : (v : Vertex) → T (same_vertex v v)
unfolding same_vertex
same_vertex_refl v =
    both_and (eqb v.left v.left) (same_list v.counters v.counters) (eqb_refl v.left)
    (same_list_refl v.counters)

-- counters that are not all 0 have one above 0
pub not_all_zero : (cs : List ℕ) → (T (all_zero cs) → ⊥) → (r : ℕ) × (r < length cs) × (0 < get_or cs r 0)
unfolding all_zero
not_all_zero [] h = absurd (h tt)
not_all_zero (zero ∷ cs) h = let r = not_all_zero cs h in (suc r.0, omega (arith, r.1), r.2)
not_all_zero (suc c ∷ cs) h = (0, omega arith, omega arith)

pub all_zero_at : (cs : List ℕ) → T (all_zero cs) → (r : ℕ) → get_or cs r 0 ≡ 0
unfolding all_zero
all_zero_at [] t r = refl
all_zero_at (c ∷ cs) t zero = eqb→eq c 0 (and_both (eqb c 0) (all_zero cs) t).0
all_zero_at (c ∷ cs) t (suc r) = all_zero_at cs (and_both (eqb c 0) (all_zero cs) t).1 r
