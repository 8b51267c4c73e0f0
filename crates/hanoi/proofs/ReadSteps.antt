-- The steps of the reader, as the code takes them: what is over stays as it is, an edge belongs to the state of the part before it, and a state is declared
-- where one of the parts declares it. Each is an equation of the definitions. Assumes nothing.
use mathlib.Core.Path.{◌≡◌, refl}
use mathlib.Core.Bool.{Bool, true, false, ◌||◌}
use mathlib.Core.List.{List, [], ◌∷◌}
use Prim.Native.Nat.{ℕ, zero, suc}
use lib.Dec.{eqb}
use Rattle.labels.specs.Labels.{Label}
use Rattle.hanoi.specs.Descriptions.{Part, declared, edge, Description}
use Rattle.hanoi.specs.Reading.{Read, outside, over, next, is_declared, edge_at, edge_of, part_at, body}

pub body_over : (n : ℕ) (s : List ℕ) (r : Read) → body n s (over r) ≡ r
unfolding body
body_over zero s r = refl
body_over (suc n) s r = refl

pub body_on : (n : ℕ) (s : List ℕ) (i : ℕ) (D : Description) → body (suc n) s (next i D) ≡ body n s (part_at s i D)
unfolding body
body_on n s i D = refl

module _ (s : List ℕ) (i : ℕ) (D : Description) where
  pub edge_first_step : edge_of s i [] D ≡ outside
  unfolding edge_of
  edge_first_step = refl

  pub edge_state_step : (q : ℕ) (b : Bool) (xs : List Part) → edge_of s i (declared q b ∷ xs) D ≡ edge_at s i q D
  unfolding edge_of
  edge_state_step q b xs = refl

  pub edge_again_step : (q : ℕ) (L : Label) (r : ℕ) (xs : List Part) → edge_of s i (edge q L r ∷ xs) D ≡ edge_at s i q D
  unfolding edge_of
  edge_again_step q L r xs = refl

module _ (q : ℕ) where
  pub declared_none : is_declared q [] ≡ false
  unfolding is_declared
  declared_none = refl

  pub declared_state : (p : ℕ) (b : Bool) (xs : List Part) → is_declared q (declared p b ∷ xs) ≡ (eqb q p || is_declared q xs)
  unfolding is_declared
  declared_state p b xs = by (eqb q p)
    where
      by : (c : Bool) → elim c [ true ↦ true | false ↦ is_declared q xs ] ≡ (c || is_declared q xs)
      by true = refl
      by false = refl

  pub declared_edge : (p : ℕ) (L : Label) (r : ℕ) (xs : List Part) → is_declared q (edge p L r ∷ xs) ≡ is_declared q xs
  unfolding is_declared
  declared_edge p L r xs = refl
