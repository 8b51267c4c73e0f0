-- The lag of two run prefixes by induction over the two together, and the counter that follows it: the counter starts at b + 1,
-- rises to b + 1 where the second run accepts, falls by 1 where only the first does, and stays above 0 exactly when the lag is
-- at most b. Assumes nothing.
use mathlib.Core.Path.{◌≡◌, refl, sym, subst}
use mathlib.Core.Bool.{Bool, true, false, not}
use mathlib.Core.List.{List, [], ◌∷◌}
use mathlib.Core.Logic.{◌↔◌}
use Prim.Native.Nat.{ℕ, suc, ◌+◌, ◌-◌, ◌≤◌, ◌<◌}
use native.Mathlib.Omega.{arith}
use lib.Dec.{T}
use Rattle.automaton.specs.declared.Automaton.{Automaton}
use Rattle.automaton.specs.Automata.{accepts}

module _ (A B : Automaton) where
  -- j positions from here on where the first run is accepting, and up to the last of them the second run is not
  pub data Stretch : ℕ → List ℕ → List ℕ → Type 0 where
    stop : {π ρ : List ℕ} → Stretch 0 π ρ
    take : {j p r : ℕ} {π ρ : List ℕ} → T (accepts A p) → T (not (accepts B r)) → Stretch j π ρ → Stretch (suc j) (p ∷ π) (r ∷ ρ)
    pass : {j p r : ℕ} {π ρ : List ℕ} → T (not (accepts B r)) → Stretch j π ρ → Stretch j (p ∷ π) (r ∷ ρ)

  -- such positions from some place on
  pub data Lag : ℕ → List ℕ → List ℕ → Type 0 where
    start : {j : ℕ} {π ρ : List ℕ} → Stretch j π ρ → Lag j π ρ
    skip : {j p r : ℕ} {π ρ : List ℕ} → Lag j π ρ → Lag j (p ∷ π) (r ∷ ρ)

  unfoldable pub LagIn : ℕ → List ℕ → List ℕ → Type 0
  LagIn b π ρ = (j : ℕ) → Lag j π ρ → j ≤ b

  module _ (b : ℕ) where
    -- the counter after a position
    abbrev pub next : Bool → Bool → ℕ → ℕ
    next l true c = b + 1
    next true false c = c - 1
    next false false c = c

    -- the counter stays above 0
    abbrev pub Ok : ℕ → List ℕ → List ℕ → Type 0
    Ok c [] ρ = Unit {0}
    Ok c (p ∷ π) [] = Unit {0}
    Ok c (p ∷ π) (r ∷ ρ) =
        (0 < next (accepts A p) (accepts B r) c) × Ok (next (accepts A p) (accepts B r) c) π ρ

    next_bound : (l r : Bool) (c : ℕ) → c ≤ b + 1 → next l r c ≤ b + 1
    next_bound l true c h = omega arith
    next_bound true false c h = omega arith
    next_bound false false c h = h

    next_take : (l r : Bool) (c : ℕ) → T l → T (not r) → next l r c ≡ c - 1
    next_take true false c s t = refl
    next_take true true c s t = absurd t
    next_take false r c s t = absurd s

    next_pass : (l r : Bool) (c : ℕ) → T (not r) → next l r c ≤ c
    next_pass true false c t = omega arith
    next_pass false false c t = omega arith
    next_pass l true c t = absurd t

    ok_stretch : {j : ℕ} {π ρ : List ℕ} (c : ℕ) → 0 < c → Ok c π ρ → Stretch j π ρ → j < c
    ok_stretch c h o stop = h
    ok_stretch c h o (take {p = p} {r = r} s t k) =
        let e = next_take (accepts A p) (accepts B r) c s t in
        let m = ok_stretch (next (accepts A p) (accepts B r) c) o.0 o.1 k in
        omega arith
    ok_stretch c h o (pass {p = p} {r = r} t k) =
        let e = next_pass (accepts A p) (accepts B r) c t in
        let m = ok_stretch (next (accepts A p) (accepts B r) c) o.0 o.1 k in
        omega arith

    ok_lag : {j : ℕ} {π ρ : List ℕ} (c : ℕ) → 0 < c → c ≤ b + 1 → Ok c π ρ → Lag j π ρ → j ≤ b
    ok_lag c h g o (start k) = let m = ok_stretch c h o k in omega arith
    ok_lag c h g o (skip {p = p} {r = r} k) =
        ok_lag (next (accepts A p) (accepts B r) c) o.0 (next_bound (accepts A p) (accepts B r) c g) o.1 k

    lag_ok : (π ρ : List ℕ) (c : ℕ) → ((j : ℕ) → Stretch j π ρ → j < c) → ((j : ℕ) → Lag j π ρ → j ≤ b) → Ok c π ρ
    lag_ok [] ρ c s l = tt
    lag_ok (p ∷ π) [] c s l = tt
    lag_ok (p ∷ π) (r ∷ ρ) c s l =
        go (λ c' s'. lag_ok π ρ c' s' (λ j k. l j (skip k))) (accepts A p) (accepts B r) refl refl
      where
        go : ((c' : ℕ) → ((j : ℕ) → Stretch j π ρ → j < c') → Ok c' π ρ)
            → (x y : Bool) → accepts A p ≡ x → accepts B r ≡ y → (0 < next x y c) × Ok (next x y c) π ρ
        go ih x true ex ey = (omega arith, ih (b + 1) (λ j k. let m = l j (skip (start k)) in omega arith))
        go ih true false ex ey =
            let h : (j : ℕ) → Stretch j π ρ → suc j < c =
            λ j k. s (suc j) (take (subst T (sym ex) tt) (subst (λ (z : Bool). T (not z)) (sym ey) tt) k) in
            (let m = h 0 stop in omega arith, ih (c - 1) (λ j k. let m = h j k in omega arith))
        go ih false false ex ey =
            (s 0 stop, ih c (λ j k. s j (pass (subst (λ (z : Bool). T (not z)) (sym ey) tt) k)))

    pub lag_iff : (π ρ : List ℕ) → Ok (b + 1) π ρ ↔ LagIn b π ρ
    unfolding LagIn
    lag_iff π ρ = (
      λ o j k. ok_lag (b + 1) (omega arith) (omega arith) o k,
      λ l. lag_ok π ρ (b + 1) (λ j s. let m = l j (start s) in omega arith) l,
    )
