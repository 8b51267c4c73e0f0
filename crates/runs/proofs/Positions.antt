-- The lag by positions, as the definition has it, is the lag by induction over the two runs: a stretch or a lag gives its
-- positions, and positions give it back, each by induction over the runs. Assumes nothing.
use mathlib.Core.Path.{◌≡◌, refl, sym, ap, subst, ◌∙◌}
use mathlib.Core.Bool.{not}
use mathlib.Core.Logic.{⊎_elim, ◌↔◌}
use mathlib.Core.List.Memᴰ.{head as first}
use mathlib.Core.List.Memᴰ.{tail as later}
use mathlib.Core.List.{List, [], ◌∷◌, map, Memᴰ as Mem}
use mathlib.Core.List.Memᴰ.{cases_cons}
use mathlib.Core.List.Memᴰ.{not-nil}
use Prim.Native.Nat.{ℕ, zero, suc, ◌-◌, ◌≤◌, ◌<◌}
use native.Mathlib.Nat.{not-suc-le-zero, le_of_suc-le-suc}
use native.Mathlib.Omega.{arith}
use lib.Dec.{T}
use lib.ListN.{length, get_or, length-map}
use Rattle.automaton.specs.declared.Automaton.{Automaton}
use Rattle.automaton.specs.Automata.{accepts}
use Rattle.runs.specs.Lag.{Ascending, none, more, Lagging, Lags}
use Rattle.runs.proofs.LagSteps.{Stretch, stop, take, pass, Lag, start, skip}
use Rattle.runs.proofs.ShiftedPositions.{mem_shifted, shifted_mem, ascending_shifted, shifted_ascending}
use Rattle.runs.proofs.ShiftedPositions.{above_zero_shifted, ascending_above_zero}

module _ (A B : Automaton) where
  -- the first run is accepting at each position
  Visits : List ℕ → List ℕ → Type 0
  Visits π xs = (x : ℕ) → Mem x xs → (x < length π) × T (accepts A (get_or π x 0))

  -- the second run is not accepting from here to the last position
  Upto : List ℕ → List ℕ → Type 0
  Upto ρ xs = (i y : ℕ) → Mem y xs → i ≤ y → T (not (accepts B (get_or ρ i 0)))

  visits_shifted : (p : ℕ) (π zs : List ℕ) → Visits π zs → Visits (p ∷ π) (map suc zs)
  unfolding Visits
  visits_shifted p π zs h y m =
      let r = shifted_mem y zs m in
      let q = h r.0 r.2 in
      subst (λ (n : ℕ). (n < suc (length π)) × T (accepts A (get_or (p ∷ π) n 0))) (sym r.1) (omega arith, q.1)

  shifted_visits : (p : ℕ) (π zs : List ℕ) → Visits (p ∷ π) (map suc zs) → Visits π zs
  unfolding Visits
  shifted_visits p π zs h x m = let q = h (suc x) (mem_shifted x zs m) in (le_of_suc-le-suc q.0, q.1)

  upto_shifted : (r : ℕ) (ρ zs : List ℕ) → T (not (accepts B r)) → Upto ρ zs → Upto (r ∷ ρ) (map suc zs)
  unfolding Upto
  upto_shifted r ρ zs t h zero y m q = t
  upto_shifted r ρ zs t h (suc i) y m q = let d = shifted_mem y zs m in let e = d.1 in h i d.0 d.2 (omega arith)

  shifted_upto : (r : ℕ) (ρ zs : List ℕ) → Upto (r ∷ ρ) (map suc zs) → Upto ρ zs
  unfolding Upto
  shifted_upto r ρ zs h i y m q = h (suc i) (suc y) (mem_shifted y zs m) (omega arith)

  lagging_shifted : (p r : ℕ) (π ρ zs : List ℕ) → Lagging A B π ρ zs → Lagging A B (p ∷ π) (r ∷ ρ) (map suc zs)
  unfolding Visits
  lagging_shifted p r π ρ zs k =
      record {
        ascending = ascending_shifted k.ascending;
        visits = visits_shifted p π zs k.visits;
        between =
            λ x i y m o h q.
            let d = shifted_mem x zs m in
            let f = shifted_mem y zs o in
            let e : suc (i - 1) ≡ i = omega (arith, d.1) in
            subst (λ (n : ℕ). T (not (accepts B (get_or (r ∷ ρ) n 0)))) e
            (k.between d.0 (i - 1) f.0 d.2 f.2 (omega (arith, d.1)) (omega (arith, d.1, f.1)));
      }

  shifted_lagging : (p r : ℕ) (π ρ zs : List ℕ) → Lagging A B (p ∷ π) (r ∷ ρ) (map suc zs) → Lagging A B π ρ zs
  unfolding Visits
  shifted_lagging p r π ρ zs k =
      record {
        ascending = shifted_ascending zs k.ascending;
        visits = shifted_visits p π zs k.visits;
        between =
            λ x i y m o h q.
            k.between (suc x) (suc i) (suc y) (mem_shifted x zs m) (mem_shifted y zs o) (omega arith) (omega arith);
      }

  -- The positions of a stretch, and of a lag.

  record StretchPositions (j : ℕ) (π ρ : List ℕ) : Type 0 where
    xs : List ℕ
    size : length xs ≡ j
    ascending : Ascending xs
    visits : Visits π xs
    upto : Upto ρ xs

  stretch_positions : {j : ℕ} {π ρ : List ℕ} → Stretch A B j π ρ → StretchPositions j π ρ
  unfolding Visits Upto
  stretch_positions stop =
      record {
        xs = [];
        size = refl;
        ascending = none;
        visits = λ x m. absurd (not-nil m);
        upto = λ i y m q. absurd (not-nil m);
      }
  stretch_positions (take {p = p} {r = r} {π = π} {ρ = ρ} a t k) =
      let n = stretch_positions k in
      record {
        xs = 0 ∷ map suc n.xs;
        size = ap suc (length-map n.xs suc ∙ n.size);
        ascending =
            more {x = 0} (λ y m. let d = shifted_mem y n.xs m in omega (arith, d.1)) (ascending_shifted n.ascending);
        visits =
            λ x m. ⊎_elim
            (λ e. subst (λ (n : ℕ). (n < suc (length π)) × T (accepts A (get_or (p ∷ π) n 0))) (sym e) (omega arith, a))
            (λ q. visits_shifted p π n.xs n.visits x q) (cases_cons m);
        upto =
            λ i y m q. ⊎_elim
            (λ e. let z : i ≡ 0 = omega arith in subst (λ (n : ℕ). T (not (accepts B (get_or (r ∷ ρ) n 0)))) (sym z) t)
            (λ z. upto_shifted r ρ n.xs t n.upto i y z q) (cases_cons m);
      }
  stretch_positions (pass {p = p} {r = r} {π = π} {ρ = ρ} t k) =
      let n = stretch_positions k in
      record {
        xs = map suc n.xs;
        size = length-map n.xs suc ∙ n.size;
        ascending = ascending_shifted n.ascending;
        visits = visits_shifted p π n.xs n.visits;
        upto = upto_shifted r ρ n.xs t n.upto;
      }

  pub lag_positions : {j : ℕ} {π ρ : List ℕ} → Lag A B j π ρ → Lags A B π ρ j
  unfolding Lags Visits Upto
  lag_positions (start k) =
      let n = stretch_positions k in (
        n.xs,
        n.size,
        record { ascending = n.ascending; visits = n.visits; between = λ x i y m o p q. n.upto i y o (omega arith) },
      )
  lag_positions (skip {p = p} {r = r} {π = π} {ρ = ρ} k) =
      let n = lag_positions k in
      (map suc n.0, length-map n.0 suc ∙ n.1, lagging_shifted p r π ρ n.0 n.2)

  -- And back: a stretch, and a lag, of its positions.

  positions_stretch : (π ρ xs : List ℕ) → length π ≡ length ρ → Ascending xs → Visits π xs → Upto ρ xs → Stretch A B (length xs) π ρ
  unfolding Visits Upto
  positions_stretch [] ρ [] l a v u = stop
  positions_stretch [] ρ (x ∷ xs) l a v u = absurd (not-suc-le-zero (v x (first refl)).0)
  positions_stretch (p ∷ π) [] xs l a v u = absurd (omega arith)
  positions_stretch (p ∷ π) (r ∷ ρ) [] l a v u = stop
  positions_stretch (p ∷ π) (r ∷ ρ) (zero ∷ xs) l (more h a) v u =
      let n = above_zero_shifted xs (λ y m. h y m) in
      let e = n.1 in
      let v' = subst (Visits (p ∷ π)) e (λ x m. v x (later m)) in
      let u' = subst (Upto (r ∷ ρ)) e (λ i y m q. u i y (later m) q) in
      let k =
      positions_stretch π ρ n.0 (omega arith) (shifted_ascending n.0 (subst Ascending e a))
      (shifted_visits p π n.0 v') (shifted_upto r ρ n.0 u') in
      take (v 0 (first refl)).1 (u 0 0 (first refl) (omega arith))
      (subst (λ (j : ℕ). Stretch A B j π ρ) (sym (ap length e ∙ length-map n.0 suc)) k)
  positions_stretch (p ∷ π) (r ∷ ρ) (suc x ∷ xs) l a v u =
      let n = above_zero_shifted (suc x ∷ xs) (ascending_above_zero x xs a) in
      let e = n.1 in
      let k =
      positions_stretch π ρ n.0 (omega arith) (shifted_ascending n.0 (subst Ascending e a))
      (shifted_visits p π n.0 (subst (Visits (p ∷ π)) e v)) (shifted_upto r ρ n.0 (subst (Upto (r ∷ ρ)) e u)) in
      pass (u 0 (suc x) (first refl) (omega arith))
      (subst (λ (j : ℕ). Stretch A B j π ρ) (sym (ap length e ∙ length-map n.0 suc)) k)

  pub positions_lag : (π ρ xs : List ℕ) → length π ≡ length ρ → Lagging A B π ρ xs → Lag A B (length xs) π ρ
  unfolding Visits Upto
  positions_lag [] ρ [] l k = start stop
  positions_lag [] ρ (x ∷ xs) l k = absurd (not-suc-le-zero (k.visits x (first refl)).0)
  positions_lag (p ∷ π) [] xs l k = absurd (omega arith)
  positions_lag (p ∷ π) (r ∷ ρ) [] l k = start stop
  positions_lag (p ∷ π) (r ∷ ρ) (zero ∷ xs) l k =
      start
      (positions_stretch (p ∷ π) (r ∷ ρ) (zero ∷ xs) l k.ascending k.visits
      (λ i y m q. k.between 0 i y (first refl) m (omega arith) q))
  positions_lag (p ∷ π) (r ∷ ρ) (suc x ∷ xs) l k =
      let n = above_zero_shifted (suc x ∷ xs) (ascending_above_zero x xs k.ascending) in
      let e = n.1 in
      let m = positions_lag π ρ n.0 (omega arith) (shifted_lagging p r π ρ n.0 (subst (Lagging A B (p ∷ π) (r ∷ ρ)) e k)) in
      skip (subst (λ (j : ℕ). Lag A B j π ρ) (sym (ap length e ∙ length-map n.0 suc)) m)

  -- there is a lag of j by induction exactly when there are j positions
  pub lag_iff_positions : (j : ℕ) (π ρ : List ℕ) → length π ≡ length ρ → Lag A B j π ρ ↔ Lags A B π ρ j
  unfolding Lags
  lag_iff_positions j π ρ l = (
    lag_positions,
    λ n. subst (λ (i : ℕ). Lag A B i π ρ) n.1 (positions_lag π ρ n.0 l n.2),
  )
