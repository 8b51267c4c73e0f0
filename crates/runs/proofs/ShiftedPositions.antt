-- Ascending positions moved one further, and back: what holds of a run's positions holds of them in a run with one state more in
-- front. By induction over the positions. Assumes nothing.
use mathlib.Core.Path.{◌≡◌, refl, ap}
use mathlib.Core.Logic.{⊎_elim}
use mathlib.Core.List.Memᴰ.{head as first}
use mathlib.Core.List.Memᴰ.{tail as later}
use mathlib.Core.List.{List, [], ◌∷◌, map, Memᴰ as Mem}
use mathlib.Core.List.Memᴰ.{cases_cons}
use mathlib.Core.List.Memᴰ.{not-nil}
use Prim.Native.Nat.{ℕ, zero, suc, ◌<◌}
use native.Mathlib.Nat.{not-suc-le-zero, le_of_suc-le-suc}
use native.Mathlib.Omega.{arith}
use Rattle.runs.specs.Lag.{Ascending, none, more}

pub mem_shifted : (x : ℕ) (zs : List ℕ) → Mem x zs → Mem (suc x) (map suc zs)
mem_shifted x [] m = absurd (not-nil m)
mem_shifted x (z ∷ zs) m = ⊎_elim (λ e. first (ap suc e)) (λ k. later (mem_shifted x zs k)) (cases_cons m)

pub shifted_mem : (y : ℕ) (zs : List ℕ) → Mem y (map suc zs) → (x : ℕ) × (y ≡ suc x) × Mem x zs
shifted_mem y [] m = absurd (not-nil m)
shifted_mem y (z ∷ zs) m =
    ⊎_elim (λ e. (z, e, first refl)) (λ k. let r = shifted_mem y zs k in (r.0, r.1, later r.2)) (cases_cons m)

pub ascending_shifted : {zs : List ℕ} → Ascending zs → Ascending (map suc zs)
ascending_shifted none = none
ascending_shifted (more {x = z} {xs = zs} h k) =
    more {x = suc z} (λ y m. let r = shifted_mem y zs m in omega (arith, r.1, h r.0 r.2)) (ascending_shifted k)

pub shifted_ascending : (zs : List ℕ) → Ascending (map suc zs) → Ascending zs
shifted_ascending [] k = none
shifted_ascending (z ∷ zs) (more h k) =
    more (λ y m. le_of_suc-le-suc (h (suc y) (mem_shifted y zs m))) (shifted_ascending zs k)

-- positions above 0 are positions one further
pub above_zero_shifted : (xs : List ℕ) → ((x : ℕ) → Mem x xs → 0 < x) → (zs : List ℕ) × (xs ≡ map suc zs)
above_zero_shifted [] h = ([], refl)
above_zero_shifted (zero ∷ xs) h = absurd (not-suc-le-zero (h 0 (first refl)))
above_zero_shifted (suc x ∷ xs) h =
    let r = above_zero_shifted xs (λ y m. h y (later m)) in
    (x ∷ r.0, ap (λ (l : List ℕ). suc x ∷ l) r.1)

-- ascending positions whose first is above 0 are all above 0
pub ascending_above_zero : (x : ℕ) (xs : List ℕ) → Ascending (suc x ∷ xs) → (y : ℕ) → Mem y (suc x ∷ xs) → 0 < y
ascending_above_zero x xs (more h k) y m = ⊎_elim (λ e. omega arith) (λ n. omega (arith, h y n)) (cases_cons m)
