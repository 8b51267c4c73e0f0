-- Runs joined, split, extended and bounded. Assumes nothing.
use mathlib.Core.Path.{◌≡◌, refl, ap}
use mathlib.Core.List.{List, [], ◌∷◌, ◌++◌}
use Prim.Native.Nat.{ℕ, suc, ◌<◌}
use lib.ListN.{length}
use Rattle.automaton.specs.declared.Automaton.{Automaton}
use Rattle.runs.specs.Runs.{Run, here, step}
use Rattle.automaton.proofs.Transitions.{transition_into}

pub run_length : {A : Automaton} {p q : ℕ} {w ts : List ℕ} → Run A p w q ts → length ts ≡ length w
run_length here = refl
run_length (step x k) = ap suc (run_length k)

pub run_append : {A : Automaton} {p q r : ℕ} {w x ts us : List ℕ} → Run A p w q ts → Run A q x r us → Run A p (w ++ x) r (ts ++ us)
run_append here s = s
run_append (step h r) s = step h (run_append r s)

pub record Parts (A : Automaton) (p : ℕ) (w x : List ℕ) (r : ℕ) (ts : List ℕ) : Type 0 where
  pub mid : ℕ
  pub ts₁ : List ℕ
  pub ts₂ : List ℕ
  pub run₁ : Run A p w mid ts₁
  pub run₂ : Run A mid x r ts₂
  pub all : ts ≡ ts₁ ++ ts₂

pub run_split : {A : Automaton} {p r : ℕ} {ts : List ℕ} (w x : List ℕ) → Run A p (w ++ x) r ts → Parts A p w x r ts
run_split {p = p} {ts = ts} [] x k = record { mid = p; ts₁ = []; ts₂ = ts; run₁ = here; run₂ = k; all = refl }
run_split (a ∷ w) x (step {t = t} h k) =
    let i = run_split w x k in
    record { mid = i.mid; ts₁ = t ∷ i.ts₁; ts₂ = i.ts₂; run₁ = step h i.run₁; run₂ = i.run₂; all = ap (λ (l : List ℕ). t ∷ l) i.all }

pub run_below : {A : Automaton} {p q : ℕ} {w ts : List ℕ} → p < A.states → Run A p w q ts → q < A.states
run_below h here = h
run_below {A} h (step {p = p} {a = a} {t = t} x k) = run_below (transition_into A p a t x) k
