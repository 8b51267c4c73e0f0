-- What the lag rule takes and no direct simulation shows: F and G contain each other at bound 1 (K1 and K4), and no direct simulation of G
-- by F exists, since that would be containment at bound 0 (K3). Assumes nothing.
use mathlib.Core.Path.{◌≡◌, refl, subst, sym}
use mathlib.Core.Logic.{inl}
use mathlib.Core.List.Memᴰ
use mathlib.Core.List.{[], ◌∷◌}
use Prim.Native.Nat.{ℕ, ◌+◌, ◌*◌}
use native.Mathlib.Omega.{arith}
use Rattle.automaton.specs.declared.Automaton.{Automaton}
use Rattle.runs.specs.Containment.{Contained}
use Rattle.runs.specs.Simulation.{DirectSimulation}
use Rattle.runs.proofs.Simulation.{direct_simulation_contained}
use Rattle.format.specs.File.{holds, read_file}
use Rattle.format.proofs.FileLaws.{read_same}
use Rattle.answers.specs.Contain.{contained, differs, outcome_of}
use Rattle.answers.proofs.ContainTheorem.{demand_2}
use Rattle.boundary.proofs.ContainNumber.{contain_number}
use Rattle.cases.specs.Worked.{F, G}
use Rattle.cases.specs.Cases.{call, buffer}
use Rattle.cases.proofs.ProvedCases.{proved_cases}

contained_same : {A B C D : Automaton} (b : ℕ) → A ≡ C → B ≡ D → Contained A B b → Contained C D b
contained_same {B = B} {C = C} b d e c = subst (λ (X : Automaton). Contained C X b) e (subst (λ (X : Automaton). Contained X B b) d c)

k1 : outcome_of F G 1 (buffer 400) (buffer 4) ≡ contained 5
k1 =
    (contain_number F G 1 (buffer 400) (buffer 4) (contained 5) (omega arith)).0
    (proved_cases (call F G 1 400 4 (256 * 5) []) (Memᴰ.head refl)).0

k3 : outcome_of G F 0 (buffer 400) (buffer 4) ≡ differs 2 1
k3 =
    (contain_number G F 0 (buffer 400) (buffer 4) (differs 2 1) (omega arith, omega arith)).0
    (proved_cases (call G F 0 400 4 (1 + 256 * 2 + 16777216 * 1) (0 ∷ [])) (Memᴰ.tail (Memᴰ.tail (Memᴰ.head refl)))).0

k4 : outcome_of G F 1 (buffer 400) (buffer 4) ≡ contained 8
k4 =
    (contain_number G F 1 (buffer 400) (buffer 4) (contained 8) (omega arith)).0
    (proved_cases (call G F 1 400 4 (256 * 8) [])
    (Memᴰ.tail (Memᴰ.tail (Memᴰ.tail (Memᴰ.tail (Memᴰ.head refl)))))).0

module _ (A B : Automaton) (rF : read_file F ≡ holds A) (rG : read_file G ≡ holds B) where
  pub lag_takes : Contained A B 1 × Contained B A 1
  lag_takes =
      let p = (demand_2 F G 1 (buffer 400) (buffer 4)).contained_iff.0 (5, k1) in
      let q = (demand_2 G F 1 (buffer 400) (buffer 4)).contained_iff.0 (8, k4) in
      let a = read_same p.first_read rF in
      let b = read_same p.second_read rG in
      let c = read_same q.first_read rG in
      let d = read_same q.second_read rF in
      (contained_same 1 a b p.condition.1, contained_same 1 c d q.condition.1)

  pub no_direct_simulation : (R : ℕ → ℕ → Type 0) → DirectSimulation B A R → ⊥
  no_direct_simulation R s =
      let p = (demand_2 G F 0 (buffer 400) (buffer 4)).differs_iff.0 (inl (2, 1, k3)) in
      let a = read_same p.first_read rG in
      let b = read_same p.second_read rF in
      p.condition.1 (contained_same 0 (sym a) (sym b) (direct_simulation_contained B A R s 0))
