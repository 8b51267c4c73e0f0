-- Runs on repeated words: laws of copies, runs that meet an accepting state after their first, and what puts them together to an
-- accepted lasso word. By induction over the copies and the runs. Assumes nothing.
use mathlib.Core.Path.{◌≡◌, refl, subst}
use mathlib.Core.Logic.{◌⊎◌, inl, inr}
use mathlib.Core.List.Memᴰ.{head as first}
use mathlib.Core.List.Memᴰ.{tail as later}
use mathlib.Core.List.{List, ◌∷◌, ◌++◌, append_assoc, Memᴰ as Mem}
use mathlib.Core.List.Memᴰ.{append_cases}
use mathlib.Core.List.Memᴰ.{cases_cons}
use mathlib.Core.List.Memᴰ.{append_left}
use Prim.Native.Nat.{ℕ, zero, suc, ◌+◌, ◌*◌, ◌≤◌}
use native.Mathlib.Omega.{arith}
use native.Mathlib.Nat.{suc-add, zero-mul, zero-add}
use lib.Dec.{T}
use lib.ListN.{length, length-append}
use Rattle.automaton.specs.declared.Automaton.{Automaton}
use Rattle.automaton.specs.Automata.{accepts}
use Rattle.runs.specs.Runs.{Run, here, step}
use Rattle.runs.specs.Lassos.{repeated, Meets, Accepted}
use Rattle.runs.proofs.Runs.{run_append, Parts, run_split}

-- Copies of a word.

pub copies_add : (m n : ℕ) (v : List ℕ) → repeated m v ++ repeated n v ≡ repeated (m + n) v
unfolding repeated
copies_add zero n v = rw (zero-add n)
copies_add (suc m) n v = rw (append_assoc, copies_add m n v, suc-add m n)

pub copies_mul : (m n : ℕ) (v : List ℕ) → repeated m (repeated n v) ≡ repeated (m * n) v
unfolding repeated
copies_mul zero n v = rw (zero-mul n)
copies_mul (suc m) n v =
    let e : suc m * n ≡ n + m * n = omega arith in
    rw (copies_mul m n v, copies_add n (m * n) v, e)

pub copies_some : (n : ℕ) (v : List ℕ) → 1 ≤ n → 1 ≤ length v → 1 ≤ length (repeated n v)
unfolding repeated
copies_some zero v h k = absurd (omega arith)
copies_some (suc n) v h k = omega (arith, length-append v (repeated n v))

-- a run round a loop, n times
pub run_copies : {A : Automaton} {q : ℕ} {w ts : List ℕ} (n : ℕ) → Run A q w q ts → Run A q (repeated n w) q (repeated n ts)
unfolding repeated
run_copies zero k = here
run_copies (suc n) k = run_append k (run_copies n k)

-- Runs between two states.

-- a run of A on w goes from p to q
abbrev pub Via : Automaton → ℕ → List ℕ → ℕ → Type 0
Via A p w q = (ts : List ℕ) × Run A p w q ts

-- one does that meets an accepting state after the first
abbrev pub Visit : Automaton → ℕ → List ℕ → ℕ → Type 0
Visit A p w q = (ts : List ℕ) × Run A p w q ts × Meets A ts

module _ (A : Automaton) (p : ℕ) (w : List ℕ) (q : ℕ) (x : List ℕ) (r : ℕ) where
  pub via_append : Via A p w q → Via A q x r → Via A p (w ++ x) r
  via_append s t = (s.0 ++ t.0, run_append s.1 t.1)

  pub visit_append : Visit A p w q → Via A q x r → Visit A p (w ++ x) r
  unfolding Meets
  visit_append s t = (s.0 ++ t.0, run_append s.1 t.1, (s.2.0, append_left t.0 s.2.1, s.2.2))

pub via_split : {A : Automaton} {p r : ℕ} (w x : List ℕ) → Via A p (w ++ x) r → (q : ℕ) × Via A p w q × Via A q x r
via_split w x t = let s = run_split w x t.1 in (s.mid, (s.ts₁, s.run₁), (s.ts₂, s.run₂))

-- the accepting state is met in the first part, or in the second
pub visit_split : {A : Automaton} {p r : ℕ} (w x : List ℕ) → Visit A p (w ++ x) r
    → (q : ℕ) × ((Visit A p w q × Via A q x r) ⊎ (Via A p w q × Visit A q x r))
unfolding Meets
visit_split {A} {p} {r} w x t = go (run_split w x t.1)
  where
    go : Parts A p w x r t.0 → (q : ℕ) × ((Visit A p w q × Via A q x r) ⊎ (Via A p w q × Visit A q x r))
    go s = (s.mid, part (append_cases s.ts₁ (subst (Mem t.2.0) s.all t.2.1)))
      where
        part : Mem t.2.0 s.ts₁ ⊎ Mem t.2.0 s.ts₂
            → (Visit A p w s.mid × Via A s.mid x r) ⊎ (Via A p w s.mid × Visit A s.mid x r)
        part (inl m) = inl ((s.ts₁, s.run₁, (t.2.0, m, t.2.2)), (s.ts₂, s.run₂))
        part (inr m) = inr ((s.ts₁, s.run₁), (s.ts₂, s.run₂, (t.2.0, m, t.2.2)))

-- The states after the first.

pub end_mem : {A : Automaton} {p q : ℕ} {w ts : List ℕ} → Run A p w q ts → 1 ≤ length w → Mem q ts
end_mem here h = absurd (omega arith)
end_mem (step x here) h = first refl
end_mem (step x (step y k)) h = later (end_mem (step y k) (omega arith))

-- a run round a loop of some letters that meets an accepting state meets one after its first
pub meets_after : {A : Automaton} {q : ℕ} {w ts : List ℕ} → Run A q w q ts → 1 ≤ length w → Meets A (q ∷ ts) → Meets A ts
unfolding Meets
meets_after {A} {q} {w} {ts} k h m = go (cases_cons m.1)
  where
    go : (m.0 ≡ q) ⊎ Mem m.0 ts → (r : ℕ) × Mem r ts × T (accepts A r)
    go (inl d) = (q, end_mem k h, subst (λ (z : ℕ). T (accepts A z)) d m.2)
    go (inr n) = (m.0, n, m.2)

-- Accepted lasso words.

pub accepted_of : (A : Automaton) (u v : List ℕ) (i j q : ℕ) → 1 ≤ length v → 1 ≤ j
    → Via A A.initial (u ++ repeated i v) q → Visit A q (repeated j v) q → Accepted A u v
unfolding Meets
accepted_of A u v i j q some h s t =
    record {
      some_letter = some;
      i = i;
      j = j;
      some_copy = omega arith;
      state = q;
      stem = s.0;
      stem_run = s.1;
      cycle = t.0;
      cycle_run = t.1;
      meets = (t.2.0, later t.2.1, t.2.2);
    }

-- the run round the loop of an accepted lasso word
pub accepted_visit : {A : Automaton} {u v : List ℕ} (o : Accepted A u v) → Visit A o.state (repeated o.j v) o.state
accepted_visit {A} {u} {v} o =
    (o.cycle, o.cycle_run, meets_after o.cycle_run (copies_some o.j v o.some_copy o.some_letter) o.meets)
