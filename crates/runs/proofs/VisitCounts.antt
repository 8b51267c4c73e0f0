-- The number of a run's visits to accepting states, and the lag that they make beside a run that never accepts: as many positions
-- as there are visits. By induction over the runs. Assumes nothing.
use mathlib.Core.Path.{◌≡◌, refl, ◌∙◌, ap, subst}
use mathlib.Core.Logic.{◌⊎◌, inl, inr}
use mathlib.Core.Bool.{Bool, true, false, not}
use mathlib.Core.List.Memᴰ.{head as first}
use mathlib.Core.List.Memᴰ.{tail as later}
use mathlib.Core.List.{List, [], ◌∷◌, ◌++◌, Memᴰ as Mem}
use mathlib.Core.List.Memᴰ.{cases_cons}
use mathlib.Core.List.Memᴰ.{not-nil}
use Prim.Native.Nat.{ℕ, zero, suc, ◌+◌, ◌≤◌}
use native.Mathlib.Omega.{arith}
use lib.Dec.{T}
use lib.ListN.{length}
use Rattle.automaton.specs.declared.Automaton.{Automaton}
use Rattle.automaton.specs.Automata.{accepts}
use Rattle.runs.specs.Lassos.{repeated, Meets}
use Rattle.automaton.proofs.Booleans.{is_true, is_false}
use Rattle.runs.proofs.LagSteps.{Stretch, stop, take, pass, Lag, start, skip}

-- one more where the test passes
abbrev pub count : Bool → ℕ → ℕ
count true n = suc n
count false n = n

-- the number of accepting states in a list
abbrev pub visits : Automaton → List ℕ → ℕ
visits A [] = 0
visits A (p ∷ ps) = count (accepts A p) (visits A ps)

visits_append : (A : Automaton) (ps qs : List ℕ) → visits A (ps ++ qs) ≡ visits A ps + visits A qs
visits_append A [] qs = omega arith
visits_append A (p ∷ ps) qs = go (accepts A p) (visits_append A ps qs)
  where
    go : (l : Bool) → visits A (ps ++ qs) ≡ visits A ps + visits A qs
        → count l (visits A (ps ++ qs)) ≡ count l (visits A ps) + visits A qs
    go true e = omega arith
    go false e = e

visits_some : (A : Automaton) (q : ℕ) (ps : List ℕ) → Mem q ps → T (accepts A q) → 1 ≤ visits A ps
visits_some A q [] m e = absurd (not-nil m)
visits_some A q (p ∷ ps) m e = go (λ n. visits_some A q ps n e) (accepts A p) refl (cases_cons m)
  where
    go : (Mem q ps → 1 ≤ visits A ps) → (l : Bool) → accepts A p ≡ l → (q ≡ p) ⊎ Mem q ps → 1 ≤ count l (visits A ps)
    go ih true d c = omega arith
    go ih false d (inl c) = absurd (subst T (ap (accepts A) c ∙ d) e)
    go ih false d (inr n) = ih n

-- n copies of states that meet an accepting one have n visits or more
pub visits_copies : (A : Automaton) (n : ℕ) (ps : List ℕ) → Meets A ps → n ≤ visits A (repeated n ps)
unfolding repeated Meets
visits_copies A zero ps m = omega arith
visits_copies A (suc n) ps m =
    omega (arith, visits_append A ps (repeated n ps), visits_copies A n ps m, visits_some A m.0 ps m.1 m.2)

-- no state of the list is accepting
abbrev pub Quiet : Automaton → List ℕ → Type 0
Quiet B qs = (q : ℕ) → Mem q qs → T (not (accepts B q))

pub meets_or_quiet : (B : Automaton) (qs : List ℕ) → Meets B qs ⊎ Quiet B qs
unfolding Meets
meets_or_quiet B [] = inr (λ q m. absurd (not-nil m))
meets_or_quiet B (p ∷ ps) = go (meets_or_quiet B ps) (accepts B p) refl
  where
    quiet : Quiet B ps → accepts B p ≡ false → (q : ℕ) → (q ≡ p) ⊎ Mem q ps → T (not (accepts B q))
    quiet h d q (inl c) = is_false (accepts B q) (ap (accepts B) c ∙ d)
    quiet h d q (inr m) = h q m

    go : Meets B ps ⊎ Quiet B ps → (l : Bool) → accepts B p ≡ l → Meets B (p ∷ ps) ⊎ Quiet B (p ∷ ps)
    go i true d = inl (p, first refl, is_true (accepts B p) d)
    go (inl t) false d = inl (t.0, later t.1, t.2)
    go (inr h) false d = inr (λ q m. quiet h d q (cases_cons m))

module _ (A B : Automaton) where
  -- a lag of the rest is one of the whole
  pub lag_append : {j : ℕ} (ps qs ps' qs' : List ℕ) → length ps ≡ length qs → Lag A B j ps' qs' → Lag A B j (ps ++ ps') (qs ++ qs')
  lag_append [] [] ps' qs' e k = k
  lag_append [] (q ∷ qs) ps' qs' e k = absurd (omega arith)
  lag_append (p ∷ ps) [] ps' qs' e k = absurd (omega arith)
  lag_append (p ∷ ps) (q ∷ qs) ps' qs' e k = skip (lag_append ps qs ps' qs' (omega arith) k)

  quiet_stretch : (ps qs ps' qs' : List ℕ) → length ps ≡ length qs → Quiet B qs → Stretch A B (visits A ps) (ps ++ ps') (qs ++ qs')
  quiet_stretch [] qs ps' qs' e h = stop
  quiet_stretch (p ∷ ps) [] ps' qs' e h = absurd (omega arith)
  quiet_stretch (p ∷ ps) (q ∷ qs) ps' qs' e h =
      go (accepts A p) refl (quiet_stretch ps qs ps' qs' (omega arith) (λ x m. h x (later m)))
    where
      go : (l : Bool) → accepts A p ≡ l → Stretch A B (visits A ps) (ps ++ ps') (qs ++ qs')
          → Stretch A B (count l (visits A ps)) (p ∷ ps ++ ps') (q ∷ qs ++ qs')
      go true d s = take (is_true (accepts A p) d) (h q (first refl)) s
      go false d s = pass (h q (first refl)) s

  -- beside a quiet part of the second run, the first run's visits are a lag
  pub quiet_lag : (ps qs ps' qs' : List ℕ) → length ps ≡ length qs → Quiet B qs → Lag A B (visits A ps) (ps ++ ps') (qs ++ qs')
  quiet_lag ps qs ps' qs' e h = start (quiet_stretch ps qs ps' qs' e h)
