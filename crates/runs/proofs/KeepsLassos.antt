-- Containment keeps lasso words: if A is contained in B at some bound b, B accepts each lasso word that A accepts. A's run round
-- the loop, b + 1 times as a group and as many groups as B has states, is followed by a run of B that accepts in each group; two
-- borders of groups have the same state of B, and between them B's run goes round. Assumes nothing.
use mathlib.Core.Path.{◌≡◌, sym, ◌∙◌, ap, subst}
use mathlib.Core.List.{List, ◌∷◌, ◌++◌, append_assoc}
use Prim.Native.Nat.{ℕ, suc, ◌+◌, ◌*◌, ◌-◌, ◌≤◌, ◌<◌}
use native.Mathlib.Nat.{one-le-mul, zero-add}
use native.Mathlib.Omega.{arith}
use lib.ListN.{length}
use Rattle.automaton.specs.declared.Automaton.{Automaton}
use Rattle.runs.specs.Runs.{Run}
use Rattle.runs.specs.Containment.{Contained}
use Rattle.runs.specs.Lassos.{repeated, Meets, Accepted}
use Rattle.runs.proofs.Runs.{run_length, run_append, Parts, run_split, run_below}
use Rattle.runs.proofs.LagSteps.{Lag, LagIn}
use Rattle.runs.proofs.FollowedBy.{FollowedBy, AllFollowed}
use Rattle.runs.proofs.Contained.{contained_followed}
use Rattle.runs.proofs.LassoRuns.{copies_add, copies_mul, run_copies, Via, Visit, via_append, accepted_of, accepted_visit}
use Rattle.runs.proofs.Pigeonhole.{EqualPair, pigeonhole}
use Rattle.runs.proofs.VisitCounts.{visits_copies, lag_append}
use Rattle.runs.proofs.Chains.{Chain, chain, chain_via, chain_visit, chain_below}

-- groups of k times j copies
groups : (g k j : ℕ) (v : List ℕ) → repeated g (repeated k (repeated j v)) ≡ repeated (g * (k * j)) v
groups g k j v = ap (repeated g) (copies_mul k j v) ∙ copies_mul g (k * j) v

-- A chain of as many runs as B has states comes back to a state.
module _ (B : Automaton) (u v : List ℕ) (i k j p : ℕ) (some : 1 ≤ length v) (k1 : 1 ≤ k) (j1 : 1 ≤ j) (below : p < B.states)
    (stem : Via B B.initial (u ++ repeated i v) p) (c : Chain B (repeated k (repeated j v)) B.states p) where
  stem_to : (g : ℕ) → g ≤ B.states → Via B B.initial (u ++ repeated (i + g * (k * j)) v) (c.0 g)
  stem_to g l =
      let t : Via B p (repeated g (repeated k (repeated j v))) (c.0 g) =
      rw (c.1, zero-add) at (chain_via B (repeated k (repeated j v)) B.states p c g 0 (omega arith)) in
      let e : (u ++ repeated i v) ++ repeated g (repeated k (repeated j v)) ≡ u ++ repeated (i + g * (k * j)) v =
      append_assoc u (repeated i v) (repeated g (repeated k (repeated j v)))
      ∙ ap (λ (l : List ℕ). u ++ (repeated i v ++ l)) (groups g k j v) ∙ ap (λ (l : List ℕ). u ++ l) (copies_add i (g * (k * j)) v) in
      subst (λ (w : List ℕ). Via B B.initial w (c.0 g)) e
      (via_append B B.initial (u ++ repeated i v) p (repeated g (repeated k (repeated j v))) (c.0 g) stem t)

  loop_at : (g m : ℕ) → g + suc m ≤ B.states → c.0 g ≡ c.0 (g + suc m) → Visit B (c.0 g) (repeated (suc m * (k * j)) v) (c.0 g)
  loop_at g m l d =
      subst (λ (w : List ℕ). Visit B (c.0 g) w (c.0 g)) (groups (suc m) k j v)
      (subst (λ (q : ℕ). Visit B (c.0 g) (repeated (suc m) (repeated k (repeated j v))) q) (sym d)
      (chain_visit B (repeated k (repeated j v)) B.states p c m g l))

  close : (g m : ℕ) → g + suc m ≤ B.states → c.0 g ≡ c.0 (g + suc m) → Accepted B u v
  close g m l d =
      accepted_of B u v (i + g * (k * j)) (suc m * (k * j)) (c.0 g) some (one-le-mul (omega arith) (one-le-mul k1 j1))
      (stem_to g (omega arith)) (loop_at g m l d)

  chain_accepted : Accepted B u v
  chain_accepted = around (pigeonhole B.states c.0 (chain_below B (repeated k (repeated j v)) B.states p c below))
    where
      around : EqualPair c.0 B.states → Accepted B u v
      around t =
          let e : t.0 + suc (t.1 - suc t.0) ≡ t.1 = omega (arith, t.2) in
          close t.0 (t.1 - suc t.0) (omega (arith, t.3)) (t.4 ∙ ap c.0 (sym e))

-- A run of A that goes to q and then round n groups of b + 1 copies of the loop, and the run of B that follows it: a chain.
module _ (A B : Automaton) (b n : ℕ) (followed : AllFollowed A B b) {w y ss ls : List ℕ} {q : ℕ}
    (stem : Run A A.initial w q ss) (loop : Run A q y q ls) (meets : Meets A ls) where
  parts_chain : {r : ℕ} {us : List ℕ} → LagIn A B b (A.initial ∷ ss ++ repeated n (repeated (suc b) ls)) (B.initial ∷ us)
      → Parts B B.initial w (repeated n (repeated (suc b) y)) r us
      → (p : ℕ) × Via B B.initial w p × Chain B (repeated (suc b) y) n p
  unfolding LagIn
  parts_chain {r} {us} lag t = (
    t.mid,
    (t.ts₁, t.run₁),
    chain A B b (repeated (suc b) y) (repeated (suc b) ls) (run_length (run_copies (suc b) loop)) (visits_copies A (suc b) ls meets)
        n t.mid t.run₂ (λ j z. lag j (whole j z)),
  )
    where
      size : length (A.initial ∷ ss) ≡ length (B.initial ∷ t.ts₁)
      size = ap suc (run_length stem ∙ sym (run_length t.run₁))

      whole : (j : ℕ) → Lag A B j (repeated n (repeated (suc b) ls)) t.ts₂
          → Lag A B j (A.initial ∷ ss ++ repeated n (repeated (suc b) ls)) (B.initial ∷ us)
      whole j z =
          subst (λ (l : List ℕ). Lag A B j (A.initial ∷ ss ++ repeated n (repeated (suc b) ls)) (B.initial ∷ l)) (sym t.all)
          (lag_append A B (A.initial ∷ ss) (B.initial ∷ t.ts₁) (repeated n (repeated (suc b) ls)) t.ts₂ size z)

  followed_chain : (p : ℕ) × Via B B.initial w p × Chain B (repeated (suc b) y) n p
  unfolding AllFollowed
  followed_chain = go (followed q _ _ (run_append stem (run_copies n (run_copies (suc b) loop))))
    where
      go : FollowedBy A B b (w ++ repeated n (repeated (suc b) y)) (ss ++ repeated n (repeated (suc b) ls))
          → (p : ℕ) × Via B B.initial w p × Chain B (repeated (suc b) y) n p
      go o = parts_chain o.lag (run_split w (repeated n (repeated (suc b) y)) o.run)

pub containment_keeps_lassos : (A B : Automaton) (b : ℕ) → B.initial < B.states → Contained A B b
    → (u v : List ℕ) → Accepted A u v → Accepted B u v
containment_keeps_lassos A B b inside contained u v o =
    let m = accepted_visit o in
    let c = followed_chain A B b B.states ((contained_followed A B b).0 contained) o.stem_run m.1 m.2 in
    chain_accepted B u v o.i (suc b) o.j c.0 o.some_letter (omega arith) o.some_copy
    (run_below inside c.1.1) c.1 c.2
