-- The dead states found in words are the computed dead states: the rows of edges are the table of edges, closing them gives the paths,
-- adding the diagonal what is reached, and every test is compared state by state. Assumes nothing.
use mathlib.Core.Path.{◌≡◌, refl, sym, ap, ap₂, ◌∙◌}
use mathlib.Core.Bool.{Bool, true, false, ◌&&◌, ◌||◌, not}
use mathlib.Core.Logic.{⊎_elim}
use mathlib.Core.List.{List}
use Prim.Native.Nat.{ℕ, ◌≤◌, ◌<◌}
use native.Mathlib.Omega.{arith}
use lib.Dec.{eqb, ltb, eqb→eq}
use lib.ListN.{get_or}
use borrow.Author.Tests.{lt-ltb, le-ltb, ltb-true, ltb-false}
use Rattle.automaton.specs.declared.Automaton.{Automaton}
use Rattle.automaton.specs.Ranges.{some, table}
use Rattle.automaton.specs.Sets.{bit, member}
use Rattle.automaton.specs.Automata.{accepts, transition_bit, InRange}
use Rattle.relations.specs.Closure.{related, relation, closure, reaches, row_has}
use Rattle.deadstates.specs.DeadEnds.{edge, paths, live, dead, dead_states, has_dead}
use Rattle.automaton.proofs.Booleans.{or_cases, not_T_false}
use Rattle.automaton.proofs.Ranges.{table_at}
use Rattle.automaton.proofs.Members.{transition_bit_lem}
use Rattle.relations.proofs.Closure.{closure_below}
use Rattle.relations.proofs.Rows.{table_same, some_same, some_cut}

module _ (A : Automaton) (c : InRange A) where
  -- Edges and paths.

  module _ (rows : List ℕ)
      (e-rows : (q r : ℕ) → q < A.states → r < 32
      → row_has rows q r ≡ some (λ a. transition_bit A q a r) A.letters 0) where
    edge_at : (q r : ℕ) → q < A.states → r < A.states → row_has rows q r ≡ edge A q r
    unfolding edge
    edge_at q r hq hr =
        let few = c.few_states in
        e-rows q r hq (omega arith) ∙ some_same _ _ A.letters (λ a ha. sym (transition_bit_lem A q a r hq ha hr))

    edges_table : relation A.states (row_has rows) ≡ relation A.states (edge A)
    unfolding relation
    edges_table =
        table_same _ _ A.states (λ q hq. table_same (row_has rows q) (edge A q) A.states (λ r hr. edge_at q r hq hr))

    module _ (closed : List ℕ)
        (e-closed : (p q : ℕ) → p < A.states → q < A.states
        → row_has closed p q ≡ related (closure A.states (relation A.states (row_has rows))) p q) where
      path_at : (p q : ℕ) → p < A.states → q < A.states → row_has closed p q ≡ related (paths A) p q
      unfolding paths
      path_at p q hp hq =
          e-closed p q hp hq ∙ ap (λ (R : List (List Bool)). related (closure A.states R) p q) edges_table

      -- The accepting states on loops.

      module _ (accepting loops : ℕ)
          (e-accepting : (q : ℕ) → q < 32 → bit accepting q ≡ member A.accepting q)
          (e-loops : (q : ℕ) → bit loops q ≡ (ltb q A.states && (bit accepting q && row_has closed q q))) where
        loop_at : (q : ℕ) → q < A.states → bit loops q ≡ (accepts A q && related (paths A) q q)
        unfolding accepts
        loop_at q h =
            let few = c.few_states in
            let below : ltb q A.states ≡ true = lt-ltb q A.states h in
            e-loops q
            ∙ ap (λ (b : Bool). b && (bit accepting q && row_has closed q q)) below
            ∙ ap₂ ◌&&◌ (e-accepting q (omega arith) ∙ sym (ap (λ (b : Bool). b && member A.accepting q) below)) (path_at q q h h)

        no_loop_past : (q : ℕ) → A.states ≤ q → bit loops q ≡ false
        no_loop_past q h = e-loops q ∙ ap (λ (b : Bool). b && (bit accepting q && row_has closed q q)) (le-ltb q A.states h)

        -- The dead states.

        module _ (joined : List ℕ)
            (e-joined : (p q : ℕ) → p < A.states → row_has joined p q ≡ (eqb p q || row_has closed p q)) where
          reached_at : (p q : ℕ) → p < A.states → q < A.states → row_has joined p q ≡ reaches (paths A) p q
          reached_at p q hp hq = e-joined p q hp ∙ ap (λ (b : Bool). eqb p q || b) (path_at p q hp hq)

          live_at : (q : ℕ) → q < A.states → some (λ r. row_has joined q r && bit loops r) 32 0 ≡ live A (paths A) q
          unfolding live
          live_at q h =
              some_cut _ _ A.states 32 c.few_states
              (λ r hr. ap₂ ◌&&◌ (reached_at q r h hr) (loop_at r hr))
              (λ r hr. ap (λ (b : Bool). row_has joined q r && b) (no_loop_past r hr) ∙ and_false (row_has joined q r))
            where
              and_false : (b : Bool) → (b && false) ≡ false
              and_false true = refl
              and_false false = refl

          dead_past : (q : ℕ) → A.states ≤ q → dead A (paths A) q ≡ false
          unfolding dead paths
          dead_past q h =
              ap (λ (b : Bool). b && not (live A (paths A) q))
              (not_T_false (reaches (paths A) A.initial q) (λ t.
              let inside = c.initial_below in
              ⊎_elim (λ e. omega (arith, eqb→eq A.initial q e))
              (λ s. omega (arith, (closure_below A.states (edge A) A.initial q s).1))
              (or_cases (eqb A.initial q) (related (paths A) A.initial q) t)))

          pub dead_at : (w : ℕ)
              → ((q : ℕ) → bit w q ≡ (ltb q A.states
              && (row_has joined A.initial q && not (some (λ r. row_has joined q r && bit loops r) 32 0))))
              → (q : ℕ) → q < 32 → bit w q ≡ get_or (dead_states A) q false
          unfolding dead dead_states
          dead_at w e q h = go (ltb q A.states) refl ∙ sym (table_at (dead A (paths A)) 32 q false h)
            where
              found : Bool
              found = row_has joined A.initial q && not (some (λ r. row_has joined q r && bit loops r) 32 0)

              go : (b : Bool) → ltb q A.states ≡ b → bit w q ≡ dead A (paths A) q
              go true d =
                  let l = ltb-true q A.states d in
                  e q ∙ ap (λ (b : Bool). b && found) d
                  ∙ ap₂ (λ (x y : Bool). x && not y) (reached_at A.initial q c.initial_below l) (live_at q l)
              go false d = e q ∙ ap (λ (b : Bool). b && found) d ∙ sym (dead_past q (ltb-false q A.states d))

-- A word of the dead states as flags, and whether it has one.

module _ (A : Automaton) (w : ℕ) (e : (q : ℕ) → q < 32 → bit w q ≡ get_or (dead_states A) q false) where
  pub dead_flags : table (bit w) 32 0 ≡ dead_states A
  unfolding dead_states
  dead_flags = table_same (bit w) (dead A (paths A)) 32 (λ q h. e q h ∙ table_at (dead A (paths A)) 32 q false h)

  pub dead_any : some (bit w) 32 0 ≡ has_dead A
  unfolding has_dead
  dead_any = some_same (bit w) (λ q. get_or (dead_states A) q false) 32 e
