-- The sets of states that the verdict computes are those that runs reach: by induction over the word, a transition is added in front
-- of the run. Assumes nothing.
use mathlib.Core.Path.{◌≡◌, sym, subst}
use mathlib.Core.Bool.{Bool, false, ◌&&◌}
use mathlib.Core.List.{List, [], ◌∷◌}
use Prim.Native.Nat.{ℕ, ◌<◌}
use lib.Dec.{T, eqb, eqb→eq, eqb_refl}
use lib.ListN.{get_or}
use Rattle.automaton.specs.declared.Automaton.{Automaton}
use Rattle.automaton.specs.Ranges.{some, table}
use Rattle.automaton.specs.Automata.{transition}
use Rattle.runs.specs.Runs.{Run, here, step}
use Rattle.automaton.proofs.Booleans.{and_both, both_and}
use Rattle.automaton.proofs.Ranges.{table_at, some_at, some_below}
use Rattle.automaton.proofs.Transitions.{transition_from, transition_into}
use Rattle.relations.proofs.Closure.{table_below}
use Rattle.runs.proofs.LassoRuns.{Via}
use Rattle.lassos.specs.Verdict.{in_set, only, on_letter, on_word}

-- some state of S has a run on w to q
abbrev pub RunFrom : Automaton → List Bool → List ℕ → ℕ → Type 0
RunFrom A S w q = (p : ℕ) × T (in_set S p) × Via A p w q

-- the tests of a table that starts at 0
table_sound : (f : ℕ → Bool) (n q : ℕ) → T (get_or (table f n 0) q false) → T (f q)
table_sound f n q t = subst T (table_at f n q false (table_below f n q t)) t

table_complete : (f : ℕ → Bool) (n q : ℕ) → q < n → T (f q) → T (get_or (table f n 0) q false)
table_complete f n q h t = subst T (sym (table_at f n q false h)) t

module _ (A : Automaton) where
  -- One state.

  pub only_is : (p q : ℕ) → T (in_set (only A p) q) → q ≡ p
  unfolding only
  only_is p q t = eqb→eq q p (table_sound (λ x. eqb x p) A.states q t)

  pub only_has : (p : ℕ) → p < A.states → T (in_set (only A p) p)
  unfolding only
  only_has p h = table_complete (λ x. eqb x p) A.states p h (eqb_refl p)

  -- One letter.

  module _ (S : List Bool) (a : ℕ) where
    -- p is in S and has a transition on a to r
    abbrev leads_to : ℕ → ℕ → Bool
    leads_to r p = in_set S p && transition A p a r

    -- some state does
    abbrev reached : ℕ → Bool
    reached r = some (leads_to r) A.states 0

    on_letter_sound : (r : ℕ) → T (in_set (on_letter A S a) r) → (p : ℕ) × T (in_set S p) × T (transition A p a r)
    unfolding on_letter
    on_letter_sound r t =
        let k = some_below (leads_to r) A.states (table_sound reached A.states r t) in
        let b = and_both (in_set S k.0) (transition A k.0 a r) k.2 in
        (k.0, b.0, b.1)

    on_letter_complete : (p r : ℕ) → T (in_set S p) → T (transition A p a r) → T (in_set (on_letter A S a) r)
    unfolding on_letter
    on_letter_complete p r s t =
        table_complete reached A.states r (transition_into A p a r t)
        (some_at (leads_to r) A.states p (transition_from A p a r t) (both_and (in_set S p) (transition A p a r) s t))

  -- A word.

  pub on_word_sound : (S : List Bool) (w : List ℕ) (q : ℕ) → T (in_set (on_word A S w) q) → RunFrom A S w q
  unfolding on_word
  on_word_sound S [] q t = (q, t, ([], here))
  on_word_sound S (a ∷ w) q t =
      let k = on_word_sound (on_letter A S a) w q t in
      let s = on_letter_sound S a k.0 k.1 in
      (s.0, s.1, (k.0 ∷ k.2.0, step s.2 k.2.1))

  pub on_word_complete : (S : List Bool) {w ts : List ℕ} {p q : ℕ} → T (in_set S p) → Run A p w q ts → T (in_set (on_word A S w) q)
  unfolding on_word
  on_word_complete S s here = s
  on_word_complete S s (step {p = p} {a = a} {t = t} x k) = on_word_complete (on_letter A S a) (on_letter_complete S a p t s x) k
