-- Condition 9, "smaller" and condition 15 as they are computed hold exactly where they are said to. Assumes nothing.
use mathlib.Core.Path.{◌≡◌, refl, subst}
use mathlib.Core.Bool.{Bool, true, false, ◌&&◌, ◌||◌, not}
use mathlib.Core.Logic.{◌⊎◌, inl, inr, ◌↔◌}
use mathlib.Core.List.Memᴰ
use mathlib.Core.List.{List, [], ◌∷◌, Memᴰ}
use Prim.Native.Nat.{ℕ, ◌≤◌}
use borrow.Author.Tests.{eq-eqb}
use lib.Dec.{T, T_not, not_T, eqb, leb, ltb, eqb→eq, eqb_refl, ltb→lt, lt→ltb, leb→le, le→leb}
use lib.ListN.{length}
use Rattle.automaton.specs.declared.Automaton.{Automaton}
use Rattle.automaton.specs.Automata.{max_states, transition_count, in_range}
use Rattle.automaton.proofs.Booleans.{or_cases, or_left, or_right, and_both, both_and, is_true, T_true}
use Rattle.automaton.proofs.InRange.{in_range_iff}
use Rattle.deadstates.specs.DeadEnds.{has_dead}
use Rattle.deadstates.proofs.DeadRight.{has_dead_right}
use Rattle.history.specs.declared.Entry.{Entry}
use Rattle.history.specs.Entries.{max_edition, WellFormed, malformed, Smaller, smaller}
use Rattle.history.specs.Verdicts.{max_length, BadLasso, long_stem, empty_loop, long_loop, stem_letter, loop_letter, outside, bad_lasso}
use Rattle.history.specs.Tables.{Malformed}

pub smaller_iff : (B A : Automaton) → T (smaller B A) ↔ Smaller B A
unfolding smaller
smaller_iff B A = (λ t. said (or_cases (ltb B.states A.states) _ t), computed)
  where
    said : T (ltb B.states A.states) ⊎ T (eqb B.states A.states && ltb (transition_count B) (transition_count A)) → Smaller B A
    said (inl h) = inl (ltb→lt B.states A.states h)
    said (inr h) =
        let p = and_both (eqb B.states A.states) (ltb (transition_count B) (transition_count A)) h in
        inr (eqb→eq B.states A.states p.0, ltb→lt (transition_count B) (transition_count A) p.1)

    computed : Smaller B A → T (ltb B.states A.states || (eqb B.states A.states && ltb (transition_count B) (transition_count A)))
    computed (inl h) = or_left (ltb B.states A.states) _ (lt→ltb B.states A.states h)
    computed (inr h) =
        or_right (ltb B.states A.states) _
        (both_and (eqb B.states A.states) _ (subst (λ (n : ℕ). T (eqb B.states n)) h.0 (eqb_refl B.states))
        (lt→ltb (transition_count B) (transition_count A) h.1))

-- some letter of w is not below k
outside_find : (k : ℕ) (w : List ℕ) → T (outside k w) → (a : ℕ) × Memᴰ a w × (k ≤ a)
unfolding outside
outside_find k [] t = absurd t
outside_find k (a ∷ w) t = go (outside_find k w) (or_cases (leb k a) (outside k w) t)
  where
    go : (T (outside k w) → (a : ℕ) × Memᴰ a w × (k ≤ a)) → T (leb k a) ⊎ T (outside k w) → (c : ℕ) × Memᴰ c (a ∷ w) × (k ≤ c)
    go ih (inl h) = (a, Memᴰ.head refl, leb→le k a h)
    go ih (inr h) = let r = ih h in (r.0, Memᴰ.tail r.1, r.2)

outside_met : (k : ℕ) (w : List ℕ) (a : ℕ) → Memᴰ a w → k ≤ a → T (outside k w)
unfolding outside
outside_met k [] a m h = absurd (Memᴰ.not-nil m)
outside_met k (c ∷ w) a m h = go (outside_met k w a) (Memᴰ.cases_cons m)
  where
    go : (Memᴰ a w → k ≤ a → T (outside k w)) → (a ≡ c) ⊎ Memᴰ a w → T (leb k c || outside k w)
    go ih (inl e) = or_left (leb k c) _ (le→leb k c (subst (λ (x : ℕ). k ≤ x) e h))
    go ih (inr n) = or_right (leb k c) _ (ih n h)

or_five : (a b c d e : Bool) → T (a || b || c || d || e) → T a ⊎ T b ⊎ T c ⊎ T d ⊎ T e
or_five true b c d e t = inl tt
or_five false true c d e t = inr (inl tt)
or_five false false true d e t = inr (inr (inl tt))
or_five false false false true e t = inr (inr (inr (inl tt)))
or_five false false false false e t = inr (inr (inr (inr t)))

five_or : (a b c d e : Bool) → T a ⊎ T b ⊎ T c ⊎ T d ⊎ T e → T (a || b || c || d || e)
five_or true b c d e t = tt
five_or false true c d e t = tt
five_or false false true d e t = tt
five_or false false false true e t = tt
five_or false false false false e (inl t) = absurd t
five_or false false false false e (inr (inl t)) = absurd t
five_or false false false false e (inr (inr (inl t))) = absurd t
five_or false false false false e (inr (inr (inr (inl t)))) = absurd t
five_or false false false false e (inr (inr (inr (inr t)))) = t

pub bad_lasso_iff : (k : ℕ) (u v : List ℕ) → T (bad_lasso k u v) ↔ BadLasso k u v
unfolding bad_lasso
bad_lasso_iff k u v = (
  λ t. said (or_five (ltb max_length (length u)) (eqb (length v) 0) (ltb max_length (length v)) (outside k u) (outside k v) t),
  λ p. five_or (ltb max_length (length u)) (eqb (length v) 0) (ltb max_length (length v)) (outside k u) (outside k v) (computed p),
)
  where
    said : T (ltb max_length (length u)) ⊎ T (eqb (length v) 0) ⊎ T (ltb max_length (length v)) ⊎ T (outside k u) ⊎ T (outside k v)
        → BadLasso k u v
    said (inl t) = long_stem (ltb→lt max_length (length u) t)
    said (inr (inl t)) = empty_loop (eqb→eq (length v) 0 t)
    said (inr (inr (inl t))) = long_loop (ltb→lt max_length (length v) t)
    said (inr (inr (inr (inl t)))) = let r = outside_find k u t in stem_letter r.1 r.2
    said (inr (inr (inr (inr t)))) = let r = outside_find k v t in loop_letter r.1 r.2

    computed : BadLasso k u v
        → T (ltb max_length (length u)) ⊎ T (eqb (length v) 0) ⊎ T (ltb max_length (length v)) ⊎ T (outside k u) ⊎ T (outside k v)
    computed (long_stem h) = inl (lt→ltb max_length (length u) h)
    computed (empty_loop h) = inr (inl (is_true (eqb (length v) 0) (eq-eqb (length v) 0 h)))
    computed (long_loop h) = inr (inr (inl (lt→ltb max_length (length v) h)))
    computed (stem_letter {a = a} m h) = inr (inr (inr (inl (outside_met k u a m h))))
    computed (loop_letter {a = a} m h) = inr (inr (inr (inr (outside_met k v a m h))))

and_five : (a b c d e : Bool) → T (a && b && c && d && e) → T a × T b × T c × T d × T e
and_five true true true true e t = (tt, tt, tt, tt, t)
and_five true true true false e t = absurd t
and_five true true false d e t = absurd t
and_five true false c d e t = absurd t
and_five false b c d e t = absurd t

five_and : (a b c d e : Bool) → T a → T b → T c → T d → T e → T (a && b && c && d && e)
five_and true true true true e s t u v w = w
five_and true true true false e s t u v w = v
five_and true true false d e s t u v w = u
five_and true false c d e s t u v w = t
five_and false b c d e s t u v w = s

-- what condition 9 asks of an open entry
abbrev formed : Entry → Bool
formed E =
    in_range E.held && (leb 1 E.first && leb E.first max_states) && not (has_dead E.held) && leb E.held.states E.first
    && leb E.edition max_edition

formed_iff : (E : Entry) → T (formed E) ↔ WellFormed E
formed_iff E = (said, computed)
  where
    said : T (formed E) → WellFormed E
    said t =
        let h = and_five (in_range E.held) (leb 1 E.first && leb E.first max_states) (not (has_dead E.held))
        (leb E.held.states E.first) (leb E.edition max_edition) t in
        let i = (in_range_iff E.held).0 h.0 in
        let b = and_both (leb 1 E.first) (leb E.first max_states) h.1 in
        record {
          in_range = i;
          some_first = leb→le 1 E.first b.0;
          few_first = leb→le E.first max_states b.1;
          alive = λ q d. T_not (has_dead E.held) h.2 ((has_dead_right E.held i.initial_below i.few_states).1 (q, d));
          not_fewer = leb→le E.held.states E.first h.3;
          edition_in = leb→le E.edition max_edition h.4;
        }

    computed : WellFormed E → T (formed E)
    computed w =
        let i = w.in_range in
        five_and (in_range E.held) (leb 1 E.first && leb E.first max_states) (not (has_dead E.held))
        (leb E.held.states E.first) (leb E.edition max_edition)
        ((in_range_iff E.held).1 i)
        (both_and (leb 1 E.first) (leb E.first max_states) (le→leb 1 E.first w.some_first) (le→leb E.first max_states w.few_first))
        (not_T (has_dead E.held) (λ t. let d = (has_dead_right E.held i.initial_below i.few_states).0 t in w.alive d.0 d.1))
        (le→leb E.held.states E.first w.not_fewer)
        (le→leb E.edition max_edition w.edition_in)

pub malformed_iff : (E : Entry) → T (malformed E) ↔ Malformed E
unfolding malformed
malformed_iff E = (
  λ t. let h = and_both E.filled (not (formed E)) t in
      (T_true E.filled h.0, λ w. T_not (formed E) h.1 ((formed_iff E).1 w)),
  λ m. both_and E.filled (not (formed E)) (is_true E.filled m.0) (not_T (formed E) (λ t. m.1 ((formed_iff E).0 t))),
)

-- Both are decided by a test, so what is not refuted holds.

stable : (c : Bool) → ((T c → ⊥) → ⊥) → T c
stable true h = tt
stable false h = absurd (h (λ t. t))

pub well_formed_stable : (E : Entry) → ((WellFormed E → ⊥) → ⊥) → WellFormed E
well_formed_stable E h = (formed_iff E).0 (stable (formed E) (λ n. h (λ w. n ((formed_iff E).1 w))))

pub smaller_stable : (B A : Automaton) → ((Smaller B A → ⊥) → ⊥) → Smaller B A
smaller_stable B A h = (smaller_iff B A).0 (stable (smaller B A) (λ n. h (λ s. n ((smaller_iff B A).1 s))))
