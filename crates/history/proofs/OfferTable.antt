-- What offer answers, by the table: the answer is x exactly when x is the answer of the first row whose condition holds. The checks before
-- the walks decide the rows 9 to 14 one by one; the rows after them are read off the forward walk, and off the back walk where the
-- forward one lists every vertex. Assumes nothing.
use mathlib.Core.Path.{◌≡◌, refl, sym, subst}
use mathlib.Core.Bool.{Bool, true, false, cond, ◌||◌, not}
use mathlib.Core.Logic.{◌⊎◌, inl, inr, ◌↔◌}
use mathlib.Core.List.{List}
use Prim.Native.Nat.{ℕ}
use native.Mathlib.Omega.{arith}
use borrow.Author.Tests.{ltb-true, ltb-false, leb-true, leb-false, eqb-true, eqb-false, eq-eqb, not-true, not-false}
use lib.Dec.{T, T_not, not_T, eqb→eq, eqb, leb, ltb}
use lib.ListN.{length, drop}
use Rattle.automaton.specs.declared.Automaton.{Automaton}
use Rattle.automaton.proofs.Booleans.{or_cases, or_left, or_right, is_true, clash}
use Rattle.format.specs.File.{holds, read_file}
use Rattle.format.proofs.FileLaws.{read_not_both}
use Rattle.deadstates.specs.DeadEnds.{has_dead}
use Rattle.slots.specs.declared.Vertex.{Vertex}
use Rattle.slots.specs.Slots.{slot_count}
use Rattle.graph.specs.Discovery.{Node, Walk, going, ended, full}
use Rattle.graph.specs.LagGraph.{max_bound}
use Rattle.graph.specs.Walks.{walk_of, word_of}
use Rattle.graph.proofs.WalkTheorem.{walk_full}
use Rattle.checks.specs.Checks.{First}
use Rattle.checks.proofs.ChecksLaws.{by_test, by_read, test_true, test_false, Functional, also, later, same_number, same_answer, same_answer₂, same_answer₃, first_answer}
use Rattle.answers.proofs.FileRows.{file_dead}
use Rattle.answers.proofs.WalkRows.{whole_of, final_of, whole_at, final_at, whole_same, final_same, going_not_final, ended_not_whole, going_enough, ended_enough}
use Rattle.history.specs.declared.Entry.{Entry}
use Rattle.history.specs.OfferAnswers.{OfferAnswer}
use Rattle.history.specs.OfferAnswers.{Taken, Forward, Back, Refused, NoRoom}
use Rattle.history.specs.Entries.{max_edition, malformed, Smaller, smaller}
use Rattle.history.specs.Opens.{stopped, Vetted}
use Rattle.history.specs.Offers.{offer_checks, offered, offer_of}
use Rattle.history.specs.Tables.{offer_rows}
use Rattle.history.proofs.EntryLaws.{malformed_iff, smaller_iff}
use Rattle.history.proofs.EntryChecks.{passed_well_formed}
use Rattle.history.proofs.OfferWalks.{answer_by, walks_settled}
use Rattle.checks.proofs.FileRows.{refused_by, refused_read, refusal_same, file_of, file_at, file_same}

-- condition 14 and its test
unfit_iff : (E : Entry) (B : Automaton) → T (not (smaller B E.held) || eqb E.edition max_edition)
    ↔ ((Smaller B E.held → ⊥) ⊎ (E.edition ≡ max_edition))
unfit_iff E B = (λ t. said (or_cases (not (smaller B E.held)) (eqb E.edition max_edition) t), computed)
  where
    said : T (not (smaller B E.held)) ⊎ T (eqb E.edition max_edition) → (Smaller B E.held → ⊥) ⊎ (E.edition ≡ max_edition)
    said (inl t) = inl (λ s. T_not (smaller B E.held) t ((smaller_iff B E.held).1 s))
    said (inr t) = inr (eqb→eq E.edition max_edition t)

    computed : (Smaller B E.held → ⊥) ⊎ (E.edition ≡ max_edition) → T (not (smaller B E.held) || eqb E.edition max_edition)
    computed (inl h) =
        or_left (not (smaller B E.held)) _ (not_T (smaller B E.held) (λ t. h ((smaller_iff B E.held).0 t)))
    computed (inr h) =
        or_right (not (smaller B E.held)) _ (is_true (eqb E.edition max_edition) (eq-eqb E.edition max_edition h))

module _ (E : Entry) (f : List ℕ) (b : ℕ) (work word : List ℕ) where
  abbrev S : ℕ
  S = slot_count (length work)

  -- the answer of the rows from k on is what the checks come to
  abbrev From : ℕ → Vetted → Type 0
  From k v = First (drop k (offer_rows E f b work word)) (offered E b work word v).answer

  module _ (B : Automaton) (r : read_file f ≡ holds B) where
    forward_word : (ns : List (Node Vertex)) (n : Node Vertex) → walk_of E.held B b S ≡ ended ns n
        → (c : Bool) → leb (length (word_of E.held B b ns n)) (length word) ≡ c
        → First (drop 8 (offer_rows E f b work word))
        (cond c (Forward (length ns) (length (word_of E.held B b ns n))) (NoRoom 1 (length (word_of E.held B b ns n))))
    forward_word ns n e true h =
        let k = leb-true (length (word_of E.held B b ns n)) (length word) h in
        later (λ y p. let q = final_at e (file_at r p.1) in omega (arith, q.0, q.1))
        (later (λ y p. ended_not_whole e (file_at r p.0))
        (later (λ y p. ended_not_whole e (file_at r p.1))
        (inl (_, _, file_of r (final_of e (refl, refl)), refl))))
    forward_word ns n e false h =
        inl (_, file_of r (final_of e (refl, leb-false (length (word_of E.held B b ns n)) (length word) h)), refl)

    module _ (ns : List (Node Vertex)) (e : walk_of E.held B b S ≡ going ns) where
      back_word : (ms : List (Node Vertex)) (m : Node Vertex) → walk_of B E.held b S ≡ ended ms m
          → (c : Bool) → leb (length (word_of B E.held b ms m)) (length word) ≡ c
          → First (drop 10 (offer_rows E f b work word))
          (cond c (Back (length ns) (length ms) (length (word_of B E.held b ms m))) (NoRoom 2 (length (word_of B E.held b ms m))))
      back_word ms m d true h =
          let k = leb-true (length (word_of B E.held b ms m)) (length word) h in
          later (λ y p. let q = final_at d (whole_at e (file_at r p.1)) in omega (arith, q.0, q.1))
          (later (λ y p. going_not_final e (file_at r p.2))
          (inl (_, _, _, file_of r (whole_of e refl, final_of d (refl, refl)), refl)))
      back_word ms m d false h =
          inl (_, file_of r (whole_of e (final_of d (refl, leb-false (length (word_of B E.held b ms m)) (length word) h))), refl)

      back_first : (w : Walk Vertex) → walk_of B E.held b S ≡ w
          → First (drop 9 (offer_rows E f b work word)) (answer_by E.held B b S (length word) (going ns) w)
      back_first (going ms) d =
          later (λ y p. going_enough B E.held b S ms d (whole_at e (file_at r p.0)))
          (later (λ y p. going_not_final d (whole_at e (file_at r p.1)))
          (later (λ y p. going_not_final e (file_at r p.2))
          (later (λ y p. going_not_final d (file_at r p.3).1)
          (inl (_, _, file_of r (whole_of e refl, whole_of d refl), refl)))))
      back_first (ended ms m) d =
          later (λ y p. ended_enough B E.held b S ms m d (whole_at e (file_at r p.0)))
          (back_word ms m d (leb (length (word_of B E.held b ms m)) (length word)) refl)
      back_first (full ms) d = inl (file_of r (whole_of e (walk_full B E.held b S ms d).0), refl)

    walks_first : (w : Walk Vertex) → walk_of E.held B b S ≡ w
        → First (drop 7 (offer_rows E f b work word)) (answer_by E.held B b S (length word) w (walk_of B E.held b S))
    walks_first (going ns) e =
        later (λ y p. going_enough E.held B b S ns e (file_at r p.0))
        (later (λ y p. going_not_final e (file_at r p.1))
        (back_first ns e (walk_of B E.held b S) refl))
    walks_first (ended ns n) e =
        later (λ y p. ended_enough E.held B b S ns n e (file_at r p.0))
        (forward_word ns n e (leb (length (word_of E.held B b ns n)) (length word)) refl)
    walks_first (full ns) e = inl (file_of r (walk_full E.held B b S ns e).0, refl)

  offer_first : First (offer_rows E f b work word) (offer_of E f b work word).answer
  unfolding offer_of offer_checks
  offer_first =
      by_test (From 0) (malformed E) (stopped 9) _ (λ e. inl (test_true (malformed E) (malformed_iff E) e, refl)) λ e₁.
      later (λ y p. test_false (malformed E) (malformed_iff E) e₁ p.0)
      (by_test (From 1) (not E.filled) (stopped 13) _ (λ e. inl (not-true E.filled e, refl)) λ e₂.
      later (λ y p. clash (not-false E.filled e₂) p.0)
      (by_read (From 2) (read_file f) stopped _ (λ n e. inl (n, refused_by e, refl)) λ B r.
      later (λ y p. read_not_both r (refused_read p.1))
      (by_test (From 3) (ltb max_bound b) (stopped 8) _ (λ e. inl (ltb-true max_bound b e, refl)) λ e₃.
      later (λ y p. omega (arith, p.0, ltb-false max_bound b e₃))
      (by_test (From 4) (not (eqb E.held.letters B.letters)) (stopped 7) _
      (λ e. inl (file_of r (eqb-false E.held.letters B.letters (not-true _ e)), refl)) λ e₄.
      later (λ y p. file_at r p.0 (eqb-true E.held.letters B.letters (not-false _ e₄)))
      (by_test (From 5) (has_dead B) (stopped 6) _ (λ e. inl (file_of r (test_true (has_dead B) (file_dead f B r) e), refl)) λ e₅.
      later (λ y p. test_false (has_dead B) (file_dead f B r) e₅ (file_at r p.0))
      (by_test (From 6) (not (smaller B E.held) || eqb E.edition max_edition) (stopped 14) _
      (λ e. inl (file_of r (test_true _ (unfit_iff E B) e), refl)) λ e₆.
      later (λ y p. test_false _ (unfit_iff E B) e₆ (file_at r p.0))
      (subst (First (drop 7 (offer_rows E f b work word)))
      (sym (walks_settled E.held B b work word (passed_well_formed E e₁ (not-false E.filled e₂)).in_range.initial_below
      (walk_of E.held B b S) (walk_of B E.held b S) refl refl).answer)
      (walks_first B r (walk_of E.held B b S) refl))))))))

  offer_functional : Functional (offer_rows E f b work word)
  offer_functional =
      also (λ x y p q. cc)
      (also (λ x y p q. cc)
      (also (λ x y p q. same_answer Refused (refusal_same p.1 q.1) p.2 q.2)
      (also (λ x y p q. cc)
      (also (λ x y p q. cc)
      (also (λ x y p q. cc)
      (also (λ x y p q. cc)
      (also (λ x y p q. cc)
      (also (λ x y p q.
      let c = p.1.condition in
      same_answer (NoRoom 1) (same_number c.condition.0 (final_same c (file_same p.1 q.1)).0) p.2 q.2)
      (also (λ x y p q. cc)
      (also (λ x y p q.
      let c = p.1.condition in
      same_answer (NoRoom 2)
      (same_number c.condition.condition.0 (final_same c.condition (whole_same c (file_same p.1 q.1))).0) p.2 q.2)
      (also (λ x y p q.
      let c = p.2.condition in
      let d = final_same c (file_same p.2 q.2) in
      same_answer₂ Forward (same_number c.condition.0 d.0) (same_number c.condition.1 d.1) p.3 q.3)
      (also (λ x y p q.
      let c = p.3.condition in
      let d = file_same p.3 q.3 in
      let e = final_same c.1 d.1 in
      same_answer₃ Back (same_number c.0.condition (whole_same c.0 d.0)) (same_number c.1.condition.0 e.0)
      (same_number c.1.condition.1 e.1) p.4 q.4)
      (also (λ x y p q.
      let c = p.2.condition in
      let d = file_same p.2 q.2 in
      same_answer₂ Taken (same_number c.0.condition (whole_same c.0 d.0)) (same_number c.1.condition (whole_same c.1 d.1))
      p.3 q.3)
      tt)))))))))))))

  pub offer_table : (x : OfferAnswer) → ((offer_of E f b work word).answer ≡ x) ↔ First (offer_rows E f b work word) x
  offer_table x = first_answer (offer_rows E f b work word) offer_functional (offer_of E f b work word).answer offer_first x
