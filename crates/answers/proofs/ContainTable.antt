-- What contain answers, by the table: the outcome is x exactly when x is the answer of the first row whose condition holds. Each check of
-- the call is matched with its row; a row's two automata are those of the files, and its list is that of the walk. Assumes nothing.
use mathlib.Core.Path.{◌≡◌, refl}
use mathlib.Core.Bool.{Bool, true, false, cond, not}
use mathlib.Core.Logic.{inl, ◌↔◌}
use mathlib.Core.List.{List}
use Prim.Native.Nat.{ℕ}
use native.Mathlib.Omega.{arith}
use borrow.Author.Tests.{ltb-true, ltb-false, leb-true, leb-false, eqb-true, eqb-false, not-true, not-false}
use lib.Dec.{eqb, leb, ltb}
use lib.ListN.{length, drop}
use Rattle.automaton.specs.declared.Automaton.{Automaton}
use Rattle.format.specs.File.{holds, read_file}
use Rattle.format.proofs.FileLaws.{read_not_both}
use Rattle.deadstates.specs.DeadEnds.{has_dead}
use Rattle.slots.specs.declared.Vertex.{Vertex}
use Rattle.slots.specs.Slots.{slot_count}
use Rattle.graph.specs.Discovery.{Node, Walk, going, ended, full}
use Rattle.graph.specs.LagGraph.{max_bound}
use Rattle.graph.specs.Walks.{walk_of, word_of}
use Rattle.answers.specs.Outcomes.{Outcome}
use Rattle.answers.specs.Outcomes.{Refused, Compared}
use Rattle.answers.specs.Outcomes.{Differs, NoRoom}
use Rattle.checks.specs.Checks.{First}
use Rattle.answers.specs.Contain.{Contain, contained, differs, no_room, compare_with, after_walk, comparing, deciding, containing, refusing, outcome_of}
use Rattle.answers.specs.Table.{contain_rows}
use Rattle.graph.proofs.WalkTheorem.{walk_full}
use Rattle.checks.proofs.FileRows.{refused_by, refused_read, refusal_same}
use Rattle.answers.proofs.FileRows.{file_dead, both_of, both_at, both_same}
use Rattle.answers.proofs.WalkRows.{whole_of, final_of, final_at, whole_same, final_same, going_not_final, ended_not_whole, going_enough, ended_enough}
use Rattle.checks.proofs.ChecksLaws.{test_true, test_false, by_test, by_read, Functional, also, later, same_number, same_answer, same_answer₂, first_answer}

module _ (f g : List ℕ) (b : ℕ) (work word : List ℕ) where
  abbrev S : ℕ
  S = slot_count (length work)

  -- the answer of the rows from k on is that of the call
  abbrev From : ℕ → Contain → Type 0
  From k c = First (drop k (contain_rows f g b work word)) c.outcome

  module _ (A B : Automaton) (rA : read_file f ≡ holds A) (rB : read_file g ≡ holds B) where
    word_first : (ns : List (Node Vertex)) (n : Node Vertex) → walk_of A B b S ≡ ended ns n
        → (c : Bool) → leb (length (word_of A B b ns n)) (length word) ≡ c
        → First (drop 7 (contain_rows f g b work word))
        (Compared (cond c (Differs (length ns) (length (word_of A B b ns n))) (NoRoom (length (word_of A B b ns n)))))
    word_first ns n e true h =
        let k = leb-true (length (word_of A B b ns n)) (length word) h in
        later (λ y p. omega (arith, (final_at e (both_at rA rB p.1)).0, (final_at e (both_at rA rB p.1)).1))
        (later (λ y p. ended_not_whole e (both_at rA rB p.1))
        (inl (_, _, both_of rA rB (final_of e (refl, refl)), refl)))
    word_first ns n e false h =
        inl (_, both_of rA rB (final_of e (refl, leb-false (length (word_of A B b ns n)) (length word) h)), refl)

    walk_first : (w : Walk Vertex) → walk_of A B b S ≡ w → From 6 (after_walk (compare_with A B b work word w))
    walk_first (going ns) e =
        later (λ y p. going_enough A B b S ns e (both_at rA rB p.0))
        (later (λ y p. going_not_final e (both_at rA rB p.1))
        (inl (_, both_of rA rB (whole_of e refl), refl)))
    walk_first (ended ns n) e =
        later (λ y p. ended_enough A B b S ns n e (both_at rA rB p.0))
        (word_first ns n e (leb (length (word_of A B b ns n)) (length word)) refl)
    walk_first (full ns) e = inl (both_of rA rB (walk_full A B b S ns e).0, refl)

  contain_first : First (contain_rows f g b work word) (outcome_of f g b work word)
  unfolding containing deciding comparing
  contain_first =
      by_read (From 0) (read_file f) (λ n. refusing n 1 work word) _ (λ n e. inl (n, refused_by e, refl)) λ A rA.
      later (λ y p. read_not_both rA (refused_read p.1))
      (by_read (From 1) (read_file g) (λ n. refusing n 2 work word) _ (λ n e. inl (n, refused_by e, refl)) λ B rB.
      later (λ y p. read_not_both rB (refused_read p.1))
      (by_test (From 2) (ltb max_bound b) (refusing 8 0 work word) _ (λ e. inl (ltb-true max_bound b e, refl)) λ e₁.
      later (λ y p. omega (arith, p.0, ltb-false max_bound b e₁))
      (by_test (From 3) (not (eqb A.letters B.letters)) (refusing 7 0 work word) _
      (λ e. inl (both_of rA rB (eqb-false A.letters B.letters (not-true _ e)), refl)) λ e₂.
      later (λ y p. both_at rA rB p.0 (eqb-true A.letters B.letters (not-false _ e₂)))
      (by_test (From 4) (has_dead A) (refusing 6 1 work word) _ (λ e. inl (both_of rA rB (test_true (has_dead A) (file_dead f A rA) e), refl)) λ e₃.
      later (λ y p. test_false (has_dead A) (file_dead f A rA) e₃ (both_at rA rB p.0))
      (by_test (From 5) (has_dead B) (refusing 6 2 work word) _ (λ e. inl (both_of rA rB (test_true (has_dead B) (file_dead g B rB) e), refl)) λ e₄.
      later (λ y p. test_false (has_dead B) (file_dead g B rB) e₄ (both_at rA rB p.0))
      (walk_first A B rA rB (walk_of A B b S) refl))))))

  contain_functional : Functional (contain_rows f g b work word)
  contain_functional =
      also (λ x y p q. same_answer (λ n. Refused n 1) (refusal_same p.1 q.1) p.2 q.2)
      (also (λ x y p q. same_answer (λ n. Refused n 2) (refusal_same p.1 q.1) p.2 q.2)
      (also (λ x y p q. cc)
      (also (λ x y p q. cc)
      (also (λ x y p q. cc)
      (also (λ x y p q. cc)
      (also (λ x y p q. cc)
      (also (λ x y p q. same_answer no_room (same_number p.1.condition.condition.0 (final_same p.1.condition (both_same p.1 q.1)).0) p.2 q.2)
      (also (λ x y p q. same_answer contained (same_number p.1.condition.condition (whole_same p.1.condition (both_same p.1 q.1))) p.2 q.2)
      (also (λ x y p q.
      let d = p.2.condition.condition in
      let e = final_same p.2.condition (both_same p.2 q.2) in
      same_answer₂ differs (same_number d.0 e.0) (same_number d.1 e.1) p.3 q.3)
      tt)))))))))

  pub contain_table : (x : Outcome) → (outcome_of f g b work word ≡ x) ↔ First (contain_rows f g b work word) x
  contain_table x = first_answer (contain_rows f g b work word) contain_functional (outcome_of f g b work word) contain_first x
