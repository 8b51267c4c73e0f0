-- What open answers, by the table: the answer is x exactly when x is the answer of the first row whose condition holds. Assumes nothing.
use mathlib.Core.Path.{◌≡◌, refl}
use mathlib.Core.Logic.{inl, ◌↔◌}
use mathlib.Core.List.{List}
use Prim.Native.Nat.{ℕ}
use lib.ListN.{drop}
use Rattle.automaton.proofs.Booleans.{clash}
use Rattle.format.specs.File.{read_file}
use Rattle.format.proofs.FileLaws.{read_not_both}
use Rattle.deadstates.specs.DeadEnds.{has_dead}
use Rattle.checks.specs.Checks.{First}
use Rattle.checks.proofs.ChecksLaws.{by_test, by_read, test_true, test_false, Functional, also, later, same_answer, first_answer}
use Rattle.answers.proofs.FileRows.{file_dead}
use Rattle.history.specs.declared.Entry.{Entry}
use Rattle.history.specs.OpenAnswers.{OpenAnswer}
use Rattle.history.specs.OpenAnswers.{Refused}
use Rattle.history.specs.Entries.{malformed}
use Rattle.history.specs.Opens.{stopped, Vetted, open_checks, opened, open_of}
use Rattle.history.specs.Tables.{open_rows}
use Rattle.history.proofs.EntryLaws.{malformed_iff}
use Rattle.checks.proofs.FileRows.{refused_by, refused_read, refusal_same, file_of, file_at}

module _ (E : Entry) (f : List ℕ) where
  -- the answer of the rows from k on is what the checks come to
  abbrev From : ℕ → Vetted → Type 0
  From k v = First (drop k (open_rows E f)) (opened E v).answer

  open_first : First (open_rows E f) (open_of E f).answer
  unfolding open_of open_checks
  open_first =
      by_test (From 0) (malformed E) (stopped 9) _ (λ e. inl (test_true (malformed E) (malformed_iff E) e, refl)) λ e₁.
      later (λ y p. test_false (malformed E) (malformed_iff E) e₁ p.0)
      (by_test (From 1) E.filled (stopped 12) _ (λ e. inl (e, refl)) λ e₂.
      later (λ y p. clash p.0 e₂)
      (by_read (From 2) (read_file f) stopped _ (λ n e. inl (n, refused_by e, refl)) λ A r.
      later (λ y p. read_not_both r (refused_read p.1))
      (by_test (From 3) (has_dead A) (stopped 6) _ (λ e. inl (file_of r (test_true (has_dead A) (file_dead f A r) e), refl)) λ e₃.
      later (λ y p. test_false (has_dead A) (file_dead f A r) e₃ (file_at r p.0))
      (inl (file_of r tt, refl)))))

  open_functional : Functional (open_rows E f)
  open_functional =
      also (λ x y p q. cc)
      (also (λ x y p q. cc)
      (also (λ x y p q. same_answer Refused (refusal_same p.1 q.1) p.2 q.2)
      (also (λ x y p q. cc)
      (also (λ x y p q. cc)
      tt))))

  pub open_table : (x : OpenAnswer) → ((open_of E f).answer ≡ x) ↔ First (open_rows E f) x
  open_table x = first_answer (open_rows E f) open_functional (open_of E f).answer open_first x
