-- What verdict answers, by the table: the answer is x exactly when x is the answer of the first row whose condition holds. The computed
-- verdict is the acceptance of the held automaton, whose initial state is one of its states past condition 9. Assumes nothing.
use mathlib.Core.Path.{◌≡◌, refl}
use mathlib.Core.Bool.{Bool, true, false, cond, not}
use mathlib.Core.Logic.{inl, ◌↔◌}
use mathlib.Core.List.{List}
use Prim.Native.Nat.{ℕ}
use borrow.Author.Tests.{not-true, not-false}
use lib.ListN.{drop}
use Rattle.automaton.proofs.Booleans.{clash}
use Rattle.lassos.specs.Verdict.{accepted}
use Rattle.lassos.proofs.VerdictTheorem.{verdict_decides_acceptance}
use Rattle.checks.specs.Checks.{First}
use Rattle.checks.proofs.ChecksLaws.{test_true, test_false, by_test, Functional, also, later, first_answer}
use Rattle.history.specs.declared.Entry.{Entry}
use Rattle.history.specs.VerdictAnswers.{VerdictAnswer}
use Rattle.history.specs.VerdictAnswers.{Yes, No, Refused}
use Rattle.history.specs.Entries.{WellFormed, malformed}
use Rattle.history.specs.Verdicts.{bad_lasso, verdict_of}
use Rattle.history.specs.Tables.{verdict_rows}
use Rattle.history.proofs.EntryLaws.{malformed_iff, well_formed_stable, bad_lasso_iff}

module _ (E : Entry) (u v : List ℕ) where
  -- the answer of the rows from k on
  abbrev From : ℕ → VerdictAnswer → Type 0
  From k x = First (drop k (verdict_rows E u v)) x

  accepted_first : WellFormed E → (c : Bool) → accepted E.held u v ≡ c → From 3 (cond c Yes No)
  accepted_first w true e =
      inl (test_true _ (verdict_decides_acceptance E.held w.in_range.initial_below u v) e, refl)
  accepted_first w false e =
      let no_run = test_false _ (verdict_decides_acceptance E.held w.in_range.initial_below u v) e in
      later (λ y p. no_run p.0) (inl (no_run, refl))

  verdict_first : First (verdict_rows E u v) (verdict_of E u v)
  unfolding verdict_of
  verdict_first =
      by_test (From 0) (malformed E) (Refused 9) _ (λ e. inl (test_true (malformed E) (malformed_iff E) e, refl)) λ e₁.
      later (λ y p. test_false (malformed E) (malformed_iff E) e₁ p.0)
      (by_test (From 1) (not E.filled) (Refused 13) _ (λ e. inl (not-true E.filled e, refl)) λ e₂.
      later (λ y p. clash (not-false E.filled e₂) p.0)
      (by_test (From 2) (bad_lasso E.held.letters u v) (Refused 15) _
      (λ e. inl (test_true _ (bad_lasso_iff E.held.letters u v) e, refl)) λ e₃.
      later (λ y p. test_false _ (bad_lasso_iff E.held.letters u v) e₃ p.0)
      (accepted_first
      (well_formed_stable E (λ h. test_false (malformed E) (malformed_iff E) e₁ (not-false E.filled e₂, h)))
      (accepted E.held u v) refl)))

  verdict_functional : Functional (verdict_rows E u v)
  verdict_functional =
      also (λ x y p q. cc) (also (λ x y p q. cc) (also (λ x y p q. cc) (also (λ x y p q. cc) (also (λ x y p q. cc) tt))))

  pub verdict_table : (x : VerdictAnswer) → (verdict_of E u v ≡ x) ↔ First (verdict_rows E u v) x
  verdict_table x = first_answer (verdict_rows E u v) verdict_functional (verdict_of E u v) verdict_first x
