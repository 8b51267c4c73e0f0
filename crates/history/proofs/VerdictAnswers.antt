-- Demand 1 of verdict: each answer stands in one row of the table, and it is given exactly when that row's condition holds and no earlier
-- row's does; every refusal has a number of verdict's list. Assumes nothing.
use mathlib.Core.Path.{◌≡◌, refl, sym, ap, subst}
use mathlib.Core.Logic.{◌↔◌}
use mathlib.Core.List.{List}
use Prim.Native.Nat.{ℕ}
use lib.ListN.{take}
use Rattle.checks.specs.Checks.{None, At}
use Rattle.checks.proofs.ChecksLaws.{also, Every, first_every, Placed, first_at}
use Rattle.history.specs.declared.Entry.{Entry}
use Rattle.history.specs.VerdictAnswers.{VerdictAnswer}
use Rattle.history.specs.Verdicts.{verdict_of}
use Rattle.history.specs.Tables.{verdict_rows, verdict_place}
use Rattle.history.specs.VerdictDemand.{malformed_entry, empty_entry, lasso_is_bad, VerdictListed}
use Rattle.history.proofs.VerdictTable.{verdict_table}

module _ (E : Entry) (u v : List ℕ) where
  verdict_placed : Placed verdict_place 0 (verdict_rows E u v)
  verdict_placed =
      also (λ x p. ap verdict_place p.1)
      (also (λ x p. ap verdict_place p.1)
      (also (λ x p. ap verdict_place p.1)
      (also (λ x p. ap verdict_place p.1)
      (also (λ x p. ap verdict_place p.1)
      tt))))

  -- verdict answers x exactly when the condition of x's row holds and no earlier row's does
  pub verdict_answer : (x : VerdictAnswer)
      → (verdict_of E u v ≡ x) ↔ (None (take (verdict_place x) (verdict_rows E u v)) × At (verdict_place x) (verdict_rows E u v) x)
  verdict_answer x =
      let t = verdict_table E u v x in
      let a = first_at verdict_place (verdict_rows E u v) verdict_placed x in
      (λ e. a.0 (t.0 e), λ p. t.1 (a.1 p))

  verdict_listed : Every VerdictListed (verdict_rows E u v)
  verdict_listed =
      also (λ x p. subst VerdictListed (sym p.1) malformed_entry)
      (also (λ x p. subst VerdictListed (sym p.1) empty_entry)
      (also (λ x p. subst VerdictListed (sym p.1) lasso_is_bad)
      (also (λ x p. subst VerdictListed (sym p.1) tt)
      (also (λ x p. subst VerdictListed (sym p.1) tt)
      tt))))

  -- every answer is a verdict or a number of verdict's list
  pub verdict_numbers : VerdictListed (verdict_of E u v)
  verdict_numbers =
      first_every VerdictListed (verdict_rows E u v) verdict_listed (verdict_of E u v) ((verdict_table E u v (verdict_of E u v)).0 refl)
