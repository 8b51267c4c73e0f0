-- Demand 1 of open: each answer stands in one row of the table, and it is given exactly when that row's condition holds and no earlier
-- row's does; every refusal has a number of open's list. Assumes nothing.
use mathlib.Core.Path.{◌≡◌, refl, sym, ap, subst, ◌∙◌}
use mathlib.Core.Bool.{Bool, cond}
use mathlib.Core.Logic.{◌↔◌}
use mathlib.Core.List.{List}
use Prim.Native.Nat.{ℕ, ◌≤◌}
use borrow.Author.Tests.{le-leb}
use lib.Dec.{eqb}
use lib.ListN.{take}
use Rattle.format.proofs.FileLaws.{file_refusals}
use Rattle.checks.proofs.FileRows.{refused_read}
use Rattle.checks.specs.Checks.{None, At}
use Rattle.checks.proofs.ChecksLaws.{also, Every, first_every, Placed, first_at}
use Rattle.history.specs.declared.Entry.{Entry}
use Rattle.history.specs.OpenAnswers.{OpenAnswer}
use Rattle.history.specs.OpenAnswers.{Refused}
use Rattle.history.specs.Opens.{open_of}
use Rattle.history.specs.Tables.{open_rows, open_place}
use Rattle.history.specs.OpenDemand.{malformed_entry, already_open, bad_file, dead_state, OpenListed}
use Rattle.history.proofs.OpenTable.{open_table}

file_place : (n : ℕ) → n ≤ 5 → open_place (Refused n) ≡ 2
file_place n h = ap (λ (c : Bool). cond c 2 (cond (eqb n 9) 0 (cond (eqb n 12) 1 3))) (le-leb n 5 h)

module _ (E : Entry) (f : List ℕ) where
  open_placed : Placed open_place 0 (open_rows E f)
  open_placed =
      also (λ x p. ap open_place p.1)
      (also (λ x p. ap open_place p.1)
      (also (λ x p. ap open_place p.2 ∙ file_place p.0 (file_refusals f p.0 (refused_read p.1)).1)
      (also (λ x p. ap open_place p.1)
      (also (λ x p. ap open_place p.1)
      tt))))

  -- open answers x exactly when the condition of x's row holds and no earlier row's does
  pub open_answer : (x : OpenAnswer)
      → ((open_of E f).answer ≡ x) ↔ (None (take (open_place x) (open_rows E f)) × At (open_place x) (open_rows E f) x)
  open_answer x =
      let t = open_table E f x in
      let a = first_at open_place (open_rows E f) open_placed x in
      (λ e. a.0 (t.0 e), λ p. t.1 (a.1 p))

  open_listed : Every OpenListed (open_rows E f)
  open_listed =
      also (λ x p. subst OpenListed (sym p.1) malformed_entry)
      (also (λ x p. subst OpenListed (sym p.1) already_open)
      (also (λ x p. let h = file_refusals f p.0 (refused_read p.1) in subst OpenListed (sym p.2) (bad_file h.0 h.1))
      (also (λ x p. subst OpenListed (sym p.1) dead_state)
      (also (λ x p. subst OpenListed (sym p.1) tt)
      tt))))

  -- every answer is "opened" or a number of open's list
  pub open_numbers : OpenListed (open_of E f).answer
  open_numbers =
      first_every OpenListed (open_rows E f) open_listed (open_of E f).answer ((open_table E f (open_of E f).answer).0 refl)
