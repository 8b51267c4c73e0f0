-- Demand 1 of contain: each answer stands in one row of the table, and it is given exactly when that row's condition holds and no earlier
-- row's does; every refusal has a number and a file of contain's list. Assumes nothing.
use mathlib.Core.Path.{◌≡◌, refl, sym, ap, subst, ◌∙◌}
use mathlib.Core.Bool.{Bool, cond}
use mathlib.Core.Logic.{◌↔◌}
use mathlib.Core.List.{List}
use Prim.Native.Nat.{ℕ, ◌≤◌}
use borrow.Author.Tests.{le-leb}
use lib.Dec.{eqb}
use lib.ListN.{length, take}
use native.Mathlib.Omega.{arith}
use Rattle.format.proofs.FileLaws.{file_refusals}
use Rattle.graph.proofs.WalkTheorem.{list_word_length}
use Rattle.slots.specs.Slots.{slot_count}
use Rattle.answers.specs.Outcomes.{Outcome}
use Rattle.answers.specs.Outcomes.{Refused}
use Rattle.checks.specs.Checks.{None, At}
use Rattle.answers.specs.Contain.{outcome_of}
use Rattle.answers.specs.Table.{contain_rows, contain_place}
use Rattle.answers.specs.Demand1.{first_file, second_file, bound, letters, first_dead, second_dead, Listed}
use Rattle.checks.proofs.ChecksLaws.{also, Every, first_every, Placed, first_at}
use Rattle.checks.proofs.FileRows.{refused_read}
use Rattle.answers.proofs.ContainTable.{contain_table}

file_place : (n file : ℕ) → n ≤ 5 → contain_place (Refused n file) ≡ cond (eqb file 1) 0 1
file_place n file h =
    ap (λ (c : Bool). cond c (cond (eqb file 1) 0 1) (cond (eqb n 8) 2 (cond (eqb n 7) 3 (cond (eqb file 1) 4 5)))) (le-leb n 5 h)

module _ (f g : List ℕ) (b : ℕ) (work word : List ℕ) where
  contain_placed : Placed contain_place 0 (contain_rows f g b work word)
  contain_placed =
      also (λ x p. ap contain_place p.2 ∙ file_place p.0 1 (file_refusals f p.0 (refused_read p.1)).1)
      (also (λ x p. ap contain_place p.2 ∙ file_place p.0 2 (file_refusals g p.0 (refused_read p.1)).1)
      (also (λ x p. ap contain_place p.1)
      (also (λ x p. ap contain_place p.1)
      (also (λ x p. ap contain_place p.1)
      (also (λ x p. ap contain_place p.1)
      (also (λ x p. ap contain_place p.1)
      (also (λ x p. ap contain_place p.2)
      (also (λ x p. ap contain_place p.2)
      (also (λ x p. ap contain_place p.3)
      tt)))))))))

  -- contain answers x exactly when the condition of x's row holds and no earlier row's does
  pub contain_answer : (x : Outcome)
      → (outcome_of f g b work word ≡ x)
      ↔ (None (take (contain_place x) (contain_rows f g b work word)) × At (contain_place x) (contain_rows f g b work word) x)
  contain_answer x =
      let t = contain_table f g b work word x in
      let a = first_at contain_place (contain_rows f g b work word) contain_placed x in
      (λ e. a.0 (t.0 e), λ p. t.1 (a.1 p))

  -- every answer is an outcome or a number of contain's list
  pub contain_numbers : Listed (slot_count (length work)) (length word) (outcome_of f g b work word)
  contain_numbers =
      first_every Lists (contain_rows f g b work word) every (outcome_of f g b work word)
      ((contain_table f g b work word (outcome_of f g b work word)).0 refl)
    where
      Lists : Outcome → Type 0
      Lists = Listed (slot_count (length work)) (length word)

      every : Every Lists (contain_rows f g b work word)
      every =
          also (λ x p. let h = file_refusals f p.0 (refused_read p.1) in subst Lists (sym p.2) (first_file h.0 h.1))
          (also (λ x p. let h = file_refusals g p.0 (refused_read p.1) in subst Lists (sym p.2) (second_file h.0 h.1))
          (also (λ x p. subst Lists (sym p.1) bound)
          (also (λ x p. subst Lists (sym p.1) letters)
          (also (λ x p. subst Lists (sym p.1) first_dead)
          (also (λ x p. subst Lists (sym p.1) second_dead)
          (also (λ x p. subst Lists (sym p.1) refl)
          (also (λ x p.
          let w = p.1.condition in
          let l = list_word_length p.1.first p.1.second b (slot_count (length work)) w.nodes w.last w.fits in
          subst Lists (sym p.2) (w.condition.1, omega (arith, w.condition.0, w.fits.room, l)))
          (also (λ x p. subst Lists (sym p.2) (omega (arith, p.1.condition.condition, p.1.condition.fits.room)))
          (also (λ x p.
          let w = p.2.condition in
          let l = list_word_length p.2.first p.2.second b (slot_count (length work)) w.nodes w.last w.fits in
          subst Lists (sym p.3) (omega (arith, w.condition.0, w.fits.room), omega (arith, w.condition.0, w.condition.1, l)))
          tt)))))))))
