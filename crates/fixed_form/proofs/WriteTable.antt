-- What the call that writes answers, by the table: the answer is x exactly when x is the answer of the first row whose condition holds; each answer stands
-- in one row, and is given exactly when that row's condition holds and no earlier row's does. Assumes nothing.
use mathlib.Core.Path.{◌≡◌, refl, ap}
use mathlib.Core.Logic.{inl, ◌↔◌}
use mathlib.Core.List.{List}
use Prim.Native.Nat.{ℕ, ◌≤◌}
use native.Mathlib.Omega.{arith}
use borrow.Author.Tests.{ltb-true, ltb-false}
use lib.Dec.{ltb}
use lib.ListN.{length, take, drop}
use Rattle.automaton.specs.declared.Automaton.{Automaton}
use Rattle.format.specs.File.{holds, read_file}
use Rattle.format.proofs.FileLaws.{file_refusals, file_in_range, read_not_both}
use Rattle.checks.specs.Checks.{First, None, At}
use Rattle.checks.proofs.ChecksLaws.{by_test, by_read, Functional, also, later, same_number, same_answer, first_answer, Placed, first_at}
use Rattle.checks.proofs.FileRows.{refused_by, refused_read, refusal_same, file_of, file_at, file_same}
use Rattle.fixed_form.specs.WriteAnswers.{WriteAnswer}
use Rattle.fixed_form.specs.WriteAnswers.{Wrote, Refused, NoRoom}
use Rattle.fixed_form.specs.FixedForm.{written}
use Rattle.fixed_form.specs.Write.{Write, writing, write_of}
use Rattle.fixed_form.specs.WriteTable.{write_rows, write_place}
use Rattle.fixed_form.specs.WriteDemand.{shortest_file, longest_file, WriteListed}
use Rattle.fixed_form.proofs.Lengths.{written_bounds}

module _ (f out : List ℕ) where
  -- the answer of the rows from k on is what the call comes to
  abbrev From : ℕ → Write → Type 0
  From k w = First (drop k (write_rows f out)) w.answer

  write_first : First (write_rows f out) (write_of f out).answer
  unfolding write_of writing
  write_first =
      by_read (From 0) (read_file f) _ _ (λ n e. inl (n, refused_by e, refl)) λ A r.
      later (λ y p. read_not_both r (refused_read p.1))
      (by_test (From 1) (ltb (length out) (length (written A))) _ _
      (λ e. inl (length (written A), file_of r (refl, ltb-true (length out) (length (written A)) e), refl)) λ e.
      later (λ y p. let c = file_at r p.1 in absurd (omega (arith, c.0, c.1, ltb-false (length out) (length (written A)) e)))
      (inl (length (written A), file_of r refl, refl)))

  write_functional : Functional (write_rows f out)
  write_functional =
      also (λ x y p q. same_answer Refused (refusal_same p.1 q.1) p.2 q.2)
      (also (λ x y p q. same_answer NoRoom (same_number p.1.condition.0 (file_same p.1 q.1).0) p.2 q.2)
      (also (λ x y p q. same_answer Wrote (same_number p.1.condition (file_same p.1 q.1)) p.2 q.2)
      tt))

  pub write_table : (x : WriteAnswer) → ((write_of f out).answer ≡ x) ↔ First (write_rows f out) x
  write_table x = first_answer (write_rows f out) write_functional (write_of f out).answer write_first x

  write_placed : Placed write_place 0 (write_rows f out)
  write_placed = also (λ x p. ap write_place p.2) (also (λ x p. ap write_place p.2) (also (λ x p. ap write_place p.2) tt))

  -- the call answers x exactly when the condition of x's row holds and no earlier row's does
  pub write_answer : (x : WriteAnswer)
      → ((write_of f out).answer ≡ x) ↔ (None (take (write_place x) (write_rows f out)) × At (write_place x) (write_rows f out) x)
  write_answer x =
      let t = write_table x in
      let a = first_at write_place (write_rows f out) write_placed x in
      (λ e. a.0 (t.0 e), λ p. t.1 (a.1 p))

-- The numbers that can occur.

module _ (f : List ℕ) where
  bounds : (A : Automaton) → read_file f ≡ holds A → (shortest_file ≤ length (written A)) × (length (written A) ≤ longest_file)
  bounds A r = let i = file_in_range f A r in written_bounds A i.few_states i.few_letters

  pub write_occurs : (out : List ℕ) → WriteListed (length out) (write_of f out).answer
  unfolding write_of writing
  write_occurs out =
      by_read (λ (w : Write). WriteListed (length out) w.answer) (read_file f) _ _ (λ n e. file_refusals f n e) λ A r.
      by_test (λ (w : Write). WriteListed (length out) w.answer) (ltb (length out) (length (written A))) _ _
      (λ e. ((bounds A r).0, (bounds A r).1, ltb-true (length out) (length (written A)) e))
      (λ e. ((bounds A r).0, (bounds A r).1, ltb-false (length out) (length (written A)) e))
