-- What the call that takes a Hanoi text answers, by the table: the answer is x exactly when x is the answer of the first row whose condition holds. A text has
-- a first fault or is a file, and then its automaton is too long for the buffer or is written. Assumes nothing.
use mathlib.Core.Path.{◌≡◌, refl}
use mathlib.Core.Logic.{inl, ◌↔◌}
use mathlib.Core.List.{List}
use Prim.Native.Nat.{ℕ}
use native.Mathlib.Omega.{arith}
use borrow.Author.Tests.{ltb-true, ltb-false}
use lib.Dec.{ltb}
use lib.ListN.{length, drop}
use Rattle.checks.specs.Checks.{First}
use Rattle.checks.proofs.ChecksLaws.{by_test, Functional, also, later, same_number, same_answer, first_answer}
use Rattle.fixed_form.specs.WriteAnswers.{WriteAnswer}
use Rattle.fixed_form.specs.WriteAnswers.{Wrote, Refused, NoRoom}
use Rattle.fixed_form.specs.FixedForm.{written}
use Rattle.fixed_form.specs.Write.{Write, writing}
use Rattle.hanoi.specs.Reading.{read_hanoi}
use Rattle.hanoi.specs.Meaning.{automaton_of}
use Rattle.hanoi.specs.Hanoi.{hanoi_of}
use Rattle.hanoi.specs.HanoiTable.{hanoi_rows}
use Rattle.hanoi.proofs.Decided.{hanoi_grammar, hanoi_refused_iff, first_fault_one, file_without_fault}
use Rattle.hanoi.proofs.WellFormed.{hanoi_describes}
use Rattle.hanoi.proofs.HanoiCases.{by_text, text_at, text_computed, text_same}

module _ (s out : List ℕ) where
  -- the answer of the rows from k on is what the call comes to
  abbrev From : ℕ → Write → Type 0
  From k w = First (drop k (hanoi_rows s out)) w.answer

  hanoi_first : First (hanoi_rows s out) (hanoi_of s out).answer
  unfolding hanoi_of writing
  hanoi_first =
      by_text (From 0) (read_hanoi s) _ _ (λ n e. inl (n, (hanoi_refused_iff s n).0 e, refl)) λ D r.
      let f = (hanoi_grammar s D).0 r in
      let A = automaton_of D in
      later (λ y p. file_without_fault f p.1)
      (by_test (From 1) (ltb (length out) (length (written A))) _ _
      (λ e. inl (length (written A), text_computed f (refl, ltb-true (length out) (length (written A)) e), refl)) λ e.
      later (λ y p. let c = text_at f (hanoi_describes s D f) p.1 in absurd (omega (arith, c.0, c.1, ltb-false (length out) (length (written A)) e)))
      (inl (length (written A), text_computed f refl, refl)))

  hanoi_functional : Functional (hanoi_rows s out)
  hanoi_functional =
      also (λ x y p q. same_answer Refused (first_fault_one p.1 q.1) p.2 q.2)
      (also (λ x y p q. same_answer NoRoom (same_number p.1.condition.0 (text_same p.1 q.1).0) p.2 q.2)
      (also (λ x y p q. same_answer Wrote (same_number p.1.condition (text_same p.1 q.1)) p.2 q.2)
      tt))

  pub hanoi_table : (x : WriteAnswer) → ((hanoi_of s out).answer ≡ x) ↔ First (hanoi_rows s out) x
  hanoi_table x = first_answer (hanoi_rows s out) hanoi_functional (hanoi_of s out).answer hanoi_first x
