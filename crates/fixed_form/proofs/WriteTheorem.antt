-- Demand 1 of the call that writes a file, and what it does with files of the same automaton and with files that it wrote. Assumes nothing.
use mathlib.Core.Path.{◌≡◌, refl, sym, ap, subst, ◌∙◌}
use mathlib.Core.List.{List}
use Prim.Native.Nat.{ℕ, ◌≤◌}
use native.Mathlib.Omega.{arith}
use lib.Dec.{ltb}
use lib.ListN.{length, take, drop}
use lib.Seq.{take_at}
use Rattle.automaton.specs.declared.Automaton.{Automaton}
use Rattle.format.specs.File.{holds, read_file}
use Rattle.format.proofs.FileRefusals.{file_reads_as}
use Rattle.checks.specs.Checks.{FileHolds}
use Rattle.checks.proofs.ChecksLaws.{by_test, by_read}
use Rattle.checks.proofs.FileRows.{file_of}
use Rattle.fixed_form.specs.WriteAnswers.{Wrote}
use Rattle.fixed_form.specs.FixedForm.{FixedForm, written, SameAutomaton}
use Rattle.fixed_form.specs.Write.{Write, writing, write_of}
use Rattle.fixed_form.specs.WriteDemand.{AfterWrite, WriteDemand1, WriteAlike, WriteAgain}
use Rattle.fixed_form.proofs.FixedFormTheorem.{file_written_read, file_fixed_form_iff, file_written_alike}
use Rattle.fixed_form.proofs.FileLength.{file_length}
use Rattle.fixed_form.proofs.WriteCases.{writing_room, writing_same, write_held}
use Rattle.fixed_form.proofs.WriteTable.{write_table, write_occurs}

module _ (f out : List ℕ) where
  write_leaves : AfterWrite f out (write_of f out).answer (write_of f out).out
  unfolding write_of writing
  write_leaves =
      by_read (λ (w : Write). AfterWrite f out w.answer w.out) (read_file f) _ _ (λ n e. refl) λ A r.
      by_test (λ (w : Write). AfterWrite f out w.answer w.out) (ltb (length out) (length (written A))) _ _ (λ e. refl)
      (λ e. file_of r (refl, refl))

  pub write_demand_1 : WriteDemand1 f out
  write_demand_1 =
      record { table = write_table f out; reads = file_reads_as f; occurs = write_occurs f out; leaves = write_leaves }

  -- what is written stands in front
  pub write_front : (len : ℕ) → (write_of f out).answer ≡ Wrote len
      → FileHolds f (λ A. (len ≡ length (written A)) × (take len (write_of f out).out ≡ written A))
  write_front len e =
      let h = subst (λ x. AfterWrite f out x (write_of f out).out) e write_leaves in
      let l = h.condition.0 in
      file_of h.read (l, ap (take len) h.condition.1 ∙ take_at (written h.automaton) (drop len out) len (sym l))

-- a buffer as long as the file has the room, since the file is as long as its fixed form
pub write_own_room : (f out : List ℕ) (A : Automaton) → read_file f ≡ holds A → length f ≤ length out → (write_of f out).answer ≡ Wrote (length f)
write_own_room f out A e h =
    let l = file_length f A e in
    ap (λ (w : Write). w.answer) (write_held f out A e ∙ writing_room A out (omega arith)) ∙ ap Wrote (sym l)

pub write_alike : (s t : List ℕ) → WriteAlike s t
write_alike s t = record { alike = alike; only = only }
  where
    alike : (A B : Automaton) → read_file s ≡ holds A → read_file t ≡ holds B → SameAutomaton A B → (out : List ℕ) → write_of s out ≡ write_of t out
    alike A B e d same out = write_held s out A e ∙ writing_same A B out ((file_written_alike s t A B e d).0 same) ∙ sym (write_held t out B d)

    only : (out new : List ℕ) (len : ℕ) → (write_of s out).answer ≡ Wrote len → (write_of t new).answer ≡ Wrote len
        → take len (write_of s out).out ≡ take len (write_of t new).out → FileHolds s (λ A. FileHolds t (λ B. SameAutomaton A B))
    only out new len e d w =
        let p = write_front s out len e in
        let q = write_front t new len d in
        file_of p.read (file_of q.read
        ((file_written_alike s t p.automaton q.automaton p.read q.read).1 (sym p.condition.1 ∙ w ∙ q.condition.1)))

pub write_again : (f : List ℕ) → WriteAgain f
write_again f = record { fixed = fixed; reads = reads; again = again }
  where
    fixed : (out : List ℕ) (len : ℕ) → (write_of f out).answer ≡ Wrote len → FileHolds f (λ A. FixedForm (take len (write_of f out).out) A)
    fixed out len e =
        let p = write_front f out len e in
        file_of p.read ((file_fixed_form_iff f p.automaton p.read _).1 p.condition.1)

    reads : (out : List ℕ) (len : ℕ) → (write_of f out).answer ≡ Wrote len → read_file (take len (write_of f out).out) ≡ read_file f
    reads out len e =
        let p = write_front f out len e in
        ap read_file p.condition.1 ∙ file_written_read f p.automaton p.read ∙ sym p.read

    again : (out new : List ℕ) (len : ℕ) → (write_of f out).answer ≡ Wrote len → len ≤ length new
        → ((write_of (take len (write_of f out).out) new).answer ≡ Wrote len)
        × (take len (write_of (take len (write_of f out).out) new).out ≡ take len (write_of f out).out)
    again out new len e h =
        let p = write_front f out len e in
        let A = p.automaton in
        let l = p.condition.0 in
        let w = write_held _ new A (reads out len e ∙ p.read) ∙ writing_room A new (omega arith) in (
          ap (λ (x : Write). x.answer) w ∙ ap Wrote (sym l),
          ap (λ (x : Write). take len x.out) w ∙ take_at (written A) (drop (length (written A)) new) len (sym l) ∙ sym p.condition.1,
        )
