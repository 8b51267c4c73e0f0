-- The number of a call that writes a file fits 64 bits and tells the whole answer, whatever the length of the buffer: the kind is its lowest byte, and of the
-- answers that can occur, with buffers of any lengths, no two share kind and length. Assumes nothing.
use mathlib.Core.Path.{◌≡◌, ap}
use mathlib.Core.List.{List}
use mathlib.Core.Logic.{◌↔◌, ⊎_elim}
use Prim.Native.Nat.{ℕ, ◌^◌, ◌≤◌, ◌<◌}
use native.Mathlib.Omega.{arith}
use lib.ListN.{length}
use Rattle.fixed_form.specs.WriteAnswers.{WriteAnswer}
use Rattle.fixed_form.specs.WriteAnswers.{Wrote, Refused, NoRoom}
use Rattle.fixed_form.specs.Write.{write_of}
use Rattle.fixed_form.specs.WriteDemand.{longest_file, WriteListed}
use Rattle.fixed_form.proofs.WriteTable.{write_occurs}
use Rattle.hanoi.specs.Hanoi.{hanoi_of}
use Rattle.hanoi.specs.HanoiDemand.{HanoiListed}
use Rattle.hanoi.proofs.HanoiTheorem.{hanoi_demand_1}
use Rattle.boundary.specs.Numbers.{write_number}

-- what the numbers ask of answers: lengths of files, and of the refusals that come alone none is 16
abbrev Told : WriteAnswer → Type 0
Told (Wrote len) = len ≤ longest_file
Told (Refused n) = (n < 100) × (n ≡ 16 → ⊥)
Told (NoRoom len) = len ≤ longest_file

told_fits : (x : WriteAnswer) → Told x → write_number x < 2 ^ 64
told_fits (Wrote len) l = omega (arith, l)
told_fits (Refused n) l = omega (arith, l.0)
told_fits (NoRoom len) l = omega (arith, l)

told_same : (x y : WriteAnswer) → Told x → Told y → write_number x ≡ write_number y → x ≡ y
told_same (Wrote m) (Wrote n) l k e = ap Wrote (omega arith)
told_same (Wrote m) (Refused n) l k e = absurd (omega (arith, k.0, e))
told_same (Wrote m) (NoRoom n) l k e = absurd (omega arith)
told_same (Refused m) (Wrote n) l k e = absurd (omega (arith, l.0, e))
told_same (Refused m) (Refused n) l k e = ap Refused (omega arith)
told_same (Refused m) (NoRoom n) l k e = absurd (l.1 (omega (arith, l.0, e)))
told_same (NoRoom m) (Wrote n) l k e = absurd (omega arith)
told_same (NoRoom m) (Refused n) l k e = absurd (k.1 (omega (arith, k.0, e)))
told_same (NoRoom m) (NoRoom n) l k e = ap NoRoom (omega arith)

-- of a file
write_told : (room : ℕ) (x : WriteAnswer) → WriteListed room x → Told x
write_told room (Wrote len) l = l.1
write_told room (Refused n) l = (omega (arith, l.1), λ e. omega (arith, e, l.1))
write_told room (NoRoom len) l = l.1

module _ (f out : List ℕ) where
  told_written : Told (write_of f out).answer
  told_written = write_told (length out) (write_of f out).answer (write_occurs f out)

  pub write_fits : write_number (write_of f out).answer < 2 ^ 64
  write_fits = told_fits (write_of f out).answer told_written

  pub write_number_lem : (room : ℕ) (x : WriteAnswer) → WriteListed room x
      → (write_number (write_of f out).answer ≡ write_number x) ↔ ((write_of f out).answer ≡ x)
  write_number_lem room x l = (told_same (write_of f out).answer x told_written (write_told room x l), ap write_number)

-- of a Hanoi text
hanoi_told : (room : ℕ) (x : WriteAnswer) → HanoiListed room x → Told x
hanoi_told room (Wrote len) l = l.1
hanoi_told room (Refused n) l =
    ⊎_elim (λ e. by 3 e (omega arith) (λ z. omega (arith, z)))
    (λ r. ⊎_elim (λ e. by 4 e (omega arith) (λ z. omega (arith, z)))
    (λ s. ⊎_elim (λ e. by 17 e (omega arith) (λ z. omega (arith, z))) (λ e. by 18 e (omega arith) (λ z. omega (arith, z))) s) r) l
  where
    by : (k : ℕ) → n ≡ k → k < 100 → (k ≡ 16 → ⊥) → Told (Refused n)
    by k e h z = (omega (arith, e, h), λ d. z (omega (arith, e, d)))
hanoi_told room (NoRoom len) l = l.1

module _ (s out : List ℕ) where
  told_text : Told (hanoi_of s out).answer
  told_text = hanoi_told (length out) (hanoi_of s out).answer (hanoi_demand_1 s out).occurs

  pub hanoi_fits : write_number (hanoi_of s out).answer < 2 ^ 64
  hanoi_fits = told_fits (hanoi_of s out).answer told_text

  pub hanoi_number : (room : ℕ) (x : WriteAnswer) → HanoiListed room x
      → (write_number (hanoi_of s out).answer ≡ write_number x) ↔ ((hanoi_of s out).answer ≡ x)
  hanoi_number room x l = (told_same (hanoi_of s out).answer x told_text (hanoi_told room x l), ap write_number)
