-- The conditions of a table's rows that speak of a file: it is refused with at most one number, and there is one automaton of a file. Assumes
-- nothing.
use mathlib.Core.Path.{◌≡◌, subst}
use mathlib.Core.List.{List}
use Prim.Native.Nat.{ℕ}
use Rattle.automaton.specs.declared.Automaton.{Automaton}
use Rattle.format.specs.File.{Read, refused, holds, read_file}
use Rattle.format.specs.Refusals.{Refusal}
use Rattle.format.proofs.FileRefusals.{file_reads_as}
use Rattle.format.proofs.FileLaws.{read_same}
use Rattle.checks.specs.Checks.{FileHolds}

-- the reader's refusals are those of the table
pub refused_by : {f : List ℕ} {n : ℕ} → read_file f ≡ refused n → Refusal f n
refused_by {f} {n} e = ((file_reads_as f).refused_iff n).0 e

pub refused_read : {f : List ℕ} {n : ℕ} → Refusal f n → read_file f ≡ refused n
refused_read {f} {n} r = ((file_reads_as f).refused_iff n).1 r

refused_number : {r : Read} {n m : ℕ} → r ≡ refused n → r ≡ refused m → n ≡ m
refused_number d e = cc

pub refusal_same : {f : List ℕ} {n m : ℕ} → Refusal f n → Refusal f m → n ≡ m
refusal_same r s = refused_number (refused_read r) (refused_read s)

module _ {f : List ℕ} {A : Automaton} {P : Automaton → Type 0} where
  pub file_of : read_file f ≡ holds A → P A → FileHolds f P
  file_of e p = record { automaton = A; read = e; condition = p }

  -- what holds of the file's automaton holds of A
  pub file_at : read_file f ≡ holds A → FileHolds f P → P A
  file_at e p = subst P (read_same p.read e) p.condition

-- two such conditions hold of the same automaton
pub file_same : {f : List ℕ} {P Q : Automaton → Type 0} (p : FileHolds f P) → FileHolds f Q → Q p.automaton
file_same p q = file_at p.read q
