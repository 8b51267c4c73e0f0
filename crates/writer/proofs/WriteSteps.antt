-- What the writer answers and leaves at each of its ends: no room, the whole file written, a file that is refused, and a file that is read. Assumes
-- nothing.
use Rattle.std.specs.Prelude.{Result, Ok, Err}
use mathlib.Core.Path.{◌≡◌, sym, ap, ◌∙◌}
use mathlib.Core.List.{List, ◌++◌}
use Prim.Native.Nat.{ℕ, ◌≤◌, ◌<◌}
use native.Mathlib.Nat.{zero-add}
use native.Mathlib.Omega.{arith}
use lib.ListN.{length, drop}
use Rattle.automaton.specs.declared.Automaton.{Automaton}
use Rattle.format.specs.declared.FileRefusal.{FileRefusal}
use Rattle.format.specs.File.{read_file}
use Rattle.format.specs.Numbers.{file_number}
use Rattle.file.specs.Taking.{read_of}
use Rattle.buffers.specs.declared.Cursor.{Cursor}
use Rattle.buffers.specs.Cursors.{Added}
use Rattle.buffers.proofs.Cursors.{added_front}
use Rattle.fixed_form.specs.declared.WriteRefusal.{WriteRefusal}
use Rattle.fixed_form.specs.declared.WriteRefusal.TheVariants.{Unread}
use Rattle.fixed_form.specs.WriteAnswers.{WriteAnswer, write_answer_of}
use Rattle.fixed_form.specs.WriteAnswers.{Wrote, NoRoom}
use Rattle.fixed_form.specs.FixedForm.{written}
use Rattle.fixed_form.specs.Write.{Write, writing, write_of}
use Rattle.fixed_form.specs.WriteDemand.{WriteDemand1}
use Rattle.fixed_form.proofs.WriteCases.{writing_short, writing_room, write_refused, write_held}
use Rattle.fixed_form.proofs.WriteTheorem.{write_demand_1}

-- an answer and a buffer are those of a call
pub record Gives (x : WriteAnswer) (e : List ℕ) (w : Write) : Type 0 where
  pub answer : x ≡ w.answer
  pub out : e ≡ w.out

module _ (A : Automaton) (d : List ℕ) (needed : ℕ) (counted : needed ≡ length (written A)) where
  pub short_writes : length d < needed → Gives (NoRoom needed) d (writing A d)
  short_writes h =
      let e = writing_short A d (omega arith) in
      record { answer = ap NoRoom counted ∙ sym (ap (λ (w : Write). w.answer) e); out = sym (ap (λ (w : Write). w.out) e) }

  -- c is the front of the buffer
  pub whole_writes : needed ≤ length d → {c e : Cursor} → c.out.now ≡ d → c.at ≡ 0 → Added c (written A) e
      → Gives (Wrote needed) e.out.now (writing A d)
  whole_writes h {c} {e} p q u =
      let w = writing_room A d (omega arith) in
      record {
        answer = ap Wrote counted ∙ sym (ap (λ (w : Write). w.answer) w);
        out = (added_front p q u).bytes ∙ ap (λ (k : ℕ). written A ++ drop k d) (zero-add (length (written A))) ∙ sym (ap (λ (w : Write). w.out) w);
      }

-- with demand 1 besides
pub record GivesFile (f d : List ℕ) (x : WriteAnswer) (e : List ℕ) : Type 0 where
  pub answer : x ≡ (write_of f d).answer
  pub out : e ≡ (write_of f d).out
  pub demand1 : WriteDemand1 f d

-- r and A are what the reader answers and leaves of the file f, and d the buffer before
module _ (f d : List ℕ) (r : Result (Unit {0}) FileRefusal) (A : Automaton) (answered : read_of r A ≡ read_file f) where
  pub refused_writes : (x : FileRefusal) (y : Result ℕ (WriteRefusal FileRefusal)) → r ≡ Err x → y ≡ Err (Unread x)
      → GivesFile f d (write_answer_of file_number y) d
  refused_writes x y p q =
      let e = write_refused f d (file_number x) (sym answered ∙ ap (λ (z : Result (Unit {0}) FileRefusal). read_of z A) p) in
      record {
        answer = ap (write_answer_of file_number) q ∙ sym (ap (λ (w : Write). w.answer) e);
        out = sym (ap (λ (w : Write). w.out) e);
        demand1 = write_demand_1 f d;
      }

  pub read_writes : (x : WriteAnswer) (e : List ℕ) → r ≡ Ok tt → x ≡ (writing A d).answer → e ≡ (writing A d).out → GivesFile f d x e
  read_writes x e t p q =
      let h = write_held f d A (sym answered ∙ ap (λ (z : Result (Unit {0}) FileRefusal). read_of z A) t) in
      record { answer = p ∙ sym (ap (λ (w : Write). w.answer) h); out = q ∙ sym (ap (λ (w : Write). w.out) h); demand1 = write_demand_1 f d }
