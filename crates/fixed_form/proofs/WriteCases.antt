-- The call that writes, by cases: a buffer that is too short, one with the room, a file that is refused, and one that holds an automaton. Assumes nothing.
use mathlib.Core.Path.{◌≡◌, ap}
use mathlib.Core.List.{List, ◌++◌}
use Prim.Native.Nat.{ℕ, ◌≤◌, ◌<◌}
use borrow.Author.Tests.{lt-ltb, le-ltb}
use lib.ListN.{length, drop}
use Rattle.automaton.specs.declared.Automaton.{Automaton}
use Rattle.format.specs.File.{Read, refused, holds, read_file}
use Rattle.checks.specs.Checks.{on_read}
use Rattle.fixed_form.specs.WriteAnswers.{Wrote, Refused, NoRoom}
use Rattle.fixed_form.specs.FixedForm.{written}
use Rattle.fixed_form.specs.Write.{writing, write_of}

module _ (A : Automaton) (out : List ℕ) where
  pub writing_short : length out < length (written A) → writing A out ≡ record { answer = NoRoom (length (written A)); out = out }
  unfolding writing
  writing_short h = rw (lt-ltb (length out) (length (written A)) h)

  pub writing_room : length (written A) ≤ length out
      → writing A out ≡ record { answer = Wrote (length (written A)); out = written A ++ drop (length (written A)) out }
  unfolding writing
  writing_room h = rw (le-ltb (length out) (length (written A)) h)

-- it depends on the fixed form alone
pub writing_same : (A B : Automaton) (out : List ℕ) → written A ≡ written B → writing A out ≡ writing B out
unfolding writing
writing_same A B out e = rw e

module _ (f out : List ℕ) where
  pub write_refused : (n : ℕ) → read_file f ≡ refused n → write_of f out ≡ record { answer = Refused n; out = out }
  unfolding write_of
  write_refused n e = ap (λ (r : Read). on_read r (λ n. record { answer = Refused n; out = out }) (λ A. writing A out)) e

  pub write_held : (A : Automaton) → read_file f ≡ holds A → write_of f out ≡ writing A out
  unfolding write_of
  write_held A e = ap (λ (r : Read). on_read r (λ n. record { answer = Refused n; out = out }) (λ A. writing A out)) e
