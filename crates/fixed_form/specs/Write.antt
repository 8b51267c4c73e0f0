-- The call that writes a file (02, S-1): refusals 1 to 5 of the file that is read, then 16 where the output buffer is shorter than the fixed form, with its
-- length; else the fixed form stands in front in the buffer, and its length is the answer. There is no dead-end test. Only what is written changes
-- the buffer.
--   Write          what the call gives: its answer, and the output buffer afterwards
--   writing A out  writing the automaton A
--   write_of f out  the whole call, of the file f
-- Shown by `write_demand_1`. Assumes nothing.
use Rattle.std.specs.Prelude.{cond, List, ◌++◌, ℕ, ltb, length, drop}
use Rattle.automaton.specs.declared.Automaton.{Automaton}
use Rattle.format.specs.File.{read_file}
use Rattle.checks.specs.Checks.{on_read}
use Rattle.fixed_form.specs.WriteAnswers.{WriteAnswer}
use Rattle.fixed_form.specs.WriteAnswers.{Wrote, Refused, NoRoom}
use Rattle.fixed_form.specs.FixedForm.{written}

pub record Write : Type 0 where
  pub answer : WriteAnswer
  pub out : List ℕ

unfoldable pub writing : Automaton → List ℕ → Write
writing A out =
    let len = length (written A) in
    cond (ltb (length out) len)
    (record { answer = NoRoom len; out = out })
    (record { answer = Wrote len; out = written A ++ drop len out })

unfoldable pub write_of : List ℕ → List ℕ → Write
write_of f out = on_read (read_file f) (λ n. record { answer = Refused n; out = out }) (λ A. writing A out)
