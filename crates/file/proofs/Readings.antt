-- What the reader's answers say of the file: it is read and in range, or it is refused. Assumes nothing.
use Rattle.std.specs.Prelude.{ℕ, Result, Ok, Err, OnOk}
use mathlib.Core.Path.{◌≡◌, sym}
use mathlib.Core.List.{List}
use Rattle.automaton.specs.declared.Automaton.{Automaton}
use Rattle.automaton.specs.Automata.{InRange}
use Rattle.format.specs.declared.FileRefusal.{FileRefusal}
use Rattle.format.specs.File.{read_file}
use Rattle.file.specs.Taking.{read_of}
use Rattle.format.proofs.FileLaws.{file_in_range}

-- what is read is in range
pub reading_in_range : (s : List ℕ) (x : Result (Unit {0}) FileRefusal) (A : Automaton) → read_of x A ≡ read_file s → OnOk x (InRange A)
reading_in_range s (Ok _) A e = file_in_range s A (sym e)
reading_in_range s (Err f) A e = tt
