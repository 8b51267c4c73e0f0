-- How the reader moves on (01, "The file").
--   place_after x i   where the reader is that was at i and says x: behind the record, and still at i if x is the end or a fault
-- Assumes nothing.
use Rattle.std.specs.Prelude.{ℕ, Result, Ok, Err}
use Rattle.format.specs.declared.FileRefusal.{FileRefusal}
use Rattle.format.specs.declared.Record.{Record}
use Rattle.format.specs.declared.Record.TheVariants.{Accepting, Transition, End}

abbrev pub place_after : Result Record FileRefusal → ℕ → ℕ
place_after (Err f) i = i
place_after (Ok (Accepting q j)) i = j
place_after (Ok (Transition q a r j)) i = j
place_after (Ok End) i = i
