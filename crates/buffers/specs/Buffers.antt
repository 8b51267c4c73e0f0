-- Bytes written into a lent buffer.
--   placed d at l             the buffer d with the bytes l from place at on
--   WrittenAt d at l e next   e is the buffer d with the bytes l from place at on, and next is the place behind them, within the buffer
-- Nothing settles it: only contracts between functions name it. Assumes nothing.
use Rattle.std.specs.Prelude.{◌≡◌, List, ◌++◌, ℕ, ◌+◌, ◌≤◌, length, take, drop}

abbrev pub placed : List ℕ → ℕ → List ℕ → List ℕ
placed d at l = take at d ++ l ++ drop (at + length l) d

pub record WrittenAt (d : List ℕ) (at : ℕ) (l e : List ℕ) (next : ℕ) : Type 0 where
  pub bytes : e ≡ placed d at l
  pub behind : next ≡ at + length l
  pub within : next ≤ length d
