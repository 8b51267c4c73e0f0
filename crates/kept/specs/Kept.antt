-- Steps that are kept, for the contracts of the code: vertices with the same counters share their steps.
--   lines, line_length       how many lines there are, and the places of one: two for each letter
--   after_side tops m n a f y the counters after a step on letter a from the counters f: y is 0 where the left target accepts, and 1 where it
--                            does not
--   kept_after               the places after the line of a class is cleared, unless it is that class's already
--   KeptStep                 what the two places from `at` on may say of the step on letter a from the counters f: a class that is not 0 is the
--                            class of the counters after the step, among the first n slots
--   KeptLines                the same of each line and letter: the line's owner is a class, and f are its counters
-- Shown by `kept_line`, `kept_step` and `kept_grows`. Assumes nothing.
use Rattle.std.specs.Prelude.{◌≡◌, cond, List, ℕ, zero, suc, ◌+◌, ◌*◌, ◌%◌, ◌<◌, eqb, length, get_or}
use Rattle.automaton.specs.Automata.{max_letters}
use Rattle.relations.specs.Rows.{changed_rows}
use Rattle.classes.specs.Classes.{counters_at, class_of}
use Rattle.step.specs.Steps.{counters_on}

abbrev pub lines : ℕ
lines = 16

abbrev pub line_length : ℕ
line_length = 32

abbrev pub kept_after : List ℕ → List ℕ → ℕ → List ℕ
kept_after owners kept class =
    cond (eqb (get_or owners (class % lines) 0) class) kept (changed_rows (class % lines * line_length) line_length (λ i. 0) kept)

abbrev pub after_side : List ℕ → List ℕ → ℕ → ℕ → List ℕ → ℕ → List ℕ
after_side tops m n a f zero = counters_on tops m n a f 1
after_side tops m n a f (suc y) = counters_on tops m n a f 0

module _ (tops m : List ℕ) (states : ℕ) (work : List ℕ) (n : ℕ) where
  abbrev pub KeptStep : List ℕ → ℕ → ℕ → List ℕ → Type 0
  KeptStep kept at a f =
      (y s : ℕ) → y < 2 → get_or kept (at + y) 0 ≡ suc s → class_of work (after_side tops m states a f y) n ≡ suc s

  pub record KeptLines (owners kept : List ℕ) : Type 0 where
    pub owners_long : length owners ≡ lines
    pub kept_long : length kept ≡ lines * line_length
    pub owned : (l k : ℕ) → l < lines → get_or owners l 0 ≡ suc k
        → (k < n) × ((a : ℕ) → a < max_letters → KeptStep kept (l * line_length + a * 2) a (counters_at work k))
