-- What `Classes` says of the arrays of an index, said of the index.
--   Chained       its heads and nexts are the chains of the first n slots
--   class_at      the class of slot s, as the index has it
--   listed_in     the left states that are listed with the counters of the class
-- Nothing settles it: only contracts between functions name it. Assumes nothing.
use Rattle.std.specs.Prelude.{List, ℕ}
use Rattle.classes.specs.declared.Index.{Index}
use Rattle.classes.specs.Classes as arrays

abbrev pub Chained : List ℕ → Index → ℕ → Type 0
Chained work index n = arrays.Chained work index.heads index.nexts n

abbrev pub class_at : Index → ℕ → ℕ
class_at index s = arrays.class_at index.nexts index.listed s

abbrev pub listed_in : Index → ℕ → ℕ
listed_in index c = arrays.listed_in index.listed c
