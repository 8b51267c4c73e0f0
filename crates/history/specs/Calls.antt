-- The calls of which the lists of demand 3 are made, as a caller sends them (01, "Entry, open, offer"). Nothing here says what a call does.
--   Call           an open with its file, or an offer with its file, bound, work buffer and word buffer, of any content and length
-- Nothing settles it: it is what `demand_3` ranges over. Assumes nothing.
use Rattle.std.specs.Prelude.{List, ℕ}

pub data Call : Type 0 where
  open_call : List ℕ → Call
  offer_call : List ℕ → ℕ → List ℕ → List ℕ → Call
