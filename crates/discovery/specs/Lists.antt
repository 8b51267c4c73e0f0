-- The vertices listed, as the code holds them.
--   answered r n      the answer r, with the number n of vertices listed where it goes on
--   Makes l m r step  from the list l the code goes on to the list m and the answer r, which represent what `step` makes of the list l
--   Grown l m         the list m stands in the buffer of the list l, which has the length that it had, with every vertex of l at its place
-- Nothing settles it: only contracts between functions name it. Assumes nothing.
use Rattle.std.specs.Prelude.{◌≡◌, ℕ, length, Result, Ok, Err}
use Rattle.slots.specs.declared.Vertex.{Vertex}
use Rattle.graph.specs.Discovery.{Walk}
use Rattle.discovery.specs.declared.Stop.{Stop}
use Rattle.discovery.specs.declared.listed.Listed.{Listed}
use Rattle.discovery.specs.Representation.{Becomes, Grows}

abbrev pub answered : Result (Unit {0}) Stop → ℕ → Result ℕ Stop
answered (Ok _) n = Ok n
answered (Err s) n = Err s

-- `step` takes the number of slots
abbrev pub Makes : Listed → Listed → Result (Unit {0}) Stop → (ℕ → Walk Vertex → Walk Vertex) → Type 0
Makes l m r step = Becomes l.work.now l.count m.work.now (answered r m.count) step

pub record Grown (l m : Listed) : Type 0 where
  pub same_buffer : m.work.ghost_name ≡ l.work.ghost_name
  pub same_length : length m.work.now ≡ length l.work.now
  pub same_index : m.index.ghost_name ≡ l.index.ghost_name
  pub grows : Grows l.work.now l.count m.work.now (Ok m.count)
