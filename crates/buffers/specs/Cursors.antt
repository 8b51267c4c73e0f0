-- A lent buffer that is written from its front on, and the place up to which it is written.
--   HasRoom c n    behind what is written there is room for n bytes
--   Added c l d    the cursor d is c after the bytes l are written: in the same buffer, with every other byte of it as before
-- Nothing settles it: only contracts between functions name it. Assumes nothing.
use Rattle.std.specs.Prelude.{◌≡◌, List, ℕ, ◌+◌, ◌≤◌, length}
use Rattle.buffers.specs.declared.Cursor.{Cursor}
use Rattle.buffers.specs.Buffers.{WrittenAt}

abbrev pub HasRoom : Cursor → ℕ → Type 0
HasRoom c n = c.at + n ≤ length c.out.now

pub record Added (c : Cursor) (l : List ℕ) (d : Cursor) : Type 0 where
  pub same_buffer : d.out.ghost_name ≡ c.out.ghost_name
  pub written : WrittenAt c.out.now c.at l d.out.now d.at
