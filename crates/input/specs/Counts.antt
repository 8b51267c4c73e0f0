-- How many bytes stand at the front of a buffer.
--   IsPrefixLen n xs    n is at most the length of xs, and its first n bytes are n bytes
-- Assumes nothing.
use Rattle.std.specs.Prelude.{◌≡◌, ℕ, ◌≤◌, List, length, take}

abbrev pub IsPrefixLen : ℕ → List ℕ → Type 0
IsPrefixLen n xs = (n ≤ length xs) × (n ≡ length (take n xs))
