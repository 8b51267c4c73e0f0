-- The cases of a record's bytes: which test decides, and what the record then is. Each law goes by the tests in their order.
-- Assumes nothing.
use mathlib.Core.Path.{◌≡◌}
use mathlib.Core.List.{List}
use Prim.Native.Nat.{ℕ, ◌+◌, ◌-◌, ◌≤◌, ◌<◌}
use native.Mathlib.Omega.{arith}
use lib.ListN.{length, get_or}
use borrow.Author.Tests.{le-leb, lt-leb, ne_eqb}
use Rattle.std.specs.Prelude.{Err}
use Rattle.format.specs.declared.FileRefusal.TheVariants.{CutShort, UnknownMark}
use Rattle.format.specs.Records.{accepting_record, transition_record, end_record, record_in}

module _ (s : List ℕ) (i : ℕ) where
  pub record_short : length s - i < 2 → record_in s i ≡ Err CutShort
  unfolding record_in
  record_short h = rw (lt-leb (i + 2) (length s) (omega arith))

  module _ (h : i + 2 ≤ length s) where
    pub record_unmarked : (get_or s i 0 ≡ 0x41 → ⊥) → record_in s i ≡ Err UnknownMark
    unfolding record_in
    record_unmarked e = rw (le-leb (i + 2) (length s) h, ne_eqb (get_or s i 0) 0x41 e)

    module _ (e : get_or s i 0 ≡ 0x41) where
      pub record_unknown : (get_or s (i + 1) 0 ≡ 0x46 → ⊥) → (get_or s (i + 1) 0 ≡ 0x54 → ⊥) → (get_or s (i + 1) 0 ≡ 0x45 → ⊥)
          → record_in s i ≡ Err UnknownMark
      unfolding record_in
      record_unknown x y z =
          let b = get_or s (i + 1) 0 in
          rw (le-leb (i + 2) (length s) h, e, ne_eqb b 0x46 x, ne_eqb b 0x54 y, ne_eqb b 0x45 z)

      pub record_accepting : get_or s (i + 1) 0 ≡ 0x46 → record_in s i ≡ accepting_record s i
      unfolding record_in
      record_accepting d = rw (le-leb (i + 2) (length s) h, e, d)

      pub record_transition : get_or s (i + 1) 0 ≡ 0x54 → record_in s i ≡ transition_record s i
      unfolding record_in
      record_transition d = rw (le-leb (i + 2) (length s) h, e, d)

      pub record_end : get_or s (i + 1) 0 ≡ 0x45 → record_in s i ≡ end_record s i
      unfolding record_in
      record_end d = rw (le-leb (i + 2) (length s) h, e, d)
