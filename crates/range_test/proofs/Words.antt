-- The word that has all 32 states. Assumes nothing.
use mathlib.Core.Path.{◌≡◌, refl, sym, ap, ◌∙◌}
use mathlib.Core.Bool.{Bool, true, false}
use mathlib.Core.List.{List}
use Prim.Native.Nat.{ℕ, ◌<◌}
use lib.ListN.{get_or}
use Rattle.automaton.specs.Ranges.{table}
use Rattle.automaton.specs.Sets.{bit}
use Rattle.automaton.proofs.Ranges.{table_at}

-- one computed test
all_computed : table (bit 4294967295) 32 0 ≡ table (λ r. true) 32 0
unfolding table
all_computed = refl

pub bit_all : (r : ℕ) → r < 32 → bit 4294967295 r ≡ true
bit_all r h =
    sym (table_at (bit 4294967295) 32 r false h) ∙ ap (λ (l : List Bool). get_or l r false) all_computed
    ∙ table_at (λ x. true) 32 r false h
