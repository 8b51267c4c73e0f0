-- The two sets of an automaton are bytes, so many of them, and stay so where an accepting state or a transition is added: a bit more of a byte gives a byte.
-- Assumes nothing.
use mathlib.Core.Path.{◌∙◌}
use mathlib.Core.List.{List, [], ◌∷◌}
use Prim.Native.Nat.{ℕ, zero, suc, ◌%◌, ◌^◌, ◌<◌}
use native.Mathlib.Omega.{arith}
use lib.Bits.{or_lt}
use lib.ListN.{get_or, set, replicate, length-set, length-replicate}
use lib.Pow.{pow-lt}
use Rattle.automaton.specs.declared.Automaton.{Automaton}
use Rattle.automaton.specs.Sets.{with_bit, Bytes}
use Rattle.automaton.specs.Automata.{bare, with_accepting, with_transition}
use Rattle.format.specs.Writing.{Item, accepting_item, transition_item}
use Rattle.format.specs.Spelling.{with_item}

zero_bytes : (n : ℕ) → Bytes n (replicate n 0)
zero_bytes n = record { size = length-replicate n 0; small = small n }
  where
    small : (n i : ℕ) → get_or (replicate n 0) i 0 < 256
    small zero i = omega arith
    small (suc n) zero = omega arith
    small (suc n) (suc i) = small n i

small_set : (s : List ℕ) (i v : ℕ) → v < 256 → ((j : ℕ) → get_or s j 0 < 256) → (j : ℕ) → get_or (set s i v) j 0 < 256
small_set [] i v l h j = h j
small_set (x ∷ s) zero v l h zero = l
small_set (x ∷ s) zero v l h (suc j) = h (suc j)
small_set (x ∷ s) (suc i) v l h zero = h zero
small_set (x ∷ s) (suc i) v l h (suc j) = small_set s i v l (λ k. h (suc k)) j

-- bit r % 8 more in byte i
with_bit_bytes : {n : ℕ} {s : List ℕ} (i r : ℕ) → Bytes n s → Bytes n (set s i (with_bit (get_or s i 0) (r % 8)))
with_bit_bytes {s = s} i r b =
    let v = with_bit (get_or s i 0) (r % 8) in
    record {
      size = length-set s i v ∙ b.size;
      small = small_set s i v (or_lt 8 (get_or s i 0) (2 ^ (r % 8)) (b.small i) (pow-lt {j = 8} (omega arith))) b.small;
    }

abbrev pub SetBytes : Automaton → Type 0
SetBytes A = Bytes 4 A.accepting × Bytes 2048 A.transitions

pub bare_bytes : (n k i : ℕ) → SetBytes (bare n k i)
unfolding bare
bare_bytes n k i = (zero_bytes 4, zero_bytes 2048)

pub with_item_bytes : (A : Automaton) (x : Item) → SetBytes A → SetBytes (with_item A x)
unfolding with_accepting with_transition
with_item_bytes A (accepting_item q) b = (with_bit_bytes _ q b.0, b.1)
with_item_bytes A (transition_item q a r) b = (b.0, with_bit_bytes _ r b.1)
