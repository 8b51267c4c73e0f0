-- The bounds of the fixed form's length are met: by one state and one letter without records, and by 32 states and 16 letters with every record there
-- can be. Assumes nothing.
use mathlib.Core.Path.{◌≡◌, refl, sym, ap, ◌∙◌}
use mathlib.Core.Bool.{true, ◌&&◌}
use Prim.Native.Nat.{ℕ, zero, suc, ◌+◌, ◌*◌, ◌/◌, ◌%◌, ◌<◌}
use native.Mathlib.Nat.{add_comm, zero-mul, suc-mul}
use native.Mathlib.Omega.{arith}
use borrow.Author.Tests.{lt-ltb}
use lib.Dec.{ltb}
use lib.ListN.{length, get_or, replicate, get_or-replicate}
use Rattle.automaton.specs.Ranges.{those, chained, total}
use Rattle.automaton.specs.Sets.{bit}
use Rattle.automaton.specs.Automata.{accepts, place, transition, targets, one, transition_count, bare}
use Rattle.automaton.proofs.Members.{total_same}
use Rattle.format.specs.Writing.{items_bytes}
use Rattle.fixed_form.specs.FixedForm.{accepting_items, transition_items, written, accepting_count, full_automaton}
use Rattle.fixed_form.specs.WriteDemand.{shortest_file, longest_file}
use Rattle.fixed_form.proofs.Lengths.{written_length}

pub shortest_met : length (written (bare 1 1 0)) ≡ shortest_file
unfolding written accepting_items transition_items targets accepts transition bare those chained items_bytes
shortest_met = refl

-- Of the full automaton every bit is set.

all_set : (j : ℕ) → j < 8 → bit 255 j ≡ true
all_set zero h = refl
all_set (suc zero) h = refl
all_set (suc (suc zero)) h = refl
all_set (suc (suc (suc zero))) h = refl
all_set (suc (suc (suc (suc zero)))) h = refl
all_set (suc (suc (suc (suc (suc zero))))) h = refl
all_set (suc (suc (suc (suc (suc (suc zero)))))) h = refl
all_set (suc (suc (suc (suc (suc (suc (suc zero))))))) h = refl
all_set (suc (suc (suc (suc (suc (suc (suc (suc j)))))))) h = absurd (omega arith)

-- a bit of so many bytes of ones
ones_bit : (n i j : ℕ) → i < n → j < 8 → bit (get_or (replicate n 255) i 0) j ≡ true
ones_bit n i j h l = ap (λ (w : ℕ). bit w j) (get_or-replicate n i 255 0 h) ∙ all_set j l

-- a sum of equal numbers
total_const : (f : ℕ → ℕ) (x n : ℕ) → ((k : ℕ) → k < n → f k ≡ x) → total f n 0 ≡ n * x
unfolding total
total_const f x n e = total_same f (λ k. x) n 0 (λ k _ h. e k (omega arith)) ∙ go n 0
  where
    go : (m i : ℕ) → total (λ k. x) m i ≡ m * x
    go zero i = sym (zero-mul x)
    go (suc m) i = ap (λ (y : ℕ). x + y) (go m (suc i)) ∙ add_comm x (m * x) ∙ sym (suc-mul m x)

full_accepts : (q : ℕ) → q < 32 → one (accepts full_automaton q) ≡ 1
unfolding accepts
full_accepts q h =
    let e : (ltb q 32 && bit (get_or (replicate 4 255) (q / 8) 0) (q % 8)) ≡ true =
    rw (lt-ltb q 32 h, ones_bit 4 (q / 8) (q % 8) (omega arith) (omega arith)) in
    ap one e

full_leads : (q a r : ℕ) → q < 32 → a < 16 → r < 32 → one (transition full_automaton q a r) ≡ 1
unfolding transition
full_leads q a r h l m =
    let e : (ltb q 32 && ltb a 16 && ltb r 32 && bit (get_or (replicate 2048 255) (place q a r) 0) (r % 8)) ≡ true =
    rw (lt-ltb q 32 h, lt-ltb a 16 l, lt-ltb r 32 m, ones_bit 2048 (place q a r) (r % 8) (omega arith) (omega arith)) in
    ap one e

full_accepting : accepting_count full_automaton ≡ 32
unfolding accepting_count
full_accepting = total_const _ 1 32 full_accepts

full_transitions : transition_count full_automaton ≡ 16384
unfolding transition_count
full_transitions =
    total_const _ 512 32 (λ q h. total_const _ 32 16 (λ a l. total_const _ 1 32 (λ r m. full_leads q a r h l m)))

pub longest_met : length (written full_automaton) ≡ longest_file
longest_met = omega (arith, written_length full_automaton, full_accepting, full_transitions)
