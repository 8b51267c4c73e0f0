-- The length of the fixed form, counted: 7 bytes for header and end, 3 for each accepting state and 5 for each transition. Assumes nothing.
use mathlib.Core.Path.{◌≡◌, refl, sym, ap, ap₂, ◌∙◌}
use mathlib.Core.Bool.{Bool, true, false}
use mathlib.Core.List.{List, [], ◌∷◌, ◌++◌, map, append_assoc}
use Prim.Native.Nat.{ℕ, zero, suc, ◌+◌, ◌*◌, ◌≤◌}
use native.Mathlib.Nat.{zero-add, mul-zero, mul-one, mul-add, mul-le-mul}
use native.Mathlib.Omega.{arith}
use lib.ListN.{length, length-append}
use Rattle.automaton.specs.declared.Automaton.{Automaton}
use Rattle.automaton.specs.Ranges.{those, chained, total}
use Rattle.automaton.specs.Automata.{max_states, max_letters, accepts, transition, targets, one, transition_count}
use Rattle.automaton.proofs.Rank.{total_le, one_le, transition_count_le}
use Rattle.format.specs.Writing.{Item, accepting_item, transition_item, item_bytes, items_bytes, end_bytes}
use Rattle.fixed_form.specs.FixedForm.{accepting_items, transition_items, items_of, written, accepting_count}
use Rattle.fixed_form.specs.WriteDemand.{shortest_file, longest_file}

-- Records one after another.

pub items_append : (xs ys : List Item) → items_bytes (xs ++ ys) ≡ items_bytes xs ++ items_bytes ys
unfolding items_bytes
items_append [] ys = refl
items_append (x ∷ xs) ys =
    ap (λ (l : List ℕ). item_bytes x ++ l) (items_append xs ys) ∙ sym (append_assoc (item_bytes x) (items_bytes xs) (items_bytes ys))

pub items_chained : (f : ℕ → List Item) (n i : ℕ) → items_bytes (chained f n i) ≡ chained (λ k. items_bytes (f k)) n i
unfolding items_bytes chained
items_chained f zero i = refl
items_chained f (suc n) i =
    items_append (f i) (chained f n (suc i)) ∙ ap (λ (l : List ℕ). items_bytes (f i) ++ l) (items_chained f n (suc i))

-- Their lengths.

-- records of w bytes each, of the numbers that pass
length_those : (g : ℕ → Item) (w : ℕ) → ((k : ℕ) → length (item_bytes (g k)) ≡ w) → (f : ℕ → Bool) (n i : ℕ)
    → length (items_bytes (map g (those f n i))) ≡ w * total (λ k. one (f k)) n i
unfolding items_bytes those total
length_those g w e f zero i = sym (mul-zero w)
length_those g w e f (suc n) i = go (total (λ k. one (f k)) n (suc i)) (f i) (length_those g w e f n (suc i))
  where
    go : (k : ℕ) (b : Bool) → length (items_bytes (map g (those f n (suc i)))) ≡ w * k
        → length (items_bytes (map g (elim b [ true ↦ i ∷ those f n (suc i) | false ↦ those f n (suc i) ]))) ≡ w * (one b + k)
    go k true d =
        length-append (item_bytes (g i)) (items_bytes (map g (those f n (suc i))))
        ∙ ap₂ (λ (x y : ℕ). x + y) (e i ∙ sym (mul-one w)) d ∙ sym (mul-add w 1 k)
    go k false d = d ∙ ap (λ (x : ℕ). w * x) (sym (zero-add k))

length_chained : (f : ℕ → List Item) (w : ℕ) (c : ℕ → ℕ) (n i : ℕ) → ((k : ℕ) → length (items_bytes (f k)) ≡ w * c k)
    → length (items_bytes (chained f n i)) ≡ w * total c n i
unfolding items_bytes chained total
length_chained f w c zero i e = sym (mul-zero w)
length_chained f w c (suc n) i e =
    ap length (items_append (f i) (chained f n (suc i)))
    ∙ length-append (items_bytes (f i)) (items_bytes (chained f n (suc i)))
    ∙ ap₂ (λ (x y : ℕ). x + y) (e i) (length_chained f w c n (suc i) e) ∙ sym (mul-add w (c i) (total c n (suc i)))

module _ (A : Automaton) where
  accepting_length : length (items_bytes (accepting_items A)) ≡ 3 * accepting_count A
  unfolding accepting_items accepting_count
  accepting_length = length_those accepting_item 3 (λ q. refl) (accepts A) A.states 0

  transitions_length : length (items_bytes (transition_items A)) ≡ 5 * transition_count A
  unfolding transition_items transition_count targets
  transitions_length =
      length_chained _ 5 _ A.states 0 (λ q. length_chained _ 5 _ A.letters 0
      (λ a. length_those (transition_item q a) 5 (λ r. refl) (transition A q a) A.states 0))

  -- the length of the fixed form, of any automaton, ..
  pub written_length : length (written A) ≡ 7 + 3 * accepting_count A + 5 * transition_count A
  unfolding written
  written_length =
      let b = items_bytes (accepting_items A) in
      let t = items_bytes (transition_items A) in
      let e = ap length (items_append (accepting_items A) (transition_items A)) ∙ length-append b t in
      let d = length-append (items_bytes (items_of A)) end_bytes in
      omega (arith, e, d, accepting_length, transitions_length)

  pub transition_count_few : A.states ≤ max_states → A.letters ≤ max_letters → transition_count A ≤ 16384
  transition_count_few h l = omega (arith, transition_count_le A l, mul-le-mul h h)

  -- .. and its bounds
  pub written_bounds : A.states ≤ max_states → A.letters ≤ max_letters → (shortest_file ≤ length (written A)) × (length (written A) ≤ longest_file)
  unfolding accepting_count
  written_bounds h l =
      let e = written_length in
      let few = total_le (λ q. one (accepts A q)) 1 A.states 0 (λ q. one_le (accepts A q)) in
      (omega (arith, e), omega (arith, e, few, transition_count_few h l))
