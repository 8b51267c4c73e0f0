-- A file that is read is as long as the fixed form of its automaton: both have the records that the automaton has, each once. Assumes nothing.
use mathlib.Core.Path.{◌≡◌, refl, sym, ap, subst, ◌∙◌}
use mathlib.Core.Logic.{◌⊎◌, inl, inr, ⊎_elim, ◌↔◌}
use mathlib.Core.List.Memᴰ
use mathlib.Core.List.{List, [], ◌∷◌, Memᴰ}
use Prim.Native.Nat.{ℕ, ◌+◌, ◌≤◌}
use native.Mathlib.Omega.{arith}
use lib.ListN.{length, length-append}
use Rattle.automaton.specs.declared.Automaton.{Automaton}
use Rattle.format.specs.Writing.{Item, item_bytes, items_bytes, end_bytes}
use Rattle.format.specs.File.{read_file, holds}
use Rattle.format.specs.Spelling.{Distinct}
use Rattle.format.proofs.FileLaws.{file_in_range}
use Rattle.format.proofs.FileBytes.{file_held_iff}
use Rattle.fixed_form.specs.FixedForm.{items_of, written}
use Rattle.fixed_form.specs.WriteDemand.{shortest_file, longest_file}
use Rattle.fixed_form.proofs.Ascending.{ascending_distinct}
use Rattle.fixed_form.proofs.Items.{written_ascends, spelled_items_iff}
use Rattle.fixed_form.proofs.Lengths.{written_bounds}

-- a list without a record that it has
record Without (x : Item) (ys : List Item) : Type 0 where
  others : List Item
  bytes : length (items_bytes ys) ≡ length (item_bytes x) + length (items_bytes others)
  members : (z : Item) → Memᴰ z ys ↔ ((z ≡ x) ⊎ Memᴰ z others)
  distinct : Distinct ys → (Memᴰ x others → ⊥) × Distinct others

first_out : (x y : Item) (ys : List Item) → x ≡ y → Without x (y ∷ ys)
unfolding items_bytes Distinct
first_out x y ys e = record {
  others = ys;
  bytes = length-append (item_bytes y) (items_bytes ys) ∙ ap (λ (z : Item). length (item_bytes z) + length (items_bytes ys)) (sym e);
  members = λ z. (
    λ m. ⊎_elim (λ d. inl (d ∙ sym e)) inr (Memᴰ.cases_cons m),
    λ t. ⊎_elim (λ d. Memᴰ.head (d ∙ e)) Memᴰ.tail t,
  );
  distinct = λ d. (λ m. d.0 (subst (λ (z : Item). Memᴰ z ys) e m), d.1);
}

later_out : (x y : Item) (ys : List Item) → Memᴰ x ys → Without x ys → Without x (y ∷ ys)
unfolding items_bytes Distinct
later_out x y ys l w = record {
  others = y ∷ w.others;
  bytes =
      omega (arith, length-append (item_bytes y) (items_bytes ys), length-append (item_bytes y) (items_bytes w.others), w.bytes);
  members = λ z. (
    λ m. ⊎_elim (λ d. inr (Memᴰ.head d)) (λ k. ⊎_elim inl (λ u. inr (Memᴰ.tail u)) ((w.members z).0 k)) (Memᴰ.cases_cons m),
    λ t. ⊎_elim (λ d. Memᴰ.tail ((w.members z).1 (inl d)))
        (λ m. ⊎_elim Memᴰ.head (λ u. Memᴰ.tail ((w.members z).1 (inr u))) (Memᴰ.cases_cons m)) t,
  );
  distinct = λ d. (
    λ m. ⊎_elim (λ e. d.0 (subst (λ (z : Item). Memᴰ z ys) e l)) (w.distinct d.1).0 (Memᴰ.cases_cons m),
    (λ m. d.0 ((w.members y).1 (inr m)), (w.distinct d.1).1),
  );
}

without : (x : Item) (ys : List Item) → Memᴰ x ys → Without x ys
without x [] m = absurd (Memᴰ.not-nil m)
without x (y ∷ ys) m = ⊎_elim (first_out x y ys) (λ l. later_out x y ys l (without x ys l)) (Memᴰ.cases_cons m)

-- lists without repeats that have the same records have equally many bytes
items_same_length : (xs ys : List Item) → Distinct xs → Distinct ys → ((z : Item) → Memᴰ z xs ↔ Memᴰ z ys)
    → length (items_bytes xs) ≡ length (items_bytes ys)
unfolding items_bytes Distinct
items_same_length [] [] d e m = refl
items_same_length [] (y ∷ ys) d e m = absurd (Memᴰ.not-nil ((m y).1 (Memᴰ.head refl)))
items_same_length (x ∷ xs) ys d e m =
    let w = without x ys ((m x).0 (Memᴰ.head refl)) in
    let over : (z : Item) → Memᴰ z xs → Memᴰ z w.others =
    λ z l. ⊎_elim (λ q. absurd (d.0 (subst (λ (u : Item). Memᴰ u xs) q l))) (λ k. k) ((w.members z).0 ((m z).0 (Memᴰ.tail l))) in
    let back : (z : Item) → Memᴰ z w.others → Memᴰ z xs =
    λ z l. ⊎_elim (λ q. absurd ((w.distinct e).0 (subst (λ (u : Item). Memᴰ u w.others) q l))) (λ k. k)
    (Memᴰ.cases_cons ((m z).1 ((w.members z).1 (inr l)))) in
    let rest = items_same_length xs w.others d.1 (w.distinct e).1 (λ z. (over z, back z)) in
    omega (arith, length-append (item_bytes x) (items_bytes xs), w.bytes, rest)

module _ (s : List ℕ) (A : Automaton) (e : read_file s ≡ holds A) where
  pub file_length : length s ≡ length (written A)
  unfolding written
  file_length =
      let S = (file_held_iff s A).0 e in
      let d =
      items_same_length S.items (items_of A) S.distinct (ascending_distinct (items_of A) (written_ascends A)) (spelled_items_iff A s S) in
      omega (arith, ap length S.bytes, length-append (items_bytes S.items) end_bytes, length-append (items_bytes (items_of A)) end_bytes, d)

  -- so it has 7 to 82,023 bytes
  pub file_bounds : (shortest_file ≤ length s) × (length s ≤ longest_file)
  file_bounds =
      let i = file_in_range s A e in
      let b = written_bounds A i.few_states i.few_letters in
      (omega (arith, file_length, b.0), omega (arith, file_length, b.1))
