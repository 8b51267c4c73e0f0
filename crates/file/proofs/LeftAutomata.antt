-- The automaton that a reading leaves. The number of records allowed never matters, so it is told record after record; and it is what the
-- header and the records say that stand before the end, or before the fault. Assumes nothing.
use mathlib.Core.Path.{◌≡◌, refl, sym, ap, subst, ◌∙◌}
use mathlib.Core.List.{List, [], ◌∷◌, ◌++◌, append_assoc}
use Prim.Native.Nat.{ℕ, zero, suc, ◌+◌, ◌*◌, ◌≤◌}
use native.Mathlib.Omega.{arith}
use lib.ListN.{length, drop}
use Rattle.automaton.specs.declared.Automaton.{Automaton}
use Rattle.automaton.specs.Automata.{bare}
use Rattle.format.specs.Writing.{Item, item_bytes, items_bytes}
use Rattle.format.specs.File.{Read, refused, holds, Step, over, next, header, record_at, read_file}
use Rattle.format.specs.Spelling.{with_item, with_items}
use Rattle.file.specs.Taking.{automaton_past, automaton_read}
use Rattle.format.proofs.Stands.{after_item}
use Rattle.format.proofs.RecordSteps.{HeaderStep, without_header, starts, header_step, record_advances, Enough, end_step, faulty_step, more_step}
use Rattle.format.proofs.RecordSteps.{read_after, read_file_lem, read_over}
use Rattle.format.proofs.FileLaws.{read_not_both}
use Rattle.format.proofs.Items.{Fit}
use Rattle.format.proofs.FileStops.{Last, at_end, at_fault, Stops, last_holds, records_stop}

-- The number of records allowed.

past_over : (n : ℕ) (s : List ℕ) (r : Read) (A : Automaton) → automaton_past n s (over r) A ≡ A
unfolding automaton_past
past_over zero s r A = refl
past_over (suc n) s r A = refl

module _ (s : List ℕ) (i : ℕ) (B : Automaton) where
  -- past the file's last byte there is no record
  past_end : (n : ℕ) (A : Automaton) → length s ≤ i → automaton_past n s (next i B) A ≡ B
  unfolding automaton_past
  past_end zero A h = refl
  past_end (suc n) A h = go (record_at s i B) refl
    where
      go : (x : Step) → record_at s i B ≡ x → automaton_past n s x B ≡ B
      go (over r) e = past_over n s r B
      go (next j C) e = let a = record_advances s i j B C e in absurd (omega (arith, a.0, a.1))

  step_enough : (n : ℕ) → length s ≤ i + 2 * suc n → Enough n s (record_at s i B)
  step_enough n h = go (record_at s i B) refl
    where
      go : (x : Step) → record_at s i B ≡ x → Enough n s x
      go (over r) e = tt
      go (next j C) e = omega (arith, (record_advances s i j B C e).0)

past_enough : (n m : ℕ) (s : List ℕ) (x : Step) (A : Automaton) → Enough n s x → Enough m s x → automaton_past n s x A ≡ automaton_past m s x A
unfolding automaton_past
past_enough zero m s (over r) A h k = sym (past_over m s r A)
past_enough zero m s (next i B) A h k = sym (past_end s i B m A (omega arith))
past_enough (suc n) m s (over r) A h k = sym (past_over m s r A)
past_enough (suc n) zero s (next i B) A h k = past_end s i B (suc n) A (omega arith)
past_enough (suc n) (suc m) s (next i B) A h k =
    past_enough n m s (record_at s i B) B (step_enough s i B n h) (step_enough s i B m k)

-- The equations of the automaton that is left.

-- what s leaves, read on after a step, with A before it
unfoldable pub left_after : List ℕ → Step → Automaton → Automaton
left_after s x A = automaton_past (length s) s x A

pub left_file : (s : List ℕ) → automaton_read s ≡ left_after s (header s) (bare 0 0 0)
unfolding automaton_read left_after
left_file s = refl

pub left_over : (s : List ℕ) (r : Read) (A : Automaton) → left_after s (over r) A ≡ A
unfolding left_after
left_over s r A = past_over (length s) s r A

pub left_next : (s : List ℕ) (i : ℕ) (B A : Automaton) → left_after s (next i B) A ≡ left_after s (record_at s i B) B
unfolding left_after automaton_past
left_next s i B A = past_enough (length s) (suc (length s)) s (next i B) A (omega arith) (omega arith)

-- What is left, in the terms of what stands in the file.

-- after records that fit, up to one that ends the reading, there is what these records say
stops_leave : (s : List ℕ) (xs : List Item) (i : ℕ) (A : Automaton) (rest : List ℕ) {r : Read} → drop i s ≡ items_bytes xs ++ rest
    → Fit A xs → Last (with_items A xs) rest r → left_after s (record_at s i A) A ≡ with_items A xs
unfolding Fit with_items items_bytes
stops_leave s [] i A rest {r} e f h = go (subst (λ (l : List ℕ). Last A l r) (sym e) h)
  where
    go : {x : Read} → Last A (drop i s) x → left_after s (record_at s i A) A ≡ A
    go (at_end d) = ap (λ (y : Step). left_after s y A) (end_step s i A d) ∙ left_over s (holds A) A
    go (at_fault {n = n} d) = ap (λ (y : Step). left_after s y A) (faulty_step s i A d) ∙ left_over s (refused n) A
stops_leave s (x ∷ xs) i A rest e f h =
    let d = e ∙ append_assoc (item_bytes x) (items_bytes xs) rest in
    let j = i + length (item_bytes x) in
    ap (λ (y : Step). left_after s y A) (more_step s i A x (items_bytes xs ++ rest) d f.0 f.1)
    ∙ left_next s j (with_item A x) A
    ∙ stops_leave s xs j (with_item A x) rest (after_item s i x (items_bytes xs ++ rest) d) f.2 h

-- without a header there is nothing
pub unheaded_automaton : (s : List ℕ) (r : Read) → header s ≡ over r → automaton_read s ≡ bare 0 0 0
unheaded_automaton s r e = left_file s ∙ ap (λ (x : Step). left_after s x (bare 0 0 0)) e ∙ left_over s r (bare 0 0 0)

-- with a header there is what it says, and the records up to the end, or up to the first fault
pub headed_automaton : (s : List ℕ) (n k i : ℕ) {r : Read} → header s ≡ next 5 (bare n k i) → (b : Stops s 5 (bare n k i) r)
    → automaton_read s ≡ with_items (bare n k i) b.items
headed_automaton s n k i e b =
    left_file s
    ∙ ap (λ (x : Step). left_after s x (bare 0 0 0)) e
    ∙ left_next s 5 (bare n k i) (bare 0 0 0)
    ∙ stops_leave s b.items 5 (bare n k i) b.rest b.bytes b.fit b.last

-- a file that is read leaves its automaton
pub held_automaton : (s : List ℕ) (A : Automaton) → read_file s ≡ holds A → automaton_read s ≡ A
unfolding read_after
held_automaton s A e = go (header_step s) refl
  where
    go : {x : Step} → HeaderStep s x → header s ≡ x → automaton_read s ≡ A
    go (without_header {n = n} f) d = absurd (read_not_both e (read_file_lem s ∙ ap (read_after s) d ∙ read_over s (refused n)))
    go (starts n k i t c v) d =
        let b = records_stop (length s) s 5 (bare n k i) (omega arith) in
        headed_automaton s n k i d b ∙ sym (last_holds (sym (ap (read_after s) d) ∙ sym (read_file_lem s) ∙ e) b.last).0
