-- Where a reading past the header stops: after records that fit, at the end record or at a record with a fault, and what it gives is told by
-- that record. One induction along the records goes from the reading to the bytes, another from the bytes to the reading. Assumes nothing.
use mathlib.Core.Path.{◌≡◌, refl, sym, ap, subst, ◌∙◌}
use mathlib.Core.List.{List, [], ◌∷◌, ◌++◌, append_assoc}
use Prim.Native.Nat.{ℕ, zero, suc, ◌+◌, ◌*◌, ◌≤◌}
use native.Mathlib.Omega.{arith}
use lib.ListN.{length, drop, length-drop}
use Rattle.automaton.specs.declared.Automaton.{Automaton}
use Rattle.format.specs.Writing.{Item, item_bytes, items_bytes, end_bytes}
use Rattle.format.proofs.Stands.{after_item, item_fits}
use Rattle.format.specs.File.{Read, refused, holds, Step, over, next, record_at, records}
use Rattle.format.specs.Spelling.{Within, with_item, with_items}
use Rattle.format.specs.Refusals.{in_mark}
use Rattle.format.proofs.RecordSteps.{Has, Faulty, first, RecordStep, fault, ends, adds, record_step, faulty_step, end_step, more_step, records_over, read_after, read_over, read_next}
use Rattle.format.proofs.FileLaws.{read_same, read_not_both}
use Rattle.format.proofs.Items.{Fit}

-- the record at the start of l, with the automaton so far, ends the reading
pub data Last (A : Automaton) (l : List ℕ) : Read → Type 0 where
  at_end : l ≡ end_bytes → Last A l (holds A)
  at_fault : {n : ℕ} → Faulty A l n → Last A l (refused n)

-- read on from i with A, the file gives r
pub record Stops (s : List ℕ) (i : ℕ) (A : Automaton) (r : Read) : Type 0 where
  pub items : List Item
  pub rest : List ℕ
  pub bytes : drop i s ≡ items_bytes items ++ rest
  pub fit : Fit A items
  pub last : Last (with_items A items) rest r

pub last_holds : {A B : Automaton} {l : List ℕ} {r : Read} → r ≡ holds B → Last A l r → (B ≡ A) × (l ≡ end_bytes)
last_holds d (at_end e) = (read_same d refl, e)
last_holds d (at_fault f) = absurd (read_not_both d refl)

pub last_refused : {A : Automaton} {l : List ℕ} {r : Read} {c : ℕ} → r ≡ refused c → Last A l r → Faulty A l c
last_refused d (at_end e) = absurd (read_not_both refl d)
last_refused {A = A} {l = l} {c = c} d (at_fault {n = n} f) = subst (Faulty A l) (same n d) f
  where
    same : (m : ℕ) → refused m ≡ refused c → m ≡ c
    same m e = cc

stops_here : (s : List ℕ) (i : ℕ) (A : Automaton) {r : Read} → Last A (drop i s) r → Stops s i A r
unfolding Fit with_items items_bytes
stops_here s i A h = record { items = []; rest = drop i s; bytes = refl; fit = tt; last = h }

stops_later : (s : List ℕ) (i : ℕ) (A : Automaton) {r : Read} (x : Item) (t : List ℕ) → drop i s ≡ item_bytes x ++ t
    → Within A.states A.letters x → (Has A x → ⊥) → Stops s (i + length (item_bytes x)) (with_item A x) r → Stops s i A r
unfolding Fit with_items items_bytes
stops_later s i A x t e h n b =
    record {
      items = x ∷ b.items;
      rest = b.rest;
      bytes =
          e ∙ ap (λ (l : List ℕ). item_bytes x ++ l) (sym (after_item s i x t e) ∙ b.bytes)
          ∙ sym (append_assoc (item_bytes x) (items_bytes b.items) b.rest);
      fit = (h, n, b.fit);
      last = b.last;
    }

pub records_stop : (n : ℕ) (s : List ℕ) (i : ℕ) (A : Automaton) → length s ≤ i + 2 * n → Stops s i A (records n s (next i A))
unfolding records
records_stop zero s i A h = stops_here s i A (at_fault (first (in_mark (omega (arith, length-drop i s)))))
records_stop (suc n) s i A h = go (λ j B. records_stop n s j B) (record_step s i A)
  where
    go : ((j : ℕ) (B : Automaton) → length s ≤ j + 2 * n → Stops s j B (records n s (next j B)))
        → {x : Step} → RecordStep s i A x → Stops s i A (records n s x)
    go ih (fault f) = subst (Stops s i A) (sym (records_over n s _)) (stops_here s i A (at_fault f))
    go ih (ends e) = subst (Stops s i A) (sym (records_over n s (holds A))) (stops_here s i A (at_end e))
    go ih (adds x t e w u) =
        stops_later s i A x t e w u (ih (i + length (item_bytes x)) (with_item A x) (omega (arith, (item_fits s i x t e).0)))

last_step : (s : List ℕ) (i : ℕ) (A : Automaton) {r : Read} → Last A (drop i s) r → record_at s i A ≡ over r
last_step s i A (at_end e) = end_step s i A e
last_step s i A (at_fault f) = faulty_step s i A f

pub stops_read : (s : List ℕ) (xs : List Item) (i : ℕ) (A : Automaton) (rest : List ℕ) (r : Read) → drop i s ≡ items_bytes xs ++ rest
    → Fit A xs → Last (with_items A xs) rest r → read_after s (next i A) ≡ r
unfolding Fit with_items items_bytes
stops_read s [] i A rest r e f h =
    read_next s i A
    ∙ ap (read_after s) (last_step s i A (subst (λ (l : List ℕ). Last A l r) (sym e) h))
    ∙ read_over s r
stops_read s (x ∷ xs) i A rest r e f h =
    let d = e ∙ append_assoc (item_bytes x) (items_bytes xs) rest in
    read_next s i A
    ∙ ap (read_after s) (more_step s i A x (items_bytes xs ++ rest) d f.0 f.1)
    ∙ stops_read s xs (i + length (item_bytes x)) (with_item A x) rest r (after_item s i x (items_bytes xs ++ rest) d) f.2 h
