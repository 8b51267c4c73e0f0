-- Runs of bytes of one kind, as many as there are: where they end, and one byte after the other, as the code's loops go through them. The white space, the
-- digits and the name that stand at a place are such runs. Assumes nothing.
use mathlib.Core.Path.{◌≡◌, refl, sym, ap, subst, ◌∙◌}
use mathlib.Core.Bool.{Bool, true, false, cond}
use mathlib.Core.Logic.{◌↔◌}
use mathlib.Core.List.{List, [], ◌∷◌}
use Prim.Native.Nat.{ℕ, zero, suc, ◌+◌, ◌≤◌, ◌<◌}
use native.Mathlib.Nat.{lt_of_not-le}
use native.Mathlib.Numerals.{add-one}
use native.Mathlib.Omega.{arith}
use lib.Dec.{ltb}
use lib.ListN.{length, get_or, drop, drop_of_length-le}
use lib.Seq.{drop-cons}
use Rattle.std.specs.List.{prefix_len}
use Rattle.std.proofs.lemmas.List.Recursion.{same_from_clauses}
use Rattle.std.proofs.lemmas.Bool.Decides.{nat_tests}
use borrow.Author.Tests.{ltb-true, ltb-false}
use Rattle.automaton.proofs.Booleans.{clash}
use Rattle.tokens.specs.Tokens.{white, whites, skip, digit, digits, name_byte, name_bytes}
use Rattle.tokens.specs.Lexical.{Run, run_ends, run_on}

-- Bytes at the end of the text and past it.

pub byte_past : (s : List ℕ) (i : ℕ) → length s ≤ i → get_or s i 0 ≡ 0
byte_past [] zero h = refl
byte_past [] (suc i) h = refl
byte_past (b ∷ s) zero h = absurd (omega arith)
byte_past (b ∷ s) (suc i) h = byte_past s i (omega arith)

pub byte_within : (s : List ℕ) (j b : ℕ) → get_or s j 0 ≡ b → (b ≡ 0 → ⊥) → j < length s
byte_within s j b e n = lt_of_not-le (λ h. n (sym e ∙ byte_past s j h))

-- Runs, counted by f.

module _ (p : ℕ → Bool) (f : List ℕ → ℕ) (nil : f [] ≡ 0) (on : (b : ℕ) (t : List ℕ) → p b ≡ true → f (b ∷ t) ≡ suc (f t))
    (stop : (b : ℕ) (t : List ℕ) → p b ≡ false → f (b ∷ t) ≡ 0) (z : p 0 ≡ false) (s : List ℕ) where
  run_here : (i : ℕ) → p (get_or s i 0) ≡ false → i ≡ i + f (drop i s)
  run_here i e = by (ltb i (length s)) refl
    where
      by : (b : Bool) → ltb i (length s) ≡ b → i ≡ i + f (drop i s)
      by true h = omega (arith, ap f (drop-cons s i 0 (ltb-true i (length s) h)) ∙ stop (get_or s i 0) (drop (suc i) s) e)
      by false h = omega (arith, ap f (drop_of_length-le s (ltb-false i (length s) h)) ∙ nil)

  run_within : (i : ℕ) → p (get_or s i 0) ≡ true → i < length s
  run_within i e = lt_of_not-le (λ h. clash {X = ⊥} e (ap p (byte_past s i h) ∙ z))

  run_further : (i : ℕ) → p (get_or s i 0) ≡ true → i + f (drop i s) ≡ i + 1 + f (drop (i + 1) s)
  run_further i e =
      let x : f (drop i s) ≡ suc (f (drop (suc i) s)) = ap f (drop-cons s i 0 (run_within i e)) ∙ on (get_or s i 0) (drop (suc i) s) e in
      let y : f (drop (i + 1) s) ≡ f (drop (suc i) s) = ap (λ (n : ℕ). f (drop n s)) (add-one i) in
      omega (arith, x, y)

  run_count : {i j : ℕ} → Run p s i j → j ≡ i + f (drop i s)
  run_count {i = i} (run_ends e q) = sym q ∙ run_here i e
  run_count {i = i} (run_on e x) = run_count x ∙ sym (run_further i e)

  run_stands : (n i j : ℕ) → length s ≤ i + n → j ≡ i + f (drop i s) → Run p s i j
  run_stands zero i j h q = run_ends (by (p (get_or s i 0)) refl) (run_here i (by (p (get_or s i 0)) refl) ∙ sym q)
    where
      by : (b : Bool) → p (get_or s i 0) ≡ b → p (get_or s i 0) ≡ false
      by true e = absurd (omega (arith, h, run_within i e))
      by false e = e
  run_stands (suc n) i j h q = by (run_stands n (i + 1) j (omega (arith, h))) (p (get_or s i 0)) refl
    where
      by : (j ≡ i + 1 + f (drop (i + 1) s) → Run p s (i + 1) j) → (b : Bool) → p (get_or s i 0) ≡ b → Run p s i j
      by ih true e = run_on e (ih (q ∙ run_further i e))
      by ih false e = run_ends e (run_here i e ∙ sym q)

  run_iff : (i j : ℕ) → Run p s i j ↔ (j ≡ i + f (drop i s))
  run_iff i j = (run_count, run_stands (length s) i j (omega arith))

pub white_run : (s : List ℕ) (i j : ℕ) → Run (λ b. white b) s i j ↔ (j ≡ skip s i)
unfolding skip whites
white_run s i j =
    run_iff (λ b. white b) whites refl (λ b t e. ap (λ (x : Bool). elim x [ true ↦ suc (whites t) | false ↦ 0 ]) e)
    (λ b t e. ap (λ (x : Bool). elim x [ true ↦ suc (whites t) | false ↦ 0 ]) e) refl s i j

pub digit_run : (s : List ℕ) (i j : ℕ) → Run (λ b. digit b) s i j ↔ (j ≡ i + digits (drop i s))
unfolding digits
digit_run s i j =
    run_iff (λ b. digit b) digits refl (λ b t e. ap (λ (x : Bool). elim x [ true ↦ suc (digits t) | false ↦ 0 ]) e)
    (λ b t e. ap (λ (x : Bool). elim x [ true ↦ suc (digits t) | false ↦ 0 ]) e) refl s i j

pub name_run : (s : List ℕ) (i j : ℕ) → Run (λ b. name_byte b) s i j ↔ (j ≡ i + name_bytes (drop i s))
unfolding name_bytes
name_run s i j =
    run_iff (λ b. name_byte b) name_bytes refl (λ b t e. ap (λ (x : Bool). elim x [ true ↦ suc (name_bytes t) | false ↦ 0 ]) e)
    (λ b t e. ap (λ (x : Bool). elim x [ true ↦ suc (name_bytes t) | false ↦ 0 ]) e) refl s i j

-- The library's count of the bytes in front.

counted : (b : Bool) (n : ℕ) → elim b [ true ↦ suc n | false ↦ 0 ] ≡ cond b (1 + n) 0
counted true n = omega arith
counted false n = refl

pub whites_lem : (s : List ℕ) → prefix_len (λ b. white b) s ≡ whites s
unfolding whites
whites_lem = same_from_clauses (prefix_len (λ b. white b)) whites (λ b n. cond (white b) (1 + n) 0) refl (λ _ _. refl) (λ b t. counted (white b) (whites t))

pub name_bytes_lem : (s : List ℕ) → prefix_len (λ b. name_byte b) s ≡ name_bytes s
unfolding name_bytes
name_bytes_lem =
    same_from_clauses (prefix_len (λ b. name_byte b)) name_bytes (λ b n. cond (name_byte b) (1 + n) 0) refl (λ _ _. refl)
    (λ b t. counted (name_byte b) (name_bytes t))

-- One byte after the other.

pub skip_here : (s : List ℕ) (i : ℕ) → white (get_or s i 0) ≡ false → skip s i ≡ i
skip_here s i e = sym ((white_run s i i).0 (run_ends e refl))

pub skip_end : (s : List ℕ) (i : ℕ) → length s ≤ i → skip s i ≡ i
skip_end s i h = skip_here s i (ap (λ (b : ℕ). white b) (byte_past s i h))

pub skip_white : (s : List ℕ) (i : ℕ) → white (get_or s i 0) ≡ true → skip s i ≡ skip s (i + 1)
skip_white s i e = sym ((white_run s i (skip s (i + 1))).0 (run_on e ((white_run s (i + 1) (skip s (i + 1))).1 refl)))

pub skip_from : (s : List ℕ) (i : ℕ) → i ≤ skip s i
unfolding skip
skip_from s i = omega arith

-- past white space stands none
pub skip_stops : (s : List ℕ) (i : ℕ) → white (get_or s (skip s i) 0) ≡ false
skip_stops s i = run_stops ((white_run s i (skip s i)).1 refl)
  where
    run_stops : {i j : ℕ} → Run (λ b. white b) s i j → white (get_or s j 0) ≡ false
    run_stops (run_ends e q) = subst (λ (k : ℕ). white (get_or s k 0) ≡ false) q e
    run_stops (run_on e x) = run_stops x

pub digits_here : (s : List ℕ) (i : ℕ) → digit (get_or s i 0) ≡ false → i + digits (drop i s) ≡ i
digits_here s i e = sym ((digit_run s i i).0 (run_ends e refl))

pub digits_end : (s : List ℕ) (i : ℕ) → length s ≤ i → i + digits (drop i s) ≡ i
digits_end s i h = digits_here s i (ap (λ (b : ℕ). digit b) (byte_past s i h))

pub digits_on : (s : List ℕ) (i : ℕ) → digit (get_or s i 0) ≡ true → i + digits (drop i s) ≡ i + 1 + digits (drop (i + 1) s)
digits_on s i e =
    sym ((digit_run s i (i + 1 + digits (drop (i + 1) s))).0 (run_on e ((digit_run s (i + 1) (i + 1 + digits (drop (i + 1) s))).1 refl)))

pub name_here : (s : List ℕ) (i : ℕ) → name_byte (get_or s i 0) ≡ false → i + name_bytes (drop i s) ≡ i
name_here s i e = sym ((name_run s i i).0 (run_ends e refl))

pub name_on : (s : List ℕ) (i : ℕ) → name_byte (get_or s i 0) ≡ true → i + name_bytes (drop i s) ≡ i + 1 + name_bytes (drop (i + 1) s)
name_on s i e =
    sym ((name_run s i (i + 1 + name_bytes (drop (i + 1) s))).0 (run_on e ((name_run s (i + 1) (i + 1 + name_bytes (drop (i + 1) s))).1 refl)))

pub name_end_lem : (s : List ℕ) (i : ℕ) → length s ≤ i → i + name_bytes (drop i s) ≡ i
name_end_lem s i h = name_here s i (ap (λ (b : ℕ). name_byte b) (byte_past s i h))

-- from where white space ends on none is passed
pub skip_skip : (s : List ℕ) (i : ℕ) → skip s (skip s i) ≡ skip s i
skip_skip s i = skip_here s (skip s i) (skip_stops s i)

-- behind the blank among the bytes there is no white space
pub skip_black : (s : List ℕ) (i : ℕ) → 0x20 < get_or s i 0 → i ≡ skip s i
skip_black s i h = sym (skip_here s i (grind (arith, nat_tests)))

pub ruleset start_steps = (skip_black, skip_from)
