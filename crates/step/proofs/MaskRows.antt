-- The masks are filled row by row and letter by letter: each row stands right behind those that are written, so what is written so far is
-- one change of the bytes, and a letter's masks are not touched by later letters. Assumes nothing.
use mathlib.Core.Path.{◌≡◌, refl, sym, ◌∙◌, ap, ap₂, subst}
use mathlib.Core.Logic.{⊎_elim}
use mathlib.Core.List.{List}
use Prim.Native.Nat.{ℕ, zero, suc, ◌+◌, ◌*◌, ◌/◌, ◌%◌, ◌≤◌, ◌<◌}
use native.Mathlib.Nat.{eq-or-lt_of_le, mul-le-mul_right, suc-mul}
use native.Mathlib.Numerals.{add-one}
use native.Mathlib.Omega.{arith}
use lib.ListN.{length, get_or}
use Rattle.automaton.specs.Automata.{max_states}
use Rattle.automaton.specs.Members.{transition_in}
use Rattle.relations.specs.Rows.{changed_rows}
use Rattle.relations.proofs.Rows.{changed_length, changed_row, changed_kept, changed_none, changed_joined}
use Rattle.step.specs.Masks.{mask, row_place, row_masks, letter_masks, masks_after, Masks}

-- the rows of a letter end where those of the next one begin, or before
pub letter_ends : (n a k : ℕ) → a < k → a * n + n ≤ k * n
letter_ends n a k h = omega (arith, mul-le-mul_right {m = suc a} {n = k} n (omega arith), suc-mul a n)

-- the rows of the states below p on letter a, and one row more
abbrev pub first_rows : List ℕ → ℕ → ℕ → ℕ → List ℕ → List ℕ
first_rows t n p a m =
    changed_rows (row_place n a 0) (p * max_states) (λ j. mask (transition_in t (j / max_states) a (j % max_states))) m

pub rows_none : (t : List ℕ) (n a : ℕ) (m : List ℕ) → m ≡ first_rows t n 0 a m
rows_none t n a m = sym (changed_none (row_place n a 0) _ m)

pub rows_next : (t : List ℕ) (n a p : ℕ) (m m' m'' : List ℕ) → row_place n a p + max_states ≤ length m → m' ≡ first_rows t n p a m
    → m'' ≡ row_masks t n p a m' → m'' ≡ first_rows t n (p + 1) a m
rows_next t n a p m m' m'' fits d e =
    e
    ∙ ap₂ (λ (i : ℕ) (l : List ℕ). changed_rows i max_states (λ r. mask (transition_in t p a r)) l) place d
    ∙ changed_joined (row_place n a 0) (p * max_states) (λ j. mask (transition_in t (j / max_states) a (j % max_states))) m max_states
    (λ r. mask (transition_in t p a r)) (omega arith)
    (λ r h. ap₂ (λ (q s : ℕ). mask (transition_in t q a s)) (source r h) (target r h))
    ∙ ap (λ (k : ℕ). changed_rows (row_place n a 0) k (λ j. mask (transition_in t (j / max_states) a (j % max_states))) m) more
  where
    place : row_place n a p ≡ row_place n a 0 + p * max_states
    place = omega arith

    more : p * max_states + max_states ≡ (p + 1) * max_states
    more = omega arith

    source : (r : ℕ) → r < max_states → p ≡ (p * max_states + r) / max_states
    source r h = omega arith

    target : (r : ℕ) → r < max_states → r ≡ (p * max_states + r) % max_states
    target r h = omega arith

-- the letters below k, and one letter more
pub letters_next : (t : List ℕ) (n k : ℕ) (m m' m'' : List ℕ) → m' ≡ masks_after t n k m → m'' ≡ letter_masks t n k m'
    → m'' ≡ masks_after t n (k + 1) m
unfolding masks_after
letters_next t n k m m' m'' d e = e ∙ ap (letter_masks t n k) d ∙ sym (ap (λ (j : ℕ). masks_after t n j m) (add-one k))

module _ (t : List ℕ) (n : ℕ) (m : List ℕ) where
  after_length : (k : ℕ) → k * n * max_states ≤ length m → length (masks_after t n k m) ≡ length m
  unfolding masks_after
  after_length zero h = refl
  after_length (suc k) h =
      let ends = letter_ends n k (suc k) (omega arith) in
      let l = after_length k (omega arith) in
      changed_length (row_place n k 0) (n * max_states) _ (masks_after t n k m) (omega arith) ∙ l

  -- one letter more
  masks_more : (k : ℕ) (done : List ℕ) → row_place n k n ≤ length done → Masks done t n k → Masks (letter_masks t n k done) t n (suc k)
  masks_more k done h M a p r ha hp hr = ⊎_elim here before (eq-or-lt_of_le {n = a} {m = k} (omega arith))
    where
      before : a < k → get_or (letter_masks t n k done) (row_place n a p + r) 0 ≡ mask (transition_in t p a r)
      before l =
          let ends = letter_ends n a k l in
          (changed_kept (row_place n k 0) (n * max_states) _ done (omega arith)).before (row_place n a p + r) (omega arith) ∙ M a p r l hp hr

      here : a ≡ k → get_or (letter_masks t n k done) (row_place n a p + r) 0 ≡ mask (transition_in t p a r)
      here e =
          let same : a * n ≡ k * n = ap (λ (j : ℕ). j * n) e in
          let place : row_place n a p + r ≡ row_place n k 0 + (p * max_states + r) = omega arith in
          let source : (p * max_states + r) / max_states ≡ p = omega arith in
          let target : (p * max_states + r) % max_states ≡ r = omega arith in
          ap (λ (i : ℕ). get_or (letter_masks t n k done) i 0) place
          ∙ changed_row (row_place n k 0) (n * max_states) (λ j. mask (transition_in t (j / max_states) k (j % max_states))) done
          (omega arith) (p * max_states + r) (omega arith)
          ∙ ap₂ (λ (q s : ℕ). mask (transition_in t q k s)) source target
          ∙ ap (λ (c : ℕ). mask (transition_in t p c r)) (sym e)

  masks_made : (k : ℕ) → k * n * max_states ≤ length m → Masks (masks_after t n k m) t n k
  unfolding masks_after
  masks_made zero h = λ a p r ha hp hr. absurd (omega arith)
  masks_made (suc k) h =
      let ends = letter_ends n k (suc k) (omega arith) in
      let long = after_length k (omega arith) in
      masks_more k (masks_after t n k m) (omega arith) (masks_made k (omega arith))

  -- what is filled are the masks
  pub masks_after_lem : (k : ℕ) (m' : List ℕ) → k * n * max_states ≤ length m → m' ≡ masks_after t n k m → Masks m' t n k
  masks_after_lem k m' h e = subst (λ (x : List ℕ). Masks x t n k) (sym e) (masks_made k h)
