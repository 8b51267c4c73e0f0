-- Sets of states as words and relations held as rows of words: the members of words made of bytes, of "and" and of unions of rows, rows
-- rewritten one after another in place, the diagonal and the rounds of Warshall's method. The row of k itself stays in the round by way
-- of k, so the order of the rows does not matter. Assumes nothing.
use mathlib.Core.Path.{◌≡◌, refl, sym, ap, ap₂, subst, ◌∙◌}
use mathlib.Core.Bool.{Bool, true, false, cond, ◌&&◌, ◌||◌, not}
use mathlib.Core.List.{List, [], ◌∷◌, ◌++◌}
use Prim.Native.Nat.{ℕ, zero, suc, ◌+◌, ◌*◌, ◌/◌, ◌%◌, ◌^◌, ◌-◌, ◌≤◌, ◌<◌}
use native.Mathlib.Nat.{lt_of_not-le, pow-le-pow_right, pow-suc, add-zero, zero-add, add-suc, suc-add}
use native.Mathlib.Numerals.{add-one}
use native.Mathlib.Omega.{arith}
use lib.Bits.{bit_and, bit_or, and_lt, or_self, block_half, block_odd}
use lib.Arith.{lt_of_le-ne}
use lib.Dec.{T, eqb, ltb, ltb→lt, lt→ltb}
use lib.ListN.{length, get_or, set, take, drop, length-append, length-take, length-drop, length-set, take-append-drop, get_or-append}
use lib.Pow.{high, shr-shr}
use lib.Seq.{get_or-set_same, get_or-set_other, get_or-append-add, get_or-take, get_or-drop, ext_get_or}
use borrow.Author.Tests.{ltb-true, ltb-false, lt-ltb, le-ltb, eq-eqb, ne_eqb, eqb-true, eqb-false}
use Rattle.std.specs.Int.{w32, from_le_bytes}
use Rattle.automaton.specs.Ranges.{some, table}
use Rattle.automaton.specs.Sets.{bit, with_bit, member}
use Rattle.relations.specs.Closure.{related, relation, through, rounds, closure, row_has}
use Rattle.relations.specs.Rows.{with_row, changed_rows, diagonal_rows, round_rows, rounds_rows, closed_rows}
use Rattle.automaton.proofs.Booleans.{is_true, T_true, not_T_false, same_test, clash}
use Rattle.automaton.proofs.Ranges.{some_at, some_below, table_at, length-table}
use Rattle.automaton.proofs.Bits.{bit_of_and, bit_zero, bit_of_or, bit_half, bit_first, bit_with}
use Rattle.automaton.proofs.EqualAutomata.{same_bits}
use Rattle.relations.proofs.Closure.{related_relation}

-- Tables and tests over a range: told by their elements, and one number more.

table_same_from {ℓ} : {X : Type ℓ} (f g : ℕ → X) (n i : ℕ) → ((k : ℕ) → i ≤ k → k < i + n → f k ≡ g k) → table f n i ≡ table g n i
unfolding table
table_same_from f g zero i e = refl
table_same_from f g (suc n) i e =
    ap₂ (λ (x : _) (xs : List _). x ∷ xs) (e i (omega arith) (omega arith))
    (table_same_from f g n (suc i) (λ k l h. e k (omega arith) (omega arith)))

pub table_same {ℓ} : {X : Type ℓ} (f g : ℕ → X) (n : ℕ) → ((k : ℕ) → k < n → f k ≡ g k) → table f n 0 ≡ table g n 0
table_same f g n e = table_same_from f g n 0 (λ k l h. e k (omega arith))

some_last : (f : ℕ → Bool) (n i : ℕ) → some f (suc n) i ≡ (some f n i || f (i + n))
unfolding some
some_last f zero i = or_false (f i) ∙ ap f (sym (add-zero i))
  where
    or_false : (c : Bool) → (c || false) ≡ c
    or_false true = refl
    or_false false = refl
some_last f (suc n) i =
    ap (λ (c : Bool). f i || c) (some_last f n (suc i) ∙ ap (λ (k : ℕ). some f n (suc i) || f k) (suc-add i n ∙ sym (add-suc i n)))
    ∙ regroup (f i) (some f n (suc i)) (f (i + suc n))
  where
    regroup : (x y z : Bool) → (x || (y || z)) ≡ ((x || y) || z)
    regroup true y z = refl
    regroup false y z = refl

pub some_none : (f : ℕ → Bool) → some f 0 0 ≡ false
unfolding some
some_none f = refl

pub some_more : (f : ℕ → Bool) (n : ℕ) → some f (n + 1) 0 ≡ (some f n 0 || f n)
some_more f n =
    ap (λ (k : ℕ). some f k 0) (add-one n) ∙ some_last f n 0 ∙ ap (λ (k : ℕ). some f n 0 || f k) (zero-add n)

pub some_same : (f g : ℕ → Bool) (n : ℕ) → ((k : ℕ) → k < n → f k ≡ g k) → some f n 0 ≡ some g n 0
some_same f g n e =
    same_test (some f n 0) (some g n 0)
    (λ t. let x = some_below f n t in some_at g n x.0 x.1 (subst T (e x.0 x.1) x.2))
    (λ t. let x = some_below g n t in some_at f n x.0 x.1 (subst T (sym (e x.0 x.1)) x.2))

-- tests that fail from n on may be left out
pub some_cut : (f g : ℕ → Bool) (n m : ℕ) → n ≤ m → ((k : ℕ) → k < n → f k ≡ g k) → ((k : ℕ) → n ≤ k → f k ≡ false)
    → some f m 0 ≡ some g n 0
some_cut f g n m l e none =
    same_test (some f m 0) (some g n 0)
    (λ t. let x = some_below f m t in
    let h : x.0 < n = lt_of_not-le (λ k. clash (T_true (f x.0) x.2) (none x.0 k)) in
    some_at g n x.0 h (subst T (e x.0 h) x.2))
    (λ t. let x = some_below g n t in some_at f m x.0 (omega (arith, x.1)) (subst T (sym (e x.0 x.1)) x.2))

-- Words.

pub power_word : (q : ℕ) → q < 32 → 2 ^ q < 4294967296
power_word q h = let l : 2 ^ q ≤ 2 ^ 31 = pow-le-pow_right (omega arith) {i = q} {j = 31} (omega arith) in omega arith

-- the bits below k of a number and those from k on
pub bit_low : (k a r i : ℕ) → i < k → bit (a * 2 ^ k + r) i ≡ bit r i
bit_low zero a r i h = absurd (omega arith)
bit_low (suc k) a r zero h =
    bit_first (a * 2 ^ suc k + r) ∙ ap (λ (x : ℕ). eqb x 1) (block_odd a k r) ∙ sym (bit_first r)
bit_low (suc k) a r (suc i) h =
    bit_half (a * 2 ^ suc k + r) i
    ∙ ap (λ (x : ℕ). bit x i) (block_half a k r)
    ∙ bit_low k a (r / 2) i (omega arith)
    ∙ sym (bit_half r i)

pub bit_high : (k a r i : ℕ) → r < 2 ^ k → bit (a * 2 ^ k + r) (k + i) ≡ bit a i
bit_high k a r i h =
    ap (λ (x : ℕ). eqb (x % 2) 1) (sym (shr-shr (a * 2 ^ k + r) k i) ∙ ap (λ (x : ℕ). x / 2 ^ i) (high a k h))

-- a number whose lowest bit is not set is even
pub even_word : (w : ℕ) → bit w 0 ≡ false → w % 2 ≡ 0
even_word w e = not_odd (w % 2) (omega arith) (sym (bit_first w) ∙ e)
  where
    not_odd : (x : ℕ) → x < 2 → eqb x 1 ≡ false → x ≡ 0
    not_odd zero g e = refl
    not_odd (suc zero) g e = absurd (eqb-false 1 1 e refl)
    not_odd (suc (suc x)) g e = absurd (omega arith)

-- a number whose bits are not set is 0
pub bits_none : (k w : ℕ) → w < 2 ^ k → ((i : ℕ) → i < k → bit w i ≡ false) → w ≡ 0
bits_none zero w h none = omega arith
bits_none (suc k) w h none =
    let l : w < 2 ^ k * 2 = rw pow-suc at h in
    let half : w / 2 ≡ 0 = bits_none k (w / 2) (omega arith) (λ i g. sym (bit_half w i) ∙ none (suc i) (omega arith)) in
    let even : w % 2 ≡ 0 = even_word w (none 0 (omega arith)) in
    omega arith

-- a number is known by its bits
pub words_same : (w v : ℕ) → ((i : ℕ) → bit w i ≡ bit v i) → w ≡ v
words_same w v e = same_bits (w + v) w v (below w (w + v) (omega arith)) (below v (w + v) (omega arith)) (λ i h. e i)
  where
    below_power : (x : ℕ) → x < 2 ^ x
    below_power zero = omega arith
    below_power (suc x) = let l = below_power x in rw pow-suc (omega arith)

    below : (x y : ℕ) → x ≤ y → x < 2 ^ y
    below x y h = let l : 2 ^ x ≤ 2 ^ y = pow-le-pow_right (omega arith) {i = x} {j = y} h in omega (arith, below_power x)

-- a number with a bit set is not 0
bits_some : (n w : ℕ) → w < 2 ^ n → not (eqb w 0) ≡ some (bit w) n 0
bits_some n w h = go (some (bit w) n 0) refl
  where
    go : (c : Bool) → some (bit w) n 0 ≡ c → not (eqb w 0) ≡ some (bit w) n 0
    go true e =
        let x = some_below (bit w) n (is_true _ e) in
        ap not (ne_eqb w 0 (λ z. clash (T_true (bit w x.0) x.2) (ap (λ (n : ℕ). bit n x.0) z ∙ bit_zero x.0))) ∙ sym e
    go false e =
        let none : (i : ℕ) → i < n → bit w i ≡ false = λ i l. not_T_false (bit w i) (λ t. subst T e (some_at (bit w) n i l t)) in
        ap not (eq-eqb w 0 (bits_none n w h none)) ∙ sym e

pub word_has : (w : ℕ) → w < 2 ^ 32 → not (eqb w 0) ≡ some (bit w) 32 0
word_has w h = bits_some 32 w h

pub words_meet : (w v : ℕ) → w < 2 ^ 32 → v < 2 ^ 32 → not (eqb (bit_and w v) 0) ≡ some (λ q. bit w q && bit v q) 32 0
words_meet w v hw hv =
    word_has (bit_and w v) (and_lt 32 w v hw hv) ∙ some_same (bit (bit_and w v)) (λ q. bit w q && bit v q) 32 (λ q h. bit_of_and w v q)

-- a word with one byte more below it
byte_more : (b w : ℕ) (bs : List ℕ) → b < 256 → ((q : ℕ) → bit w q ≡ member bs q) → (q : ℕ) → bit (w * 256 + b) q ≡ member (b ∷ bs) q
byte_more b w bs h e q = go (ltb q 8) refl
  where
    go : (c : Bool) → ltb q 8 ≡ c → bit (w * 256 + b) q ≡ member (b ∷ bs) q
    go true d =
        let l = ltb-true q 8 d in
        let first : q / 8 ≡ 0 = omega arith in
        let own : q % 8 ≡ q = omega arith in
        bit_low 8 w b q l ∙ sym (ap₂ (λ (k i : ℕ). bit (get_or (b ∷ bs) k 0) i) first own)
    go false d = past (q - 8) (omega (arith, ltb-false q 8 d))
      where
        past : (p : ℕ) → q ≡ 8 + p → bit (w * 256 + b) q ≡ member (b ∷ bs) q
        past p g =
            let later : q / 8 ≡ suc (p / 8) = omega arith in
            let same : q % 8 ≡ p % 8 = omega arith in
            ap (bit (w * 256 + b)) g ∙ bit_high 8 w b p h ∙ e p ∙ sym (ap₂ (λ (k i : ℕ). bit (get_or (b ∷ bs) k 0) i) later same)

-- four bytes as one word
pub bytes_word : (b0 b1 b2 b3 : ℕ) → b0 < 256 → b1 < 256 → b2 < 256 → b3 < 256 → (q : ℕ)
    → bit (((b3 * 256 + b2) * 256 + b1) * 256 + b0) q ≡ member (b0 ∷ b1 ∷ b2 ∷ b3 ∷ []) q
bytes_word b0 b1 b2 b3 h0 h1 h2 h3 =
    byte_more b0 _ (b1 ∷ b2 ∷ b3 ∷ []) h0 (byte_more b1 _ (b2 ∷ b3 ∷ []) h1 (byte_more b2 b3 (b3 ∷ []) h2
    (λ q. ap (λ (w : ℕ). bit w q) last ∙ byte_more b3 0 [] h3 none q)))
  where
    last : b3 ≡ 0 * 256 + b3
    last = omega arith

    none : (q : ℕ) → bit 0 q ≡ member [] q
    none q = bit_zero q ∙ sym (bit_zero (q % 8))

-- the four bytes from place i on
pub four_bytes : (t : List ℕ) (i k : ℕ) → k < 4
    → get_or (get_or t i 0 ∷ get_or t (i + 1) 0 ∷ get_or t (i + 2) 0 ∷ get_or t (i + 3) 0 ∷ []) k 0 ≡ get_or t (i + k) 0
four_bytes t i zero h = ap (λ (j : ℕ). get_or t j 0) (sym (add-zero i))
four_bytes t i (suc zero) h = refl
four_bytes t i (suc (suc zero)) h = refl
four_bytes t i (suc (suc (suc zero))) h = refl
four_bytes t i (suc (suc (suc (suc k)))) h = absurd (omega arith)

pub bytes_set : (bs : List ℕ) → get_or bs 0 0 < 256 → get_or bs 1 0 < 256 → get_or bs 2 0 < 256 → get_or bs 3 0 < 256
    → (q : ℕ) → q < 32 → bit (from_le_bytes w32 bs) q ≡ member bs q
bytes_set bs h0 h1 h2 h3 q l =
    ap (λ (w : ℕ). bit w q) (omega arith)
    ∙ bytes_word (get_or bs 0 0) (get_or bs 1 0) (get_or bs 2 0) (get_or bs 3 0) h0 h1 h2 h3 q
    ∙ ap (λ (w : ℕ). bit w (q % 8)) (four_bytes bs 0 (q / 8) (omega arith) ∙ ap (λ (k : ℕ). get_or bs k 0) (zero-add (q / 8)))

-- States collected one after another.

-- the word has the states below q that pass f
abbrev pub Collected : (ℕ → Bool) → ℕ → ℕ → Type 0
Collected f q w = (k : ℕ) → bit w k ≡ (ltb k q && f k)

pub collecting_begins : (f : ℕ → Bool) → Collected f 0 0
collecting_begins f k = bit_zero k ∙ sym (ap (λ (c : Bool). c && f k) (le-ltb k 0 (omega arith)))

pub collecting_goes_on : (f : ℕ → Bool) (q w w' : ℕ) → Collected f q w → ((k : ℕ) → bit w' k ≡ (bit w k || (f q && eqb q k)))
    → Collected f (q + 1) w'
collecting_goes_on f q w w' h e k = e k ∙ ap (λ (c : Bool). c || (f q && eqb q k)) (h k) ∙ go (eqb q k) refl
  where
    go : (c : Bool) → eqb q k ≡ c → ((ltb k q && f k) || (f q && eqb q k)) ≡ (ltb k (q + 1) && f k)
    go true d =
        let same = eqb-true q k d in
        ap (λ (c : Bool). (c && f k) || (f q && eqb q k)) (le-ltb k q (omega arith))
        ∙ ap₂ ◌&&◌ (ap f same) d
        ∙ and_true (f k)
        ∙ sym (ap (λ (c : Bool). c && f k) (lt-ltb k (q + 1) (omega arith)))
      where
        and_true : (c : Bool) → (c && true) ≡ c
        and_true true = refl
        and_true false = refl
    go false d = ap (λ (c : Bool). (ltb k q && f k) || (f q && c)) d ∙ or_none (ltb k q && f k) (f q) ∙ ap (λ (c : Bool). c && f k) other
      where
        or_none : (x y : Bool) → (x || (y && false)) ≡ x
        or_none true y = refl
        or_none false true = refl
        or_none false false = refl

        other : ltb k q ≡ ltb k (q + 1)
        other =
            same_test (ltb k q) (ltb k (q + 1)) (λ t. lt→ltb k (q + 1) (omega (arith, ltb→lt k q t)))
            (λ t. lt→ltb k q (lt_of_le-ne (omega (arith, ltb→lt k (q + 1) t)) (λ z. eqb-false q k d (sym z))))

-- Rows rewritten one after another.

-- the rows below p are as P says, and the others as they were
pub record Rewritten (P : ℕ → ℕ → Type 0) (rows₀ : List ℕ) (p : ℕ) (rows : List ℕ) : Type 0 where
  pub done : (i : ℕ) → i < p → P i (get_or rows i 0)
  pub rest : (i : ℕ) → p ≤ i → get_or rows i 0 ≡ get_or rows₀ i 0

module _ {P : ℕ → ℕ → Type 0} where
  pub rewriting_begins : (rows : List ℕ) → Rewritten P rows 0 rows
  rewriting_begins rows = record { done = λ i h. absurd (omega arith); rest = λ i h. refl }

  pub rewriting_goes_on : {rows₀ : List ℕ} (p : ℕ) (rows : List ℕ) (w : ℕ) → p < length rows → Rewritten P rows₀ p rows → P p w
      → Rewritten P rows₀ (p + 1) (set rows p w)
  rewriting_goes_on {rows₀} p rows w h r x = record { done = done; rest = rest }
    where
      done : (i : ℕ) → i < p + 1 → P i (get_or (set rows p w) i 0)
      done i l = go (ltb i p) refl
        where
          go : (c : Bool) → ltb i p ≡ c → P i (get_or (set rows p w) i 0)
          go true d =
              let less = ltb-true i p d in
              subst (P i) (sym (get_or-set_other rows p i w 0 (λ g. omega arith))) (r.done i less)
          go false d =
              let more = ltb-false i p d in
              let same : p ≡ i = omega arith in
              subst (λ (k : ℕ). P k (get_or (set rows p w) k 0)) same (subst (P p) (sym (get_or-set_same rows p w 0 h)) x)

      rest : (i : ℕ) → p + 1 ≤ i → get_or (set rows p w) i 0 ≡ get_or rows₀ i 0
      rest i l = get_or-set_other rows p i w 0 (λ d. omega arith) ∙ r.rest i (omega arith)

-- Rows changed: the list is known by its rows, and its rows by the list.

-- only the n rows from place i on may differ
pub record SameElsewhere (i n : ℕ) (rows rows' : List ℕ) : Type 0 where
  pub before : (j : ℕ) → j < i → get_or rows' j 0 ≡ get_or rows j 0
  pub after : (j : ℕ) → i + n ≤ j → get_or rows' j 0 ≡ get_or rows j 0

module _ (i n : ℕ) (f : ℕ → ℕ) (rows : List ℕ) (fits : i + n ≤ length rows) where
  pub changed_length : length (changed_rows i n f rows) ≡ length rows
  unfolding changed_rows
  changed_length = simp (length-append, length-take, length-drop, length-table) (omega arith)

  front_length : length (take i rows) ≡ i
  front_length = simp length-take (omega arith)

  -- past the front
  changed_past : (j : ℕ) → get_or (changed_rows i n f rows) (i + j) 0 ≡ get_or (table f n 0 ++ drop (i + n) rows) j 0
  unfolding changed_rows
  changed_past j =
      ap (λ (k : ℕ). get_or (changed_rows i n f rows) (k + j) 0) (sym front_length)
      ∙ get_or-append-add (take i rows) (table f n 0 ++ drop (i + n) rows) j 0

  pub changed_row : (j : ℕ) → j < n → get_or (changed_rows i n f rows) (i + j) 0 ≡ f j
  changed_row j h =
      changed_past j
      ∙ get_or-append (table f n 0) (drop (i + n) rows) 0 j (omega (arith, length-table f n 0))
      ∙ table_at f n j 0 h

  changed_before : (j : ℕ) → j < i → get_or (changed_rows i n f rows) j 0 ≡ get_or rows j 0
  unfolding changed_rows
  changed_before j h =
      get_or-append (take i rows) (table f n 0 ++ drop (i + n) rows) 0 j (omega (arith, front_length)) ∙ get_or-take i rows j 0 h

  changed_after : (j : ℕ) → i + n ≤ j → get_or (changed_rows i n f rows) j 0 ≡ get_or rows j 0
  changed_after j h =
      let d : j ≡ i + (n + (j - (i + n))) = omega arith in
      let e : i + n + (j - (i + n)) ≡ j = omega arith in
      ap (λ (k : ℕ). get_or (changed_rows i n f rows) k 0) d
      ∙ changed_past (n + (j - (i + n)))
      ∙ ap (λ (k : ℕ). get_or (table f n 0 ++ drop (i + n) rows) (k + (j - (i + n))) 0) (sym (length-table f n 0))
      ∙ get_or-append-add (table f n 0) (drop (i + n) rows) (j - (i + n)) 0
      ∙ get_or-drop (i + n) rows (j - (i + n)) 0
      ∙ ap (λ (k : ℕ). get_or rows k 0) e

  pub changed_kept : SameElsewhere i n rows (changed_rows i n f rows)
  changed_kept = record { before = changed_before; after = changed_after }

  pub rows_changed : (rows' : List ℕ) → length rows' ≡ length rows → SameElsewhere i n rows rows' → ((j : ℕ) → j < n → get_or rows' (i + j) 0 ≡ f j)
      → rows' ≡ changed_rows i n f rows
  rows_changed rows' e k made = ext_get_or 0 rows' (changed_rows i n f rows) (e ∙ sym changed_length) at
    where
      at : (j : ℕ) → j < length rows' → get_or rows' j 0 ≡ get_or (changed_rows i n f rows) j 0
      at j h = front (ltb j i) refl
        where
          back : (c : Bool) → ltb j (i + n) ≡ c → i ≤ j → get_or rows' j 0 ≡ get_or (changed_rows i n f rows) j 0
          back true d l =
              let less = ltb-true j (i + n) d in
              let g : i + (j - i) ≡ j = omega arith in
              subst (λ (x : ℕ). get_or rows' x 0 ≡ get_or (changed_rows i n f rows) x 0) g
              (made (j - i) (omega arith) ∙ sym (changed_row (j - i) (omega arith)))
          back false d l = let more = ltb-false j (i + n) d in k.after j more ∙ sym (changed_after j more)

          front : (c : Bool) → ltb j i ≡ c → get_or rows' j 0 ≡ get_or (changed_rows i n f rows) j 0
          front true d = let less = ltb-true j i d in k.before j less ∙ sym (changed_before j less)
          front false d = back (ltb j (i + n)) refl (ltb-false j i d)

-- no row changed, one more behind those that are, and more of them

pub changed_none : (i : ℕ) (f : ℕ → ℕ) (rows : List ℕ) → changed_rows i 0 f rows ≡ rows
unfolding changed_rows table
changed_none i f rows = ap (λ (k : ℕ). take i rows ++ drop k rows) (add-zero i) ∙ take-append-drop i rows

module _ (i n : ℕ) (f : ℕ → ℕ) (rows : List ℕ) where
  pub changed_more : (w : ℕ) → i + n < length rows → w ≡ f n → set (changed_rows i n f rows) (i + n) w ≡ changed_rows i (n + 1) f rows
  changed_more w h e =
      rows_changed i (n + 1) f rows (omega arith) (set (changed_rows i n f rows) (i + n) w)
      (length-set (changed_rows i n f rows) (i + n) w ∙ long)
      record { before = λ j l. other j (λ d. omega arith) ∙ kept.before j l; after = λ j l. other j (λ d. omega arith) ∙ kept.after j (omega arith) }
      (λ j l. go j l (ltb j n) refl)
    where
      long : length (changed_rows i n f rows) ≡ length rows
      long = changed_length i n f rows (omega arith)

      kept : SameElsewhere i n rows (changed_rows i n f rows)
      kept = changed_kept i n f rows (omega arith)

      other : (j : ℕ) → (j ≡ i + n → ⊥) → get_or (set (changed_rows i n f rows) (i + n) w) j 0 ≡ get_or (changed_rows i n f rows) j 0
      other j d = get_or-set_other (changed_rows i n f rows) (i + n) j w 0 d

      go : (j : ℕ) → j < n + 1 → (c : Bool) → ltb j n ≡ c → get_or (set (changed_rows i n f rows) (i + n) w) (i + j) 0 ≡ f j
      go j l true d =
          let less = ltb-true j n d in
          other (i + j) (λ q. omega arith) ∙ changed_row i n f rows (omega arith) j less
      go j l false d =
          let more = ltb-false j n d in
          let same : n ≡ j = omega arith in
          subst (λ (k : ℕ). get_or (set (changed_rows i n f rows) (i + n) w) (i + k) 0 ≡ f k) same
          (get_or-set_same (changed_rows i n f rows) (i + n) w 0 (omega (arith, long)) ∙ e)

  pub changed_joined : (m : ℕ) (g : ℕ → ℕ) → i + n + m ≤ length rows → ((j : ℕ) → j < m → g j ≡ f (n + j))
      → changed_rows (i + n) m g (changed_rows i n f rows) ≡ changed_rows i (n + m) f rows
  changed_joined m g h e =
      rows_changed i (n + m) f rows (omega arith) (changed_rows (i + n) m g first)
      (changed_length (i + n) m g first (omega (arith, long)) ∙ long)
      record {
        before = λ j l. later.before j (omega arith) ∙ kept.before j l;
        after = λ j l. later.after j (omega arith) ∙ kept.after j (omega arith);
      }
      (λ j l. go j l (ltb j n) refl)
    where
      first : List ℕ
      first = changed_rows i n f rows

      long : length first ≡ length rows
      long = changed_length i n f rows (omega arith)

      kept : SameElsewhere i n rows first
      kept = changed_kept i n f rows (omega arith)

      later : SameElsewhere (i + n) m first (changed_rows (i + n) m g first)
      later = changed_kept (i + n) m g first (omega (arith, long))

      go : (j : ℕ) → j < n + m → (c : Bool) → ltb j n ≡ c → get_or (changed_rows (i + n) m g first) (i + j) 0 ≡ f j
      go j l true d =
          let less = ltb-true j n d in
          later.before (i + j) (omega arith) ∙ changed_row i n f rows (omega arith) j less
      go j l false d =
          let more = ltb-false j n d in
          let place : i + n + (j - n) ≡ i + j = omega arith in
          let own : n + (j - n) ≡ j = omega arith in
          ap (λ (k : ℕ). get_or (changed_rows (i + n) m g first) k 0) (sym place)
          ∙ changed_row (i + n) m g first (omega (arith, long)) (j - n) (omega arith)
          ∙ e (j - n) (omega arith)
          ∙ ap f own

-- the first n rows, rewritten one after another
pub first_rows_changed : (n p : ℕ) (f : ℕ → ℕ) (rows rows' : List ℕ) → p ≡ n → n ≤ length rows → length rows' ≡ length rows
    → Rewritten (λ i w. w ≡ f i) rows p rows' → rows' ≡ changed_rows 0 n f rows
first_rows_changed n p f rows rows' d l e r =
    rows_changed 0 n f rows (omega arith) rows' e
    record { before = λ j h. absurd (omega arith); after = λ j h. r.rest j (omega arith) }
    (λ j h. ap (λ (k : ℕ). get_or rows' k 0) (zero-add j) ∙ r.done j (omega arith))

first_row : (n : ℕ) (f : ℕ → ℕ) (rows : List ℕ) (p : ℕ) → n ≤ length rows → p < n → get_or (changed_rows 0 n f rows) p 0 ≡ f p
first_row n f rows p l h =
    ap (λ (k : ℕ). get_or (changed_rows 0 n f rows) k 0) (sym (zero-add p)) ∙ changed_row 0 n f rows (omega arith) p h

-- The diagonal.

or_swapped : (a b : Bool) → (a || b) ≡ (b || a)
or_swapped true true = refl
or_swapped true false = refl
or_swapped false true = refl
or_swapped false false = refl

-- each of the first n states is then related to itself besides
pub diagonal_rows_lem : (n : ℕ) (rows rows' : List ℕ) → rows' ≡ diagonal_rows n rows → n ≤ length rows
    → (p q : ℕ) → p < n → row_has rows' p q ≡ (eqb p q || row_has rows p q)
diagonal_rows_lem n rows rows' e l p q h =
    ap (λ (x : List ℕ). row_has x p q) e
    ∙ ap (λ (w : ℕ). bit w q) (first_row n (λ i. with_bit (get_or rows i 0) i) rows p l h)
    ∙ bit_with (get_or rows p 0) p q
    ∙ or_swapped (row_has rows p q) (eqb p q)

-- The round by way of k.

pub bit_with_row : (S T p row q : ℕ) → bit (with_row S T p row) q ≡ (bit S q || (bit T p && bit row q))
bit_with_row S T p row q = go (bit T p)
  where
    go : (c : Bool) → bit (cond c (bit_or S row) S) q ≡ (bit S q || (c && bit row q))
    go true = bit_of_or S row q
    go false = or_swapped false (bit S q)

-- what row i is after the round
abbrev pub round_row : List ℕ → ℕ → ℕ → ℕ
round_row rows k i = with_row (get_or rows i 0) (get_or rows i 0) k (get_or rows k 0)

-- row k stays
round_keeps : (rows₀ : List ℕ) (k p : ℕ) (rows : List ℕ) → Rewritten (λ i w. w ≡ round_row rows₀ k i) rows₀ p rows
    → get_or rows k 0 ≡ get_or rows₀ k 0
round_keeps rows₀ k p rows r = go (ltb k p) refl
  where
    own : (c : Bool) (w : ℕ) → cond c (bit_or w w) w ≡ w
    own true w = or_self w
    own false w = refl

    go : (c : Bool) → ltb k p ≡ c → get_or rows k 0 ≡ get_or rows₀ k 0
    go true e = r.done k (ltb-true k p e) ∙ own (bit (get_or rows₀ k 0) k) (get_or rows₀ k 0)
    go false e = r.rest k (ltb-false k p e)

-- the row at p, made of the rows as they are now
pub round_row_lem : (rows₀ : List ℕ) (k p : ℕ) (rows : List ℕ) (w : ℕ) → Rewritten (λ i x. x ≡ round_row rows₀ k i) rows₀ p rows
    → w ≡ round_row rows k p → w ≡ round_row rows₀ k p
round_row_lem rows₀ k p rows w r e =
    let own = r.rest p (omega arith) in
    let by = round_keeps rows₀ k p rows r in
    e ∙ ap₂ (λ (x y : ℕ). with_row x x k y) own by

-- The rounds one after another.

pub rounds_more : (n k : ℕ) (rows₀ rows rows' : List ℕ) → rows ≡ rounds_rows n k rows₀ → rows' ≡ round_rows n k rows
    → rows' ≡ rounds_rows n (k + 1) rows₀
unfolding rounds_rows
rounds_more n k rows₀ rows rows' d e = e ∙ ap (round_rows n k) d ∙ sym (ap (λ (j : ℕ). rounds_rows n j rows₀) (add-one k))

module _ (n : ℕ) (rows : List ℕ) (fits : n ≤ length rows) where
  rounds_length : (k : ℕ) → length (rounds_rows n k rows) ≡ length rows
  unfolding rounds_rows
  rounds_length zero = refl
  rounds_length (suc k) = changed_length 0 n _ (rounds_rows n k rows) (omega (arith, rounds_length k)) ∙ rounds_length k

  -- the rows after the rounds have the members of the table after the rounds
  rounds_hold : (k p q : ℕ) → k ≤ n → p < n → q < n
      → row_has (rounds_rows n k rows) p q ≡ related (rounds n k (relation n (row_has rows))) p q
  unfolding rounds through rounds_rows
  rounds_hold zero p q hk hp hq = sym (related_relation n (row_has rows) p q hp hq)
  rounds_hold (suc k) p q hk hp hq =
      let R = rounds_rows n k rows in
      let C = rounds n k (relation n (row_has rows)) in
      let few : k ≤ n = omega arith in
      let own = rounds_hold k p q few hp hq in
      let into = rounds_hold k p k few hp (omega arith) in
      let from = rounds_hold k k q few (omega arith) hq in
      ap (λ (w : ℕ). bit w q) (first_row n (round_row R k) R p (omega (arith, rounds_length k)) hp)
      ∙ bit_with_row (get_or R p 0) (get_or R p 0) k (get_or R k 0) q
      ∙ three own into from
      ∙ sym (related_relation n (λ x y. related C x y || (related C x k && related C k y)) p q hp hq)
    where
      three : {x y z x' y' z' : Bool} → x ≡ x' → y ≡ y' → z ≡ z' → (x || (y && z)) ≡ (x' || (y' && z'))
      three a b c = cc

-- the first n rows then have the transitive closure of their relation
pub closed_rows_lem : (n : ℕ) (rows rows' : List ℕ) → rows' ≡ closed_rows n rows → n ≤ length rows
    → (p q : ℕ) → p < n → q < n → row_has rows' p q ≡ related (closure n (relation n (row_has rows))) p q
unfolding closure
closed_rows_lem n rows rows' e l p q hp hq =
    ap (λ (x : List ℕ). row_has x p q) e ∙ rounds_hold n rows l n p q (omega arith) hp hq
