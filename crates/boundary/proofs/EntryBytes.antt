-- The bytes of an entry and the entry that bytes describe are each other's inverse, and the code that reads and writes them keeps to the
-- layout: the nine bytes in front one by one, the accepting set and the transitions as parts of the list. Assumes nothing.
use mathlib.Core.Path.{◌≡◌, refl, sym, ◌∙◌, ap, ap₂}
use mathlib.Core.Bool.{Bool, true, false, ◌||◌}
use mathlib.Core.Logic.{◌⊎◌, inl, inr}
use mathlib.Core.List.{List, [], ◌∷◌, ◌++◌, append-nil}
use Prim.Native.Nat.{ℕ, ◌+◌, ◌-◌, ◌/◌, ◌%◌, ◌^◌, ◌<◌}
use native.Mathlib.Nat.{zero-add}
use native.Mathlib.Numerals.{add-one}
use native.Mathlib.Omega.{arith}
use borrow.Rule.Slice.PartMut.{mid_of, put_mid}
use borrow.Author.Tests.{eq-eqb, ne_eqb}
use lib.Dec.{T, eqb, eqb→eq}
use lib.ListN.{length, get_or, set, take, drop, length-append, length-drop, take-append-drop, drop_of_length-le, length-take}
use lib.Seq.{take_all, take_at, drop_at, drop-drop, drop-cons, sets, sets-eq, length-sets, paste, paste-suc}
use mir.Val.{bool_byte}
use Rattle.std.specs.Int.{from_le_bytes, to_le_bytes}
use Rattle.std.proofs.Common.{w32}
use Rattle.std.proofs.lemmas.Slice.{take-put_mid}
use Rattle.automaton.specs.Automata.{one}
use Rattle.automaton.proofs.Booleans.{or_cases, and_both, is_true}
use Rattle.slots.proofs.SlotLayout.{part_back}
use Rattle.history.specs.declared.Entry.{Entry}
use Rattle.boundary.specs.Bytes.{entry_length, is_entry, number_of, entry_of, head_bytes, entry_bytes, FitsBytes, Sized}

-- the length decides first, then byte 0
pub other_length_no_entry : (s : List ℕ) → (length s ≡ entry_length → ⊥) → is_entry s ≡ false
unfolding is_entry
other_length_no_entry s h = rw (ne_eqb (length s) entry_length h)

pub entry_by_first_byte : (s : List ℕ) → length s ≡ entry_length → is_entry s ≡ (eqb (get_or s 0 0) 0 || eqb (get_or s 0 0) 1)
unfolding is_entry
entry_by_first_byte s h = rw (eq-eqb (length s) entry_length h)

-- byte 0 and the edition's bytes, written and read again
first_byte_known : (b : Bool) → (eqb (one b) 0 || eqb (one b) 1) ≡ true
first_byte_known true = refl
first_byte_known false = refl

first_byte_read : (b : Bool) → eqb (one b) 1 ≡ b
first_byte_read true = refl
first_byte_read false = refl

number_read : (n : ℕ) → number_of (n % 2 ^ 8) (n / 2 ^ 8 % 2 ^ 8) (n / 2 ^ 16 % 2 ^ 8) (n / 2 ^ 24) ≡ n
number_read n = omega arith

-- the entry that an entry's bytes describe is that entry
module _ (E : Entry) (sized : Sized E) where
  pub length_entry_bytes : length (entry_bytes E) ≡ entry_length
  unfolding entry_bytes
  length_entry_bytes = omega (arith, length-append E.held.accepting E.held.transitions)

  pub is_entry_bytes : is_entry (entry_bytes E) ≡ true
  unfolding entry_bytes
  is_entry_bytes = entry_by_first_byte (entry_bytes E) length_entry_bytes ∙ first_byte_known E.filled

  pub entry_of_bytes : entry_of (entry_bytes E) ≡ E
  unfolding entry_of entry_bytes
  entry_of_bytes =
      let A : List ℕ = E.held.accepting in
      let t : List ℕ = E.held.transitions in
      rw (
        first_byte_read E.filled,
        number_read E.edition,
        take_at A t 4 sized.accepting_long,
        drop_at A t 4 sized.accepting_long,
        take_all 2048 t (omega arith),
      )

-- the parts of a list of an entry's length
module _ (s : List ℕ) (long : length s ≡ entry_length) where
  nine_in_front : get_or s 0 0 ∷ get_or s 1 0 ∷ get_or s 2 0 ∷ get_or s 3 0 ∷ get_or s 4 0 ∷ get_or s 5 0 ∷ get_or s 6 0 ∷ get_or s 7 0 ∷ get_or s 8 0
      ∷ drop 9 s ≡ s
  nine_in_front =
      rw (
        ← drop-cons s 8 0 (omega arith),
        ← drop-cons s 7 0 (omega arith),
        ← drop-cons s 6 0 (omega arith),
        ← drop-cons s 5 0 (omega arith),
        ← drop-cons s 4 0 (omega arith),
        ← drop-cons s 3 0 (omega arith),
        ← drop-cons s 2 0 (omega arith),
        ← drop-cons s 1 0 (omega arith),
        ← drop-cons s 0 0 (omega arith),
      )

  edition_read : take 4 (drop 5 s) ≡ get_or s 5 0 ∷ get_or s 6 0 ∷ get_or s 7 0 ∷ get_or s 8 0 ∷ []
  edition_read =
      rw (
        drop-cons s 5 0 (omega arith),
        drop-cons s 6 0 (omega arith),
        drop-cons s 7 0 (omega arith),
        drop-cons s 8 0 (omega arith),
      )

  transitions_behind : take 2048 (drop 13 s) ≡ drop 13 s
  transitions_behind = take_all 2048 (drop 13 s) (simp length-drop (omega arith))

  arrays_behind : take 4 (drop 9 s) ++ take 2048 (drop 13 s) ≡ drop 9 s
  arrays_behind =
      ap (λ (l : List ℕ). take 4 (drop 9 s) ++ l) (transitions_behind ∙ sym (drop-drop 4 9 s)) ∙ take-append-drop 4 (drop 9 s)

-- the four bytes of the number that four bytes make
module _ (b₀ b₁ b₂ b₃ : ℕ) (s₀ : b₀ < 2 ^ 8) (s₁ : b₁ < 2 ^ 8) (s₂ : b₂ < 2 ^ 8) where
  number_byte_0 : number_of b₀ b₁ b₂ b₃ % 2 ^ 8 ≡ b₀
  number_byte_0 = omega arith

  number_byte_1 : number_of b₀ b₁ b₂ b₃ / 2 ^ 8 % 2 ^ 8 ≡ b₁
  number_byte_1 = omega arith

  number_byte_2 : number_of b₀ b₁ b₂ b₃ / 2 ^ 16 % 2 ^ 8 ≡ b₂
  number_byte_2 = omega arith

  number_byte_3 : number_of b₀ b₁ b₂ b₃ / 2 ^ 24 ≡ b₃
  number_byte_3 = omega arith

first_byte_kept : (b : ℕ) → T (eqb b 0 || eqb b 1) → one (eqb b 1) ≡ b
first_byte_kept b t = go (or_cases (eqb b 0) (eqb b 1) t)
  where
    go : T (eqb b 0) ⊎ T (eqb b 1) → one (eqb b 1) ≡ b
    go (inl h) = rw (eqb→eq b 0 h)
    go (inr h) = rw (eqb→eq b 1 h)

-- the bytes of the entry that an entry's bytes describe are those bytes
pub bytes_of_entry : (s : List ℕ) → is_entry s ≡ true → ((i : ℕ) → i < length s → get_or s i 0 < 2 ^ 8) → entry_bytes (entry_of s) ≡ s
unfolding entry_of entry_bytes is_entry
bytes_of_entry s e small =
    let p = and_both (eqb (length s) entry_length) (eqb (get_or s 0 0) 0 || eqb (get_or s 0 0) 1) (is_true _ e) in
    let long : length s ≡ entry_length = eqb→eq (length s) entry_length p.0 in
    let s₀ : get_or s 5 0 < 2 ^ 8 = small 5 (omega arith) in
    let s₁ : get_or s 6 0 < 2 ^ 8 = small 6 (omega arith) in
    let s₂ : get_or s 7 0 < 2 ^ 8 = small 7 (omega arith) in
    rw (
      first_byte_kept (get_or s 0 0) p.1,
      number_byte_0 (get_or s 5 0) (get_or s 6 0) (get_or s 7 0) (get_or s 8 0) s₀ s₁ s₂,
      number_byte_1 (get_or s 5 0) (get_or s 6 0) (get_or s 7 0) (get_or s 8 0) s₀ s₁ s₂,
      number_byte_2 (get_or s 5 0) (get_or s 6 0) (get_or s 7 0) (get_or s 8 0) s₀ s₁ s₂,
      number_byte_3 (get_or s 5 0) (get_or s 6 0) (get_or s 7 0) (get_or s 8 0) s₀ s₁ s₂,
      arrays_behind s long,
    )
    (nine_in_front s long)

-- a loop that copies 2,048 bytes t to the front of d: a round, and the end
pub copied_one_more : (d l t : List ℕ) (i x : ℕ) → l ≡ paste d 0 t i → i < length d → i < length t → x ≡ get_or t i 0
    → set l i x ≡ paste d 0 t (i + 1)
copied_one_more d l t i x e h k q =
    rw (add-one, q)
    (ap₂ (λ (y : List ℕ) (j : ℕ). set y j (get_or t i 0)) e (sym (zero-add i)) ∙ paste-suc d 0 t i 0 (omega arith) k)

pub copied_all : (d l t : List ℕ) → l ≡ paste d 0 t 2048 → length t ≡ 2048 → l ≡ t ++ drop 2048 d
copied_all d l t e n = e ∙ rw (take_all 2048 t (omega arith))

-- over an array of their length: the part from byte 13 on of an entry's bytes
pub copied_over : (s d l : List ℕ) → length s ≡ entry_length → length d ≡ 2048
    → l ≡ take (length s - 13) (drop 13 s) ++ drop 2048 d → l ≡ take 2048 (drop 13 s)
copied_over s d l h n e =
    e ∙ ap₂ (λ (x y : List ℕ). x ++ y) (take_all (length s - 13) (drop 13 s) (simp length-drop (omega arith))) (drop_of_length-le d {i = 2048} (omega arith))
    ∙ append-nil (drop 13 s) ∙ sym (transitions_behind s h)

-- the entry that is put together from the parts of the bytes
pub entry_read : (s : List ℕ) → length s ≡ entry_length → (n : ℕ) (e A t : List ℕ)
    → n ≡ from_le_bytes w32 e → e ≡ take 4 (drop 5 s) → A ≡ take 4 (drop 9 s) → t ≡ take (length s - 13) (drop 13 s)
    → record {
      filled = eqb (get_or s 0 0) 1;
      edition = n;
      first = get_or s 4 0;
      held =
          record {
            states = get_or s 1 0;
            letters = get_or s 2 0;
            initial = get_or s 3 0;
            accepting = A;
            transitions = t;
          };
    } ≡ entry_of s
unfolding entry_of
entry_read s long n e A t en ee ea et =
    let k : n ≡ number_of (get_or s 5 0) (get_or s 6 0) (get_or s 7 0) (get_or s 8 0) = en ∙ ap (from_le_bytes w32) (ee ∙ edition_read s long) ∙ omega arith in
    rw (k, ea, et, long)

-- after four bytes, an accepting set and transitions are written behind five bytes
parts_written : (l e A t : List ℕ) → length l ≡ entry_length → length e ≡ 4 → length A ≡ 4 → length t ≡ 2048
    → (let o = put_mid 9 4 (put_mid 5 4 l e) A in put_mid 13 (length o - 13) o t ≡ take 5 l ++ e ++ A ++ t)
parts_written l e A t k ke ka kt =
    let m : List ℕ = put_mid 5 4 l e in
    let o : List ℕ = put_mid 9 4 m A in
    let km : length m ≡ entry_length = simp (length-append, length-take, length-drop) (omega arith) in
    let ko : length o ≡ entry_length = simp (length-append, length-take, length-drop) (omega arith) in
    let front : take 13 o ≡ take 5 l ++ e ++ A =
    take-put_mid 9 4 m A 13 (omega arith) (omega arith) ∙ ap (λ (x : List ℕ). x ++ A) (take-put_mid 5 4 l e 9 (omega arith) (omega arith)) in
    let behind : drop (length o - 13) (drop 13 o) ≡ [] = drop_of_length-le (drop 13 o) (simp length-drop (omega arith)) in
    ap₂ (λ (x y : List ℕ). x ++ (t ++ y)) front behind ∙ ap (λ (x : List ℕ). take 5 l ++ e ++ A ++ x) (append-nil t)

filled_byte : (b : Bool) → bool_byte b ≡ one b
filled_byte true = refl
filled_byte false = refl

edition_bytes : (n : ℕ) → n < 2 ^ 32 → to_le_bytes w32 n ≡ n % 2 ^ 8 ∷ n / 2 ^ 8 % 2 ^ 8 ∷ n / 2 ^ 16 % 2 ^ 8 ∷ n / 2 ^ 24 ∷ []
edition_bytes n h = ap (λ (x : ℕ). n % 2 ^ 8 ∷ n / 2 ^ 8 % 2 ^ 8 ∷ n / 2 ^ 16 % 2 ^ 8 ∷ x ∷ []) (omega arith)

-- the five bytes in front, as they are stored one by one, the first of them k
abbrev pub five_bytes : ℕ → Entry → List ℕ
five_bytes k E = k ∷ E.held.states ∷ E.held.letters ∷ E.held.initial ∷ E.first ∷ []

-- after these stores, and when the edition's bytes and the two arrays are copied behind them
pub entry_encoded : (E : Entry) (d e A t : List ℕ) (k : ℕ) → Sized E → FitsBytes E → length d ≡ entry_length
    → k ≡ bool_byte E.filled → e ≡ to_le_bytes w32 E.edition → A ≡ E.held.accepting → t ≡ E.held.transitions
    → (let o = put_mid 9 4 (put_mid 5 4 (sets d 0 (five_bytes k E)) e) A in put_mid 13 (length o - 13) o t ≡ entry_bytes E)
unfolding entry_bytes
entry_encoded E d e A t k sized fits long ek ee ea et =
    let l : List ℕ = sets d 0 (five_bytes k E) in
    let n : length l ≡ entry_length = length-sets d 0 (five_bytes k E) ∙ long in
    let front : take 5 l ≡ five_bytes (one E.filled) E =
    ap (take 5) (sets-eq (five_bytes k E) d 0 (omega arith)) ∙ rw (ek, filled_byte E.filled) in
    let edition : e ≡ E.edition % 2 ^ 8 ∷ E.edition / 2 ^ 8 % 2 ^ 8 ∷ E.edition / 2 ^ 16 % 2 ^ 8 ∷ E.edition / 2 ^ 24 ∷ [] =
    ee ∙ edition_bytes E.edition fits.edition_fits in
    parts_written l e A t n (ap length ee) (ap length ea ∙ sized.accepting_long) (ap length et ∙ sized.transitions_long)
    ∙ rw (front, edition, ea, et)

-- The same where all thirteen bytes in front are stored one by one.

four_elements : (l : List ℕ) → length l ≡ 4 → l ≡ get_or l 0 0 ∷ get_or l 1 0 ∷ get_or l 2 0 ∷ get_or l 3 0 ∷ []
four_elements l h =
    drop-cons l 0 0 (omega arith)
    ∙ rw (
      drop-cons l 1 0 (omega arith),
      drop-cons l 2 0 (omega arith),
      drop-cons l 3 0 (omega arith),
      drop_of_length-le l {i = 4} (omega arith),
    )

-- these bytes, the first of them k
abbrev pub thirteen_bytes : ℕ → Entry → List ℕ
thirteen_bytes k E =
    k ∷ E.held.states ∷ E.held.letters ∷ E.held.initial ∷ E.first
    ∷ E.edition % 2 ^ 8 ∷ E.edition / 2 ^ 8 % 2 ^ 8 ∷ E.edition / 2 ^ 16 % 2 ^ 8 ∷ E.edition / 2 ^ 24
    ∷ get_or E.held.accepting 0 0 ∷ get_or E.held.accepting 1 0 ∷ get_or E.held.accepting 2 0 ∷ get_or E.held.accepting 3 0 ∷ []

-- after these stores and the copy of the transitions behind them
pub entry_written : (E : Entry) (d ys : List ℕ) (k : ℕ) → Sized E → length d ≡ entry_length → k ≡ one E.filled
    → (let l = sets d 0 (thirteen_bytes k E) in ys ≡ E.held.transitions ++ drop 2048 (mid_of 13 (length l - 13) l)
    → put_mid 13 (length l - 13) l ys ≡ entry_bytes E)
unfolding entry_bytes
entry_written E d ys k sized long e w =
    let A : List ℕ = E.held.accepting in
    let t : List ℕ = E.held.transitions in
    let l : List ℕ = sets d 0 (thirteen_bytes k E) in
    let n : length l ≡ entry_length = length-sets d 0 (thirteen_bytes k E) ∙ long in
    let front : take 13 l ≡ head_bytes E ++ A = ap (take 13) (sets-eq (thirteen_bytes k E) d 0 (omega arith))
    ∙ rw (e, ← four_elements A sized.accepting_long) in
    part_back l 13 2048 t ys (omega arith) w
    ∙ ap₂ (λ (x y : List ℕ). x ++ (t ++ y)) front (drop_of_length-le l {i = 2061} (omega arith))
    ∙ ap (λ (x : List ℕ). (head_bytes E ++ A) ++ x) (append-nil t)
