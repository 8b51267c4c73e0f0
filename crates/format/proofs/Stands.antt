-- The reading of a record and its writing are inverse: `Stands` says by the bytes that are written which record stands at a position, and
-- that is the record that is read there, and no other. Both ways go by the tests of the reading in their order. Assumes nothing.
use Rattle.std.specs.Prelude.{Result, Ok, Err}
use mathlib.Core.Path.{◌≡◌, refl, sym, ap, subst, ◌∙◌}
use mathlib.Core.Bool.{Bool, true, false, cond}
use mathlib.Core.List.{List, [], ◌∷◌, ◌++◌}
use Prim.Native.Nat.{ℕ, suc, ◌+◌, ◌≤◌, ◌<◌}
use native.Mathlib.Nat.{add-zero, lt_of_not-le}
use native.Mathlib.Omega.{arith}
use borrow.Author.Tests.{le-leb, lt-leb, eq-eqb, ne_eqb}
use lib.Dec.{T, eqb, eqb→eq, leb→le, le→leb}
use lib.ListN.{length, get_or, drop, length-drop}
use lib.Seq.{drop-cons, drop-drop, get_or-drop}
use Rattle.automaton.proofs.Booleans.{and_both, both_and, is_true, not_T_false}
use Rattle.format.specs.declared.Record.{Record}
use Rattle.format.specs.declared.Record.TheVariants.{Accepting, Transition, End}
use Rattle.format.specs.declared.FileRefusal.{FileRefusal}
use Rattle.format.specs.declared.FileRefusal.TheVariants.{CutShort, UnknownMark}
use Rattle.format.specs.Marks.{has, marked, accepting_mark, transition_mark, end_mark, RecordMark, accepting_marked, transition_marked, end_marked}
use Rattle.format.specs.Records.{check_record, record_in}
use Rattle.format.specs.Writing.{Item, accepting_item, transition_item, item_bytes, end_bytes}

-- the record of an item, with the position after it
abbrev pub record_of : Item → ℕ → Result Record FileRefusal
record_of (accepting_item q) j = Ok (Accepting q j)
record_of (transition_item q a r) j = Ok (Transition q a r j)

-- the record x stands at position i: its bytes are there, or those of a fault
pub data Stands (s : List ℕ) (i : ℕ) : Result Record FileRefusal → Type 0 where
  short : length (drop i s) < 2 → Stands s i (Err CutShort)
  cut : {m fields : ℕ} {t : List ℕ} → RecordMark m fields → drop i s ≡ 0x41 ∷ m ∷ t → length t < fields → Stands s i (Err CutShort)
  unknown : {x y : ℕ} {t : List ℕ} → drop i s ≡ x ∷ y ∷ t → ((fields : ℕ) → x ≡ 0x41 → RecordMark y fields → ⊥) → Stands s i (Err UnknownMark)
  longer : {z : ℕ} {t : List ℕ} → drop i s ≡ end_bytes ++ (z ∷ t) → Stands s i (Err UnknownMark)
  item : (x : Item) (t : List ℕ) → drop i s ≡ item_bytes x ++ t → Stands s i (record_of x (i + length (item_bytes x)))
  end : drop i s ≡ end_bytes → Stands s i (Ok End)

-- The bytes at a position.

module _ (s : List ℕ) (i : ℕ) where
  pub byte_now : {l : List ℕ} → drop i s ≡ l → get_or s i 0 ≡ get_or l 0 0
  byte_now e = ap (λ (k : ℕ). get_or s k 0) (sym (add-zero i)) ∙ sym (get_or-drop i s 0 0) ∙ ap (λ (l : List ℕ). get_or l 0 0) e

  pub byte_at : {l : List ℕ} (k : ℕ) → drop i s ≡ l → get_or s (i + k) 0 ≡ get_or l k 0
  byte_at k e = sym (get_or-drop i s k 0) ∙ ap (λ (l : List ℕ). get_or l k 0) e

  pub two_bytes : i + 2 ≤ length s → drop i s ≡ get_or s i 0 ∷ get_or s (i + 1) 0 ∷ drop (i + 2) s
  two_bytes h =
      let d : suc i ≡ i + 1 = omega arith in
      let e : suc (i + 1) ≡ i + 2 = omega arith in
      drop-cons s i 0 (omega arith)
      ∙ ap (λ (t : List ℕ). get_or s i 0 ∷ t)
      (ap (λ (j : ℕ). drop j s) d ∙ (drop-cons s (i + 1) 0 (omega arith) ∙ ap (λ (j : ℕ). get_or s (i + 1) 0 ∷ drop j s) e))

  pub mark_bytes : (m : ℕ) → T (marked s i m) → (get_or s i 0 ≡ 0x41) × (get_or s (i + 1) 0 ≡ m)
  mark_bytes m t =
      let b = and_both (eqb (get_or s i 0) 0x41) (eqb (get_or s (i + 1) 0) m) t in
      (eqb→eq (get_or s i 0) 0x41 b.0, eqb→eq (get_or s (i + 1) 0) m b.1)

  pub bytes_marked : (m : ℕ) → get_or s i 0 ≡ 0x41 → get_or s (i + 1) 0 ≡ m → T (marked s i m)
  bytes_marked m d e =
      both_and (eqb (get_or s i 0) 0x41) (eqb (get_or s (i + 1) 0) m) (is_true _ (eq-eqb (get_or s i 0) 0x41 d))
      (is_true _ (eq-eqb (get_or s (i + 1) 0) m e))

  pub marked_bytes : (m : ℕ) → T (marked s i m) → i + 2 ≤ length s → drop i s ≡ 0x41 ∷ m ∷ drop (i + 2) s
  marked_bytes m t h = let b = mark_bytes m t in two_bytes h ∙ rw (b.0, b.1)

  pub not_has : (n : ℕ) → (T (has s i n) → ⊥) → length s < i + n
  not_has n h = lt_of_not-le (λ l. h (le→leb (i + n) (length s) l))

  pub rest_length : (n : ℕ) → 0 < n → length s < i + 2 + n → length (drop (i + 2) s) < n
  rest_length n z h = omega (arith, length-drop (i + 2) s)

-- the fields after a mark
next_byte : (s : List ℕ) (j k : ℕ) → j < length s → suc j ≡ k → drop j s ≡ get_or s j 0 ∷ drop k s
next_byte s j k h e = drop-cons s j 0 h ∙ ap (λ (x : ℕ). get_or s j 0 ∷ drop x s) e

pub three_fields : (s : List ℕ) (i : ℕ) → i + 5 ≤ length s
    → drop (i + 2) s ≡ get_or s (i + 2) 0 ∷ get_or s (i + 3) 0 ∷ get_or s (i + 4) 0 ∷ drop (i + 5) s
three_fields s i l =
    next_byte s (i + 2) (i + 3) (omega arith) (omega arith)
    ∙ ap (λ (t : List ℕ). get_or s (i + 2) 0 ∷ t)
    (next_byte s (i + 3) (i + 4) (omega arith) (omega arith)
    ∙ ap (λ (t : List ℕ). get_or s (i + 3) 0 ∷ t) (next_byte s (i + 4) (i + 5) (omega arith) (omega arith)))

-- what follows an item, and that it is in the file
module _ (s : List ℕ) (i : ℕ) where
  pub after_item : (x : Item) (t : List ℕ) → drop i s ≡ item_bytes x ++ t → drop (i + length (item_bytes x)) s ≡ t
  after_item (accepting_item q) t e = sym (drop-drop 3 i s) ∙ ap (drop 3) e
  after_item (transition_item q a r) t e = sym (drop-drop 5 i s) ∙ ap (drop 5) e

  pub item_fits : (x : Item) (t : List ℕ) → drop i s ≡ item_bytes x ++ t
      → (i + 3 ≤ i + length (item_bytes x)) × (i + length (item_bytes x) ≤ length s)
  item_fits (accepting_item q) t e = (omega arith, omega (arith, length-drop i s, ap length e))
  item_fits (transition_item q a r) t e = (omega arith, omega (arith, length-drop i s, ap length e))

-- What is read stands there.

module _ (P : Result Record FileRefusal → Type 0) where
  checked : (c : Bool) (n : FileRefusal) (x : Result Record FileRefusal) → ((T c → ⊥) → P (Err n)) → (T c → P x) → P (check_record c n x)
  checked true n x h k = k tt
  checked false n x h k = h (λ t. t)

  decided : (c : Bool) (x y : Result Record FileRefusal) → (T c → P x) → ((T c → ⊥) → P y) → P (cond c x y)
  decided true x y h k = h tt
  decided false x y h k = k (λ t. t)

module _ (s : List ℕ) (i : ℕ) where
  accepting_stands : T (marked s i accepting_mark) → i + 2 ≤ length s
      → Stands s i (check_record (has s i 3) CutShort (Ok (Accepting (get_or s (i + 2) 0) (i + 3))))
  accepting_stands m h =
      let b = marked_bytes s i accepting_mark m h in
      checked (Stands s i) (has s i 3) CutShort _ (λ g. cut accepting_marked b (rest_length s i 1 (omega arith) (omega (arith, not_has s i 3 g)))) λ g.
      let l = leb→le (i + 3) (length s) g in
      item (accepting_item (get_or s (i + 2) 0)) (drop (i + 3) s)
      (b ∙ ap (λ (t : List ℕ). 0x41 ∷ accepting_mark ∷ t) (next_byte s (i + 2) (i + 3) (omega arith) (omega arith)))

  transition_stands : T (marked s i transition_mark) → i + 2 ≤ length s
      → Stands s i (check_record (has s i 5) CutShort (Ok (Transition (get_or s (i + 2) 0) (get_or s (i + 3) 0) (get_or s (i + 4) 0) (i + 5))))
  transition_stands m h =
      let b = marked_bytes s i transition_mark m h in
      checked (Stands s i) (has s i 5) CutShort _ (λ g. cut transition_marked b (rest_length s i 3 (omega arith) (omega (arith, not_has s i 5 g)))) λ g.
      item (transition_item (get_or s (i + 2) 0) (get_or s (i + 3) 0) (get_or s (i + 4) 0)) (drop (i + 5) s)
      (b ∙ ap (λ (t : List ℕ). 0x41 ∷ transition_mark ∷ t) (three_fields s i (leb→le (i + 5) (length s) g)))

  end_stands : T (marked s i end_mark) → i + 2 ≤ length s → Stands s i (check_record (eqb (length s) (i + 2)) UnknownMark (Ok End))
  end_stands m h =
      let b = marked_bytes s i end_mark m h in
      checked (Stands s i) (eqb (length s) (i + 2)) UnknownMark _
      (λ e. longer (b ∙ ap (λ (t : List ℕ). 0x41 ∷ end_mark ∷ t)
      (drop-cons s (i + 2) 0 (past (λ d. e (is_true _ (eq-eqb (length s) (i + 2) d))) h)))) λ e.
      end (b ∙ ap (λ (t : List ℕ). 0x41 ∷ end_mark ∷ t) (none (drop (i + 2) s) (omega (arith, length-drop (i + 2) s, eqb→eq (length s) (i + 2) e))))
    where
      past : {m n : ℕ} → (m ≡ n → ⊥) → n ≤ m → n < m
      past x k = lt_of_not-le (λ l. x (omega arith))

      none : (l : List ℕ) → length l ≡ 0 → l ≡ []
      none [] z = refl
      none (x ∷ l) z = absurd (omega arith)

  pub record_stands : Stands s i (record_in s i)
  unfolding record_in
  record_stands =
      checked (Stands s i) (has s i 2) CutShort _ (λ h. short (omega (arith, length-drop i s, not_has s i 2 h))) λ h.
      let whole = leb→le (i + 2) (length s) h in
      decided (Stands s i) (marked s i accepting_mark) _ _ (λ m. accepting_stands m whole) λ no-accepting.
      decided (Stands s i) (marked s i transition_mark) _ _ (λ m. transition_stands m whole) λ no-transition.
      decided (Stands s i) (marked s i end_mark) _ _ (λ m. end_stands m whole) λ no_end.
      unknown (two_bytes s i whole) λ fields d k. none (get_or s (i + 1) 0) fields refl d k no-accepting no-transition no_end
    where
      none : (y fields : ℕ) → get_or s (i + 1) 0 ≡ y → get_or s i 0 ≡ 0x41 → RecordMark y fields → (T (marked s i accepting_mark) → ⊥)
          → (T (marked s i transition_mark) → ⊥) → (T (marked s i end_mark) → ⊥) → ⊥
      none y fields e d accepting_marked f g h = f (bytes_marked s i accepting_mark d e)
      none y fields e d transition_marked f g h = g (bytes_marked s i transition_mark d e)
      none y fields e d end_marked f g h = h (bytes_marked s i end_mark d e)

  -- What stands there is read.

  cut_read : {m : ℕ} {t : List ℕ} (fields : ℕ) → RecordMark m fields → drop i s ≡ 0x41 ∷ m ∷ t → length t < fields → record_in s i ≡ Err CutShort
  unfolding record_in
  cut_read fields accepting_marked e h =
      let b₀ : get_or s i 0 ≡ 0x41 = byte_now s i e in
      let b₁ : get_or s (i + 1) 0 ≡ accepting_mark = byte_at s i 1 e in
      let n = ap length e in
      rw (b₀, b₁, le-leb (i + 2) (length s) (omega (arith, length-drop i s, n)), lt-leb (i + 3) (length s) (omega (arith, length-drop i s, n)))
  cut_read fields transition_marked e h =
      let b₀ : get_or s i 0 ≡ 0x41 = byte_now s i e in
      let b₁ : get_or s (i + 1) 0 ≡ transition_mark = byte_at s i 1 e in
      let n = ap length e in
      rw (b₀, b₁, le-leb (i + 2) (length s) (omega (arith, length-drop i s, n)), lt-leb (i + 5) (length s) (omega (arith, length-drop i s, n)))
  cut_read fields end_marked e h = absurd (omega arith)

  unknown_read : {x y : ℕ} {t : List ℕ} → drop i s ≡ x ∷ y ∷ t → ((fields : ℕ) → x ≡ 0x41 → RecordMark y fields → ⊥)
      → record_in s i ≡ Err UnknownMark
  unfolding record_in
  unknown_read e h =
      let n = ap length e in
      let no : (m k : ℕ) → RecordMark m k → marked s i m ≡ false =
      λ m k r. not_T_false (marked s i m) (λ t.
      let b = mark_bytes s i m t in
      h k (sym (byte_now s i e) ∙ b.0) (subst (λ (z : ℕ). RecordMark z k) (sym (sym (byte_at s i 1 e) ∙ b.1)) r)) in
      rw (
        le-leb (i + 2) (length s) (omega (arith, length-drop i s, n)),
        no accepting_mark 1 accepting_marked,
        no transition_mark 3 transition_marked,
        no end_mark 0 end_marked,
      )

  item_read : (x : Item) (t : List ℕ) → drop i s ≡ item_bytes x ++ t → record_in s i ≡ record_of x (i + length (item_bytes x))
  unfolding record_in
  item_read (accepting_item q) t e =
      let b₀ : get_or s i 0 ≡ 0x41 = byte_now s i e in
      let b₁ : get_or s (i + 1) 0 ≡ accepting_mark = byte_at s i 1 e in
      let b₂ : get_or s (i + 2) 0 ≡ q = byte_at s i 2 e in
      let f : i + 3 ≤ length s = (item_fits s i (accepting_item q) t e).1 in
      rw (b₀, b₁, b₂, le-leb (i + 2) (length s) (omega arith), le-leb (i + 3) (length s) f)
  item_read (transition_item q a r) t e =
      let b₀ : get_or s i 0 ≡ 0x41 = byte_now s i e in
      let b₁ : get_or s (i + 1) 0 ≡ transition_mark = byte_at s i 1 e in
      let b₂ : get_or s (i + 2) 0 ≡ q = byte_at s i 2 e in
      let b₃ : get_or s (i + 3) 0 ≡ a = byte_at s i 3 e in
      let b₄ : get_or s (i + 4) 0 ≡ r = byte_at s i 4 e in
      let f : i + 5 ≤ length s = (item_fits s i (transition_item q a r) t e).1 in
      rw (b₀, b₁, b₂, b₃, b₄, le-leb (i + 2) (length s) (omega arith), le-leb (i + 5) (length s) f)

  pub stands_record : {x : Result Record FileRefusal} → Stands s i x → record_in s i ≡ x
  unfolding record_in
  stands_record (short h) = rw (lt-leb (i + 2) (length s) (omega (arith, length-drop i s)))
  stands_record (cut {fields = fields} m e h) = cut_read fields m e h
  stands_record (unknown e h) = unknown_read e h
  stands_record (longer e) =
      let b₀ : get_or s i 0 ≡ 0x41 = byte_now s i e in
      let b₁ : get_or s (i + 1) 0 ≡ end_mark = byte_at s i 1 e in
      let n = ap length e in
      rw (
        b₀,
        b₁,
        le-leb (i + 2) (length s) (omega (arith, length-drop i s, n)),
        ne_eqb (length s) (i + 2) (λ d. omega (arith, length-drop i s, n)),
      )
  stands_record (item x t e) = item_read x t e
  stands_record (end e) =
      let b₀ : get_or s i 0 ≡ 0x41 = byte_now s i e in
      let b₁ : get_or s (i + 1) 0 ≡ end_mark = byte_at s i 1 e in
      let n : length s ≡ i + 2 = omega (arith, length-drop i s, ap length e) in
      rw (b₀, b₁, le-leb (i + 2) (length s) (omega arith), eq-eqb (length s) (i + 2) n)
