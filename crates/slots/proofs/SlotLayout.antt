-- The layout of a slot: the slot writer leaves the 40 bytes of the slot in front, and what was written is read back.
-- Nothing above this crate looks inside a slot. Assumes nothing.
use mathlib.Core.Path.{◌≡◌, sym, ◌∙◌, ap, ap₂}
use mathlib.Core.List.{List, [], ◌∷◌, ◌++◌, append_assoc, append-nil}
use Prim.Native.Nat.{ℕ, suc, ◌+◌, ◌-◌, ◌*◌, ◌/◌, ◌%◌, ◌≤◌, ◌<◌}
use native.Mathlib.Nat.{add-zero}
use native.Mathlib.Numerals.{add-one}
use native.Mathlib.Omega.{arith}
use borrow.Rule.Slice.PartMut.{mid_of, put_mid, post_of}
use lib.ListN.{length, get_or, take, drop, set, length-append, length-take, length-drop, drop_of_length-le, get_or-append}
use lib.Seq.{length-take-le, ext_get_or, get_or-take, get_or-drop, get_or-append-add, take_all, take_at, drop_at, drop-drop, take-suc, take-suc-set}
use Rattle.slots.specs.declared.Vertex.{Vertex}
use Rattle.slots.specs.Slots.{slot_size, slot_count, slot_bytes}
use Rattle.slots.specs.Bytes.{with_slot, vertex_at, letter_at, parent_at}

-- the bytes 33 to 39
abbrev pub tail_bytes : ℕ → ℕ → List ℕ
tail_bytes a p = a ∷ p % 256 ∷ p / 256 ∷ 0 ∷ 0 ∷ 0 ∷ 0 ∷ []

-- after the left state and the two copies, of the counters and of the bytes behind them
pub slot_written : (d : List ℕ) (v : Vertex) (a p : ℕ) → slot_size ≤ length d → length v.counters ≡ 32
    → put_mid 33 7 (put_mid 1 32 (set d 0 v.left) v.counters) (tail_bytes a p) ≡ slot_bytes v a p ++ drop slot_size d
unfolding slot_bytes
slot_written [] v a p h n = absurd (omega arith)
slot_written (y ∷ d) v a p h n =
    let front : List ℕ = v.left ∷ v.counters in
    let rest : List ℕ = drop 32 d in
    let long : length front ≡ 33 = omega arith in
    ap₂ (λ (f r : List ℕ). f ++ (tail_bytes a p ++ drop 7 r)) (take_at front rest 33 long) (drop_at front rest 33 long)
    ∙ ap (λ (r : List ℕ). front ++ (tail_bytes a p ++ r)) (drop-drop 7 32 d)
    ∙ sym (append_assoc front (tail_bytes a p) (drop 39 d))

-- what the slot writer says of the part that was lent from an offset on, said of the whole work buffer
pub part_back : (work : List ℕ) (at n : ℕ) (vs ys : List ℕ) → at ≤ length work → ys ≡ vs ++ drop n (mid_of at (length work - at) work)
    → put_mid at (length work - at) work ys ≡ take at work ++ (vs ++ drop (at + n) work)
part_back work at n vs ys h e =
    let whole : mid_of at (length work - at) work ≡ drop at work = take_all (length work - at) (drop at work)
    (omega (arith, length-drop at work)) in
    let none : post_of at (length work - at) work ≡ [] = drop_of_length-le (drop at work) {i = length work - at}
    (omega (arith, length-drop at work)) in
    ap (λ (l : List ℕ). take at work ++ (ys ++ l)) none
    ∙ ap (λ (l : List ℕ). take at work ++ l) (append-nil ys ∙ e ∙ ap (λ (l : List ℕ). vs ++ drop n l) whole ∙ ap
    (λ (l : List ℕ). vs ++ l) (drop-drop n at work))

-- one more counter read
pub counters_more : (cs xs : List ℕ) (i x : ℕ) → i < length cs → i < length xs → x ≡ get_or xs i 0 → take i cs ≡ take i xs
    → take (i + 1) (set cs i x) ≡ take (i + 1) xs
counters_more cs xs i x h k q e =
    rw add-one
    (take-suc-set cs i x h ∙ ap₂ (λ (l : List ℕ) (w : ℕ). l ++ w ∷ []) e q ∙ sym (take-suc xs i 0 k))

-- a slot's bytes are in the work buffer
pub slot_fits : (s len : ℕ) → s < slot_count len → s * slot_size + slot_size ≤ len
slot_fits s len h = omega arith

-- the counters in a slot, one at a time
module _ (work : List ℕ) (s : ℕ) (fits : s * slot_size + slot_size ≤ length work) where
  pub counters_long : length (vertex_at work s).counters ≡ 32
  unfolding vertex_at
  counters_long = simp (length-take, length-drop) (omega arith)

  pub counters_at_lem : (i : ℕ) → i < 32 → get_or (vertex_at work s).counters i 0 ≡ get_or work (s * slot_size + 1 + i) 0
  unfolding vertex_at
  counters_at_lem i h = rw (get_or-take, get_or-drop)

pub slot_long : (v : Vertex) (a p : ℕ) → length v.counters ≡ 32 → length (slot_bytes v a p) ≡ slot_size
unfolding slot_bytes
slot_long v a p l = omega (arith, length-append v.counters (tail_bytes a p))

-- where the slot's bytes stand from its offset on, its vertex, letter and parent are read
module _ (work : List ℕ) (s : ℕ) (v : Vertex) (a p : ℕ) (rest : List ℕ) (shows : drop (s * slot_size) work ≡ slot_bytes v a p ++ rest)
    (long : length v.counters ≡ 32) where
  pub vertex_read : vertex_at work s ≡ v
  unfolding vertex_at slot_bytes
  vertex_read = ap₂ (λ (x : ℕ) (cs : List ℕ). record { left = x; counters = cs }) first counters
    where
      first : get_or work (s * slot_size) 0 ≡ v.left
      first = ap (λ (k : ℕ). get_or work k 0) (sym (add-zero (s * slot_size))) ∙ sym (get_or-drop (s * slot_size) work 0 0)
          ∙ ap (λ (l : List ℕ). get_or l 0 0) shows

      counters : take 32 (drop (s * slot_size + 1) work) ≡ v.counters
      counters =
          ap (take 32) (sym (drop-drop 1 (s * slot_size) work) ∙ ap (drop 1) shows ∙ append_assoc v.counters (tail_bytes a p) rest)
          ∙ take_at v.counters (tail_bytes a p ++ rest) 32 long

  tail_byte : (i : ℕ) → get_or work (s * slot_size + (33 + i)) 0 ≡ get_or (tail_bytes a p ++ rest) i 0
  unfolding slot_bytes
  tail_byte i =
      let q : 33 + i ≡ suc (length v.counters + i) = omega arith in
      sym (get_or-drop (s * slot_size) work (33 + i) 0) ∙ ap₂ (λ (l : List ℕ) (j : ℕ). get_or l j 0) shows q
      ∙ ap (λ (l : List ℕ). get_or l (length v.counters + i) 0) (append_assoc v.counters (tail_bytes a p) rest)
      ∙ get_or-append-add v.counters (tail_bytes a p ++ rest) i 0

  pub letter_read : letter_at work s ≡ a
  letter_read = tail_byte 0

  pub parent_read : parent_at work s ≡ p
  parent_read = rw (tail_byte 1, tail_byte 2) (omega arith)

  pub slot_passed : drop (suc s * slot_size) work ≡ rest
  slot_passed =
      let e : suc s * slot_size ≡ s * slot_size + slot_size = omega arith in
      rw e (sym (drop-drop slot_size (s * slot_size) work) ∙ ap (drop slot_size) shows
      ∙ drop_at (slot_bytes v a p) rest slot_size (slot_long v a p long))

-- the work buffer with a slot written
module _ (work : List ℕ) (n : ℕ) (v : Vertex) (a p : ℕ) (fits : n * slot_size + slot_size ≤ length work) where
  pub with_slot_shows : drop (n * slot_size) (with_slot work n v a p) ≡ slot_bytes v a p ++ drop (n * slot_size + slot_size) work
  unfolding with_slot
  with_slot_shows = drop_at (take (n * slot_size) work) (slot_bytes v a p ++ drop (n * slot_size + slot_size) work) (n * slot_size)
      (length-take-le (n * slot_size) work (omega arith))

  pub with_slot_long : length v.counters ≡ 32 → length (with_slot work n v a p) ≡ length work
  unfolding with_slot
  with_slot_long l =
      let k = slot_long v a p l in
      let t = length-take-le (n * slot_size) work (omega arith) in
      simp (length-append, length-drop) (omega arith)

  with_slot_byte : (j : ℕ) → j < n * slot_size → get_or (with_slot work n v a p) j 0 ≡ get_or work j 0
  unfolding with_slot
  with_slot_byte j h =
      let t : length (take (n * slot_size) work) ≡ n * slot_size = length-take-le (n * slot_size) work (omega arith) in
      get_or-append (take (n * slot_size) work) (slot_bytes v a p ++ drop (n * slot_size + slot_size) work) 0 j (omega arith)
      ∙ get_or-take (n * slot_size) work j 0 h

  pub with_slot_vertex : length v.counters ≡ 32 → vertex_at (with_slot work n v a p) n ≡ v
  with_slot_vertex l = vertex_read (with_slot work n v a p) n v a p (drop (n * slot_size + slot_size) work) with_slot_shows l

  -- the slots below are as they were
  pub with_slot_below : (s : ℕ) → length v.counters ≡ 32 → s < n → vertex_at (with_slot work n v a p) s ≡ vertex_at work s
  unfolding vertex_at
  with_slot_below s l h =
      let m = with_slot_long l in
      let new : List ℕ = take 32 (drop (s * slot_size + 1) (with_slot work n v a p)) in
      let old : List ℕ = take 32 (drop (s * slot_size + 1) work) in
      ap₂ (λ (x : ℕ) (cs : List ℕ). record { left = x; counters = cs }) (with_slot_byte (s * slot_size) (omega arith))
      (ext_get_or 0 new old (simp (length-take, length-drop) (omega arith))
      (λ i q.
      let j : i < 32 = omega (arith, simp length-take at q) in
      get_or-take 32 (drop (s * slot_size + 1) (with_slot work n v a p)) i 0 j ∙ get_or-drop (s * slot_size + 1) (with_slot work n v a p) i 0
      ∙ with_slot_byte (s * slot_size + 1 + i) (omega arith)
      ∙ sym (get_or-drop (s * slot_size + 1) work i 0) ∙ sym (get_or-take 32 (drop (s * slot_size + 1) work) i 0 j)))
