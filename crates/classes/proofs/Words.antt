-- Eight counters as one number, as the code reads them: of bytes it is the "or" of them shifted, since each stands above those before it. It is 0
-- exactly if all of them are, and "or" takes no bit away. So the four numbers of 32 counters tell whether all are 0. Assumes nothing.
use mathlib.Core.Path.{◌≡◌, refl, sym, ap, ap₂, ◌∙◌}
use mathlib.Core.Bool.{Bool, true, false}
use mathlib.Core.List.{List, [], ◌∷◌}
use Prim.Native.Nat.{ℕ, zero, suc, ◌+◌, ◌-◌, ◌*◌, ◌/◌, ◌%◌, ◌^◌, ◌≤◌, ◌<◌}
use native.Mathlib.Nat.{add-zero, add_comm}
use native.Mathlib.Omega.{arith}
use borrow.Author.Tests.{eqb-true, eqb-false}
use lib.Bits.{bit_or, or_add_and, or_shifted_r, and_le_l, and_le_r}
use lib.Dec.{eqb}
use lib.ListN.{length, get_or}
use lib.Pow.{shl_exact}
use Rattle.std.specs.Int.{w64, from_le_bytes}
use Rattle.automaton.proofs.Booleans.{not_T_false}
use Rattle.slots.specs.Slots.{all_zero}
use Rattle.slots.proofs.Compared.{zero_everywhere}
use Rattle.slots.proofs.Vertices.{all_zero_at}
use Rattle.classes.specs.Classes.{eight_from}

-- a statement of each number below 8
pub below_eight : (P : ℕ → Type 0) → P 0 → P 1 → P 2 → P 3 → P 4 → P 5 → P 6 → P 7 → (k : ℕ) → k < 8 → P k
below_eight P a b c d e f g h zero l = a
below_eight P a b c d e f g h (suc zero) l = b
below_eight P a b c d e f g h (suc (suc zero)) l = c
below_eight P a b c d e f g h (suc (suc (suc zero))) l = d
below_eight P a b c d e f g h (suc (suc (suc (suc zero)))) l = e
below_eight P a b c d e f g h (suc (suc (suc (suc (suc zero))))) l = f
below_eight P a b c d e f g h (suc (suc (suc (suc (suc (suc zero)))))) l = g
below_eight P a b c d e f g h (suc (suc (suc (suc (suc (suc (suc zero))))))) l = h
below_eight P a b c d e f g h (suc (suc (suc (suc (suc (suc (suc (suc k)))))))) l = absurd (omega arith)

or_none : (a b : ℕ) → bit_or a b ≡ 0 → (a ≡ 0) × (b ≡ 0)
or_none a b e = (omega (arith, or_add_and a b, and_le_r a b), omega (arith, or_add_and a b, and_le_l a b))

or_four_none : (a b c d : ℕ) → bit_or (bit_or (bit_or a b) c) d ≡ 0 → (a ≡ 0) × (b ≡ 0) × (c ≡ 0) × (d ≡ 0)
or_four_none a b c d e =
    let x = or_none (bit_or (bit_or a b) c) d e in
    let y = or_none (bit_or a b) c x.0 in
    let z = or_none a b y.0 in
    (z.0, z.1, y.1, x.1)

-- a byte that is shifted stands above a lower number
or_byte : (k n s x : ℕ) → n ≡ s → s < 2 ^ k → x < 256 → k ≤ 56 → bit_or n (x * 2 ^ k % 2 ^ 64) ≡ s + x * 2 ^ k
or_byte k n s x e h b l = ap₂ bit_or e (shl_exact 8 k 64 b (omega arith)) ∙ or_shifted_r x k s h ∙ add_comm (x * 2 ^ k) s

-- the eight counters from number i on
module _ (cs : List ℕ) (i : ℕ) where
  -- as the code reads them
  abbrev pub read_from : ℕ
  read_from =
      from_le_bytes w64
      (get_or cs i 0 ∷ get_or cs (i + 1) 0 ∷ get_or cs (i + 2) 0 ∷ get_or cs (i + 3) 0 ∷ get_or cs (i + 4) 0 ∷ get_or cs (i + 5) 0
      ∷ get_or cs (i + 6) 0 ∷ get_or cs (i + 7) 0 ∷ [])

  pub eight_read : ((k : ℕ) → get_or cs k 0 < 256) → read_from ≡ eight_from cs i
  unfolding eight_from
  eight_read small =
      let b0 = small i in
      let b1 = small (i + 1) in
      let b2 = small (i + 2) in
      let b3 = small (i + 3) in
      let b4 = small (i + 4) in
      let b5 = small (i + 5) in
      let b6 = small (i + 6) in
      let b7 = small (i + 7) in
      let e1 = or_byte 8 (get_or cs i 0) (get_or cs i 0) (get_or cs (i + 1) 0) refl (omega arith) b1 (omega arith) in
      let e2 = or_byte 16 _ _ (get_or cs (i + 2) 0) e1 (omega arith) b2 (omega arith) in
      let e3 = or_byte 24 _ _ (get_or cs (i + 3) 0) e2 (omega arith) b3 (omega arith) in
      let e4 = or_byte 32 _ _ (get_or cs (i + 4) 0) e3 (omega arith) b4 (omega arith) in
      let e5 = or_byte 40 _ _ (get_or cs (i + 5) 0) e4 (omega arith) b5 (omega arith) in
      let e6 = or_byte 48 _ _ (get_or cs (i + 6) 0) e5 (omega arith) b6 (omega arith) in
      let e7 = or_byte 56 _ _ (get_or cs (i + 7) 0) e6 (omega arith) b7 (omega arith) in
      sym e7

  read_none : ((k : ℕ) → get_or cs k 0 ≡ 0) → read_from ≡ 0
  read_none h = rw (h i, h (i + 1), h (i + 2), h (i + 3), h (i + 4), h (i + 5), h (i + 6), h (i + 7))

  none_read : read_from ≡ 0 → (k : ℕ) → i ≤ k → k < i + 8 → get_or cs k 0 ≡ 0
  none_read e k l h =
      let q : i + (k - i) ≡ k = omega arith in
      let zeros : (j : ℕ) → j < 8 → get_or cs (i + j) 0 ≡ 0 =
      below_eight (λ j. get_or cs (i + j) 0 ≡ 0) (rw add-zero (omega arith)) (omega arith) (omega arith) (omega arith) (omega arith) (omega arith)
      (omega arith) (omega arith) in
      rw q at (zeros (k - i) (omega arith))

module _ (cs : List ℕ) where
  abbrev all_read : ℕ
  all_read = bit_or (bit_or (bit_or (read_from cs 0) (read_from cs 8)) (read_from cs 16)) (read_from cs 24)

  abbrev all_words : ℕ
  all_words = bit_or (bit_or (bit_or (eight_from cs 0) (eight_from cs 8)) (eight_from cs 16)) (eight_from cs 24)

  none_counted : all_read ≡ 0 → (k : ℕ) → k < 32 → get_or cs k 0 ≡ 0
  none_counted e k l = go (k / 8) refl (or_four_none (read_from cs 0) (read_from cs 8) (read_from cs 16) (read_from cs 24) e)
    where
      go : (q : ℕ) → k / 8 ≡ q → (read_from cs 0 ≡ 0) × (read_from cs 8 ≡ 0) × (read_from cs 16 ≡ 0) × (read_from cs 24 ≡ 0) → get_or cs k 0 ≡ 0
      go zero p z = none_read cs 0 z.0 k (omega arith) (omega arith)
      go (suc zero) p z = none_read cs 8 z.1 k (omega arith) (omega arith)
      go (suc (suc zero)) p z = none_read cs 16 z.2 k (omega arith) (omega arith)
      go (suc (suc (suc zero))) p z = none_read cs 24 z.3 k (omega arith) (omega arith)
      go (suc (suc (suc (suc q)))) p z = absurd (omega arith)

  counted_none : ((k : ℕ) → get_or cs k 0 ≡ 0) → all_read ≡ 0
  counted_none h = rw (read_none cs 0 h, read_none cs 8 h, read_none cs 16 h, read_none cs 24 h)

  pub reads_none : length cs ≡ 32 → eqb all_read 0 ≡ all_zero cs
  reads_none long = go (eqb all_read 0) refl
    where
      go : (b : Bool) → eqb all_read 0 ≡ b → b ≡ all_zero cs
      go true e = sym (zero_everywhere cs (λ k l. none_counted (eqb-true all_read 0 e) k (omega arith)))
      go false e = sym (not_T_false (all_zero cs) (λ t. eqb-false all_read 0 e (counted_none (all_zero_at cs t))))

  pub words_none : length cs ≡ 32 → ((k : ℕ) → get_or cs k 0 < 256) → eqb all_words 0 ≡ all_zero cs
  words_none long small =
      ap (λ (w : ℕ). eqb w 0)
      (sym (ap₂ bit_or (ap₂ bit_or (ap₂ bit_or (eight_read cs 0 small) (eight_read cs 8 small)) (eight_read cs 16 small)) (eight_read cs 24 small)))
      ∙ reads_none long
