-- The equations of the decimal digits, whatever the fuel of the definition, and a number written digit by digit. Assumes nothing.
use mathlib.Core.Path.{◌≡◌, refl, sym, ap, ◌∙◌}
use mathlib.Core.Bool.{Bool, true, false}
use mathlib.Core.List.{List, [], ◌∷◌, ◌++◌}
use Prim.Native.Nat.{ℕ, zero, suc, ◌+◌, ◌/◌, ◌%◌, ◌≤◌, ◌<◌}
use native.Mathlib.Omega.{arith}
use lib.Dec.{ltb}
use lib.ListN.{length, length-append}
use borrow.Author.Tests.{lt-ltb, le-ltb, ltb-true, ltb-false}
use Rattle.buffers.specs.Buffers.{WrittenAt}
use Rattle.buffers.proofs.Buffers.{written_append, written_as}
use Rattle.text.specs.Text.{digits, decimal}

-- one digit
digits_digit : (k n : ℕ) → n < 10 → digits (suc k) n ≡ (0x30 + n) ∷ []
unfolding digits
digits_digit k n h = rw (digits, lt-ltb n 10 h)

-- a last digit behind the others
digits_more : (k n : ℕ) → 10 ≤ n → digits (suc k) n ≡ digits k (n / 10) ++ (0x30 + n % 10) ∷ []
unfolding digits
digits_more k n h = rw (digits, le-ltb n 10 h)

-- fuel above the number is enough
digits_enough : (j k n : ℕ) → n < j → n < k → digits j n ≡ digits k n
digits_enough zero k n g h = absurd (omega arith)
digits_enough (suc j) zero n g h = absurd (omega arith)
digits_enough (suc j) (suc k) n g h = go (λ m a b. digits_enough j k m a b) (ltb n 10) refl
  where
    go : ((m : ℕ) → m < j → m < k → digits j m ≡ digits k m) → (c : Bool) → ltb n 10 ≡ c → digits (suc j) n ≡ digits (suc k) n
    go ih true e = let l = ltb-true n 10 e in digits_digit j n l ∙ sym (digits_digit k n l)
    go ih false e =
        let l = ltb-false n 10 e in
        digits_more j n l
        ∙ ap (λ (x : List ℕ). x ++ (0x30 + n % 10) ∷ []) (ih (n / 10) (omega arith) (omega arith))
        ∙ sym (digits_more k n l)

pub decimal_digit : (n : ℕ) → n < 10 → decimal n ≡ (0x30 + n) ∷ []
unfolding decimal
decimal_digit n h = digits_digit n n h

pub decimal_more : (n : ℕ) → 10 ≤ n → decimal n ≡ decimal (n / 10) ++ (0x30 + n % 10) ∷ []
unfolding decimal
decimal_more n h =
    digits_more n n h
    ∙ ap (λ (l : List ℕ). l ++ (0x30 + n % 10) ∷ []) (digits_enough n (suc (n / 10)) (n / 10) (omega arith) (omega arith))

pub decimal_more_length : (n : ℕ) → 10 ≤ n → length (decimal n) ≡ length (decimal (n / 10)) + 1
decimal_more_length n h = ap length (decimal_more n h) ∙ length-append (decimal (n / 10)) ((0x30 + n % 10) ∷ [])

-- a single digit is written, and a last digit behind the others
pub written_digit : {d e : List ℕ} {at r : ℕ} (n b : ℕ) → n < 10 → b ≡ 0x30 + n → WrittenAt d at (b ∷ []) e r → WrittenAt d at (decimal n) e r
written_digit n b h q w = written_as (ap (λ (x : ℕ). x ∷ []) q ∙ sym (decimal_digit n h)) w

pub written_last_digit : {d e f : List ℕ} {at next r : ℕ} (n b : ℕ) → 10 ≤ n
    → WrittenAt d at (decimal (n / 10)) e next → b ≡ 0x30 + n % 10 → WrittenAt e next (b ∷ []) f r → WrittenAt d at (decimal n) f r
written_last_digit n b h u q w =
    written_as (ap (λ (x : ℕ). decimal (n / 10) ++ (x ∷ [])) q ∙ sym (decimal_more n h)) (written_append u w)
