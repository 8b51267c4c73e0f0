-- The decimal digits are those of the library, whatever the fuel of the definition, and the bound of their number. Assumes nothing.
use mathlib.Core.Path.{◌≡◌, refl, ap, ◌∙◌}
use mathlib.Core.Bool.{Bool, true, false}
use mathlib.Core.List.{[], ◌∷◌}
use Prim.Native.Nat.{ℕ, zero, suc, ◌+◌, ◌/◌, ◌%◌, ◌^◌, ◌≤◌, ◌<◌}
use native.Mathlib.Nat.{pow-suc}
use native.Mathlib.Omega.{arith}
use lib.Dec.{ltb}
use lib.ListN.{length, length-append}
use borrow.Author.Tests.{lt-ltb, le-ltb, ltb-true, ltb-false}
use Rattle.std.specs.Fmt as std
use Rattle.std.proofs.lemmas.Fmt.{AppendsLastDigit, decimal_from_appends, length-decimal-le_succ}
use Rattle.text.specs.Text.{digits, decimal}

last_digit : AppendsLastDigit digits
unfolding digits
last_digit = record { one = λ k n h. rw (digits, lt-ltb n 10 h); more = λ k n h. rw (digits, le-ltb n 10 h) }

pub decimal_library : (n : ℕ) → n < 2 ^ 64 → decimal n ≡ std.decimal n
unfolding decimal
decimal_library n h = decimal_from_appends digits last_digit (suc n) n h (omega (arith, length-decimal-le_succ n h))

-- so many digits of a number below a power of ten are no more than the power
digits_length : (j k n : ℕ) → n < 10 ^ suc k → length (digits j n) ≤ suc k
unfolding digits
digits_length zero k n h = omega arith
digits_length (suc j) k n h = go (λ i m l. digits_length j i m l) k h (ltb n 10) refl
  where
    go : ((i m : ℕ) → m < 10 ^ suc i → length (digits j m) ≤ suc i) → (k : ℕ) → n < 10 ^ suc k → (c : Bool) → ltb n 10 ≡ c
        → length (digits (suc j) n) ≤ suc k
    go ih k h true e = omega (arith, ap length (last_digit.one j n (ltb-true n 10 e)))
    go ih zero h false e = absurd (omega (arith, ltb-false n 10 e, pow-suc 10 0))
    go ih (suc k) h false e =
        let more = ap length (last_digit.more j n (ltb-false n 10 e)) ∙ length-append (digits j (n / 10)) ((0x30 + n % 10) ∷ []) in
        omega (arith, more, ih k (n / 10) (omega (arith, pow-suc 10 (suc k))))

-- a number below a power of ten has no more digits than the power
pub decimal_length : (k n : ℕ) → n < 10 ^ suc k → length (decimal n) ≤ suc k
unfolding decimal
decimal_length k n h = digits_length (suc n) k n h
