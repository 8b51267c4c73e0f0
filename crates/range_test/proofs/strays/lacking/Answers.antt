-- `lacking` meets its contract: shifted by n, the word with all states has those from n on; by 32 there is no shift, and none is lacking.
-- Assumes nothing.
use mathlib.Core.Path.{◌≡◌, refl, sym, ap, ◌∙◌}
use mathlib.Core.Bool.{Bool, true, false, not}
use Prim.Native.Nat.{ℕ, min, ◌+◌, ◌*◌, ◌-◌, ◌/◌, ◌%◌, ◌^◌, ◌<◌}
use native.Mathlib.Nat.{lt_of_not-le}
use native.Mathlib.Omega.{arith}
use borrow.Author.Tests.{ltb-true, ltb-false, lt-ltb}
use lib.Dec.{ltb}
use lib.Pow.{pow_pos}
use Rattle.std.specs.Prelude.{Option, Some, None}
use Rattle.std.specs.Option.{SomeIff, unwrap_or}
use Rattle.std.proofs.Common.{rules, tests}
use Rattle.std.proofs.lemmas.Nat.{div-add-mod'}
use Rattle.automaton.specs.Sets.{bit}
use Rattle.automaton.proofs.Bits.{bit_zero}
use Rattle.relations.proofs.Rows.{bit_low, bit_high}
use Rattle.range_test.proofs.Words.{bit_all}
use Rattle.range_test.proofs.strays.lacking.Goals as goal

shifted : (n r : ℕ) → r < 32 → bit (4294967295 * 2 ^ n % 2 ^ 32) r ≡ not (ltb r n)
shifted n r h = kept ∙ ap (λ (w : ℕ). bit w r) (omega arith) ∙ go (ltb r n) refl
  where
    x : ℕ
    x = 4294967295 * 2 ^ n

    kept : bit (x % 2 ^ 32) r ≡ bit x r
    kept = sym (ap (λ (w : ℕ). bit w r) (sym (div-add-mod' x (2 ^ 32))) ∙ bit_low 32 (x / 2 ^ 32) (x % 2 ^ 32) r h)

    go : (b : Bool) → ltb r n ≡ b → bit (4294967295 * 2 ^ n + 0) r ≡ not (ltb r n)
    go true e = bit_low n 4294967295 0 r (ltb-true r n e) ∙ bit_zero r ∙ sym (ap not e)
    go false e = above (r - n) (omega (arith, ltb-false r n e))
      where
        above : (i : ℕ) → r ≡ n + i → bit (4294967295 * 2 ^ n + 0) r ≡ not (ltb r n)
        above i d =
            ap (bit (4294967295 * 2 ^ n + 0)) d ∙ bit_high n 4294967295 0 i (pow_pos n) ∙ bit_all i (omega (arith, d)) ∙ sym (ap not e)

lacked : (o : Option ℕ) (n w r : ℕ) → SomeIff o (n < 32) (4294967295 * 2 ^ n % 2 ^ 32) → w ≡ unwrap_or o 0 → r < 32 → bit w r ≡ not (ltb r n)
lacked (Some v) n w r s e h = ap (λ (x : ℕ). bit x r) (e ∙ s.1) ∙ shifted n r h
lacked None n w r s e h = ap (λ (x : ℕ). bit x r) e ∙ bit_zero r ∙ sym (ap not (lt-ltb r n (lt_of_not-le (λ l. s (omega arith)))))

-- of a state below 32 it is the same whether it is below n or below the smaller of n and 32
capped : (n r : ℕ) → r < 32 → ltb r (min n 32) ≡ ltb r n
capped n r h = search (rules, tests)

pub returns : goal.returns
returns c r h =
    lacked c.checked_shl.result c.min.result c.unwrap_or.result r c.checked_shl.ensures c.unwrap_or.ensures h
    ∙ ap not (ap (ltb r) c.min.ensures ∙ capped c.args.count r h)
