-- Labels that the checker reads by computation: `!` binds tightest and `|` loosest, and 64 in all of `!` and of parentheses may be around a place, 65 not.
-- Assumes nothing.
use mathlib.Core.Path.{◌≡◌, refl}
use mathlib.Core.List.{List, [], ◌∷◌, ◌++◌}
use Prim.Native.Nat.{ℕ, zero, suc}
use Rattle.tokens.specs.Tokens.{whites, skip, digits, value, number_at}
use Rattle.labels.specs.Labels.{Label, proposition, negation, both, either}
use Rattle.labels.specs.LabelReading.{absent, found, atom_at, more, conjunction, disjunction, operand_at, label_at}

-- n times the bytes w, and then the bytes t
unfoldable pub times : ℕ → List ℕ → List ℕ → List ℕ
times zero w t = t
times (suc n) w t = w ++ times n w t

unfoldable pub negations : ℕ → Label → Label
negations zero L = L
negations (suc n) L = negation (negations n L)

-- `0|1&!2`
pub precedence : label_at (0x30 ∷ 0x7C ∷ 0x31 ∷ 0x26 ∷ 0x21 ∷ 0x32 ∷ []) 3 0
    ≡ found (either (proposition 0) (both (proposition 1) (negation (proposition 2)))) 6
unfolding whites skip digits value number_at atom_at more conjunction disjunction operand_at label_at
precedence = refl

-- 64 times `!`, and 65 times
pub bangs_read : label_at (times 64 (0x21 ∷ []) (0x30 ∷ [])) 1 0 ≡ found (negations 64 (proposition 0)) 65
unfolding times negations whites skip digits value number_at atom_at more conjunction disjunction operand_at label_at
bangs_read = refl

pub bangs_too_deep : label_at (times 65 (0x21 ∷ []) (0x30 ∷ [])) 1 0 ≡ absent
unfolding times whites skip digits value number_at atom_at more conjunction disjunction operand_at label_at
bangs_too_deep = refl

-- 64 pairs of parentheses, and 65 pairs
pub parentheses_read : label_at (times 64 (0x28 ∷ []) (0x30 ∷ times 64 (0x29 ∷ []) [])) 1 0 ≡ found (proposition 0) 129
unfolding times whites skip digits value number_at atom_at more conjunction disjunction operand_at label_at
parentheses_read = refl

pub parentheses_too_deep : label_at (times 65 (0x28 ∷ []) (0x30 ∷ times 65 (0x29 ∷ []) [])) 1 0 ≡ absent
unfolding times whites skip digits value number_at atom_at more conjunction disjunction operand_at label_at
parentheses_too_deep = refl

-- 32 times `!(`, and one `!` more
pub both_read : label_at (times 32 (0x21 ∷ 0x28 ∷ []) (0x30 ∷ times 32 (0x29 ∷ []) [])) 1 0 ≡ found (negations 32 (proposition 0)) 97
unfolding times negations whites skip digits value number_at atom_at more conjunction disjunction operand_at label_at
both_read = refl

pub both_too_deep : label_at (0x21 ∷ times 32 (0x21 ∷ 0x28 ∷ []) (0x30 ∷ times 32 (0x29 ∷ []) [])) 1 0 ≡ absent
unfolding times whites skip digits value number_at atom_at more conjunction disjunction operand_at label_at
both_too_deep = refl
