-- The grammar of labels (02, S-2; the Hanoi format), over places of the text s, a constructor for each rule:
--   or ::= and | or `|` and      and ::= not | and `&` not      not ::= `!` not | `(` or `)` | t | f | number
--   IsOperand s k d i L j       from place i to place j stands the operand L, with k propositions and at most d in all of `!` and of
--                               parentheses around any of its places
--   IsConjunction, IsDisjunction   the same of operands joined by `&`, and of these joined by `|`
--   IsLabel s k i L j           from place i to place j stands the label L
-- The bytes are 21 `!`, 26 `&`, 28 `(`, 29 `)`, 66 f, 74 t and 7C `|`.
-- Shown by `label_grammar`. Assumes nothing.
use Rattle.std.specs.Prelude.{List, ℕ, suc, ◌<◌}
use Rattle.tokens.specs.Lexical.{IsByte, NoByte, IsNumber}
use Rattle.labels.specs.Labels.{max_depth, Label, always, never, proposition, negation, both, either}

mutual
  pub data IsOperand (s : List ℕ) (k : ℕ) : ℕ → ℕ → Label → ℕ → Type 0 where
    t_word : {d i j : ℕ} → IsByte 0x74 s i j → IsOperand s k d i always j
    f_word : {d i j : ℕ} → IsByte 0x66 s i j → IsOperand s k d i never j
    proposition_number : {d i p j : ℕ} → IsNumber s i p j → p < k → IsOperand s k d i (proposition p) j
    bang : {d i a : ℕ} {L : Label} {j : ℕ} → IsByte 0x21 s i a → IsOperand s k d a L j → IsOperand s k (suc d) i (negation L) j
    parenthesis : {d i a : ℕ} {L : Label} {j l : ℕ} → IsByte 0x28 s i a → IsDisjunction s k d a L j → IsByte 0x29 s j l → IsOperand s k (suc d) i L l

  pub data IsConjunction (s : List ℕ) (k : ℕ) : ℕ → ℕ → Label → ℕ → Type 0 where
    operand : {d i : ℕ} {L : Label} {j : ℕ} → IsOperand s k d i L j → IsConjunction s k d i L j
    and : {d i : ℕ} {L : Label} {j a : ℕ} {M : Label} {l : ℕ} → IsConjunction s k d i L j → IsByte 0x26 s j a → IsOperand s k d a M l
        → IsConjunction s k d i (both L M) l

  -- a conjunction is as long as it can be: no `&` follows it
  pub data IsDisjunction (s : List ℕ) (k : ℕ) : ℕ → ℕ → Label → ℕ → Type 0 where
    conjunct : {d i : ℕ} {L : Label} {j : ℕ} → IsConjunction s k d i L j → NoByte 0x26 s j → IsDisjunction s k d i L j
    or : {d i : ℕ} {L : Label} {j a : ℕ} {M : Label} {l : ℕ} → IsDisjunction s k d i L j → IsByte 0x7C s j a → IsConjunction s k d a M l
        → NoByte 0x26 s l → IsDisjunction s k d i (either L M) l

abbrev pub IsLabel : List ℕ → ℕ → ℕ → Label → ℕ → Type 0
IsLabel s k i L j = IsDisjunction s k max_depth i L j
