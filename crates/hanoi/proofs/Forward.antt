-- What stands at a place stands before the text's end, and the place behind it is further on: a token has a byte or more, and none of them is the 0 that
-- stands past the end. Assumes nothing.
use mathlib.Core.Path.{◌≡◌, refl, sym, ◌∙◌}
use mathlib.Core.Bool.{Bool, true, false, not}
use mathlib.Core.List.{List, [], ◌∷◌}
use Prim.Native.Nat.{ℕ, ◌+◌, ◌≤◌, ◌<◌}
use native.Mathlib.Omega.{arith}
use lib.ListN.{length, get_or, drop}
use Rattle.tokens.specs.Tokens.{skip, touches, starts_with, stands}
use Rattle.tokens.proofs.Runs.{byte_within, skip_from}
use Rattle.tokens.proofs.LexicalLaws.{and_left, starts_byte, token_behind}
use Rattle.labels.proofs.Sound.{number_forward, disjunction_forward}
use Rattle.hanoi.specs.Descriptions.{Part, Description}
use Rattle.hanoi.specs.Grammar.{Words, no_word, word, Numbered, numbered, Marked, accepting, rejecting, IsPart, state_part, edge_part}

pub stands_byte : (b : ℕ) (w s : List ℕ) (i : ℕ) → stands (b ∷ w) s i ≡ true → get_or s (skip s i) 0 ≡ b
unfolding stands
stands_byte b w s i e = starts_byte b w s (skip s i) (and_left (starts_with (b ∷ w) (drop (skip s i) s)) (not (touches s (skip s i))) e)

pub stands_within : (b : ℕ) (w s : List ℕ) (i : ℕ) → (b ≡ 0 → ⊥) → stands (b ∷ w) s i ≡ true → i < length s
stands_within b w s i z e = omega (arith, skip_from s i, byte_within s (skip s i) b (stands_byte b w s i e) z)

-- two tokens that begin with different bytes do not stand at one place
pub stands_one : (b : ℕ) (w : List ℕ) (c : ℕ) (v s : List ℕ) (i : ℕ) → (b ≡ c → ⊥) → stands (b ∷ w) s i ≡ true → stands (c ∷ v) s i ≡ false
stands_one b w c v s i n e = by (stands (c ∷ v) s i) refl
  where
    by : (x : Bool) → stands (c ∷ v) s i ≡ x → x ≡ false
    by true f = absurd (n (sym (stands_byte b w s i e) ∙ stands_byte c v s i f))
    by false f = refl

pub stands_past : (b : ℕ) (w s : List ℕ) (i : ℕ) → (b ≡ 0 → ⊥) → length s ≤ i → stands (b ∷ w) s i ≡ false
stands_past b w s i z h = by (stands (b ∷ w) s i) refl
  where
    by : (x : Bool) → stands (b ∷ w) s i ≡ x → x ≡ false
    by true f = absurd (omega (arith, h, stands_within b w s i z f))
    by false f = refl

pub words_forward : {s : List ℕ} {ws : List (List ℕ)} {i j : ℕ} → Words s ws i j → i ≤ j
words_forward (no_word e) = omega (arith, e)
words_forward {s = s} {i = i} (word e x) = omega (arith, words_forward x, token_behind e, skip_from s i)

numbered_forward : {s : List ℕ} {w : List ℕ} {i v j : ℕ} → Numbered s (w ∷ []) i v j → i + length w ≤ j
numbered_forward {s = s} {i = i} (numbered (word e x) n) =
    omega (arith, skip_from s i, token_behind e, words_forward x, number_forward n)

marked_forward : {s : List ℕ} {i : ℕ} {b : Bool} {j : ℕ} → Marked s i b j → i ≤ j
marked_forward (accepting x) = words_forward x
marked_forward (rejecting n e) = omega (arith, e)

pub part_forward : {s : List ℕ} {D : Description} {i : ℕ} {x : Part} {j : ℕ} → IsPart s D i x j → i < j
part_forward (state_part n h d m) = omega (arith, numbered_forward n, marked_forward m)
part_forward {s = s} {i = i} (edge_part e l d n h) = omega (arith, skip_from s i, token_behind e, disjunction_forward d, numbered_forward n)
