-- Tokens, numbers and names at a place, as the code comes to them: by the place past white space. Assumes nothing.
use mathlib.Core.Path.{◌≡◌, refl, sym, ap, ap₂, ◌∙◌}
use mathlib.Core.Bool.{Bool, true, false, ◌&&◌, not}
use mathlib.Core.List.{List, [], ◌∷◌}
use Prim.Native.Nat.{ℕ, ◌+◌, ◌≤◌, min}
use native.Mathlib.Omega.{arith}
use lib.Dec.{eqb}
use borrow.Author.Tests.{eq-eqb, eqb-true, ne_eqb}
use lib.ListN.{length, drop, take}
use Rattle.std.specs.Cmp.Lexicographic.{pointwise}
use Rattle.std.proofs.lemmas.List.{take_rest}
use Rattle.tokens.proofs.Words.{starts_with_lem}
use Rattle.tokens.proofs.Runs.{byte_within, digits_on, skip_from, skip_skip}
use Rattle.std.specs.Prelude.{Option, Some, None}
use Rattle.std.specs.Bool.{then_some}
use Rattle.std.proofs.lemmas.Option.{none-some, same_Some}
use Rattle.tokens.specs.Tokens.{digits_at, byte_at, skip, touches, starts_with, stands, behind, digit, digits, value, Number, none, number_at, name_bytes}
use Rattle.tokens.specs.Places.{token_at, byte_from, name_from, name_at, capped}

-- A token.

module _ (w s : List ℕ) (i : ℕ) where
  token_lem : (b : Bool) → (starts_with w (drop (skip s i) s) && not (touches s (skip s i))) ≡ b → then_some b (behind w s i) ≡ token_at w s i
  unfolding token_at stands
  token_lem true e = ap (λ x. elim x [ true ↦ Some (behind w s i) | false ↦ None ]) (sym e)
  token_lem false e = ap (λ x. elim x [ true ↦ Some (behind w s i) | false ↦ None ]) (sym e)

  pub token_apart : pointwise eqb w (take (length w) (drop (skip s i) s)) ≡ false → None ≡ token_at w s i
  token_apart e = token_lem false (ap (λ x. x && not (touches s (skip s i))) (sym (starts_with_lem w (drop (skip s i) s)) ∙ e))

  pub token_touches : touches s (skip s i) ≡ true → None ≡ token_at w s i
  token_touches t = token_lem false (grind (arith, t))

  pub token_stands : pointwise eqb w (take (length w) (drop (skip s i) s)) ≡ true → touches s (skip s i) ≡ false → Some (behind w s i) ≡ token_at w s i
  token_stands e t = token_lem true (ap₂ (λ x y. x && not y) (sym (starts_with_lem w (drop (skip s i) s)) ∙ e) t)

  pub token_missed : None ≡ token_at w s i → stands w s i ≡ false
  unfolding token_at
  token_missed e = by (stands w s i) e
    where
      by : (x : Bool) → ◌≡◌ {A = Option ℕ} None (elim x [ true ↦ Some (behind w s i) | false ↦ None ]) → x ≡ false
      by true f = absurd (none-some (behind w s i) f)
      by false f = refl

  pub token_taken : (j : ℕ) → Some j ≡ token_at w s i → (stands w s i ≡ true) × (j ≡ behind w s i)
  unfolding token_at
  token_taken j e = by (stands w s i) e
    where
      by : (x : Bool) → Some j ≡ elim x [ true ↦ Some (behind w s i) | false ↦ None ] → (x ≡ true) × (j ≡ behind w s i)
      by true f = (refl, same_Some _ _ f)
      by false f = absurd (none-some j (sym f))

  -- the same behind the white space in front
  pub token_skip : token_at w s (skip s i) ≡ token_at w s i
  unfolding token_at stands
  token_skip =
      let at : ℕ → Option ℕ = λ k. elim (starts_with w (drop k s) && not (touches s k)) [ true ↦ Some (k + length w) | false ↦ None ] in
      ap at (skip_skip s i)

pub ruleset token_steps = (token_apart, token_touches, token_stands, take_rest)

-- A byte.

module _ (b : ℕ) (s : List ℕ) (j : ℕ) where
  pub byte_apart : (byte_at s j ≡ b → ⊥) → None ≡ byte_from b s j
  unfolding byte_from
  byte_apart n = rw (byte_from, ne_eqb (byte_at s j) b n) refl

  pub byte_stands : byte_at s j ≡ b → Some (j + 1) ≡ byte_from b s j
  unfolding byte_from
  byte_stands e = rw (byte_from, eq-eqb (byte_at s j) b e) refl

  pub byte_missed : None ≡ byte_from b s j → byte_at s j ≡ b → ⊥
  byte_missed e q = none-some (j + 1) (e ∙ sym (byte_stands q))

  pub byte_taken : (k : ℕ) → Some k ≡ byte_from b s j → (byte_at s j ≡ b) × (k ≡ j + 1)
  unfolding byte_from
  byte_taken k e = by (eqb (byte_at s j) b) refl e
    where
      by : (x : Bool) → eqb (byte_at s j) b ≡ x → Some k ≡ elim x [ true ↦ Some (j + 1) | false ↦ None ] → (byte_at s j ≡ b) × (k ≡ j + 1)
      by true q f = (eqb-true (byte_at s j) b q, same_Some _ _ f)
      by false q f = absurd (none-some k (sym f))

pub ruleset byte_steps = (byte_apart, byte_stands, byte_within)

-- A number.

module _ (s : List ℕ) (i : ℕ) where
  number_lem : (x y : Bool) → digit (byte_at s (skip s i)) ≡ x → (eqb (byte_at s (skip s i)) 0x30 && digit (byte_at s (skip s i + 1))) ≡ y
      → elim x [ true ↦ elim y [ true ↦ none | false ↦ digits_at s (skip s i) ] | false ↦ none ] ≡ number_at s i
  unfolding number_at
  number_lem x y a b =
      let at : Bool → Bool → Number = λ v w. elim v [ true ↦ elim w [ true ↦ none | false ↦ digits_at s (skip s i) ] | false ↦ none ] in
      sym (ap₂ at a b)

  pub number_missing : digit (byte_at s (skip s i)) ≡ false → None ≡ capped (number_at s i)
  number_missing a = ap capped (number_lem false _ a refl)

  pub number_zero : digit (byte_at s (skip s i)) ≡ true → (eqb (byte_at s (skip s i)) 0x30 && digit (byte_at s (skip s i + 1))) ≡ true
      → None ≡ capped (number_at s i)
  number_zero a b = ap capped (number_lem true true a b)

  pub number_read : digit (byte_at s (skip s i)) ≡ true → (eqb (byte_at s (skip s i)) 0x30 && digit (byte_at s (skip s i + 1))) ≡ false
      → (v n : ℕ) → v ≡ min (value 0 (drop (skip s i) s)) 1000 → n ≡ digits (drop (skip s i) s) → Some (v, skip s i + n) ≡ capped (number_at s i)
  number_read a b v n e f =
      let held : ℕ → ℕ → ℕ × ℕ = λ v n. (v, skip s i + n) in
      ap Some (ap₂ held e f) ∙ ap capped (number_lem true false a b)

  pub number_forward : digit (byte_at s (skip s i)) ≡ true → (n : ℕ) → n ≡ digits (drop (skip s i) s) → i + 1 ≤ skip s i + n
  number_forward a n f = omega (arith, f, digits_on s (skip s i) a, skip_from s i)

pub ruleset number_steps = (number_missing, number_zero, number_read, number_forward, take_rest)

-- A name, whose bytes begin at place j.

module _ (s : List ℕ) (i : ℕ) where
  pub name_missing : None ≡ token_at (0x22 ∷ []) s i → None ≡ name_at s i
  name_missing e = rw (← e) refl

  module _ (j : ℕ) (e : Some j ≡ token_at (0x22 ∷ []) s i) where
    pub name_open : (byte_at s (j + name_bytes (drop j s)) ≡ 0x22 → ⊥) → None ≡ name_at s i
    unfolding name_from
    name_open n = rw (← e, name_from, ne_eqb (byte_at s (j + name_bytes (drop j s))) 0x22 n) refl

    pub name_closed : byte_at s (j + name_bytes (drop j s)) ≡ 0x22 → Some (j + name_bytes (drop j s) + 1) ≡ name_at s i
    unfolding name_from
    name_closed q = rw (← e, name_from, eq-eqb (byte_at s (j + name_bytes (drop j s))) 0x22 q) refl

pub ruleset name_steps = (name_missing, name_open, name_closed, byte_within, take_rest)
