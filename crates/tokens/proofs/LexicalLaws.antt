-- The computed tokens, numbers and names are those of the lexical rules. Assumes nothing.
use mathlib.Core.Path.{◌≡◌, refl, sym, ap, ◌∙◌}
use mathlib.Core.Bool.{Bool, true, false, ◌&&◌, not}
use mathlib.Core.Logic.{◌↔◌}
use mathlib.Core.List.{List, [], ◌∷◌}
use Prim.Native.Nat.{ℕ, zero, suc, ◌+◌, ◌<◌}
use native.Mathlib.Nat.{lt_of_not-le}
use native.Mathlib.Numerals.{add-one}
use native.Mathlib.Omega.{arith}
use lib.Dec.{eqb}
use lib.ListN.{length, get_or, drop, drop_of_length-le}
use lib.Seq.{drop-cons}
use borrow.Author.Tests.{eqb-true, eq-eqb, not-true}
use Rattle.automaton.proofs.Booleans.{clash}
use Rattle.tokens.specs.Tokens.{white, skip, alphanumeric, digit, digits, value, name_bytes, touches, starts_with, stands, behind, Number, none, number, number_at}
use Rattle.tokens.specs.Lexical.{Run, BytesAt, no_byte, byte, IsToken, token, NoToken, IsByte, is_byte, NoByte, IsNumber, is_number, NoNumber, IsName, is_name}
use Rattle.tokens.proofs.Runs.{white_run, digit_run, name_run}

-- Tokens.

pub and_left : (x y : Bool) → (x && y) ≡ true → x ≡ true
and_left true y e = refl
and_left false y e = e

pub and_right : (x y : Bool) → (x && y) ≡ true → y ≡ true
and_right true y e = e
and_right false y e = clash e refl

pub starts_byte : (b : ℕ) (w s : List ℕ) (j : ℕ) → starts_with (b ∷ w) (drop j s) ≡ true → get_or s j 0 ≡ b
unfolding starts_with
starts_byte b w [] zero e = clash e refl
starts_byte b w [] (suc j) e = clash e refl
starts_byte b w (c ∷ s) zero e = sym (eqb-true b c (and_left (eqb b c) (starts_with w s) e))
starts_byte b w (c ∷ s) (suc j) e = starts_byte b w s j e

bytes_start : {s w : List ℕ} {a : ℕ} → BytesAt s w a → starts_with w (drop a s) ≡ true
unfolding starts_with
bytes_start no_byte = refl
bytes_start {s = s} (byte {b = b} {w = w} {i = a} h e x) =
    ap (starts_with (b ∷ w)) (drop-cons s a 0 h)
    ∙ ap (λ (c : Bool). c && starts_with w (drop (suc a) s)) (eq-eqb b (get_or s a 0) (sym e))
    ∙ ap (λ (n : ℕ). starts_with w (drop n s)) (sym (add-one a)) ∙ bytes_start x

start_bytes : (s w : List ℕ) (a : ℕ) → starts_with w (drop a s) ≡ true → BytesAt s w a
unfolding starts_with
start_bytes s [] a e = no_byte
start_bytes s (b ∷ w) a e =
    let h : a < length s = lt_of_not-le (λ l. clash e (ap (starts_with (b ∷ w)) (drop_of_length-le s l))) in
    byte h (starts_byte b w s a e) (start_bytes s w (a + 1)
    (ap (λ (n : ℕ). starts_with w (drop n s)) (add-one a)
    ∙ and_right (eqb b (get_or s a 0)) (starts_with w (drop (suc a) s)) (sym (ap (starts_with (b ∷ w)) (drop-cons s a 0 h)) ∙ e)))

and_true : {x y : Bool} → x ≡ true → y ≡ true → (x && y) ≡ true
and_true {y = y} a b = ap (λ (x : Bool). x && y) a ∙ b

not_and : (x y : Bool) → ((x ≡ true) × (y ≡ true) → ⊥) → not (x && y) ≡ true
not_and true true h = absurd (h (refl, refl))
not_and true false h = refl
not_and false y h = refl

pub token_lexical : (w s : List ℕ) (i j : ℕ) → ((stands w s i ≡ true) × (j ≡ behind w s i)) ↔ IsToken w s i j
unfolding stands
token_lexical w s i j = (to, from)
  where
    to : (stands w s i ≡ true) × (j ≡ behind w s i) → IsToken w s i j
    to x =
        let a = skip s i in
        token ((white_run s i a).1 refl) (start_bytes s w a (and_left (starts_with w (drop a s)) (not (touches s a)) x.0))
        (λ h. clash (and_true h.0 h.1) (not-true (touches s a) (and_right (starts_with w (drop a s)) (not (touches s a)) x.0))) x.1

    from : IsToken w s i j → (stands w s i ≡ true) × (j ≡ behind w s i)
    from (token {a = a} r b n q) =
        let e = (white_run s i a).0 r in (
          and_true (ap (λ (k : ℕ). starts_with w (drop k s)) (sym e) ∙ bytes_start b)
              (ap (λ (k : ℕ). not (touches s k)) (sym e) ∙ not_and (alphanumeric (get_or (0x20 ∷ s) a 0)) (alphanumeric (get_or s a 0)) n),
          q ∙ ap (λ (k : ℕ). k + length w) e,
        )

pub byte_lexical : (b : ℕ) (s : List ℕ) (i j : ℕ) → ((get_or s (skip s i) 0 ≡ b) × (j ≡ skip s i + 1)) ↔ IsByte b s i j
byte_lexical b s i j = (λ x. is_byte ((white_run s i (skip s i)).1 refl) x.0 x.1, from)
  where
    from : IsByte b s i j → (get_or s (skip s i) 0 ≡ b) × (j ≡ skip s i + 1)
    from (is_byte {a = a} r e q) =
        let f = (white_run s i a).0 r in (ap (λ (k : ℕ). get_or s k 0) (sym f) ∙ e, q ∙ ap (λ (k : ℕ). k + 1) f)

-- Numbers.

-- the number whose first digit stands at place a
abbrev number_from : List ℕ → ℕ → Number
number_from s a =
    elim (digit (get_or s a 0)) [
      | true ↦ elim (eqb (get_or s a 0) 0x30 && digit (get_or s (a + 1) 0)) [
        | true ↦ none
        | false ↦ number (value 0 (drop a s)) (a + digits (drop a s))
      ]
      | false ↦ none
    ]

false_of_not : (b : Bool) → (b ≡ true → ⊥) → b ≡ false
false_of_not true n = absurd (n refl)
false_of_not false n = refl

pub number_lexical : (s : List ℕ) (i v j : ℕ) → (number_at s i ≡ number v j) ↔ IsNumber s i v j
unfolding number_at
number_lexical s i v j = (to (skip s i) ((white_run s i (skip s i)).1 refl), from)
  where
    to : (a : ℕ) → Run (λ b. white b) s i a → number_from s a ≡ number v j → IsNumber s i v j
    to a r e = by (digit (get_or s a 0)) (eqb (get_or s a 0) 0x30 && digit (get_or s (a + 1) 0)) refl refl e
      where
        by : (x y : Bool) → digit (get_or s a 0) ≡ x → (eqb (get_or s a 0) 0x30 && digit (get_or s (a + 1) 0)) ≡ y → elim x [
          | true ↦ elim y [ true ↦ none | false ↦ number (value 0 (drop a s)) (a + digits (drop a s)) ]
          | false ↦ none
        ] ≡ number v j → IsNumber s i v j
        by true true d l f = absurd (let z : ◌≡◌ {A = ℕ} 0 1 = cc in omega arith)
        by true false d l f =
            let p : j ≡ a + digits (drop a s) = cc in
            let q : v ≡ value 0 (drop a s) = cc in
            is_number r d (λ h. clash (and_true (eq-eqb (get_or s a 0) 0x30 h.0) h.1) l) ((digit_run s a j).1 p) q
        by false y d l f = absurd (let z : ◌≡◌ {A = ℕ} 0 1 = cc in omega arith)

    from : IsNumber s i v j → number_at s i ≡ number v j
    from (is_number {a = a} r d l x q) =
        let t = eqb (get_or s a 0) 0x30 in
        let u = digit (get_or s (a + 1) 0) in
        ap (number_from s) (sym ((white_run s i a).0 r))
        ∙ ap (λ (x : Bool). elim x [ true ↦ elim (t && u) [ true ↦ none | false ↦ number (value 0 (drop a s)) (a + digits (drop a s)) ] | false ↦ none ]) d
        ∙ ap (λ (x : Bool). elim x [ true ↦ none | false ↦ number (value 0 (drop a s)) (a + digits (drop a s)) ])
        (false_of_not (t && u) (λ h. l (eqb-true (get_or s a 0) 0x30 (and_left t u h), and_right t u h)))
        ∙ ap (λ (n : ℕ). number n (a + digits (drop a s))) (sym q) ∙ ap (number v) (sym ((digit_run s a j).0 x))

-- Names.

-- the place behind the name's bytes, where its opening (0x22 ∷ []) stands past white space from i on
abbrev pub name_end : List ℕ → ℕ → ℕ
name_end s i = behind (0x22 ∷ []) s i + name_bytes (drop (behind (0x22 ∷ []) s i) s)

pub name_lexical : (s : List ℕ) (i j : ℕ) → ((stands (0x22 ∷ []) s i ≡ true) × (get_or s (name_end s i) 0 ≡ 0x22) × (j ≡ name_end s i + 1)) ↔ IsName s i j
name_lexical s i j = (to, from)
  where
    to : (stands (0x22 ∷ []) s i ≡ true) × (get_or s (name_end s i) 0 ≡ 0x22) × (j ≡ name_end s i + 1) → IsName s i j
    to x =
        is_name ((token_lexical (0x22 ∷ []) s i (behind (0x22 ∷ []) s i)).0 (x.0, refl)) ((name_run s (behind (0x22 ∷ []) s i) (name_end s i)).1 refl) x.1 x.2

    from : IsName s i j → (stands (0x22 ∷ []) s i ≡ true) × (get_or s (name_end s i) 0 ≡ 0x22) × (j ≡ name_end s i + 1)
    from (is_name {a = a} {b = b} x r e q) =
        let y = (token_lexical (0x22 ∷ []) s i a).1 x in
        let f : b ≡ name_end s i = (name_run s a b).0 r ∙ ap (λ (k : ℕ). k + name_bytes (drop k s)) y.1 in
        (y.0, ap (λ (k : ℕ). get_or s k 0) (sym f) ∙ e, q ∙ ap (λ (k : ℕ). k + 1) f)

-- Each of them stands or does not.

pub a_token : (w s : List ℕ) (i : ℕ) → stands w s i ≡ true → IsToken w s i (behind w s i)
a_token w s i e = (token_lexical w s i (behind w s i)).0 (e, refl)

pub no_token : (w s : List ℕ) (i : ℕ) → stands w s i ≡ false → NoToken w s i
no_token w s i e j x = clash ((token_lexical w s i j).1 x).0 e

pub token_stands : {w s : List ℕ} {i j : ℕ} → IsToken w s i j → stands w s i ≡ true
token_stands {w = w} {s = s} {i = i} {j = j} x = ((token_lexical w s i j).1 x).0

pub token_behind : {w s : List ℕ} {i j : ℕ} → IsToken w s i j → behind w s i ≡ j
token_behind {w = w} {s = s} {i = i} {j = j} x = sym ((token_lexical w s i j).1 x).1

pub no_token_stands : (w s : List ℕ) (i : ℕ) → NoToken w s i → stands w s i ≡ false
no_token_stands w s i n = false_of_not (stands w s i) (λ e. n (behind w s i) (a_token w s i e))

pub a_byte : (b : ℕ) (s : List ℕ) (i : ℕ) → get_or s (skip s i) 0 ≡ b → IsByte b s i (skip s i + 1)
a_byte b s i e = (byte_lexical b s i (skip s i + 1)).0 (e, refl)

pub byte_stands : {b : ℕ} {s : List ℕ} {i j : ℕ} → IsByte b s i j → get_or s (skip s i) 0 ≡ b
byte_stands {b = b} {s = s} {i = i} {j = j} x = ((byte_lexical b s i j).1 x).0

pub byte_behind : {b : ℕ} {s : List ℕ} {i j : ℕ} → IsByte b s i j → skip s i + 1 ≡ j
byte_behind {b = b} {s = s} {i = i} {j = j} x = sym ((byte_lexical b s i j).1 x).1

pub no_byte_iff : (b : ℕ) (s : List ℕ) (i : ℕ) → NoByte b s i ↔ (get_or s (skip s i) 0 ≡ b → ⊥)
no_byte_iff b s i = (λ n e. n (skip s i + 1) (a_byte b s i e), λ n j x. n (byte_stands x))

pub no_number_at : (s : List ℕ) (i : ℕ) → number_at s i ≡ none → NoNumber s i
no_number_at s i e v j x =
    let f : none ≡ number v j = sym e ∙ (number_lexical s i v j).1 x in
    let z : ◌≡◌ {A = ℕ} 0 1 = cc in omega arith

pub number_at_none : (s : List ℕ) (i : ℕ) → NoNumber s i → number_at s i ≡ none
number_at_none s i n = by (number_at s i) refl
  where
    by : (x : Number) → number_at s i ≡ x → x ≡ none
    by none e = refl
    by (number v j) e = absurd (n v j ((number_lexical s i v j).0 e))
