-- The states of a set, one after the other: the lowest is found byte by byte, and the word and one less have in common the states above it;
-- and the states below n. Assumes nothing.
use mathlib.Core.Path.{◌≡◌, refl, sym, ap, ap₂, subst, ◌∙◌}
use mathlib.Core.Bool.{Bool, true, false, ◌&&◌}
use mathlib.Core.List.{List, [], ◌∷◌}
use Prim.Native.Nat.{ℕ, zero, suc, ◌+◌, ◌*◌, ◌/◌, ◌%◌, ◌^◌, ◌-◌, ◌≤◌, ◌<◌}
use native.Mathlib.Nat.{lt_of_not-le, mod-lt, pow-le-pow_right, div-eq_of_lt}
use native.Mathlib.Omega.{arith}
use lib.Bits.{bit_and}
use lib.Dec.{eqb}
use lib.ListN.{length}
use lib.Pow.{pow_pos, shr-shr}
use borrow.Author.Tests.{eqb-true, eqb-false}
use Rattle.std.proofs.Common.{Some}
use Rattle.std.specs.Iterator.{MakesProgress, item_count}
use Rattle.std.specs.Prelude.{All}
use Rattle.std.proofs.lemmas.List.Elements.{All-nil, All-cons}
use Rattle.std.proofs.lemmas.Nat.{div-add-mod'}
use Rattle.automaton.specs.Ranges.{next_from, those}
use Rattle.automaton.specs.Sets.{bit, least_member}
use Rattle.automaton.proofs.Booleans.{clash}
use Rattle.automaton.proofs.Bits.{bit_of_and, bit_zero, bit_half, bit_first}
use Rattle.automaton.proofs.Lists.{those_next, those_here}
use Rattle.automaton.proofs.Members.{next_in_byte, next_past_byte, those_same}
use Rattle.automaton.proofs.Ranges.{next_to, next_holds, next_before, next_none}
use Rattle.relations.proofs.Rows.{even_word, bits_none, bit_low}

-- Lists.

-- the first of the members, and the others as those of the test without it
those_first : (f g : ℕ → Bool) (n q : ℕ) → q < n → q ≡ next_from f (n - 0) 0 → f q ≡ true → ((k : ℕ) → k < q + 1 → g k ≡ false)
    → ((k : ℕ) → q < k → f k ≡ g k) → those f n 0 ≡ q ∷ those g n 0
those_first f g n q h e here none above =
    whole f
    ∙ those_next f n n 0 (omega arith)
    ∙ ap (λ (k : ℕ). those f (n - k) k) (sym e)
    ∙ those_here f n q h here
    ∙ ap (λ (l : List ℕ). q ∷ l) (those_same f g (n - (q + 1)) (q + 1) (λ k l _. above k (omega arith)) ∙ sym later)
  where
    whole : (t : ℕ → Bool) → those t n 0 ≡ those t (n - 0) 0
    whole t = let z : n ≡ n - 0 = omega arith in ap (λ (m : ℕ). those t m 0) z

    later : those g n 0 ≡ those g (n - (q + 1)) (q + 1)
    later =
        whole g
        ∙ those_next g (q + 1) n 0 (omega arith)
        ∙ ap (λ (k : ℕ). those g (n - k) k) (next_none g (q + 1) 0 (omega arith) (λ k _ l. none k l))

those_none : (f : ℕ → Bool) (m i : ℕ) → ((k : ℕ) → i ≤ k → f k ≡ false) → those f m i ≡ []
unfolding those
those_none f zero i none = refl
those_none f (suc m) i none =
    ap (λ (b : Bool). elim b [ true ↦ i ∷ those f m (suc i) | false ↦ those f m (suc i) ]) (none i (omega arith))
    ∙ those_none f m (suc i) (λ k l. none k (omega arith))

-- where no member is at n or above, those are all
those_cut : (f g : ℕ → Bool) (n m i : ℕ) → n ≤ m → ((k : ℕ) → i ≤ k → k < i + n → f k ≡ g k) → ((k : ℕ) → i + n ≤ k → f k ≡ false)
    → those f m i ≡ those g n i
unfolding those
those_cut f g zero m i h e none = those_none f m i (λ k l. none k (omega arith))
those_cut f g (suc n) zero i h e none = absurd (omega arith)
those_cut f g (suc n) (suc m) i h e none =
    ap₂ (λ (b : Bool) (l : List ℕ). elim b [ true ↦ i ∷ l | false ↦ l ]) (e i (omega arith) (omega arith))
    (those_cut f g n m (suc i) (omega arith) (λ k l u. e k (omega arith) (omega arith)) (λ k l. none k (omega arith)))

-- those over the numbers below n are below n
those_below : (f : ℕ → Bool) (n m i : ℕ) → m + i ≤ n → All (λ (q : ℕ). q < n) (those f m i)
unfolding those
those_below f n zero i h = All-nil (λ (q : ℕ). q < n)
those_below f n (suc m) i h = go (f i) (those_below f n m (suc i) (omega arith))
  where
    go : (b : Bool) → All (λ (q : ℕ). q < n) (those f m (suc i)) → All (λ (q : ℕ). q < n) (elim b [ true ↦ i ∷ those f m (suc i) | false ↦ those f m (suc i) ])
    go true a = All-cons (λ (q : ℕ). q < n) i (those f m (suc i)) (omega arith) a
    go false a = a

pub all_below : (f : ℕ → Bool) (n : ℕ) → All (λ (q : ℕ). q < n) (those f n 0)
all_below f n = those_below f n n 0 (omega arith)

-- The least state, byte by byte.

-- byte b of a word has the states from b * 8 on
bit_in_byte : (w b k : ℕ) → k < 8 → bit w (b * 8 + k) ≡ bit (w / 2 ^ (b * 8) % 256) k
bit_in_byte w b k h =
    let x = w / 2 ^ (b * 8) in
    let e : x ≡ x / 256 * 2 ^ 8 + x % 256 = omega arith in
    ap (λ (y : ℕ). eqb (y % 2) 1) (sym (shr-shr w (b * 8) k)) ∙ ap (λ (y : ℕ). bit y k) e ∙ bit_low 8 (x / 256) (x % 256) k h

module _ (w b m : ℕ) (inside : b < 4) (least : m ≡ least_member (w / 2 ^ (b * 8) % 256)) where
  pub least_in_byte : m < 8 → next_from (bit w) (32 - b * 8) (b * 8) ≡ b * 8 + m
  least_in_byte l = next_in_byte (bit w) b (w / 2 ^ (b * 8) % 256) m least (bit_in_byte w b) 32 (omega arith) l

  pub least_past_byte : 8 ≤ m → next_from (bit w) (32 - b * 8) (b * 8) ≡ next_from (bit w) (32 - (b + 1) * 8) ((b + 1) * 8)
  least_past_byte l =
      next_past_byte (bit w) b (w / 2 ^ (b * 8) % 256) m least (bit_in_byte w b) 32 ((b + 1) * 8) (omega arith) (omega arith) l

  -- where the byte has one
  pub least_inside : (m ≡ 8 → ⊥) → m < 8
  unfolding least_member
  least_inside h =
      lt_of_not-le (λ l. h (omega (arith, least, next_to (bit (w / 2 ^ (b * 8) % 256)) 8 0)))

pub least_end : (w b : ℕ) → b ≤ 4 → 4 ≤ b → next_from (bit w) (32 - b * 8) (b * 8) ≡ 32
least_end w b l h = next_none (bit w) 32 (b * 8) (omega arith) (λ k p q. absurd (omega arith))

-- a word that is not 0 has a least state
pub least_there : (w q : ℕ) → w < 2 ^ 32 → (w ≡ 0 → ⊥) → q ≡ next_from (bit w) 32 0 → (q < 32) × (bit w q ≡ true)
least_there w q h n e = (below, ap (bit w) e ∙ next_holds (bit w) 32 0 (subst (λ (x : ℕ). x < 32) e below))
  where
    below : q < 32
    below =
        lt_of_not-le (λ m. n (bits_none 32 w h (λ i l. next_before (bit w) 32 0 i (omega arith)
        (subst (λ (x : ℕ). i < x) e (omega arith)))))

-- Words.

-- one less than a word: its lowest bit is not set any more, and those above are the same
less_one : (q w : ℕ) → bit w q ≡ true → ((k : ℕ) → k < q → bit w k ≡ false)
    → (bit (w - 1) q ≡ false) × ((k : ℕ) → q < k → bit (w - 1) k ≡ bit w k)
less_one zero w e none = (bit_first (w - 1) ∙ ap (λ (x : ℕ). eqb x 1) even, above)
  where
    odd : w % 2 ≡ 1
    odd = eqb-true (w % 2) 1 (sym (bit_first w) ∙ e)

    even : (w - 1) % 2 ≡ 0
    even = omega (arith, odd)

    half : (w - 1) / 2 ≡ w / 2
    half = omega (arith, odd)

    above : (k : ℕ) → 0 < k → bit (w - 1) k ≡ bit w k
    above zero h = absurd (omega arith)
    above (suc k) h = bit_half (w - 1) k ∙ ap (λ (x : ℕ). bit x k) half ∙ sym (bit_half w k)
less_one (suc q) w e none = go (less_one q (w / 2) (sym (bit_half w q) ∙ e) (λ k h. sym (bit_half w k) ∙ none (suc k) (omega arith)))
  where
    even : w % 2 ≡ 0
    even = even_word w (none 0 (omega arith))

    some : 0 < w
    some = lt_of_not-le (λ h. let z : w ≡ 0 = omega arith in clash e (ap (λ (x : ℕ). bit x (suc q)) z ∙ bit_zero (suc q)))

    half : (k : ℕ) → bit (w - 1) (suc k) ≡ bit (w / 2 - 1) k
    half k = bit_half (w - 1) k ∙ ap (λ (x : ℕ). bit x k) (omega (arith, even, some))

    go : (bit (w / 2 - 1) q ≡ false) × ((k : ℕ) → q < k → bit (w / 2 - 1) k ≡ bit (w / 2) k)
        → (bit (w - 1) (suc q) ≡ false) × ((k : ℕ) → suc q < k → bit (w - 1) k ≡ bit w k)
    go ih = (half q ∙ ih.0, above)
      where
        above : (k : ℕ) → suc q < k → bit (w - 1) k ≡ bit w k
        above zero h = absurd (omega arith)
        above (suc k) h = half k ∙ ih.1 k (omega arith) ∙ sym (bit_half w k)

-- the word without its lowest bit
module _ (w q : ℕ) (here : bit w q ≡ true) (none : (k : ℕ) → k < q → bit w k ≡ false) where
  without_below : (k : ℕ) → k < q + 1 → bit (bit_and w (w - 1)) k ≡ false
  without_below k h = bit_of_and w (w - 1) k ∙ go (eqb k q) refl
    where
      and_false : (c : Bool) → (c && false) ≡ false
      and_false true = refl
      and_false false = refl

      go : (c : Bool) → eqb k q ≡ c → (bit w k && bit (w - 1) k) ≡ false
      go true d =
          ap (λ (c : Bool). bit w k && c) (ap (bit (w - 1)) (eqb-true k q d) ∙ (less_one q w here none).0) ∙ and_false (bit w k)
      go false d =
          let l : k < q = lt_of_not-le (λ m. eqb-false k q d (omega arith)) in
          ap (λ (c : Bool). c && bit (w - 1) k) (none k l)

  without_above : (k : ℕ) → q < k → bit w k ≡ bit (bit_and w (w - 1)) k
  without_above k h =
      sym (bit_of_and w (w - 1) k ∙ ap (λ (c : Bool). bit w k && c) ((less_one q w here none).1 k h) ∙ and_self (bit w k))
    where
      and_self : (c : Bool) → (c && c) ≡ c
      and_self true = refl
      and_self false = refl

-- the next state
pub next_of_word : (w q : ℕ) → w < 2 ^ 32 → (w ≡ 0 → ⊥) → q ≡ next_from (bit w) 32 0
    → those (bit w) 32 0 ≡ q ∷ those (bit (bit_and w (w - 1))) 32 0
next_of_word w q h z e =
    let l = least_there w q h z e in
    those_first (bit w) (bit (bit_and w (w - 1))) 32 q l.0 e l.1 (without_below w q l.1 before) (without_above w q l.1 before)
  where
    before : (k : ℕ) → k < q → bit w k ≡ false
    before k l = next_before (bit w) 32 0 k (omega arith) (subst (λ (x : ℕ). k < x) e l)

pub none_of_word : (w : ℕ) → w ≡ 0 → those (bit w) 32 0 ≡ []
none_of_word w e = those_none (bit w) 32 0 (λ k _. ap (λ (x : ℕ). bit x k) e ∙ bit_zero k)

-- the states below n
pub below_of_word : (w n : ℕ) → n ≤ 32 → those (bit (w % 2 ^ n)) 32 0 ≡ those (bit w) n 0
below_of_word w n h = those_cut (bit (w % 2 ^ n)) (bit w) n 32 0 h (λ k _ l. kept k (omega arith)) (λ k l. cut k (omega arith))
  where
    kept : (k : ℕ) → k < n → bit (w % 2 ^ n) k ≡ bit w k
    kept k l = sym (ap (λ (x : ℕ). bit x k) (sym (div-add-mod' w (2 ^ n))) ∙ bit_low n (w / 2 ^ n) (w % 2 ^ n) k l)

    cut : (k : ℕ) → n ≤ k → bit (w % 2 ^ n) k ≡ false
    cut k l =
        let p : 2 ^ n ≤ 2 ^ k = pow-le-pow_right (omega arith) {i = n} {j = k} l in
        let m : w % 2 ^ n < 2 ^ n = mod-lt w (pow_pos n) in
        ap (λ (x : ℕ). eqb (x % 2) 1) (div-eq_of_lt (omega arith))

-- a state more is given, and the rest is shorter
pub goes : (can : List ℕ → Type 0) → ((l : List ℕ) → can l) → (s t : List ℕ) (x : ℕ) → s ≡ x ∷ t
    → MakesProgress can (item_count (λ left. left)) s (Some x) t
goes can always s t x e = record {
  on = λ _. (always t, tt, subst (λ (l : List ℕ). length t < length l) (sym e) (omega arith));
  keeps = always t;
  rests = λ _. tt;
}
