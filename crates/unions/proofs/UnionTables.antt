-- Tables of unions. Doubled entry by entry, a table has the unions of all choices; the entries that a word names four bits at a time have
-- together the union that the word chooses. Assumes nothing.
use mathlib.Core.Path.{◌≡◌, refl, sym, ap, ap₂, subst, ◌∙◌}
use mathlib.Core.Bool.{Bool, true, false, ◌&&◌, ◌||◌}
use mathlib.Core.List.{List, ◌++◌}
use Prim.Native.Nat.{ℕ, zero, suc, ◌+◌, ◌*◌, ◌/◌, ◌%◌, ◌^◌, ◌-◌, ◌≤◌, ◌<◌, min}
use native.Mathlib.Nat.{pow-suc, div-eq_of_lt, div-one, add-zero, add-suc, zero-add}
use native.Mathlib.Numerals.{add-one}
use native.Mathlib.Omega.{arith}
use lib.Bits.{bit_or}
use lib.Dec.{eqb, ltb}
use lib.ListN.{length, get_or, set, take, drop, length-set, length-take, length-drop, take-append-drop}
use lib.Pow.{shr-shr}
use lib.Seq.{ext_get_or, get_or-set_same, get_or-set_other, get_or-take, get_or-drop}
use borrow.Author.Tests.{ltb-true, ltb-false, lt-ltb, le-ltb}
use borrow.Rule.Slice.PartMut.{mid_of, put_mid}
use Rattle.std.proofs.Common.{take_all, append-nil}
use Rattle.std.proofs.lemmas.List.{drop-drop, drop_all}
use Rattle.automaton.specs.Ranges.{some, table}
use Rattle.automaton.specs.Sets.{bit}
use Rattle.automaton.proofs.Bits.{bit_zero, bit_of_or}
use Rattle.relations.specs.Rows.{changed_rows}
use Rattle.relations.proofs.Rows.{some_none, some_more, some_same, bit_low, bit_high, words_same, bit_with_row, SameElsewhere, changed_length, changed_row, changed_kept, changed_none, changed_joined, rows_changed}
use Rattle.unions.specs.Unions.{chosen, union_of, named, Choices, Unions, groups_where, groups_for, doubled, filled}

pub or_false : (b : Bool) → (b || false) ≡ b
or_false true = refl
or_false false = refl

or_regroup : (x y z : Bool) → ((x || y) || z) ≡ (x || (y || z))
or_regroup true y z = refl
or_regroup false y z = refl

some_append : (f : ℕ → Bool) (n m : ℕ) → some f (n + m) 0 ≡ (some f n 0 || some (λ b. f (n + b)) m 0)
some_append f n zero =
    ap (λ (k : ℕ). some f k 0) (add-zero n) ∙ sym (ap (λ (c : Bool). some f n 0 || c) (some_none _) ∙ or_false (some f n 0))
some_append f n (suc m) =
    ap (λ (k : ℕ). some f k 0) (add-suc n m ∙ sym (add-one (n + m)))
    ∙ some_more f (n + m)
    ∙ ap (λ (c : Bool). c || f (n + m)) (some_append f n m)
    ∙ or_regroup (some f n 0) (some (λ b. f (n + b)) m 0) (f (n + m))
    ∙ sym (ap (λ (c : Bool). some f n 0 || c) (ap (λ (k : ℕ). some (λ b. f (n + b)) k 0) (sym (add-one m)) ∙ some_more (λ b. f (n + b)) m))

-- Entries doubled.

-- the first n entries are followed by the same with the members of v besides
record Doubled (entries : List ℕ) (n v : ℕ) (entries' : List ℕ) : Type 0 where
  kept : SameElsewhere n n entries entries'
  made : (m : ℕ) → m < n → get_or entries' (n + m) 0 ≡ bit_or (get_or entries m 0) v

doubled_says : {entries' : List ℕ} (entries : List ℕ) (n v : ℕ) → n + n ≤ length entries → entries' ≡ doubled entries n v
    → Doubled entries n v entries'
doubled_says entries n v h e =
    subst (Doubled entries n v) (sym e) record { kept = changed_kept n n _ entries h; made = λ m l. changed_row n n _ entries h m l }

choices_begin : (entries values : List ℕ) → get_or entries 0 0 ≡ 0 → Choices entries values 0
choices_begin entries values e m q h =
    let l : m < 1 = h in
    let d : m ≡ 0 = omega arith in
    ap (λ (i : ℕ). bit (get_or entries i 0) q) d ∙ ap (λ (w : ℕ). bit w q) e ∙ bit_zero q ∙ sym (some_none _)

-- a number below 2 ^ k lacks bit k
bit_above : (m k : ℕ) → m < 2 ^ k → bit m k ≡ false
bit_above m k h = ap (λ (x : ℕ). eqb (x % 2) 1) (div-eq_of_lt h)

choices_double : (entries entries' values : List ℕ) (k v : ℕ) → v ≡ get_or values k 0
    → Choices entries values k → Doubled entries (2 ^ k) v entries' → Choices entries' values (suc k)
choices_double entries entries' values k v same c d m q h = go (ltb m (2 ^ k)) refl
  where
    test : ℕ → ℕ → Bool
    test w b = bit w b && bit (get_or values b 0) q

    more : (w : ℕ) (top : Bool) → bit w k ≡ top → chosen values (suc k) w q ≡ (chosen values k w q || (top && bit (get_or values k 0) q))
    more w top e =
        ap (λ (j : ℕ). some (test w) j 0) (sym (add-one k))
        ∙ some_more (test w) k
        ∙ ap (λ (b : Bool). chosen values k w q || (b && bit (get_or values k 0) q)) e

    past : (j : ℕ) → m ≡ 1 * 2 ^ k + j → bit (get_or entries' m 0) q ≡ chosen values (suc k) m q
    past j g =
        let l₀ : m < 2 ^ k * 2 = rw pow-suc at h in
        let l : j < 2 ^ k = omega arith in
        let i : m ≡ 2 ^ k + j = omega arith in
        let top : bit m k ≡ true =
        ap₂ bit g (sym (add-zero k)) ∙ bit_high k 1 j 0 l in
        let low : chosen values k j q ≡ chosen values k m q =
        some_same (test j) (test m) k (λ b hb. ap (λ (x : Bool). x && bit (get_or values b 0) q)
        (sym (ap (λ (w : ℕ). bit w b) g ∙ bit_low k 1 j b hb))) in
        ap (λ (x : ℕ). bit (get_or entries' x 0) q) i
        ∙ ap (λ (w : ℕ). bit w q) (d.made j l)
        ∙ bit_of_or (get_or entries j 0) v q
        ∙ ap₂ ◌||◌ (c j q l ∙ low) (ap (λ (w : ℕ). bit w q) same)
        ∙ sym (more m true top)

    go : (b : Bool) → ltb m (2 ^ k) ≡ b → bit (get_or entries' m 0) q ≡ chosen values (suc k) m q
    go true e =
        let l = ltb-true m (2 ^ k) e in
        ap (λ (w : ℕ). bit w q) (d.kept.before m l)
        ∙ c m q l
        ∙ sym (or_false (chosen values k m q))
        ∙ sym (more m false (bit_above m k l))
    go false e = past (m - 2 ^ k) (omega (arith, ltb-false m (2 ^ k) e))

-- Entries filled.

union_chosen : (values : List ℕ) (k m q : ℕ) → bit (union_of values k m) q ≡ chosen values k m q
unfolding union_of
union_chosen values zero m q = bit_zero q ∙ sym (some_none _)
union_chosen values (suc k) m q =
    bit_with_row (union_of values k m) m k (get_or values k 0) q
    ∙ ap (λ (c : Bool). c || (bit m k && bit (get_or values k 0) q)) (union_chosen values k m q)
    ∙ sym (some_more (λ b. bit m b && bit (get_or values b 0) q) k)
    ∙ ap (λ (j : ℕ). chosen values j m q) (add-one k)

-- the first entry 0 and the others doubled from it, by four values
pub four_filled : (t t₁ t₂ t₃ t₄ values : List ℕ) → 16 ≤ length t
    → length t₁ ≡ length t → length t₂ ≡ length t → length t₃ ≡ length t → length t₄ ≡ length t
    → t₁ ≡ doubled (set t 0 0) 1 (get_or values 0 0) → t₂ ≡ doubled t₁ 2 (get_or values 1 0)
    → t₃ ≡ doubled t₂ 4 (get_or values 2 0) → t₄ ≡ doubled t₃ 8 (get_or values 3 0)
    → t₄ ≡ filled t values 1
four_filled t t₁ t₂ t₃ t₄ values h l₁ l₂ l₃ l₄ e₁ e₂ e₃ e₄ =
    rows_changed 0 16 _ t (omega arith) t₄ l₄
    record {
      before = λ i l. absurd (omega arith);
      after = λ i l. d₄.kept.after i (omega arith) ∙ d₃.kept.after i (omega arith) ∙ d₂.kept.after i (omega arith)
          ∙ d₁.kept.after i (omega arith) ∙ get_or-set_other t 0 i 0 0 (λ e. omega arith);
    }
    (λ j l. words_same _ _ (λ q. entry j l q))
  where
    d₁ : Doubled (set t 0 0) 1 (get_or values 0 0) t₁
    d₁ = doubled_says (set t 0 0) 1 _ (omega (arith, length-set t 0 0)) e₁

    d₂ : Doubled t₁ 2 (get_or values 1 0) t₂
    d₂ = doubled_says t₁ 2 _ (omega arith) e₂

    d₃ : Doubled t₂ 4 (get_or values 2 0) t₃
    d₃ = doubled_says t₂ 4 _ (omega arith) e₃

    d₄ : Doubled t₃ 8 (get_or values 3 0) t₄
    d₄ = doubled_says t₃ 8 _ (omega arith) e₄

    c₂ : Choices t₂ values 2
    c₂ = choices_double t₁ t₂ values 1 _ refl
        (choices_double (set t 0 0) t₁ values 0 _ refl (choices_begin (set t 0 0) values (get_or-set_same t 0 0 0 (omega arith))) d₁) d₂

    c₄ : Choices t₄ values 4
    c₄ = choices_double t₃ t₄ values 3 _ refl (choices_double t₂ t₃ values 2 _ refl c₂ d₃) d₄

    entry : (j : ℕ) → j < 16 → (q : ℕ) → bit (get_or t₄ (0 + j) 0) q ≡ bit (union_of (drop (j / 16 * 4) values) 4 (j % 16)) q
    entry j l q =
        let d : 0 ≡ j / 16 * 4 = omega arith in
        let r : j ≡ j % 16 = omega arith in
        ap (λ (i : ℕ). bit (get_or t₄ i 0) q) (zero-add j)
        ∙ c₄ j q l
        ∙ sym (union_chosen values 4 j q)
        ∙ ap₂ (λ (i m : ℕ). bit (union_of (drop i values) 4 m) q) d r

-- no group filled, and one more, in what the table has behind the groups before
pub filled_none : (t values : List ℕ) → t ≡ filled t values 0
filled_none t values = sym (changed_none 0 _ t)

-- the 16 entries from place i on changed in the slice from there on
slice_changed : (i k : ℕ) (f : ℕ → ℕ) (t : List ℕ) → length t ≡ i + k → put_mid i k t (changed_rows 0 16 f (mid_of i k t)) ≡ changed_rows i 16 f t
unfolding changed_rows
slice_changed i k f t e =
    ap₂ (λ (l m : List ℕ). take i t ++ ((table f 16 0 ++ drop 16 l) ++ m)) (take_all k (drop i t) long) (drop_all k (drop i t) long)
    ∙ ap (λ (l : List ℕ). take i t ++ l) (append-nil (table f 16 0 ++ drop 16 (drop i t)))
    ∙ ap (λ (l : List ℕ). take i t ++ (table f 16 0 ++ l)) (drop-drop 16 i t)
  where
    long : length (drop i t) ≤ k
    long = omega (arith, length-drop i t)

pub filled_more : (t t' values ys : List ℕ) (g k l : ℕ) → 16 ≤ k → t' ≡ filled t values g → length t ≡ g * 16 + k
    → length values ≡ g * 4 + l → ys ≡ filled (mid_of (g * 16) k t') (mid_of (g * 4) l values) 1 → put_mid (g * 16) k t' ys ≡ filled t values (g + 1)
filled_more t t' values ys g k l h e n m d =
    ap (put_mid (g * 16) k t') (d ∙ ap (λ (vs : List ℕ). filled (mid_of (g * 16) k t') vs 1) (take_all l (drop (g * 4) values) (omega (arith, length-drop (g * 4) values))))
    ∙ slice_changed (g * 16) k group t' (ap length e ∙ changed_length 0 (g * 16) union t (omega arith) ∙ n)
    ∙ ap₂ (λ (i : ℕ) (x : List ℕ). changed_rows i 16 group x) (sym (zero-add (g * 16))) e
    ∙ changed_joined 0 (g * 16) union t 16 group (omega arith) same
    ∙ ap (λ (n : ℕ). changed_rows 0 n union t) (omega arith)
  where
    union : ℕ → ℕ
    union j = union_of (drop (j / 16 * 4) values) 4 (j % 16)

    group : ℕ → ℕ
    group j = union_of (drop (j / 16 * 4) (drop (g * 4) values)) 4 (j % 16)

    same : (j : ℕ) → j < 16 → group j ≡ union (g * 16 + j)
    same j l =
        let d : g * 4 + j / 16 * 4 ≡ (g * 16 + j) / 16 * 4 = omega arith in
        let r : j % 16 ≡ (g * 16 + j) % 16 = omega arith in
        ap (λ (vs : List ℕ). union_of vs 4 (j % 16)) (drop-drop (j / 16 * 4) (g * 4) values)
        ∙ ap₂ (λ (x y : ℕ). union_of (drop x values) 4 y) d r

-- what is filled are unions, and the entries behind stay
pub filled_unions : (t t' values : List ℕ) (groups : ℕ) → groups * 16 ≤ length t → t' ≡ filled t values groups
    → Unions t' values groups × SameElsewhere 0 (groups * 16) t t'
filled_unions t t' values groups fits e =
    subst (λ (x : List ℕ). Unions x values groups × SameElsewhere 0 (groups * 16) t x) (sym e) (entries, changed_kept 0 (groups * 16) union t (omega arith))
  where
    union : ℕ → ℕ
    union j = union_of (drop (j / 16 * 4) values) 4 (j % 16)

    entries : Unions (filled t values groups) values groups
    entries g h m q l =
        let small : m < 16 = l in
        let i : g * 16 + m ≡ 0 + (g * 16 + m) = omega arith in
        let d : (g * 16 + m) / 16 ≡ g = omega arith in
        let r : (g * 16 + m) % 16 ≡ m = omega arith in
        ap (λ (w : ℕ). bit w q) (get_or-drop (g * 16) (filled t values groups) m 0)
        ∙ ap (λ (x : ℕ). bit (get_or (filled t values groups) x 0) q) i
        ∙ ap (λ (w : ℕ). bit w q) (changed_row 0 (groups * 16) union t (omega arith) (g * 16 + m) (omega arith))
        ∙ ap₂ (λ (x y : ℕ). bit (union_of (drop (x * 4) values) 4 y) q) d r
        ∙ union_chosen (drop (g * 4) values) 4 m q

-- a table whose entries from place at on are unions, and whose others stay, is filled there
pub unions_filled : (t t' values : List ℕ) (at first groups : ℕ) → at + groups * 16 ≤ length t → length t' ≡ length t
    → Unions (drop at t') (drop first values) groups × SameElsewhere at (groups * 16) t t'
    → t' ≡ take at t ++ filled (drop at t) (drop first values) groups
unions_filled t t' values at first groups fits e u =
    sym (take-append-drop at t')
    ∙ ap₂ ◌++◌ front (rows_changed 0 (groups * 16) _ (drop at t) (omega (arith, length-drop at t)) (drop at t') behind kept (λ j h. words_same _ _ (λ q. entry j h q)))
  where
    front : take at t' ≡ take at t
    front = ext_get_or 0 (take at t') (take at t) (length-take at t' ∙ ap (min at) e ∙ sym (length-take at t))
        (λ j h.
        let l : j < at = omega (arith, length-take at t') in
        get_or-take at t' j 0 l ∙ u.1.before j l ∙ sym (get_or-take at t j 0 l))

    behind : length (drop at t') ≡ length (drop at t)
    behind = length-drop at t' ∙ ap (λ (n : ℕ). n - at) e ∙ sym (length-drop at t)

    kept : SameElsewhere 0 (groups * 16) (drop at t) (drop at t')
    kept = record {
      before = λ j h. absurd (omega arith);
      after = λ j h. get_or-drop at t' j 0 ∙ u.1.after (at + j) (omega arith) ∙ sym (get_or-drop at t j 0);
    }

    entry : (j : ℕ) → j < groups * 16 → (q : ℕ)
        → bit (get_or (drop at t') (0 + j) 0) q ≡ bit (union_of (drop (j / 16 * 4) (drop first values)) 4 (j % 16)) q
    entry j h q =
        let i : 0 + j ≡ j / 16 * 16 + j % 16 = omega arith in
        ap (λ (x : ℕ). bit (get_or (drop at t') x 0) q) i
        ∙ ap (λ (w : ℕ). bit w q) (sym (get_or-drop (j / 16 * 16) (drop at t') (j % 16) 0))
        ∙ u.0 (j / 16) (omega arith) (j % 16) q (omega arith)
        ∙ sym (union_chosen (drop (j / 16 * 4) (drop first values)) 4 (j % 16) q)

-- a table that changes behind its unions keeps them
pub unions_kept : (values : List ℕ) (at first : ℕ) (t t' : List ℕ) (groups at' n : ℕ) → at + groups * 16 ≤ at' → SameElsewhere at' n t t'
    → Unions (drop at t) (drop first values) groups → Unions (drop at t') (drop first values) groups
unions_kept values at first t t' groups at' n h k u g hg m q l =
    let l₁ : m < 16 = l in
    ap (λ (w : ℕ). bit w q)
    (get_or-drop (g * 16) (drop at t') m 0
    ∙ get_or-drop at t' (g * 16 + m) 0
    ∙ k.before (at + (g * 16 + m)) (omega arith)
    ∙ sym (get_or-drop (g * 16) (drop at t) m 0 ∙ get_or-drop at t (g * 16 + m) 0))
    ∙ u g hg m q l

-- Entries looked up.

pub low_bits : (w k b : ℕ) → b < k → (r : ℕ) → w ≡ w / 2 ^ k * 2 ^ k + r → bit r b ≡ bit w b
low_bits w k b h r e = sym (ap (λ (x : ℕ). bit x b) e ∙ bit_low k (w / 2 ^ k) r b h)

-- the union of m values, and that of the k values after them, which the higher bits choose
chosen_append : (values : List ℕ) (m k choice q : ℕ)
    → chosen values (m + k) choice q ≡ (chosen values m choice q || chosen (drop m values) k (choice / 2 ^ m) q)
chosen_append values m k choice q =
    some_append test m k ∙ ap (λ (c : Bool). some test m 0 || c) (some_same (λ b. test (m + b)) _ k (λ b h. at_bit b))
  where
    test : ℕ → Bool
    test t = bit choice t && bit (get_or values t 0) q

    at_bit : (b : ℕ) → test (m + b) ≡ (bit (choice / 2 ^ m) b && bit (get_or (drop m values) b 0) q)
    at_bit b =
        ap₂ (λ (x : Bool) (w : ℕ). x && bit w q) (sym (ap (λ (x : ℕ). eqb (x % 2) 1) (shr-shr choice m b)))
        (sym (get_or-drop m values b 0))

-- four bits
union_one : (entries values : List ℕ) (choice q : ℕ) → Choices entries values 4 → bit (get_or entries (choice % 16) 0) q ≡ chosen values 4 choice q
union_one entries values choice q c =
    let l : choice % 16 < 16 = omega arith in
    let w : choice ≡ choice / 16 * 16 + choice % 16 = omega arith in
    c (choice % 16) q l
    ∙ some_same _ (λ b. bit choice b && bit (get_or values b 0) q) 4
    (λ b h. ap (λ (x : Bool). x && bit (get_or values b 0) q) (low_bits choice 4 b h (choice % 16) w))

-- the entries that a word names in a table of unions have together what it chooses
pub named_chosen : (t values : List ℕ) (groups choice q : ℕ) → Unions t values groups → named t groups choice q ≡ chosen values (groups * 4) choice q
named_chosen t values zero choice q u = some_none _ ∙ sym (some_none _)
named_chosen t values (suc g) choice q u =
    ap (λ (k : ℕ). named t k choice q) (sym (add-one g))
    ∙ some_more (λ b. bit (get_or t (b * 16 + choice / 2 ^ (b * 4) % 16) 0) q) g
    ∙ ap₂ ◌||◌ (named_chosen t values g choice q (λ b h. u b (omega arith)))
    (ap (λ (w : ℕ). bit w q) (sym (get_or-drop (g * 16) t (choice / 2 ^ (g * 4) % 16) 0))
    ∙ union_one (drop (g * 16) t) (drop (g * 4) values) (choice / 2 ^ (g * 4)) q (u g (omega arith)))
    ∙ sym (chosen_append values (g * 4) 4 choice q)
    ∙ ap (λ (k : ℕ). chosen values k choice q) (omega arith)

-- Entries named group by group.

module _ (t : List ℕ) (choice q : ℕ) where
  pub named_none : bit 0 q ≡ named t 0 choice q
  named_none = bit_zero q ∙ sym (some_none _)

  pub named_more : (g w : ℕ) → bit w q ≡ named t g choice q
      → bit (bit_or w (get_or t (g * 16 + choice / 2 ^ (g * 4) % 16) 0)) q ≡ named t (g + 1) choice q
  named_more g w e =
      let v = get_or t (g * 16 + choice / 2 ^ (g * 4) % 16) 0 in
      bit_of_or w v q ∙ ap (λ (b : Bool). b || bit v q) e ∙ sym (some_more (λ i. bit (get_or t (i * 16 + choice / 2 ^ (i * 4) % 16) 0) q) g)

-- the entries of two tables, one behind the other
module _ (t : List ℕ) where
  named_append : (m k choice q : ℕ) → named t (m + k) choice q ≡ (named t m choice q || named (drop (m * 16) t) k (choice / 2 ^ (m * 4)) q)
  named_append m k choice q =
      some_append at m k ∙ ap (λ (c : Bool). some at m 0 || c) (some_same (λ g. at (m + g)) _ k (λ g h. behind g))
    where
      at : ℕ → Bool
      at g = bit (get_or t (g * 16 + choice / 2 ^ (g * 4) % 16) 0) q

      behind : (g : ℕ) → at (m + g) ≡ bit (get_or (drop (m * 16) t) (g * 16 + choice / 2 ^ (m * 4) / 2 ^ (g * 4) % 16) 0) q
      behind g =
          let i : (m + g) * 16 ≡ m * 16 + g * 16 = omega arith in
          let j : (m + g) * 4 ≡ m * 4 + g * 4 = omega arith in
          ap₂ (λ (x y : ℕ). bit (get_or t (x + choice / 2 ^ y % 16) 0) q) i j
          ∙ ap (λ (x : ℕ). bit (get_or t (m * 16 + g * 16 + x % 16) 0) q) (sym (shr-shr choice (m * 4) (g * 4)))
          ∙ ap (λ (x : ℕ). bit (get_or t x 0) q) (omega arith)
          ∙ ap (λ (w : ℕ). bit w q) (sym (get_or-drop (m * 16) t (g * 16 + choice / 2 ^ (m * 4) / 2 ^ (g * 4) % 16) 0))

  pub named_both : (m k choice left right q : ℕ) → bit left q ≡ named t m choice q
      → bit right q ≡ named (drop (m * 16) t) k (choice / 2 ^ (m * 4)) q → bit (bit_or left right) q ≡ named t (m + k) choice q
  named_both m k choice left right q e d = bit_of_or left right q ∙ ap₂ ◌||◌ e d ∙ sym (named_append m k choice q)

  pub named_one : (choice q : ℕ) → bit (get_or t (choice % 16) 0) q ≡ named t 1 choice q
  unfolding some
  named_one choice q =
      let i : choice % 16 ≡ 0 * 16 + choice % 16 = omega arith in
      ap (λ (x : ℕ). bit (get_or t x 0) q) i
      ∙ ap (λ (x : ℕ). bit (get_or t (0 * 16 + x % 16) 0) q) (sym (div-one choice))
      ∙ sym (or_false _)

-- The number of groups.

module _ (n : ℕ) where
  pub groups_two : n ≤ 8 → groups_for n ≡ 2
  unfolding groups_for
  groups_two h = ap (λ (b : Bool). groups_where b (ltb 16 n)) (le-ltb 8 n h)

  pub groups_four : 8 < n → n ≤ 16 → groups_for n ≡ 4
  unfolding groups_for
  groups_four h l = ap₂ groups_where (lt-ltb 8 n h) (le-ltb 16 n l)

  pub groups_eight : 16 < n → groups_for n ≡ 8
  unfolding groups_for
  groups_eight h = ap₂ groups_where (lt-ltb 8 n (omega arith)) (lt-ltb 16 n h)

  pub ruleset groups_where_n = (groups_two, groups_four, groups_eight)

  pub groups_enough : n ≤ 32 → (groups_for n ≤ 8) × (n ≤ groups_for n * 4)
  groups_enough h = go (ltb 8 n) (ltb 16 n) refl refl
    where
      go : (b c : Bool) → ltb 8 n ≡ b → ltb 16 n ≡ c → (groups_for n ≤ 8) × (n ≤ groups_for n * 4)
      go false c e d = let x = groups_two (ltb-false 8 n e) in (omega arith, omega (arith, ltb-false 8 n e))
      go true false e d =
          let l = ltb-false 16 n d in
          let x = groups_four (ltb-true 8 n e) l in
          (omega arith, omega arith)
      go true true e d = let x = groups_eight (ltb-true 16 n d) in (omega arith, omega arith)
