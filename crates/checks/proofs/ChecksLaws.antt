-- Laws of checks in order: where every row of a table has at most one answer, the first row whose condition holds decides one answer;
-- a table in two parts is decided by the first part, or by the second where no row of the first applies. Assumes nothing.
use mathlib.Core.Path.{◌≡◌, refl, sym, subst, ◌∙◌}
use mathlib.Core.Bool.{Bool, true, false, cond}
use mathlib.Core.Logic.{◌⊎◌, inl, inr, ◌↔◌}
use mathlib.Core.List.{List, [], ◌∷◌, ◌++◌}
use Prim.Native.Nat.{ℕ, zero, suc, ◌+◌, ◌≤◌}
use native.Mathlib.Nat.{add-zero, zero-add, add-suc, suc-add, le_of_suc-le-suc, not-suc-le-zero}
use lib.Dec.{T}
use lib.ListN.{take}
use Rattle.automaton.proofs.Booleans.{is_true}
use Rattle.automaton.specs.declared.Automaton.{Automaton}
use Rattle.format.specs.File.{Read, refused, holds}
use Rattle.checks.specs.Checks.{Row, First, None, At, on_read}

-- a test that decides a condition, where it passes and where it does not
pub test_true : {P : Type 0} (c : Bool) → T c ↔ P → c ≡ true → P
test_true c i e = i.0 (is_true c e)

pub test_false : {P : Type 0} (c : Bool) → T c ↔ P → c ≡ false → P → ⊥
test_false c i e p = subst T e (i.1 p)

-- what a check leads to has P: by its condition, and by what the file holds
module _ {X : Type 0} (P : X → Type 0) where
  pub by_test : (c : Bool) (x y : X) → (c ≡ true → P x) → (c ≡ false → P y) → P (cond c x y)
  by_test true x y h k = h refl
  by_test false x y h k = k refl

  pub by_read : (r : Read) (stop : ℕ → X) (go : Automaton → X) → ((n : ℕ) → r ≡ refused n → P (stop n))
      → ((A : Automaton) → r ≡ holds A → P (go A)) → P (on_read r stop go)
  by_read (refused n) stop go h k = h n refl
  by_read (holds A) stop go h k = k A refl

-- every row has at most one answer
abbrev pub Functional : {X : Type 0} → List (Row X) → Type 0
Functional {X} [] = Unit {0}
Functional {X} (P ∷ rows) = ((x y : X) → P x → P y → x ≡ y) × Functional rows

-- a row whose condition determines its numbers has at most one answer
pub same_number : {m n k : ℕ} → m ≡ k → n ≡ k → m ≡ n
same_number d e = d ∙ sym e

pub same_answer : {X : Type 0} (answer : ℕ → X) {m n : ℕ} {x y : X} → m ≡ n → x ≡ answer m → y ≡ answer n → x ≡ y
same_answer answer h d e = cc

pub same_answer₂ : {X : Type 0} (answer : ℕ → ℕ → X) {k l m n : ℕ} {x y : X} → k ≡ l → m ≡ n → x ≡ answer k m → y ≡ answer l n → x ≡ y
same_answer₂ answer g h d e = cc

pub same_answer₃ : {X : Type 0} (answer : ℕ → ℕ → ℕ → X) {i j k l m n : ℕ} {x y : X} → i ≡ j → k ≡ l → m ≡ n
    → x ≡ answer i k m → y ≡ answer j l n → x ≡ y
same_answer₃ answer f g h d e = cc

-- one row more
pub also : {F G : Type 0} → F → G → F × G
also p rest = (p, rest)

-- the row does not apply, and a later one decides
pub later : {P N F : Type 0} → N → F → P ⊎ (N × F)
later h rest = inr (h, rest)

pub first_unique : {X : Type 0} (rows : List (Row X)) → Functional rows → (x y : X) → First rows x → First rows y → x ≡ y
first_unique [] h x y p q = absurd p
first_unique (P ∷ rows) h x y (inl p) (inl q) = h.0 x y p q
first_unique (P ∷ rows) h x y (inl p) (inr q) = absurd (q.0 x p)
first_unique (P ∷ rows) h x y (inr p) (inl q) = absurd (p.0 y q)
first_unique (P ∷ rows) h x y (inr p) (inr q) = first_unique rows h.1 x y p.1 q.1

-- a call whose answer is that of the first row: it answers x exactly when x is that answer
pub first_answer : {X : Type 0} (rows : List (Row X)) → Functional rows → (answer : X) → First rows answer → (x : X)
    → (answer ≡ x) ↔ First rows x
first_answer {X} rows h answer p x =
    (λ e. subst (λ (y : X). First rows y) e p, λ q. first_unique rows h answer x p q)

-- no row applies where the first one that does is known not to be
pub none_first : {X : Type 0} (rows : List (Row X)) (x : X) → None rows → First rows x → ⊥
none_first [] x h p = p
none_first (P ∷ rows) x h (inl p) = h.0 x p
none_first (P ∷ rows) x h (inr p) = none_first rows x h.1 p.1

-- nor any of the first k rows where none of the first m does
pub none_fewer : {X : Type 0} (k m : ℕ) (rows : List (Row X)) → k ≤ m → None (take m rows) → None (take k rows)
none_fewer zero m rows l h = tt
none_fewer (suc k) m [] l h = tt
none_fewer (suc k) zero (P ∷ rows) l h = absurd (not-suc-le-zero l)
none_fewer (suc k) (suc m) (P ∷ rows) l h = (h.0, none_fewer k m rows (le_of_suc-le-suc l) h.1)

pub first_append_cases : {X : Type 0} (rows more : List (Row X)) (x : X) → First (rows ++ more) x
    → First rows x ⊎ (None rows × First more x)
first_append_cases [] more x p = inr (tt, p)
first_append_cases (P ∷ rows) more x (inl p) = inl (inl p)
first_append_cases {X} (P ∷ rows) more x (inr p) = go (first_append_cases rows more x p.1)
  where
    go : First rows x ⊎ (None rows × First more x)
        → (P x ⊎ (((y : X) → P y → ⊥) × First rows x)) ⊎ ((((y : X) → P y → ⊥) × None rows) × First more x)
    go (inl q) = inl (inr (p.0, q))
    go (inr q) = inr ((p.0, q.0), q.1)

-- Q holds of every row's answer
abbrev pub Every : {X : Type 0} → (X → Type 0) → List (Row X) → Type 0
Every {X} Q [] = Unit {0}
Every {X} Q (P ∷ rows) = ((x : X) → P x → Q x) × Every Q rows

pub first_every : {X : Type 0} (Q : X → Type 0) (rows : List (Row X)) → Every Q rows → (x : X) → First rows x → Q x
first_every Q [] h x p = absurd p
first_every Q (P ∷ rows) h x (inl p) = h.0 x p
first_every Q (P ∷ rows) h x (inr p) = first_every Q rows h.1 x p.1

-- the answer of each row, from place i on, has the row's place
abbrev pub Placed : {X : Type 0} → (X → ℕ) → ℕ → List (Row X) → Type 0
Placed {X} place i [] = Unit {0}
Placed {X} place i (P ∷ rows) = ((x : X) → P x → place x ≡ i) × Placed place (suc i) rows

first_place : {X : Type 0} (place : X → ℕ) (i : ℕ) (rows : List (Row X)) → Placed place i rows → (x : X) → First rows x
    → (k : ℕ) × (place x ≡ k + i) × None (take k rows) × At k rows x
first_place place i [] h x p = absurd p
first_place place i (P ∷ rows) h x (inl p) = (0, h.0 x p ∙ sym (zero-add i), tt, p)
first_place {X} place i (P ∷ rows) h x (inr p) = go (first_place place (suc i) rows h.1 x p.1)
  where
    go : (k : ℕ) × (place x ≡ k + suc i) × None (take k rows) × At k rows x
        → (k : ℕ) × (place x ≡ k + i) × None (take k (P ∷ rows)) × At k (P ∷ rows) x
    go r = (suc r.0, r.1 ∙ (add-suc r.0 i ∙ sym (suc-add r.0 i)), (p.0, r.2), r.3)

at_first : {X : Type 0} (k : ℕ) (rows : List (Row X)) (x : X) → None (take k rows) → At k rows x → First rows x
at_first k [] x h p = absurd p
at_first zero (P ∷ rows) x h p = inl p
at_first (suc k) (P ∷ rows) x h p = inr (h.0, at_first k rows x h.1 p)

-- the first row that applies has the answer x exactly when the condition of the row of x holds and no earlier row's does
pub first_at : {X : Type 0} (place : X → ℕ) (rows : List (Row X)) → Placed place 0 rows → (x : X)
    → First rows x ↔ (None (take (place x) rows) × At (place x) rows x)
first_at {X} place rows h x = (
  λ p. go (first_place place 0 rows h x p),
  λ p. at_first (place x) rows x p.0 p.1,
)
  where
    go : (k : ℕ) × (place x ≡ k + 0) × None (take k rows) × At k rows x → None (take (place x) rows) × At (place x) rows x
    go r = subst (λ (k : ℕ). None (take k rows) × At k rows x) (sym (r.1 ∙ add-zero r.0)) (r.2, r.3)
