-- What calls of a function made: whether some number of a range passes a test, and the elements of an array. Assumes nothing.
use mathlib.Core.Path.{◌≡◌, refl, sym, ap, ap₂, subst, ◌∙◌}
use mathlib.Core.Bool.{Bool, true, false, ◌||◌}
use mathlib.Core.List.{List}
use mathlib.Core.Logic.{⊎_elim}
use Prim.Native.Nat.{ℕ, zero, suc, ◌+◌, ◌-◌, ◌≤◌, ◌<◌}
use native.Mathlib.Nat.{eq-or-lt_of_le}
use native.Mathlib.Numerals.{add-one}
use native.Mathlib.Omega.{arith}
use denote.Param.Members.{Mut}
use lib.ListN.{length, get_or, set}
use lib.Seq.{ext_get_or, get_or-set_same, get_or-set_other}
use Rattle.std.specs.declared.ops.Range.{Range}
use Rattle.std.specs.Prelude.{Option}
use Rattle.std.specs.Array.{IsFromFnResult, IsFromFnResultFrom}
use Rattle.std.specs.Fn.{Called}
use Rattle.std.specs.Iterator.{YieldsThen}
use Rattle.std.specs.List.{FoldsTo, list_any, range_with_len}
use Rattle.std.specs.Option.{MatchOption}
use Rattle.std.proofs.iter.Yields.{nat_range_steps}
use Rattle.std.proofs.lemmas.Iterator.{YieldsList-from_range}
use Rattle.std.proofs.lemmas.Iterator.Search.{any_from_yields_List}
use Rattle.automaton.specs.Ranges.{some, table}
use Rattle.automaton.proofs.Ranges.{table_at, length-table}

-- Ranges.

some_listed : (f : ℕ → Bool) (n i : ℕ) → list_any f (range_with_len i n) ≡ some f n i
unfolding some
some_listed f zero i = refl
some_listed f (suc n) i =
    ap (λ (k : ℕ). f i || list_any f (range_with_len k n)) (add-one i) ∙ ap (λ (b : Bool). f i || b) (some_listed f n (suc i))

-- `any` over the numbers from i on
pub some_from_any : {F : Type 0} {g : Mut F (ℕ × Unit {0}) Bool} {s : Range ℕ} (f : ℕ → Bool) (i j n : ℕ) (u : Range ℕ) (k : F) (r : Bool)
    → (xs : List ℕ) × (o : Option ℕ) × (h : F) × YieldsThen nat_range_steps s xs o u × FoldsTo (λ p x q. Called g p (x, tt) false q) k xs h
    × MatchOption o (r ≡ false) (λ x. (r ≡ true) × ((q : F) × Called g h (x, tt) true q))
    → s ≡ record { start = i; end = j } → j - i ≡ n
    → ((x : ℕ) (b : Bool) (q : F) → Called g k (x, tt) b q → (q ≡ k) × (b ≡ f x)) → r ≡ some f n i
some_from_any f i j n u k r ran e d calls = any_from_yields_List f u k r ran (YieldsList-from_range i j n e d) calls ∙ some_listed f n i

-- tests that agree from i on
pub some_same_from : (f g : ℕ → Bool) (n i : ℕ) → ((k : ℕ) → i ≤ k → f k ≡ g k) → some f n i ≡ some g n i
unfolding some
some_same_from f g zero i e = refl
some_same_from f g (suc n) i e = ap₂ ◌||◌ (e i (omega arith)) (some_same_from f g n (suc i) (λ k l. e k (omega arith)))

-- Arrays.

-- the elements of an array are as each call says of its result, where calls leave the function as it is
module _ {F B : Type 0} {g : Mut F (ℕ × Unit {0}) B} {f : F} (P : ℕ → B → Type 0)
    (calls : (x : ℕ) (y : B) (q : F) → Called g f (x, tt) y q → (q ≡ f) × P x y) where
  elements_made : (ys : List B) (d : B) (i n : ℕ) → IsFromFnResultFrom g f ys i n → (k : ℕ) → i ≤ k → k < i + n → P k (get_or ys k d)
  elements_made ys d i zero each k l u = absurd (omega arith)
  elements_made ys d i (suc n) each k l u =
      let c = calls i each.1 each.0 each.3 in
      let rest = elements_made ys d (i + 1) n (subst (λ (q : F). IsFromFnResultFrom g q ys (i + 1) n) c.0 each.4) k in
      ⊎_elim (λ e. subst (λ (j : ℕ). P j (get_or ys j d)) e (subst (P i) (sym (each.2.1 d)) c.1))
      (λ m. rest (omega arith) (omega arith)) (eq-or-lt_of_le l)

  pub array_each : (ys : List B) (d : B) (n : ℕ) → IsFromFnResult g f ys n → (k : ℕ) → k < n → P k (get_or ys k d)
  array_each ys d n r k h = elements_made ys d 0 n r.each k (omega arith) (omega arith)

-- elements written one after another: those below k are as P says, and the next is
pub each_more : {A : Type 0} (P : ℕ → A → Type 0) (d : A) (xs : List A) (k : ℕ) (x : A) → k < length xs
    → ((j : ℕ) → j < k → P j (get_or xs j d)) → P k x → (j : ℕ) → j < k + 1 → P j (get_or (set xs k x) j d)
each_more P d xs k x h below here j l =
    ⊎_elim (λ e. subst (λ (i : ℕ). P i (get_or (set xs k x) i d)) (sym e) (subst (P k) (sym (get_or-set_same xs k x d h)) here))
    (λ m. subst (P j) (sym (get_or-set_other xs k j x d (λ e. omega arith))) (below j (omega arith))) (eq-or-lt_of_le k_up)
  where
    k_up : j ≤ k
    k_up = omega arith

-- an array of what h gives
pub array_made : {F B : Type 0} {g : Mut F (ℕ × Unit {0}) B} {f : F} (h : ℕ → B)
    → ((x : ℕ) (y : B) (q : F) → Called g f (x, tt) y q → (q ≡ f) × (y ≡ h x))
    → (ys : List B) (d : B) (n : ℕ) → IsFromFnResult g f ys n → ys ≡ table h n 0
array_made h calls ys d n r =
    ext_get_or d ys (table h n 0) (r.long ∙ sym (length-table h n 0))
    (λ k l. array_each (λ x y. y ≡ h x) calls ys d n r k (omega (arith, r.long)) ∙ sym (table_at h n k d (omega (arith, r.long))))
