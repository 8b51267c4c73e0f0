-- Records as items, and what they add to an automaton: each item is added, so in the end an automaton has what it had and the
-- items. Items fit an automaton exactly if they are within its header, distinct, and none of them is there already. Assumes nothing.
use mathlib.Core.Path.{◌≡◌, refl, sym, ap, subst, ◌∙◌}
use mathlib.Core.Logic.{◌⊎◌, inl, inr, ⊎_elim, ◌↔◌}
use mathlib.Core.List.Memᴰ
use mathlib.Core.List.{List, [], ◌∷◌, Memᴰ}
use Prim.Native.Nat.{ℕ}
use native.Mathlib.Omega.{arith}
use lib.Dec.{T}
use Rattle.automaton.specs.declared.Automaton.{Automaton}
use Rattle.automaton.proofs.Bits.{with_accepting_header, with_accepting_iff, with_accepting_transition, with_transition_header, with_transition_iff, with_transition_accepts}
use Rattle.format.specs.Writing.{Item, accepting_item, transition_item}
use Rattle.format.specs.Spelling.{Within, Distinct, with_item, with_items}
use Rattle.format.proofs.RecordSteps.{Has}
use Rattle.format.proofs.FileLaws.{WholeSets, with_item_whole}

-- the automaton then has what it had and what the record says
with_item_has_iff : (A : Automaton) (x y : Item) → WholeSets A → Within A.states A.letters x → Has (with_item A x) y ↔ ((y ≡ x) ⊎ Has A y)
with_item_has_iff A (accepting_item q) (accepting_item p) w h =
    let e = with_accepting_iff A q h w.in_range.few_states w.accepting_length p in (
      λ t. ⊎_elim (λ d. inl (ap accepting_item d)) inr (e.0 t),
      λ t. e.1 (⊎_elim (λ d. inl (cc)) inr t),
    )
with_item_has_iff A (accepting_item q) (transition_item p b s) w h = (
  λ t. inr (subst T (with_accepting_transition A q p b s) t),
  λ t. subst T (sym (with_accepting_transition A q p b s))
      (⊎_elim (λ d. let z : ◌≡◌ {A = ℕ} 0 1 = cc in absurd (omega arith)) (λ u. u) t),
)
with_item_has_iff A (transition_item q a r) (accepting_item p) w h = (
  λ t. inr (subst T (with_transition_accepts A q a r p) t),
  λ t. subst T (sym (with_transition_accepts A q a r p))
      (⊎_elim (λ d. let z : ◌≡◌ {A = ℕ} 0 1 = cc in absurd (omega arith)) (λ u. u) t),
)
with_item_has_iff A (transition_item q a r) (transition_item p b s) w h =
    let c = w.in_range in
    let e = with_transition_iff A q a r h.0 h.1 h.2 c.few_states c.few_letters w.transitions_length p b s in (
      λ t. ⊎_elim (λ d. let d₀ = d.0 in let d₁ = d.1 in let d₂ = d.2 in inl (cc)) inr (e.0 t),
      λ t. e.1 (⊎_elim (λ d. inl (cc, cc, cc)) inr t),
    )

pub with_item_header : (A : Automaton) (x : Item)
    → ((with_item A x).states ≡ A.states) × ((with_item A x).letters ≡ A.letters) × ((with_item A x).initial ≡ A.initial)
with_item_header A (accepting_item q) = with_accepting_header A q
with_item_header A (transition_item q a r) = with_transition_header A q a r

pub within_same : {n m k l : ℕ} (x : Item) → n ≡ m → k ≡ l → Within n k x → Within m l x
within_same (accepting_item q) e d h = omega arith
within_same (transition_item q a r) e d h = (omega (arith, h.0), omega (arith, h.1), omega (arith, h.2))

-- each record is within the header, and is not said by what stands before it
unfoldable pub Fit : Automaton → List Item → Type 0
Fit A [] = Unit {0}
Fit A (x ∷ xs) = Within A.states A.letters x × (Has A x → ⊥) × Fit (with_item A x) xs

within_rest : (A : Automaton) (x : Item) (xs : List Item) → ((y : Item) → Memᴰ y xs → Within A.states A.letters y)
    → (y : Item) → Memᴰ y xs → Within (with_item A x).states (with_item A x).letters y
within_rest A x xs h y m = let e = with_item_header A x in within_same y (sym e.0) (sym e.1) (h y m)

pub fit_of : (A : Automaton) (xs : List Item) → WholeSets A → ((x : Item) → Memᴰ x xs → Within A.states A.letters x) → Distinct xs
    → ((x : Item) → Memᴰ x xs → Has A x → ⊥) → Fit A xs
unfolding Fit Distinct
fit_of A [] w h d f = tt
fit_of A (x ∷ xs) w h d f =
    let here = h x (Memᴰ.head refl) in (
      here,
      f x (Memᴰ.head refl),
      fit_of (with_item A x) xs (with_item_whole A x here w) (within_rest A x xs (λ y m. h y (Memᴰ.tail m))) d.1
          (λ y m t. ⊎_elim (λ e. d.0 (subst (λ (z : Item). Memᴰ z xs) e m)) (f y (Memᴰ.tail m))
          ((with_item_has_iff A x y w here).0 t)),
    )

pub fit_within : (A : Automaton) (xs : List Item) → Fit A xs → (y : Item) → Memᴰ y xs → Within A.states A.letters y
unfolding Fit
fit_within A [] f y m = absurd (Memᴰ.not-nil m)
fit_within A (x ∷ xs) f y m =
    ⊎_elim (λ e. subst (Within A.states A.letters) (sym e) f.0)
    (λ l. let e = with_item_header A x in within_same y e.0 e.1 (fit_within (with_item A x) xs f.2 y l))
    (Memᴰ.cases_cons m)

pub fit_fresh : (A : Automaton) (xs : List Item) → WholeSets A → Fit A xs → (y : Item) → Memᴰ y xs → Has A y → ⊥
unfolding Fit
fit_fresh A [] w f y m t = Memᴰ.not-nil m
fit_fresh A (x ∷ xs) w f y m t =
    ⊎_elim (λ e. f.1 (subst (Has A) e t))
    (λ l. fit_fresh (with_item A x) xs (with_item_whole A x f.0 w) f.2 y l ((with_item_has_iff A x y w f.0).1 (inr t)))
    (Memᴰ.cases_cons m)

pub fit_distinct : (A : Automaton) (xs : List Item) → WholeSets A → Fit A xs → Distinct xs
unfolding Fit Distinct
fit_distinct A [] w f = tt
fit_distinct A (x ∷ xs) w f =
    let v = with_item_whole A x f.0 w in
    let there = (with_item_has_iff A x x w f.0).1 (inl refl) in
    (λ m. fit_fresh (with_item A x) xs v f.2 x m there, fit_distinct (with_item A x) xs v f.2)

pub with_items_has_iff : (A : Automaton) (xs : List Item) → WholeSets A → Fit A xs
    → (y : Item) → Has (with_items A xs) y ↔ (Has A y ⊎ Memᴰ y xs)
unfolding Fit with_items
with_items_has_iff A [] w f y = (inl, λ t. ⊎_elim (λ u. u) (λ m. absurd (Memᴰ.not-nil m)) t)
with_items_has_iff A (x ∷ xs) w f y =
    let r = with_items_has_iff (with_item A x) xs (with_item_whole A x f.0 w) f.2 y in
    let e = with_item_has_iff A x y w f.0 in (
      λ t. ⊎_elim (λ u. ⊎_elim (λ d. inr (Memᴰ.head d)) inl (e.0 u)) (λ m. inr (Memᴰ.tail m)) (r.0 t),
      λ t. r.1 (⊎_elim (λ u. inl (e.1 (inr u))) (λ m. ⊎_elim (λ d. inl (e.1 (inl d))) inr (Memᴰ.cases_cons m)) t),
    )

pub with_items_header : (A : Automaton) (xs : List Item)
    → ((with_items A xs).states ≡ A.states) × ((with_items A xs).letters ≡ A.letters) × ((with_items A xs).initial ≡ A.initial)
unfolding with_items
with_items_header A [] = (refl, refl, refl)
with_items_header A (x ∷ xs) =
    let e = with_item_header A x in
    let d = with_items_header (with_item A x) xs in
    (d.0 ∙ e.0, d.1 ∙ e.1, d.2 ∙ e.2)
