-- The order of records, and lists that ascend in it: one has no repeats, two with the same members are equal, and lists over ranges ascend. Assumes
-- nothing.
use mathlib.Core.Path.{◌≡◌, refl, sym, ap₂, subst, ◌∙◌}
use mathlib.Core.Bool.{Bool, true, false}
use mathlib.Core.Logic.{⊎_elim, ◌↔◌}
use mathlib.Core.List.Memᴰ
use mathlib.Core.List.{List, [], ◌∷◌, ◌++◌, map, Memᴰ}
use Prim.Native.Nat.{ℕ, zero, suc, ◌<◌}
use native.Mathlib.Omega.{arith}
use Rattle.automaton.specs.Ranges.{those, chained}
use Rattle.automaton.proofs.Lists.{those_from, chained_from}
use Rattle.format.specs.Writing.{Item, accepting_item, transition_item}
use Rattle.format.specs.Spelling.{Distinct}
use Rattle.fixed_form.specs.FixedForm.{Before, Ascending}

-- no two records come before each other
before_both : (x y : Item) → Before x y → Before y x → ⊥
before_both (accepting_item p) (accepting_item q) h k = omega arith
before_both (accepting_item p) (transition_item q a r) h k = k
before_both (transition_item p b s) (accepting_item q) h k = h
before_both (transition_item p b s) (transition_item q a r) h k =
    ⊎_elim (λ l. from l k) (λ t. ⊎_elim (λ l. letter t.0 l k) (λ u. to t.0 u.0 u.1 k) t.1) h
  where
    from : p < q → Before (transition_item q a r) (transition_item p b s) → ⊥
    from l k' = ⊎_elim (λ m. omega (arith, l, m)) (λ t. let e = t.0 in omega (arith, l, e)) k'

    letter : p ≡ q → b < a → Before (transition_item q a r) (transition_item p b s) → ⊥
    letter e l k' =
        ⊎_elim (λ m. omega (arith, e, m))
        (λ t. ⊎_elim (λ m. omega (arith, l, m)) (λ u. let d = u.0 in omega (arith, l, d)) t.1) k'

    to : p ≡ q → b ≡ a → s < r → Before (transition_item q a r) (transition_item p b s) → ⊥
    to e d l k' =
        ⊎_elim (λ m. omega (arith, e, m))
        (λ t. ⊎_elim (λ m. omega (arith, d, m)) (λ u. let m = u.1 in omega (arith, l, m)) t.1) k'

pub ascending_distinct : (xs : List Item) → Ascending xs → Distinct xs
unfolding Ascending Distinct
ascending_distinct [] s = tt
ascending_distinct (x ∷ xs) s = (λ m. let h = s.0 x m in before_both x x h h, ascending_distinct xs s.1)

-- what has the same members and ascends is the same list
pub ascending_same : (xs ys : List Item) → Ascending xs → Ascending ys → ((z : Item) → Memᴰ z xs ↔ Memᴰ z ys) → xs ≡ ys
unfolding Ascending
ascending_same [] [] s t m = refl
ascending_same [] (y ∷ ys) s t m = absurd (Memᴰ.not-nil ((m y).1 (Memᴰ.head refl)))
ascending_same (x ∷ xs) [] s t m = absurd (Memᴰ.not-nil ((m x).0 (Memᴰ.head refl)))
ascending_same (x ∷ xs) (y ∷ ys) s t m =
    ap₂ (λ (z : Item) (zs : List Item). z ∷ zs) first (ascending_same xs ys s.1 t.1 (λ z. (rest z, back z)))
  where
    first : x ≡ y
    first =
        ⊎_elim (λ e. e) (λ l. ⊎_elim (λ e. sym e) (λ k. absurd (before_both x y (s.0 y k) (t.0 x l))) (Memᴰ.cases_cons ((m y).1 (Memᴰ.head refl))))
        (Memᴰ.cases_cons ((m x).0 (Memᴰ.head refl)))

    -- no record comes before itself
    twice : (z u : Item) → Before z u → u ≡ z → ⊥
    twice z u h e = let k = subst (Before z) e h in before_both z z k k

    rest : (z : Item) → Memᴰ z xs → Memᴰ z ys
    rest z l =
        ⊎_elim (λ e. absurd (twice x z (s.0 z l) (e ∙ sym first))) (λ k. k) (Memᴰ.cases_cons ((m z).0 (Memᴰ.tail l)))

    back : (z : Item) → Memᴰ z ys → Memᴰ z xs
    back z l = ⊎_elim (λ e. absurd (twice y z (t.0 z l) (e ∙ first))) (λ k. k) (Memᴰ.cases_cons ((m z).1 (Memᴰ.tail l)))

pub ascending_append : (xs ys : List Item) → Ascending xs → Ascending ys → ((x y : Item) → Memᴰ x xs → Memᴰ y ys → Before x y)
    → Ascending (xs ++ ys)
unfolding Ascending
ascending_append [] ys s t h = t
ascending_append (x ∷ xs) ys s t h = (
  λ y m. ⊎_elim (s.0 y) (h x y (Memᴰ.head refl)) (Memᴰ.append_cases xs m),
  ascending_append xs ys s.1 t (λ z y m. h z y (Memᴰ.tail m)),
)

-- records of ascending numbers
pub ascending_those : (g : ℕ → Item) → ((j k : ℕ) → j < k → Before (g j) (g k)) → (f : ℕ → Bool) (n i : ℕ) → Ascending (map g (those f n i))
unfolding Ascending those
ascending_those g up f zero i = tt
ascending_those g up f (suc n) i = go (ascending_those g up f n (suc i)) (f i)
  where
    go : Ascending (map g (those f n (suc i))) → (b : Bool)
        → Ascending (map g (elim b [ true ↦ i ∷ those f n (suc i) | false ↦ those f n (suc i) ]))
    go s true = (
      λ y m. let x = Memᴰ.of_map g (those f n (suc i)) m in
          let h = those_from f n (suc i) x.0 x.1 in
          subst (Before (g i)) x.2 (up i x.0 (omega (arith, h.0))),
      s,
    )
    go s false = s

-- lists one after the other, the records of each before those of the next
pub ascending_chained : (f : ℕ → List Item) → ((k : ℕ) → Ascending (f k))
    → ((j k : ℕ) (x y : Item) → j < k → Memᴰ x (f j) → Memᴰ y (f k) → Before x y) → (n i : ℕ) → Ascending (chained f n i)
unfolding chained Ascending
ascending_chained f s up zero i = tt
ascending_chained f s up (suc n) i =
    ascending_append (f i) (chained f n (suc i)) (s i) (ascending_chained f s up n (suc i))
    (λ x y m l. let r = chained_from f n (suc i) y l in up i r.0 x y (omega (arith, r.1)) m r.3)
