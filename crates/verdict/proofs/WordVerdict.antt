-- The verdict found in words is the verdict: the rows of words have the members of the relations of the loop word, closing them and adding
-- the diagonal gives what copies of the loop join, and of two searches one after the other the order does not matter. Assumes nothing.
use mathlib.Core.Path.{◌≡◌, sym, ap, ap₂, subst, ◌∙◌}
use mathlib.Core.Bool.{Bool, false, ◌&&◌, ◌||◌}
use mathlib.Core.List.{List, [], ◌∷◌}
use Prim.Native.Nat.{ℕ, ◌*◌, ◌%◌, ◌^◌, ◌≤◌, ◌<◌}
use native.Mathlib.Nat.{one-mul, mod-eq_of_lt, pow-le-pow_right}
use native.Mathlib.Omega.{arith}
use lib.Dec.{T, eqb, eqb→eq, eqb_refl}
use borrow.Author.Tests.{lt-ltb}
use Rattle.automaton.specs.declared.Automaton.{Automaton}
use Rattle.automaton.specs.Ranges.{some}
use Rattle.automaton.specs.Sets.{bit, with_bit, member}
use Rattle.automaton.specs.Automata.{accepts}
use Rattle.relations.specs.Closure.{related, relation, closure, reaches, row_has}
use Rattle.lassos.specs.Verdict.{in_set, only, on_word, loop_runs, loop_visits, accepted}
use Rattle.verdict.specs.Words.{set_of, returns_from}
use Rattle.automaton.proofs.Booleans.{and_both, both_and, same_test}
use Rattle.automaton.proofs.Ranges.{table_at, some_at, some_below}
use Rattle.automaton.proofs.Bits.{bit_zero, bit_with, bit_power}
use Rattle.relations.proofs.Closure.{related_relation}
use Rattle.relations.proofs.Rows.{table_same, some_same}
use Rattle.verdict.proofs.HalfWords.{low_half}

-- Two searches.

search_swapped : (f : ℕ → Bool) (g : ℕ → ℕ → Bool) (h : ℕ → Bool) (n : ℕ)
    → some (λ r. some (λ p. f p && g p r) n 0 && h r) n 0 ≡ some (λ p. f p && some (λ r. g p r && h r) n 0) n 0
search_swapped f g h n = same_test _ _ there back
  where
    there : T (some (λ r. some (λ p. f p && g p r) n 0 && h r) n 0) → T (some (λ p. f p && some (λ r. g p r && h r) n 0) n 0)
    there t =
        let r = some_below (λ r. some (λ p. f p && g p r) n 0 && h r) n t in
        let a = and_both (some (λ p. f p && g p r.0) n 0) (h r.0) r.2 in
        let p = some_below (λ p. f p && g p r.0) n a.0 in
        let b = and_both (f p.0) (g p.0 r.0) p.2 in
        some_at (λ p. f p && some (λ r. g p r && h r) n 0) n p.0 p.1
        (both_and (f p.0) (some (λ r. g p.0 r && h r) n 0) b.0
        (some_at (λ r. g p.0 r && h r) n r.0 r.1 (both_and (g p.0 r.0) (h r.0) b.1 a.1)))

    back : T (some (λ p. f p && some (λ r. g p r && h r) n 0) n 0) → T (some (λ r. some (λ p. f p && g p r) n 0 && h r) n 0)
    back t =
        let p = some_below (λ p. f p && some (λ r. g p r && h r) n 0) n t in
        let a = and_both (f p.0) (some (λ r. g p.0 r && h r) n 0) p.2 in
        let r = some_below (λ r. g p.0 r && h r) n a.1 in
        let b = and_both (g p.0 r.0) (h r.0) r.2 in
        some_at (λ r. some (λ p. f p && g p r) n 0 && h r) n r.0 r.1
        (both_and (some (λ p. f p && g p r.0) n 0) (h r.0)
        (some_at (λ p. f p && g p r.0) n p.0 p.1 (both_and (f p.0) (g p.0 r.0) a.0 b.0)) b.1)

eqb_swapped : (a b : ℕ) → eqb a b ≡ eqb b a
eqb_swapped a b =
    same_test (eqb a b) (eqb b a)
    (λ t. subst (λ (x : ℕ). T (eqb x a)) (eqb→eq a b t) (eqb_refl a))
    (λ t. subst (λ (x : ℕ). T (eqb x b)) (eqb→eq b a t) (eqb_refl b))

-- the word with bit p alone
pub alone : (p q : ℕ) → bit (with_bit 0 p) q ≡ eqb p q
alone p q = bit_with 0 p q ∙ ap (λ (b : Bool). b || eqb p q) (bit_zero q)

-- so is the word 1 shifted by p
pub shifted_alone : (p q : ℕ) → p < 64 → bit (1 * 2 ^ p % 18446744073709551616) q ≡ eqb p q
shifted_alone p q h =
    let l : 2 ^ p ≤ 2 ^ 63 = pow-le-pow_right (omega arith) {i = p} {j = 63} (omega arith) in
    ap (λ (w : ℕ). bit w q) (ap (λ (x : ℕ). x % 18446744073709551616) (one-mul _) ∙ mod-eq_of_lt (omega arith)) ∙ bit_power p q

-- words with the same states below n are the same set
pub set_same : (n r w : ℕ) → n ≤ 32 → ((q : ℕ) → q < 32 → bit r q ≡ bit w q) → set_of n r ≡ set_of n w
set_same n r w few e = table_same (bit r) (bit w) n (λ q h. e q (omega arith))

-- the low half of a word has the states below 32
pub low_set : (n w : ℕ) → n ≤ 32 → set_of n (w % 4294967296) ≡ set_of n w
low_set n w few = set_same n (w % 4294967296) w few (low_half w)

-- Relations of n states.

relation_same : (n : ℕ) (f g : ℕ → ℕ → Bool) → ((p q : ℕ) → p < n → q < n → f p q ≡ g p q) → relation n f ≡ relation n g
unfolding relation
relation_same n f g e = table_same _ _ n (λ p hp. table_same (f p) (g p) n (λ q hq. e p q hp hq))

module _ (A : Automaton) where
  -- a word with the state p alone
  pub only_set : (p w : ℕ) → ((q : ℕ) → bit w q ≡ eqb p q) → set_of A.states w ≡ only A p
  unfolding only
  only_set p w e = table_same (bit w) (λ q. eqb q p) A.states (λ q h. e q ∙ eqb_swapped p q)

  -- the relation of the loop word is a relation of the states
  loop_relation : (v : List ℕ) → relation A.states (related (loop_runs A v)) ≡ loop_runs A v
  unfolding loop_runs
  loop_relation [] = relation_same A.states _ _ (λ p q hp hq. related_relation A.states _ p q hp hq)
  loop_relation (a ∷ v) = relation_same A.states _ _ (λ p q hp hq. related_relation A.states _ p q hp hq)

  module _ (u v : List ℕ) where
    -- from the rows `runs` of the loop word, closed and then with the diagonal
    pub words_decide : (ends : ℕ) (runs closed joined visits : List ℕ)
        → set_of A.states ends ≡ on_word A (only A A.initial) u
        → ((p q : ℕ) → p < A.states → q < A.states → row_has runs p q ≡ related (loop_runs A v) p q)
        → ((p q : ℕ) → p < A.states → q < A.states → row_has visits p q ≡ related (loop_visits A v) p q)
        → ((p q : ℕ) → p < A.states → q < A.states
        → row_has closed p q ≡ related (closure A.states (relation A.states (row_has runs))) p q)
        → ((p q : ℕ) → p < A.states → row_has joined p q ≡ (eqb p q || row_has closed p q))
        → returns_from A.states joined visits ends ≡ accepted A u v
    unfolding returns_from accepted
    words_decide ends runs closed joined visits e-ends e-runs e-visits e-closed e-joined =
        some_same _ _ n (λ r hr. ap₂ ◌&&◌
        (some_same _ _ n (λ p hp. ap₂ ◌&&◌ (ends_at p hp) (joined_at p r hp hr)))
        (some_same _ _ n (λ s hs. ap₂ ◌&&◌ (e-visits r s hr hs) (joined_at s r hs hr))))
        ∙ search_swapped (in_set (on_word A (only A A.initial) u)) (reaches C)
        (λ r. some (λ s. related (loop_visits A v) r s && reaches C s r) n 0) n
      where
        n : ℕ
        n = A.states

        C : List (List Bool)
        C = closure n (loop_runs A v)

        runs_table : relation n (row_has runs) ≡ loop_runs A v
        runs_table = relation_same n (row_has runs) (related (loop_runs A v)) e-runs ∙ loop_relation v

        ends_at : (p : ℕ) → p < n → bit ends p ≡ in_set (on_word A (only A A.initial) u) p
        ends_at p h = sym (table_at (bit ends) n p false h) ∙ ap (λ (S : List Bool). in_set S p) e-ends

        joined_at : (p q : ℕ) → p < n → q < n → row_has joined p q ≡ reaches C p q
        joined_at p q hp hq =
            e-joined p q hp
            ∙ ap (λ (b : Bool). eqb p q || b)
            (e-closed p q hp hq ∙ ap (λ (R : List (List Bool)). related (closure n R) p q) runs_table)

-- The accepting states as a word.
pub accepting_held : (A : Automaton) → A.states ≤ 32 → (w : ℕ) → ((q : ℕ) → q < 32 → bit w q ≡ member A.accepting q)
    → (q : ℕ) → q < A.states → bit w q ≡ accepts A q
unfolding accepts
accepting_held A few w e q h =
    e q (omega arith) ∙ ap (λ (b : Bool). b && member A.accepting q) (sym (lt-ltb q A.states h))
