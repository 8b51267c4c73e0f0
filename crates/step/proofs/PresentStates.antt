-- The states that have a counter above 0, listed lowest first: one number more lengthens the list at its end, so the first places of the
-- code's array are that list. A largest value over the listed states is the one over all where the others count for 0. Assumes nothing.
use mathlib.Core.Path.{◌≡◌, refl, sym, ◌∙◌, ap, ap₂, subst}
use mathlib.Core.Bool.{Bool, true, false, cond}
use mathlib.Core.Logic.{⊎_elim}
use mathlib.Core.List.Memᴰ
use mathlib.Core.List.{List, [], ◌∷◌, ◌++◌, append-nil, Memᴰ}
use Prim.Native.Nat.{ℕ, zero, suc, ◌+◌, ◌≤◌, ◌<◌, max, min}
use native.Mathlib.Nat.{add-zero, zero-add, add-suc, suc-add}
use native.Mathlib.Numerals.{add-one}
use native.Mathlib.Omega.{arith}
use borrow.Author.Count.{below_more}
use borrow.Author.Tests.{ltb-true, ltb-false, lt-ltb}
use lib.Dec.{T, ltb}
use lib.ListN.{length, get_or, take, set, length-append, length-set, length-replicate, replicate}
use lib.Seq.{get_or-take, take-set-le, take-suc-set}
use Rattle.automaton.specs.Automata.{max_states}
use Rattle.automaton.specs.Ranges.{those, table, largest}
use Rattle.automaton.proofs.Ranges.{those_has, table_at}
use Rattle.automaton.proofs.Booleans.{is_true}
use Rattle.step.specs.Masks.{row_place}
use Rattle.relations.proofs.Rows.{table_same}
use Rattle.step.specs.Steps.{largest_masked, all_largest, present_states, places_after, PresentOf}
use Rattle.step.proofs.Largest.{largest_more, largest_le, largest_bound, largest_same}

-- Lists of the numbers that pass: one number more, how many there are, and where each stands.

module _ (f : ℕ → Bool) where
  those_last : (n i : ℕ) → those f (suc n) i ≡ those f n i ++ cond (f (i + n)) ((i + n) ∷ []) []
  unfolding those
  those_last zero i = go (f i) ∙ ap (λ (k : ℕ). cond (f k) (k ∷ []) []) (sym (add-zero i))
    where
      go : (c : Bool) → elim c [ true ↦ i ∷ [] | false ↦ [] ] ≡ cond c (i ∷ []) []
      go true = refl
      go false = refl
  those_last (suc n) i =
      go (f i) (those_last n (suc i)) ∙ ap (λ (k : ℕ). those f (suc n) i ++ cond (f k) (k ∷ []) []) (suc-add i n ∙ sym (add-suc i n))
    where
      go : (c : Bool) → those f (suc n) (suc i) ≡ those f n (suc i) ++ cond (f (suc i + n)) ((suc i + n) ∷ []) []
          → elim c [ true ↦ i ∷ those f (suc n) (suc i) | false ↦ those f (suc n) (suc i) ]
          ≡ elim c [ true ↦ i ∷ those f n (suc i) | false ↦ those f n (suc i) ] ++ cond (f (suc i + n)) ((suc i + n) ∷ []) []
      go true e = ap (λ (l : List ℕ). i ∷ l) e
      go false e = e

  those_few : (n i : ℕ) → length (those f n i) ≤ n
  unfolding those
  those_few zero i = omega arith
  those_few (suc n) i = go (f i) (those_few n (suc i))
    where
      go : (c : Bool) → length (those f n (suc i)) ≤ n → length {A = ℕ} (elim c [ true ↦ i ∷ those f n (suc i) | false ↦ those f n (suc i) ]) ≤ suc n
      go true h = omega arith
      go false h = omega arith

  those_below : (n i k : ℕ) → k < length (those f n i) → get_or (those f n i) k 0 < i + n
  unfolding those
  those_below zero i k h = absurd (omega arith)
  those_below (suc n) i k h = go (f i) (those_below n (suc i)) k h
    where
      go : (c : Bool) → ((j : ℕ) → j < length (those f n (suc i)) → get_or (those f n (suc i)) j 0 < suc i + n) → (k : ℕ)
          → k < length {A = ℕ} (elim c [ true ↦ i ∷ those f n (suc i) | false ↦ those f n (suc i) ])
          → get_or (elim c [ true ↦ i ∷ those f n (suc i) | false ↦ those f n (suc i) ]) k 0 < i + suc n
      go true again zero h = omega arith
      go true again (suc k) h = omega (arith, again k (omega arith))
      go false again k h = omega (arith, again k h)

member_place : {a : ℕ} (l : List ℕ) → Memᴰ a l → (j : ℕ) × (j < length l) × (get_or l j 0 ≡ a)
member_place [] m = absurd (Memᴰ.not-nil m)
member_place {a} (x ∷ l) m =
    ⊎_elim (λ (e : a ≡ x). (0, omega arith, sym e))
    (λ (m' : Memᴰ a l).
    let r : (j : ℕ) × (j < length l) × (get_or l j 0 ≡ a) = member_place l m' in
    (suc r.0, omega (arith, r.1), r.2))
    (Memᴰ.cases_cons m)

-- What the list of the states present says.

module _ (f : List ℕ) (n : ℕ) where
  pub states_present_few : length (present_states f n) ≤ n
  states_present_few = those_few (λ p. ltb 0 (get_or f p 0)) n 0

  pub states_present_below : (i : ℕ) → i < length (present_states f n) → get_or (present_states f n) i 0 < n
  states_present_below i h = omega (arith, those_below (λ p. ltb 0 (get_or f p 0)) n 0 i h)

  states_present_all : (p : ℕ) → p < n → 0 < get_or f p 0 → (i : ℕ) × (i < length (present_states f n)) × (get_or (present_states f n) i 0 ≡ p)
  states_present_all p h g =
      let t : T (ltb 0 (get_or f (0 + p) 0)) = is_true _ (ap (λ (k : ℕ). ltb 0 (get_or f k 0)) (zero-add p) ∙ lt-ltb 0 (get_or f p 0) g) in
      let r = member_place (present_states f n) (those_has (λ p. ltb 0 (get_or f p 0)) n 0 p h t) in
      (r.0, r.1, r.2 ∙ zero-add p)

  -- states that are not listed have no counter above 0
  pub largest_present : (g : ℕ → ℕ) → ((p : ℕ) → p < n → get_or f p 0 ≤ 0 → g p ≤ 0)
      → largest (λ j. g (get_or (present_states f n) j 0)) (length (present_states f n)) 0 ≡ largest g n 0
  largest_present g none = omega (arith, most, least)
    where
      count : ℕ
      count = length (present_states f n)

      of_place : ℕ → ℕ
      of_place j = g (get_or (present_states f n) j 0)

      most : largest of_place count 0 ≤ largest g n 0
      most = largest_le of_place count (largest g n 0) (λ i h. largest_bound g n _ (states_present_below i h))

      one : (p : ℕ) → p < n → (c : Bool) → ltb 0 (get_or f p 0) ≡ c → g p ≤ largest of_place count 0
      one p h true e =
          let w = states_present_all p h (ltb-true 0 (get_or f p 0) e) in
          subst (λ (q : ℕ). g q ≤ largest of_place count 0) w.2 (largest_bound of_place count w.0 w.1)
      one p h false e = omega (arith, none p h (ltb-false 0 (get_or f p 0) e))

      least : largest g n 0 ≤ largest of_place count 0
      least = largest_le g n _ (λ p h. one p h (ltb 0 (get_or f p 0)) refl)

-- The same of the places that hold the list.

module _ (count : ℕ) (places f : List ℕ) (n : ℕ) (P : PresentOf count places f n) where
  place_is : (i : ℕ) → i < count → get_or places i 0 ≡ get_or (present_states f n) i 0
  place_is i h = sym (get_or-take count places i 0 h) ∙ ap (λ (l : List ℕ). get_or l i 0) P.places_are

  pub present_few : count ≤ n
  present_few = omega (arith, P.count_is, states_present_few f n)

  pub present_below : (i : ℕ) → i < count → get_or places i 0 < n
  present_below i h = omega (arith, place_is i h, states_present_below f n i (omega (arith, P.count_is)))

  pub largest_listed : (g : ℕ → ℕ) → ((p : ℕ) → p < n → get_or f p 0 ≤ 0 → g p ≤ 0)
      → largest (λ j. g (get_or places j 0)) count 0 ≡ largest g n 0
  largest_listed g none =
      largest_same (λ j. g (get_or places j 0)) (λ j. g (get_or (present_states f n) j 0)) count (λ j h. ap g (place_is j h))
      ∙ ap (λ (k : ℕ). largest (λ j. g (get_or (present_states f n) j 0)) k 0) P.count_is
      ∙ largest_present f n g none

-- a place of the list has one of the states
pub listed_below : (items : List ℕ) (i : ℕ) (count : ℕ) (places f : List ℕ) (n : ℕ) → PresentOf count places f n → items ≡ take count places
    → i < length items → get_or items i 0 < n
listed_below items i count places f n P e h =
    let is : items ≡ present_states f n = e ∙ P.places_are in
    rw is (states_present_below f n i (omega (arith, ap length is)))

-- The states below p are listed, one after the other.

pub record Listing (f : List ℕ) (count : ℕ) (places : List ℕ) (p : ℕ) : Type 0 where
  pub long : length places ≡ max_states
  pub listed : PresentOf count places f p
  pub few : count ≤ p
  pub made : places ≡ places_after f p

-- any places hold the list of no states
pub present_none : (f places : List ℕ) → PresentOf 0 places f 0
unfolding those
present_none f places = record { count_is = refl; places_are = refl; bytes = λ q h. absurd (omega arith) }

pub places_none : (f : List ℕ) → replicate max_states 0 ≡ places_after f 0
unfolding places_after
places_none f = refl

pub places_next : (f : List ℕ) (count : ℕ) (places : List ℕ) (p : ℕ) → places ≡ places_after f p → count ≡ length (present_states f p)
    → set places count p ≡ places_after f (p + 1)
unfolding places_after
places_next f count places p e c = ap₂ (λ (l : List ℕ) (k : ℕ). set l k p) e c ∙ ap (places_after f) (sym (add-one p))

pub listing_none : (f : List ℕ) → Listing f 0 (replicate max_states 0) 0
listing_none f = record { long = length-replicate {A = ℕ} max_states 0; listed = present_none f _; few = omega arith; made = places_none f }

pub listing_few : (f : List ℕ) (count : ℕ) (places : List ℕ) (p : ℕ) → Listing f count places p → count ≤ p
listing_few f count places p L = L.few

module _ (f : List ℕ) (count : ℕ) (places : List ℕ) (p : ℕ) (L : Listing f count places p) (room : p < max_states) where
  states_more : present_states f (p + 1) ≡ present_states f p ++ cond (ltb 0 (get_or f p 0)) (p ∷ []) []
  states_more =
      ap (present_states f) (add-one p)
      ∙ those_last (λ q. ltb 0 (get_or f q 0)) p 0
      ∙ ap (λ (k : ℕ). present_states f p ++ cond (ltb 0 (get_or f k 0)) (k ∷ []) []) (zero-add p)

  pub listing_next : (m : ℕ) → m ≡ cond (ltb 0 (get_or f p 0)) (count + 1) count → get_or f p 0 < 256 → Listing f m (set places count p) (p + 1)
  listing_next m e small =
      let w = made (ltb 0 (get_or f p 0)) refl m e in
      record {
        long = length-set places count p ∙ L.long;
        listed = record { count_is = w.0; places_are = w.1; bytes = below_more (λ q. get_or f q 0 < 256) p L.listed.bytes small };
        few = omega (arith, w.0, states_present_few f (p + 1));
        made = places_next f count places p L.made L.listed.count_is;
      }
    where
      made : (c : Bool) → ltb 0 (get_or f p 0) ≡ c → (m : ℕ) → m ≡ cond c (count + 1) count
          → (m ≡ length (present_states f (p + 1))) × (take m (set places count p) ≡ present_states f (p + 1))
      made true t m d =
          let more : present_states f (p + 1) ≡ present_states f p ++ p ∷ [] =
          states_more ∙ ap (λ (c : Bool). present_states f p ++ cond c (p ∷ []) []) t in (
            omega (arith, L.listed.count_is, ap length more, length-append (present_states f p) (p ∷ [])),
            ap (λ (k : ℕ). take k (set places count p)) (d ∙ add-one count)
                ∙ take-suc-set places count p (omega (arith, L.long, L.few))
                ∙ ap (λ (l : List ℕ). l ++ p ∷ []) L.listed.places_are
                ∙ sym more,
          )
      made false t m d =
          let more : present_states f (p + 1) ≡ present_states f p =
          states_more ∙ ap (λ (c : Bool). present_states f p ++ cond c (p ∷ []) []) t ∙ append-nil (present_states f p) in (
            d ∙ L.listed.count_is ∙ sym (ap length more),
            ap (λ (k : ℕ). take k (set places count p)) d
                ∙ take-set-le count places count p (omega arith)
                ∙ L.listed.places_are
                ∙ sym more,
          )

-- The largest counters of the predecessors, one listed state after the other.

-- the counter of p as its mask for r shows it
abbrev pub masked_counter : List ℕ → ℕ → ℕ → List ℕ → ℕ → ℕ → ℕ
masked_counter m n a f r p = min (get_or f p 0) (get_or m (row_place n a p + r) 0)

-- the state p at place i of the list raises its targets to its counter
pub largest_raised : (m : List ℕ) (n a : ℕ) (f ps : List ℕ) (i p : ℕ) (l l' : List ℕ) → p ≡ get_or ps i 0
    → l' ≡ table (λ r. max (get_or l r 0) (masked_counter m n a f r p)) max_states 0
    → ((r : ℕ) → r < max_states → get_or l r 0 ≡ largest (λ j. masked_counter m n a f r (get_or ps j 0)) i 0)
    → (r : ℕ) → r < max_states → get_or l' r 0 ≡ largest (λ j. masked_counter m n a f r (get_or ps j 0)) (i + 1) 0
largest_raised m n a f ps i p l l' e made so_far r h =
    ap (λ (z : List ℕ). get_or z r 0) made
    ∙ table_at (λ r. max (get_or l r 0) (masked_counter m n a f r p)) max_states r 0 h
    ∙ ap₂ max (so_far r h) (ap (masked_counter m n a f r) e)
    ∙ sym
    (ap (λ (k : ℕ). largest (λ j. masked_counter m n a f r (get_or ps j 0)) k 0) (add-one i)
    ∙ largest_more (λ j. masked_counter m n a f r (get_or ps j 0)) i 0
    ∙ ap (λ (k : ℕ). max (largest (λ j. masked_counter m n a f r (get_or ps j 0)) i 0) (masked_counter m n a f r (get_or ps k 0))) (zero-add i))

module _ (m : List ℕ) (n a : ℕ) (f : List ℕ) where
  -- for each right state the largest counter of its predecessors among the first i states of a list
  unfoldable pub raised_by : List ℕ → ℕ → List ℕ
  raised_by ps i = table (λ r. largest (λ j. masked_counter m n a f r (get_or ps j 0)) i 0) max_states 0

  pub raised_none : (ps : List ℕ) → replicate max_states 0 ≡ raised_by ps 0
  unfolding raised_by table largest
  raised_none ps = refl

  -- the next state of the list raises its targets to its counter
  pub raised_more : (ps : List ℕ) (i : ℕ) (l l' : List ℕ) → l ≡ raised_by ps i
      → l' ≡ table (λ r. max (get_or l r 0) (masked_counter m n a f r (get_or ps i 0))) max_states 0 → l' ≡ raised_by ps (i + 1)
  unfolding raised_by
  raised_more ps i l l' e made =
      made
      ∙ table_same (λ r. max (get_or l r 0) (masked_counter m n a f r (get_or ps i 0)))
      (λ r. largest (λ j. masked_counter m n a f r (get_or ps j 0)) (i + 1) 0) max_states
      (λ r h.
      ap (λ (z : List ℕ). max (get_or z r 0) (masked_counter m n a f r (get_or ps i 0))) e
      ∙ ap (λ (x : ℕ). max x (masked_counter m n a f r (get_or ps i 0)))
      (table_at (λ q. largest (λ j. masked_counter m n a f q (get_or ps j 0)) i 0) max_states r 0 h)
      ∙ sym (rw (add-one, largest_more (λ j. masked_counter m n a f r (get_or ps j 0)) i 0, zero-add i)))

  pub raised_all : (ps places : List ℕ) (i count : ℕ) → PresentOf count places f n → ps ≡ take count places → i ≡ length ps
      → raised_by ps i ≡ all_largest m n a f
  unfolding raised_by all_largest
  raised_all ps places i count P e all =
      let is : ps ≡ present_states f n = e ∙ P.places_are in
      ap (raised_by ps) all
      ∙ ap (λ (qs : List ℕ). raised_by qs (length qs)) is
      ∙ table_same (λ r. largest (λ j. masked_counter m n a f r (get_or (present_states f n) j 0)) (length (present_states f n)) 0)
      (largest_masked m n a f) max_states (λ r h. largest_present f n (masked_counter m n a f r) (λ p i z. omega arith))

pub ruleset raising = (listed_below, raised_none, raised_more, raised_all)
