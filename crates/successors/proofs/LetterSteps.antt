-- The successors on a letter, by the classes of the counters on the two sides. The idea: the targets of one side share their counters, so what is
-- listed with the class of these counters is a set, and the targets that are in it can be left out. Assumes nothing.
use mathlib.Core.Path.{◌≡◌, refl, sym, ◌∙◌, ap, ap₂, subst}
use mathlib.Core.Bool.{Bool, true, false, cond, ◌&&◌, ◌||◌, not, true≢false}
use mathlib.Core.Logic.{◌≢◌}
use mathlib.Core.List.{List, [], ◌∷◌, map}
use Prim.Native.Nat.{ℕ, zero, suc, ◌+◌, ◌*◌, ◌%◌, ◌^◌, ◌≤◌, ◌<◌}
use native.Mathlib.Nat.{add-zero, mul-le-mul_right, suc-mul, div-eq_of_lt, pow-le-pow_right}
use native.Mathlib.Omega.{arith}
use borrow.Author.Tests.{ltb-true, ltb-false, le-ltb, ne_eqb}
use lib.Bits.{bit_and, bit_xor}
use lib.Dec.{eqb, ltb}
use lib.ListN.{length, get_or, set, length-set}
use lib.Seq.{get_or-set_same, get_or-set_other}
use Rattle.std.specs.Prelude.{Result, Ok}
use Rattle.automaton.specs.declared.Automaton.{Automaton}
use Rattle.automaton.specs.Automata.{max_states, one, transition_bit, transition, targets}
use Rattle.automaton.specs.Members.{transition_in}
use Rattle.automaton.specs.Ranges.{those}
use Rattle.automaton.specs.Sets.{bit}
use Rattle.automaton.proofs.Booleans.{clash}
use Rattle.automaton.proofs.Ranges.{length-table}
use Rattle.automaton.proofs.Bits.{bit_of_and, bit_zero}
use Rattle.automaton.proofs.Members.{those_same}
use Rattle.slots.specs.declared.Vertex.{Vertex}
use Rattle.slots.specs.Slots.{slot_count, max_slots, same_vertex, same_list}
use Rattle.classes.specs.declared.Index.{Index}
use Rattle.classes.specs.Classes.{class_of, listed_with, Joined}
use Rattle.classes.specs.Indexes.{listed_in}
use Rattle.classes.proofs.Leaders.{class_le}
use Rattle.classes.proofs.ListedStates.{other, bit_of_xor, class_listed}
use Rattle.graph.specs.Discovery.{Walk, going, below, discover_all}
use Rattle.graph.specs.LagGraph.{stepped, successor, lag_graph}
use Rattle.graph.proofs.Unlisted.{discover_unlisted}
use Rattle.step.specs.Masks.{row_place}
use Rattle.step.specs.Steps.{stepped_counters, counters_on}
use Rattle.step.proofs.SteppedBytes.{transition_in_range}
use Rattle.step.proofs.Steps.{counters_on_lem}
use Rattle.discovery.specs.declared.Stop.{Stop}
use Rattle.discovery.specs.declared.sides.Sides.{Sides}
use Rattle.discovery.specs.Representation.{vertex_of, side_of, Represents, Becomes, counters_to, SidesReady}
use Rattle.discovery.proofs.RepresentedSlots.{listed_represented}
use Rattle.discovery.proofs.LeftTargets.{states_none}
use Rattle.discovery.specs.declared.listed.Listed.{Listed}
use Rattle.successors.specs.declared.Step.{Step}
use Rattle.successors.specs.declared.rules.Rules.{Rules}
use Rattle.successors.specs.Rules.{RulesOf}
use Rattle.successors.specs.Targets.{TargetsUnlisted, Known}
use Rattle.successors.specs.Steps.{edges_on, StepKept}

-- the answer r and the work buffer are those of the successors on letter a
abbrev pub LetterDone : Automaton → Automaton → ℕ → Vertex → ℕ → ℕ → List ℕ → ℕ → List ℕ → Result ℕ Stop → Type 0
LetterDone A B b v a p before n work r = Becomes before n work r (λ S w. discover_all (lag_graph A B b) (below S) p w (edges_on A B b v a))

-- Numbers.

pub rows_fit : (letter letters states len : ℕ) → letter < letters → row_place states letters 0 ≤ len → row_place states letter states ≤ len
rows_fit letter letters states len h l =
    let k : suc letter * states ≤ letters * states = mul-le-mul_right {m = suc letter} {n = letters} states (omega arith) in
    omega (arith, suc-mul letter states)

bit_past : (w t : ℕ) → w < 2 ^ 32 → 32 ≤ t → bit w t ≡ false
bit_past w t h l =
    let p : 2 ^ 32 ≤ 2 ^ t = pow-le-pow_right (omega arith) {i = 32} {j = t} l in
    let q : w < 2 ^ t = omega arith in
    ap (λ (x : ℕ). eqb (x % 2) 1) (div-eq_of_lt q)

-- The edges of a letter.

those_none : (f : ℕ → Bool) (n i : ℕ) → ((k : ℕ) → i ≤ k → k < i + n → f k ≡ false) → those f n i ≡ []
unfolding those
those_none f zero i e = refl
those_none f (suc n) i e =
    ap (λ (b : Bool). elim b [ true ↦ i ∷ those f n (suc i) | false ↦ those f n (suc i) ]) (e i (omega arith) (omega arith))
    ∙ those_none f n (suc i) (λ k l h. e k (omega arith) (omega arith))

those_longer : (f : ℕ → Bool) (m n i : ℕ) → m ≤ n → ((k : ℕ) → i + m ≤ k → k < i + n → f k ≡ false) → those f m i ≡ those f n i
unfolding those
those_longer f zero n i l e = sym (those_none f n i (λ k h g. e k (omega arith) g))
those_longer f (suc m) zero i l e = absurd (omega arith)
those_longer f (suc m) (suc n) i l e =
    ap (λ (x : List ℕ). elim (f i) [ true ↦ i ∷ x | false ↦ x ])
    (those_longer f m n (suc i) (omega arith) (λ k h g. e k (omega arith) (omega arith)))

maps_same {ℓ} : {X : Type ℓ} (g h : ℕ → X) (f : ℕ → Bool) (n i : ℕ) → ((k : ℕ) → i ≤ k → k < i + n → g k ≡ h k)
    → map g (those f n i) ≡ map h (those f n i)
unfolding those
maps_same g h f zero i e = refl
maps_same g h f (suc n) i e = go (f i) (maps_same g h f n (suc i) (λ k l u. e k (omega arith) (omega arith)))
  where
    go : (c : Bool) → map g (those f n (suc i)) ≡ map h (those f n (suc i))
        → map g (elim c [ true ↦ i ∷ those f n (suc i) | false ↦ those f n (suc i) ])
        ≡ map h (elim c [ true ↦ i ∷ those f n (suc i) | false ↦ those f n (suc i) ])
    go true q = ap₂ (λ (x : _) (xs : List _). x ∷ xs) (e i (omega arith) (omega arith)) q
    go false q = q

-- the counters on both sides of a step
abbrev pub Lowered : Rules → ℕ → List ℕ → List ℕ
Lowered rules a f = counters_on rules.tops.now rules.masks.now rules.right.now.states a f 1

abbrev pub Others : Rules → ℕ → List ℕ → List ℕ
Others rules a f = counters_on rules.tops.now rules.masks.now rules.right.now.states a f 0

module _ (rules : Rules) (A B : Automaton) (b : ℕ) (R : RulesOf rules A B b) (left letter : ℕ) (counters : List ℕ) (targets-word : ℕ)
    (row : (r : ℕ) → r < 32 → bit targets-word r ≡ transition_bit rules.left.now left letter r) (small : left < max_states)
    (within : letter < rules.left.now.letters) (bytes : (q : ℕ) → q < rules.right.now.states → get_or counters q 0 < 256) (lowered others : List ℕ)
    (low_is : lowered ≡ Lowered rules letter counters) (other_is : others ≡ Others rules letter counters) where
  abbrev edge_to : ℕ → ℕ × Vertex
  edge_to t = (letter, vertex_of t (side_of rules.accepting lowered others t))

  row_transition : (r : ℕ) → r < 32 → transition A left letter r ≡ bit targets-word r
  row_transition r h =
      let l = rules.few_letters in
      transition_in_range A R.in_range left letter r small (omega arith) h
      ∙ sym (row r h ∙ ap (λ (l : List ℕ). transition_in l left letter r) R.lefts_are)

  no_state : (r : ℕ) → A.states ≤ r → transition A left letter r ≡ false
  unfolding transition
  no_state r h = rw (le-ltb r A.states h) (go (ltb left A.states) (ltb letter A.letters) (transition_bit A left letter r))
    where
      go : (x y z : Bool) → (x && y && false && z) ≡ false
      go true true z = refl
      go true false z = refl
      go false y z = refl

  all_targets : targets A left letter ≡ those (bit targets-word) max_states 0
  unfolding targets
  all_targets =
      those_longer (transition A left letter) A.states max_states 0 R.in_range.few_states (λ k h l. no_state k (omega arith))
      ∙ those_same (transition A left letter) (bit targets-word) max_states 0 (λ k l h. row_transition k (omega arith))

  side_counters : (t : ℕ) → t < max_states → (c : Bool) → bit rules.accepting t ≡ c → stepped A B b letter t counters ≡ cond c lowered others
  side_counters t h c e =
      let n = rules.right.now.states in
      sym (counters_on_lem A B b rules.tops.now rules.masks.now n rules.left.now.letters R.right letter within rules.few_letters counters bytes t)
      ∙ ap (λ (x : Bool). counters_on rules.tops.now rules.masks.now n letter counters (one x)) (sym (R.accepting_is t h) ∙ e) ∙ go c
    where
      go : (c : Bool) → counters_on rules.tops.now rules.masks.now rules.right.now.states letter counters (one c) ≡ cond c lowered others
      go true = sym low_is
      go false = sym other_is

  pub letter_edges : edges_on A B b (vertex_of left counters) letter ≡ map edge_to (those (bit targets-word) max_states 0)
  unfolding successor
  letter_edges =
      ap (map (successor A B b (vertex_of left counters) letter)) all_targets
      ∙ maps_same (successor A B b (vertex_of left counters) letter) edge_to (bit targets-word) max_states 0
      (λ t l h. ap (λ (cs : List ℕ). (letter, vertex_of t cs)) (side_counters t (omega arith) (bit rules.accepting t) refl))

  -- the targets that are not listed, discovered, make what all targets make
  module _ (p : ℕ) (work : List ℕ) (n left_out : ℕ)
      (rest : (t : ℕ) → bit left_out t ≡ (bit targets-word t && not (listed_with work (side_of rules.accepting lowered others t) n t))) where
    apart : (t u : ℕ) → u < t → same_vertex (edge_to t).1 (edge_to u).1 ≡ false
    unfolding same_vertex
    apart t u h = ap (λ (c : Bool). c && same_list (edge_to t).1.counters (edge_to u).1.counters) (ne_eqb t u (λ e. omega arith))

    pub letter_done : (work' : List ℕ) (r : Result ℕ Stop)
        → Becomes work n work' r (λ S w. discover_all (lag_graph A B b) (below S) p w (map edge_to (those (bit left_out) max_states 0)))
        → LetterDone A B b (vertex_of left counters) letter p work n work' r
    letter_done work' r seen start ns S =
        subst (λ (w : Walk Vertex). Represents work' r start w)
        (sym
        (ap (discover_all (lag_graph A B b) (below (slot_count (length start))) p (going ns)) letter_edges
        ∙ discover_unlisted (lag_graph A B b) (below (slot_count (length start))) p edge_to apart (bit targets-word) (bit left_out) max_states 0 ns
        (λ t l. rest t ∙ ap (λ (c : Bool). bit targets-word t && not c) (sym (listed_represented A B b work n start ns S (edge_to t).1)))))
        (seen start ns S)

    -- where none is left, nothing changes
    pub letter_listed : left_out ≡ 0 → LetterDone A B b (vertex_of left counters) letter p work n work (Ok n)
    letter_listed e =
        letter_done work (Ok n)
        (λ start ns S.
        subst (λ (es : List (ℕ × Vertex)). Represents work (Ok n) start
        (discover_all (lag_graph A B b) (below (slot_count (length start))) p (going ns) es))
        (sym (ap (map edge_to) (states_none left_out e))) S)

-- Classes of the counters on one side.

module _ (work cs : List ℕ) (n : ℕ) where
  -- a class that is not 0 is the class of the counters, of a list as of any n slots
  abbrev pub KnownAmong : ℕ → Type 0
  KnownAmong c = (s : ℕ) → c ≡ suc s → class_of work cs n ≡ suc s

  pub known_small : (c : ℕ) → KnownAmong c → c ≤ n
  known_small zero K = omega arith
  known_small (suc s) K = let q = K s refl in omega (arith, class_le work cs n)

  module _ (w kept c : ℕ) (e : c ≡ cond (eqb w 0) kept (class_of work cs n)) where
    pub after_known : KnownAmong kept → KnownAmong c
    after_known K s q = go (eqb w 0) (sym e ∙ q)
      where
        go : (x : Bool) → cond x kept (class_of work cs n) ≡ suc s → class_of work cs n ≡ suc s
        go true u = K s u
        go false u = u

    pub after_class : (t : ℕ) → bit w t ≡ true → c ≡ class_of work cs n
    after_class t h = e ∙ ap (λ (x : Bool). cond x kept (class_of work cs n)) (ne_eqb w 0 (λ z. clash {X = ⊥} h (ap (λ (y : ℕ). bit y t) z ∙ bit_zero t)))

-- a list has no more slots than there are
pub known_slots : (l : Listed) (cs : List ℕ) (c : ℕ) → Known l cs c → c ≤ max_slots
known_slots l cs c K = let r = l.ready.room in omega (arith, known_small l.work.now cs l.count c K)

-- What is kept.

pub kept_places : (kept : List ℕ) (at c d : ℕ) (i : ℕ) → i ≢ at → i ≢ at + 1 → get_or (set (set kept at c) (at + 1) d) i 0 ≡ get_or kept i 0
kept_places kept at c d i h g = get_or-set_other (set kept at c) (at + 1) i d 0 g ∙ get_or-set_other kept at i c 0 h

module _ (rules : Rules) (l : Listed) (kept : List ℕ) (v : Vertex) (step : Step) where
  pub kept_low : StepKept rules l kept v step → Known l (Lowered rules step.edge.letter v.counters) (get_or kept step.at 0)
  kept_low S s e = S 0 s (omega arith) (ap (λ (i : ℕ). get_or kept i 0) (add-zero step.at) ∙ e)

  pub kept_other : StepKept rules l kept v step → Known l (Others rules step.edge.letter v.counters) (get_or kept (step.at + 1) 0)
  kept_other S s e = S 1 s (omega arith) e

  module _ (c d : ℕ) where
    pub kept_both : step.at + 2 ≤ length kept → Known l (Lowered rules step.edge.letter v.counters) c
        → Known l (Others rules step.edge.letter v.counters) d → StepKept rules l (set (set kept step.at c) (step.at + 1) d) v step
    kept_both fits C D zero s h e =
        C s (sym (ap (λ (i : ℕ). get_or (set (set kept step.at c) (step.at + 1) d) i 0) (add-zero step.at)
        ∙ get_or-set_other (set kept step.at c) (step.at + 1) step.at d 0 (λ q. omega arith) ∙ get_or-set_same kept step.at c 0 (omega arith)) ∙ e)
    kept_both fits C D (suc zero) s h e =
        D s (sym (get_or-set_same (set kept step.at c) (step.at + 1) d 0 (omega (arith, length-set kept step.at c))) ∙ e)
    kept_both fits C D (suc (suc y)) s h e = absurd (omega arith)

-- Targets that are listed.

module _ (l : Listed) where
  abbrev work : List ℕ
  work = l.work.now

  abbrev index : Index
  index = l.index.now

  abbrev n : ℕ
  n = l.count

  J : Joined work index n
  J = l.ready.index_is.joined

  -- where no target is left, the kept class of a side that has targets is known
  pub none_left_low : (cs : List ℕ) (c d w v x t : ℕ) → Known l cs c → TargetsUnlisted index c d w v x → bit x t ≡ false → t < max_states
      → bit w t ≡ true → bit (listed_in index c) t ≡ listed_with work cs n t
  none_left_low cs zero d w v x t K W e l h = clash (W t ∙ go (bit w t) (bit v t && not (bit (listed_in index d) t)) h) e
    where
      go : (y z : Bool) → y ≡ true → ((y && not (bit 0 t)) || z) ≡ true
      go true z q = ap (λ (u : Bool). not u || z) (bit_zero t)
      go false z q = absurd (true≢false (sym q))
  none_left_low cs (suc s) d w v x t K W e l h = class_listed work index n J cs (suc s) t (sym (K s refl)) l

  pub none_left_other : (cs : List ℕ) (c d w v x t : ℕ) → Known l cs d → TargetsUnlisted index c d w v x → bit x t ≡ false → t < max_states
      → bit v t ≡ true → bit (listed_in index d) t ≡ listed_with work cs n t
  none_left_other cs c zero w v x t K W e l h = clash (W t ∙ go (bit w t && not (bit (listed_in index c) t)) (bit v t) h) e
    where
      go : (z y : Bool) → y ≡ true → (z || (y && not (bit 0 t))) ≡ true
      go true y q = refl
      go false true q = ap not (bit_zero t)
      go false false q = absurd (true≢false (sym q))
  none_left_other cs c (suc s) w v x t K W e l h = class_listed work index n J cs (suc s) t (sym (K s refl)) l

  module _ (tw accepting : ℕ) (small : tw < 2 ^ 32) (lowered others : List ℕ) (c d x : ℕ)
      (X : TargetsUnlisted index c d (bit_and tw accepting) (bit_xor tw (bit_and tw accepting)) x)
      (low : (t : ℕ) → t < max_states → bit (bit_and tw accepting) t ≡ true → bit (listed_in index c) t ≡ listed_with work lowered n t)
      (high : (t : ℕ) → t < max_states → bit (bit_xor tw (bit_and tw accepting)) t ≡ true
      → bit (listed_in index d) t ≡ listed_with work others n t) where
    bit_low_side : (t : ℕ) → bit (bit_and tw accepting) t ≡ (bit tw t && bit accepting t)
    bit_low_side t = bit_of_and tw accepting t

    bit_other_side : (t : ℕ) → bit (bit_xor tw (bit_and tw accepting)) t ≡ other (bit tw t) (bit tw t && bit accepting t)
    bit_other_side t = bit_of_xor tw (bit_and tw accepting) t ∙ ap (other (bit tw t)) (bit_low_side t)

    pub left_over : (t : ℕ) → bit x t ≡ (bit tw t && not (listed_with work (side_of accepting lowered others t) n t))
    left_over t = X t ∙ go (bit tw t) (bit accepting t) refl refl
      where
        go : (P a : Bool) → bit tw t ≡ P → bit accepting t ≡ a
            → ((bit (bit_and tw accepting) t && not (bit (listed_in index c) t))
            || (bit (bit_xor tw (bit_and tw accepting)) t && not (bit (listed_in index d) t)))
            ≡ (P && not (listed_with work (cond a lowered others) n t))
        go false a p q =
            let u : bit (bit_and tw accepting) t ≡ false = bit_low_side t ∙ rw p in
            let v : bit (bit_xor tw (bit_and tw accepting)) t ≡ false = bit_other_side t ∙ rw p in
            rw (u, v)
        go true a p q = inside (ltb t max_states) refl a q
          where
            inside : (b : Bool) → ltb t max_states ≡ b → (a : Bool) → bit accepting t ≡ a
                → ((bit (bit_and tw accepting) t && not (bit (listed_in index c) t))
                || (bit (bit_xor tw (bit_and tw accepting)) t && not (bit (listed_in index d) t)))
                ≡ not (listed_with work (cond a lowered others) n t)
            inside false e a q = clash p (bit_past tw t small (ltb-false t max_states e))
            inside true e true q =
                let u : bit (bit_and tw accepting) t ≡ true = bit_low_side t ∙ rw (p, q) in
                let v : bit (bit_xor tw (bit_and tw accepting)) t ≡ false = bit_other_side t ∙ rw (p, q) in
                rw (u, v, low t (ltb-true t max_states e) u) (or_false (not (listed_with work lowered n t)))
              where
                or_false : (z : Bool) → (z || false) ≡ z
                or_false true = refl
                or_false false = refl
            inside true e false q =
                let u : bit (bit_and tw accepting) t ≡ false = bit_low_side t ∙ rw (p, q) in
                let v : bit (bit_xor tw (bit_and tw accepting)) t ≡ true = bit_other_side t ∙ rw (p, q) in
                rw (u, v, high t (ltb-true t max_states e) v)

  -- classes of both sides
  module _ (sides : Sides) (tw x : ℕ) (small : tw < 2 ^ 32)
      (X : TargetsUnlisted index sides.low.class sides.other.class (bit_and tw sides.accepting) (bit_xor tw (bit_and tw sides.accepting)) x)
      (lows : (t : ℕ) → bit (bit_and tw sides.accepting) t ≡ true → sides.low.class ≡ class_of work sides.low.keyed.counters.now n)
      (highs : (t : ℕ) → bit (bit_xor tw (bit_and tw sides.accepting)) t ≡ true → sides.other.class ≡ class_of work sides.other.keyed.counters.now n) where
    pub sides_left : (t : ℕ) → bit x t ≡ (bit tw t && not (listed_with work (counters_to sides t) n t))
    sides_left =
        left_over tw sides.accepting small sides.low.keyed.counters.now sides.other.keyed.counters.now sides.low.class sides.other.class x X
        (λ t l h. class_listed work index n J sides.low.keyed.counters.now sides.low.class t (lows t h) l)
        (λ t l h. class_listed work index n J sides.other.keyed.counters.now sides.other.class t (highs t h) l)

    both : (P q : Bool) → (P && not q) ≡ true → (P ≡ true) × (q ≡ false)
    both true true e = absurd (true≢false (sym e))
    both true false e = (refl, refl)
    both false q e = absurd (true≢false (sym e))

    left_target : (t : ℕ) → bit x t ≡ true → (bit tw t ≡ true) × (listed_with work (counters_to sides t) n t ≡ false)
    left_target t h = both (bit tw t) (listed_with work (counters_to sides t) n t) (sym (sides_left t) ∙ h)

    pub sides_ready : SidesReady work n x sides
    sides_ready =
        record {
          low_class = λ t h a. lows t (bit_of_and tw sides.accepting t ∙ rw ((left_target t h).0, a));
          other_class = λ t h a.
              highs t (bit_of_xor tw (bit_and tw sides.accepting) t ∙ rw (bit_of_and tw sides.accepting t, (left_target t h).0, a));
          unlisted = λ t h. (left_target t h).1;
        }

  -- where no target is left by the classes that are kept, all are listed
  pub kept_left : (rules : Rules) (kept : List ℕ) (v : Vertex) (step : Step) → StepKept rules l kept v step → (tw x : ℕ) → tw < 2 ^ 32
      → TargetsUnlisted index (get_or kept step.at 0) (get_or kept (step.at + 1) 0) (bit_and tw rules.accepting)
      (bit_xor tw (bit_and tw rules.accepting)) x → x ≡ 0 → (t : ℕ) → bit x t ≡ (bit tw t
      && not (listed_with work (side_of rules.accepting (Lowered rules step.edge.letter v.counters) (Others rules step.edge.letter v.counters) t) n t))
  kept_left rules kept v step S tw x small X z =
      left_over tw rules.accepting small (Lowered rules step.edge.letter v.counters) (Others rules step.edge.letter v.counters) _ _ x X
      (λ t h g. none_left_low _ _ _ _ _ x t (kept_low rules l kept v step S) X (none t) h g)
      (λ t h g. none_left_other _ _ _ _ _ x t (kept_other rules l kept v step S) X (none t) h g)
    where
      none : (t : ℕ) → bit x t ≡ false
      none t = ap (λ (y : ℕ). bit y t) z ∙ bit_zero t

pub counters_long : (tops : List ℕ) (visits : ℕ) (xs : List ℕ) → length (stepped_counters tops visits xs) ≡ max_states
unfolding stepped_counters
counters_long tops visits xs = length-table _ max_states 0
