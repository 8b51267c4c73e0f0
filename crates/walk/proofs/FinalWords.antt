-- The word of the final vertex is read in the slots: the slots hold the listed nodes, whose parents have lower places, so the
-- parents' letters in the slots spell the word of the definition. Assumes nothing.
use mathlib.Core.Path.{◌≡◌, refl, sym, ◌∙◌, ap, ap₂, subst}
use mathlib.Core.Bool.{Bool, cond}
use mathlib.Core.List.{List, [], ◌∷◌, ◌++◌}
use Prim.Native.Nat.{ℕ, zero, suc, ◌+◌, ◌≤◌, ◌<◌}
use native.Mathlib.Omega.{arith}
use borrow.Author.Tests.{le-leb, lt-leb}
use lib.ListN.{length, get_or, set, drop, length-append}
use Rattle.automaton.specs.declared.Automaton.{Automaton}
use Rattle.automaton.specs.Automata.{max_states, InRange}
use Rattle.slots.specs.declared.Vertex.{Vertex}
use Rattle.slots.specs.Slots.{slot_count}
use Rattle.slots.specs.Bytes.{letter_at, parent_at, Falls, back_from, word_at}
use Rattle.slots.proofs.Words.{letter_put}
use Rattle.graph.specs.Discovery.{Graph, Node, ended, root, at, back, word_to}
use Rattle.graph.specs.LagGraph.{lag_graph}
use Rattle.graph.specs.Walks.{walk_of, work_after, word_of, word_after, Fits}
use Rattle.graph.proofs.Discoveries.{at_left, at_last, length_snoc}
use Rattle.graph.proofs.Parents.{Linked}
use Rattle.graph.proofs.Words.{word_step}
use Rattle.graph.proofs.WalkTheorem.{walk_ended, list_links, list_in_range}
use Rattle.std.specs.Prelude.{Err}
use Rattle.discovery.specs.declared.Stop.TheVariants.{Final}
use Rattle.discovery.specs.Representation.{Wide, Represents}
use Rattle.discovery.proofs.RepresentedSlots.{slot_represented, represented_length}
use Rattle.walk.specs.FinalWord.{final_word_in}

-- What the code reads.

module _ (work : List ℕ) (letter parent : ℕ) where
  final_none : (place : ℕ) → place ≡ 0 → final_word_in work place letter parent ≡ []
  unfolding final_word_in
  final_none zero e = refl
  final_none (suc place) e = absurd (omega arith)

  final_some : (place : ℕ) → 0 < place → final_word_in work place letter parent ≡ word_at work parent ++ letter ∷ []
  unfolding final_word_in
  final_some zero h = absurd (omega arith)
  final_some (suc place) h = refl

-- the answer r and the word buffer are those of the word w
abbrev pub WordGiven : List ℕ → ℕ → List ℕ → List ℕ → Type 0
WordGiven word r after w = (r ≡ length w) × (after ≡ word_after word w)

module _ (work : List ℕ) (place letter parent : ℕ) (word : List ℕ) where
  pub read_none : place ≡ 0 → WordGiven word 0 word (final_word_in work place letter parent)
  read_none e =
      subst (WordGiven word 0 word) (sym (final_none work letter parent place e))
      (refl, ap (λ (c : Bool). cond c word word) (sym (le-leb 0 (length word) (omega arith))))

  module _ (n : ℕ) (h : 0 < place) (before : n ≡ length (word_at work parent)) where
    size : length (word_at work parent ++ letter ∷ []) ≡ n + 1
    size = length-append (word_at work parent) (letter ∷ []) ∙ ap (λ (k : ℕ). k + 1) (sym before)

    pub read_short : length word ≤ n → WordGiven word (n + 1) word (final_word_in work place letter parent)
    read_short l =
        let w = word_at work parent ++ letter ∷ [] in
        subst (WordGiven word (n + 1) word) (sym (final_some work letter parent place h)) (
          sym size,
          sym (ap (λ (c : Bool). cond c (w ++ drop (length w) word) word) (lt-leb (length w) (length word) (omega (arith, size)))),
        )

    pub read_written : n < length word → (last : List ℕ) (k : ℕ) → k ≡ length (word_at work parent) → last ≡ word_at work parent ++ drop k word
        → WordGiven word (n + 1) (set last k letter) (final_word_in work place letter parent)
    read_written l last k q e =
        let w = word_at work parent ++ letter ∷ [] in
        let d : length w ≡ k + 1 = size ∙ ap (λ (j : ℕ). j + 1) (before ∙ sym q) in
        subst (WordGiven word (n + 1) (set last k letter)) (sym (final_some work letter parent place h)) (
          sym size,
          letter_put (word_at work parent) word last k letter q (omega (arith, q, before)) e
              ∙ ap (λ (j : ℕ). w ++ drop j word) (sym d)
              ∙ sym (ap (λ (c : Bool). cond c (w ++ drop (length w) word) word) (le-leb (length w) (length word) (omega (arith, size)))),
        )

-- What it reads after a walk.

-- a walk of a left and a right automaton has left `work`, and has ended with the final vertex at this place
pub record FoundFinal (work : List ℕ) (place letter parent : ℕ) : Type 0 where
  pub left : Automaton
  pub right : Automaton
  pub bound : ℕ
  pub start : List ℕ
  pub nodes : List (Node Vertex)
  pub last : Node Vertex
  pub in_range : InRange left
  pub walked : walk_of left right bound (slot_count (length start)) ≡ ended nodes last
  pub bytes : work ≡ work_after start (ended nodes last)
  pub place_is : place ≡ length nodes
  pub letter_is : letter ≡ last.letter
  pub parent_is : parent ≡ last.parent

all_wide : (ns : List (Node Vertex)) (d : Node Vertex) → ((i : ℕ) → i < length ns → length (get_or ns i d).vertex.counters ≡ max_states)
    → Wide ns
all_wide [] d h = tt
all_wide (n ∷ ns) d h = (h 0 (omega arith), all_wide ns d (λ i l. h (suc i) (omega arith)))

module _ (work : List ℕ) (place letter parent : ℕ) (E : FoundFinal work place letter parent) where
  abbrev graph : Graph
  graph = lag_graph E.left E.right E.bound

  -- the list, with the final vertex
  abbrev list : List (Node Vertex)
  list = E.nodes ++ E.last ∷ []

  fits : Fits E.left E.right E.bound (slot_count (length E.start)) (ended E.nodes E.last)
  fits = (walk_ended E.left E.right E.bound (slot_count (length E.start)) E.nodes E.last).0 E.walked

  links : (p : ℕ) × Linked graph p list
  links = list_links E.left E.right E.bound (slot_count (length E.start)) (ended E.nodes E.last) fits

  long : length list ≡ length E.nodes + 1
  long = length_snoc graph E.nodes E.last

  wide : Wide E.nodes
  wide =
      all_wide E.nodes (root graph)
      (λ i h.
      ap (λ (n : Node Vertex). length n.vertex.counters) (sym (at_left graph E.nodes (E.last ∷ []) i h))
      ∙ (list_in_range E.left E.right E.bound (slot_count (length E.start)) E.in_range.initial_below
      (ended E.nodes E.last) fits i
      (omega (arith, long))).all_counters)

  represents : Represents work (Err (Final place letter parent)) E.start (ended E.nodes E.last)
  represents =
      record {
        answer = ap₂ (λ (x : ℕ × ℕ) (p : ℕ). Err (Final x.0 x.1 p)) (ap₂ (λ (x y : ℕ). (x, y)) E.place_is E.letter_is)
            E.parent_is;
        bytes = E.bytes;
        wide = wide;
        room = fits.room;
      }

  slot : (i : ℕ) → i < length E.nodes → (letter_at work i ≡ (at graph list i).letter) × (parent_at work i ≡ (at graph list i).parent)
  slot i h =
      let s = slot_represented E.left E.right E.bound work (Err (Final place letter parent)) E.start (ended E.nodes E.last) represents
      i h in
      let q = at_left graph E.nodes (E.last ∷ []) i h in
      (s.1 ∙ ap (λ (n : Node Vertex). n.letter) (sym q), s.2 ∙ ap (λ (n : Node Vertex). n.parent) (sym q))

  falls : (i : ℕ) → 0 < i → i < length list → (at graph list i).parent < i
  falls = links.1.falls

  final_node : at graph list place ≡ E.last
  final_node = at_last graph E.nodes E.last place E.place_is

  below : 0 < place → parent < place
  below h =
      let f = falls place h (omega (arith, long, E.place_is)) in
      let e : (at graph list place).parent ≡ parent = ap (λ (n : Node Vertex). n.parent) final_node ∙ sym E.parent_is in
      omega arith

  pub parent_slot : 0 < place → parent < slot_count (length work)
  parent_slot h =
      let l = ap slot_count (represented_length work (Err (Final place letter parent)) E.start (ended E.nodes E.last) represents) in
      omega (arith, below h, E.place_is, fits.room)

  pub parents_fall : 0 < place → Falls work parent
  parents_fall h i a b =
      let l : i < length E.nodes = omega (arith, below h, E.place_is) in
      subst (λ (p : ℕ). p < i) (sym (slot i l).1) (falls i a (omega (arith, long)))

  back_represented : (k i : ℕ) → i < length E.nodes → back_from k work i ≡ back graph k list i
  back_represented zero i h = refl
  back_represented (suc k) zero h = refl
  back_represented (suc k) (suc i) h =
      let s = slot (suc i) h in
      let f = falls (suc i) (omega arith) (omega (arith, long)) in
      ap₂ (λ (l : List ℕ) (a : ℕ). l ++ a ∷ [])
      (ap (back_from k work) s.1 ∙ back_represented k (at graph list (suc i)).parent (omega arith)) s.0

  word_empty : place ≡ 0 → word_of E.left E.right E.bound E.nodes E.last ≡ []
  unfolding word_of
  word_empty e = let q : length E.nodes ≡ 0 = sym E.place_is ∙ e in rw q

  word_more : 0 < place → word_of E.left E.right E.bound E.nodes E.last ≡ word_at work parent ++ letter ∷ []
  unfolding word_of word_at
  word_more h =
      ap (word_to graph list) (sym E.place_is)
      ∙ word_step graph links.0 list links.1 place (omega (arith, long, E.place_is)) h
      ∙ ap (λ (n : Node Vertex). word_to graph list n.parent ++ n.letter ∷ []) final_node
      ∙ ap₂ (λ (p a : ℕ). word_to graph list p ++ a ∷ []) (sym E.parent_is) (sym E.letter_is)
      ∙ ap (λ (l : List ℕ). l ++ letter ∷ []) (sym (back_represented parent parent (omega (arith, below h, E.place_is))))

  -- the word that is read is the walk's
  pub final_word_is : final_word_in work place letter parent ≡ word_of E.left E.right E.bound E.nodes E.last
  final_word_is = go place refl
    where
      go : (i : ℕ) → place ≡ i → final_word_in work place letter parent ≡ word_of E.left E.right E.bound E.nodes E.last
      go zero e = final_none work letter parent place e ∙ sym (word_empty e)
      go (suc i) e = final_some work letter parent place (omega arith) ∙ sym (word_more (omega arith))
