-- The slots of a work buffer that represents a walk: each holds its node, so that the left states that are listed with counters tell whether a
-- vertex is listed, and a slot written behind them represents the list with one node more. Assumes nothing.
use mathlib.Core.Path.{◌≡◌, refl, sym, ◌∙◌, ap, ap₂, subst}
use mathlib.Core.Bool.{Bool, true, false, ◌||◌}
use mathlib.Core.Logic.{⊎_elim}
use mathlib.Core.List.{List, [], ◌∷◌, ◌++◌, flat_map, append_assoc, append-nil}
use Prim.Native.Nat.{ℕ, zero, suc, ◌+◌, ◌*◌, ◌≤◌, ◌<◌}
use native.Mathlib.Nat.{add-zero, zero-add, eq-or-lt_of_le}
use native.Mathlib.Omega.{arith}
use borrow.Author.Tests.{lt-ltb, le-ltb}
use lib.Dec.{T}
use lib.ListN.{length, drop, length-append, length-drop}
use lib.Seq.{take_at, drop_at, drop-drop}
use Rattle.automaton.specs.declared.Automaton.{Automaton}
use Rattle.automaton.specs.Automata.{max_states}
use Rattle.automaton.specs.Ranges.{some}
use Rattle.automaton.proofs.Booleans.{or_left, or_right, T_true, is_true, not_T_false, clash}
use Rattle.automaton.proofs.Ranges.{some_at, some_below}
use Rattle.slots.specs.declared.Vertex.{Vertex}
use Rattle.slots.specs.Slots.{slot_size, slot_count, slot_bytes, same_vertex, all_zero}
use Rattle.classes.specs.Classes.{listed_with, Classes}
use Rattle.slots.specs.Bytes.{with_slot, vertex_at, letter_at, parent_at}
use Rattle.slots.proofs.SlotLayout.{slot_fits, slot_long, vertex_read, letter_read, parent_read, slot_passed, with_slot_long, with_slot_vertex, with_slot_below}
use Rattle.classes.proofs.ListedStates.{listed_with_iff}
use Rattle.std.specs.Prelude.{Result, Ok, Err}
use Rattle.classes.specs.declared.Index.{Index}
use Rattle.discovery.specs.declared.Stop.{Stop}
use Rattle.discovery.specs.declared.Stop.TheVariants.{Final, Full}
use Rattle.graph.specs.Discovery.{Node, Walk, going, nodes_of, node, below, listed, discover, at}
use Rattle.graph.specs.LagGraph.{lag_graph}
use Rattle.graph.specs.Walks.{slots_of, work_after}
use Rattle.discovery.specs.Representation.{Wide, Represents, Ready, Grows}

abbrev slot_of : Node Vertex → List ℕ
slot_of n = slot_bytes n.vertex n.letter n.parent

slots_long : (ns : List (Node Vertex)) → Wide ns → length (slots_of ns) ≡ slot_size * length ns
unfolding slots_of flat_map
slots_long [] w = refl
slots_long (n ∷ ns) w =
    omega (arith, length-append (slot_of n) (slots_of ns), slot_long n.vertex n.letter n.parent w.0, slots_long ns w.1)

slots_more : (ns : List (Node Vertex)) (n : Node Vertex) → slots_of (ns ++ n ∷ []) ≡ slots_of ns ++ slot_of n
unfolding slots_of flat_map
slots_more [] n = append-nil (slot_of n)
slots_more (m ∷ ns) n = ap (λ (l : List ℕ). slot_of m ++ l) (slots_more ns n) ∙ sym (append_assoc (slot_of m) (slots_of ns) (slot_of n))

wide_more : (ns : List (Node Vertex)) (n : Node Vertex) → Wide ns → length n.vertex.counters ≡ max_states → Wide (ns ++ n ∷ [])
wide_more [] n w l = (l, tt)
wide_more (m ∷ ns) n w l = (w.0, wide_more ns n w.1 l)

-- the slots fit the work buffer
slots_fit : (k len : ℕ) → k ≤ slot_count len → slot_size * k ≤ len
slots_fit k len h = omega arith

module _ (work : List ℕ) (r : Result ℕ Stop) (start : List ℕ) (w : Walk Vertex) (S : Represents work r start w) where
  pub represented_length : length work ≡ length start
  unfolding work_after
  represented_length =
      let k = length (nodes_of w) in
      ap length S.bytes ∙ length-append (slots_of (nodes_of w)) (drop (slot_size * k) start)
      ∙ omega (arith, slots_long (nodes_of w) S.wide, length-drop (slot_size * k) start, slots_fit k (length start) S.room)

-- one slot more behind those of the list
with_slot_bytes : (start : List ℕ) (ns : List (Node Vertex)) (m : Node Vertex) → Wide ns
    → with_slot (work_after start (going ns)) (length ns) m.vertex m.letter m.parent ≡ work_after start (going (ns ++ m ∷ []))
unfolding with_slot work_after
with_slot_bytes start ns m w =
    let k = length ns in
    let X = slots_of ns in
    let D = drop (slot_size * k) start in
    let e : length X ≡ k * slot_size = omega (arith, slots_long ns w) in
    let q : slot_size * k + slot_size ≡ slot_size * length (ns ++ m ∷ []) = omega (arith, length-append ns (m ∷ [])) in
    let rest : drop (k * slot_size + slot_size) (X ++ D) ≡ drop (slot_size * length (ns ++ m ∷ [])) start =
    sym (drop-drop slot_size (k * slot_size) (X ++ D)) ∙ ap (drop slot_size) (drop_at X D (k * slot_size) e)
    ∙ drop-drop slot_size (slot_size * k) start ∙ ap (λ (j : ℕ). drop j start) q in
    ap₂ (λ (x y : List ℕ). x ++ (slot_of m ++ y)) (take_at X D (k * slot_size) e) rest
    ∙ sym (append_assoc X (slot_of m) (drop (slot_size * length (ns ++ m ∷ [])) start))
    ∙ ap (λ (x : List ℕ). x ++ drop (slot_size * length (ns ++ m ∷ [])) start) (sym (slots_more ns m))

-- before anything is discovered
pub represented_none : (work : List ℕ) → Represents work (Ok 0) work (going [])
unfolding work_after slots_of flat_map
represented_none work = record { answer = refl; bytes = refl; wide = tt; room = omega arith }

module _ (A B : Automaton) (b : ℕ) where
  slot_from : (work : List ℕ) (ms : List (Node Vertex)) (rest : List ℕ) (s i : ℕ) → Wide ms
      → drop (s * slot_size) work ≡ slots_of ms ++ rest → i < length ms
      → (vertex_at work (s + i) ≡ (at (lag_graph A B b) ms i).vertex) × (letter_at work (s + i) ≡ (at (lag_graph A B b) ms i).letter)
      × (parent_at work (s + i) ≡ (at (lag_graph A B b) ms i).parent)
  unfolding slots_of flat_map
  slot_from work [] rest s i w e h = absurd (omega arith)
  slot_from work (m ∷ ms) rest s zero w e h =
      let d : drop (s * slot_size) work ≡ slot_of m ++ (slots_of ms ++ rest) = e ∙ append_assoc (slot_of m) (slots_of ms) rest in
      rw (add-zero s) (
        vertex_read work s m.vertex m.letter m.parent (slots_of ms ++ rest) d w.0,
        letter_read work s m.vertex m.letter m.parent (slots_of ms ++ rest) d w.0,
        parent_read work s m.vertex m.letter m.parent (slots_of ms ++ rest) d w.0,
      )
  slot_from work (m ∷ ms) rest s (suc i) w e h =
      let d : drop (s * slot_size) work ≡ slot_of m ++ (slots_of ms ++ rest) = e ∙ append_assoc (slot_of m) (slots_of ms) rest in
      let q : s + suc i ≡ suc s + i = omega arith in
      rw q
      (slot_from work ms rest (suc s) i w.1
      (slot_passed work s m.vertex m.letter m.parent (slots_of ms ++ rest) d w.0)
      (omega arith))

  -- each slot holds its node
  pub slot_represented : (work : List ℕ) (r : Result ℕ Stop) (start : List ℕ) (w : Walk Vertex) → Represents work r start w → (i : ℕ) → i < length (nodes_of w)
      → (vertex_at work i ≡ (at (lag_graph A B b) (nodes_of w) i).vertex) × (letter_at work i ≡ (at (lag_graph A B b) (nodes_of w) i).letter)
      × (parent_at work i ≡ (at (lag_graph A B b) (nodes_of w) i).parent)
  unfolding work_after
  slot_represented work r start w S i h =
      rw zero-add at (slot_from work (nodes_of w) (drop (slot_size * length (nodes_of w)) start) 0 i S.wide S.bytes h)

  listed_at : (v : Vertex) (ns : List (Node Vertex)) (i : ℕ) → i < length ns → T (same_vertex v (at (lag_graph A B b) ns i).vertex)
      → T (listed (lag_graph A B b) v ns)
  listed_at v [] i h t = absurd (omega arith)
  listed_at v (n ∷ ns) zero h t = or_left (same_vertex v n.vertex) (listed (lag_graph A B b) v ns) t
  listed_at v (n ∷ ns) (suc i) h t =
      or_right (same_vertex v n.vertex) (listed (lag_graph A B b) v ns) (listed_at v ns i (omega arith) t)

  not_listed : (v : Vertex) (ns : List (Node Vertex)) → ((i : ℕ) → i < length ns → same_vertex v (at (lag_graph A B b) ns i).vertex ≡ false)
      → listed (lag_graph A B b) v ns ≡ false
  not_listed v [] h = refl
  not_listed v (n ∷ ns) h =
      ap₂ (λ (x y : Bool). x || y) (h 0 (omega arith)) (not_listed v ns (λ i l. h (suc i) (omega arith)))

  module _ (work : List ℕ) (n : ℕ) (start : List ℕ) (ns : List (Node Vertex)) (S : Represents work (Ok n) start (going ns)) where
    count : n ≡ length ns
    count = let e = S.answer in cc

    -- a vertex is in the list exactly if its left state is listed with its counters
    pub listed_represented : (v : Vertex) → listed (lag_graph A B b) v ns ≡ listed_with work v.counters n v.left
    listed_represented v = go (listed_with work v.counters n v.left) refl
      where
        held : ℕ → Bool
        held s = same_vertex v (vertex_at work s)

        go : (c : Bool) → listed_with work v.counters n v.left ≡ c → listed (lag_graph A B b) v ns ≡ c
        go true e =
            let x = some_below held n (is_true (some held n 0) (sym (listed_with_iff work v n) ∙ e)) in
            let d = slot_represented work (Ok n) start (going ns) S x.0 (omega (arith, x.1, count)) in
            T_true (listed (lag_graph A B b) v ns) (listed_at v ns x.0 (omega (arith, x.1, count)) (rw d.0 at x.2))
        go false e =
            not_listed v ns
            (λ i h.
            let d = slot_represented work (Ok n) start (going ns) S i h in
            rw d.0 at
            (not_T_false (held i)
            (λ t. clash {X = ⊥} (T_true (some held n 0) (some_at held n i (omega (arith, count)) t)) (sym (listed_with_iff work v n) ∙ e))))

  -- one successor that is not listed, by what the tests found
  module _ (work : List ℕ) (n : ℕ) (start : List ℕ) (ns : List (Node Vertex)) (S : Represents work (Ok n) start (going ns))
      (p a : ℕ) (v : Vertex) (unlisted : listed_with work v.counters n v.left ≡ false) where
    abbrev after : Walk Vertex
    after = discover (lag_graph A B b) (below (slot_count (length start))) p (going ns) (a, v)

    places : n ≡ length ns
    places = count work n start ns S

    none_listed : listed (lag_graph A B b) v ns ≡ false
    none_listed = listed_represented work n start ns S v ∙ unlisted

    pub discover_final : all_zero v.counters ≡ true → Represents work (Err (Final n a p)) start after
    unfolding work_after
    discover_final z =
        rw (none_listed, z)
        (record { answer = ap (λ (k : ℕ). Err (Final k a p)) places; bytes = S.bytes; wide = S.wide; room = S.room })

    pub discover_full : all_zero v.counters ≡ false → slot_count (length work) ≤ n
        → Represents work (Err (Full n)) start after
    unfolding work_after
    discover_full z h =
        let l = represented_length work (Ok n) start (going ns) S in
        let k = S.room in
        let q : slot_count (length work) ≡ slot_count (length start) = ap slot_count l in
        let s : n ≡ slot_count (length start) = omega (arith, places) in
        rw (none_listed, z, le-ltb (length ns) (slot_count (length start)) (omega (arith, places)))
        (record { answer = ap (λ (k : ℕ). Err (Full k)) s; bytes = S.bytes; wide = S.wide; room = S.room })

    pub discover_with_slot : all_zero v.counters ≡ false → n < slot_count (length work)
        → length v.counters ≡ max_states → Represents (with_slot work n v a p) (Ok (n + 1)) start after
    discover_with_slot z h wide =
        rw (none_listed, z, lt-ltb (length ns) (slot_count (length start)) (omega (arith, places, slots)))
        (record {
          answer = ap Ok (omega (arith, places, length-append ns (node (a, v) p ∷ [])));
          bytes = ap₂ (λ (x : List ℕ) (k : ℕ). with_slot x k v a p) S.bytes places ∙ with_slot_bytes start ns (node (a, v) p) S.wide;
          wide = wide_more ns (node (a, v) p) S.wide wide;
          room = omega (arith, places, slots, length-append ns (node (a, v) p ∷ []));
        })
      where
        slots : slot_count (length work) ≡ slot_count (length start)
        slots = ap slot_count (represented_length work (Ok n) start (going ns) S)

-- a slot written: what the next successor needs is there again, and the slots below are as they were
module _ (work : List ℕ) (n : ℕ) (v : Vertex) (a p : ℕ) (free : n < slot_count (length work)) (wide : length v.counters ≡ max_states) where
  fits : n * slot_size + slot_size ≤ length work
  fits = slot_fits n (length work) free

  -- what holds of the vertices below n, and of v, holds of those below n + 1
  each_below : (P : Vertex → Type 0) → ((s : ℕ) → s < n → P (vertex_at work s)) → P v → (s : ℕ) → s < n + 1 → P (vertex_at (with_slot work n v a p) s)
  each_below P h l s k =
      ⊎_elim
      (λ q. subst P (sym (ap (vertex_at (with_slot work n v a p)) q ∙ with_slot_vertex work n v a p fits wide)) l)
      (λ q. subst P (sym (with_slot_below work n v a p fits s wide q)) (h s q))
      (eq-or-lt_of_le {n = s} {m = n} (omega arith))

  pub ready_with_slot : (index index' : Index) → Ready work index n → v.left < max_states
      → all_zero v.counters ≡ false → Classes (with_slot work n v a p) index' (n + 1)
      → Ready (with_slot work n v a p) index' (n + 1)
  ready_with_slot index index' R l z I =
      record {
        room = let e = ap slot_count (with_slot_long work n v a p fits wide) in omega arith;
        index_is = I;
        lefts = each_below (λ u. u.left < max_states) R.lefts l;
        alive = each_below (λ u. all_zero u.counters ≡ false) R.alive z;
      }

  pub grows_with_slot : Grows work n (with_slot work n v a p) (Ok (n + 1))
  grows_with_slot = record { slots = λ s l. with_slot_below work n v a p fits s wide l; no_fewer = omega arith }

  pub taken_slot : vertex_at (with_slot work n v a p) n ≡ v
  taken_slot = with_slot_vertex work n v a p fits wide

pub ready_none : (work : List ℕ) (index : Index) → Classes work index 0 → Ready work index 0
ready_none work index I =
    record { room = omega arith; index_is = I; lefts = λ s h. absurd (omega arith); alive = λ s h. absurd (omega arith) }
