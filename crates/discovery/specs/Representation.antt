-- How the code's answers and the bytes of the work buffer stand for a walk, for the contracts of the code.
--   walked_of S w              the answer for the walk w with S slots: how many vertices are listed, or the place of the final vertex with the letter
--                              and the parent by which it was found, or S
--   vertex_of l cs             the vertex of a left state and counters
--   Represents work r start w  r is the answer for w, and work is the buffer that was `start` when the walk began, after w
--   Becomes                    from a buffer that represents a list with n vertices the code goes on to represent what `step` makes of it
--   Ready                      a work buffer with n slots taken, none of them by a final vertex, and its index: what the next successor needs
--   Takes n v work' r          where the answer r goes on, v has taken slot n
--   Grows work n work' r       the slots below n are in work' as in work, and the answer r lists no fewer than n
--   ClassKnown class sure c    what is known of the class c: it is `class` where that is not 0, or where it is sure
--   side_of                     what a left target t has of two sides: that of the one where t accepts, and else that of the other
--   counters_to                 the counters of the side of t
--   SideReady                  the class of the side's counters is known, and the left target t is not listed with them
--   TargetReady, SidesReady    the same of the side of t; classes of both sides, and that none of the targets is listed
-- Shown by `listed_represented`, `listed_left_out` and `discover_with_slot`. Assumes nothing.
use Rattle.std.specs.Prelude.{◌≡◌, Bool, true, false, cond, List, [], ◌∷◌, ℕ, suc, ◌+◌, ◌≤◌, ◌<◌, length, Result, Ok, Err, IfOk}
use Rattle.automaton.specs.Automata.{max_states}
use Rattle.automaton.specs.Sets.{bit}
use Rattle.slots.specs.declared.Vertex.{Vertex}
use Rattle.slots.specs.Slots.{slot_count, all_zero}
use Rattle.slots.specs.Bytes.{vertex_at}
use Rattle.classes.specs.Classes.{class_of, listed_with, Classes}
use Rattle.classes.specs.declared.Index.{Index}
use Rattle.graph.specs.Discovery.{Node, Walk, going, ended, full, nodes_of}
use Rattle.graph.specs.Walks.{work_after}
use Rattle.discovery.specs.declared.Stop.{Stop}
use Rattle.discovery.specs.declared.Stop.TheVariants.{Final, Full}
use Rattle.discovery.specs.declared.sides.Side.{Side}
use Rattle.discovery.specs.declared.sides.Sides.{Sides}

abbrev pub walked_of : ℕ → Walk Vertex → Result ℕ Stop
walked_of S (going ns) = Ok (length ns)
walked_of S (ended ns n) = Err (Final (length ns) n.letter n.parent)
walked_of S (full ns) = Err (Full S)

abbrev pub vertex_of : ℕ → List ℕ → Vertex
vertex_of l cs = record { left = l; counters = cs }

-- every vertex has 32 counters
abbrev pub Wide : List (Node Vertex) → Type 0
Wide [] = Unit {0}
Wide (n ∷ ns) = (length n.vertex.counters ≡ max_states) × Wide ns

pub record Represents (work : List ℕ) (r : Result ℕ Stop) (start : List ℕ) (w : Walk Vertex) : Type 0 where
  pub answer : r ≡ walked_of (slot_count (length start)) w
  pub bytes : work ≡ work_after start w
  pub wide : Wide (nodes_of w)
  pub room : length (nodes_of w) ≤ slot_count (length start)

-- `step` takes the number of slots
abbrev pub Becomes : List ℕ → ℕ → List ℕ → Result ℕ Stop → (ℕ → Walk Vertex → Walk Vertex) → Type 0
Becomes before n after r step =
    (start : List ℕ) (ns : List (Node Vertex)) → Represents before (Ok n) start (going ns)
    → Represents after r start (step (slot_count (length start)) (going ns))

pub record Ready (work : List ℕ) (index : Index) (n : ℕ) : Type 0 where
  pub room : n ≤ slot_count (length work)
  pub index_is : Classes work index n
  pub lefts : (s : ℕ) → s < n → (vertex_at work s).left < max_states
  pub alive : (s : ℕ) → s < n → all_zero (vertex_at work s).counters ≡ false

abbrev pub Takes : ℕ → Vertex → List ℕ → Result ℕ Stop → Type 0
Takes n v work' r = IfOk r (λ m. (m ≡ n + 1) × (vertex_at work' n ≡ v))

pub record Grows (work : List ℕ) (n : ℕ) (work' : List ℕ) (r : Result ℕ Stop) : Type 0 where
  pub slots : (s : ℕ) → s < n → vertex_at work' s ≡ vertex_at work s
  pub no_fewer : IfOk r (λ m. n ≤ m)

pub record ClassKnown (class : ℕ) (sure : Bool) (c : ℕ) : Type 0 where
  pub where_sure : sure ≡ true → class ≡ c
  pub where_some : (s : ℕ) → class ≡ suc s → class ≡ c

-- accepting are the left states that accept
abbrev pub side_of : {A : Type 0} → ℕ → A → A → ℕ → A
side_of accepting low other t = cond (bit accepting t) low other

abbrev pub counters_to : Sides → ℕ → List ℕ
counters_to sides t = side_of sides.accepting sides.low.keyed.counters.now sides.other.keyed.counters.now t

pub record SideReady (work : List ℕ) (n t : ℕ) (side : Side) (sure : Bool) : Type 0 where
  pub known : ClassKnown side.class sure (class_of work side.keyed.counters.now n)
  pub unlisted : listed_with work side.keyed.counters.now n t ≡ false

-- the side of the left target t
abbrev pub TargetReady : List ℕ → ℕ → Sides → Bool → ℕ → Type 0
TargetReady work n sides sure t = SideReady work n t (side_of sides.accepting sides.low sides.other t) sure

pub record SidesReady (work : List ℕ) (n targets : ℕ) (sides : Sides) : Type 0 where
  pub low_class : (t : ℕ) → bit targets t ≡ true → bit sides.accepting t ≡ true → sides.low.class ≡ class_of work sides.low.keyed.counters.now n
  pub other_class : (t : ℕ) → bit targets t ≡ true → bit sides.accepting t ≡ false → sides.other.class ≡ class_of work sides.other.keyed.counters.now n
  pub unlisted : (t : ℕ) → bit targets t ≡ true → listed_with work (counters_to sides t) n t ≡ false
