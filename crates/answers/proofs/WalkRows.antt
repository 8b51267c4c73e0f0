-- The conditions of a table's rows that speak of the discovery list, read off the walk: a list of the vertices that fits, a final vertex,
-- or the need of more slots, exactly one of the three. Assumes nothing.
use mathlib.Core.Path.{◌≡◌, subst}
use mathlib.Core.List.{List}
use Prim.Native.Nat.{ℕ}
use Rattle.automaton.specs.declared.Automaton.{Automaton}
use Rattle.slots.specs.declared.Vertex.{Vertex}
use Rattle.graph.specs.Discovery.{Node, Walk, going, ended}
use Rattle.graph.specs.Walks.{walk_of, NeedsMore}
use Rattle.graph.proofs.WalkTheorem.{walk_going, walk_ended}
use Rattle.answers.specs.Table.{Final, Whole}

going_same : {w : Walk Vertex} {ns ms : List (Node Vertex)} → w ≡ going ns → w ≡ going ms → ms ≡ ns
going_same e d = cc

ended_same : {w : Walk Vertex} {ns ms : List (Node Vertex)} {n m : Node Vertex} → w ≡ ended ns n → w ≡ ended ms m → (ms ≡ ns) × (m ≡ n)
ended_same e d = (cc, cc)

going_not_ended : {w : Walk Vertex} {ns ms : List (Node Vertex)} {m : Node Vertex} → w ≡ going ns → w ≡ ended ms m → ⊥
going_not_ended {w = w} e d = cc

module _ {A B : Automaton} {b S : ℕ} where
  whole_walk : {P : List (Node Vertex) → Type 0} (p : Whole A B b S P) → walk_of A B b S ≡ going p.nodes
  whole_walk p = (walk_going A B b S p.nodes).1 p.fits

  final_walk : {P : List (Node Vertex) → Node Vertex → Type 0} (p : Final A B b S P) → walk_of A B b S ≡ ended p.nodes p.last
  final_walk p = (walk_ended A B b S p.nodes p.last).1 p.fits

  pub whole_of : {ns : List (Node Vertex)} {P : List (Node Vertex) → Type 0} → walk_of A B b S ≡ going ns → P ns → Whole A B b S P
  whole_of {ns = ns} e p = record { nodes = ns; fits = (walk_going A B b S ns).0 e; condition = p }

  pub final_of : {ns : List (Node Vertex)} {n : Node Vertex} {P : List (Node Vertex) → Node Vertex → Type 0}
      → walk_of A B b S ≡ ended ns n → P ns n → Final A B b S P
  final_of {ns = ns} {n = n} e p = record { nodes = ns; last = n; fits = (walk_ended A B b S ns n).0 e; condition = p }

  -- what is said of the list of the vertices, or of the final vertex, holds of the walk's
  pub whole_at : {ns : List (Node Vertex)} {P : List (Node Vertex) → Type 0} → walk_of A B b S ≡ going ns → Whole A B b S P → P ns
  whole_at {P = P} e p = subst P (going_same e (whole_walk p)) p.condition

  pub final_at : {ns : List (Node Vertex)} {n : Node Vertex} {P : List (Node Vertex) → Node Vertex → Type 0}
      → walk_of A B b S ≡ ended ns n → Final A B b S P → P ns n
  final_at {ns = ns} {P = P} e p =
      let d = ended_same e (final_walk p) in
      subst (λ (k : Node Vertex). P ns k) d.1 (subst (λ (ks : List (Node Vertex)). P ks p.last) d.0 p.condition)

  -- two such conditions hold of the same list
  pub whole_same : {P Q : List (Node Vertex) → Type 0} (p : Whole A B b S P) → Whole A B b S Q → Q p.nodes
  whole_same p q = whole_at (whole_walk p) q

  pub final_same : {P Q : List (Node Vertex) → Node Vertex → Type 0} (p : Final A B b S P) → Final A B b S Q → Q p.nodes p.last
  final_same p q = final_at (final_walk p) q

  -- no two of the three
  pub going_not_final : {ns : List (Node Vertex)} {P : List (Node Vertex) → Node Vertex → Type 0}
      → walk_of A B b S ≡ going ns → Final A B b S P → ⊥
  going_not_final e p = going_not_ended e (final_walk p)

  pub ended_not_whole : {ns : List (Node Vertex)} {n : Node Vertex} {P : List (Node Vertex) → Type 0}
      → walk_of A B b S ≡ ended ns n → Whole A B b S P → ⊥
  ended_not_whole e p = going_not_ended (whole_walk p) e

module _ (A B : Automaton) (b S : ℕ) where
  pub going_enough : (ns : List (Node Vertex)) → walk_of A B b S ≡ going ns → NeedsMore A B b S → ⊥
  unfolding NeedsMore
  going_enough ns e h = h (going ns) ((walk_going A B b S ns).0 e)

  pub ended_enough : (ns : List (Node Vertex)) (n : Node Vertex) → walk_of A B b S ≡ ended ns n → NeedsMore A B b S → ⊥
  unfolding NeedsMore
  ended_enough ns n e h = h (ended ns n) ((walk_ended A B b S ns n).0 e)
