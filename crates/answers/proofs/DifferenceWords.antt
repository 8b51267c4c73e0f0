-- The word of a walk's final vertex, written in front of the word buffer where it has room, shows the difference. Assumes nothing.
use mathlib.Core.Path.{◌≡◌, refl, sym, subst}
use mathlib.Core.Bool.{Bool, true, false, cond}
use mathlib.Core.List.{List, ◌++◌}
use Prim.Native.Nat.{ℕ}
use lib.Dec.{leb}
use lib.ListN.{length, take, drop}
use lib.Seq.{take-append_seam}
use Rattle.automaton.specs.declared.Automaton.{Automaton}
use Rattle.automaton.specs.Automata.{InRange}
use Rattle.runs.specs.Containment.{Shows}
use Rattle.automaton.proofs.Booleans.{clash}
use Rattle.slots.specs.declared.Vertex.{Vertex}
use Rattle.graph.specs.Discovery.{Node, ended}
use Rattle.graph.specs.Walks.{word_of, word_after, Fits}
use Rattle.graph.proofs.WalkTheorem.{list_differs}
use Rattle.answers.specs.Demand2.{Difference}

front_word : (c : Bool) (w word : List ℕ) → c ≡ true → take (length w) (cond c (w ++ drop (length w) word) word) ≡ w
front_word true w word e = take-append_seam w (drop (length w) word)
front_word false w word e = clash e refl

pub written_shown : {A B : Automaton} {b S i len : ℕ} {ns : List (Node Vertex)} {n : Node Vertex} (word : List ℕ)
    → InRange B → Fits A B b S (ended ns n) → i ≡ length ns → len ≡ length (word_of A B b ns n)
    → leb (length (word_of A B b ns n)) (length word) ≡ true → Difference A B b S i len (word_after word (word_of A B b ns n))
written_shown {A} {B} {b} {S} {i} {len} {ns} {n} word r fits place size room =
    let front : take len (word_after word (word_of A B b ns n)) ≡ word_of A B b ns n =
    subst (λ (k : ℕ). take k (word_after word (word_of A B b ns n)) ≡ word_of A B b ns n) (sym size)
    (front_word (leb (length (word_of A B b ns n)) (length word)) (word_of A B b ns n) word room) in
    record {
      nodes = ns;
      last = n;
      fits = fits;
      place = place;
      size = size;
      front = front;
      shows = subst (Shows A B b) (sym front) (list_differs A B b S r.few_states r.initial_below ns n fits);
    }
