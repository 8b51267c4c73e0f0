-- What the walk's answer in code says of a walk that ended, and what the walk of two automata gives then. Assumes nothing.
use mathlib.Core.Path.{◌≡◌, refl, sym, ap, ap₂, ◌∙◌}
use mathlib.Core.List.{List}
use Prim.Native.Nat.{ℕ, ◌<◌}
use lib.ListN.{length}
use Rattle.std.specs.Prelude.{Ok, Err}
use Rattle.automaton.specs.declared.Automaton.{Automaton}
use Rattle.automaton.specs.Automata.{InRange}
use Rattle.slots.specs.declared.Vertex.{Vertex}
use Rattle.slots.specs.Slots.{slot_count}
use Rattle.slots.specs.Bytes.{Falls}
use Rattle.discovery.specs.declared.Stop.TheVariants.{Final, Full}
use Rattle.graph.specs.Discovery.{Node, Walk, going, ended, full}
use Rattle.graph.specs.Walks.{walk_of, work_after, word_of, word_after}
use Rattle.discovery.specs.Representation.{walked_of}
use Rattle.walk.specs.FinalWord.{final_word_in}
use Rattle.walk.proofs.FinalWords.{FoundFinal, parent_slot, parents_fall, final_word_is}
use Rattle.answers.specs.Outcomes.{Contained, NoSlots}
use Rattle.answers.specs.Contain.{differing, comparison, walk_word, comparing}

-- the walk ended with the final vertex that the answer tells
pub record EndedAt (w : Walk Vertex) (place letter parent : ℕ) : Type 0 where
  pub nodes : List (Node Vertex)
  pub last : Node Vertex
  pub is : w ≡ ended nodes last
  pub place_is : place ≡ length nodes
  pub letter_is : letter ≡ last.letter
  pub parent_is : parent ≡ last.parent

pub ended_at : (S : ℕ) (w : Walk Vertex) (place letter parent : ℕ) → Err (Final place letter parent) ≡ walked_of S w
    → EndedAt w place letter parent
ended_at S (going ns) place letter parent e = absurd cc
ended_at S (ended ns n) place letter parent e =
    record { nodes = ns; last = n; is = refl; place_is = cc; letter_is = cc; parent_is = cc }
ended_at S (full ns) place letter parent e = absurd cc

module _ (S : ℕ) (A B : Automaton) (b room : ℕ) (word : List ℕ) where
  pub contained_outcome : (w : Walk Vertex) (n : ℕ) → Ok n ≡ walked_of S w → (Contained n ≡ comparison A B b S room w) × (word ≡ walk_word A B b w word)
  contained_outcome (going ns) n e = (cc, refl)
  contained_outcome (ended ns m) n e = absurd cc
  contained_outcome (full ns) n e = absurd cc

  pub full_outcome : (w : Walk Vertex) (n : ℕ) → Err (Full n) ≡ walked_of S w
      → (NoSlots n ≡ comparison A B b S room w) × (word ≡ walk_word A B b w word)
  full_outcome (going ns) n e = absurd cc
  full_outcome (ended ns m) n e = absurd cc
  full_outcome (full ns) n e = (cc, refl)

-- what reading the word of the final vertex needs of the walk before it
module _ (A B : Automaton) (b : ℕ) (work after : List ℕ) (place letter parent : ℕ) where
  abbrev pub found_final : InRange A → after ≡ work_after work (walk_of A B b (slot_count (length work)))
      → EndedAt (walk_of A B b (slot_count (length work))) place letter parent → FoundFinal after place letter parent
  found_final r e f =
      record {
        left = A;
        right = B;
        bound = b;
        start = work;
        nodes = f.nodes;
        last = f.last;
        in_range = r;
        walked = f.is;
        bytes = e ∙ ap (work_after work) f.is;
        place_is = f.place_is;
        letter_is = f.letter_is;
        parent_is = f.parent_is;
      }

-- the outcome and the word buffer of a walk that ended
module _ (A B : Automaton) (b S : ℕ) {place letter parent : ℕ} where
  pub ended_outcome : (room len : ℕ) (w : Walk Vertex) (f : EndedAt w place letter parent)
      → len ≡ length (word_of A B b f.nodes f.last) → differing room place len ≡ comparison A B b S room w
  ended_outcome room len w f e =
      ap₂ (differing room) f.place_is e ∙ sym (ap (comparison A B b S room) f.is)

  pub ended_word : (word after : List ℕ) (w : Walk Vertex) (f : EndedAt w place letter parent)
      → after ≡ word_after word (word_of A B b f.nodes f.last) → after ≡ walk_word A B b w word
  ended_word word after w f e = e ∙ sym (ap (λ (x : Walk Vertex). walk_word A B b x word) f.is)

-- the walk of two automata has left `after`, and has ended with the final vertex at this place
module _ (A B : Automaton) (b : ℕ) (work after : List ℕ) (place letter parent : ℕ) (in_range : InRange A) where
  abbrev walked : Walk Vertex
  walked = walk_of A B b (slot_count (length work))

  module _ (ends : Err (Final place letter parent) ≡ walked_of (slot_count (length work)) walked) (bytes : after ≡ work_after work walked) where
    abbrev there : EndedAt walked place letter parent
    there = ended_at (slot_count (length work)) walked place letter parent ends

    abbrev found : FoundFinal after place letter parent
    found = found_final A B b work after place letter parent in_range bytes there

    -- what reading its word needs
    pub final_readable : 0 < place → (parent < slot_count (length after)) × Falls after parent
    final_readable h = (parent_slot after place letter parent found h, parents_fall after place letter parent found h)

    final_is : final_word_in after place letter parent ≡ word_of A B b there.nodes there.last
    final_is = final_word_is after place letter parent found

    module _ (word : List ℕ) where
      pub final_answer : (len room : ℕ) → room ≡ length word → len ≡ length (final_word_in after place letter parent)
          → differing room place len ≡ (comparing A B b work word).answer
      unfolding comparing
      final_answer len room m e =
          ap (λ (n : ℕ). differing n place len) m
          ∙ ended_outcome A B b (slot_count (length work)) (length word) len walked there (e ∙ ap length final_is)

      pub final_letters : (last : List ℕ) → last ≡ word_after word (final_word_in after place letter parent) → last ≡ (comparing A B b work word).word
      unfolding comparing
      final_letters last e = ended_word A B b (slot_count (length work)) word last walked there (e ∙ ap (word_after word) final_is)
