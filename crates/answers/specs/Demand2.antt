-- Demand 2 of contain: the walk's answers are exactly right, and a difference comes with a word that shows it (01, "The walk" and "Contain").
--   Passing f g b P     the two files pass every check before the walk, and P holds of their automata
--   ListFits A B b S    the discovery list fits S slots
--   Difference               what "differs", with place i and a word of so many letters, comes with: the final vertex at place i of the list,
--                       and its word, which stands in front in the word buffer, has that length and shows the difference
--   Demand2             the claim about one call
-- Shown by `demand_2`. Assumes nothing.
use Rattle.std.specs.Prelude.{◌≡◌, List, ◌⊎◌, ◌↔◌, ℕ, ◌≤◌, ◌<◌, length, take}
use Rattle.automaton.specs.declared.Automaton.{Automaton}
use Rattle.runs.specs.Containment.{Contained, Shows}
use Rattle.runs.specs.DeadStates.{Dead}
use Rattle.format.specs.File.{holds, read_file}
use Rattle.slots.specs.declared.Vertex.{Vertex}
use Rattle.slots.specs.Slots.{slot_count}
use Rattle.graph.specs.Discovery.{Node, Walk, ended}
use Rattle.graph.specs.LagGraph.{max_bound}
use Rattle.graph.specs.Walks.{word_of, Fits, NeedsMore}
use Rattle.answers.specs.Contain.{contained, differs, no_slots, no_room, outcome_of, word_buffer}
use Rattle.answers.specs.Table.{Final, Whole}

pub record Passing (f g : List ℕ) (b : ℕ) (P : Automaton → Automaton → Type 0) : Type 0 where
  pub first : Automaton
  pub second : Automaton
  pub first_read : read_file f ≡ holds first
  pub second_read : read_file g ≡ holds second
  pub bound : b ≤ max_bound
  pub letters : first.letters ≡ second.letters
  pub first_alive : (q : ℕ) → Dead first q → ⊥
  pub second_alive : (q : ℕ) → Dead second q → ⊥
  pub condition : P first second

unfoldable pub ListFits : Automaton → Automaton → ℕ → ℕ → Type 0
ListFits A B b S = (w : Walk Vertex) × Fits A B b S w

pub record Difference (A B : Automaton) (b S i len : ℕ) (buffer : List ℕ) : Type 0 where
  pub nodes : List (Node Vertex)
  pub last : Node Vertex
  pub fits : Fits A B b S (ended nodes last)
  pub place : i ≡ length nodes
  pub size : len ≡ length (word_of A B b nodes last)
  pub front : take len buffer ≡ word_of A B b nodes last
  pub shows : Shows A B b (take len buffer)

module _ (f g : List ℕ) (b : ℕ) (work word : List ℕ) where
  abbrev slots : ℕ
  slots = slot_count (length work)

  pub record Demand2 : Type 0 where
    -- "contained" exactly when the files pass the checks, the list fits the slots and the first automaton is contained in the second
    pub contained_iff : ((n : ℕ) × (outcome_of f g b work word ≡ contained n))
        ↔ Passing f g b (λ A B. ListFits A B b slots × Contained A B b)
    -- its count is the length of the list
    pub contained_count : (n : ℕ) → outcome_of f g b work word ≡ contained n
        → Passing f g b (λ A B. Whole A B b slots (λ ns. n ≡ length ns))
    -- "differs", or 11 where the word has no room, exactly when the list fits and the first is not contained in the second
    pub differs_iff : (((i : ℕ) × (len : ℕ) × (outcome_of f g b work word ≡ differs i len))
        ⊎ ((len : ℕ) × (outcome_of f g b work word ≡ no_room len)))
        ↔ Passing f g b (λ A B. ListFits A B b slots × (Contained A B b → ⊥))
    -- each of the two on its own: by whether the word of the final vertex has room
    pub differs_own_iff : ((i : ℕ) × (len : ℕ) × (outcome_of f g b work word ≡ differs i len))
        ↔ Passing f g b (λ A B. Final A B b slots (λ ns n. length (word_of A B b ns n) ≤ length word))
    pub no_room_own_iff : ((len : ℕ) × (outcome_of f g b work word ≡ no_room len))
        ↔ Passing f g b (λ A B. Final A B b slots (λ ns n. length word < length (word_of A B b ns n)))
    -- "differs" comes with a word that shows it
    pub differs_shows : (i len : ℕ) → outcome_of f g b work word ≡ differs i len
        → Passing f g b (λ A B. Difference A B b slots i len (word_buffer f g b work word))
    -- 11 gives the length that the word needs, which is more than the buffer has
    pub no_room_length : (len : ℕ) → outcome_of f g b work word ≡ no_room len
        → Passing f g b (λ A B. Final A B b slots (λ ns n. (len ≡ length (word_of A B b ns n)) × (length word < len)))
    -- 10 exactly when the list does not fit, with the number of slots
    pub no_slots_iff : (n : ℕ)
        → (outcome_of f g b work word ≡ no_slots n) ↔ (Passing f g b (λ A B. NeedsMore A B b slots) × (n ≡ slots))
