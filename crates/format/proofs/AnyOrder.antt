-- The order of the records does not matter: two files with the same header and the same records hold the same automaton. The
-- bytes of an automaton that is read are below 256, and its accepting states and transitions are those of the records. Assumes nothing.
use mathlib.Core.Path.{◌≡◌, sym, subst}
use mathlib.Core.Logic.{◌↔◌}
use mathlib.Core.List.{List, [], ◌∷◌, Memᴰ}
use Prim.Native.Nat.{ℕ}
use Rattle.automaton.specs.declared.Automaton.{Automaton}
use Rattle.automaton.specs.Automata.{accepts, transition, InRange}
use Rattle.automaton.proofs.Booleans.{same_test}
use Rattle.automaton.specs.Sets.{Bytes}
use Rattle.automaton.proofs.EqualAutomata.{equal_automata}
use Rattle.format.specs.File.{holds, read_file}
use Rattle.format.specs.Writing.{Item, accepting_item, transition_item}
use Rattle.format.specs.Spelling.{with_item, with_items, Spells}
use Rattle.format.proofs.FileLaws.{file_in_range}
use Rattle.format.proofs.SetBytes.{SetBytes, bare_bytes, with_item_bytes}
use Rattle.format.proofs.RecordSteps.{Has}
use Rattle.format.proofs.FileBytes.{file_held_iff, spells_has_iff}

items_bytes_lem : (A : Automaton) (xs : List Item) → SetBytes A → SetBytes (with_items A xs)
unfolding with_items
items_bytes_lem A [] b = b
items_bytes_lem A (x ∷ xs) b = items_bytes_lem (with_item A x) xs (with_item_bytes A x b)

-- the sets of an automaton that is read are bytes, so many of them
pub file_bytes_lem : (s : List ℕ) (A : Automaton) → read_file s ≡ holds A → Bytes 4 A.accepting × Bytes 2048 A.transitions
file_bytes_lem s A e =
    let S = (file_held_iff s A).0 e in
    subst SetBytes (sym S.all) (items_bytes_lem _ S.items (bare_bytes A.states A.letters A.initial))

-- automata in range whose sets are bytes are equal if they have the same header and the same records
pub equal_by_items : (A B : Automaton) → InRange A → InRange B → Bytes 4 A.accepting × Bytes 2048 A.transitions
    → Bytes 4 B.accepting × Bytes 2048 B.transitions → A.states ≡ B.states → A.letters ≡ B.letters → A.initial ≡ B.initial
    → ((x : Item) → Has A x ↔ Has B x) → A ≡ B
equal_by_items A B in_a in_b bA bB n k i h =
    equal_automata A B in_a in_b bA bB n k i
    (λ q. let e = h (accepting_item q) in same_test (accepts A q) (accepts B q) e.0 e.1)
    (λ q a r. let e = h (transition_item q a r) in same_test (transition A q a r) (transition B q a r) e.0 e.1)

pub any_order : (s t : List ℕ) (A B : Automaton) (S : Spells s A) (R : Spells t B)
    → A.states ≡ B.states → A.letters ≡ B.letters → A.initial ≡ B.initial
    → ((x : Item) → Memᴰ x S.items ↔ Memᴰ x R.items) → A ≡ B
any_order s t A B S R n k i m =
    let eA = (file_held_iff s A).1 S in
    let eB = (file_held_iff t B).1 R in
    equal_by_items A B (file_in_range s A eA) (file_in_range t B eB) (file_bytes_lem s A eA) (file_bytes_lem t B eB) n k i
    (λ x. (
      λ h. (spells_has_iff t B R x).1 ((m x).0 ((spells_has_iff s A S x).0 h)),
      λ h. (spells_has_iff s A S x).1 ((m x).1 ((spells_has_iff t B R x).0 h)),
    ))
