-- Automata in range whose sets are bytes, as those of files are, and they stay so where an accepting state or a transition is added. Assumes nothing.
use Prim.Native.Nat.{ℕ}
use lib.Dec.{T}
use Rattle.automaton.specs.declared.Automaton.{Automaton}
use Rattle.automaton.specs.Sets.{Bytes}
use Rattle.automaton.specs.Automata.{bare, header_values, InRange}
use Rattle.automaton.proofs.Bits.{bare_in_range}
use Rattle.format.specs.Writing.{Item}
use Rattle.format.specs.Spelling.{Within, with_item}
use Rattle.format.proofs.FileLaws.{WholeSets, with_item_whole}
use Rattle.format.proofs.SetBytes.{bare_bytes, with_item_bytes}

pub record InBytes (A : Automaton) : Type 0 where
  pub in_range : InRange A
  pub accepting_bytes : Bytes 4 A.accepting
  pub transition_bytes : Bytes 2048 A.transitions

pub bare_in_bytes : (n k i : ℕ) → T (header_values n k i) → InBytes (bare n k i)
unfolding bare
bare_in_bytes n k i v = record { in_range = bare_in_range n k i v; accepting_bytes = (bare_bytes n k i).0; transition_bytes = (bare_bytes n k i).1 }

pub with_item_in_bytes : (A : Automaton) (x : Item) → Within A.states A.letters x → InBytes A → InBytes (with_item A x)
with_item_in_bytes A x h b =
    let c = with_item_bytes A x (b.accepting_bytes, b.transition_bytes) in
    record { in_range = (with_item_whole A x h whole).in_range; accepting_bytes = c.0; transition_bytes = c.1 }
  where
    whole : WholeSets A
    whole = record { in_range = b.in_range; accepting_length = b.accepting_bytes.size; transitions_length = b.transition_bytes.size }
