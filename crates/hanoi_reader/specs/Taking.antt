-- How the code holds a reading: the automaton so far, the states that are declared as a set of bytes, the state declared last, and no description at all.
-- `Reading` of the crate `hanoi` says what a step is, and `Meaning` what automaton a description has. Only contracts of the reader name these.
--   Headed y h          the header of the text of the scanner y is h, and y is at the body
--   with_mask A q m r n a  A with the transitions from q to r on those of the n letters from a on whose bit is set in m
--   latest_state xs     the state that was declared last, if there is one
--   Held D k d l A      the code holds the well-formed description D, by the k propositions, the declared states d, the latest state l and the automaton A
--   Holds k d l A       the code holds some description
--   goes r              a refusal, or that the reading goes on, as `take_part` answers
--   described_before s  what the text describes before its end or its first fault
--   Described s A       the text s is read, and A is its automaton
--   ReadTo s r A        reading s came to r, and left the automaton A of what was read
-- Shown by `going_starts`, `going_past`, `going_ends` and `going_stops`: how a reading goes on after a step. Assumes nothing.
use Rattle.std.specs.Prelude.{◌≡◌, Bool, true, false, List, [], ◌∷◌, ℕ, zero, suc, ◌<◌, ◌≤◌, length, Option, Some, None, Result, Ok, Err}
use Rattle.automaton.specs.declared.Automaton.{Automaton}
use Rattle.automaton.specs.Sets.{bit, member}
use Rattle.automaton.specs.Automata.{max_states, with_transition}
use Rattle.tokens.specs.declared.scanner.Scanner.{Scanner}
use Rattle.hanoi.specs.declared.TextRefusal.{TextRefusal}
use Rattle.hanoi.specs.Numbers.{text_number}
use Rattle.hanoi.specs.Descriptions.{Part, declared, edge, Description, headed}
use Rattle.hanoi.specs.Reading.{refused, describes, Step, over, next, header, is_declared, part_at, read_hanoi}
use Rattle.hanoi.specs.Meaning.{automaton_of, WellFormed}
use Rattle.hanoi_header.specs.declared.Header.{Header}
use Rattle.hanoi_header.specs.Headers.{headed_by, InRanges}

pub record Headed (y : Scanner) (h : Header) : Type 0 where
  pub step : next y.at (headed_by h) ≡ header y.text.now
  pub in_ranges : InRanges h
  pub behind : 1 ≤ y.at

unfoldable pub with_mask : Automaton → ℕ → ℕ → ℕ → ℕ → ℕ → Automaton
with_mask A q m r zero a = A
with_mask A q m r (suc n) a = with_mask (elim (bit m a) [ true ↦ with_transition A q a r | false ↦ A ]) q m r n (suc a)

abbrev pub latest_state : List Part → Option ℕ
latest_state [] = None
latest_state (declared q b ∷ xs) = Some q
latest_state (edge q L r ∷ xs) = Some q

pub record Held (D : Description) (k : ℕ) (d : List ℕ) (l : Option ℕ) (A : Automaton) : Type 0 where
  pub well_formed : WellFormed D
  pub propositions : D.propositions ≡ k
  pub automaton : A ≡ automaton_of D
  pub size : length d ≡ 4
  pub declares : (q : ℕ) → q < max_states → member d q ≡ is_declared q D.parts
  pub latest : latest_state D.parts ≡ l

-- from the beginning of the body on there is one
abbrev pub Holds : ℕ → List ℕ → Option ℕ → Automaton → Type 0
Holds k d l A = (D : Description) × Held D k d l A

abbrev pub goes : Result (Unit {0}) TextRefusal → Result Bool TextRefusal
goes (Err f) = Err f
goes (Ok _) = Ok true

-- the description after the step x and the parts past it, at most n of them, with D before the step
unfoldable pub described_past : ℕ → List ℕ → Step → Description → Description
described_past zero s (over r) D = D
described_past zero s (next i E) D = E
described_past (suc n) s (over r) D = D
described_past (suc n) s (next i E) D = described_past n s (part_at s i E) E

unfoldable pub described_before : List ℕ → Description
described_before s = described_past (length s) s (header s) (headed 0 0 0)

pub record Described (s : List ℕ) (A : Automaton) : Type 0 where
  pub description : Description
  pub read : read_hanoi s ≡ describes description
  pub automaton : A ≡ automaton_of description

abbrev pub ReadTo : List ℕ → Result (Unit {0}) TextRefusal → Automaton → Type 0
ReadTo s (Err f) A = (read_hanoi s ≡ refused (text_number f)) × (A ≡ automaton_of (described_before s))
ReadTo s (Ok _) A = Described s A
