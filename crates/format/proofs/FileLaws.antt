-- What a file that is read, or refused, comes to: the automaton is in range and its sets have their lengths, a refusal is one of 1 to
-- 5, and a file is read in one way only. Each record keeps the automaton so far in range. Assumes nothing.
use mathlib.Core.Path.{◌≡◌, subst, ◌∙◌}
use mathlib.Core.List.{List}
use Prim.Native.Nat.{ℕ, zero, suc, ◌≤◌, ◌<◌}
use native.Mathlib.Omega.{arith}
use lib.Dec.{T}
use lib.ListN.{length}
use Rattle.automaton.specs.declared.Automaton.{Automaton}
use Rattle.automaton.specs.Automata.{bare, with_accepting, with_transition, header_values, InRange}
use Rattle.automaton.proofs.Bits.{bare_lengths, bare_in_range, with_accepting_lengths, with_accepting_in_range, with_transition_lengths, with_transition_in_range}
use Rattle.format.specs.File.{Read, refused, holds, Step, over, next, header, record_at, records, read_file}
use Rattle.format.specs.Writing.{Item, accepting_item, transition_item}
use Rattle.format.specs.Spelling.{Within, with_item}
use Rattle.format.specs.Refusals.{Front, Fault, one, two, three, four, five}
use Rattle.format.proofs.RecordSteps.{Faulty, first, second, fourth, fifth, HeaderStep, without_header, starts, RecordStep, fault, ends, adds, header_step, record_step}

-- an automaton in range, with its sets in full
pub record WholeSets (A : Automaton) : Type 0 where
  pub in_range : InRange A
  pub accepting_length : length A.accepting ≡ 4
  pub transitions_length : length A.transitions ≡ 2048

abbrev SoundRead : Read → Type 0
SoundRead (refused n) = (1 ≤ n) × (n ≤ 5)
SoundRead (holds A) = WholeSets A

abbrev SoundStep : Step → Type 0
SoundStep (over r) = SoundRead r
SoundStep (next i A) = WholeSets A

pub bare_whole : (n k i : ℕ) → T (header_values n k i) → WholeSets (bare n k i)
bare_whole n k i v =
    let e = bare_lengths n k i in
    record { in_range = bare_in_range n k i v; accepting_length = e.0; transitions_length = e.1 }

with_accepting_whole : (A : Automaton) (q : ℕ) → q < A.states → WholeSets A → WholeSets (with_accepting A q)
with_accepting_whole A q h w =
    let e = with_accepting_lengths A q in
    record {
      in_range = with_accepting_in_range A q h w.accepting_length w.in_range;
      accepting_length = e.0 ∙ w.accepting_length;
      transitions_length = e.1 ∙ w.transitions_length;
    }

with_transition_whole : (A : Automaton) (q a r : ℕ) → q < A.states → a < A.letters → r < A.states
    → WholeSets A → WholeSets (with_transition A q a r)
with_transition_whole A q a r hq ha hr w =
    let e = with_transition_lengths A q a r in
    record {
      in_range = with_transition_in_range A q a r hq ha hr w.transitions_length w.in_range;
      accepting_length = e.0 ∙ w.accepting_length;
      transitions_length = e.1 ∙ w.transitions_length;
    }

pub with_item_whole : (A : Automaton) (x : Item) → Within A.states A.letters x → WholeSets A → WholeSets (with_item A x)
with_item_whole A (accepting_item q) h w = with_accepting_whole A q h w
with_item_whole A (transition_item q a r) h w = with_transition_whole A q a r h.0 h.1 h.2 w

fault_number : {F : Front} {l : List ℕ} {n : ℕ} → Fault F l n → (1 ≤ n) × (n ≤ 5)
fault_number (one e) = (omega arith, omega arith)
fault_number (two e) = (omega arith, omega arith)
fault_number (three e v) = (omega arith, omega arith)
fault_number (four x t e h) = (omega arith, omega arith)
fault_number (five x t e w m) = (omega arith, omega arith)

faulty_number : {A : Automaton} {l : List ℕ} {n : ℕ} → Faulty A l n → (1 ≤ n) × (n ≤ 5)
faulty_number (first e) = (omega arith, omega arith)
faulty_number (second e) = (omega arith, omega arith)
faulty_number (fourth x t e h) = (omega arith, omega arith)
faulty_number (fifth x t e w h) = (omega arith, omega arith)

header_sound : {s : List ℕ} {x : Step} → HeaderStep s x → SoundStep x
header_sound (without_header f) = fault_number f
header_sound (starts n k i t e v) = bare_whole n k i v

record_sound : {s : List ℕ} {i : ℕ} {A : Automaton} {x : Step} → WholeSets A → RecordStep s i A x → SoundStep x
record_sound w (fault f) = faulty_number f
record_sound w (ends e) = w
record_sound {A = A} w (adds x t e h n) = with_item_whole A x h w

records_sound : (n : ℕ) (s : List ℕ) (x : Step) → SoundStep x → SoundRead (records n s x)
unfolding records
records_sound zero s (over r) h = h
records_sound zero s (next i A) h = (omega arith, omega arith)
records_sound (suc n) s (over r) h = h
records_sound (suc n) s (next i A) h = records_sound n s (record_at s i A) (record_sound h (record_step s i A))

read_sound : (s : List ℕ) → SoundRead (read_file s)
unfolding read_file
read_sound s = records_sound (length s) s (header s) (header_sound (header_step s))

pub file_whole : (s : List ℕ) (A : Automaton) → read_file s ≡ holds A → WholeSets A
file_whole s A e = subst SoundRead e (read_sound s)

pub file_in_range : (s : List ℕ) (A : Automaton) → read_file s ≡ holds A → InRange A
file_in_range s A e = (file_whole s A e).in_range

pub file_refusals : (s : List ℕ) (n : ℕ) → read_file s ≡ refused n → (1 ≤ n) × (n ≤ 5)
file_refusals s n e = subst SoundRead e (read_sound s)

-- A file is read in one way only.

pub read_same : {x : Read} {A B : Automaton} → x ≡ holds A → x ≡ holds B → A ≡ B
read_same e d = cc

pub read_not_both : {x : Read} {A : Automaton} {n : ℕ} → x ≡ holds A → x ≡ refused n → ⊥
read_not_both e d = let z : ◌≡◌ {A = ℕ} 0 1 = cc in omega arith
