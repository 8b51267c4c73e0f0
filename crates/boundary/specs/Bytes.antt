-- Entries, 01's term, as bytes for vendors (docs/reference.md, "The boundary for vendors"). An entry has 2,061 bytes:
--   byte 0          0 empty, 1 holds an edition
--   byte 1          number of states
--   byte 2          number of letters
--   byte 3          initial state
--   byte 4          first states
--   bytes 5-8       edition number, low byte first
--   bytes 9-12      accepting set, state q at bit q % 8 of byte q / 8 of them
--   bytes 13-2060   transitions, the one from q on letter a to r at bit r % 8 of byte (q * 16 + a) * 4 + r / 8 of them
-- The definitions:
--   is_entry s      the bytes s are those of an entry: 2,061, and byte 0 is 0 or 1
--   entry_of s       the entry that the bytes s describe
--   entry_bytes E   the bytes of the entry E
--   FitsBytes E     each number of E fits its bytes
--   Sized E         the arrays of E have the lengths of those of the code: 4 and 2,048 bytes
-- Shown by `entry_of_bytes`, `is_entry_bytes` and `bytes_of_entry`. Assumes nothing.
use Rattle.std.specs.Prelude.{◌≡◌, Bool, ◌&&◌, ◌||◌, List, [], ◌∷◌, ◌++◌, ℕ, ◌+◌, ◌*◌, ◌/◌, ◌%◌, ◌^◌, ◌<◌, eqb, length, get_or, take, drop}
use Rattle.automaton.specs.Automata.{one}
use Rattle.history.specs.declared.Entry.{Entry}

abbrev pub entry_length : ℕ
entry_length = 2061

unfoldable pub is_entry : List ℕ → Bool
is_entry s = eqb (length s) entry_length && (eqb (get_or s 0 0) 0 || eqb (get_or s 0 0) 1)

-- the number of four bytes, low byte first
abbrev pub number_of : ℕ → ℕ → ℕ → ℕ → ℕ
number_of b₀ b₁ b₂ b₃ = b₀ + 2 ^ 8 * b₁ + 2 ^ 16 * b₂ + 2 ^ 24 * b₃

unfoldable pub entry_of : List ℕ → Entry
entry_of s =
    record {
      filled = eqb (get_or s 0 0) 1;
      edition = number_of (get_or s 5 0) (get_or s 6 0) (get_or s 7 0) (get_or s 8 0);
      first = get_or s 4 0;
      held =
          record {
            states = get_or s 1 0;
            letters = get_or s 2 0;
            initial = get_or s 3 0;
            accepting = take 4 (drop 9 s);
            transitions = take 2048 (drop 13 s);
          };
    }

-- the bytes 0 to 8
abbrev pub head_bytes : Entry → List ℕ
head_bytes E =
    one E.filled ∷ E.held.states ∷ E.held.letters ∷ E.held.initial ∷ E.first
    ∷ E.edition % 2 ^ 8 ∷ E.edition / 2 ^ 8 % 2 ^ 8 ∷ E.edition / 2 ^ 16 % 2 ^ 8 ∷ E.edition / 2 ^ 24 ∷ []

unfoldable pub entry_bytes : Entry → List ℕ
entry_bytes E = head_bytes E ++ E.held.accepting ++ E.held.transitions

pub record FitsBytes (E : Entry) : Type 0 where
  pub states_fit : E.held.states < 2 ^ 8
  pub letters_fit : E.held.letters < 2 ^ 8
  pub initial_fits : E.held.initial < 2 ^ 8
  pub first_fits : E.first < 2 ^ 8
  pub edition_fits : E.edition < 2 ^ 32

pub record Sized (E : Entry) : Type 0 where
  pub accepting_long : length E.held.accepting ≡ 4
  pub transitions_long : length E.held.transitions ≡ 2048
