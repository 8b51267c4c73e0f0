-- Tables of unions, as the code holds them: sets are words, and a word chooses among sets by its bits.
--   chosen values k m q         one of the first k values, chosen by the bits of m, has state q
--   union_of values k m         the union of those values, as a word
--   named table g m q           one of the entries that m names, four of its bits for each of the first g groups of 16, has state q
--   Choices entries values k    the first 2 ^ k entries are the unions of the choices of the first k values
--   Unions table values g       the first g groups of entries are, one after the other, the unions of the choices of four values each
--   groups_for n                how many groups n values are held in: 2, 4 or 8
--   doubled entries n v         the first n entries followed by the same with the members of v besides, the others as they are
--   filled table values g       the table with the unions of the choices of g groups of four values, group after group from its front
-- Shown by `filled_unions` and `named_chosen`: what is filled are unions, and the entries behind stay; of a table of unions, the entries that a word names
-- have together what the word chooses. Assumes nothing.
use Rattle.std.specs.Prelude.{◌≡◌, Bool, true, false, ◌&&◌, List, ℕ, zero, suc, ◌+◌, ◌*◌, ◌/◌, ◌%◌, ◌^◌, ◌<◌, ltb, get_or, drop}
use Rattle.std.specs.Int.Bits.{bit_or}
use Rattle.automaton.specs.Ranges.{some}
use Rattle.automaton.specs.Sets.{bit}
use Rattle.relations.specs.Rows.{with_row, changed_rows}

abbrev pub chosen : List ℕ → ℕ → ℕ → ℕ → Bool
chosen values k m q = some (λ b. bit m b && bit (get_or values b 0) q) k 0

unfoldable pub union_of : List ℕ → ℕ → ℕ → ℕ
union_of values zero m = 0
union_of values (suc k) m = with_row (union_of values k m) m k (get_or values k 0)

abbrev pub named : List ℕ → ℕ → ℕ → ℕ → Bool
named table groups m q = some (λ g. bit (get_or table (g * 16 + m / 2 ^ (g * 4) % 16) 0) q) groups 0

abbrev pub Choices : List ℕ → List ℕ → ℕ → Type 0
Choices entries values k = (m q : ℕ) → m < 2 ^ k → bit (get_or entries m 0) q ≡ chosen values k m q

abbrev pub Unions : List ℕ → List ℕ → ℕ → Type 0
Unions table values groups = (g : ℕ) → g < groups → Choices (drop (g * 16) table) (drop (g * 4) values) 4

-- by whether there are more than 8 and more than 16 values
abbrev pub groups_where : Bool → Bool → ℕ
groups_where false c = 2
groups_where true false = 4
groups_where true true = 8

unfoldable pub groups_for : ℕ → ℕ
groups_for n = groups_where (ltb 8 n) (ltb 16 n)

abbrev pub doubled : List ℕ → ℕ → ℕ → List ℕ
doubled entries n v = changed_rows n n (λ m. bit_or (get_or entries m 0) v) entries

abbrev pub filled : List ℕ → List ℕ → ℕ → List ℕ
filled table values groups = changed_rows 0 (groups * 16) (λ j. union_of (drop (j / 16 * 4) values) 4 (j % 16)) table
