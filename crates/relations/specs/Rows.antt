-- Relations as the code holds them, and what it makes of them in place: row p is a word that has the states to which p is related, a list
-- has the rows, and each definition says every row of the list afterwards.
--   with_row S T p row        the set S, with the members of the row besides where the set T has state p
--   changed_rows i n f rows  the n rows from place i on become f 0, f 1 and so on, and the others stay
--   diagonal_rows n rows     each of the first n states related to itself besides
--   round_rows n k rows      one round of Warshall's method by way of k, in the first n rows
--   rounds_rows n k rows     the rounds by way of the states below k
--   closed_rows n rows       the rounds by way of all n states
-- Shown by `closed_rows_lem` and `diagonal_rows_lem`: the first n rows then hold the transitive closure of their relation, or its
-- reflexive closure. Assumes nothing.
use Rattle.std.specs.Prelude.{cond, List, ◌++◌, ℕ, zero, suc, ◌+◌, get_or, take, drop}
use Rattle.std.specs.Int.Bits.{bit_or}
use Rattle.automaton.specs.Ranges.{table}
use Rattle.automaton.specs.Sets.{bit, with_bit}

abbrev pub with_row : ℕ → ℕ → ℕ → ℕ → ℕ
with_row S T p row = cond (bit T p) (bit_or S row) S

unfoldable pub changed_rows : ℕ → ℕ → (ℕ → ℕ) → List ℕ → List ℕ
changed_rows i n f rows = take i rows ++ (table f n 0 ++ drop (i + n) rows)

abbrev pub diagonal_rows : ℕ → List ℕ → List ℕ
diagonal_rows n rows = changed_rows 0 n (λ p. with_bit (get_or rows p 0) p) rows

abbrev pub round_rows : ℕ → ℕ → List ℕ → List ℕ
round_rows n k rows = changed_rows 0 n (λ p. with_row (get_or rows p 0) (get_or rows p 0) k (get_or rows k 0)) rows

unfoldable pub rounds_rows : ℕ → ℕ → List ℕ → List ℕ
rounds_rows n zero rows = rows
rounds_rows n (suc k) rows = round_rows n k (rounds_rows n k rows)

abbrev pub closed_rows : ℕ → List ℕ → List ℕ
closed_rows n rows = rounds_rows n n rows
