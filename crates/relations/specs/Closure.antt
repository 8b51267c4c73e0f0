-- Relations on the states below n, as tables of rows, and their transitive closure by Warshall's method. The dead-end test and
-- the lasso verdict both compute with them.
--   related R p q    the table R relates p to q
--   relation n f     the table of the relation f
--   through n k R    one round: the paths of R, and those that go by way of k
--   closure n R      a path of one or more steps of R goes from p to q
--   reaches C p q    the same with zero steps allowed, C a closure
--   row_has rows p q  row p, a set as a word, has state q: how the code holds a relation
-- Shown by `closure_sound` and `closure_complete`. Assumes nothing.
use Rattle.std.specs.Prelude.{Bool, false, ◌&&◌, ◌||◌, List, [], ℕ, zero, suc, eqb, get_or}
use Rattle.automaton.specs.Ranges.{table}
use Rattle.automaton.specs.Sets.{bit}

abbrev pub related : List (List Bool) → ℕ → ℕ → Bool
related R p q = get_or (get_or R p []) q false

unfoldable pub relation : ℕ → (ℕ → ℕ → Bool) → List (List Bool)
relation n f = table (λ p. table (f p) n 0) n 0

unfoldable pub through : ℕ → ℕ → List (List Bool) → List (List Bool)
through n k R = relation n (λ p q. related R p q || (related R p k && related R k q))

-- the rounds by way of the first k states
unfoldable pub rounds : ℕ → ℕ → List (List Bool) → List (List Bool)
rounds n zero R = R
rounds n (suc k) R = through n k (rounds n k R)

unfoldable pub closure : ℕ → List (List Bool) → List (List Bool)
closure n R = rounds n n R

abbrev pub reaches : List (List Bool) → ℕ → ℕ → Bool
reaches C p q = eqb p q || related C p q

abbrev pub row_has : List ℕ → ℕ → ℕ → Bool
row_has rows p q = bit (get_or rows p 0) q
