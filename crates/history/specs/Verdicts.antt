-- The verdict call on an entry (01, "Verdict"): the checks 9, 13 and 15 in this order, and whether the held automaton accepts the lasso word.
--   max_length      4,096, the most letters of a stem and of a loop
--   BadLasso        condition 15, said of the letter count k: the lengths of stem and loop, and letters that are not below k
--   bad_lasso       the same, computed
--   verdict_of      the answer
-- Shown by `verdict_demand_1` and `bad_lasso_iff`. Assumes nothing.
use Rattle.std.specs.Prelude.{Bool, false, cond, ◌||◌, not, ◌≡◌, ℕ, ◌≤◌, ◌<◌, eqb, leb, ltb, length}
use mathlib.Core.List.{List, [], ◌∷◌, Memᴰ}
use Rattle.lassos.specs.Verdict.{accepted}
use Rattle.history.specs.declared.Entry.{Entry}
use Rattle.history.specs.VerdictAnswers.{VerdictAnswer}
use Rattle.history.specs.VerdictAnswers.{Yes, No, Refused}
use Rattle.history.specs.Entries.{malformed}

abbrev pub max_length : ℕ
max_length = 4096

pub data BadLasso (k : ℕ) (u v : List ℕ) : Type 0 where
  long_stem : max_length < length u → BadLasso k u v
  empty_loop : length v ≡ 0 → BadLasso k u v
  long_loop : max_length < length v → BadLasso k u v
  stem_letter : {a : ℕ} → Memᴰ a u → k ≤ a → BadLasso k u v
  loop_letter : {a : ℕ} → Memᴰ a v → k ≤ a → BadLasso k u v

-- some letter is not below k
unfoldable pub outside : ℕ → List ℕ → Bool
outside k [] = false
outside k (a ∷ w) = leb k a || outside k w

unfoldable pub bad_lasso : ℕ → List ℕ → List ℕ → Bool
bad_lasso k u v =
    ltb max_length (length u) || eqb (length v) 0 || ltb max_length (length v) || outside k u || outside k v

-- a refusal where its condition holds, else what follows
unfoldable pub verdict_of : Entry → List ℕ → List ℕ → VerdictAnswer
verdict_of E u v =
    cond (malformed E) (Refused 9)
    (cond (not E.filled) (Refused 13)
    (cond (bad_lasso E.held.letters u v) (Refused 15)
    (cond (accepted E.held u v) Yes No)))
