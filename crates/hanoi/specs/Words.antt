-- The words and marks of Hanoi texts (02, S-2; the Hanoi format, version 1), as their bytes. The colon belongs to a word, and the numbers that stand in
-- `Acceptance: 1 Inf(0)` and `{0}` are words here. Assumes nothing.
use Rattle.std.specs.Prelude.{List, ℕ}
use Rattle.tokens.specs.Spelled.{spelled}

abbrev pub HOA : List ℕ
HOA = spelled "HOA:"

abbrev pub v1 : List ℕ
v1 = spelled "v1"

abbrev pub States : List ℕ
States = spelled "States:"

abbrev pub Start : List ℕ
Start = spelled "Start:"

abbrev pub AP : List ℕ
AP = spelled "AP:"

abbrev pub acc_name : List ℕ
acc_name = spelled "acc-name:"

abbrev pub Buchi : List ℕ
Buchi = spelled "Buchi"

abbrev pub Acceptance : List ℕ
Acceptance = spelled "Acceptance:"

abbrev pub one_word : List ℕ
one_word = spelled "1"

abbrev pub Inf : List ℕ
Inf = spelled "Inf"

abbrev pub zero_word : List ℕ
zero_word = spelled "0"

abbrev pub State : List ℕ
State = spelled "State:"

abbrev pub BODY : List ℕ
BODY = spelled "--BODY--"

abbrev pub END : List ℕ
END = spelled "--END--"

abbrev pub left : List ℕ
left = spelled "("

abbrev pub right : List ℕ
right = spelled ")"

abbrev pub left_brace : List ℕ
left_brace = spelled "{"

abbrev pub right_brace : List ℕ
right_brace = spelled "}"

abbrev pub left_bracket : List ℕ
left_bracket = spelled "["

abbrev pub right_bracket : List ℕ
right_bracket = spelled "]"

abbrev pub quote : List ℕ
quote = spelled "\""
