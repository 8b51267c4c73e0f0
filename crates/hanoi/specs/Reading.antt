-- How a Hanoi text is read (02, S-2): token by token, and the first place where none of those that may stand there does, or where a number ends whose
-- value is outside its range, decides.
--   Read            what a text comes to: a refusal's number, or what it describes
--   Step            what reading some of it comes to: it is over, or goes on at a place with what stands before it
--   expect w s i go       the token w stands at place i of s, and the reading goes on behind it; else the refusal is 17
--   expect_number s i go  the same of a number, which is handed on
--   check b n x     x where the test holds; else the refusal n
--   states_item, start_item, propositions_item, header_end  the header's items; from_start, from_propositions: it and all behind it
--   header s        the header and `--BODY--`
--   part_at s i D    the state, the edge or the end at place i, with what stands before it in D
--   read_hanoi s    the whole text
-- Shown by `hanoi_grammar` and `hanoi_refused_iff`: a text describes D exactly when it is a file of `Grammar` that says D, and is refused with n exactly
-- when its first fault, by `Faults`, is n. Assumes nothing.
use Rattle.std.specs.Prelude.{Bool, true, false, ◌&&◌, not, List, [], ◌∷◌, ℕ, zero, suc, ◌+◌, eqb, leb, ltb, length, get_or, drop}
use Rattle.automaton.specs.Automata.{max_states}
use Rattle.tokens.specs.Tokens.{skip, stands, behind, none, number, number_at, name_bytes}
use Rattle.labels.specs.LabelReading.{absent, found, label_at}
use Rattle.hanoi.specs.Words.{HOA, v1, States, Start, AP, quote, acc_name, Buchi, Acceptance, one_word, Inf, left, zero_word, right, BODY, END, State, left_brace, right_brace, left_bracket, right_bracket}
use Rattle.hanoi.specs.Descriptions.{max_propositions, Part, declared, edge, Description, headed, extended}

pub data Read : Type 0 where
  refused : ℕ → Read
  describes : Description → Read

pub data Step : Type 0 where
  over : Read → Step
  next : ℕ → Description → Step

-- the text is outside the subset
abbrev pub outside : Step
outside = over (refused 17)

unfoldable pub expect : List ℕ → List ℕ → ℕ → (ℕ → Step) → Step
expect w s i go = elim (stands w s i) [ true ↦ go (behind w s i) | false ↦ outside ]

unfoldable pub expect_number : List ℕ → ℕ → (ℕ → ℕ → Step) → Step
expect_number s i go = elim (number_at s i) [ none ↦ outside | number v j ↦ go v j ]

unfoldable pub check : Bool → ℕ → Step → Step
check true n x = x
check false n x = over (refused n)

-- The header, an item for each line.

abbrev pub states_item : List ℕ → (ℕ → ℕ → Step) → Step
states_item s go =
    expect HOA s 0 (λ i. expect v1 s i (λ i. expect States s i (λ i. expect_number s i (λ n i. check (leb 1 n && leb n max_states) 3 (go n i)))))

abbrev pub start_item : ℕ → List ℕ → ℕ → (ℕ → ℕ → Step) → Step
start_item n s i go = expect Start s i (λ i. expect_number s i (λ q i. check (ltb q n) 3 (go q i)))

abbrev pub propositions_item : List ℕ → ℕ → (ℕ → ℕ → Step) → Step
propositions_item s i go = expect AP s i (λ i. expect_number s i (λ k i. check (leb k max_propositions) 18 (go k i)))

-- so many quoted names
unfoldable pub names : ℕ → List ℕ → ℕ → (ℕ → Step) → Step
names zero s i go = go i
names (suc k) s i go =
    expect quote s i (λ j.
    let e = j + name_bytes (drop j s) in
    elim (eqb (get_or s e 0) 0x22) [ true ↦ names k s (e + 1) go | false ↦ outside ])

-- `acc-name: Buchi`, which may be left out
unfoldable pub acc_name_item : List ℕ → ℕ → (ℕ → Step) → Step
acc_name_item s i go = elim (stands acc_name s i) [ true ↦ expect Buchi s (behind acc_name s i) go | false ↦ go i ]

-- `Acceptance: 1 Inf(0)`, and what ends the header
abbrev pub acceptance_item : List ℕ → ℕ → (ℕ → Step) → Step
acceptance_item s i go =
    expect Acceptance s i (λ i. expect one_word s i (λ i. expect Inf s i (λ i. expect left s i (λ i. expect zero_word s i (λ i. expect right s i (λ i.
    expect BODY s i go))))))

abbrev pub header_end : ℕ → List ℕ → ℕ → (ℕ → Step) → Step
header_end k s i go = names k s i (λ i. acc_name_item s i (λ i. acceptance_item s i go))

-- from the number of propositions on, and from the start state on
abbrev pub from_propositions : List ℕ → ℕ → ℕ → ℕ → Step
from_propositions s n q i = propositions_item s i (λ k i. header_end k s i (λ i. next i (headed n q k)))

abbrev pub from_start : List ℕ → ℕ → ℕ → Step
from_start s n i = start_item n s i (λ q i. from_propositions s n q i)

unfoldable pub header : List ℕ → Step
header s = states_item s (λ n i. from_start s n i)

-- The body.

unfoldable pub is_declared : ℕ → List Part → Bool
is_declared q [] = false
is_declared q (declared p b ∷ xs) = elim (eqb q p) [ true ↦ true | false ↦ is_declared q xs ]
is_declared q (edge p L r ∷ xs) = is_declared q xs

-- `{0}` or nothing behind a state's number
unfoldable pub acceptance : List ℕ → ℕ → (Bool → ℕ → Step) → Step
acceptance s i go =
    elim (stands left_brace s i) [
      | true ↦ expect zero_word s (behind left_brace s i) (λ j. expect right_brace s j (go true))
      | false ↦ go false i
    ]

-- the state q is declared, whose number ends at place i; a second declaration is outside the subset
abbrev pub declaration : List ℕ → ℕ → ℕ → Description → Step
declaration s i q D =
    check (not (is_declared q D.parts)) 17 (acceptance s i (λ b k. next k (extended (declared q b) D)))

-- behind `State:`
unfoldable pub state_at : List ℕ → ℕ → Description → Step
state_at s i D = expect_number s i (λ q j. check (ltb q D.states) 4 (declaration s j q D))

-- an edge of the state q, behind its `[`
unfoldable pub edge_at : List ℕ → ℕ → ℕ → Description → Step
edge_at s i q D =
    elim (label_at s D.propositions i) [
      | absent ↦ outside
      | found L j ↦ expect right_bracket s j (λ k. expect_number s k (λ r l. check (ltb r D.states) 4 (next l (extended (edge q L r) D))))
    ]

-- an edge belongs to the state declared last before it
unfoldable pub edge_of : List ℕ → ℕ → List Part → Description → Step
edge_of s i [] D = outside
edge_of s i (declared q b ∷ xs) D = edge_at s i q D
edge_of s i (edge q L r ∷ xs) D = edge_at s i q D

-- behind `--END--` stands white space alone
unfoldable pub end_at : List ℕ → ℕ → Description → Step
end_at s i D = elim (eqb (skip s i) (length s)) [ true ↦ over (describes D) | false ↦ outside ]

unfoldable pub part_at : List ℕ → ℕ → Description → Step
part_at s i D =
    elim (stands END s i) [
      | true ↦ end_at s (behind END s i) D
      | false ↦ elim (stands State s i) [
        | true ↦ state_at s (behind State s i) D
        | false ↦ elim (stands left_bracket s i) [ true ↦ edge_of s (behind left_bracket s i) D.parts D | false ↦ outside ]
      ]
    ]

-- the parts that are left after a step, at most n of them
unfoldable pub body : ℕ → List ℕ → Step → Read
body zero s (over r) = r
body zero s (next i D) = refused 17
body (suc n) s (over r) = r
body (suc n) s (next i D) = body n s (part_at s i D)

-- a part has a byte or more, so there are at most as many as bytes
unfoldable pub read_hanoi : List ℕ → Read
read_hanoi s = body (length s) s (header s)
