-- The grammar of Hanoi files (02, S-2; the Hanoi format, version 1), over places of the text s, a constructor for each rule. White space before a token
-- is part of `IsToken`, and so is that letters or digits of two do not touch.
--   file ::= HOA: v1  States: n  Start: q  AP: k name^k  [acc-name: Buchi]  Acceptance: 1 Inf ( 0 )  --BODY--  part*  --END--
--   part ::= State: q [ { 0 } ]  |  [ label ] r
--   Words s ws i j        from place i to place j stand the tokens ws
--   Numbered s ws i v j   these, and then the number v
--   Names s k i j         so many quoted names
--   HasStates, HasStart, HasPropositions, HasNames, IsHeader   the header up to place j
--   IsPart s D i x j      from i to j stands the part x, with what stands before it in D
--   IsBody s E i D        from i on stand parts and the end; with D before them, the text describes E
--   IsFile s D            the whole text is a file that describes D
-- Shown by `hanoi_grammar`: these are the texts that are read. Assumes nothing.
use Rattle.std.specs.Prelude.{◌≡◌, Bool, true, false, List, [], ◌∷◌, ℕ, zero, suc, ◌≤◌, ◌<◌, length}
use Rattle.automaton.specs.Automata.{max_states}
use Rattle.tokens.specs.Tokens.{white}
use Rattle.tokens.specs.Lexical.{Run, IsToken, NoToken, IsNumber, IsName}
use Rattle.labels.specs.Labels.{Label}
use Rattle.labels.specs.LabelGrammar.{IsLabel}
use Rattle.hanoi.specs.Words.{HOA, v1, States, Start, AP, acc_name, Buchi, Acceptance, one_word, Inf, left, zero_word, right, BODY, END, State, left_brace, right_brace, left_bracket, right_bracket}
use Rattle.hanoi.specs.Descriptions.{max_propositions, Part, declared, edge, Description, headed, extended}

-- Tokens, numbers and names.

pub data Words (s : List ℕ) : List (List ℕ) → ℕ → ℕ → Type 0 where
  no_word : {i j : ℕ} → i ≡ j → Words s [] i j
  word : {w : List ℕ} {ws : List (List ℕ)} {i a j : ℕ} → IsToken w s i a → Words s ws a j → Words s (w ∷ ws) i j

pub data Numbered (s : List ℕ) (ws : List (List ℕ)) (i v j : ℕ) : Type 0 where
  numbered : {a : ℕ} → Words s ws i a → IsNumber s a v j → Numbered s ws i v j

pub data Names (s : List ℕ) : ℕ → ℕ → ℕ → Type 0 where
  no_name : {i j : ℕ} → i ≡ j → Names s zero i j
  name : {k i a j : ℕ} → IsName s i a → Names s k a j → Names s (suc k) i j

-- The header.

abbrev pub states_words : List (List ℕ)
states_words = HOA ∷ v1 ∷ States ∷ []

abbrev pub acceptance_words : List (List ℕ)
acceptance_words = Acceptance ∷ one_word ∷ Inf ∷ left ∷ zero_word ∷ right ∷ BODY ∷ []

pub data HasStates (s : List ℕ) (n j : ℕ) : Type 0 where
  has_states : Numbered s states_words 0 n j → 1 ≤ n → n ≤ max_states → HasStates s n j

pub data HasStart (s : List ℕ) (n q j : ℕ) : Type 0 where
  has_start : {i : ℕ} → HasStates s n i → Numbered s (Start ∷ []) i q j → q < n → HasStart s n q j

pub data HasPropositions (s : List ℕ) (n q k j : ℕ) : Type 0 where
  has_propositions : {i : ℕ} → HasStart s n q i → Numbered s (AP ∷ []) i k j → k ≤ max_propositions → HasPropositions s n q k j

pub data HasNames (s : List ℕ) (n q k j : ℕ) : Type 0 where
  has_names : {i : ℕ} → HasPropositions s n q k i → Names s k i j → HasNames s n q k j

-- `acc-name: Buchi`, which may be left out
pub data HasAccName (s : List ℕ) (i j : ℕ) : Type 0 where
  is_named : Words s (acc_name ∷ Buchi ∷ []) i j → HasAccName s i j
  is_unnamed : NoToken acc_name s i → i ≡ j → HasAccName s i j

pub data IsHeader (s : List ℕ) (D : Description) (j : ℕ) : Type 0 where
  header_stands : {n q k a b : ℕ} → HasNames s n q k a → HasAccName s a b → Words s acceptance_words b j → D ≡ headed n q k → IsHeader s D j

-- The body.

-- `{0}` or nothing behind a state's number
pub data Marked (s : List ℕ) : ℕ → Bool → ℕ → Type 0 where
  accepting : {i j : ℕ} → Words s (left_brace ∷ zero_word ∷ right_brace ∷ []) i j → Marked s i true j
  rejecting : {i j : ℕ} → NoToken left_brace s i → i ≡ j → Marked s i false j

-- the last state before this place is q
pub data Latest (q : ℕ) : List Part → Type 0 where
  of_state : {b : Bool} {xs : List Part} → Latest q (declared q b ∷ xs)
  of_edge : {L : Label} {r : ℕ} {xs : List Part} → Latest q (edge q L r ∷ xs)

-- the state q is declared among the parts
pub data Declares (q : ℕ) : List Part → Type 0 where
  declares : {b : Bool} {xs : List Part} → Declares q (declared q b ∷ xs)
  declares_before : {x : Part} {xs : List Part} → Declares q xs → Declares q (x ∷ xs)

pub data IsPart (s : List ℕ) (D : Description) : ℕ → Part → ℕ → Type 0 where
  state_part : {i q j : ℕ} {b : Bool} {l : ℕ} → Numbered s (State ∷ []) i q j → q < D.states → (Declares q D.parts → ⊥)
      → Marked s j b l → IsPart s D i (declared q b) l
  edge_part : {i a q : ℕ} {L : Label} {j r l : ℕ} → IsToken left_bracket s i a → Latest q D.parts
      → IsLabel s D.propositions a L j → Numbered s (right_bracket ∷ []) j r l → r < D.states
      → IsPart s D i (edge q L r) l

-- behind `--END--` stands white space alone
pub data IsEnd (s : List ℕ) (i : ℕ) : Type 0 where
  is_end : {a : ℕ} → IsToken END s i a → Run (λ b. white b) s a (length s) → IsEnd s i

pub data IsBody (s : List ℕ) (E : Description) : ℕ → Description → Type 0 where
  ends : {i : ℕ} {D : Description} → IsEnd s i → D ≡ E → IsBody s E i D
  part : {i : ℕ} {D : Description} {x : Part} {j : ℕ} → IsPart s D i x j → IsBody s E j (extended x D) → IsBody s E i D

pub data IsFile (s : List ℕ) (E : Description) : Type 0 where
  file : {D : Description} {i : ℕ} → IsHeader s D i → IsBody s E i D → IsFile s E
