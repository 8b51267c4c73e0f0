-- The first fault of a text that is no Hanoi file (02, S-2): up to a place the text goes by the rules of `Grammar`, and there it goes by none: no token that
-- may stand there does, a number ends whose value is outside its range, a state is declared again, or an edge has no state before it.
--   NoWords s ws i      one of the tokens ws does not stand, those before it do
--   NoNumbered s ws i   these, or the number behind them
--   NoNames s k i       one of k names
--   PartFault s D i n   at place i stands no part and no end, with what stands before it in D; the refusal is n
--   BodyFault s n i D   from place i on stand parts, and behind them is the fault n
--   Fault s n           the text's first fault is n
-- Shown by `hanoi_refused_iff`: a text is refused with n exactly when its first fault is n. Assumes nothing.
use Rattle.std.specs.Prelude.{◌≡◌, List, [], ◌∷◌, ℕ, suc, ◌≤◌, ◌<◌, length}
use Rattle.automaton.specs.Automata.{max_states}
use Rattle.tokens.specs.Tokens.{white}
use Rattle.tokens.specs.Lexical.{Run, IsToken, NoToken, NoNumber, IsName}
use Rattle.labels.specs.Labels.{Label}
use Rattle.labels.specs.LabelGrammar.{IsLabel}
use Rattle.hanoi.specs.Words.{Start, AP, acc_name, Buchi, zero_word, END, State, left_brace, right_brace, left_bracket, right_bracket}
use Rattle.hanoi.specs.Descriptions.{max_propositions, Part, Description, extended}
use Rattle.hanoi.specs.Grammar.{Words, Numbered, states_words, acceptance_words, HasStates, HasStart, HasPropositions, HasNames, HasAccName, IsHeader, Latest, Declares, IsPart}

pub data NoWords (s : List ℕ) : List (List ℕ) → ℕ → Type 0 where
  first_word : {w : List ℕ} {ws : List (List ℕ)} {i : ℕ} → NoToken w s i → NoWords s (w ∷ ws) i
  later_word : {w : List ℕ} {ws : List (List ℕ)} {i a : ℕ} → IsToken w s i a → NoWords s ws a → NoWords s (w ∷ ws) i

pub data NoNumbered (s : List ℕ) (ws : List (List ℕ)) (i : ℕ) : Type 0 where
  no_words : NoWords s ws i → NoNumbered s ws i
  no_number : {a : ℕ} → Words s ws i a → NoNumber s a → NoNumbered s ws i

pub data NoNames (s : List ℕ) : ℕ → ℕ → Type 0 where
  first_name : {k i : ℕ} → ((j : ℕ) → IsName s i j → ⊥) → NoNames s (suc k) i
  later_name : {k i a : ℕ} → IsName s i a → NoNames s k a → NoNames s (suc k) i

pub data HeaderFault (s : List ℕ) : ℕ → Type 0 where
  no_states : NoNumbered s states_words 0 → HeaderFault s 17
  states_outside : {n i : ℕ} → Numbered s states_words 0 n i → ((1 ≤ n) × (n ≤ max_states) → ⊥) → HeaderFault s 3
  no_start : {n i : ℕ} → HasStates s n i → NoNumbered s (Start ∷ []) i → HeaderFault s 17
  start_outside : {n i q j : ℕ} → HasStates s n i → Numbered s (Start ∷ []) i q j → n ≤ q → HeaderFault s 3
  no_propositions : {n q i : ℕ} → HasStart s n q i → NoNumbered s (AP ∷ []) i → HeaderFault s 17
  many_propositions : {n q i k j : ℕ} → HasStart s n q i → Numbered s (AP ∷ []) i k j → max_propositions < k → HeaderFault s 18
  no_names : {n q k i : ℕ} → HasPropositions s n q k i → NoNames s k i → HeaderFault s 17
  other_acc_name : {n q k i a : ℕ} → HasNames s n q k i → IsToken acc_name s i a → NoToken Buchi s a → HeaderFault s 17
  no_acceptance : {n q k i j : ℕ} → HasNames s n q k i → HasAccName s i j → NoWords s acceptance_words j → HeaderFault s 17

pub data PartFault (s : List ℕ) (D : Description) (i : ℕ) : ℕ → Type 0 where
  no_part : NoToken END s i → NoToken State s i → NoToken left_bracket s i → PartFault s D i 17
  more_text : {a : ℕ} → IsToken END s i a → (Run (λ b. white b) s a (length s) → ⊥) → PartFault s D i 17
  no_state : {a : ℕ} → IsToken State s i a → NoNumber s a → PartFault s D i 17
  state_outside : {q j : ℕ} → Numbered s (State ∷ []) i q j → D.states ≤ q → PartFault s D i 4
  state_again : {q j : ℕ} → Numbered s (State ∷ []) i q j → q < D.states → Declares q D.parts → PartFault s D i 17
  no_mark : {q j a : ℕ} → Numbered s (State ∷ []) i q j → q < D.states → (Declares q D.parts → ⊥) → IsToken left_brace s j a
      → NoWords s (zero_word ∷ right_brace ∷ []) a → PartFault s D i 17
  edge_first : {a : ℕ} → IsToken left_bracket s i a → D.parts ≡ [] → PartFault s D i 17
  no_label : {a q : ℕ} → IsToken left_bracket s i a → Latest q D.parts
      → ((L : Label) (j l : ℕ) → IsLabel s D.propositions a L j → IsToken right_bracket s j l → ⊥)
      → PartFault s D i 17
  no_target : {a q : ℕ} {L : Label} {j l : ℕ} → IsToken left_bracket s i a → Latest q D.parts
      → IsLabel s D.propositions a L j → IsToken right_bracket s j l → NoNumber s l → PartFault s D i 17
  target_outside : {a q : ℕ} {L : Label} {j r l : ℕ} → IsToken left_bracket s i a → Latest q D.parts
      → IsLabel s D.propositions a L j → Numbered s (right_bracket ∷ []) j r l → D.states ≤ r
      → PartFault s D i 4

pub data BodyFault (s : List ℕ) (n : ℕ) : ℕ → Description → Type 0 where
  here : {i : ℕ} {D : Description} → PartFault s D i n → BodyFault s n i D
  later : {i : ℕ} {D : Description} {x : Part} {j : ℕ} → IsPart s D i x j → BodyFault s n j (extended x D) → BodyFault s n i D

pub data Fault (s : List ℕ) (n : ℕ) : Type 0 where
  fault_in_header : HeaderFault s n → Fault s n
  in_body : {D : Description} {i : ℕ} → IsHeader s D i → BodyFault s n i D → Fault s n
