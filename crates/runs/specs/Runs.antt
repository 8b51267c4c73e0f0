-- Runs of an automaton (01, "Dead ends" and "Entry, open, offer"; the paper, section 2). Nothing settles these: they are what the theorems
-- speak of.
--   Run A p w q ts   a run of A on the word w goes from p to q; ts are the states that it comes to, first to last
--   Prefix A w π     π are the states of a run prefix of A on w: the initial state, and then those that a run on w comes to from it
--   Reaches A p q    some run goes from p to q; on the empty word it stays at p
--   OnLoop A q       some run on a word that is not empty goes from q back to q
-- Assumes nothing.
use Rattle.std.specs.Prelude.{◌≡◌, List, [], ◌∷◌, ℕ, T}
use Rattle.automaton.specs.declared.Automaton.{Automaton}
use Rattle.automaton.specs.Automata.{transition}

pub data Run (A : Automaton) : ℕ → List ℕ → ℕ → List ℕ → Type 0 where
  here : {q : ℕ} → Run A q [] q []
  step : {p a t q : ℕ} {w ts : List ℕ} → T (transition A p a t) → Run A t w q ts → Run A p (a ∷ w) q (t ∷ ts)

pub record Prefix (A : Automaton) (w π : List ℕ) : Type 0 where
  pub end : ℕ
  pub rest : List ℕ
  pub run : Run A A.initial w end rest
  pub all : π ≡ A.initial ∷ rest

unfoldable pub Reaches : Automaton → ℕ → ℕ → Type 0
Reaches A p q = (w : List ℕ) × (ts : List ℕ) × Run A p w q ts

unfoldable pub OnLoop : Automaton → ℕ → Type 0
OnLoop A q = (a : ℕ) × (w : List ℕ) × (ts : List ℕ) × Run A q (a ∷ w) q ts
