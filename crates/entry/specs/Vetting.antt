-- What the checks of an offered automaton give, as the code has it.
--   VettedBy x b v B  the checks, which come to v, answer x: they pass the automaton B and the bound b, or stop with the number of the refusal that offer
--                     answers then
-- Nothing settles it: only contracts between functions name it. Assumes nothing.
use Rattle.std.specs.Prelude.{◌≡◌, ℕ, Result, Ok, Err}
use Rattle.automaton.specs.declared.Automaton.{Automaton}
use Rattle.graph.specs.declared.bound.Bound.{Bound}
use Rattle.history.specs.declared.OfferRefusal.{OfferRefusal}
use Rattle.history.specs.OfferAnswers.{Refused, offer_refusal_number, offer_answer_of}
use Rattle.history.specs.Opens.{Vetted, stopped, passed}

abbrev pub VettedBy : Result Bound OfferRefusal → ℕ → Vetted → Automaton → Type 0
VettedBy (Ok k) b v B = (v ≡ passed B) × (k.value ≡ b)
VettedBy (Err r) b v B = (v ≡ stopped (offer_refusal_number r)) × (offer_answer_of (Err r) ≡ Refused (offer_refusal_number r))
