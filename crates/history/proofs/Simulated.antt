-- What direct simulation approved stays approved: of two automata that simulate each other directly, the one offered to an
-- entry that holds the other is taken, at every bound, or a row of the refusals applies (10 is one of them). Assumes nothing.
use mathlib.Core.Path.{◌≡◌}
use mathlib.Core.Bool.{true}
use mathlib.Core.Logic.{◌⊎◌, inl, inr}
use mathlib.Core.List.{List}
use Prim.Native.Nat.{ℕ}
use Rattle.automaton.specs.declared.Automaton.{Automaton}
use Rattle.runs.specs.Simulation.{SimulateEachOther}
use Rattle.runs.proofs.Simulation.{direct_simulation_contained}
use Rattle.format.specs.File.{holds, read_file}
use Rattle.format.proofs.FileLaws.{read_same}
use Rattle.checks.specs.Checks.{First, None}
use Rattle.checks.proofs.ChecksLaws.{none_first}
use Rattle.history.specs.declared.Entry.{Entry}
use Rattle.history.specs.Offers.{offer_of, is_taken}
use Rattle.history.specs.Tables.{offer_refusals}
use Rattle.history.proofs.OfferEffects.{Answered, refuses, takes, differs, offer_answered}

module _ (E : Entry) (f : List ℕ) (b : ℕ) (work word : List ℕ) (B : Automaton) (r : read_file f ≡ holds B)
    (s : SimulateEachOther E.held B) where
  pub simulated_answer : (is_taken (offer_of E f b work word).answer ≡ true)
      ⊎ First (offer_refusals E f b work word) (offer_of E f b work word).answer
  simulated_answer = go (offer_answered E f b work word)
    where
      go : Answered E f b work word (offer_of E f b work word).answer
          → (is_taken (offer_of E f b work word).answer ≡ true) ⊎ First (offer_refusals E f b work word) (offer_of E f b work word).answer
      go (refuses x) = inr x
      go (takes C e n) = inl e
      go (differs C e c u d) =
          let same : C ≡ B = read_same c r in
          absurd (d (rw same (direct_simulation_contained E.held B s.Over s.over b))
          (rw same (direct_simulation_contained B E.held s.Back s.back b)))

  pub simulated_taken : None (offer_refusals E f b work word) → is_taken (offer_of E f b work word).answer ≡ true
  simulated_taken n = go simulated_answer
    where
      go : (is_taken (offer_of E f b work word).answer ≡ true) ⊎ First (offer_refusals E f b work word) (offer_of E f b work word).answer
          → is_taken (offer_of E f b work word).answer ≡ true
      go (inl e) = e
      go (inr x) = absurd (none_first (offer_refusals E f b work word) (offer_of E f b work word).answer n x)
