-- `states::next_state` meets its contract: shifted down and up again the word has its states from q on and no others. Assumes nothing.
use mathlib.Core.Path.{◌≡◌, sym, ap, ◌∙◌}
use Prim.Native.Nat.{ℕ, ◌*◌, ◌-◌, ◌/◌, ◌^◌, ◌≤◌, ◌<◌}
use native.Mathlib.Nat.{div-mul-le_self, mod-eq_of_lt}
use native.Mathlib.Omega.{arith}
use Rattle.automaton.specs.Ranges.{next_from}
use Rattle.automaton.specs.Sets.{bit}
use Rattle.automaton.proofs.Ranges.{next_skip, next_none, next_same}
use Rattle.automaton.proofs.Members.{bit_cleared, bit_kept}
use Rattle.relations.proofs.states.next_state.Goals as goal

none : (w q : ℕ) → q ≡ 32 → 32 ≡ next_from (bit w) (32 - q) q
none w q e = sym (next_none (bit w) 32 q (omega arith) (λ k p l. absurd (omega arith)))

shifted : (w q : ℕ) → q ≤ 32 → next_from (bit (w / 2 ^ q * 2 ^ q)) 32 0 ≡ next_from (bit w) (32 - q) q
shifted w q h =
    let v = w / 2 ^ q * 2 ^ q in
    next_skip (bit v) 32 0 q (omega arith) h (λ k p l. bit_cleared w q k l)
    ∙ next_same (bit v) (bit w) (32 - q) q (λ k p l. bit_kept w q k p)

pub returns-then-q-lt32 : goal.returns-then-q-lt32
returns-then-q-lt32 c = let a = c.args in
    let small : a.set / 2 ^ a.q * 2 ^ a.q < 4294967296 = omega (arith, div-mul-le_self a.set (2 ^ a.q)) in
    c.least.ensures ∙ ap (λ (x : ℕ). next_from (bit x) 32 0) (mod-eq_of_lt small) ∙ shifted a.set a.q (omega arith)

pub returns-else-q-lt32 : goal.returns-else-q-lt32
returns-else-q-lt32 c = none c.args.set c.args.q (omega arith)
