-- How a reading goes on after a step of the body, with what the code holds of it: a description, and fuel for at least the bytes that are left. Assumes
-- nothing.
use mathlib.Core.Path.{◌≡◌, refl, sym, ap, subst, ◌∙◌}
use mathlib.Core.List.{List}
use Prim.Native.Nat.{ℕ, zero, suc, ◌+◌, ◌^◌, ◌≤◌, ◌<◌}
use native.Mathlib.Omega.{arith}
use lib.ListN.{length, replicate}
use mathlib.Core.Bool.{Bool, true, false}
use Rattle.std.specs.Prelude.{None, Result, Ok, Err, OnOk}
use Rattle.automaton.specs.declared.Automaton.{Automaton}
use Rattle.automaton.specs.Automata.{bare, InRange}
use Rattle.tokens.specs.declared.scanner.Scanner.{Scanner}
use Rattle.tokens.specs.Scanners.{Ahead}
use Rattle.fixed_form.specs.WriteAnswers.{WriteAnswer}
use Rattle.fixed_form.specs.WriteAnswers.{Refused as RefusedText}
use Rattle.fixed_form.specs.Write.{Write, writing}
use Rattle.hanoi.specs.declared.TextRefusal.{TextRefusal}
use Rattle.hanoi.specs.Numbers.{text_number}
use Rattle.hanoi.specs.Descriptions.{Description, headed}
use Rattle.hanoi.specs.Reading.{Read, refused, describes, Step, over, next, header, part_at, body, read_hanoi}
use Rattle.hanoi.specs.Meaning.{automaton_of, with_parts}
use Rattle.hanoi.specs.Hanoi.{hanoi_of}
use Rattle.hanoi.specs.HanoiDemand.{HanoiDemand1}
use Rattle.hanoi.proofs.ReadSteps.{body_over, body_on}
use Rattle.hanoi.proofs.Decided.{hanoi_grammar}
use Rattle.hanoi.proofs.WellFormed.{header_next_well_formed, hanoi_describes}
use Rattle.hanoi.proofs.HanoiCases.{hanoi_refused, hanoi_read}
use Rattle.hanoi.proofs.HanoiTheorem.{hanoi_demand_1}
use Rattle.hanoi_header.specs.declared.Header.{Header}
use Rattle.hanoi_header.specs.Headers.{headed_by}
use Rattle.hanoi_reader.specs.declared.parts.Body.{Body}
use Rattle.hanoi_reader.specs.Taking.{Headed, Held, described_past, described_before, Described, ReadTo}
use Rattle.hanoi_reader.specs.Bodies.{HeldBy, Advanced, Taken}
use Rattle.hanoi_reader.proofs.PartLaws.{held_starts}

-- What the code holds of the text s between two steps, where the scanner is y.

pub record Going (s : List ℕ) (y : Scanner) (b : Body) : Type 0 where
  pub fuel : ℕ
  pub description : Description
  pub held : HeldBy description b
  pub text : y.text.now ≡ s
  pub enough : length s < y.at + fuel
  pub left : body fuel s (next y.at description) ≡ read_hanoi s
  pub past : described_past fuel s (next y.at description) description ≡ described_before s

past_over : (n : ℕ) (s : List ℕ) (r : Read) (D : Description) → described_past n s (over r) D ≡ D
unfolding described_past
past_over zero s r D = refl
past_over (suc n) s r D = refl

past_next : (n : ℕ) (s : List ℕ) (i : ℕ) (E D C : Description) → described_past n s (next i E) D ≡ described_past n s (next i E) C
unfolding described_past
past_next zero s i E D C = refl
past_next (suc n) s i E D C = refl

-- the automaton of a header alone is held at the beginning of the body
pub headed_held : (y : Scanner) (h : Header) → Headed y h → (A : Automaton) → A ≡ bare h.states (2 ^ h.propositions) h.start
    → Held (headed_by h) h.propositions (replicate 4 0) None A
headed_held y h H A e =
    let D = headed_by h in
    subst (Held D h.propositions (replicate 4 0) None) (sym e) (held_starts D (header_next_well_formed y.text.now y.at D (sym H.step)) refl)

pub going_starts : (y : Scanner) (h : Header) → Headed y h → (b : Body) → HeldBy (headed_by h) b → Going y.text.now y b
unfolding read_hanoi described_before
going_starts y h H b held =
    let s = y.text.now in
    let D = headed_by h in
    record {
      fuel = length s;
      description = D;
      held = held;
      text = refl;
      enough = omega (arith, H.behind);
      left = ap (body (length s) s) H.step;
      past = past_next (length s) s y.at D D (headed 0 0 0) ∙ ap (λ (x : Step). described_past (length s) s x (headed 0 0 0)) H.step;
    }

module _ (s : List ℕ) (y : Scanner) (b : Body) (g : Going s y b) where
  -- one part less of the fuel
  record Stepped : Type 0 where
    rest : ℕ
    room : length s < y.at + rest + 1
    left : body rest s (part_at s y.at g.description) ≡ read_hanoi s
    past : described_past rest s (part_at s y.at g.description) g.description ≡ described_before s

  stepped : Stepped
  unfolding described_past
  stepped = by g.fuel g.enough g.left g.past
    where
      within : y.at ≤ length s
      within = subst (λ (t : List ℕ). y.at ≤ length t) g.text y.within

      by : (n : ℕ) → length s < y.at + n → body n s (next y.at g.description) ≡ read_hanoi s
          → described_past n s (next y.at g.description) g.description ≡ described_before s → Stepped
      by zero e a b = absurd (omega (arith, e, within))
      by (suc n) e a b = record { rest = n; room = omega (arith, e); left = sym (body_on n s y.at g.description) ∙ a; past = b }

  over_reads : (r : Read) → part_at s y.at g.description ≡ over r → (read_hanoi s ≡ r) × (g.description ≡ described_before s)
  over_reads r e =
      let t = stepped in (
        sym (ap (body t.rest s) (sym e) ∙ t.left) ∙ body_over t.rest s r,
        sym (past_over t.rest s r g.description) ∙ ap (λ (x : Step). described_past t.rest s x g.description) (sym e) ∙ t.past,
      )

  -- the step came to r, with z and c left
  module _ (z : Scanner) (c : Body) (r : Result Bool TextRefusal)
      (t : Taken y g.description (part_at y.text.now y.at g.description) b z c r) where
    -- the same of the text s
    taken : (q : Result Bool TextRefusal) → r ≡ q → Taken y g.description (part_at s y.at g.description) b z c q
    taken q f =
        subst (λ (x : List ℕ). Taken y g.description (part_at x y.at g.description) b z c q) g.text
        (subst (Taken y g.description (part_at y.text.now y.at g.description) b z c) f t)

    pub going_past : r ≡ Ok true → Going s z c × Ahead 1 y z
    going_past f =
        let a : Advanced y (part_at s y.at g.description) z c = taken (Ok true) f in
        let u = stepped in (
          record {
            fuel = u.rest;
            description = a.description;
            held = a.held;
            text = ap (λ x. x.now) a.ahead.text ∙ g.text;
            enough = omega (arith, u.room, a.ahead.forward);
            left = ap (body u.rest s) (sym a.step) ∙ u.left;
            past =
                past_next u.rest s z.at a.description a.description g.description
                ∙ ap (λ (x : Step). described_past u.rest s x g.description) (sym a.step) ∙ u.past;
          },
          a.ahead,
        )

    pub going_ends : r ≡ Ok false → Described s c.automaton.now
    going_ends f =
        let u : (part_at s y.at g.description ≡ over (describes g.description)) × (c.automaton.now ≡ automaton_of g.description) × (c ≡ b) = taken (Ok false) f in
        record { description = g.description; read = (over_reads (describes g.description) u.0).0; automaton = u.1 }

    pub going_stops : (f : TextRefusal) → r ≡ Err f → ReadTo s (Err f) c.automaton.now
    going_stops f e =
        let u : (part_at s y.at g.description ≡ over (refused (text_number f))) × (c.automaton.now ≡ automaton_of g.description) × (c ≡ b) = taken (Err f) e in
        let v = over_reads (refused (text_number f)) u.0 in
        (v.0, u.1 ∙ ap automaton_of v.1)

-- the automaton that is lent is the body's
pub read_into : (s : List ℕ) (r : Result (Unit {0}) TextRefusal) (A B : Automaton) → B ≡ A → ReadTo s r A → ReadTo s r B
read_into s r A B e = subst (ReadTo s r) (sym e)

-- A text without a header.

pub unheaded : (s : List ℕ) (f : TextRefusal) (A : Automaton) → over (refused (text_number f)) ≡ header s → A ≡ bare 0 1 0 → ReadTo s (Err f) A
unfolding read_hanoi described_before automaton_of with_parts
unheaded s f A e z = (
  ap (body (length s) s) (sym e) ∙ body_over (length s) s (refused (text_number f)),
  z ∙ ap automaton_of (sym (past_over (length s) s (refused (text_number f)) (headed 0 0 0))
      ∙ ap (λ (x : Step). described_past (length s) s x (headed 0 0 0)) e),
)

-- The automaton of a text that is read is in range.

pub read_in_range : (s : List ℕ) (r : Result (Unit {0}) TextRefusal) (A : Automaton) → ReadTo s r A → OnOk r (InRange A)
read_in_range s (Ok _) A d = subst InRange (sym d.automaton) (hanoi_describes s d.description ((hanoi_grammar s d.description).0 d.read)).in_range
read_in_range s (Err f) A d = tt

-- The call: a refusal of the text changes nothing; else its automaton is written.

pub record Gives (s old : List ℕ) (x : WriteAnswer) (new : List ℕ) : Type 0 where
  pub answer : x ≡ (hanoi_of s old).answer
  pub out : new ≡ (hanoi_of s old).out
  pub demand1 : HanoiDemand1 s old

module _ (s old : List ℕ) where
  pub text_stops : (n : ℕ) → read_hanoi s ≡ refused n → Gives s old (RefusedText n) old
  text_stops n e =
      let h = hanoi_refused s old n e in
      record { answer = sym (ap (λ (w : Write). w.answer) h); out = sym (ap (λ (w : Write). w.out) h); demand1 = hanoi_demand_1 s old }

  pub text_writes : (A : Automaton) → Described s A → (x : WriteAnswer) (new : List ℕ) → x ≡ (writing A old).answer → new ≡ (writing A old).out
      → Gives s old x new
  text_writes A d x new a b =
      let e : writing A old ≡ hanoi_of s old =
      ap (λ (B : Automaton). writing B old) d.automaton ∙ sym (hanoi_read s old d.description d.read) in
      record { answer = a ∙ ap (λ (w : Write). w.answer) e; out = b ∙ ap (λ (w : Write). w.out) e; demand1 = hanoi_demand_1 s old }
