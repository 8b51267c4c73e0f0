-- Demand 3: no list of open and offer calls changes a verdict. Each call adds the account's edition or leaves the entry, whatever
-- editions there are; by induction over the calls the entry is the account's, and its editions stay fine. Assumes nothing.
use mathlib.Core.Path.{◌≡◌, refl, sym, ap, subst, ◌∙◌}
use mathlib.Core.Bool.{Bool, true, false}
use mathlib.Core.Logic.{◌↔◌}
use mathlib.Core.List.{List, [], ◌∷◌, ◌++◌}
use Prim.Native.Nat.{ℕ, ◌+◌}
use native.Mathlib.Omega.{arith}
use native.Mathlib.Nat.{add-zero, zero-add}
use lib.ListN.{length, length-append}
use Rattle.automaton.specs.declared.Automaton.{Automaton}
use Rattle.automaton.specs.Automata.{one}
use Rattle.automaton.proofs.Booleans.{clash}
use Rattle.format.proofs.FileLaws.{read_same}
use Rattle.checks.specs.Checks.{First, None}
use Rattle.checks.proofs.ChecksLaws.{none_first}
use Rattle.history.specs.declared.Entry.{Entry}
use Rattle.history.specs.OpenAnswers.{Opened}
use Rattle.history.specs.OfferAnswers.{Refused}
use Rattle.history.specs.Entries.{WellFormed}
use Rattle.history.specs.Opens.{open_of}
use Rattle.history.specs.Offers.{offer_of, is_taken}
use Rattle.history.specs.Tables.{offer_refusals}
use Rattle.history.specs.Calls.{Call, open_call, offer_call}
use Rattle.history.specs.Lists.{call_entry, call_taken, entry_after, taken_offers}
use Rattle.history.specs.Account.{Adds, Account, done, adds, keeps, accounted}
use Rattle.history.specs.Demand.{KeptIf, ListClaim, OfferClaim, Demand3}
use Rattle.history.proofs.EntryEffects.{offer_entry, offer_keeps}
use Rattle.history.proofs.OpenEffects.{OpenEffect, opens_first, opens_none, open_effect}
use Rattle.history.proofs.OfferEffects.{
  Answered,
  refuses,
  takes,
  differs,
  offer_answered,
  refusal_not_taken,
  OfferEffect,
  takes_next,
  takes_none,
  offer_effect,
}
use Rattle.history.proofs.Editions.{holding_append, Fine, fine_first, fine_next, fine_bound, fine_unspent, fine_formed}

-- One call.

-- the place of the last edition
abbrev last_place : List Automaton → ℕ
last_place [] = 0
last_place (A ∷ es) = length es

module _ (fresh : Entry) (vacant : fresh.filled ≡ false) where
  data CallEffect (es : List Automaton) (c : Call) : Type 0 where
    adding : (B : Automaton) → Adds es c B → call_entry (accounted fresh es) c ≡ accounted fresh (es ++ B ∷ [])
        → last_place (es ++ B ∷ []) ≡ last_place es + one (call_taken (accounted fresh es) c) → CallEffect es c
    keeping : ((B : Automaton) → Adds es c B → ⊥) → call_entry (accounted fresh es) c ≡ accounted fresh es
        → call_taken (accounted fresh es) c ≡ false → CallEffect es c

  by_open_call : (es : List Automaton) (f : List ℕ) → OpenEffect (accounted fresh es) f → CallEffect es (open_call f)
  unfolding call_entry call_taken
  by_open_call [] f (opens_first B o d e a) = adding B o e refl
  by_open_call [] f (opens_none u e a) = keeping (u vacant) e refl
  by_open_call (A ∷ es) f (opens_first B o d e a) = clash refl d
  by_open_call (A ∷ es) f (opens_none u e a) = keeping (λ B z. z) e refl

  by_offer_call : (es : List Automaton) (f : List ℕ) (b : ℕ) (work word : List ℕ) → OfferEffect (accounted fresh es) f b work word
      → CallEffect es (offer_call f b work word)
  unfolding call_entry call_taken
  by_offer_call [] f b work word (takes_next B n e a) = absurd (n.unrefused.1.0 (Refused 13) (vacant, refl))
  by_offer_call [] f b work word (takes_none u e a) = keeping (λ B z. z) e a
  by_offer_call (A ∷ es) f b work word (takes_next B n e a) =
      adding B n (e ∙ holding_append A es B)
      (length-append es (B ∷ []) ∙ ap (λ (c : Bool). length es + one c) (sym a))
  by_offer_call (A ∷ es) f b work word (takes_none u e a) = keeping u e a

  call_effect : (es : List Automaton) (c : Call) → CallEffect es c
  call_effect es (open_call f) = by_open_call es f (open_effect (accounted fresh es) f)
  call_effect es (offer_call f b work word) = by_offer_call es f b work word (offer_effect (accounted fresh es) f b work word)

-- The editions of a list of calls.

abbrev FineIf : List Automaton → Type 0
FineIf [] = Unit {0}
FineIf (A ∷ es) = Fine A es

fine_added : (es : List Automaton) (c : Call) (B : Automaton) → FineIf es → Adds es c B → FineIf (es ++ B ∷ [])
fine_added [] (open_call f) B x o = fine_first f B o
fine_added [] (offer_call f b work word) B x o = absurd o
fine_added (A ∷ es) (open_call f) B x o = absurd o
fine_added (A ∷ es) (offer_call f b work word) B x o = fine_next A es x f b work word B o

record Told (fresh : Entry) (es : List Automaton) (cs : List Call) : Type 0 where
  editions : List Automaton
  account : Account es cs editions
  entry : entry_after (accounted fresh es) cs ≡ accounted fresh editions
  counted : last_place editions ≡ last_place es + taken_offers (accounted fresh es) cs
  fine : FineIf es → FineIf editions

told : (fresh : Entry) → fresh.filled ≡ false → (cs : List Call) (es : List Automaton) → Told fresh es cs
unfolding entry_after taken_offers
told fresh vacant [] es =
    record { editions = es; account = done; entry = refl; counted = sym (add-zero (last_place es)); fine = λ x. x }
told fresh vacant (c ∷ cs) es = go (λ fs. told fresh vacant cs fs) (call_effect fresh vacant es c)
  where
    go : ((fs : List Automaton) → Told fresh fs cs) → CallEffect fresh vacant es c → Told fresh es (c ∷ cs)
    go rest (adding B a e n) =
        let t = rest (es ++ B ∷ []) in
        record {
          editions = t.editions;
          account = adds B a t.account;
          entry = rw e t.entry;
          counted = rw e (let q = t.counted in omega arith);
          fine = λ x. t.fine (fine_added es c B x a);
        }
    go rest (keeping u e n) =
        let t = rest es in
        record {
          editions = t.editions;
          account = keeps u t.account;
          entry = rw e t.entry;
          counted = rw (e, n) (let q = t.counted in omega arith);
          fine = t.fine;
        }

adds_once : (es : List Automaton) (c : Call) (A B : Automaton) → Adds es c A → Adds es c B → A ≡ B
adds_once [] (open_call f) A B p q = read_same p.read q.read
adds_once [] (offer_call f b work word) A B p q = absurd p
adds_once (C ∷ es) (open_call f) A B p q = absurd p
adds_once (C ∷ es) (offer_call f b work word) A B p q = read_same p.read q.read

pub account_unique : {es fs gs : List Automaton} {cs : List Call} → Account es cs fs → Account es cs gs → fs ≡ gs
account_unique done done = refl
account_unique {es = es} {gs = gs} (adds {c = c} {cs = cs} A a x) (adds B b y) =
    account_unique x (subst (λ (X : Automaton). Account (es ++ X ∷ []) cs gs) (adds_once es c B A b a) y)
account_unique (adds A a x) (keeps n y) = absurd (n A a)
account_unique (keeps n x) (adds B b y) = absurd (n B b)
account_unique (keeps n x) (keeps m y) = account_unique x y

-- The claim about a list.

module _ (fresh : Entry) (vacant : fresh.filled ≡ false) where
  formed_if : (es : List Automaton) → FineIf es → (accounted fresh es).filled ≡ true → WellFormed (accounted fresh es)
  formed_if [] x e = clash e vacant
  formed_if (A ∷ es) x e = fine_formed A es x

  kept_if : (es : List Automaton) (n : ℕ) → FineIf es → last_place es ≡ n → KeptIf (accounted fresh es) n es
  kept_if [] n x e = sym e
  kept_if (A ∷ es) n x e =
      record {
        verdict = x.verdict;
        verdicts = x.verdicts;
        letters = x.letters;
        states = x.fewest;
        edition = e;
        bounded = fine_bound A es x;
        unspent = fine_unspent A es x;
      }

  taken_if_adds : (es : List Automaton) (f : List ℕ) (b : ℕ) (work word : List ℕ) → OfferEffect (accounted fresh es) f b work word
      → (is_taken (offer_of (accounted fresh es) f b work word).answer ≡ true) ↔ ((B : Automaton) × Adds es (offer_call f b work word) B)
  taken_if_adds [] f b work word (takes_next B n e a) = absurd (n.unrefused.1.0 (Refused 13) (vacant, refl))
  taken_if_adds [] f b work word (takes_none u e a) = (λ d. clash d a, λ x. absurd x.1)
  taken_if_adds (A ∷ es) f b work word (takes_next B n e a) = (λ _. (B, n), λ _. a)
  taken_if_adds (A ∷ es) f b work word (takes_none u e a) = (λ d. clash d a, λ x. absurd (u x.0 x.1))

  opened_if_adds : (es : List Automaton) (f : List ℕ) → OpenEffect (accounted fresh es) f
      → ((open_of (accounted fresh es) f).answer ≡ Opened) ↔ ((B : Automaton) × Adds es (open_call f) B)
  opened_if_adds [] f (opens_first B o d e a) = (λ _. (B, o), λ _. a)
  opened_if_adds [] f (opens_none u e a) = (λ d. absurd (a d), λ x. absurd (u vacant x.0 x.1))
  opened_if_adds (A ∷ es) f (opens_first B o d e a) = clash refl d
  opened_if_adds (A ∷ es) f (opens_none u e a) = (λ d. absurd (a d), λ x. absurd x.1)

  -- the entry after some of the calls is the one that the account of them makes
  entry_accounted : (ds : List Call) (es : List Automaton) → Account [] ds es → entry_after fresh ds ≡ accounted fresh es
  entry_accounted ds es a = let t = told fresh vacant ds [] in t.entry ∙ ap (accounted fresh) (account_unique t.account a)

  pub list_claim : (cs : List Call) → ListClaim fresh cs
  list_claim cs =
      let t = told fresh vacant cs [] in
      let x = t.fine tt in
      record {
        editions = t.editions;
        account = t.account;
        only = λ es a. account_unique a t.account;
        entry = t.entry;
        well_formed = rw t.entry (formed_if t.editions x);
        kept = rw t.entry (kept_if t.editions (taken_offers fresh cs) x (t.counted ∙ zero-add (taken_offers fresh cs)));
        taken_adds = λ ds more f b work word e es a.
            rw (entry_accounted ds es a) (taken_if_adds es f b work word (offer_effect (accounted fresh es) f b work word));
        opened_adds = λ ds more f e es a. rw (entry_accounted ds es a) (opened_if_adds es f (open_effect (accounted fresh es) f));
      }

-- The claim about an offer.

pub offer_claim : (E : Entry) (f : List ℕ) (b : ℕ) (work word : List ℕ) → None (offer_refusals E f b work word)
    → OfferClaim E f b work word
offer_claim E f b work word n = go (offer_answered E f b work word)
  where
    go : Answered E f b work word (offer_of E f b work word).answer → OfferClaim E f b work word
    go (refuses r) = absurd (none_first (offer_refusals E f b work word) (offer_of E f b work word).answer n r)
    go (takes B e t) =
        record {
          offered = B;
          read = t.read;
          taken_iff = (λ _. (t.forward, t.back), λ _. e);
          entry = offer_entry E f b work word B t.read;
        }
    go (differs B e r u d) =
        record {
          offered = B;
          read = r;
          taken_iff = (λ a. clash a e, λ c. absurd (d c.0 c.1));
          entry = offer_entry E f b work word B r;
        }

pub refusal_claim : (E : Entry) (f : List ℕ) (b : ℕ) (work word : List ℕ) → (None (offer_refusals E f b work word) → ⊥)
    → First (offer_refusals E f b work word) (offer_of E f b work word).answer × ((offer_of E f b work word).entry ≡ E)
refusal_claim E f b work word h = go (offer_answered E f b work word)
  where
    go : Answered E f b work word (offer_of E f b work word).answer
        → First (offer_refusals E f b work word) (offer_of E f b work word).answer × ((offer_of E f b work word).entry ≡ E)
    go (refuses r) = (r, offer_keeps E f b work word (refusal_not_taken E f b work word (offer_of E f b work word).answer r))
    go (takes B e t) = absurd (h t.unrefused)
    go (differs B e r u d) = absurd (h u)

pub demand_3 : Demand3
demand_3 = record { lists = list_claim; offers = offer_claim; refusals = refusal_claim }
