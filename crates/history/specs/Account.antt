-- The plain account of a list of calls, 01's term (01, "Entry, open, offer"): the editions that the calls make, told from the calls alone. The
-- first edition comes from the first open whose file has none of the faults 1-6. After that an offer adds its file's automaton if none
-- of offer's refusals applies to the entry that the editions so far describe, and each of the last edition and the file's automaton
-- is contained in the other at the offer's bound. Every other call leaves the editions alone.
-- It decides by the declarative containment, and its imports show that it rests on none of the definitions of open and offer; the
-- discovery list comes in only through refusals 10 and 11.
--   FirstEdition f A     the file f meets none of 1-6, and A is its automaton
--   last_of A es          the last of the editions A ∷ es
--   holding A es         the entry that holds it: its place, counted from 0, is the edition number, and the first states are those of A
--   NextEdition E f .. B an offer to the entry E adds B
--   Adds es c B          the call c adds the edition B to the editions es
--   Account es cs fs     from the editions es the calls cs make the editions fs
--   accounted E es       the entry of the editions es: that of the last one, or E where there are none
-- Shown by `demand_3`. Assumes nothing.
use Rattle.std.specs.Prelude.{◌≡◌, true, List, [], ◌∷◌, ◌++◌, ℕ, length}
use Rattle.automaton.specs.declared.Automaton.{Automaton}
use Rattle.runs.specs.DeadStates.{Dead}
use Rattle.runs.specs.Containment.{Contained}
use Rattle.format.specs.File.{holds, read_file}
use Rattle.checks.specs.Checks.{None}
use Rattle.history.specs.declared.Entry.{Entry}
use Rattle.history.specs.Tables.{offer_refusals}
use Rattle.history.specs.Calls.{Call, open_call, offer_call}

pub record FirstEdition (f : List ℕ) (A : Automaton) : Type 0 where
  pub read : read_file f ≡ holds A
  pub alive : (q : ℕ) → Dead A q → ⊥

abbrev pub last_of : Automaton → List Automaton → Automaton
last_of A [] = A
last_of A (B ∷ es) = last_of B es

abbrev pub holding : Automaton → List Automaton → Entry
holding A es = record { filled = true; edition = length es; first = A.states; held = last_of A es }

pub record NextEdition (E : Entry) (f : List ℕ) (b : ℕ) (work word : List ℕ) (B : Automaton) : Type 0 where
  pub read : read_file f ≡ holds B
  pub unrefused : None (offer_refusals E f b work word)
  pub forward : Contained E.held B b
  pub back : Contained B E.held b

abbrev pub Adds : List Automaton → Call → Automaton → Type 0
Adds [] (open_call f) B = FirstEdition f B
Adds [] (offer_call f b work word) B = ⊥
Adds (A ∷ es) (open_call f) B = ⊥
Adds (A ∷ es) (offer_call f b work word) B = NextEdition (holding A es) f b work word B

pub data Account : List Automaton → List Call → List Automaton → Type 0 where
  done : {es : List Automaton} → Account es [] es
  adds : {es fs : List Automaton} {c : Call} {cs : List Call} (B : Automaton) → Adds es c B → Account (es ++ B ∷ []) cs fs
      → Account es (c ∷ cs) fs
  keeps : {es fs : List Automaton} {c : Call} {cs : List Call} → ((B : Automaton) → Adds es c B → ⊥) → Account es cs fs
      → Account es (c ∷ cs) fs

abbrev pub accounted : Entry → List Automaton → Entry
accounted fresh [] = fresh
accounted fresh (A ∷ es) = holding A es
