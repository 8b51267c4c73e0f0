-- How a body holds a reading, with the automaton that it lends, and what a step of the reading leaves of it. Only contracts of the reader name these.
--   HeldBy D b          the body b holds the description D
--   Advanced y x z b    the step x goes on where the scanner z is, ahead of y, with a description that b holds
--   Taken y D x b z c r  the step x, which began at the scanner y with the description D and the body b, came to r and left z and c: a refusal and the end
--                       leave the body, and with it the automaton, as it is
-- Shown by `going_starts`, `going_past`, `going_ends` and `going_stops`: how a reading goes on after a step. Assumes nothing.
use Rattle.std.specs.Prelude.{◌≡◌, Bool, true, false, Result, Ok, Err}
use Rattle.tokens.specs.declared.scanner.Scanner.{Scanner}
use Rattle.tokens.specs.Scanners.{Ahead}
use Rattle.hanoi.specs.declared.TextRefusal.{TextRefusal}
use Rattle.hanoi.specs.Numbers.{text_number}
use Rattle.hanoi.specs.Descriptions.{Description}
use Rattle.hanoi.specs.Reading.{refused, describes, Step, over, next}
use Rattle.hanoi.specs.Meaning.{automaton_of}
use Rattle.hanoi_reader.specs.declared.parts.Body.{Body}
use Rattle.hanoi_reader.specs.Taking.{Held}

abbrev pub HeldBy : Description → Body → Type 0
HeldBy D b = Held D b.propositions b.declared b.latest b.automaton.now

pub record Advanced (y : Scanner) (x : Step) (z : Scanner) (b : Body) : Type 0 where
  pub description : Description
  pub step : x ≡ next z.at description
  pub held : HeldBy description b
  pub ahead : Ahead 1 y z

abbrev pub Taken : Scanner → Description → Step → Body → Scanner → Body → Result Bool TextRefusal → Type 0
Taken y D x b z c (Err f) = (x ≡ over (refused (text_number f))) × (c.automaton.now ≡ automaton_of D) × (c ≡ b)
Taken y D x b z c (Ok false) = (x ≡ over (describes D)) × (c.automaton.now ≡ automaton_of D) × (c ≡ b)
Taken y D x b z c (Ok true) = Advanced y x z c
