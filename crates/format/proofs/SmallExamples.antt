-- The small examples of the table of refusals, rows 1 to 5, and two files that are read, byte for byte: the definitions give what the table says
-- of them. A wrong mark, a wrong length or a wrong number is refused here. Assumes nothing.
use mathlib.Core.Path.{◌≡◌, refl}
use mathlib.Core.List.{[], ◌∷◌}
use Rattle.automaton.specs.Automata.{accepts, transition, bare, with_accepting, with_transition, header_values}
use Rattle.format.specs.Records.{record_in}
use Rattle.format.specs.File.{refused, holds, header, takes, records, read_file}

-- no bytes
pub small_1 : read_file [] ≡ refused 1
unfolding read_file records header
small_1 = refl

-- an accepting record first
pub small_2 : read_file (0x41 ∷ 0x46 ∷ 0x00 ∷ []) ≡ refused 2
unfolding read_file records header
small_2 = refl

-- no states
pub small_3 : read_file (0x41 ∷ 0x48 ∷ 0x00 ∷ 0x01 ∷ 0x00 ∷ []) ≡ refused 3
unfolding read_file records header header_values
small_3 = refl

-- state 1 of one
pub small_4 : read_file (0x41 ∷ 0x48 ∷ 0x01 ∷ 0x01 ∷ 0x00 ∷ 0x41 ∷ 0x46 ∷ 0x01 ∷ []) ≡ refused 4
unfolding read_file records header header_values takes record_in bare
small_4 = refl

-- state 0 twice
pub small_5 : read_file (0x41 ∷ 0x48 ∷ 0x01 ∷ 0x01 ∷ 0x00 ∷ 0x41 ∷ 0x46 ∷ 0x00 ∷ 0x41 ∷ 0x46 ∷ 0x00 ∷ []) ≡ refused 5
unfolding read_file records header header_values takes record_in bare accepts with_accepting
small_5 = refl

-- one state and nothing else, the small example of refusal 6
pub small_6 : read_file (0x41 ∷ 0x48 ∷ 0x01 ∷ 0x01 ∷ 0x00 ∷ 0x41 ∷ 0x45 ∷ []) ≡ holds (bare 1 1 0)
unfolding read_file records header header_values takes record_in
small_6 = refl

-- the worked automaton H
pub worked_h : read_file (0x41 ∷ 0x48 ∷ 0x01 ∷ 0x01 ∷ 0x00 ∷ 0x41 ∷ 0x46 ∷ 0x00 ∷ 0x41 ∷ 0x54 ∷ 0x00 ∷ 0x00 ∷ 0x00 ∷ 0x41 ∷ 0x45 ∷ [])
    ≡ holds (with_transition (with_accepting (bare 1 1 0) 0) 0 0 0)
unfolding read_file records header header_values takes record_in bare accepts transition with_accepting with_transition
worked_h = refl
