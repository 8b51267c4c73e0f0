-- `start` meets its contract: the automaton is the header's alone. Assumes nothing.
use Rattle.std.proofs.Common.{◌≡◌, ◌*◌, ◌^◌, ◌%◌, refl, arith}
use Rattle.automaton.specs.Automata.{bare}
use Rattle.hanoi.proofs.Described.{few_letters}
use Rattle.hanoi_reader.proofs.start.Goals as goal

pub returns : goal.returns
unfolding bare
returns c =
    let k = c.args.header.propositions in
    let few = few_letters k c.requires.0 in
    let letters : 1 * 2 ^ k % 18446744073709551616 ≡ 2 ^ k = omega (arith, few.1) in
    rw (c.start.ensures, c.requires.1, letters) refl
