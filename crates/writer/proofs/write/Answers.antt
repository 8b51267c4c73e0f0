-- `write` meets its contract, by the two cases of the room. Assumes nothing.
use Rattle.std.proofs.Common.{rules}
use native.Mathlib.Omega.{arith}
use Rattle.writer.proofs.WriteSteps.{short_writes, whole_writes}
use Rattle.writer.proofs.write.Goals as goal

pub returns-then-out-needed : goal.returns-then-out-needed
returns-then-out-needed g c = let a = c.args in
    let s = short_writes a.valid.automaton.now a.out.now c.length_of-needed.result c.length_of-needed.ensures (omega arith) in
    record { answer = λ _. s.answer; out = s.out }

pub returns-clause-answer : goal.returns-clause-answer
returns-clause-answer g c = λ _. let a = c.args in
    let n = c.new-cursor.ensures in
    (whole_writes a.valid.automaton.now a.out.now c.length_of-needed.result c.length_of-needed.ensures (omega arith) n.out n.at c.put_file.ensures).answer

pub returns-clause-out : goal.returns-clause-out
returns-clause-out g c = let a = c.args in
    let n = c.new-cursor.ensures in
    let s = whole_writes a.valid.automaton.now a.out.now c.length_of-needed.result c.length_of-needed.ensures (omega arith) n.out n.at c.put_file.ensures in
    rw (← s.out) (search rules)
