-- `write_file` meets its contract: the refusal, or the automaton that the reader hands out, which is in range. Assumes nothing.
use Rattle.std.proofs.Common.{◌≡◌, Err, Ok, rules}
use mathlib.Core.Path.{ap}
use Rattle.automaton.specs.declared.Automaton.{Automaton}
use Rattle.automaton.specs.Automata.{bare}
use Rattle.format.specs.declared.FileRefusal.{FileRefusal}
use Rattle.format.specs.Numbers.{file_number}
use Rattle.fixed_form.specs.declared.WriteRefusal.TheVariants.{Unread}
use Rattle.writer.proofs.WriteSteps.{refused_writes, read_writes}
use Rattle.writer.proofs.write_file.Goals as goal

pub read-requires : goal.read-requires
unfolding bare
read-requires c = ap (λ (A : Automaton). A.transitions) c.empty-automaton.ensures

pub returns-in_err-map_err : goal.returns-in_err-map_err
returns-in_err-map_err c =
    let e : (x : FileRefusal) × (c.read.result ≡ Err x) × (c.from_residual.result ≡ Err (Unread x)) = search rules in
    let g = refused_writes c.args.file.now c.args.out.now _ _ c.read.ensures.answer e.0 _ e.1 e.2 in
    record { answer = g.answer; out = g.out; demand1 = g.demand1 }

pub returns : goal.returns
returns c =
    let e : c.read.result ≡ Ok tt = search rules in
    let g = read_writes c.args.file.now c.args.out.now _ _ c.read.ensures.answer _ _ e (c.write.ensures.answer file_number) c.write.ensures.out in
    record { answer = g.answer; out = g.out; demand1 = g.demand1 }
