-- `write_text` meets its contract: the text's refusal, or the automaton that the reader leaves, which is in range. Assumes nothing.
use Rattle.std.proofs.Common.{◌≡◌, Err, Ok, ap, rules}
use Rattle.automaton.specs.declared.Automaton.{Automaton}
use Rattle.automaton.specs.Automata.{bare}
use Rattle.fixed_form.specs.declared.WriteRefusal.TheVariants.{Unread}
use Rattle.hanoi.specs.declared.TextRefusal.{TextRefusal}
use Rattle.hanoi.specs.Numbers.{text_number}
use Rattle.hanoi_reader.proofs.ReadLaws.{text_stops, text_writes}
use Rattle.hanoi_reader.proofs.write_text.Goals as goal

pub read-requires : goal.read-requires
unfolding bare
read-requires c = ap (λ (A : Automaton). A.transitions) c.empty-automaton.ensures

pub returns-in_err-map_err : goal.returns-in_err-map_err
returns-in_err-map_err c =
    let e : (x : TextRefusal) × (c.read.result ≡ Err x) × (c.from_residual.result ≡ Err (Unread x)) = search rules in
    let d = rw e.1 at c.read.ensures.answer in
    let g = text_stops c.args.text.now c.args.out.now _ d.0 in
    record { answer = rw e.2 g.answer; out = g.out; demand1 = g.demand1 }

pub returns : goal.returns
returns c =
    let e : c.read.result ≡ Ok tt = search rules in
    let d = rw e at c.read.ensures.answer in
    let g = text_writes c.args.text.now c.args.out.now _ d _ _ (c.write.ensures.answer text_number) c.write.ensures.out in
    record { answer = g.answer; out = g.out; demand1 = g.demand1 }
