-- `number_in` meets its contract: a number of any length is in the range exactly when what the code holds of it is. Assumes nothing.
use Rattle.std.proofs.Common.{sym, ap, ◌∙◌, arith}
use Rattle.std.specs.Option.{option_map}
use Rattle.std.proofs.lemmas.Result.{err_from_is_err_and}
use Rattle.std.proofs.lemmas.Bool.Decides.{nat_tests}
use Rattle.hanoi_header.proofs.ItemLaws.{missing, number_absent, number_within, number_beyond}
use Rattle.hanoi_header.proofs.number_in.Goals as goal

pub returns-in_err-number-clause-meaning : goal.returns-in_err-number-clause-meaning
returns-in_err-number-clause-meaning g c =
    let p = err_from_is_err_and c.from_residual.result c.from_residual.ensures.1 in
    let h = missing _ _ c.in_err-number.ensures.value in
    rw (p.1, p.2, h.1, c.outside_subset.ensures)
    (λ ok agrees go. number_absent _ _ c.requires ok agrees _ _ _ go
    (ap (option_map (λ v. (v, c.number.new.self.at))) (sym h.0) ∙ c.number.ensures.meaning))

pub returns-then-contains-clause-meaning : goal.returns-then-contains-clause-meaning
returns-then-contains-clause-meaning g c = λ ok agrees go.
    number_within _ _ c.requires ok agrees _ _ _ go _ c.number.new.self.at
    (ap (option_map (λ v. (v, c.number.new.self.at))) (sym c.in_ok-number.ensures.ok_part) ∙ c.number.ensures.meaning)
    (grind (arith, nat_tests, c.contains.ensures.value, c.if-contains.true))

pub returns-else-contains-clause-meaning : goal.returns-else-contains-clause-meaning
returns-else-contains-clause-meaning g c = λ ok agrees go.
    number_beyond _ _ c.requires ok agrees _ _ _ go _ c.number.new.self.at
    (ap (option_map (λ v. (v, c.number.new.self.at))) (sym c.in_ok-number.ensures.ok_part) ∙ c.number.ensures.meaning)
    (grind (arith, nat_tests, c.contains.ensures.value, c.if-contains.false))
