-- `name_bytes` meets its contract: the bytes that it passes are those of the name. Assumes nothing.
use Rattle.std.proofs.Common.{◌∙◌, arith, rules}
use Rattle.std.proofs.lemmas.Iterator.{YieldsList-from_slice}
use Rattle.std.proofs.lemmas.Iterator.Search.{YieldsList-from_take_while}
use Rattle.std.proofs.lemmas.Iterator.Consumers.{count_from_yields_List}
use Rattle.std.proofs.lemmas.List.Folds.{length-prefix_len}
use Rattle.std.proofs.lemmas.List.Sums.{prefix_len-le-length}
use Rattle.tokens.specs.Tokens.{name_byte}
use Rattle.tokens.proofs.Runs.{name_bytes_lem}
use Rattle.tokens.proofs.name_bytes.Goals as goal

pub returns : goal.returns
returns c =
    let s = c.args.text.now in
    let n = count_from_yields_List c.take_while.result _ c.count.ensures.ran
    (YieldsList-from_take_while _ (λ b. name_byte b) (YieldsList-from_slice s (search rules)) c.take_while.ensures.closure c.take_while.ensures.done
    (λ x b q k. search rules)) ∙ length-prefix_len (λ b. name_byte b) s in
    let small = prefix_len-le-length (λ b. name_byte b) s in
    (n ∙ name_bytes_lem s, omega (arith, n, small))
