-- `read` meets its contract: the first record decides, and the others are read from its end on. Assumes nothing.
use mathlib.Core.Path.{sym, ap, ◌∙◌}
use Rattle.std.proofs.Common.{rules}
use Rattle.format.specs.File.{next}
use Rattle.file.specs.Taking.{start_step}
use Rattle.file.proofs.RecordParts.{started_bare, reading_unstarted}
use Rattle.file.proofs.Readings.{reading_in_range}
use Rattle.file.proofs.read.Goals as goal

pub read_records-requires : goal.read_records-requires
read_records-requires c =
    ap (next 5) (c.start.ensures ∙ started_bare _ c.args.automaton.now c.requires) ∙ sym (ap start_step c.in-Ok.is) ∙ c.read_header.ensures

pub returns-in-Ok-clause-in_range : goal.returns-in-Ok-clause-in_range
returns-in-Ok-clause-in_range c = reading_in_range _ _ _ c.read_records.ensures.answer

pub returns-in-Err-clause-answer : goal.returns-in-Err-clause-answer
returns-in-Err-clause-answer c = (reading_unstarted _ _ (sym (ap start_step c.in-Err.is) ∙ c.read_header.ensures)).0

pub returns-in-Err-clause-automaton : goal.returns-in-Err-clause-automaton
returns-in-Err-clause-automaton c =
    (c.start-in-Err.ensures ∙ started_bare _ c.args.automaton.now c.requires ∙ search rules)
    ∙ (reading_unstarted _ _ (sym (ap start_step c.in-Err.is) ∙ c.read_header.ensures)).1
