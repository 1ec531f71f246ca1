use Rattle.std.proofs.Common.{◌≡◌, ◌∙◌, sym, Some, None}
use Rattle.std.specs.List.{position}
use Rattle.journal.proofs.LineLemmas.{parted_at, parted_past}
use Rattle.journal.proofs.payload.split_line.Goals as goal

pub returns-in-Some-clause-line : goal.returns-in-Some-clause-line
returns-in-Some-clause-line c = c.split_at.ensures.front ∙ (parted_at c.args.text.now c.in-Some.at (sym c.first_newline.ensures ∙ c.in-Some.is)).line

pub returns-in-Some-clause-behind : goal.returns-in-Some-clause-behind
returns-in-Some-clause-behind c = c.split_at.ensures.back ∙ (parted_at c.args.text.now c.in-Some.at (sym c.first_newline.ensures ∙ c.in-Some.is)).behind

pub returns-in-None-clause-line : goal.returns-in-None-clause-line
returns-in-None-clause-line c = c.split_at-in-None.ensures.front ∙ (parted_past c.args.text.now (sym c.first_newline.ensures ∙ c.in-None.is)).line

pub returns-in-None-clause-behind : goal.returns-in-None-clause-behind
returns-in-None-clause-behind c = c.split_at-in-None.ensures.back ∙ (parted_past c.args.text.now (sym c.first_newline.ensures ∙ c.in-None.is)).behind
