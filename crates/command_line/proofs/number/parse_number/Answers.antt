use Rattle.std.proofs.Common.{◌∙◌}
use Rattle.command_line.proofs.NumberLemmas.{number_parsed}
use Rattle.command_line.proofs.number.parse_number.Goals as goal

pub returns : goal.returns
returns c = c.ok.ensures.value ∙ number_parsed c.args.word.now c.parse.result c.requires c.parse.ensures.value.0
