use Rattle.std.proofs.Common.{◌≡◌, ◌∙◌, Option, Some, ap, pos, rules}
use Rattle.clap.specs.declared.builder.value_parser.ValueParser.{ValueParser}
use Rattle.clap.specs.declared.builder.value_parser.ValueParser.TheVariants.{Signed}
use Rattle.command_line.proofs.DeclareLemmas.{numbered}
use Rattle.command_line.proofs.declare.limit.Goals as goal

pub returns : goal.returns
returns c =
    let given = c.value_parser.ensures.given in
    let is : given.0 ≡ Signed (pos 0) (pos 4294967295) = search rules in
    numbered _ _ _ c.optional-taken.ensures (c.value_parser.ensures.others
    ∙ ap (λ (p : Option ValueParser). record c.optional-taken.result { value_parser = p }) (given.1 ∙ ap Some is))
