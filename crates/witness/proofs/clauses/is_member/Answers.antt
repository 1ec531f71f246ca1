-- The test is the fact.
use Rattle.std.proofs.Common.{◌∙◌, sym}
use Rattle.rules.specs.NamedLaws.{contains-is_among, is_among-contains}
use Rattle.witness.proofs.clauses.is_member.Goals as goal

pub returns : goal.returns
returns c = (
  λ among. contains-is_among c.args.names.now c.args.entry.now (sym c.is_among.ensures ∙ among),
  λ within. c.is_among.ensures ∙ is_among-contains c.args.names.now c.args.entry.now within,
)
