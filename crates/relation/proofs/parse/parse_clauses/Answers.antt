use Rattle.relation_text.specs.declared.shape.RelationForm.TheVariants.{Clauses}
use Rattle.relation.proofs.GoodVersions.{good_unless_refused}
use Rattle.relation.proofs.parse.parse_clauses.Goals as goal

pub clauses_of-requires : goal.clauses_of-requires
clauses_of-requires c = good_unless_refused Clauses c.args.value.now c.in_ok-check.ensures
