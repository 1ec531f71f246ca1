use Rattle.relation_text.specs.declared.shape.RelationForm.TheVariants.{Provides}
use Rattle.relation.proofs.GoodVersions.{good_unless_refused}
use Rattle.relation.proofs.parse.parse_provides.Goals as goal

pub provided_items_of-requires : goal.provided_items_of-requires
provided_items_of-requires c = good_unless_refused Provides c.args.value.now c.in_ok-check.ensures
