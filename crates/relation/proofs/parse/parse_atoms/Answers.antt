use Rattle.relation_text.specs.declared.shape.RelationForm.TheVariants.{Atoms}
use Rattle.relation.proofs.GoodVersions.{good_unless_refused}
use Rattle.relation.proofs.parse.parse_atoms.Goals as goal

pub atoms_between-requires : goal.atoms_between-requires
atoms_between-requires c = good_unless_refused Atoms c.args.value.now c.in_ok-check.ensures
