use Rattle.relation.proofs.GoodFields.{good_relations}
use Rattle.relation.proofs.fields.PkgFields.tested_values.Goals as goal

pub invariant_of-result : goal.invariant_of-result
invariant_of-result c =
    let good = good_relations c.args.self.now c.in_ok-check_relations_by.ensures in (
      c.in_ok-name.ensures.name,
      record {
        pre_depends = rw c.value_in.ensures good.pre_depends;
        depends = rw c.value_in-2.ensures good.depends;
        conflicts = rw c.value_in-3.ensures good.conflicts;
        breaks = rw c.value_in-4.ensures good.breaks;
        provides = rw c.value_in-5.ensures good.provides;
      },
    )
