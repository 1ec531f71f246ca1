-- Where the relation fields have no refusal, none of them has, and none of their versions is refused.
use Rattle.std.proofs.Common.{◌≡◌, [], Option, Some, None, refl}
use Rattle.stanza.specs.Field.{FieldText}
use Rattle.relation.specs.PkgText.{on_line, relation_fault_in, relations_fault, value_in}
use Rattle.relation.specs.PkgValues.{HaveGoodRelations, values_of}
use Rattle.relation_text.specs.Refusal.{bad_version_of, fault_of, separator_of}
use Rattle.relation_text.specs.Spelling.{parts_of}
use Rattle.relation.specs.Value.{HaveGoodVersions}
use Rattle.relation.specs.declared.fields.PkgFields.{PkgFields}
use Rattle.relation_text.specs.declared.shape.RelationForm.{RelationForm}
use Rattle.relation_text.specs.declared.shape.RelationForm.TheVariants.{Clauses, Atoms, Provides}
use Rattle.relation.proofs.GoodVersions.{good_unless_refused, none_mapped, none_or}

pub good_field : (form : RelationForm) (field : FieldText) → relation_fault_in form (Some field) ≡ None → HaveGoodVersions (parts_of (separator_of form) field.value)
good_field form field e = good_unless_refused form field.value (none_mapped (on_line field.line) (fault_of form field.value) e)

pub record HaveNoFault (fields : PkgFields) : Type 0 where
  pub pre_depends : relation_fault_in Clauses fields.pre_depends ≡ None
  pub depends : relation_fault_in Clauses fields.depends ≡ None
  pub conflicts : relation_fault_in Atoms fields.conflicts ≡ None
  pub breaks : relation_fault_in Atoms fields.breaks ≡ None
  pub provides : relation_fault_in Provides fields.provides ≡ None

pub each_without_fault : (fields : PkgFields) → relations_fault fields ≡ None → HaveNoFault fields
unfolding relations_fault
each_without_fault fields e =
    let pre_depends = none_or (relation_fault_in Clauses fields.pre_depends) _ e in
    let depends = none_or (relation_fault_in Clauses fields.depends) _ pre_depends.1 in
    let conflicts = none_or (relation_fault_in Atoms fields.conflicts) _ depends.1 in
    let breaks = none_or (relation_fault_in Atoms fields.breaks) (relation_fault_in Provides fields.provides) conflicts.1 in
    record {
      pre_depends = pre_depends.0;
      depends = depends.0;
      conflicts = conflicts.0;
      breaks = breaks.0;
      provides = breaks.1;
    }

good_blank : (form : RelationForm) → HaveGoodVersions (parts_of (separator_of form) [])
unfolding bad_version_of
good_blank Clauses = (refl, tt)
good_blank Atoms = (refl, tt)
good_blank Provides = (refl, tt)

good_in : (form : RelationForm) (field : Option FieldText) → relation_fault_in form field ≡ None → HaveGoodVersions (parts_of (separator_of form) (value_in field))
good_in form None e = good_blank form
good_in form (Some field) e = good_field form field e

-- where the fields of a package have no refusal, no version of the values of its relation fields is refused
pub good_relations : (fields : PkgFields) → relations_fault fields ≡ None
    → HaveGoodRelations (values_of fields)
good_relations fields e =
    let each = each_without_fault fields e in
    record {
      pre_depends = good_in Clauses fields.pre_depends each.pre_depends;
      depends = good_in Clauses fields.depends each.depends;
      conflicts = good_in Atoms fields.conflicts each.conflicts;
      breaks = good_in Atoms fields.breaks each.breaks;
      provides = good_in Provides fields.provides each.provides;
    }
