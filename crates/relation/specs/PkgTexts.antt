-- The texts that a package is read from, which were tested.
use Rattle.std.specs.Prelude.{◌≡◌, None, IsTrue}
use Rattle.rules.specs.Name.{is_name}
use Rattle.rules.specs.VersionFault.{first_fault}
use Rattle.relation.specs.PkgValues.{HaveGoodRelations, PkgValues}
use Rattle.relation.specs.declared.values.PkgTexts.{PkgTexts}

-- the values that these texts are
abbrev pub values_in : PkgTexts → PkgValues
values_in texts = record {
  name = texts.name.now;
  version = texts.version.now;
  pre_depends = texts.pre_depends.now;
  depends = texts.depends.now;
  conflicts = texts.conflicts.now;
  breaks = texts.breaks.now;
  provides = texts.provides.now;
}

-- the name is a package name, the version isn't refused, and no version of the values of the relation fields is
pub record AreTested (values : PkgValues) : Type 0 where
  pub name_is_good : IsTrue (is_name values.name)
  pub version_is_good : first_fault values.version ≡ None
  pub relations : HaveGoodRelations values
