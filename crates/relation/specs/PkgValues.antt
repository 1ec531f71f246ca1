-- The values that a package is read from (Policy 5.6.1, 5.6.12 and chapter 7): that of a field that isn't there is empty.
use Rattle.std.specs.Prelude.{ℕ, List}
use Rattle.rules.specs.Package.{Pkg}
use Rattle.relation.specs.PkgText.{value_in}
use Rattle.relation.specs.Value.{HaveGoodVersions}
use Rattle.relation.specs.declared.fields.PkgFields.{PkgFields}
use Rattle.relation_text.specs.Spelling.{atoms_between, clauses_of, parts_of, provided_items_of}
use Rattle.relation_text.specs.declared.cut.Separator.TheVariants.{Comma, CommaOrBar}

-- the name, the version and the values of the relation fields
pub record PkgValues : Type 0 where
  pub name : List ℕ
  pub version : List ℕ
  pub pre_depends : List ℕ
  pub depends : List ℕ
  pub conflicts : List ℕ
  pub breaks : List ℕ
  pub provides : List ℕ

-- the values of the fields of a package
abbrev pub values_of : PkgFields → PkgValues
values_of fields = record {
  name = value_in fields.name;
  version = value_in fields.version;
  pre_depends = value_in fields.pre_depends;
  depends = value_in fields.depends;
  conflicts = value_in fields.conflicts;
  breaks = value_in fields.breaks;
  provides = value_in fields.provides;
}

-- the package that the values spell for an architecture
abbrev pub spelled : List ℕ → PkgValues → Pkg
spelled arch values = record {
  name = values.name;
  version = values.version;
  relations = record {
    pre_depends = clauses_of arch values.pre_depends;
    depends = clauses_of arch values.depends;
    conflicts = atoms_between Comma arch values.conflicts;
    breaks = atoms_between Comma arch values.breaks;
    provides = provided_items_of arch values.provides;
  };
}

-- no version of the values of the relation fields is refused
pub record HaveGoodRelations (values : PkgValues) : Type 0 where
  pub pre_depends : HaveGoodVersions (parts_of CommaOrBar values.pre_depends)
  pub depends : HaveGoodVersions (parts_of CommaOrBar values.depends)
  pub conflicts : HaveGoodVersions (parts_of Comma values.conflicts)
  pub breaks : HaveGoodVersions (parts_of Comma values.breaks)
  pub provides : HaveGoodVersions (parts_of Comma values.provides)
