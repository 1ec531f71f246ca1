-- Which packages match `bar (>= 1.0)` and `bar`, by name and by what they provide (Policy 7.5): without a version
-- what is provided meets no restriction.
use Rattle.std.proofs.Common.{[], ◌∷◌, refl}
use Rattle.std.specs.Prelude.{codes}
use Rattle.rules.specs.Package.{Pkg, Atom, Matches}
use Rattle.rules.specs.Step.{no_relations}
use Rattle.rules.specs.Version.{version_cmp}
use Rattle.rules.specs.declared.op.Op.TheVariants.{LaterOrEqual}
use Rattle.rules.proofs.Decided.{dec_Decides, dec_IsTrue, dec_IsFalse, dec_and, dec_and3, dec_or, dec_like, dec_Any, dec_text}
use Rattle.rules.proofs.DecidedPackages.{dec_MeetsRestriction, dec_Meets, dec_MeetsAsProvided, dec_FitsByName, dec_FitsProvided, dec_FitsByProvides, dec_Matches}
use Rattle.rules.proofs.Rows.{so, not_so, any_of, some_of, provided, provided_as, package_of}

-- `x 5; Provides: bar (= 1.0)`
abbrev x_5 : Pkg
x_5 = package_of (codes "x") (codes "5") (record no_relations { provides = provided_as (codes "bar") (codes "1.0") ∷ [] })

-- `y 1; Provides: bar`
abbrev y_1 : Pkg
y_1 = package_of (codes "y") (codes "1") (record no_relations { provides = provided (codes "bar") ∷ [] })

-- `bar 0.9`
abbrev bar_0_9 : Pkg
bar_0_9 = package_of (codes "bar") (codes "0.9") no_relations

-- `bar (>= 1.0)` and `bar`
abbrev bar_from_1_0 : Atom
bar_from_1_0 = some_of (codes "bar") LaterOrEqual (codes "1.0")

abbrev bar : Atom
bar = any_of (codes "bar")

pub matches_rows : Matches x_5 bar_from_1_0 × (¬ Matches y_1 bar_from_1_0) × (¬ Matches bar_0_9 bar_from_1_0)
    × Matches x_5 bar × Matches y_1 bar × Matches bar_0_9 bar
unfolding version_cmp dec_Decides dec_IsTrue dec_IsFalse dec_and dec_and3 dec_or dec_like dec_Any dec_text dec_MeetsRestriction dec_Meets dec_MeetsAsProvided dec_FitsByName dec_FitsProvided dec_FitsByProvides dec_Matches
matches_rows = (
  so (dec_Matches x_5 bar_from_1_0) refl,
  not_so (dec_Matches y_1 bar_from_1_0) refl,
  not_so (dec_Matches bar_0_9 bar_from_1_0) refl,
  so (dec_Matches x_5 bar) refl,
  so (dec_Matches y_1 bar) refl,
  so (dec_Matches bar_0_9 bar) refl,
)
