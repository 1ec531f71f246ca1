-- What follows for universes: their orders are total, inputs have one universe, and a plan has one verdict.
use Rattle.std.specs.Prelude.{◌≡◌, List}
use Rattle.std.specs.Cmp.{IsTotalOrder, on_total, then_total}
use Rattle.std.specs.Cmp.Lexicographic.{nat_list_cmp_total}
use Rattle.rules.specs.Available.{Inputs}
use Rattle.rules.specs.Database.{Record}
use Rattle.rules.specs.Universe.{Candidate, IsUniverse, Pair, Universe, candidate_cmp, pair_cmp}
use Rattle.rules.specs.Verdict.{IsVerdict}
use Rattle.rules.specs.VersionOrderLaws.{version_cmp_total}
use Rattle.rules.specs.declared.step.Step.{Step}
use Rattle.rules.specs.declared.step.Verdict.{Verdict}

-- the order of pairs is total
pub pair_cmp_total : IsTotalOrder pair_cmp
pair_cmp_total = then_total
    (on_total (λ (pair : Pair). pair.pkg.name) nat_list_cmp_total)
    (on_total (λ (pair : Pair). pair.pkg.version) version_cmp_total)

-- the order of candidates is total
pub candidate_cmp_total : IsTotalOrder candidate_cmp
candidate_cmp_total = on_total (λ (candidate : Candidate). candidate.name) nat_list_cmp_total

-- the same inputs have one universe
abbrev pub OneUniverse : Type 0
OneUniverse = (inputs : Inputs) (u other : Universe) → IsUniverse inputs u → IsUniverse inputs other → u ≡ other

-- a plan has one verdict
abbrev pub OneVerdict : Type 0
OneVerdict = (u : Universe) (start : List Record) (steps : List Step) (first second : Verdict)
    → IsVerdict u start steps first → IsVerdict u start steps second → first ≡ second
