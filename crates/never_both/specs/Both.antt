-- When a plan and a refutation can't both be right (this project's own).
use Rattle.std.specs.Prelude.{◌≡◌, List, MatchOption, ⊤}
use Rattle.std.specs.List.{All}
use Rattle.inputs.specs.Before.{AreListed}
use Rattle.inputs.specs.Texts.{Found, Texts}
use Rattle.plain.specs.Counted.{IsCounted}
use Rattle.refutation.specs.Refutation.{IsAccepted}
use Rattle.refutation.specs.declared.line.Line.{Line}
use Rattle.refutecheck.specs.declared.verdict.Verdict.TheVariants as refuted
use Rattle.rules.specs.Available.{Index, all_listed}
use Rattle.rules.specs.Database.{Record, Stands}
use Rattle.rules.specs.Run.{IsGoodPlan}
use Rattle.rules.specs.Universe.{IsOf, Universe}
use Rattle.rules.specs.Verdict.{IsBuiltOn}
use Rattle.rules.specs.declared.step.Step.{Step}
use Rattle.rules.specs.declared.step.Verdict.TheVariants as verdict
use Rattle.cli_engine.specs.Answer.{IsAnswer}
use Rattle.cli_engine.specs.Refuted.{IsRefutationAnswer}

-- no stanza of an index has the name and the version of a package that stands but other relations
abbrev pub HasNoOtherRelations : List Record → List Index → Type 0
HasNoOtherRelations start indices = All (λ entry. Stands entry
    → All (λ listed. IsOf entry.name entry.version listed.pkg → listed.pkg.relations ≡ entry.relations) (all_listed indices)) start

-- so it is of the status file and the indices that the texts are read as
abbrev pub AgreeOnRelations : Texts → Type 0
AgreeOnRelations texts = (start : List Record) (indices : List Index) → AreListed texts start indices → HasNoOtherRelations start indices

-- of a universe: the stanza of each pair, if it has one, has the relations of the pair's package
abbrev pub HasOneRelationsEach : Universe → Type 0
HasOneRelationsEach u = All (λ pair. MatchOption pair.listed ⊤ (λ listed. listed.pkg.relations ≡ pair.pkg.relations)) u.pairs

-- of a universe that is built on a start and counted by it, with a good plan, and in which the stanzas of pairs have their
-- relations, no refutation is accepted
abbrev pub GoodPlanIsNotRefuted : Type 0
GoodPlanIsNotRefuted = (u : Universe) (start : List Record) (steps : List Step) (lines : List Line) → IsBuiltOn start u
    → IsCounted start u → HasOneRelationsEach u → IsGoodPlan u start steps → ¬ IsAccepted u lines

-- where the texts agree on relations, not both a plan and a refutation are answered with yes
abbrev pub NeverBothYes : Type 0
NeverBothYes = (texts : Texts) (plan refutation : Found) → AgreeOnRelations texts → IsAnswer texts plan verdict.Yes
    → ¬ IsRefutationAnswer texts refutation refuted.Yes
