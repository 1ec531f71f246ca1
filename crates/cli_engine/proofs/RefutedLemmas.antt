-- A refutation has one answer, and where that is yes no selection is acceptable.
use Rattle.std.proofs.Common.{◌≡◌, List, Ok, Err, refl, ap, subst}
use Rattle.candidates.specs.Inputs.{inputs_of}
use Rattle.plain.specs.Counted.{IsCounted}
use Rattle.refutation.specs.Laws.{HasAscendingPairs, HasNeededPairs}
use Rattle.rules.specs.Database.{Record}
use Rattle.rules.specs.Universe.{Universe}
use Rattle.refutecheck.specs.declared.verdict.Verdict.TheVariants as verdict
use Rattle.inputs.specs.Meaning.{Denotes, asked_of}
use Rattle.inputs.specs.Reading.{out_of_memory}
use Rattle.inputs.specs.Texts.{Found, Texts}
use Rattle.inputs.specs.declared.refusal.Refusal.{Refusal}
use Rattle.inputs.proofs.DistinctLemmas.{distinct_start}
use Rattle.inputs.proofs.MeaningLemmas.{meaning_is_not_refused, not-both, ok-same, one_meaning}
use Rattle.plain.proofs.MemberLemmas.{universe_is_counted}
use Rattle.refutation.proofs.NeededLemmas.{universe_has_needed_pairs}
use Rattle.refutation.proofs.PremiseLemmas.{none_is_acceptable}
use Rattle.written_refutation.proofs.VerdictLemmas.{has_one_verdict}
use Rattle.written_refutation.specs.Judged.{IsWrittenVerdict, lines_of}
use Rattle.written_refutation.specs.declared.written.WrittenRefutation.{WrittenRefutation}
use Rattle.cli_engine.specs.Refuted.{AcceptedRefutationIsAnswered, IsFirstRefutationRefusal, RefutationHasOneAnswer, YesRefutes, refutation_of}
use Rattle.cli_engine.specs.Solution.{MeaningIsAnswered}
use mathlib.Core.Logic.{inl, inr}

-- the pairs of the universe that texts denote ascend, and those that must be selected are there
pub needed-pairs : (texts : Texts) (u : Universe) (start : List Record) → Denotes texts u start → HasAscendingPairs u × HasNeededPairs u
needed-pairs texts u start is = universe_has_needed_pairs (inputs_of start is.indices is.prefs (asked_of is.asked)) u
    (distinct_start texts start is.read.listed.started) is.requested.built.universe

-- the universe that texts denote is counted by their start
pub counted-by-start : (texts : Texts) (u : Universe) (start : List Record) → Denotes texts u start → IsCounted start u
counted-by-start texts u start is = universe_is_counted (inputs_of start is.indices is.prefs (asked_of is.asked)) u
    (distinct_start texts start is.read.listed.started) is.requested.built.universe

pub yes-refutes : YesRefutes
yes-refutes texts refutation answer = record {
  universe = answer.universe;
  start = answer.start;
  denoted = answer.denoted;
  only = λ u begin also. (one_meaning texts answer.universe u answer.start begin answer.denoted also).0;
  none = none_is_acceptable answer.universe (lines_of answer.universe.pairs answer.written).lines
      (needed-pairs texts answer.universe answer.start answer.denoted).0 answer.holds.accepted;
}

pub one-answer : RefutationHasOneAnswer
one-answer texts refutation first second answer other = has_one_verdict other.universe other.written first second
    (subst (λ (w : WrittenRefutation). IsWrittenVerdict other.universe w first) same
    (subst (λ (u : Universe). IsWrittenVerdict u answer.written first) one.0 answer.holds)) other.holds
  where
    one : (answer.universe ≡ other.universe) × (answer.start ≡ other.start)
    one = one_meaning texts answer.universe other.universe answer.start other.start answer.denoted other.denoted

    same : answer.written ≡ other.written
    same = ok-same answer.written other.written (refutation_of refutation) answer.read other.read

-- a refutation that is read isn't refused, so that a refusal beside a meaning is want of memory
wanting : (texts : Texts) (refutation : Found) (u : Universe) (start : List Record) (written : WrittenRefutation) (refused : Refusal)
    → Denotes texts u start → refutation_of refutation ≡ Ok written → IsFirstRefutationRefusal texts refutation refused
    → refused ≡ out_of_memory
wanting texts refutation u start written refused is read (inl first) = meaning_is_not_refused texts u start refused is first
wanting texts refutation u start written refused is read (inr fails) =
    absurd (not-both written refused.fault (refutation_of refutation) read fails.fault)

pub accepted-is-answered : AcceptedRefutationIsAnswered
accepted-is-answered texts refutation u start written tells_reasons has_document (Ok judged) is read accepted said = inl (
  judged,
  refl,
  one-answer texts refutation judged.verdict verdict.Yes said.answer
      (record { universe = u; start = start; written = written; denoted = is; read = read; holds = accepted }),
)
accepted-is-answered texts refutation u start written tells_reasons has_document (Err refused) is read accepted first =
    inr (ap Err (wanting texts refutation u start written refused is read first))

pub meaning-is-answered : MeaningIsAnswered
meaning-is-answered texts u start limit names_pairs tells_reasons has_document (Ok answered) is answer = inl (answered, refl)
meaning-is-answered texts u start limit names_pairs tells_reasons has_document (Err refused) is first =
    inr (ap Err (meaning_is_not_refused texts u start refused is first))
