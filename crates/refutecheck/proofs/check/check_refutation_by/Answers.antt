-- What is accepted refutes.
use Rattle.std.proofs.Common.{subst}
use Rattle.std.specs.List.Sorted.{IsStrictlySortedBy}
use Rattle.rules.specs.Universe.{Universe, pair_cmp}
use Rattle.refutecheck.proofs.LineLemmas.{refutes_all}
use Rattle.refutecheck.proofs.check.check_refutation_by.Goals as goal

pub returns-clause-refutes : goal.returns-clause-refutes
returns-clause-refutes c =
    let Ascends : Universe → Type 0 = λ u. IsStrictlySortedBy pair_cmp u.pairs in
    refutes_all c.args.premises.now c.as_slice.result.now c.in_ok-verdict.verdict c.none_is_acceptable.ensures
    (subst Ascends c.universe.ensures c.pairs-ascending.ensures.ascending) c.in_ok-verdict.ensures
