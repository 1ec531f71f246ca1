-- The pairs provide the name.
use Rattle.std.proofs.Common.{subst, sym}
use Rattle.refutation_sentences.specs.GoalCauses.{AreProvidersTold}
use Rattle.refutation_sentences.proofs.goals.push_pairs_cause.Goals as goal
use mathlib.Core.Logic.{inl}

pub push_provided-requires-clause-providers : goal.push_provided-requires-clause-providers
push_provided-requires-clause-providers c =
    subst (AreProvidersTold c.args.context.now.premises.now c.args.context.now.indices.now c.args.wanted.now) (sym c.as_slice.ensures.value)
    (inl (c.args.numbers.now, c.requires.numbers, c.in_ok-providers.ensures))
