-- The package of the stanza provides the name.
use Rattle.std.proofs.Common.{subst, sym}
use Rattle.refutation_sentences.specs.GoalCauses.{AreProvidersTold}
use Rattle.refutation_sentences.proofs.goals.push_stanza_cause.Goals as goal
use mathlib.Core.Logic.{inr}

pub push_provided-requires-clause-providers : goal.push_provided-requires-clause-providers
push_provided-requires-clause-providers c =
    subst (AreProvidersTold c.args.context.now.premises.now c.args.context.now.indices.now c.args.wanted.now) (sym c.as_slice.ensures.value)
    (inr (c.args.stanza.now, c.requires.stanza, c.in_ok-providers.ensures))
