-- What provides the name, or another cause.
use Rattle.std.proofs.Common.{List, ℕ, subst, sym}
use Rattle.refutation_sentences.specs.Causes.{IsCause, TellsCause}
use Rattle.refutation_sentences.specs.Offers.{AreNumbersOf, IsBy}
use Rattle.refutation_sentences.specs.declared.offers.By.TheVariants as by
use Rattle.refutation_sentences.proofs.goals.push_goal_cause.Goals as goal
use mathlib.Core.Logic.{inl}

pub push_pairs_cause-requires : goal.push_pairs_cause-requires
push_pairs_cause-requires c =
    let so = subst (IsCause c.args.context.now.premises.now c.args.context.now.indices.now c.args.wanted.now) c.in-Provided.is c.requires in
    record {
      unnamed = so.0;
      numbers = subst (AreNumbersOf c.args.context.now.premises.now (IsBy by.Provides c.args.wanted.now.name)) (sym c.as_slice.ensures.value) so.1;
    }

pub push_stanza_cause-requires : goal.push_stanza_cause-requires
push_stanza_cause-requires c =
    let so = subst (IsCause c.args.context.now.premises.now c.args.context.now.indices.now c.args.wanted.now) c.in-Elsewhere.is c.requires in
    record { unnamed = so.0; stanza = so.1 }

pub returns-in_ok-push_cause-in_default : goal.returns-in_ok-push_cause-in_default
returns-in_ok-push_cause-in_default c =
    let grown = c.in_ok-push_cause-in_default.ensures in (
      grown.0,
      grown.1,
      inl (
        c.args.cause.now,
        c.requires,
        subst (λ (name : List ℕ). TellsCause c.args.context.now.premises.now name c.args.cause.now grown.0) c.name.ensures grown.2,
      ),
    )
