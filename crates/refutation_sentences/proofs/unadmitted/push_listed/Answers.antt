-- Where nothing stands the version of the stanza is the highest.
use Rattle.std.proofs.Common.{◌≡◌, ◌∙◌, List, ℕ, ap, subst, sym}
use Rattle.std.specs.Option.{option_copied}
use Rattle.refutation_sentences.specs.Offers.{IsHighestVersionOf}
use Rattle.refutation_sentences.proofs.FoundLemmas.{highest_alone}
use Rattle.refutation_sentences.proofs.unadmitted.push_listed.Goals as goal

pub push_as_highest-requires : goal.push_as_highest-requires
push_as_highest-requires c =
    subst (IsHighestVersionOf c.args.context.now.premises.now c.args.context.now.indices.now c.args.name.now) (sym c.version-version.ensures)
    (highest_alone c.args.context.now.premises.now c.args.context.now.indices.now c.args.name.now c.args.stanza.now
    (sym c.standing-standing.ensures ∙ ap option_copied c.in-None.is) c.requires)

pub push_higher-requires-clause-standing : goal.push_higher-requires-clause-standing
push_higher-requires-clause-standing c = sym c.standing-standing.ensures ∙ ap option_copied c.in-Some.is
