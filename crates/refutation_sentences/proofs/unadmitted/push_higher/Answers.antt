-- The higher of the two is the highest.
use Rattle.std.proofs.Common.{◌≡◌, ◌∙◌, List, ℕ, false, subst, sym, true}
use Rattle.std.specs.Ordering.{is_lt}
use Rattle.rules.specs.Version.{version_cmp}
use Rattle.refutation_sentences.specs.Offers.{IsHighestVersionOf}
use Rattle.refutation_sentences.proofs.FoundLemmas.{listed_highest, standing_highest}
use Rattle.refutation_sentences.proofs.unadmitted.push_higher.Goals as goal

pub push_as_highest-requires : goal.push_as_highest-requires
push_as_highest-requires c =
    let lower : is_lt (version_cmp c.args.stanza.now.pkg.version c.args.standing.now) ≡ true =
    cc (c.is_lower.ensures, c.if-is_lower.true, c.version-version.ensures) in
    standing_highest c.args.context.now.premises.now c.args.context.now.indices.now c.args.name.now c.args.standing.now c.args.stanza.now
    c.requires.standing c.requires.highest lower

pub push_as_highest-requires-else-is_lower : goal.push_as_highest-requires-else-is_lower
push_as_highest-requires-else-is_lower c =
    let not_lower : is_lt (version_cmp c.args.stanza.now.pkg.version c.args.standing.now) ≡ false =
    cc (c.is_lower.ensures, c.if-is_lower.false, c.version-version.ensures) in
    subst (IsHighestVersionOf c.args.context.now.premises.now c.args.context.now.indices.now c.args.name.now) (sym c.version-version.ensures)
    (listed_highest c.args.context.now.premises.now c.args.context.now.indices.now c.args.name.now c.args.standing.now c.args.stanza.now
    c.requires.standing c.requires.highest not_lower)
