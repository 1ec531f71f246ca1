-- The offer is kept where the record of its name allows it.
use Rattle.std.proofs.Common.{ℕ, List, ap, ◌∙◌}
use Rattle.std.specs.List.{find}
use Rattle.std.specs.Option.{option_and_then, option_copied}
use Rattle.rules.specs.Step.{is_named}
use Rattle.candidates.specs.Recorded.{standing_as}
use Rattle.candidates.proofs.Listing.{IsEligibleOfRun-from}
use Rattle.candidates.proofs.rated.eligible_of.Goals as goal

pub returns : goal.returns
returns c = IsEligibleOfRun-from c.args.prefs.now c.args.known.now c.args.first.now c.args.run.now (option_copied c.record_of-record.result)
    c.standing_in-standing.result c.in_ok-offer.offer c.eligible_beside.result
    (c.record_of-record.ensures ∙ ap (λ (n : List ℕ). find (is_named n) c.args.known.now) c.name.ensures)
    (c.standing_in-standing.ensures ∙ ap (λ (v : List ℕ). option_and_then (standing_as v) (option_copied c.record_of-record.result)) c.version-version.ensures)
    c.in_ok-offer.ensures c.eligible_beside.ensures
