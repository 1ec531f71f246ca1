-- As many as are at the front with the name are all that have it.
use Rattle.std.proofs.Common.{ℕ, take, drop, ap, ◌∙◌}
use Rattle.candidates.proofs.NameSplit.{place_parts}
use Rattle.candidates.proofs.names.split_places.Goals as goal

pub returns-clause-own : goal.returns-clause-own
returns-clause-own c = c.split_at.ensures.front ∙ ap (λ (n : ℕ). take n c.args.places.now) c.place_count.ensures.value
    ∙ (place_parts c.args.places.now c.args.name.now c.requires.ascending c.requires.least).0

pub returns-clause-left : goal.returns-clause-left
returns-clause-left c = c.split_at.ensures.back ∙ ap (λ (n : ℕ). drop n c.args.places.now) c.place_count.ensures.value
    ∙ (place_parts c.args.places.now c.args.name.now c.requires.ascending c.requires.least).1
