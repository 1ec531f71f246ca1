-- The priority from what stands and from the places is that of the version.
use Rattle.std.proofs.Common.{ℕ, List, Option, map, ap, subst, ◌∙◌}
use Rattle.rules.specs.Database.{Record}
use Rattle.rules.specs.FileRecord.{records_of}
use Rattle.candidates.specs.Inputs.{indices_of}
use Rattle.candidates.specs.Place.{Place}
use Rattle.candidates.specs.Rated.{IsPriorityFrom}
use Rattle.candidates.specs.Recorded.{standing_version}
use Rattle.candidates.proofs.OfVersion.{IsPriorityOf-given}
use Rattle.candidates.proofs.of_version.priority.Goals as goal

pub returns : goal.returns
returns c = λ request.
    let start : List Record = records_of (map (λ r. r.now) c.args.start.now) in
    IsPriorityOf-given start (indices_of c.args.indices.now) c.args.prefs.now request c.requires c.args.name.now c.args.version.now
    c.in_ok-priority.priority
    (subst (λ (places : List Place). IsPriorityFrom c.args.prefs.now c.args.name.now (standing_version start c.args.name.now c.args.version.now) places
    c.in_ok-priority.priority) (c.as_slice.ensures.value ∙ c.in_ok-places.ensures)
    (subst (λ (standing : Option (List ℕ)). IsPriorityFrom c.args.prefs.now c.args.name.now standing c.as_slice.result.now c.in_ok-priority.priority)
    (c.standing_version-standing.ensures ∙ ap (λ (db : List Record). standing_version db c.args.name.now c.args.version.now) c.in_ok-records_in.ensures)
    c.in_ok-priority.ensures))
