-- The refusal of a request that is covered is that of the listing.
use Rattle.std.proofs.Common.{rules, ◌≡◌, Bool, IfErr, IfSome, List, map, subst}
use Rattle.std.specs.Option.{option_copied}
use Rattle.candidates.specs.Inputs.{indices_of}
use Rattle.rules.specs.Database.{Record}
use Rattle.rules.specs.FileRecord.{records_of}
use Rattle.rules.specs.declared.goal.GoalLine.{GoalLine}
use Rattle.universe_build.specs.Error.{IsUniverseFault}
use Rattle.universe_build.specs.Listing.{IsListing}
use Rattle.inputs.proofs.request.lent_or_built.Goals as goal

pub returns-then-covers-clause-err : goal.returns-then-covers-clause-err
returns-then-covers-clause-err c =
    let start : List Record = records_of (map (λ r. r.now) c.args.start.now) in
    let is : IsListing start (indices_of c.args.indices.now) c.args.prefs.now c.in-Some.listing.now =
    subst (λ o. IfSome (option_copied o) (IsListing start (indices_of c.args.indices.now) c.args.prefs.now)) c.in-Some.is c.requires.listed in
    let all : c.in-Some.listing.now.asks_all_versions ≡ c.args.request.asks_all_versions = search rules in
    let lines : c.into_vec.result.items ≡ c.args.request.goals = search rules in
    subst (λ (every : Bool). IfErr c.universe.result (IsUniverseFault start (indices_of c.args.indices.now) c.args.prefs.now c.args.request.goals every)) all
    (subst (λ (asked : List GoalLine). IfErr c.universe.result (IsUniverseFault start (indices_of c.args.indices.now) c.args.prefs.now asked c.in-Some.listing.now.asks_all_versions)) lines
    (c.universe.ensures.err start (indices_of c.args.indices.now) c.args.prefs.now is))
