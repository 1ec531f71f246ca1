-- What is admitted of the names of the start and of the indices, where there is no goal.
use Rattle.std.proofs.Common.{◌≡◌, List, [], map, refl, subst, ◌∙◌}
use Rattle.rules.specs.Available.{Index}
use Rattle.rules.specs.Database.{Record}
use Rattle.rules.specs.FileRecord.{records_of}
use Rattle.rules.specs.Universe.{IsUniverse}
use Rattle.candidates.specs.Names.{AreNames}
use Rattle.universe.specs.Admitted.{asked_of}
use Rattle.universe_build.specs.Build.{indices_of, inputs_of, request_of, universe_with}
use Rattle.universe_build.proofs.UniverseMade.{AreGiven-by, IsUniverse-made, given_by, none_asked}
use Rattle.universe_build.proofs.listing.Listing.new.Goals as goal

pub returns-clause-listing : goal.returns-clause-listing
returns-clause-listing c =
    let start : List Record = records_of (map (λ r. r.now) c.args.start.now) in
    let indices : List Index = indices_of c.args.indices.now in
    let names : AreNames start indices c.in_ok-names.names =
    subst (λ (db : List Record). AreNames db indices c.in_ok-names.names) c.in_ok-recorded.ensures c.in_ok-names.ensures in
    let starts : c.as_slice.result.now ≡ start = c.as_slice.ensures.value ∙ c.in_ok-recorded.ensures in
    let is : universe_with start [] c.in_ok-pairs.pairs.items c.in_ok-pairs.candidates.items ≡ asked_of c.in_ok-admitted.admitted.value [] =
    rw (c.in_ok-admitted.ensures, c.new-2.ensures, c.new-3.ensures, c.in_ok-starts.ensures, starts) refl in
    record {
      names = names;
      universe = subst (IsUniverse (inputs_of start indices c.args.prefs.now (request_of [] c.args.asks_all_versions))) is
          (IsUniverse-made start indices c.args.prefs.now [] c.args.asks_all_versions c.in_ok-pairs.pairs.items c.in_ok-pairs.candidates.items
          (c.in_ok-pairs.ensures.all (given_by start indices [] c.args.asks_all_versions)
          (AreGiven-by start indices [] c.args.asks_all_versions c.in_ok-names.names [] c.requires names none_asked))
          c.in_ok-pairs.ensures.ascending);
    }
