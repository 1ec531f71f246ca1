-- The universe over the names of the start and the indices.
use Rattle.std.proofs.Common.{◌≡◌, List, map, refl, subst, ◌∙◌}
use Rattle.std.proofs.lemmas.Result.{err_from_is_err_and}
use Rattle.rules.specs.Database.{Record}
use Rattle.rules.specs.FileRecord.{records_of}
use Rattle.candidates.specs.Names.{AreNames}
use Rattle.universe_build.specs.Build.{indices_of, universe_with}
use Rattle.universe_build.specs.Error.{IsBuilt, IsUniverseFault}
use Rattle.universe_build.proofs.built.build.Goals as goal

pub returns-in_err-pairs-clause-err : goal.returns-in_err-pairs-clause-err
returns-in_err-pairs-clause-err c =
    let start : List Record = records_of (map (λ r. r.now) c.args.start.now) in
    let refused = err_from_is_err_and c.from_residual-in_err-pairs.result c.from_residual-in_err-pairs.ensures.1 in
    rw (refused.1, refused.2) (
    subst (λ lines. IsUniverseFault start (indices_of c.args.indices.now) c.args.prefs.now lines c.args.asks_all_versions c.in_err-pairs.field-0.0)
    c.as_slice-2.ensures.value
    (c.in_err-pairs.ensures.err start (indices_of c.args.indices.now) c.requires
    (subst (λ (db : List Record). AreNames db (indices_of c.args.indices.now) c.in_ok-names.names) c.in_ok-recorded.ensures c.in_ok-names.ensures)))

pub returns-clause-ok : goal.returns-clause-ok
returns-clause-ok c =
    let start : List Record = records_of (map (λ r. r.now) c.args.start.now) in
    let starts : c.as_slice.result.now ≡ start = c.as_slice.ensures.value ∙ c.in_ok-recorded.ensures in
    let is : universe_with start c.as_slice-2.result.now c.in_ok-pairs.pairs c.in_ok-pairs.candidates ≡ c.new-2.result =
    rw (c.new-2.ensures, c.in_ok-goals.ensures, c.in_ok-admitted.ensures, c.in_ok-starts.ensures, starts, c.as_slice-2.ensures.value) refl in
    subst (IsBuilt start (indices_of c.args.indices.now) c.args.prefs.now c.args.goals.items c.args.asks_all_versions) is
    (subst (λ lines. IsBuilt start (indices_of c.args.indices.now) c.args.prefs.now lines c.args.asks_all_versions
    (universe_with start c.as_slice-2.result.now c.in_ok-pairs.pairs c.in_ok-pairs.candidates))
    c.as_slice-2.ensures.value
    (c.in_ok-pairs.ensures.ok start (indices_of c.args.indices.now) c.requires
    (subst (λ (db : List Record). AreNames db (indices_of c.args.indices.now) c.in_ok-names.names) c.in_ok-recorded.ensures c.in_ok-names.ensures)))
