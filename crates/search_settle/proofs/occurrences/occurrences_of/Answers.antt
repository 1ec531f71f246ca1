-- One more clause is listed.
use Rattle.std.proofs.Common.{◌<◌, length, arith, ◌∙◌}
use Rattle.search_settle.specs.Occurrences.{Gains}
use Rattle.search_settle.proofs.OccurrenceLemmas.{first_more}
use Rattle.search_settle.proofs.occurrences.occurrences_of.Goals as goal

pub loop-place-preserved : goal.loop-place-preserved
loop-place-preserved c =
    let within : c.loop-place.place < length c.args.clauses.now.clauses = omega arith in
    let gains : Gains c.loop-place.lists c.push_clause.new.self c.clause.result.now c.loop-place.place =
    c.in_ok-push_clause.ensures in (
      first_more c.loop-place.lists c.push_clause.new.self c.args.clauses.now.clauses c.loop-place.place c.clause.result.now within
          c.clause.ensures c.loop-place.invariant.0 gains,
      gains.long ∙ c.loop-place.invariant.1,
    )
