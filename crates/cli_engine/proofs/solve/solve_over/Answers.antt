-- The universe of a request over what is read can be solved.
use Rattle.std.proofs.Common.{◌≡◌, ◌∙◌, List, ap, map, subst, sym}
use Rattle.rules.specs.Database.{Record}
use Rattle.rules.specs.FileRecord.{records_of}
use Rattle.solver.specs.Solvable.{IsSolvable}
use Rattle.status_text.specs.Slot.{entries_of}
use Rattle.inputs.specs.ReadAs.{start_of}
use Rattle.cli_engine.proofs.SolvableLemmas.{over_is_solvable}
use Rattle.cli_engine.proofs.solve.solve_over.Goals as goal

pub solve-requires : goal.solve-requires
solve-requires c =
    let before = c.args.before.now in
    let same : map (λ r. r.now) c.as_slice-2.result.now ≡ entries_of before.status_file.now.slots = rw c.as_slice-2.ensures.value c.in_ok-records.ensures.records in
    let start : c.in_ok-start.start ≡ start_of before = c.in_ok-start.ensures ∙ ap records_of same in
    subst (λ (db : List Record). IsSolvable db c.args.universe.now) (sym start) (over_is_solvable before c.args.universe.now c.requires)
