-- What is told of questions is what is said of them; all else is printed later.
use Rattle.std.proofs.Common.{◌≡◌, ◌∙◌, [], Some, refl}
use Rattle.cli.proofs.ResultLemmas.{over_ok}
use Rattle.cli.proofs.ToldLemmas.{later_left, later_told, left_of_batch, of_batch}
use Rattle.outcomes.specs.Outcome.{streams_on}
use Rattle.cli.proofs.program.told_of_call.Goals as goal
use Rattle.cli.specs.Calls.{IsOutcomeOfAsked, texts_at}
use Rattle.cli.specs.Files.{Files}
use Rattle.cli.specs.Leaving.{IsLeftOfAsked}
use Rattle.cli.specs.Told.{IsOutcomeOfCall}
use Rattle.command_line.specs.Asked.{asked_by, batch, given_by, goals}

pub returns-in-None-clause-printed : goal.returns-in-None-clause-printed
returns-in-None-clause-printed g c =
    let files = g.H.Host.files c.args.host.now in
    let asked = asked_by c.args.call.now in
    let out = streams_on g.W.Write.contents g.E.Write.contents c.args.out.now c.args.err.now in
    rw c.to_print.ensures (later_told c.outcome_of_call.result (IsOutcomeOfCall files asked) out out refl
    (over_ok c.outcome_of_call.result (λ (at : Files). files ≡ Some at) (λ at outcome. IsOutcomeOfAsked at asked outcome) c.outcome_of_call.ensures.printed))

pub returns-in-None-clause-left : goal.returns-in-None-clause-left
returns-in-None-clause-left g c at was f k =
    let out = streams_on g.W.Write.contents g.E.Write.contents c.args.out.now c.args.err.now in
    rw c.to_print.ensures (later_left at was (g.H.Host.files c.outcome_of_call.new.host) (g.H.Host.kept c.outcome_of_call.new.host) out out
    (IsLeftOfAsked g.H.Journal.Disk.honest g.H.Journal.Disk.facts (asked_by c.args.call.now) at was) c.outcome_of_call.result
    (c.outcome_of_call.ensures.left at was f k))

pub returns-in-Some-clause-printed : goal.returns-in-Some-clause-printed
returns-in-Some-clause-printed g c =
    let told = c.status_of_batch-status.ensures.printed in
    let given = given_by c.in-Some.options.now in
    let asked = asked_by c.args.call.now in
    let is : asked ≡ batch given c.in-Some.limit = c.in-Some.ensures in (
      told.0,
      of_batch (g.H.Host.files c.args.host.now) told.0 (λ at. texts_at at c.arguments_by-arguments.result) given c.in-Some.limit asked is
          (λ at. c.arguments_by-arguments.ensures.texts at (goals []) refl) told.1,
      told.2,
    )

pub returns-in-Some-clause-left : goal.returns-in-Some-clause-left
returns-in-Some-clause-left g c at was f k =
    let told = c.status_of_batch-status.ensures.printed in
    let given = given_by c.in-Some.options.now in
    let asked = asked_by c.args.call.now in
    let files = g.H.Host.files c.args.host.now in
    let is : asked ≡ batch given c.in-Some.limit = c.in-Some.ensures in (
      told.0,
      left_of_batch at was told.0 files (g.H.Host.files c.status_of_batch-status.new.host) (g.H.Host.kept c.status_of_batch-status.new.host)
          g.H.Journal.Disk.honest g.H.Journal.Disk.facts given c.in-Some.limit asked is f
          (c.status_of_batch-status.ensures.same ∙ f, c.status_of_batch-status.ensures.keeps ∙ k)
          (of_batch files told.0 (λ at. texts_at at c.arguments_by-arguments.result) given c.in-Some.limit asked is
          (λ at. c.arguments_by-arguments.ensures.texts at (goals []) refl) told.1),
      told.2,
    )
