-- What is answered of the end of a run is true of the plan.
use Rattle.std.proofs.Common.{List}
use Rattle.rules.specs.Database.{Record, IsQuiet}
use Rattle.rules.specs.Run.{Run}
use Rattle.rules.specs.Universe.{Universe}
use Rattle.rules.specs.Verdict.{IsBuiltOn, IsVerdict, GoodWhereNothingIsAgainst}
use Rattle.rules.specs.declared.step.Step.{Step}
use Rattle.rules.specs.declared.step.Verdict.{Verdict}
use Rattle.rules.specs.declared.step.Verdict.TheVariants as verdict
use Rattle.plancheck.specs.End.{IsEndVerdict}

pub end_is_verdict : GoodWhereNothingIsAgainst → (u : Universe) (start db : List Record) (steps : List Step) (answer : Verdict)
    → IsBuiltOn start u → IsQuiet start → Run u start steps db → IsEndVerdict u db answer → IsVerdict u start steps answer
end_is_verdict good u start db steps verdict.Yes built quiet run none =
    record { quiet = quiet; finish = db; run = run; good = (good u start db steps built run).1 none }
end_is_verdict good u start db steps verdict.Start built quiet run none = absurd none
end_is_verdict good u start db steps (verdict.Step number rule) built quiet run none = absurd none
end_is_verdict good u start db steps (verdict.End reason) built quiet run first = (quiet, (db, run, first))
