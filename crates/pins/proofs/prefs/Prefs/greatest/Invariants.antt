-- The greatest so far is that of the origins before the index.
use Rattle.std.proofs.Common.{◌≡◌, [], map, take, MatchOption}
use Rattle.rules.specs.Priority.{IsGreatest}
use Rattle.pins.specs.Priority.{priority_by}
use Rattle.pins.proofs.prefs.Prefs.greatest.Given as goal

abbrev pub invariant-loop-origin : goal.invariant-loop-origin
invariant-loop-origin l = MatchOption l.greatest (take l.origin-index l.origins ≡ [])
    (λ priority. IsGreatest priority (map (priority_by l.self l.version) (take l.origin-index l.origins)))
