-- What stands has a version.
use Rattle.std.proofs.Common.{List, [], ℕ, Option, ap, sym, unwrap_or, ◌∙◌}
use Rattle.candidates.proofs.VersionedLemmas.{never_without}
use Rattle.candidates.proofs.recorded.Recorded.standing.Goals as goal

pub unreachable-requires : goal.unreachable-requires
unreachable-requires c = never_without c.origin-origin.result.1.now c.origin-origin.result.0.now c.self.inside.record.now.status
    c.origin-origin.ensures.kept (sym c.stands.ensures ∙ c.if-not-stands.false)
    (sym c.version.ensures ∙ ap (λ (version : Option (List ℕ)). unwrap_or version []) c.in-None.is)
