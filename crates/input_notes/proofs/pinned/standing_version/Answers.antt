-- What stands has a version.
use Rattle.std.proofs.Common.{List, [], ℕ, Option, ap, sym, unwrap_or, ◌∙◌}
use Rattle.input_notes.proofs.VersionedLemmas.{never_without}
use Rattle.input_notes.proofs.pinned.standing_version.Goals as goal

pub unreachable-requires : goal.unreachable-requires
unreachable-requires c = never_without c.origin-origin.result.1.now c.origin-origin.result.0.now c.args.entry.now.status
    c.origin-origin.ensures.kept c.requires
    (sym c.version.ensures ∙ ap (λ (version : Option (List ℕ)). unwrap_or version []) c.in-None.is)
