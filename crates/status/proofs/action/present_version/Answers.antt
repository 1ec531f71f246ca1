use Rattle.std.proofs.Common.{[], List, ℕ, Option, ap, sym, ◌∙◌, unwrap_or}
use Rattle.status.proofs.KeptLemmas.{has_version}
use Rattle.status.proofs.action.present_version.Goals as goal

pub unreachable-requires : goal.unreachable-requires
unreachable-requires c =
    has_version c.origin-origin.result.1.now c.origin-origin.result.0.now c.args.old.now.status c.origin-origin.ensures.kept c.requires
    (sym c.version.ensures ∙ ap (λ (version : Option (List ℕ)). unwrap_or version []) c.in-None.is)
