use Rattle.std.proofs.Common.{◌≡◌, ◌∙◌, not, false, ap, subst, bytes_eq, IfOk, IfErr}
use Rattle.status_text.specs.Record.{is_seen}
use Rattle.status_text.proofs.SeenLemmas.{any-lent}
use Rattle.status_text.proofs.seen.SeenNames.insert.Goals as goal

pub returns-clause-added : goal.returns-clause-added
returns-clause-added c =
    subst (λ is_there. IfOk c.insert.result (λ added. added ≡ not is_there))
    (any-lent (bytes_eq c.args.name.now) c.self.inside.names.keys ∙ ap (λ names. is_seen names c.args.name.now) c.self.view_is)
    c.insert.ensures.added

pub returns-clause-absent : goal.returns-clause-absent
returns-clause-absent c =
    subst (λ is_there. IfErr c.insert.result (λ _. is_there ≡ false))
    (any-lent (bytes_eq c.args.name.now) c.self.inside.names.keys ∙ ap (λ names. is_seen names c.args.name.now) c.self.view_is)
    c.insert.ensures.absent
