use Rattle.std.proofs.Common.{sym, ◌∙◌}
use Rattle.rules.specs.Version.{is_hyphen}
use Rattle.debversion.proofs.Cuts.{after_last-at, before_last-at, list_any-at_last}
use Rattle.debversion.proofs.parse.split_at_hyphen.Goals as goal

pub returns-in-Some-clause-upstream : goal.returns-in-Some-clause-upstream
returns-in-Some-clause-upstream c =
    rw (list_any-at_last is_hyphen _ _ c.in-Some.ensures)
    (c.split_at.ensures.front ∙ sym (before_last-at is_hyphen _ _ c.in-Some.ensures))

pub returns-in-Some-clause-revision : goal.returns-in-Some-clause-revision
returns-in-Some-clause-revision c = (
  list_any-at_last is_hyphen _ _ c.in-Some.ensures,
  rw (list_any-at_last is_hyphen _ _ c.in-Some.ensures)
      (c.split_at-in-Some.ensures.back ∙ sym (after_last-at is_hyphen _ _ c.in-Some.ensures)),
)
