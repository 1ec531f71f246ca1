use Rattle.std.proofs.Common.{sym, subst}
use Rattle.status_text.proofs.KeptLemmas.{is_kept, is_tested}
use Rattle.status_text.specs.Kept.{IsKept, IsTested, kept_record}
use Rattle.status_text.proofs.entry.entry_of.Goals as goal

-- the copied stanza is the stanza
pub new-requires-clause-kept : goal.new-requires-clause-kept
new-requires-clause-kept c =
    let rest = c.in_ok-version.ensures in
    subst (λ stanza. IsKept c.args.arch.now stanza
    (kept_record c.args.arch.now stanza c.args.name.now c.args.mark c.in_ok-version.version c.in_ok-version.configured c.args.record_fields.now.is_essential))
    (sym c.again.ensures)
    (is_kept _ c.args.stanza.now _ c.args.mark _ _ _ c.requires.valid c.requires.named c.requires.name rest.0 rest.1)

pub new-requires-clause-tested : goal.new-requires-clause-tested
new-requires-clause-tested c =
    let rest = c.in_ok-version.ensures in
    subst (λ stanza. IsTested (kept_record c.args.arch.now stanza c.args.name.now c.args.mark c.in_ok-version.version c.in_ok-version.configured c.args.record_fields.now.is_essential)
    c.in_ok-version.tested)
    (sym c.again.ensures)
    (is_tested c.args.arch.now c.args.stanza.now c.args.name.now c.args.mark c.in_ok-version.version c.in_ok-version.configured
    c.args.record_fields.now.is_essential c.in_ok-version.tested c.requires.name rest.1 rest.3)
