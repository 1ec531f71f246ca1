-- What the stanza gives is refused, or put behind the others.
use Rattle.std.proofs.Common.{◌≡◌, ℕ, ◌+◌, Some, Ok, Err, length, nat_le, false, sym, ap, ◌∙◌, arith}
use Rattle.std.proofs.lemmas.Result.{err_from_is_err_and}
use Rattle.relation.specs.PkgValues.{spelled}
use Rattle.rules.specs.declared.limits.TheConstants.{PACKAGES}
use Rattle.index.specs.Index.{entry_then}
use Rattle.index.specs.Row.{stanzas_at}
use Rattle.index.specs.Walk.{IndexFields}
use Rattle.index.proofs.StreamLemmas.{put_entry, values_entry}
use Rattle.index.proofs.rows.KeptRows.add.Goals as goal

pub returns-in_err-values-clause-err : goal.returns-in_err-values-clause-err
returns-in_err-values-clause-err c = λ later.
    let p = err_from_is_err_and c.from_residual.result c.from_residual.ensures.1 in
    let refused = values_entry c.args.arch.now c.args.place c.args.stanza.now c.line.result c.in_read-index_fields.result (Err c.in_err-values.field-0.0)
    c.line.ensures c.in_read-index_fields.ensures c.in_err-values.ensures in
    rw (p.1, p.2) (ap (λ entry. entry_then (c.args.before + length c.args.self.now.rows.items) entry later) refused)

pub returns-in_ok-push-in-Some-clause-ok : goal.returns-in_ok-push-in-Some-clause-ok
returns-in_ok-push-in-Some-clause-ok c = λ later.
    let old = c.args.self.now in
    let count = c.args.before + length old.rows.items in
    let values = c.in-Some.values in
    let entry = values_entry c.args.arch.now c.args.place c.args.stanza.now c.line.result c.in_read-index_fields.result (Ok (Some values))
    c.line.ensures c.in_read-index_fields.ensures (c.in_ok-values.ensures ∙ ap Ok c.in-Some.is) in
    let many : c.len.result ≡ length old.rows.items = omega (arith, c.len.ensures) in
    let few : nat_le PACKAGES count ≡ false =
    sym (c.is_full.ensures ∙ ap (λ (n : ℕ). nat_le PACKAGES (c.args.before + n)) many) ∙ c.if-is_full.false in
    put_entry (stanzas_at c.args.arch.now c.args.place.index old) (stanzas_at c.args.arch.now c.args.place.index c.push.new.self) count
    (c.args.before + length c.push.new.self.rows.items) c.args.place c.args.stanza.now (spelled c.args.arch.now values) c.index_fields.inside.is_essential
    c.index_fields.inside.says_essential
    later _ entry few (ap (λ (index_fields : IndexFields). index_fields.is_essential) (c.index_fields.view_is ∙ c.in_read-index_fields.ensures))
    (ap (λ (index_fields : IndexFields). index_fields.says_essential) (c.index_fields.view_is ∙ c.in_read-index_fields.ensures))
    (c.in_ok-push-in-Some.ensures.more c.args.arch.now c.args.place.index) (omega (arith, c.in_ok-push-in-Some.ensures.one))
