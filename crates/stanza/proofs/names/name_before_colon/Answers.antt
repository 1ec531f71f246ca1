-- The line is cut behind the bytes that a name may have, and what stands there decides.
use Rattle.std.proofs.Common.{sym}
use Rattle.stanza.proofs.NameFrontLemmas.{bad-byte, bad-first, colon-wanted, cut-all, cut-at, cut-ends}
use Rattle.stanza.proofs.names.name_before_colon.Goals as goal

pub begins_name-requires : goal.begins_name-requires
begins_name-requires c =
    let cuts = cut-at c.args.line.now c.split_at.result.0.now c.split_at.result.1.now c.name_end.result c.name_end.ensures.end c.split_at.ensures.front c.split_at.ensures.back in
    cut-all c.args.line.now c.split_at.result.0.now c.split_at.result.1.now cuts

pub returns-then-begins_name : goal.returns-then-begins_name
returns-then-begins_name c =
    let cuts = cut-at c.args.line.now c.split_at.result.0.now c.split_at.result.1.now c.name_end.result c.name_end.ensures.end c.split_at.ensures.front c.split_at.ensures.back in
    let ends = cut-ends c.args.line.now c.split_at.result.0.now c.split_at.result.1.now cuts (sym c.if-begins_colon.ensures) in
    (ends.colon, ends.name, sym c.if-begins_name.ensures)

pub returns-else-begins_name : goal.returns-else-begins_name
returns-else-begins_name c =
    let cuts = cut-at c.args.line.now c.split_at.result.0.now c.split_at.result.1.now c.name_end.result c.name_end.ensures.end c.split_at.ensures.front c.split_at.ensures.back in
    bad-first c.args.number c.args.line.now c.split_at.result.0.now c.split_at.result.1.now cuts (sym c.if-begins_colon.ensures) (sym c.if-begins_name.ensures)

pub returns-then-has_colon : goal.returns-then-has_colon
returns-then-has_colon c =
    let cuts = cut-at c.args.line.now c.split_at.result.0.now c.split_at.result.1.now c.name_end.result c.name_end.ensures.end c.split_at.ensures.front c.split_at.ensures.back in
    bad-byte c.args.number c.args.line.now c.split_at.result.0.now c.split_at.result.1.now cuts (sym c.if-begins_colon.ensures) (sym c.if-has_colon.ensures)

pub returns-else-has_colon : goal.returns-else-has_colon
returns-else-has_colon c =
    let cuts = cut-at c.args.line.now c.split_at.result.0.now c.split_at.result.1.now c.name_end.result c.name_end.ensures.end c.split_at.ensures.front c.split_at.ensures.back in
    colon-wanted c.args.number c.args.line.now c.split_at.result.0.now c.split_at.result.1.now cuts (sym c.if-begins_colon.ensures) (sym c.if-has_colon.ensures)
