-- The texts of the values stand behind the old bytes, and the row says where.
use Rattle.std.proofs.Common.{◌≡◌, ◌+◌, length, sym, ap, subst, ◌∙◌, arith, length-append}
use Rattle.relation.specs.PkgTexts.{AreTested, values_in}
use Rattle.index.specs.Row.{joined_text, values_at}
use Rattle.index.specs.declared.row.Row.{Row}
use Rattle.index.proofs.RowLemmas.{put_values}
use Rattle.index.proofs.row.keep_row.Goals as goal

pub returns-clause-values : goal.returns-clause-values
returns-clause-values c =
    let values = values_in c.texts-texts.result in
    let arena = c.args.arena.now.items in
    let row : Row = record {
      at = c.in_ok-narrow.field-0;
      len = c.in_ok-narrow-2.field-0;
      name = c.in_ok-narrow-3.field-0;
      version = c.in_ok-narrow-4.field-0;
      pre_depends = c.in_ok-narrow-5.field-0;
      depends = c.in_ok-narrow-6.field-0;
      conflicts = c.in_ok-narrow-7.field-0;
      breaks = c.in_ok-narrow-8.field-0;
      is_essential = c.args.is_essential;
      says_essential = c.args.says_essential;
      stanza = c.args.stanza;
    } in
    let grown = c.in_ok-keep_texts.ensures in
    let at : row.at ≡ length arena = omega (arith, c.in_ok-narrow.ensures, c.len-at.ensures) in
    let both : length c.keep_texts.new.arena.items ≡ length arena + length (joined_text values) = ap length grown ∙ length-append arena (joined_text values) in
    let len : row.len ≡ length (joined_text values) = omega (arith, at, both, c.in_ok-narrow-2.ensures, c.in_ok-narrow.ensures, c.len-at.ensures, c.len.ensures) in
    let put = put_values arena values row at len (record {
      name_is = c.in_ok-narrow-3.ensures;
      version_is = c.in_ok-narrow-4.ensures;
      pre_depends_is = c.in_ok-narrow-5.ensures;
      depends_is = c.in_ok-narrow-6.ensures;
      conflicts_is = c.in_ok-narrow-7.ensures;
      breaks_is = c.in_ok-narrow-8.ensures;
    }) in
    ap (λ bytes. values_at bytes row) grown ∙ put ∙ c.texts-texts.ensures.texts

pub returns-clause-row : goal.returns-clause-row
returns-clause-row c =
    let values = values_in c.texts-texts.result in
    let arena = c.args.arena.now.items in
    let at : c.in_ok-narrow.field-0 ≡ length arena = omega (arith, c.in_ok-narrow.ensures, c.len-at.ensures) in
    let grown = c.in_ok-keep_texts.ensures in
    let both : length c.keep_texts.new.arena.items ≡ length arena + length (joined_text values) = ap length grown ∙ length-append arena (joined_text values) in
    record {
      within = omega (arith, at, both, c.in_ok-narrow-2.ensures, c.in_ok-narrow.ensures, c.len-at.ensures, c.len.ensures);
      tested = subst AreTested (sym (returns-clause-values c)) c.texts-texts.ensures.tested;
    }
