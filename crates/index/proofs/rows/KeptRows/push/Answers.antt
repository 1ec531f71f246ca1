-- One package more.
use Rattle.std.proofs.Common.{◌++◌, List, ℕ, sym, subst}
use Rattle.index.specs.Row.{AreRows, IsRow, joined_text}
use Rattle.index.specs.declared.row.Row.{Row}
use Rattle.index.proofs.RowLemmas.{put_rows, put_stanzas}
use Rattle.index.proofs.rows.KeptRows.push.Goals as goal

pub returns-clause-rows : goal.returns-clause-rows
returns-clause-rows c =
    let arena = c.args.self.now.arena.items in
    let more = joined_text c.args.values.now in
    let rows = c.args.self.now.rows.items in
    let grown = c.in_ok-row.ensures.grown in
    let is = subst (λ (bytes : List ℕ). IsRow bytes c.in_ok-row.row) grown c.in_ok-row.ensures.row in
    subst (λ (bytes : List ℕ). AreRows bytes c.push.new.self.items) (sym grown)
    (subst (λ (all : List Row). AreRows (arena ++ more) all) (sym c.in_ok-push.ensures.items) (put_rows arena more rows c.in_ok-row.row c.requires is))

pub returns-clause-more : goal.returns-clause-more
returns-clause-more c = λ arch number.
    put_stanzas arch number c.args.self.now.arena.items (joined_text c.args.values.now) c.args.self.now.rows.items c.args.self.now.skipped
    c.in_ok-row.row c.args.values.now c.args.is_essential c.args.says_essential c.args.stanza c.keep_row.new.arena.items c.push.new.self.items
    c.in_ok-row.ensures.grown c.in_ok-push.ensures.items c.requires c.in_ok-row.ensures.values c.in_ok-row.ensures.essential
    c.in_ok-row.ensures.said c.in_ok-row.ensures.stanza
