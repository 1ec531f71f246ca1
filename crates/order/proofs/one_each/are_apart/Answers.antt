-- One name more in the table, and where it has as many as there are, they are apart.
use Rattle.std.proofs.Common.{ℕ, List, [], Bor, get_or}
use Rattle.std.proofs.lemmas.List.{get_or_default}
use Rattle.order.proofs.OneEachLemmas.{apart_from_table, table_more}
use Rattle.order.proofs.one_each.are_apart.Goals as goal

pub loop-name-preserved : goal.loop-name-preserved
loop-name-preserved c =
    let none : Bor (List ℕ) = record { ref_ptr = (0, 0); now = [] } in
    let name : Bor (List ℕ) = get_or c.args.names.now c.loop-name.name-index none in
    table_more c.args.names.now c.loop-name.table.keys c.insert.new.self.keys c.loop-name.name-index name _ c.loop-name-test.true
    (get_or_default c.args.names.now c.loop-name.name-index none name c.loop-name-test.true) c.in_ok-insert.ensures.keys c.loop-name.invariant

pub returns : goal.returns
returns c = λ is. apart_from_table c.args.names.now c.loop-name.table.keys c.loop-name.name-index c.len.result c.loop-name-test.false
    c.loop-name.invariant c.len.ensures.len is
