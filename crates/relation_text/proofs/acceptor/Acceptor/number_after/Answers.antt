-- One look is one step of the quick reading.
use Rattle.std.proofs.Common.{sym, ap, ◌∙◌, ◌<◌, arith, get_or, take}
use Rattle.relation_text.specs.Quick.{number_of, quick_after}
use Rattle.relation_text.specs.declared.quick.QuickState.{QuickState}
use Rattle.relation_text.specs.declared.quick.QuickState.TheVariants.{At}
use Rattle.relation_text.specs.declared.shape.ShapePlace.TheVariants.{Between}
use Rattle.relation_text.proofs.QuickNumbers.{looked_up, quick_after-more}
use Rattle.relation_text.proofs.acceptor.Acceptor.number_after.Goals as goal

pub loop-byte-preserved : goal.loop-byte-preserved
loop-byte-preserved c =
    let value = c.args.value.now in
    let state = quick_after c.args.form (At Between) (take c.loop-byte.byte-index value) in
    let small : get_or value c.loop-byte.byte-index 0 < 256 = omega (arith, c.type_inv.value c.loop-byte.byte-index) in
    looked_up c.args.form c.table_of-table.result.now state c.loop-byte.number (get_or value c.loop-byte.byte-index 0)
    c.table_of-table.ensures c.loop-byte.invariant small
    ∙ ap (λ (s : QuickState). number_of s) (sym (quick_after-more c.args.form (At Between) value c.loop-byte.byte-index c.loop-byte-test.true))
