-- The refusal of the bytes that are left is that of the value.
use Rattle.std.proofs.Common.{◌≡◌, drop}
use Rattle.relation_text.specs.Refusal.{shape_refusal_from}
use Rattle.relation_text.specs.declared.shape.ShapePlace.TheVariants.{Between}
use Rattle.relation_text.proofs.refusal.shape_refusal.Given as goal

abbrev pub invariant-loop-offset : goal.invariant-loop-offset
invariant-loop-offset l =
    shape_refusal_from l.form l.place l.offset (drop l.offset l.value) ≡ shape_refusal_from l.form Between 0 l.value
