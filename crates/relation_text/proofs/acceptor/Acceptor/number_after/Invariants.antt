-- The number is that of the state behind the bytes so far.
use Rattle.std.proofs.Common.{◌≡◌, take}
use Rattle.relation_text.specs.Quick.{number_of, quick_after}
use Rattle.relation_text.specs.declared.quick.QuickState.TheVariants.{At}
use Rattle.relation_text.specs.declared.shape.ShapePlace.TheVariants.{Between}
use Rattle.relation_text.proofs.acceptor.Acceptor.number_after.Given as goal

abbrev pub invariant-loop-byte : goal.invariant-loop-byte
invariant-loop-byte l = l.number ≡ number_of (quick_after l.fn.form (At Between) (take l.byte-index l.value))
