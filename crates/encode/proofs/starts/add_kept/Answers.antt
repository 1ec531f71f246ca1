-- The pairs of the name.
use Rattle.encode.proofs.LiteralLemmas.{slice_list}
use Rattle.encode.proofs.starts.add_kept.Goals as goal

pub add-requires : goal.add-requires
add-requires c = slice_list _ c.in_ok-literals.literals.items c.as_slice.result.now c.as_slice.ensures.value c.in_ok-literals.ensures
