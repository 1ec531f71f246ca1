use Rattle.relation_text.proofs.FirstStop.{accepted_shape, refused_first}
use Rattle.relation_text.proofs.refusal.a_shape_is_refused_at_the_first_byte_that_goes_on_with_no_text.Goals as goal

pub returns : goal.returns
returns c = record { accepted = accepted_shape; refused = refused_first }
