-- The set has no keys where it has no names.
use Rattle.plancheck_group.proofs.NameSetLemmas.{no_keys}
use Rattle.plancheck_group.proofs.part.NameSet.is_empty.Goals as goal

pub returns : goal.returns
returns c = let both = no_keys c.self.inside.names.keys c.args.self.now c.self.view_is in (
  λ answer. both.0 (c.is_empty.ensures.0 answer),
  λ empty. c.is_empty.ensures.1 (both.1 empty),
)
