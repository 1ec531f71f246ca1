-- Premise by premise.
use Rattle.search_settle.proofs.PartLemmas.{parts_are_true}
use Rattle.search_settle.proofs.laws.closed_parts_are_true.Goals as goal

pub returns : goal.returns
returns c = λ u premises given known by knows present. parts_are_true u premises given by known knows present
