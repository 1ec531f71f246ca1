-- What is another name stays.
use Rattle.std.proofs.Common.{rules}
use Rattle.std.proofs.lemmas.Fn.{filter_same}
use Rattle.fixed_order.specs.Removal.{is_other}
use Rattle.fixed_order.proofs.removal.leave_out.Goals as goal

pub returns : goal.returns
returns c = filter_same _ (is_other c.args.name.now) _ (λ name stays f called. search rules) _ _ c.retain.ensures.filtered
