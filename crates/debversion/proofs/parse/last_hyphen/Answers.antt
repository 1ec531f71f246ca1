use Rattle.std.proofs.Common.{arith}
use Rattle.rules.specs.Version.{is_hyphen}
use Rattle.debversion.proofs.Cuts.{list_any-nowhere}
use Rattle.debversion.proofs.parse.last_hyphen.Goals as goal

pub returns : goal.returns
returns c = list_any-nowhere is_hyphen c.args.text.now (λ k h. c.loop-end.invariant.1 k (omega arith) h)
