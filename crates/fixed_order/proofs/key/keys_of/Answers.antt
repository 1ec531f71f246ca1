-- An owned name is a package name.
use Rattle.std.proofs.Common.{IsTrue, sym, subst}
use Rattle.rules.specs.Name.{is_name}
use Rattle.fixed_order.proofs.key.keys_of.Goals as goal

pub new-requires : goal.new-requires
new-requires c = subst (λ n. IsTrue (is_name n)) (sym c.as_bytes.ensures.bytes) c.as_bytes.ensures.valid
