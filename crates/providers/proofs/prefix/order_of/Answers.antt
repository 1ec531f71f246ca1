-- Where the first bytes differ, they decide.
use Rattle.std.proofs.Common.{ℕ, ap, ◌∙◌}
use Rattle.std.specs.Ordering.{nat_cmp}
use Rattle.providers.specs.Prefix.{leading}
use Rattle.providers.proofs.PrefixLemmas.{decided}
use Rattle.providers.proofs.prefix.order_of.Goals as goal

pub returns-in_default : goal.returns-in_default
returns-in_default c = decided 8 c.args.name.now c.args.other.now c.requires.name.bytes c.requires.other.bytes c.cmp.result c.in_default.not-Equal
    (c.cmp.ensures
    ∙ ap (λ (n : ℕ). nat_cmp n c.args.other_prefix) c.requires.name.value
    ∙ ap (λ (n : ℕ). nat_cmp (leading 8 c.args.name.now) n) c.requires.other.value)
