-- Where the first bytes differ, they decide.
use Rattle.std.proofs.Common.{List, ℕ, sym, ap, ◌∙◌}
use Rattle.rules.specs.Name.{name_cmp}
use Rattle.candidates.specs.Prefix.{padded}
use Rattle.candidates.proofs.Prefixes.{decided}
use Rattle.candidates.proofs.prefix.order_of.Goals as goal

pub returns-in_default : goal.returns-in_default
returns-in_default c = sym (decided 16 c.args.name.now c.args.other.now c.name_cmp.result c.in_default.not-Equal
    (sym (c.name_cmp.ensures
    ∙ ap (λ (xs : List ℕ). name_cmp xs c.as_slice-2.result.now) (c.as_slice.ensures ∙ c.requires.name)
    ∙ ap (λ (ys : List ℕ). name_cmp (padded 16 c.args.name.now) ys) (c.as_slice-2.ensures ∙ c.requires.other))))
