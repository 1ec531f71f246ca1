-- Of the numbers of the name those behind the number.
use Rattle.std.proofs.Common.{◌≡◌}
use Rattle.encode.proofs.AgainstLemmas.{behind_are}
use Rattle.encode.proofs.against.behind.Goals as goal

pub returns : goal.returns
returns c = behind_are c.args.facts.now c.args.number (λ pkg. pkg.name ≡ c.args.name.now) c.in_ok-named.named.items c.as_slice.result.now
    c.in_ok-others.others.items c.as_slice.ensures.value c.in_ok-named.ensures c.in_ok-others.ensures
