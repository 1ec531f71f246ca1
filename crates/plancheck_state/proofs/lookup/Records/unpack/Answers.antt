-- A record of the name is there.
use Rattle.std.proofs.Common.{◌∙◌, ap, subst}
use Rattle.rules.specs.Package.{Pkg}
use Rattle.plancheck_state.specs.Holders.{IsPlaceOf}
use Rattle.plancheck_state.proofs.NamedChanges.{unpacked-there}
use Rattle.plancheck_state.proofs.lookup.Records.unpack.Goals as goal

pub returns-in-Some-clause-ok : goal.returns-in-Some-clause-ok
returns-in-Some-clause-ok c = unpacked-there c.unpack_at.result c.args.listed.now c.args.self.now c.unpack_at.new.self c.in-Some.place
    (subst (λ name. IsPlaceOf name c.args.self.now c.in-Some.place) (c.name.ensures ∙ ap (λ (p : Pkg). p.name) c.pkg.ensures) c.in-Some.ensures)
    c.unpack_at.ensures.ok
