-- What asks for nothing that lacks passes, as nothing is broken.
use Rattle.std.proofs.Common.{[], ◌∷◌, ℕ, List, subst, sym}
use Rattle.rules.specs.Configure.{AreConfigurable, AreDependsInstalled, ArePreDependsInstalled}
use Rattle.fixed_order.specs.Alone.{PassesAlone}
use Rattle.fixed_order.proofs.configure.passes_alone.Goals as goal

pub returns : goal.returns
unfolding PassesAlone
returns c =
    let db = c.args.db.now in
    let HasWhatItAsks : List (List ℕ) → Type 0 = λ group. AreConfigurable db group × AreDependsInstalled db group × ArePreDependsInstalled db group in (
      λ so. let has = subst HasWhatItAsks c.from_ref.ensures.value (c.have_what_they_ask.ensures.0 so) in
          (has.0, has.1, has.2, c.requires (c.args.name.now ∷ [])),
      λ passes. c.have_what_they_ask.ensures.1 (subst HasWhatItAsks (sym c.from_ref.ensures.value) (passes.0, passes.1, passes.2)),
    )
