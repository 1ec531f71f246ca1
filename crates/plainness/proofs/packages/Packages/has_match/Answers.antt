-- What matches the atom has or provides its name.
use Rattle.std.proofs.Common.{ℕ, List, subst, ◌∙◌}
use Rattle.std.specs.Prelude.{◌↔◌, IsTrue, MatchOption, slice_get}
use Rattle.std.specs.List.{Any, Contains}
use Rattle.index.proofs.ProviderLemmas.{of_atom}
use Rattle.index.specs.Providers.{IsProviderAt}
use Rattle.rules.specs.Package.{Pkg}
use Rattle.plainness.proofs.PackageLemmas.{IsOtherMatch, found_at}
use Rattle.plainness.proofs.packages.Packages.has_match.Goals as goal

pub returns : goal.returns
returns c =
    let P : Pkg → Type 0 = IsOtherMatch c.args.name.now c.args.atom.now in
    let Exact : List ℕ → List Pkg → Type 0 = λ name packages. (place : ℕ) → Contains c.in_ok-places.places.items place ↔ IsProviderAt name packages place in
    let Tells : List ℕ → Type 0 = λ places. IsTrue c.is_match_among-answer.result
    ↔ Any (λ place. MatchOption (slice_get c.args.self.now place) ⊥ P) places in
    let named = subst (λ name. Exact name c.self.inside.providers) c.name.ensures c.in_ok-places.ensures.matching in
    let both = found_at c.args.self.now c.args.atom.now.name c.in_ok-places.places.items P
    (subst (Exact c.args.atom.now.name) (c.self.invariant ∙ c.self.view_is) named) (λ pkg is. of_atom pkg c.args.atom.now is.1) in
    let told = subst Tells c.as_slice.ensures.value c.is_match_among-answer.ensures in (
      λ so. both.0 (told.0 so),
      λ some. told.1 (both.1 some),
    )
