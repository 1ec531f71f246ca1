-- The texts of the words are the names.
use Rattle.std.proofs.Common.{◌∙◌, ℕ, List, Bor, not, sym}
use Rattle.candidates.specs.Inputs.{indices_of}
use Rattle.installable.specs.Asked.{has_package}
use Rattle.installable.proofs.NamedLemmas.{position-map}
use Rattle.installable.proofs.named.first_missing.Goals as goal

pub returns : goal.returns
returns c = c.place_of_missing.ensures
    ∙ sym (position-map (λ (name : List ℕ). not (has_package (indices_of c.args.indices.now) name)) (λ (name : Bor (List ℕ)). name.now)
    c.args.names.now)
