-- Why two pairs can't both be selected, as premises (Policy 7.3 and 7.4).
use Rattle.std.specs.Prelude.{◌≡◌, ℕ, List}
use Rattle.std.specs.List.{Contains}
use Rattle.refutation.specs.declared.line.Premise.{Premise}
use Rattle.refutation.specs.declared.line.Premise.TheVariants as premise
use Rattle.encode.specs.declared.against.Against.{Against}
use Rattle.encode.specs.declared.against.Against.TheVariants as against

-- the premise of two pairs
abbrev pub premise_against : Against → ℕ → ℕ → Premise
premise_against against.Same number other = premise.Same number other
premise_against against.Conflicts number other = premise.Conflicts number other
premise_against against.Breaks number other = premise.Breaks number other

-- the premise is of the pair of the number and some other
abbrev pub IsAgainstBy : Against → ℕ → Premise → Type 0
IsAgainstBy why number reason = (other : ℕ) × (reason ≡ premise_against why number other)

-- the premise is of the pair of the number and one of the others
abbrev pub IsAgainstEach : Against → ℕ → List ℕ → Premise → Type 0
IsAgainstEach why number others reason = (other : ℕ) × Contains others other × (reason ≡ premise_against why number other)
