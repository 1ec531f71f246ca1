-- What of a clause isn't false yet.
use Rattle.refutation.specs.Following.{IsOpen, HasOneOpen, IsAllFalse}
use Rattle.refutation.specs.declared.literal.Literal.{Literal}
use Rattle.refutecheck.specs.declared.open.Open.{Open}
use Rattle.refutecheck.specs.declared.open.Open.TheVariants as open_literals

-- what of the clause isn't false: nothing, one literal alone, or more
abbrev pub IsOpenOf : (Literal → Type 0) → (Literal → Type 0) → Open → Type 0
IsOpenOf falses clause open_literals.Nothing = IsAllFalse falses clause
IsOpenOf falses clause (open_literals.One literal) = IsOpen falses clause literal × HasOneOpen falses clause
IsOpenOf falses clause open_literals.More = ¬ HasOneOpen falses clause
