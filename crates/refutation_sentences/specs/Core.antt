-- A shorter refutation.
use Rattle.std.specs.Prelude.{List, ⊤}
use Rattle.std.specs.List.{Contains}
use Rattle.rules.specs.Universe.{Universe}
use Rattle.refutation.specs.Refutation.{IsAccepted}
use Rattle.refutation.specs.declared.line.Line.{Line}
use Rattle.refutation.specs.declared.line.Line.TheVariants as line
use Rattle.trim.specs.Needed.{ArePremisesOf}

-- the line, if it is a premise, is among the lines
abbrev pub IsPremiseIn : List Line → Line → Type 0
IsPremiseIn lines (line.Premise premise) = Contains lines (line.Premise premise)
IsPremiseIn lines (line.Derived literals hints) = ⊤

-- the other lines are accepted where the lines are, and each of their premises is among the lines
pub record IsShorter (u : Universe) (lines others : List Line) : Type 0 where
  pub accepted : IsAccepted u lines → IsAccepted u others
  pub premises : ArePremisesOf others lines
