-- What is answered of the end of a run.
use Rattle.std.specs.Prelude.{List}
use Rattle.rules.specs.Database.{Record}
use Rattle.rules.specs.Run.{HasNothingAgainst, IsFirstAgainst}
use Rattle.rules.specs.Universe.{Universe}
use Rattle.rules.specs.declared.step.Verdict.{Verdict}
use Rattle.rules.specs.declared.step.Verdict.TheVariants as verdict

-- yes where nothing is against the end, and else its first reason
abbrev pub IsEndVerdict : Universe → List Record → Verdict → Type 0
IsEndVerdict u db verdict.Yes = HasNothingAgainst u db
IsEndVerdict u db verdict.Start = ⊥
IsEndVerdict u db (verdict.Step number rule) = ⊥
IsEndVerdict u db (verdict.End reason) = IsFirstAgainst u db reason
