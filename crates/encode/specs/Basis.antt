-- Why a clause holds, as a premise.
use Rattle.std.specs.Prelude.{◌≡◌, false}
use Rattle.rules.specs.Name.{is_name}
use Rattle.refutation.specs.declared.line.Premise.{Premise}
use Rattle.refutation.specs.declared.line.Premise.TheVariants as premise
use Rattle.encode.specs.declared.basis.Basis.{Basis}
use Rattle.encode.specs.declared.basis.Basis.TheVariants as basis

-- the premise that it is
abbrev pub premise_of : Basis → Premise
premise_of (basis.Same number other) = premise.Same number other
premise_of (basis.PreDepends number clause) = premise.PreDepends number clause
premise_of (basis.Depends number clause) = premise.Depends number clause
premise_of (basis.Conflicts number other) = premise.Conflicts number other
premise_of (basis.Breaks number other) = premise.Breaks number other
premise_of (basis.Goal number) = premise.Goal number
premise_of (basis.GoalOn number pair) = premise.GoalOn number pair
premise_of (basis.Hold number) = premise.Hold number
premise_of (basis.Essential name) = premise.Essential name.now
premise_of (basis.Keep name) = premise.Keep name.now

-- it speaks of bytes that are no package name (Policy 5.6.1), so no line of a refutation says it
abbrev pub IsNameless : Basis → Type 0
IsNameless (basis.Same number other) = ⊥
IsNameless (basis.PreDepends number clause) = ⊥
IsNameless (basis.Depends number clause) = ⊥
IsNameless (basis.Conflicts number other) = ⊥
IsNameless (basis.Breaks number other) = ⊥
IsNameless (basis.Goal number) = ⊥
IsNameless (basis.GoalOn number pair) = ⊥
IsNameless (basis.Hold number) = ⊥
IsNameless (basis.Essential name) = is_name name.now ≡ false
IsNameless (basis.Keep name) = is_name name.now ≡ false
