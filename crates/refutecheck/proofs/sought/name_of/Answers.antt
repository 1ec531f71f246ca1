-- What is sought has or provides the name.
use Rattle.std.proofs.Common.{subst}
use Rattle.refutecheck.proofs.SoughtLemmas.{of_name}
use Rattle.refutecheck.specs.Sought.{IsSought}
use Rattle.refutecheck.specs.declared.sought.Sought.{Sought}
use Rattle.refutecheck.proofs.sought.name_of.Goals as goal

pub returns-in-OfName : goal.returns-in-OfName
returns-in-OfName c = λ pkg is.
    let Of : Sought → Type 0 = λ sought. IsSought sought pkg in
    of_name pkg c.in-OfName.name.now (subst Of c.in-OfName.is is)

pub returns-in-Meeting : goal.returns-in-Meeting
returns-in-Meeting c = λ pkg is.
    let Of : Sought → Type 0 = λ sought. IsSought sought pkg in
    let fits = subst Of c.in-Meeting.is is in
    of_name pkg c.in-Meeting.name.now fits.0

pub returns-in-InVersion : goal.returns-in-InVersion
returns-in-InVersion c = λ pkg is.
    let Of : Sought → Type 0 = λ sought. IsSought sought pkg in
    let fits = subst Of c.in-InVersion.is is in
    of_name pkg c.in-InVersion.name.now fits.0
