-- What is asked for has or provides the name.
use Rattle.std.proofs.Common.{subst}
use Rattle.encode.proofs.NumberLemmas.{of_name}
use Rattle.encode.specs.Numbers.{IsAsked}
use Rattle.encode.specs.declared.query.Query.{Query}
use Rattle.encode.proofs.query.Query.name.Goals as goal

pub returns-in-Named : goal.returns-in-Named
returns-in-Named c = λ pkg is.
    let Of : Query → Type 0 = λ query. IsAsked query pkg in
    of_name pkg c.in-Named.name.now (subst Of c.in-Named.is is)

pub returns-in-Meeting : goal.returns-in-Meeting
returns-in-Meeting c = λ pkg is.
    let Of : Query → Type 0 = λ query. IsAsked query pkg in
    let fits = subst Of c.in-Meeting.is is in
    of_name pkg c.in-Meeting.name.now fits.0

pub returns-in-InVersion : goal.returns-in-InVersion
returns-in-InVersion c = λ pkg is.
    let Of : Query → Type 0 = λ query. IsAsked query pkg in
    let fits = subst Of c.in-InVersion.is is in
    of_name pkg c.in-InVersion.name.now fits.0
