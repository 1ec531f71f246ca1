-- What the start says of the name decides.
use Rattle.std.proofs.Common.{◌≡◌}
use Rattle.std.specs.Prelude.{IsTrue}
use Rattle.rules.specs.Universe.{Start}
use Rattle.refutecheck.proofs.StartLemmas.{decides_no_start, decides_start}
use Rattle.rules.specs.PlanLaws.{IsEssentialIn}
use Rattle.refutecheck.proofs.starts.is_essential.Goals as goal

pub returns-in-None : goal.returns-in-None
unfolding IsEssentialIn
returns-in-None c =
    let Of : Start → Type 0 = λ start. (start.name ≡ c.args.name.now) × IsTrue start.is_essential × IsTrue start.is_present in
    decides_no_start c.args.premises.now.starts c.args.name.now Of c.in-None.ensures.start (λ start is. is.0)

pub returns-in-Some : goal.returns-in-Some
unfolding IsEssentialIn
returns-in-Some c =
    let Of : Start → Type 0 = λ start. (start.name ≡ c.args.name.now) × IsTrue start.is_essential × IsTrue start.is_present in
    decides_start c.args.premises.now.starts c.in-Some.ensures.distinct c.args.name.now c.in-Some.start.now Of c.is_essential_at.result
    c.in-Some.ensures.start (λ start is. is.0) c.is_essential_at.ensures
