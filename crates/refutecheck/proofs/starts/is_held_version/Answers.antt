-- What the start says of the name decides.
use Rattle.std.proofs.Common.{◌≡◌, MatchOption}
use Rattle.std.specs.Prelude.{IsTrue}
use Rattle.rules.specs.Version.{SameVersion}
use Rattle.rules.specs.Universe.{Start}
use Rattle.refutecheck.proofs.StartLemmas.{decides_no_start, decides_start}
use Rattle.std.proofs.Common.{sym, ◌∙◌}
use Rattle.refutecheck.proofs.starts.is_held_version.Goals as goal

pub returns-in-None : goal.returns-in-None
returns-in-None c =
    let Of : Start → Type 0 = λ start. (start.name ≡ c.args.pair.now.pkg.name) × IsTrue start.is_held × MatchOption start.standing ⊥ (SameVersion c.args.pair.now.pkg.version) in
    decides_no_start c.args.premises.now.starts c.name.result.now Of c.in-None.ensures.start (λ start is. is.0 ∙ sym c.name.ensures)

pub returns-in-Some : goal.returns-in-Some
returns-in-Some c =
    let Of : Start → Type 0 = λ start. (start.name ≡ c.args.pair.now.pkg.name) × IsTrue start.is_held × MatchOption start.standing ⊥ (SameVersion c.args.pair.now.pkg.version) in
    decides_start c.args.premises.now.starts c.in-Some.ensures.distinct c.name.result.now c.in-Some.start.now Of c.is_held_at.result
    c.in-Some.ensures.start (λ start is. is.0 ∙ sym c.name.ensures) c.is_held_at.ensures
