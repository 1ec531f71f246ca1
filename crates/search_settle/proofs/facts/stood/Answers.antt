-- What the start says of the name decides.
use Rattle.std.proofs.Common.{◌≡◌, MatchOption, sym, ◌∙◌}
use Rattle.rules.specs.Minimal.{Stood}
use Rattle.rules.specs.Universe.{Start}
use Rattle.rules.specs.Version.{SameVersion}
use Rattle.search_settle.proofs.StartLemmas.{decides_no_start, decides_start}
use Rattle.search_settle.proofs.facts.stood.Goals as goal

pub returns-in-None : goal.returns-in-None
unfolding Stood
returns-in-None c = decides_no_start c.args.part.now.starts c.name.result.now
    (λ (start : Start). (start.name ≡ c.args.pair.now.pkg.name) × MatchOption start.standing ⊥ (SameVersion c.args.pair.now.pkg.version))
    c.in-None.ensures (λ start is. is.0 ∙ sym c.name.ensures)

pub returns-in-Some : goal.returns-in-Some
unfolding Stood
returns-in-Some c = decides_start c.args.part.now.starts c.requires.distinct c.name.result.now c.in-Some.start.now
    (λ (start : Start). (start.name ≡ c.args.pair.now.pkg.name) × MatchOption start.standing ⊥ (SameVersion c.args.pair.now.pkg.version))
    c.is_standing_at.result c.in-Some.ensures (λ start is. is.0 ∙ sym c.name.ensures) c.is_standing_at.ensures
