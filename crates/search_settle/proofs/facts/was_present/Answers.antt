-- What the start says of the name decides.
use Rattle.std.proofs.Common.{◌≡◌}
use Rattle.std.specs.Prelude.{IsTrue}
use Rattle.rules.specs.Minimal.{WasPresent}
use Rattle.rules.specs.Universe.{Start}
use Rattle.search_settle.proofs.StartLemmas.{decides_no_start, decides_start}
use Rattle.search_settle.proofs.facts.was_present.Goals as goal

pub returns-in-None : goal.returns-in-None
unfolding WasPresent
returns-in-None c = decides_no_start c.args.part.now.starts c.args.name.now (λ (start : Start). (start.name ≡ c.args.name.now) × IsTrue start.is_present)
    c.in-None.ensures (λ start is. is.0)

pub returns-in-Some : goal.returns-in-Some
unfolding WasPresent
returns-in-Some c = decides_start c.args.part.now.starts c.requires.distinct c.args.name.now c.in-Some.start.now
    (λ (start : Start). (start.name ≡ c.args.name.now) × IsTrue start.is_present) c.is_present_at.result c.in-Some.ensures (λ start is. is.0) c.is_present_at.ensures
