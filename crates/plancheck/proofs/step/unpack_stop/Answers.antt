-- The bytes of the name are the name, and the version read from a text is the text.
use Rattle.std.proofs.Common.{List, ℕ, Option, subst, MatchOption}
use Rattle.std.specs.List.{All}
use Rattle.rules.specs.Legal.{Allowed, IsFirstFailing, IsFirstUnkept, UnpackAsks, unpack_rules}
use Rattle.rules.specs.Step.{IndexPackage}
use Rattle.rules.specs.Universe.{listed_of}
use Rattle.plancheck.proofs.step.unpack_stop.Goals as goal

pub returns : goal.returns
unfolding Allowed IsFirstFailing
returns c =
    let Stops : Option IndexPackage → List ℕ → List ℕ → Type 0 = λ listed name version.
    MatchOption c.unpack_failing.result (All (UnpackAsks listed c.args.db.now name version) unpack_rules)
    (λ rule. IsFirstUnkept (UnpackAsks listed c.args.db.now name version) unpack_rules rule) in
    let asked : Option IndexPackage = listed_of c.args.universe.now c.args.name.now c.args.version.now in
    let read = c.version_of-version.result in
    let stops = subst (λ listed. Stops listed c.as_bytes.result.now read) c.requires c.unpack_failing.ensures in
    let named = subst (λ name. Stops asked name read) c.as_bytes.ensures.bytes stops in
    subst (λ version. Stops asked c.args.name.now version) c.version_of-version.ensures named
