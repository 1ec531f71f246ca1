-- A downgrade may be chosen at the priority 1000 and not at 999 (apt_preferences(5)): `foo 2` is installed, an index
-- of the suite `stable` has `foo 1`, and a record for foo pins that suite.
use Rattle.std.proofs.Common.{ℤ, pos, false, [], ◌∷◌, Some, None, refl, lit<, arith}
use Rattle.std.specs.Prelude.{codes}
use Rattle.std.proofs.lemmas.Int.{ints}
use Rattle.rules.specs.Available.{Inputs}
use Rattle.rules.specs.Priority.{HasPriority, IsEligible, IsDowngrade}
use Rattle.rules.specs.Step.{IndexPackage, no_relations}
use Rattle.rules.specs.Version.{version_cmp}
use Rattle.rules.specs.declared.release.Pin.TheVariants as pin
use Rattle.rules.specs.declared.release.PinnedNames.TheVariants as pinned
use Rattle.rules.specs.declared.release.Release.{Release}
use Rattle.rules.specs.declared.release.ReleaseKey.TheVariants as key
use Rattle.rules.specs.declared.status.State.TheVariants.{Installed}
use Rattle.rules.proofs.Rows.{package_of, record_of}

abbrev stable : Release
stable = record {
  archive = None;
  suite = Some (codes "stable");
  codename = None;
  version = None;
  component = None;
  origin = None;
  label = None;
  host = [];
  not_automatic = false;
  but_automatic_upgrades = false;
}

abbrev foo_1 : IndexPackage
foo_1 = record { pkg = package_of (codes "foo") (codes "1") no_relations; is_essential = false; says_essential = false; place = record { index = 1; stanza = 1 } }

abbrev pinned_at : ℤ → Inputs
pinned_at priority = record {
  start = record_of Installed (Some (codes "2")) (package_of (codes "foo") (codes "2") no_relations) ∷ [];
  indices = record { release = stable; listed = foo_1 ∷ [] } ∷ [];
  preferences = record {
    names = pinned.Listed (codes "foo" ∷ []);
    pin = pin.Release (record { key = key.Archive; value = codes "stable" } ∷ []);
    priority = priority;
  } ∷ [];
  target = None;
  request = record { goals = []; asks_all_versions = false };
}

-- the record decides the priority of `foo 1`
pub priority_rows : HasPriority (pinned_at (pos 999)) (codes "foo") (codes "1") (pos 999)
    × HasPriority (pinned_at (pos 1000)) (codes "foo") (codes "1") (pos 1000)
unfolding HasPriority version_cmp
priority_rows = (refl, refl)

downgrade : (priority : ℤ) → IsDowngrade (pinned_at priority) (codes "foo") (codes "1")
unfolding IsDowngrade version_cmp
downgrade priority = (0, record_of Installed (Some (codes "2")) (package_of (codes "foo") (codes "2") no_relations), lit< tt, refl, (refl, (refl, refl)))

-- the priority 1000 suffices for the downgrade, and 999 doesn't
pub downgrade_rows : IsEligible (pinned_at (pos 1000)) (codes "foo") (codes "1") (pos 1000)
    × (¬ IsEligible (pinned_at (pos 999)) (codes "foo") (codes "1") (pos 999))
unfolding IsEligible
downgrade_rows = ((priority_rows.1, omega (arith, ints), λ below. absurd (omega (arith, ints))), λ eligible. eligible.2 (omega (arith, ints)) (downgrade (pos 999)))
