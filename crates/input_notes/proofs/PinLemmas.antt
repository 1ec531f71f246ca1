-- What a pin matches is what it asks of the place and of the version, and no release pin with an item matches in the status file.
use Rattle.std.proofs.Common.{◌≡◌, ◌≤◌, ℕ, arith, length, Bool, true, false, ◌&&◌, ◌||◌, List, [], ◌∷◌, refl, sym, ap, ◌∙◌}
use Rattle.std.specs.List.{list_all, list_any}
use Rattle.rules.specs.Priority.{has_key, pin_matches, status_origin}
use Rattle.rules.specs.Step.{IndexPackage}
use Rattle.rules.specs.declared.release.Pin.{Pin}
use Rattle.rules.specs.declared.release.Pin.TheVariants as pin
use Rattle.rules.specs.declared.release.Preference.{Preference}
use Rattle.rules.specs.declared.release.Release.{Release}
use Rattle.rules.specs.declared.release.ReleaseItem.{ReleaseItem}
use Rattle.rules.specs.declared.release.ReleaseKey.{ReleaseKey}
use Rattle.rules.specs.declared.release.ReleaseKey.TheVariants as key
use Rattle.input_notes.specs.Idle.{is_for, matches_stanza}
use Rattle.input_notes.specs.Pinned.{takes_place, takes_version}

and_true : (b : Bool) → b ≡ (b && true)
and_true true = refl
and_true false = refl

and_false : (b : Bool) → false ≡ (b && false)
and_false true = refl
and_false false = refl

shared : (place name version rest : Bool) → ((name && (place && version)) || (place && rest)) ≡ (place && ((name && version) || rest))
shared true name version rest = refl
shared false true version rest = refl
shared false false version rest = refl

-- the two parts of what a pin matches
pub pin_parts : (taken : Pin) (version : List ℕ) (release : Release) → pin_matches taken version release ≡ (takes_place taken release && takes_version taken version)
pin_parts (pin.VersionBeginning beginning) version release = refl
pin_parts (pin.Version pinned) version release = refl
pin_parts (pin.Release items) version release = and_true (list_all (λ (item : ReleaseItem). has_key release item.key item.value) items)
pin_parts (pin.Origin host) version release = and_true _

-- the status file has no release key
pub status_lacks : (asked : ReleaseKey) (value : List ℕ) → has_key status_origin.release asked value ≡ false
status_lacks key.Archive value = refl
status_lacks key.Codename value = refl
status_lacks key.Version value = refl
status_lacks key.Component value = refl
status_lacks key.Origin value = refl
status_lacks key.Label value = refl

-- so the status file doesn't have what a list with an item asks for
pub status_lacks_some : (items : List ReleaseItem) → 1 ≤ length items
    → false ≡ list_all (λ (item : ReleaseItem). has_key status_origin.release item.key item.value) items
status_lacks_some [] some = absurd (omega arith)
status_lacks_some (item ∷ items) some =
    sym (ap (λ b. b && list_all (λ (one : ReleaseItem). has_key status_origin.release one.key one.value) items) (status_lacks item.key item.value))

-- a pin is asked once of the place for all stanzas of an index
pub stanzas_parts : (preference : Preference) (release : Release) (listed : List IndexPackage)
    → list_any (matches_stanza preference release) listed
    ≡ (takes_place preference.pin release
    && list_any (λ (one : IndexPackage). is_for preference.names one.pkg.name && takes_version preference.pin one.pkg.version) listed)
stanzas_parts preference release [] = and_false (takes_place preference.pin release)
stanzas_parts preference release (one ∷ listed) =
    ap (λ b. (is_for preference.names one.pkg.name && b) || list_any (matches_stanza preference release) listed) (pin_parts preference.pin one.pkg.version release)
    ∙ ap (λ b. (is_for preference.names one.pkg.name && (takes_place preference.pin release && takes_version preference.pin one.pkg.version)) || b)
    (stanzas_parts preference release listed)
    ∙ shared (takes_place preference.pin release) (is_for preference.names one.pkg.name) (takes_version preference.pin one.pkg.version) _
