-- The record of a package that stands has a version: its stanza was read as its package.
use Rattle.std.proofs.Common.{◌≡◌, ℕ, Bool, true, false, List, [], Option, None, Some, Ok, refl, ap, ◌∙◌, ◌&&◌, ◌||◌}
use Rattle.std.specs.Option.{option_or}
use Rattle.relation.specs.PkgFields.{fields_of}
use Rattle.relation.specs.PkgText.{pkg_fault, pkg_name_fault, pkg_version_fault, relations_fault, unless_fault, value_in, version_fault_in}
use Rattle.relation.specs.PkgText.{pkg_of as spelled_pkg}
use Rattle.relation.specs.declared.error.PkgFault.{PkgFault}
use Rattle.relation.specs.declared.error.PkgFault.TheVariants.{BadVersion}
use Rattle.rules.specs.Database.{Record, pkg_of, stands}
use Rattle.rules.specs.Package.{Pkg}
use Rattle.rules.specs.State.{is_installed_state, is_present_state, is_unconfigured_state}
use Rattle.rules.specs.VersionFault.{first_fault}
use Rattle.rules.specs.declared.bad_version.BadVersion.TheVariants.{Empty}
use Rattle.rules.specs.declared.status.State.{State}
use Rattle.rules.specs.declared.status.State.TheVariants.{NotInstalled, ConfigFiles, HalfInstalled, Unpacked, HalfConfigured, TriggersAwaited, TriggersPending, Installed}
use Rattle.stanza.specs.Field.{FieldText}
use Rattle.stanza.specs.Stanza.{StanzaText}
use Rattle.status_text.specs.Kept.{IsKept}

-- a stanza without a version is refused
is_versioned : (line : ℕ) (field : Option FieldText) → version_fault_in line field ≡ None → value_in field ≡ [] → ⊥
unfolding first_fault
is_versioned line None sound empty = let e = sound in cc
is_versioned line (Some field) sound empty = let e : Some (BadVersion field.line Empty) ≡ None = rw empty at sound in cc

read_whole : (refused : Option PkgFault) (spelled pkg : Pkg) → unless_fault refused spelled ≡ Ok pkg → (refused ≡ None) × (spelled ≡ pkg)
read_whole None spelled pkg read = (refl, let e = read in cc)
read_whole (Some refused) spelled pkg read = absurd (let e = read in cc)

none-front : (first second : Option PkgFault) → option_or first second ≡ None → first ≡ None
none-front None second h = refl
none-front (Some refused) second h = h

none-back : (first second : Option PkgFault) → option_or first second ≡ None → second ≡ None
none-back None second h = h
none-back (Some refused) second h = absurd (let e = h in cc)

-- what stands is present
present : (state : State) (rest : Bool) → ((is_unconfigured_state state || is_installed_state state) && rest) ≡ true → is_present_state state ≡ true
present NotInstalled rest h = absurd (let e : false ≡ true = h in cc)
present ConfigFiles rest h = absurd (let e : false ≡ true = h in cc)
present HalfInstalled rest h = refl
present Unpacked rest h = refl
present HalfConfigured rest h = refl
present TriggersAwaited rest h = refl
present TriggersPending rest h = refl
present Installed rest h = refl

-- the record of what stands has a version
pub never_without : (arch : List ℕ) (stanza : StanzaText) (entry : Record) → IsKept arch stanza entry → stands entry ≡ true → entry.version ≡ [] → ⊥
never_without arch stanza entry kept standing empty =
    let fields = fields_of stanza in
    let read = read_whole (pkg_fault fields) (spelled_pkg arch fields) (pkg_of entry) (kept.pkg (present entry.state _ standing)) in
    is_versioned fields.line fields.version
    (none-front (pkg_version_fault fields) (relations_fault fields) (none-back (pkg_name_fault fields) (option_or (pkg_version_fault fields) (relations_fault fields)) read.0))
    (ap (λ (pkg : Pkg). pkg.version) read.1 ∙ empty)
