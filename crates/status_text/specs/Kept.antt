-- What a record keeps of its stanza.
use Rattle.std.specs.Prelude.{◌≡◌, ℕ, Bool, true, List, [], Option, Some, Ok, IsTrue, unwrap_or}
use Rattle.relation.specs.PkgText.{read_pkg}
use Rattle.rules.specs.Database.{Record, pkg_of}
use Rattle.rules.specs.Name.{is_name}
use Rattle.rules.specs.Package.{Pkg}
use Rattle.rules.specs.State.{is_present_state}
use Rattle.stanza.specs.Stanza.{StanzaText}
use Rattle.status_text.specs.Record.{relations_at}
use Rattle.status_text.specs.declared.words.Mark.{Mark}

-- the record with these parts, and with the relations of its stanza
abbrev pub kept_record : List ℕ → StanzaText → List ℕ → Mark → Option (List ℕ) → Option (List ℕ) → Bool → Record
kept_record arch stanza name mark version config_version is_essential = record {
  name = name;
  state = mark.state;
  want = mark.want;
  flag = mark.flag;
  version = unwrap_or version [];
  config_version = config_version;
  relations = relations_at mark.state arch stanza;
  is_essential = is_essential;
}

-- the record has a name (Policy 5.6.1), and the stanza of a present one reads as its package
pub record IsKept (arch : List ℕ) (stanza : StanzaText) (entry : Record) : Type 0 where
  pub name : IsTrue (is_name entry.name)
  pub pkg : is_present_state entry.state ≡ true → read_pkg arch stanza ≡ Ok (pkg_of entry)

-- this is the package of the record, where it is present, as it was tested
abbrev pub IsTested : Record → Option Pkg → Type 0
IsTested entry tested = is_present_state entry.state ≡ true → tested ≡ Some (pkg_of entry)
