-- The record of a name of a clause is one of the database.
use Rattle.std.proofs.Common.{◌≡◌, ◌∙◌, ℕ, List, Some, sym}
use Rattle.std.specs.List.{Contains}
use Rattle.rules.specs.Database.{IsPresent, Record}
use Rattle.rules.specs.NamedLaws.{bytes_eq-true}
use Rattle.rules.specs.Package.{Atom}
use Rattle.rules.specs.Step.{is_named}
use Rattle.universe_parts.specs.FindLaws.{find-some}
use Rattle.plan_sentences.specs.Changes.{record_in}
use Rattle.plan_sentences.specs.No.{IsThere, record_words}

-- the words tell of a present package of the clause
pub is_there : (db : List Record) (atoms : List Atom) (atom : Atom) (name item : List ℕ) (entry : Record) → Contains atoms atom
    → name ≡ atom.name → Some entry ≡ record_in db name → IsPresent entry → item ≡ record_words entry → IsThere db atoms item
is_there db atoms atom name item entry within same found present words =
    let there = find-some (is_named name) db entry (sym found) in (
      entry,
      atom,
      within,
      there.0,
      bytes_eq-true entry.name name there.1 ∙ same,
      present,
      words,
    )
