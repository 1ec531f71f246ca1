-- The status file and the indices, as the sentences look at them.
use Rattle.std.specs.Prelude.{Bool, ◌&&◌, List}
use Rattle.std.specs.Borrow.{Bor}
use Rattle.std.specs.List.{flat_map, list_any}
use Rattle.index.specs.Index.{ReadIndex}
use Rattle.rules.specs.Database.{Record, stands}
use Rattle.rules.specs.FileRecord.{FileRecord}
use Rattle.rules.specs.Step.{IndexPackage}

-- a record of a package that stands passes the test
abbrev pub some_standing : (Record → Bool) → List (Bor FileRecord) → Bool
some_standing test entries = list_any (λ entry. stands entry.now.status && test entry.now.status) entries

-- a stanza of an index passes the test
abbrev pub some_stanza : (IndexPackage → Bool) → List ReadIndex → Bool
some_stanza test indices = list_any (λ read. list_any test read.index.listed) indices

-- the stanzas of all indices, in their order
abbrev pub stanzas_of : List ReadIndex → List IndexPackage
stanzas_of indices = flat_map (λ read. read.index.listed) indices
