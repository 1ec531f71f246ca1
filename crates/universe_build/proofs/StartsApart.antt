-- The facts of records with distinct names are about distinct names.
use Rattle.std.proofs.Common.{◌≢◌, suc, List, [], ◌∷◌, arith}
use Rattle.std.proofs.lemmas.List.Elements.{All-map}
use Rattle.std.proofs.lemmas.List.Kept.{AllPairs-cons}
use Rattle.rules.specs.Database.{HasDistinctNames, Record}
use Rattle.rules.specs.Universe.{Start, start_of, starts_of}
use Rattle.universe_parts.specs.Parts.{HaveDistinctNames}

pub starts_apart : (db : List Record) → HasDistinctNames db → HaveDistinctNames (starts_of db)
unfolding HasDistinctNames HaveDistinctNames
starts_apart [] distinct = λ i j d before within. absurd (omega arith)
starts_apart (entry ∷ db) distinct =
    AllPairs-cons (λ (earlier : Start) (later : Start). earlier.name ≢ later.name) (start_of entry) (starts_of db)
    (All-map (λ (start : Start). entry.name ≢ start.name) start_of db (λ k d within. distinct 0 (suc k) d (omega arith) (omega arith)))
    (starts_apart db (λ i j d before within. distinct (suc i) (suc j) d (omega arith) (omega arith)))
