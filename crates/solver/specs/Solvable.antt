-- What a request has to be over, so that it can be solved: a universe that inputs have. All of it holds of what is read.
use Rattle.std.specs.Prelude.{ℕ, ◌<◌, ◌^◌, List, length}
use Rattle.rules.specs.Names.{HasNames, HasPairNames}
use Rattle.plain.specs.Counted.{IsCounted}
use Rattle.refutation.specs.Laws.{HasAscendingPairs, HasNeededPairs}
use Rattle.rules.specs.Database.{Record}
use Rattle.rules.specs.Universe.{Universe}
use Rattle.rules.specs.Verdict.{IsBuiltOn}
use Rattle.universe_parts.specs.Parts.{HaveDistinctNames}

-- the universe is built on the start and counts each pair by the record that stands, or else by the indices; pairs have numbers of
-- 32 bits, ascend, and are there where they must be selected; no two facts are about one name; and names are package names
pub record IsSolvable (start : List Record) (u : Universe) : Type 0 where
  pub built : IsBuiltOn start u
  pub counted : IsCounted start u
  pub few : length u.pairs < 2 ^ 32
  pub distinct : HaveDistinctNames u.starts
  pub ascending : HasAscendingPairs u
  pub needed : HasNeededPairs u
  pub start_names : HasNames start
  pub pair_names : HasPairNames u
