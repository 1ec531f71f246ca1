-- Facts about distinct names have names that are apart.
use Rattle.std.proofs.Common.{◌≡◌, ◌≢◌, ℕ, false, List, [], ◌∷◌, sym, bytes_eq}
use Rattle.std.specs.List.{All, AllByRecursion}
use Rattle.std.proofs.lemmas.List.Elements.{All-head, All-tail}
use Rattle.index.proofs.NameTable.{AreApart, names_in, unequal}
use Rattle.rules.specs.Universe.{Start}
use Rattle.rules.proofs.Rising.{pairs_head, pairs_tail}
use Rattle.universe_parts.specs.Parts.{HaveDistinctNames}

-- the name that facts are about
abbrev pub name_of : Start → List ℕ
name_of start = start.name

-- the facts are about two names
abbrev AreOfTwo : Start → Start → Type 0
AreOfTwo earlier later = earlier.name ≢ later.name

later_apart : (start : Start) (starts : List Start) → All (AreOfTwo start) starts
    → AllByRecursion (λ later. bytes_eq later start.name ≡ false) (names_in name_of starts)
later_apart start [] apart = tt
later_apart start (later ∷ starts) apart = (
  unequal later.name start.name (λ same. All-head (AreOfTwo start) later starts apart (sym same)),
  later_apart start starts (All-tail (AreOfTwo start) later starts apart),
)

pub apart_names : (starts : List Start) → HaveDistinctNames starts → AreApart (names_in name_of starts)
unfolding HaveDistinctNames
apart_names [] distinct = tt
apart_names (start ∷ starts) distinct =
    (later_apart start starts (pairs_head AreOfTwo start starts distinct), apart_names starts (pairs_tail AreOfTwo start starts distinct))
