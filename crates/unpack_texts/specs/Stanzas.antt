-- The stanzas of the pairs of a universe, fetched index by index in a second reading (this project's own).
use Rattle.std.specs.Prelude.{◌≡◌, ◌||◌, ℕ, Bool, List, [], ◌∷◌, map, not, set, Option, Some, None, ⊤, is_some}
use Rattle.std.specs.List.{All, AllZip, Any, slice_get}
use Rattle.std.specs.Option.{option_and_then}
use Rattle.rules.specs.Step.{IndexPackage}
use Rattle.rules.specs.Universe.{Pair}
use Rattle.universe_parts.specs.Parts.{numbered}
use Rattle.unpack_texts.specs.Fetched.{IsFetched, IsGone, Items, items_in}

-- what is there of a pair: its stanza as it was read at first, if the indices have one, and the bytes of that stanza once they were fetched
pub record PairStanza : Type 0 where
  pub listed : Option IndexPackage
  pub bytes : Option (List ℕ)

-- the stanzas of these pairs, of which none was fetched
abbrev pub pair_stanzas : List Pair → List PairStanza
pair_stanzas pairs = map (λ pair. record { listed = pair.listed; bytes = None }) pairs

-- the bytes of the stanza of the pair of this number, if they were fetched
abbrev pub numbered_bytes : ℕ → List PairStanza → Option (List ℕ)
numbered_bytes number stanzas = option_and_then (λ one. one.bytes) (numbered number stanzas)

-- the indices have no stanza of the pair, or its bytes were fetched
abbrev pub is_there : PairStanza → Bool
is_there one = not (is_some one.listed) || is_some one.bytes

-- this is the stanza of the pair, and it is of the index of this number
pub record IsOfIndex (number : ℕ) (one : PairStanza) (listed : IndexPackage) : Type 0 where
  pub is : one.listed ≡ Some listed
  pub index : listed.place.index ≡ number

-- the bytes are there, and they belong to the stanza
pub record HasBytes (Belongs : IndexPackage → List ℕ → Type 0) (one : PairStanza) (listed : IndexPackage) : Type 0 where
  pub bytes : List ℕ
  pub there : one.bytes ≡ Some bytes
  pub belong : Belongs listed bytes

-- the pair once the stanzas of the index of this number were fetched: with the same stanza; where that is of this index, with bytes that belong to it, and else as it was
pub record IsAfter (Belongs : IndexPackage → List ℕ → Type 0) (number : ℕ) (old new : PairStanza) : Type 0 where
  pub listed : new.listed ≡ old.listed
  pub fetched : (listed : IndexPackage) → IsOfIndex number old listed → HasBytes Belongs new listed
  pub other : ((listed : IndexPackage) → ¬ IsOfIndex number old listed) → new.bytes ≡ old.bytes

-- each pair once those of the index of this number were fetched from this text
abbrev pub AreAfter : List ℕ → List ℕ → ℕ → List PairStanza → List PairStanza → Type 0
AreAfter arch text number old new = AllZip (IsAfter (IsFetched arch (items_in text)) number) old new

-- each pair once those of the index of this number were fetched, whatever their bytes are
abbrev pub AreAfterSome : ℕ → List PairStanza → List PairStanza → Type 0
AreAfterSome number old new = AllZip (IsAfter (λ listed bytes. ⊤) number) old new

-- the stanza of one of these pairs is of the index of this number, and nothing is fetched for it
abbrev pub HasGone : List ℕ → Items → ℕ → List PairStanza → Type 0
HasGone arch items number stanzas = Any (λ one. (listed : IndexPackage) × IsOfIndex number one listed × IsGone arch items listed) stanzas

-- a stanza that is wanted, and the place of its pair, counted from 0
pub record WantedStanza : Type 0 where
  pub place : ℕ
  pub listed : IndexPackage

-- the pair at this place has this stanza, of the index of this number
pub record IsAt (number : ℕ) (stanzas : List PairStanza) (place : ℕ) (listed : IndexPackage) : Type 0 where
  pub one : PairStanza
  pub there : slice_get stanzas place ≡ Some one
  pub of : IsOfIndex number one listed

-- the stanza is that of the pair at its place
abbrev pub IsWanted : ℕ → List PairStanza → WantedStanza → Type 0
IsWanted number stanzas wanted = IsAt number stanzas wanted.place wanted.listed

-- these are the stanzas of the index of this number
pub record AreWanted (number : ℕ) (stanzas : List PairStanza) (wanted : List WantedStanza) : Type 0 where
  pub each : All (IsWanted number stanzas) wanted
  pub every : (place : ℕ) (listed : IndexPackage) → IsAt number stanzas place listed → Any (λ one. one.place ≡ place) wanted

-- each text put at the place of the pair of its stanza
abbrev pub filled : List PairStanza → List WantedStanza → List (List ℕ) → List PairStanza
filled stanzas [] texts = stanzas
filled stanzas (one ∷ wanted) [] = stanzas
filled stanzas (one ∷ wanted) (text ∷ texts) =
    filled (set stanzas one.place (record { listed = Some one.listed; bytes = Some text })) wanted texts
