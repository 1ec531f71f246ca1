-- A quick reading of a relation field's value: the automaton of `Shape`, which also remembers in a version (Policy 5.6.12
-- and 7.1) what stands before the next byte. It accepts no value that is refused, and refuses some that aren't: with an
-- epoch of two digits or more, with a colon in an upstream version, and with a hyphen at its front.
use Rattle.std.specs.Prelude.{◌≡◌, ℕ, ◌<◌, ◌/◌, ◌%◌, true, Bool, ◌&&◌, ◌||◌, List, [], ◌∷◌, length, nat_lt, slice_index, slice_index_or, if◌then◌else◌}
use Rattle.std.specs.Char.{is_ascii_digit}
use Rattle.rules.specs.Version.{is_colon, is_hyphen}
use Rattle.relation_text.specs.Place.{is_end}
use Rattle.relation_text.specs.Refusal.{most_atoms}
use Rattle.relation_text.specs.Shape.{next}
use Rattle.relation_text.specs.declared.quick.QuickState.{QuickState}
use Rattle.relation_text.specs.declared.quick.QuickState.TheVariants.{At, OneDigit, BehindEpoch, BehindHyphen}
use Rattle.relation_text.specs.declared.shape.RelationForm.{RelationForm}
use Rattle.relation_text.specs.declared.shape.ShapePlace.{ShapePlace}
use Rattle.relation_text.specs.declared.shape.ShapePlace.TheVariants.{Between, Alternative, InName, AfterName, BeforeQualifier, InQualifier, Opened, Less, Greater, AfterOperator, InVersion, AfterVersion, Closed, Dead}

-- the place of a state
abbrev pub place_of : QuickState → ShapePlace
place_of (At place) = place
place_of OneDigit = InVersion
place_of BehindEpoch = InVersion
place_of BehindHyphen = InVersion

-- the first byte of an upstream version: neither a colon nor a hyphen
abbrev pub upstream_begins : ℕ → QuickState
upstream_begins b = if is_colon b || is_hyphen b then At Dead else At InVersion

-- the first byte of a version: a digit, which may be its epoch, or the first byte of an upstream version
abbrev pub version_begins : ℕ → QuickState
version_begins b = if is_ascii_digit b then OneDigit else upstream_begins b

-- a further byte of a version: no colon, and no hyphen at the end
abbrev pub version_goes_on : ℕ → QuickState
version_goes_on b = if is_hyphen b then BehindHyphen else if is_colon b then At Dead else At InVersion

-- a byte of a version: a colon stands only behind one digit, and begins an upstream version
abbrev pub in_version : QuickState → ℕ → QuickState
in_version (At InVersion) b = version_goes_on b
in_version (At place) b = version_begins b
in_version OneDigit b = if is_colon b then BehindEpoch else version_goes_on b
in_version BehindEpoch b = upstream_begins b
in_version BehindHyphen b = version_goes_on b

-- a byte of no version, which leads to this place: a version doesn't end with its epoch or a hyphen
abbrev pub outside : QuickState → ShapePlace → QuickState
outside (At from) place = At place
outside OneDigit place = At place
outside BehindEpoch place = At Dead
outside BehindHyphen place = At Dead

-- the state behind a byte that leads to this place
abbrev pub state_at : QuickState → ℕ → ShapePlace → QuickState
state_at state b InVersion = in_version state b
state_at state b place = outside state place

-- where the next byte leads: to the place of `next`, or to the dead one
abbrev pub quick_next : RelationForm → QuickState → ℕ → QuickState
quick_next form state b = state_at state b (next form (place_of state) b)

-- where these bytes lead
abbrev pub quick_after : RelationForm → QuickState → List ℕ → QuickState
quick_after form state [] = state
quick_after form state (b ∷ bytes) = quick_after form (quick_next form state b) bytes

-- the bytes lead from the state to a place where a value may end
abbrev pub QuickEnds : RelationForm → QuickState → List ℕ → Type 0
QuickEnds form state bytes = is_end (place_of (quick_after form state bytes)) ≡ true

-- the quick reading accepts the value: it has fewer bytes than a field may have atoms, and they lead to a place where a value
-- may end
abbrev pub quick_accepts : RelationForm → List ℕ → Bool
quick_accepts form value = nat_lt (length value) most_atoms && is_end (place_of (quick_after form (At Between) value))

-- the states, in the order of their numbers
abbrev pub states : List QuickState
states = At Between ∷ At Alternative ∷ At InName ∷ At AfterName ∷ At BeforeQualifier ∷ At InQualifier ∷ At Opened ∷ At Less ∷ At Greater
    ∷ At AfterOperator ∷ At InVersion ∷ At AfterVersion ∷ At Closed ∷ At Dead ∷ OneDigit ∷ BehindEpoch ∷ BehindHyphen ∷ []

-- the state of a number
abbrev pub state_of : ℕ → QuickState
state_of number = slice_index_or states number (At Dead)

-- the number of a place
abbrev pub place_number : ShapePlace → ℕ
place_number Between = 0
place_number Alternative = 1
place_number InName = 2
place_number AfterName = 3
place_number BeforeQualifier = 4
place_number InQualifier = 5
place_number Opened = 6
place_number Less = 7
place_number Greater = 8
place_number AfterOperator = 9
place_number InVersion = 10
place_number AfterVersion = 11
place_number Closed = 12
place_number Dead = 13

-- the number of a state
abbrev pub number_of : QuickState → ℕ
number_of (At place) = place_number place
number_of OneDigit = 14
number_of BehindEpoch = 15
number_of BehindHyphen = 16

-- the cell of a table at this place: of each state in turn a row, which has for each byte the number of the state behind it
unfoldable pub cell : RelationForm → ℕ → ℕ
cell form at = number_of (quick_next form (state_of (at / 256)) (at % 256))

-- the table of a form: 17 rows of 256 cells
pub record IsTable (form : RelationForm) (table : List ℕ) : Type 0 where
  pub size : length table ≡ 4352
  pub cells : (at : ℕ) → at < 4352 → slice_index table at ≡ cell form at
