-- Who matches an atom is found at the places of those that have or provide its name.
use Rattle.std.proofs.Common.{◌≡◌, ◌≢◌, ℕ, ◌<◌, List, Option, Some, MatchOption, length, get_or, map, Bor, sym, ap, subst, ◌∙◌}
use Rattle.std.specs.Prelude.{◌↔◌, slice_get}
use Rattle.std.specs.List.{All, Any, Contains}
use Rattle.std.proofs.lemmas.List.Elements.{All-contains}
use Rattle.std.proofs.lemmas.Option.{get_or_from_slice_get, slice_get-get_or, slice_get_within}
use Rattle.index.specs.Providers.{IsProviderAt, plain_atom}
use Rattle.refutation.proofs.MemberLemmas.{some_of}
use Rattle.rules.specs.ElementLaws.{All-intro, Any-elim, Any-intro, Any-weaker, Contains-map, Contains-map_intro}
use Rattle.rules.specs.Package.{Atom, BreaksOther, ConflictsWith, Matches, MatchesSome, Pkg}
use Rattle.plainness.specs.Parts.{ClashesWithNone, IsMatchedByOther, NoneClash}

-- the package at a place
some_at : {X : Type 0} (o : Option X) (P : X → Type 0) (x : X) → o ≡ Some x → P x → MatchOption o ⊥ P
some_at {X} o P x is holds = let Q : Option X → Type 0 = λ q. MatchOption q ⊥ P in subst Q (sym is) holds

-- what a package at one of the places has one of the packages has, where these are the places of all that have the name
pub found_at : (packages : List Pkg) (name places : List ℕ) (P : Pkg → Type 0)
    → ((place : ℕ) → Contains places place ↔ IsProviderAt name packages place)
    → ((pkg : Pkg) → P pkg → Matches pkg (plain_atom name))
    → Any (λ place. MatchOption (slice_get packages place) ⊥ P) places ↔ Any P packages
found_at packages name places P exact named = (
  λ some. Any-elim (λ place. MatchOption (slice_get packages place) ⊥ P) places (Any P packages) (λ place within holds.
      let stanza = some_of (slice_get packages place) P holds in
      Any-intro P packages stanza.0 (place, slice_get_within packages place stanza.0 stanza.1, get_or_from_slice_get packages place stanza.0 stanza.0 stanza.1)
      stanza.2) some,
  λ some. Any-elim P packages (Any (λ place. MatchOption (slice_get packages place) ⊥ P) places) (λ pkg within holds.
      let there : slice_get packages within.0 ≡ Some pkg = slice_get-get_or packages within.0 pkg within.1 ∙ ap Some within.2 in
      Any-intro (λ place. MatchOption (slice_get packages place) ⊥ P) places within.0
      ((exact within.0).1 (pkg, there, named pkg holds)) (some_at (slice_get packages within.0) P pkg there holds)) some,
)

-- the package is of another name than this and matches the atom
abbrev pub IsOtherMatch : List ℕ → Atom → Pkg → Type 0
IsOtherMatch name atom pkg = (pkg.name ≢ name) × Matches pkg atom

-- one of another name matches an atom of the list where for one of the atoms one of another name matches it
by_atoms : (packages : List Pkg) (name : List ℕ) (atoms : List Atom)
    → Any (λ atom. Any (IsOtherMatch name atom) packages) atoms ↔ IsMatchedByOther packages name atoms
unfolding MatchesSome
by_atoms packages name atoms = (
  λ some. Any-elim (λ atom. Any (IsOtherMatch name atom) packages) atoms (Any (λ (o : Pkg). (o.name ≢ name) × Any (Matches o) atoms) packages)
      (λ atom within matched. Any-weaker (IsOtherMatch name atom) (λ (o : Pkg). (o.name ≢ name) × Any (Matches o) atoms) packages
      (λ pkg there both. (both.0, Any-intro (Matches pkg) atoms atom within both.1)) matched) some,
  λ met. Any-elim (λ (o : Pkg). (o.name ≢ name) × Any (Matches o) atoms) packages (Any (λ atom. Any (IsOtherMatch name atom) packages) atoms)
      (λ pkg there both. Any-weaker (Matches pkg) (λ atom. Any (IsOtherMatch name atom) packages) atoms
      (λ atom within matches. Any-intro (IsOtherMatch name atom) packages pkg there (both.0, matches)) both.1) met,
)

-- none of the atoms so far
abbrev pub IsUnmatched : List Pkg → List ℕ → Atom → Type 0
IsUnmatched packages name atom = ¬ Any (IsOtherMatch name atom) packages

-- the atom at which a loop stops is matched
pub matched_here : (packages : List Pkg) (name : List ℕ) (atoms : List Atom) (place : ℕ) (atom : Atom) → place < length atoms
    → atom ≡ get_or atoms place atom → Any (IsOtherMatch name atom) packages → IsMatchedByOther packages name atoms
matched_here packages name atoms place atom within is matched = (by_atoms packages name atoms).0
    (Any-intro (λ a. Any (IsOtherMatch name a) packages) atoms atom (place, within, sym is) matched)

-- where none of all atoms is matched
pub matched_nowhere : (packages : List Pkg) (name : List ℕ) (atoms : List Atom) → All (IsUnmatched packages name) atoms
    → ¬ IsMatchedByOther packages name atoms
matched_nowhere packages name atoms none some = Any-elim (λ atom. Any (IsOtherMatch name atom) packages) atoms ⊥
    (λ atom within matched. All-contains (IsUnmatched packages name) atoms atom none within matched) ((by_atoms packages name atoms).1 some)

-- no package clashes where each by itself clashes with none
pub none_clash : (packages : List (Bor Pkg)) (values : List Pkg) → map (λ (pkg : Bor Pkg). pkg.now) packages ≡ values
    → All (λ (pkg : Bor Pkg). ClashesWithNone values pkg.now) packages ↔ NoneClash values
unfolding ConflictsWith BreaksOther
none_clash packages values are = (
  λ all pkg other within there apart.
      let from = Contains-map (λ (p : Bor Pkg). p.now) packages pkg (subst (λ (ps : List Pkg). Contains ps pkg) (sym are) within) in
      let here : ClashesWithNone values pkg = subst (ClashesWithNone values) from.2
      (All-contains (λ (p : Bor Pkg). ClashesWithNone values p.now) packages from.0 all from.1) in (
        λ conflicts. here.0 (Any-intro (λ (o : Pkg). (o.name ≢ pkg.name) × MatchesSome o pkg.relations.conflicts) values other there (apart, conflicts)),
        λ breaks. here.1 (Any-intro (λ (o : Pkg). (o.name ≢ pkg.name) × MatchesSome o pkg.relations.breaks) values other there (apart, breaks)),
      ),
  λ none. All-intro (λ (p : Bor Pkg). ClashesWithNone values p.now) packages (λ lent within.
      let inside : Contains values lent.now = subst (λ (ps : List Pkg). Contains ps lent.now) are (Contains-map_intro (λ (p : Bor Pkg). p.now) packages lent within) in (
        λ some. Any-elim (λ (o : Pkg). (o.name ≢ lent.now.name) × MatchesSome o lent.now.relations.conflicts) values ⊥
            (λ other there both. (none lent.now other inside there both.0).0 both.1) some,
        λ some. Any-elim (λ (o : Pkg). (o.name ≢ lent.now.name) × MatchesSome o lent.now.relations.breaks) values ⊥
            (λ other there both. (none lent.now other inside there both.0).1 both.1) some,
      )),
)
