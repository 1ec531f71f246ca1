-- A package that matches an atom has the atom's name or provides it (Policy 7.5), so that what asks for a match asks the
-- holders of that name alone.
use Rattle.std.proofs.Common.{◌≡◌, ◌↔◌, ℕ, Bool, true, false, ◌||◌, inl, inr, List, Contains, refl, subst, sym, bytes_eq}
use Rattle.std.specs.List.{All, Any, list_any}
use Rattle.std.proofs.lemmas.List.Elements.{All-contains}
use Rattle.rules.specs.Database.{ForMembers, HasRecord, Record, pkg_of}
use Rattle.rules.specs.ElementLaws.{All-intro, Any-elim, Any-intro, Any-weaker, list_any-from_contains}
use Rattle.rules.specs.NamedLaws.{bytes_eq-same}
use Rattle.rules.specs.Package.{Atom, FitsByName, FitsByProvides, FitsProvided, Matches, MatchesSome, Provided}
use Rattle.index.specs.Providers.{is_item_of}
use Rattle.plancheck_state.specs.Holders.{AreHolders, is_holder}

or_true : (a b : Bool) → b ≡ true → (a || b) ≡ true
or_true true b h = refl
or_true false b h = h

-- a record of the name holds it
pub named-holds : (name : List ℕ) (entry : Record) → entry.name ≡ name → is_holder name entry ≡ true
named-holds name entry same = rw (bytes_eq-same entry.name name same) refl

-- an item that fits the atom is of its name
fits-item : (item : Provided) (atom : Atom) → FitsProvided item atom → is_item_of atom.name item ≡ true
unfolding FitsProvided
fits-item item atom fits = rw (fits.0, bytes_eq-same item.name atom.name fits.1) refl

-- what provides something that fits the atom holds its name
pub providing-holds : (entry : Record) (atom : Atom) → FitsByProvides (pkg_of entry) atom → is_holder atom.name entry ≡ true
unfolding FitsByProvides
providing-holds entry atom some = or_true (bytes_eq entry.name atom.name) (list_any (is_item_of atom.name) entry.relations.provides)
    (Any-elim (λ item. FitsProvided item atom) entry.relations.provides (list_any (is_item_of atom.name) entry.relations.provides ≡ true)
    (λ item within fits. list_any-from_contains (is_item_of atom.name) entry.relations.provides item within (fits-item item atom fits)) some)

-- what matches the atom holds its name
pub matching-holds : (entry : Record) (atom : Atom) → Matches (pkg_of entry) atom → is_holder atom.name entry ≡ true
unfolding Matches FitsByName
matching-holds entry atom matches = elim matches.1 [
  | inl own ↦ named-holds atom.name entry own.0
  | inr provided ↦ providing-holds entry atom provided
]

-- what only holders of the name have, a record of the database has where a holder has it
pub holders-any : (P : Record → Type 0) (name : List ℕ) (db holders : List Record) → AreHolders name db holders
    → ((entry : Record) → P entry → is_holder name entry ≡ true) → Any P holders ↔ Any P db
holders-any P name db holders are held = (
  λ some. Any-elim P holders (Any P db) (λ entry within has.
      Any-intro P db entry (All-contains (Contains db) holders entry are.within within) has) some,
  λ some. Any-elim P db (Any P holders) (λ entry within has.
      Any-intro P holders entry (are.each entry within (held entry has)) has) some,
)

-- what each record has that isn't a holder of the name, each record of the database has where each holder has it
pub holders-all : (P : Record → Type 0) (name : List ℕ) (db holders : List Record) → AreHolders name db holders
    → ((entry : Record) → is_holder name entry ≡ false → P entry) → All P holders ↔ All P db
holders-all P name db holders are others = (
  λ all. All-intro P db (λ entry within. by (is_holder name entry) entry refl within all),
  λ all. All-intro P holders (λ entry within. All-contains P db entry all (All-contains (Contains db) holders entry are.within within)),
)
  where
    by : (b : Bool) (entry : Record) → is_holder name entry ≡ b → Contains db entry → All P holders → P entry
    by true entry e within all = All-contains P holders entry all (are.each entry within e)
    by false entry e within all = others entry e

-- the record of the name has a property where it is so among the holders
pub holders-named : (P : Record → Type 0) (name : List ℕ) (db holders : List Record) → AreHolders name db holders
    → HasRecord P name holders ↔ HasRecord P name db
holders-named P name db holders are =
    holders-any (λ entry. (entry.name ≡ name) × P entry) name db holders are (λ entry has. named-holds name entry has.0)

-- a record matches an atom of the list where an atom of it is matched by one
pub some-by-atoms : (P : Record → Type 0) (db : List Record) (atoms : List Atom)
    → Any (λ atom. Any (λ entry. P entry × Matches (pkg_of entry) atom) db) atoms ↔ Any (λ entry. P entry × MatchesSome (pkg_of entry) atoms) db
unfolding MatchesSome
some-by-atoms P db atoms = (
  λ some. Any-elim (λ atom. Any (λ entry. P entry × Matches (pkg_of entry) atom) db) atoms
      (Any (λ entry. P entry × Any (Matches (pkg_of entry)) atoms) db)
      (λ atom within has. Any-weaker (λ entry. P entry × Matches (pkg_of entry) atom)
      (λ entry. P entry × Any (Matches (pkg_of entry)) atoms) db
      (λ entry there both. (both.0, Any-intro (Matches (pkg_of entry)) atoms atom within both.1)) has) some,
  λ met. Any-elim (λ entry. P entry × Any (Matches (pkg_of entry)) atoms) db
      (Any (λ atom. Any (λ entry. P entry × Matches (pkg_of entry) atom) db) atoms)
      (λ entry there both. Any-weaker (Matches (pkg_of entry)) (λ atom. Any (λ entry. P entry × Matches (pkg_of entry) atom) db) atoms
      (λ atom within matches. Any-intro (λ entry. P entry × Matches (pkg_of entry) atom) db entry there (both.0, matches)) both.1) met,
)

-- each record of these names has a property where for each name the record of it has
pub members-by-name : (P : Record → Type 0) (names : List (List ℕ)) (db : List Record)
    → All (λ name. All (λ (member : Record). member.name ≡ name → P member) db) names ↔ ForMembers P names db
members-by-name P names db = (
  λ all. All-intro (λ (member : Record). Contains names member.name → P member) db (λ member there within.
      All-contains (λ (other : Record). other.name ≡ member.name → P other) db member
      (All-contains (λ name. All (λ (other : Record). other.name ≡ name → P other) db) names member.name all within) there refl),
  λ all. All-intro (λ name. All (λ (member : Record). member.name ≡ name → P member) db) names (λ name within.
      All-intro (λ (member : Record). member.name ≡ name → P member) db (λ member there named.
      All-contains (λ (other : Record). Contains names other.name → P other) db member all there (subst (Contains names) (sym named) within))),
)
