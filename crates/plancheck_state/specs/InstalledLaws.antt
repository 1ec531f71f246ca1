-- What holds of the installed packages is what holds of the packages of the installed records.
use Rattle.std.proofs.Common.{◌≢◌, ◌↔◌, ℕ, List, subst}
use Rattle.std.specs.List.{All, Any, filter}
use Rattle.std.proofs.lemmas.List.Elements.{All-contains}
use Rattle.rules.specs.Database.{Record, IsInstalled, installed_of, pkg_of}
use Rattle.rules.specs.ElementLaws.{All-intro, Any-elim, Any-intro, Any-weaker, Any-map_filter, Any-filter_map, Contains-map, Contains-map_intro, Contains-filter, Contains-filter_intro}
use Rattle.rules.specs.Package.{Atom, Matches, MatchesSome, MeetsClause, Pkg}
use Rattle.rules.specs.Sound.{MatchedByNoOther}
use Rattle.rules.specs.State.{is_installed_state}

-- some installed package has the property
pub some_installed : (P : Pkg → Type 0) (db : List Record) → Any (λ entry. IsInstalled entry × P (pkg_of entry)) db
    → Any P (installed_of db)
some_installed P db some = Any-map_filter P pkg_of (λ entry. is_installed_state entry.state) db some

pub installed_some : (P : Pkg → Type 0) (db : List Record) → Any P (installed_of db)
    → Any (λ entry. IsInstalled entry × P (pkg_of entry)) db
installed_some P db some = Any-filter_map P pkg_of (λ entry. is_installed_state entry.state) db some

-- each installed package has the property
pub all_installed : (P : Pkg → Type 0) (db : List Record) → All (λ entry. IsInstalled entry → P (pkg_of entry)) db
    → All P (installed_of db)
all_installed P db all = All-intro P (installed_of db) (λ pkg within.
    let from = Contains-map pkg_of (filter (λ (entry : Record). is_installed_state entry.state) db) pkg within in
    let kept = Contains-filter (λ (entry : Record). is_installed_state entry.state) db from.0 from.1 in
    subst P from.2 (All-contains (λ entry. IsInstalled entry → P (pkg_of entry)) db from.0 all kept.0 kept.1))

pub installed_all : (P : Pkg → Type 0) (db : List Record) → All P (installed_of db)
    → All (λ entry. IsInstalled entry → P (pkg_of entry)) db
installed_all P db all = All-intro (λ entry. IsInstalled entry → P (pkg_of entry)) db (λ entry within is.
    All-contains P (installed_of db) (pkg_of entry) all
    (Contains-map_intro pkg_of (filter (λ (r : Record). is_installed_state r.state) db) entry
    (Contains-filter_intro (λ (r : Record). is_installed_state r.state) db entry within is)))

-- an installed package matches an atom of the clause where an atom of it is matched by one
pub met_by_atoms : (db : List Record) (atoms : List Atom)
    → Any (λ atom. Any (λ entry. IsInstalled entry × Matches (pkg_of entry) atom) db) atoms ↔ MeetsClause (installed_of db) atoms
unfolding MeetsClause MatchesSome
met_by_atoms db atoms = (
  λ some. some_installed (λ member. Any (Matches member) atoms) db
      (Any-elim (λ atom. Any (λ entry. IsInstalled entry × Matches (pkg_of entry) atom) db) atoms
      (Any (λ entry. IsInstalled entry × Any (Matches (pkg_of entry)) atoms) db)
      (λ atom within has. Any-weaker (λ entry. IsInstalled entry × Matches (pkg_of entry) atom)
      (λ entry. IsInstalled entry × Any (Matches (pkg_of entry)) atoms) db
      (λ entry there both. (both.0, Any-intro (Matches (pkg_of entry)) atoms atom within both.1)) has) some),
  λ met. Any-elim (λ entry. IsInstalled entry × Any (Matches (pkg_of entry)) atoms) db
      (Any (λ atom. Any (λ entry. IsInstalled entry × Matches (pkg_of entry) atom) db) atoms)
      (λ entry there both. Any-weaker (Matches (pkg_of entry)) (λ atom. Any (λ entry. IsInstalled entry × Matches (pkg_of entry) atom) db) atoms
      (λ atom within matches. Any-intro (λ entry. IsInstalled entry × Matches (pkg_of entry) atom) db entry there (both.0, matches)) both.1)
      (installed_some (λ member. Any (Matches member) atoms) db met),
)

-- no installed package of another name matches an atom where none matches any
pub apart_by_atoms : (db : List Record) (name : List ℕ) (atoms : List Atom)
    → All (λ atom. All (λ other. IsInstalled other → other.name ≢ name → ¬ Matches (pkg_of other) atom) db) atoms
    ↔ MatchedByNoOther (installed_of db) name atoms
unfolding MatchedByNoOther MatchesSome
apart_by_atoms db name atoms = (
  λ all. all_installed (λ other. other.name ≢ name → ¬ Any (Matches other) atoms) db
      (All-intro (λ other. IsInstalled other → other.name ≢ name → ¬ Any (Matches (pkg_of other)) atoms) db
      (λ other there is apart some. Any-elim (Matches (pkg_of other)) atoms ⊥ (λ atom within matches.
      All-contains (λ other. IsInstalled other → other.name ≢ name → ¬ Matches (pkg_of other) atom) db other
      (All-contains (λ atom. All (λ other. IsInstalled other → other.name ≢ name → ¬ Matches (pkg_of other) atom) db) atoms atom all within)
      there is apart matches) some)),
  λ none. All-intro (λ atom. All (λ other. IsInstalled other → other.name ≢ name → ¬ Matches (pkg_of other) atom) db) atoms
      (λ atom within. All-intro (λ other. IsInstalled other → other.name ≢ name → ¬ Matches (pkg_of other) atom) db
      (λ other there is apart matches. All-contains (λ other. IsInstalled other → other.name ≢ name → ¬ Any (Matches (pkg_of other)) atoms)
      db other (installed_all (λ other. other.name ≢ name → ¬ Any (Matches other) atoms) db none) there is apart
      (Any-intro (Matches (pkg_of other)) atoms atom within matches))),
)
