-- Names that ask for names before them: in each group that passes one of them passes alone, or a part of the rings does.
use Rattle.std.proofs.Common.{◌≡◌, ℕ, ◌<◌, ◌≤◌, ◌==◌, Bool, true, false, List, [], ◌∷◌, ◌++◌, length, ◌⊎◌, refl, sym, ap, subst, ◌∙◌, arith}
use Rattle.std.specs.Borrow.{Bor}
use Rattle.std.specs.List.{All, Any, Contains, filter}
use Rattle.std.proofs.lemmas.Bool.{cases_order, eq-eqb, eqb-true}
use Rattle.std.proofs.lemmas.List.Elements.{All-contains, Contains-append_cases, Contains-append_left, Contains-append_right}
use Rattle.rules.specs.Configure.{GroupPasses, is_present_among, members_of}
use Rattle.rules.specs.Database.{Record, IsPresent, installed_of, pkg_of}
use Rattle.rules.specs.ElementLaws.{All-intro, Any-append_left, Any-elim, Any-intro, Contains-cons, Contains-filter, Contains-filter_intro, Contains-head, Contains-map, Contains-map_intro, Contains-nil, Contains-rest}
use Rattle.rules.specs.NamedLaws.{contains-is_among, is_among-contains}
use Rattle.rules.specs.Package.{Pkg, Atom, Matches, MatchesSome, MeetsClause}
use Rattle.rules.specs.Sound.{MeetsClauses}
use Rattle.rules.specs.State.{is_present_state}
use Rattle.rules.specs.Step.{is_among}
use Rattle.rules.proofs.EndLemmas.{both_true}
use Rattle.rules.proofs.GroupLemmas.{GroupPasses-each, GroupPasses-from_each}
use Rattle.plain.proofs.LeastGroupLemmas.{some_length}
use Rattle.fixed_order.specs.Turn.{AsksBefore, AsksBeforeBy, AsksOnly, AsksOnlyBy, ComesBefore, ComesBeforeBy, HasRings, IsOneBy, is_ring, is_ringed, rank_in}
use mathlib.Core.Logic.{inl, inr}

-- what matches the clause is of such a name, where all that does is
pub matched_only : (P : List ℕ → Type 0) (db : List Record) (clause : List Atom) (entry : Record) → Contains db entry → IsPresent entry
    → MatchesSome (pkg_of entry) clause → All (λ atom. All (IsOneBy P atom) db) clause → P entry.name
unfolding MatchesSome
matched_only P db clause entry there present matches all = Any-elim (Matches (pkg_of entry)) clause (P entry.name)
    (λ atom inside fits. All-contains (IsOneBy P atom) db entry
    (All-contains (λ a. All (IsOneBy P a) db) clause atom all inside) there present fits) matches

module _ (rank : List ℕ → ℕ) (db : List Record) (group part : List (List ℕ)) (name : List ℕ)
    (closed : (other : List ℕ) → Contains group other → ComesBefore rank other name → Contains part other) where
  -- a package of the group that comes before the name is one of the part
  still_there : (clause : List Atom) (pkg : Pkg) → Contains (installed_of db ++ members_of group db) pkg → MatchesSome pkg clause
      → All (λ atom. All (ComesBeforeBy rank name atom) db) clause → Contains (installed_of db ++ members_of part db) pkg
  still_there clause pkg inside matches before = elim (Contains-append_cases (installed_of db) (members_of group db) pkg inside) [
    | inl installed ↦ Contains-append_left (installed_of db) (members_of part db) pkg installed
    | inr grouped ↦
        let from = Contains-map pkg_of (filter (is_present_among group) db) pkg grouped in
        let kept = Contains-filter (is_present_among group) db from.0 from.1 in
        let both = both_true (is_present_state from.0.state) (is_among group from.0) kept.1 in
        let first = matched_only (λ asked. ComesBefore rank asked name) db clause from.0 kept.0 both.0
        (subst (λ (p : Pkg). MatchesSome p clause) (sym from.2) matches) before in
        let among : is_among part from.0 ≡ true =
        is_among-contains part from.0 (closed from.0.name (contains-is_among group from.0 both.1) first) in
        let passes : is_present_among part from.0 ≡ true = rw (both.0, among) refl in
        Contains-append_right (installed_of db) (members_of part db) pkg (subst (Contains (members_of part db)) from.2
        (Contains-map_intro pkg_of (filter (is_present_among part) db) from.0
        (Contains-filter_intro (is_present_among part) db from.0 kept.0 passes)))
  ]

  clause_met : (clause : List Atom) → AsksBeforeBy rank db name clause → MeetsClause (installed_of db ++ members_of group db) clause
      → MeetsClause (installed_of db ++ members_of part db) clause
  unfolding MeetsClause AsksOnlyBy
  clause_met clause (inl met) whole = Any-append_left (λ member. MatchesSome member clause) (installed_of db) (members_of part db) met
  clause_met clause (inr before) whole = Any-elim (λ member. MatchesSome member clause) (installed_of db ++ members_of group db)
      (Any (λ member. MatchesSome member clause) (installed_of db ++ members_of part db))
      (λ pkg inside matches. Any-intro (λ member. MatchesSome member clause) (installed_of db ++ members_of part db) pkg
      (still_there clause pkg inside matches before) matches) whole

  clauses_met : (clauses : List (List Atom)) → All (AsksBeforeBy rank db name) clauses
      → MeetsClauses (installed_of db ++ members_of group db) clauses → MeetsClauses (installed_of db ++ members_of part db) clauses
  unfolding MeetsClauses
  clauses_met clauses asks whole = All-intro (MeetsClause (installed_of db ++ members_of part db)) clauses (λ clause inside.
      clause_met clause (All-contains (AsksBeforeBy rank db name) clauses clause asks inside)
      (All-contains (MeetsClause (installed_of db ++ members_of group db)) clauses clause whole inside))

-- a part of a group that passes does so too, where it has all of the group that comes before one of its names
pub part_passes : (rank : List ℕ → ℕ) (db : List Record) (group part : List (List ℕ)) → GroupPasses db group
    → All (Contains group) part → ((name : List ℕ) → Contains part name → AsksBefore rank db name)
    → ((name other : List ℕ) → Contains part name → Contains group other → ComesBefore rank other name → Contains part other)
    → GroupPasses db part
unfolding AsksOnly
part_passes rank db group part passes within asks closed = GroupPasses-from_each db part (λ name there.
    let whole = GroupPasses-each db group passes name (All-contains (Contains group) part name within there) in
    record {
      configurable = whole.configurable;
      pre_depends = whole.pre_depends;
      depends = All-intro (λ member. member.name ≡ name → MeetsClauses (installed_of db ++ members_of part db) member.relations.depends) db
          (λ member inside same. clauses_met rank db group part name (λ other. closed name other there) member.relations.depends
          (All-contains (λ m. m.name ≡ name → All (AsksBeforeBy rank db name) m.relations.depends) db member (asks name there) inside same)
          (All-contains (λ m. m.name ≡ name → MeetsClauses (installed_of db ++ members_of group db) m.relations.depends) db member
          whole.depends inside same));
      unbroken = whole.unbroken;
    })

-- the name is one of these, and none of them has a lesser rank
record IsLeastRanked (rank : List ℕ → ℕ) (names : List (List ℕ)) (name : List ℕ) : Type 0 where
  pub within : Contains names name
  pub least : (other : List ℕ) → Contains names other → rank name ≤ rank other

least_from : (rank : List ℕ → ℕ) (first : List ℕ) (rest : List (List ℕ))
    → (name : List ℕ) × IsLeastRanked rank (first ∷ rest) name
least_from rank first [] = (
  first,
  record {
    within = Contains-head first [];
    least = λ other there. elim (Contains-cons first [] other there) [
      | inl same ↦ subst (λ (o : List ℕ). rank first ≤ rank o) same (omega arith)
      | inr none ↦ absurd (Contains-nil other none)
    ];
  },
)
least_from rank first (second ∷ rest) = at (least_from rank second rest)
  where
    at : (name : List ℕ) × IsLeastRanked rank (second ∷ rest) name → (name : List ℕ) × IsLeastRanked rank (first ∷ second ∷ rest) name
    at (name, is) = by (cases_order (rank first) (rank name))
      where
        lower : rank first ≤ rank name → (name_ : List ℕ) × IsLeastRanked rank (first ∷ second ∷ rest) name_
        lower below = (
          first,
          record {
            within = Contains-head first (second ∷ rest);
            least = λ other there. elim (Contains-cons first (second ∷ rest) other there) [
              | inl same ↦ subst (λ (o : List ℕ). rank first ≤ rank o) same (omega arith)
              | inr behind ↦ let further = is.least other behind in omega (arith, further, below)
            ];
          },
        )

        higher : rank name < rank first → (name_ : List ℕ) × IsLeastRanked rank (first ∷ second ∷ rest) name_
        higher above = (
          name,
          record {
            within = Contains-rest first (second ∷ rest) name is.within;
            least = λ other there. elim (Contains-cons first (second ∷ rest) other there) [
              | inl same ↦ subst (λ (o : List ℕ). rank name ≤ rank o) same (omega (arith, above))
              | inr behind ↦ is.least other behind
            ];
          },
        )

        by : (rank first ≡ rank name) ⊎ ((rank first < rank name) ⊎ (rank name < rank first))
            → (name_ : List ℕ) × IsLeastRanked rank (first ∷ second ∷ rest) name_
        by (inl same) = lower (omega (arith, same))
        by (inr (inl below)) = lower (omega (arith, below))
        by (inr (inr above)) = higher above

least_ranked : (rank : List ℕ → ℕ) (names : List (List ℕ)) → 0 < length names → (name : List ℕ) × IsLeastRanked rank names name
least_ranked rank [] some = absurd (omega (arith, some))
least_ranked rank (first ∷ rest) some = least_from rank first rest

-- some names of the group pass, and all of them are rings
pub record IsRingIn (rank : List ℕ → ℕ) (db : List Record) (group part : List (List ℕ)) : Type 0 where
  pub some : 0 < length part
  pub passes : GroupPasses db part
  pub within : All (Contains group) part
  pub ringed : All (λ name. is_ring (rank name) ≡ true) part

-- a name of the group passes alone
pub record IsAloneIn (db : List Record) (group : List (List ℕ)) (name : List ℕ) : Type 0 where
  pub within : Contains group name
  pub passes : GroupPasses db (name ∷ [])

module _ (rank : List ℕ → ℕ) (db : List Record) (group : List (List ℕ)) (passes : GroupPasses db group)
    (asks : All (AsksBefore rank db) group) (least : List ℕ) (is : IsLeastRanked rank group least) where
  asks_of : (name : List ℕ) → Contains group name → AsksBefore rank db name
  asks_of name within = All-contains (AsksBefore rank db) group name asks within

  only : (name : List ℕ) → Contains (least ∷ []) name → least ≡ name
  only name within = elim (Contains-cons least [] name within) [ inl same ↦ same | inr none ↦ absurd (Contains-nil name none) ]

  -- the name of the least rank, if that is no ring's
  alone_of : is_ring (rank least) ≡ false → IsAloneIn db group least
  unfolding ComesBefore
  alone_of apart = record {
    within = is.within;
    passes = part_passes rank db group (least ∷ []) passes
        (All-intro (Contains group) (least ∷ []) (λ name there. subst (Contains group) (only name there) is.within))
        (λ name there. subst (AsksBefore rank db) (only name there) (asks_of least is.within))
        (λ name other there inside before. subst (Contains (least ∷ []))
        (at other inside (subst (ComesBefore rank other) (sym (only name there)) before)) (Contains-head least []));
  }
    where
      at : (other : List ℕ) → Contains group other → ComesBefore rank other least → least ≡ other
      at other inside (inl same) = sym same
      at other inside (inr (inl below)) = let no_less = is.least other inside in absurd (omega (arith, no_less, below))
      at other inside (inr (inr both)) = absurd (let e : true ≡ false = sym both.1 ∙ ap is_ring both.0 ∙ apart in cc)

  abbrev is_same_rank : List ℕ → Bool
  is_same_rank name = rank name == rank least

  to_rank : (name : List ℕ) → is_same_rank name ≡ true → rank name ≡ rank least
  to_rank name passes_ = eqb-true (rank name) (rank least) passes_

  from_rank : (name : List ℕ) → rank name ≡ rank least → is_same_rank name ≡ true
  from_rank name same = eq-eqb (rank name) (rank least) same

  -- the names of the group that are rings, if one of them has the least rank
  ring_of : is_ring (rank least) ≡ true → IsRingIn rank db group (filter is_same_rank group)
  unfolding ComesBefore
  ring_of ring = record {
    some = some_length (filter is_same_rank group) least (Contains-filter_intro is_same_rank group least is.within (from_rank least refl));
    passes = part_passes rank db group (filter is_same_rank group) passes inside
        (λ name there. asks_of name (Contains-filter is_same_rank group name there).0)
        (λ name other there among before. Contains-filter_intro is_same_rank group other among
        (from_rank other (at name other (to_rank name (Contains-filter is_same_rank group name there).1) among before)));
    within = inside;
    ringed = All-intro (λ name. is_ring (rank name) ≡ true) (filter is_same_rank group) (λ name there.
        ap is_ring (to_rank name (Contains-filter is_same_rank group name there).1) ∙ ring);
  }
    where
      inside : All (Contains group) (filter is_same_rank group)
      inside = All-intro (Contains group) (filter is_same_rank group) (λ name there. (Contains-filter is_same_rank group name there).0)

      at : (name other : List ℕ) → rank name ≡ rank least → Contains group other → ComesBefore rank other name → rank other ≡ rank least
      at name other known among (inl alike) = ap rank alike ∙ known
      at name other known among (inr (inl below)) = let no_less = is.least other among in absurd (omega (arith, no_less, below, known))
      at name other known among (inr (inr both)) = both.0 ∙ known

-- in a group that passes a name passes alone, or a part that is all rings passes
pub alone_or_ring : (rank : List ℕ → ℕ) (db : List Record) (group : List (List ℕ)) → 0 < length group → GroupPasses db group
    → All (AsksBefore rank db) group
    → ((name : List ℕ) × IsAloneIn db group name) ⊎ ((part : List (List ℕ)) × IsRingIn rank db group part)
alone_or_ring rank db group some passes asks = at (least_ranked rank group some)
  where
    at : (name : List ℕ) × IsLeastRanked rank group name
        → ((name : List ℕ) × IsAloneIn db group name) ⊎ ((part : List (List ℕ)) × IsRingIn rank db group part)
    at (least, is) = by (is_ring (rank least)) refl
      where
        by : (b : Bool) → is_ring (rank least) ≡ b
            → ((name : List ℕ) × IsAloneIn db group name) ⊎ ((part : List (List ℕ)) × IsRingIn rank db group part)
        by true ring = inr (filter (is_same_rank rank db group passes asks least is) group, ring_of rank db group passes asks least is ring)
        by false apart = inl (least, alone_of rank db group passes asks least is apart)

-- by one rank for all, that of a ring, each name asks for names before it
asks_in_ring : (db : List Record) (name : List ℕ) → AsksBefore (λ n. 1) db name
unfolding AsksOnly AsksOnlyBy ComesBefore
asks_in_ring db name = All-intro (λ member. member.name ≡ name → All (AsksBeforeBy (λ n. 1) db name) member.relations.depends) db
    (λ member inside same. All-intro (AsksBeforeBy (λ n. 1) db name) member.relations.depends (λ clause there.
    inr (All-intro (λ atom. All (ComesBeforeBy (λ n. 1) name atom) db) clause (λ atom within.
    All-intro (ComesBeforeBy (λ n. 1) name atom) db (λ entry here present matches. inr (inr (refl, refl)))))))

-- all names are rings at most
pub all_ringed : (db : List Record) (names rings : List (List ℕ)) → rings ≡ names → HasRings db names rings
all_ringed db names rings same = record {
  rank = λ n. 1;
  asks = All-intro (AsksBefore (λ n. 1) db) names (λ name there. asks_in_ring db name);
  ringed = λ name there known. subst (λ (ns : List (List ℕ)). Contains ns name) (sym same) there;
}

-- by a table of ranks the rings are those with that rank
pub ranked_rings : (db : List Record) (table : List (Bor (List ℕ) × ℕ)) (names rings : List (List ℕ))
    → All (AsksBefore (rank_in table) db) names → rings ≡ filter (is_ringed table) names → HasRings db names rings
ranked_rings db table names rings asks same = record {
  rank = rank_in table;
  asks = asks;
  ringed = λ name there known. subst (λ (ns : List (List ℕ)). Contains ns name) (sym same)
      (Contains-filter_intro (is_ringed table) names name there (rw known refl));
}
