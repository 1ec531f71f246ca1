-- What waits to be configured, behind a configure: what waited but for the group, each name asks for such names as it did, and what
-- has what it asks for had it before or asks for a name of the group.
use Rattle.std.proofs.Common.{◌≡◌, ◌⊎◌, ℕ, ◌<◌, Bool, true, false, List, [], ◌∷◌, ◌++◌, Some, get_or, length, refl, sym, ap, subst, ◌∙◌, true≢false}
use Rattle.std.specs.Prelude.{◌==◌, slice_get}
use Rattle.std.specs.List.{All, Any, Contains, filter, list_any}
use Rattle.std.proofs.lemmas.Bool.{cases_Bool, eq-eqb, eqb-true}
use Rattle.std.proofs.lemmas.List.Elements.{All-contains, All-cons, All-weaker, Contains-append_cases, Contains-append_left, Contains-append_right}
use Rattle.std.proofs.lemmas.Option.{get_or_from_slice_get, slice_get_read, slice_get_within}
use Rattle.rules.specs.Configure.{AreConfigurable, AreDependsInstalled, ArePreDependsInstalled, HasConfigurable, IsConfigurable, is_present_among, members_of}
use Rattle.rules.specs.Database.{Record, IsInstalled, IsPresent, installed_of, pkg_of}
use Rattle.rules.specs.ElementLaws.{All-intro, Any-append_left, Any-elim, Any-from_list_any, Any-intro, Contains-cons, Contains-filter, Contains-filter_intro, Contains-head, Contains-map, Contains-map_intro, Contains-nil, list_any-from_contains}
use Rattle.rules.specs.Legal.{Allowed}
use Rattle.rules.specs.NamedLaws.{contains-is_among, is_among-contains}
use Rattle.rules.specs.Package.{Pkg, Atom, MatchesSome, MeetsClause}
use Rattle.rules.specs.Run.{after}
use Rattle.rules.specs.Sound.{MeetsClauses}
use Rattle.rules.specs.State.{is_installed_state, is_present_state}
use Rattle.rules.specs.Step.{changed, configured, is_among}
use Rattle.rules.specs.Universe.{Universe}
use Rattle.rules.specs.declared.step.Step.TheVariants.{Configure}
use Rattle.rules.proofs.EndLemmas.{both_true}
use Rattle.rules.proofs.GroupLemmas.{ForMembers-each, MeetsClause-more, MeetsClauses-more}
use Rattle.rules.proofs.PlanLemmas.{installed_contains}
use Rattle.rules.proofs.QuietLemmas.{the_record}
use Rattle.plancheck_group.proofs.PartLemmas.{of_alone}
use Rattle.plain.proofs.ChangedLemmas.{All-behind, changed_each, changed_has, changed_keeps}
use Rattle.plain.proofs.ConfigureLemmas.{configure_leaves, group_record, unconfigured_present}
use Rattle.plain.specs.Underway.{IsUnderway, unconfigured_of}
use Rattle.fixed_order.specs.Alone.{PassesAlone}
use Rattle.fixed_order.specs.Askers.{HasWhatItAsks, IsAsking, asking_in}
use Rattle.fixed_order.specs.Names.{AreAllWith}
use Rattle.fixed_order.specs.Selection.{marked}
use Rattle.fixed_order.specs.Turn.{AsksBefore, AsksOnly, AsksOnlyBy, ComesBefore, IsOneBy}
use Rattle.fixed_order.specs.Waiting.{AscendWith, IsKnownIn, IsMarkedAnew, IsWaitingIn}
use Rattle.fixed_order.specs.declared.askers.Askers.{Askers}
use Rattle.fixed_order.specs.declared.waiting.Waiting.{Waiting}
use Rattle.fixed_order.proofs.TurnLemmas.{matched_only}
use mathlib.Core.Logic.{inl, inr}

-- just these names ascend with each of them
pub ascend_with : (others names : List (List ℕ)) → AreAllWith (Contains others) names → AscendWith others names
ascend_with others names are = record {
  ascending = are.ascending;
  all = λ name within. (are.each name).1 within;
}

module _ (group : List (List ℕ)) (db : List Record)
    (present : (old : Record) → Contains db old → is_among group old ≡ true → IsPresent old) where
  abbrev behind : List Record
  behind = changed (is_among group) configured db

  -- what is installed stays so
  installed_kept : (pkg : Pkg) → Contains (installed_of db) pkg → Contains (installed_of behind) pkg
  installed_kept pkg within =
      let from = Contains-map pkg_of (filter (λ (r : Record). is_installed_state r.state) db) pkg within in
      let kept = Contains-filter (λ (r : Record). is_installed_state r.state) db from.0 from.1 in
      subst (Contains (installed_of behind)) from.2 (at from.0 kept.0 kept.1 (is_among group from.0) refl)
    where
      at : (entry : Record) → Contains db entry → IsInstalled entry → (b : Bool) → is_among group entry ≡ b
          → Contains (installed_of behind) (pkg_of entry)
      at entry there is true among = installed_contains behind (configured entry)
          (changed_has (is_among group) configured db entry there among) refl
      at entry there is false apart = installed_contains behind entry
          (changed_keeps (is_among group) configured db entry there apart) is

  -- Pre-Depends that are installed stay so
  pre_depends_kept : (names : List (List ℕ)) → ArePreDependsInstalled db names → ArePreDependsInstalled behind names
  unfolding ArePreDependsInstalled
  pre_depends_kept names all =
      let Q : Record → Type 0 = λ member. Contains names member.name → MeetsClauses (installed_of behind) member.relations.pre_depends in
      let still : All Q db = All-weaker (λ member. Contains names member.name → MeetsClauses (installed_of db) member.relations.pre_depends) Q
      (λ member was named. MeetsClauses-more (installed_of db) (installed_of behind) installed_kept member.relations.pre_depends (was named))
      db all in
      All-behind Q (is_among group) configured db (λ old there among. All-contains Q db old still there) still

  module _ (P : List ℕ → Type 0) where
    -- what is of such a name is so still
    one_kept : (atom : Atom) → All (IsOneBy P atom) db → All (IsOneBy P atom) behind
    one_kept atom all = All-intro (IsOneBy P atom) behind (λ entry within.
        elim (changed_each (is_among group) configured db entry within) [
          | inl made ↦ subst (IsOneBy P atom) made.3
              (λ is matches. All-contains (IsOneBy P atom) db made.0 all made.1 (present made.0 made.1 made.2) matches)
          | inr left ↦ All-contains (IsOneBy P atom) db entry all left.0
        ])

    clause_kept : (clause : List Atom) → AsksOnlyBy P db clause → AsksOnlyBy P behind clause
    unfolding AsksOnlyBy
    clause_kept clause (inl met) = inl (MeetsClause-more (installed_of db) (installed_of behind) installed_kept clause met)
    clause_kept clause (inr only) = inr (All-weaker (λ atom. All (IsOneBy P atom) db)
        (λ atom. All (IsOneBy P atom) behind) one_kept clause only)

    -- what asks for such names alone does so still
    asks_kept : (name : List ℕ) → AsksOnly P db name → AsksOnly P behind name
    unfolding AsksOnly
    asks_kept name asks = All-intro (λ member. member.name ≡ name → All (AsksOnlyBy P behind) member.relations.depends) behind
        (λ entry within. elim (changed_each (is_among group) configured db entry within) [
          | inl made ↦ subst (λ (m : Record). m.name ≡ name → All (AsksOnlyBy P behind) m.relations.depends) made.3
              (λ same. more made.0.relations.depends
              (All-contains (λ m. m.name ≡ name → All (AsksOnlyBy P db) m.relations.depends) db made.0 asks made.1 same))
          | inr left ↦ λ same. more entry.relations.depends
              (All-contains (λ m. m.name ≡ name → All (AsksOnlyBy P db) m.relations.depends) db entry asks left.0 same)
        ])
      where
        more : (clauses : List (List Atom)) → All (AsksOnlyBy P db) clauses → All (AsksOnlyBy P behind) clauses
        more clauses all = All-weaker (AsksOnlyBy P db) (AsksOnlyBy P behind) clause_kept clauses all

    module _ (apart : (asked : List ℕ) → Contains group asked → ¬ P asked) (name : List ℕ) where
      -- a record that is configured isn't to be configured
      settled : (old entry : Record) → configured old ≡ entry → ¬ IsConfigurable entry
      settled old entry is may = absurd (let e : false ≡ true = (subst IsConfigurable (sym is) may).0 in cc)

      -- what may be configured behind the change isn't of the group, and might be before it
      outside : HasConfigurable behind name → ¬ Contains group name
      unfolding HasConfigurable
      outside some within = Any-elim (λ entry. (entry.name ≡ name) × IsConfigurable entry) behind ⊥ (λ entry there is.
          elim (changed_each (is_among group) configured db entry there) [
            | inl made ↦ settled made.0 entry made.3 is.1
            | inr left ↦ true≢false (sym (is_among-contains group entry (subst (Contains group) (sym is.0) within)) ∙ left.1)
          ]) some

      configurable_before : HasConfigurable behind name → HasConfigurable db name
      unfolding HasConfigurable
      configurable_before some = Any-elim (λ entry. (entry.name ≡ name) × IsConfigurable entry) behind
          (Any (λ entry. (entry.name ≡ name) × IsConfigurable entry) db) (λ entry there is.
          elim (changed_each (is_among group) configured db entry there) [
            | inl made ↦ absurd (settled made.0 entry made.3 is.1)
            | inr left ↦ Any-intro (λ (r : Record). (r.name ≡ name) × IsConfigurable r) db entry left.0 is
          ]) some

      named : (entry : Record) → Contains (name ∷ []) entry.name → entry.name ≡ name
      named entry within = elim (Contains-cons name [] entry.name within) [
        | inl same ↦ sym same
        | inr none ↦ absurd (Contains-nil entry.name none)
      ]

      -- a package that is installed behind the change and matches the clause was so before
      installed_before : (clause : List Atom) (pkg : Pkg) → Contains (installed_of behind) pkg → MatchesSome pkg clause
          → All (λ atom. All (IsOneBy P atom) db) clause → Contains (installed_of db) pkg
      installed_before clause pkg within matches only =
          let from = Contains-map pkg_of (filter (λ (r : Record). is_installed_state r.state) behind) pkg within in
          let kept = Contains-filter (λ (r : Record). is_installed_state r.state) behind from.0 from.1 in
          elim (changed_each (is_among group) configured db from.0 kept.0) [
            | inl made ↦ absurd (apart made.0.name (contains-is_among group made.0 made.2)
                (matched_only P db clause made.0 made.1 (present made.0 made.1 made.2)
                (subst (λ (p : Pkg). MatchesSome p clause) (sym (ap pkg_of made.3 ∙ from.2)) matches) only))
            | inr left ↦ subst (Contains (installed_of db)) from.2 (installed_contains db from.0 left.0 kept.1)
          ]

      -- and so was the name's own package
      own_before : ¬ Contains group name → (pkg : Pkg) → Contains (members_of (name ∷ []) behind) pkg
          → Contains (members_of (name ∷ []) db) pkg
      own_before out pkg within =
          let from = Contains-map pkg_of (filter (is_present_among (name ∷ [])) behind) pkg within in
          let kept = Contains-filter (is_present_among (name ∷ [])) behind from.0 from.1 in
          let both = both_true (is_present_state from.0.state) (is_among (name ∷ []) from.0) kept.1 in
          let same = named from.0 (contains-is_among (name ∷ []) from.0 both.1) in
          elim (changed_each (is_among group) configured db from.0 kept.0) [
            | inl made ↦ absurd (out (subst (Contains group) (ap (λ (r : Record). r.name) made.3 ∙ same) (contains-is_among group made.0 made.2)))
            | inr left ↦ subst (Contains (members_of (name ∷ []) db)) from.2 (Contains-map_intro pkg_of
                (filter (is_present_among (name ∷ [])) db) from.0 (Contains-filter_intro (is_present_among (name ∷ [])) db from.0 left.0 kept.1))
          ]

      clause_before : ¬ Contains group name → (clause : List Atom) → AsksOnlyBy P db clause
          → MeetsClause (installed_of behind ++ members_of (name ∷ []) behind) clause
          → MeetsClause (installed_of db ++ members_of (name ∷ []) db) clause
      unfolding MeetsClause AsksOnlyBy
      clause_before out clause (inl met) whole =
          Any-append_left (λ member. MatchesSome member clause) (installed_of db) (members_of (name ∷ []) db) met
      clause_before out clause (inr only) whole = Any-elim (λ member. MatchesSome member clause)
          (installed_of behind ++ members_of (name ∷ []) behind)
          (Any (λ member. MatchesSome member clause) (installed_of db ++ members_of (name ∷ []) db))
          (λ pkg inside matches. Any-intro (λ member. MatchesSome member clause) (installed_of db ++ members_of (name ∷ []) db) pkg
          (elim (Contains-append_cases (installed_of behind) (members_of (name ∷ []) behind) pkg inside) [
            | inl installed ↦ Contains-append_left (installed_of db) (members_of (name ∷ []) db) pkg (installed_before clause pkg installed matches only)
            | inr own ↦ Contains-append_right (installed_of db) (members_of (name ∷ []) db) pkg (own_before out pkg own)
          ]) matches) whole

      clauses_before : ¬ Contains group name → (clauses : List (List Atom)) → All (AsksOnlyBy P db) clauses
          → MeetsClauses (installed_of behind ++ members_of (name ∷ []) behind) clauses
          → MeetsClauses (installed_of db ++ members_of (name ∷ []) db) clauses
      unfolding MeetsClauses
      clauses_before out clauses asks whole = All-intro (MeetsClause (installed_of db ++ members_of (name ∷ []) db)) clauses (λ clause inside.
          clause_before out clause (All-contains (AsksOnlyBy P db) clauses clause asks inside)
          (All-contains (MeetsClause (installed_of behind ++ members_of (name ∷ []) behind)) clauses clause whole inside))

      not_among : ¬ Contains group name → (member : Record) → member.name ≡ name → is_among group member ≡ false
      not_among out member same = elim (cases_Bool (is_among group member)) [
        | inl among ↦ absurd (out (subst (Contains group) same (contains-is_among group member among)))
        | inr is ↦ is
      ]

      depends_before : ¬ Contains group name → AsksOnly P db name → AreDependsInstalled behind (name ∷ []) → AreDependsInstalled db (name ∷ [])
      unfolding AsksOnly AreDependsInstalled
      depends_before out asks whole = All-intro (λ member. Contains (name ∷ []) member.name
          → MeetsClauses (installed_of db ++ members_of (name ∷ []) db) member.relations.depends) db
          (λ member there within. clauses_before out member.relations.depends
          (All-contains (λ m. m.name ≡ name → All (AsksOnlyBy P db) m.relations.depends) db member asks there (named member within))
          (All-contains (λ m. Contains (name ∷ []) m.name → MeetsClauses (installed_of behind ++ members_of (name ∷ []) behind) m.relations.depends)
          behind member whole (changed_keeps (is_among group) configured db member there (not_among out member (named member within))) within))

      -- what asks for no name of the group and has what it asks for had it before
      had_before : AsksOnly P db name → ArePreDependsInstalled db (name ∷ []) → HasWhatItAsks behind name → HasWhatItAsks db name
      unfolding AreConfigurable
      had_before asks pre has =
          let may : HasConfigurable behind name = All-contains (HasConfigurable behind) (name ∷ []) name has.0 (Contains-head name []) in (
            All-cons (HasConfigurable db) name [] (configurable_before may) (All-intro (HasConfigurable db) [] (λ n none. absurd (Contains-nil n none))),
            depends_before (outside may) asks has.1,
            pre,
          )

-- the place is among the places, or it isn't
place_or_not : (places : List ℕ) (place : ℕ) → Contains places place ⊎ ¬ Contains places place
place_or_not places place = elim (cases_Bool (list_any (λ p. p == place) places)) [
  | inl some ↦ inl (Any-elim (λ p. (p == place) ≡ true) places (Contains places place)
      (λ p within same. subst (Contains places) (eqb-true p place same) within) (Any-from_list_any (λ p. p == place) places some))
  | inr none ↦ inr (λ within. true≢false (sym (list_any-from_contains (λ p. p == place) places place within (eq-eqb place place refl)) ∙ none))
]

-- the name at a place is one of the names
name_there : (names : List (List ℕ)) (place : ℕ) (name : List ℕ) → slice_get names place ≡ Some name → Contains names name
name_there names place name is = (place, slice_get_within names place name is, get_or_from_slice_get names place name name is)

-- Pre-Depends of names are those of each of them
pre_depends_of : (db : List Record) (names : List (List ℕ)) (name : List ℕ) → Contains names name → ArePreDependsInstalled db names
    → ArePreDependsInstalled db (name ∷ [])
unfolding ArePreDependsInstalled
pre_depends_of db names name within all =
    let Q : Record → Type 0 = λ member. MeetsClauses (installed_of db) member.relations.pre_depends in
    of_alone Q name db (ForMembers-each Q names db all name within)

-- what is known of what waits is so behind the change, where the names that ask for one of the group are marked anew
known_left : (group : List (List ℕ)) (db : List Record) (waiting left : Waiting) (places : List ℕ)
    → ((old : Record) → Contains db old → is_among group old ≡ true → IsPresent old) → IsKnownIn db waiting
    → IsMarkedAnew (changed (is_among group) configured db) places waiting left
    → All (λ name. All (Contains places) (asking_in waiting.askers name)) group → IsKnownIn (changed (is_among group) configured db) left
unfolding IsAsking
known_left group db waiting left places present known looked all = record {
  pre_depends = subst (ArePreDependsInstalled (changed (is_among group) configured db)) (sym looked.names)
      (pre_depends_kept group db present waiting.names.items known.pre_depends);
  askers = λ place name is. subst (λ (askers : Askers). AsksOnly (IsAsking askers place) (changed (is_among group) configured db) name) (sym looked.askers)
      (asks_kept group db present (IsAsking waiting.askers place) name (known.askers place name (was place name is)));
  marked = λ place name is has. looked.anew place name (was place name is) has (elim (place_or_not places place) [
    | inl again ↦ inr again
    | inr not ↦ inl (known.marked place name (was place name is) (had_before group db present (IsAsking waiting.askers place)
        (λ asked within asks. not (All-contains (Contains places) (asking_in waiting.askers asked) place
        (All-contains (λ n. All (Contains places) (asking_in waiting.askers n)) group asked all within) asks)) name
        (known.askers place name (was place name is))
        (pre_depends_of db waiting.names.items name (name_there waiting.names.items place name (was place name is)) known.pre_depends) has))
  ]);
}
  where
    was : (place : ℕ) (name : List ℕ) → slice_get left.names.items place ≡ Some name → slice_get waiting.names.items place ≡ Some name
    was place name is = subst (λ (names : List (List ℕ)). slice_get names place ≡ Some name) looked.names is

-- a name that passes alone is marked, where that is known
pub marked_at : (db : List Record) (waiting : Waiting) (names : List (List ℕ)) (place : ℕ) (name : List ℕ) → IsWaitingIn db waiting
    → names ≡ waiting.names.items → place < length names → name ≡ get_or names place name → waiting.is_known ≡ true
    → PassesAlone db name → marked waiting.marks.items place ≡ true
unfolding PassesAlone
marked_at db waiting names place name was same within is so passes = (was.known so).marked place name
    (subst (λ (ns : List (List ℕ)). slice_get ns place ≡ Some name) same (slice_get_read names (length names) place name refl within is))
    (passes.0, passes.1, passes.2)

-- behind a configure that is allowed what waited waits still, where the names that ask for one of its group are marked anew
pub waiting_left : (u : Universe) (start : List Record) (members : List Pkg) (db : List Record) (group : List (List ℕ))
    (waiting left : Waiting) (places : List ℕ) → IsUnderway u start members db → Allowed u db (Configure group) → IsWaitingIn db waiting
    → IsMarkedAnew (after u db (Configure group)) places waiting left
    → All (λ name. All (Contains places) (asking_in waiting.askers name)) group → IsWaitingIn (after u db (Configure group)) left
waiting_left u start members db group waiting left places underway allowed was looked all = record {
  names = subst (AscendWith (unconfigured_of (after u db (Configure group)))) (sym looked.names) (record {
    ascending = was.names.ascending;
    all = λ name within. was.names.all name (waited name within);
  });
  rings = record {
    rank = was.rings.rank;
    asks = All-intro (AsksBefore was.rings.rank (after u db (Configure group))) left.names.items (λ name within.
        asks_kept group db present (λ asked. ComesBefore was.rings.rank asked name) name
        (All-contains (AsksBefore was.rings.rank db) waiting.names.items name was.rings.asks (named_before name within)));
    ringed = λ name within ring. subst (λ (names : List (List ℕ)). Contains names name) (sym looked.rings)
        (was.rings.ringed name (named_before name within) ring);
  };
  long = looked.long;
  known = λ so. known_left group db waiting left places present (was.known (sym looked.known ∙ so)) looked all;
}
  where
    waited : (name : List ℕ) → Contains (unconfigured_of (after u db (Configure group))) name → Contains (unconfigured_of db) name
    waited name within = (((configure_leaves u db group underway.distinct allowed).0 name).0 within).0

    named_before : (name : List ℕ) → Contains left.names.items name → Contains waiting.names.items name
    named_before name within = subst (λ (names : List (List ℕ)). Contains names name) looked.names within

    may : (old : Record) → Contains db old → is_among group old ≡ true → IsConfigurable old
    may old there among = the_record IsConfigurable db underway.distinct old there
        (group_record u db group allowed old.name (contains-is_among group old among))

    present : (old : Record) → Contains db old → is_among group old ≡ true → IsPresent old
    present old there among = unconfigured_present old.state (may old there among).0
