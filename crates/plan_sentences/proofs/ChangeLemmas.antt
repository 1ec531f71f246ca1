-- The changes of the names that have a record at the start or at the end are all changes.
use Rattle.std.proofs.Common.{◌≡◌, ◌++◌, ℕ, Bool, true, false, List, [], ◌∷◌, map, Option, Some, None, refl, sym, subst, arith, if◌then◌else◌}
use Rattle.std.specs.Prelude.{is_some}
use Rattle.std.specs.List.{All, AllPairs, Contains}
use Rattle.std.specs.declared.cmp.Ordering.TheVariants.{Less}
use Rattle.std.proofs.lemmas.List.Elements.{All-contains, Contains-append_cases, Contains-append_left, Contains-append_right}
use Rattle.std.proofs.lemmas.List.Kept.{AllPairs-cons}
use Rattle.rules.specs.Database.{Record}
use Rattle.rules.specs.ElementLaws.{All-intro, Contains-cons, Contains-head, Contains-map_intro, Contains-nil, Contains-rest}
use Rattle.rules.specs.Name.{IsAscending, name_cmp}
use Rattle.rules.specs.NamedLaws.{bytes_eq-true}
use Rattle.rules.specs.Step.{is_named}
use Rattle.rules.proofs.Rising.{pairs_head, pairs_tail}
use Rattle.universe_parts.specs.FindLaws.{find-some}
use Rattle.plan_sentences.specs.Changes.{AreChanges, AreNames, Change, IsChange, change_of, changes_among, changes_of_name, has_config_files, kind_between, kind_of, record_in, version_in}
use mathlib.Core.Logic.{inl, inr}

module _ (start finish : List Record) where
  -- a change of a name is of this name
  change_at : (name : List ℕ) (change : Change) → Contains (changes_of_name start finish name) change
      → (name ≡ change.name) × IsChange start finish change
  change_at name change within = at (is_some (kind_of (change_of start finish name))) refl within
    where
      at : (b : Bool) → is_some (kind_of (change_of start finish name)) ≡ b
          → Contains (if b then change_of start finish name ∷ [] else []) change → (name ≡ change.name) × IsChange start finish change
      at false none there = absurd (Contains-nil change there)
      at true some there = elim (Contains-cons (change_of start finish name) [] change there) [
        | inl same ↦ subst (λ (c : Change). (name ≡ c.name) × IsChange start finish c) same (refl, (refl, some))
        | inr later ↦ absurd (Contains-nil change later)
      ]

  -- a change of one of the names
  change_among : (names : List (List ℕ)) (change : Change) → Contains (changes_among start finish names) change
      → Contains names change.name × IsChange start finish change
  change_among [] change within = absurd (Contains-nil change within)
  change_among (name ∷ names) change within =
      elim (Contains-append_cases (changes_of_name start finish name) (changes_among start finish names) change within) [
        | inl here ↦ let it = change_at name change here in (subst (Contains (name ∷ names)) it.0 (Contains-head name names), it.1)
        | inr later ↦ let it = change_among names change later in (Contains-rest name names change.name it.0, it.1)
      ]

  -- what has changed of a name is its change
  own_change : (name : List ℕ) → is_some (kind_of (change_of start finish name)) ≡ true
      → Contains (changes_of_name start finish name) (change_of start finish name)
  own_change name some = subst (λ (b : Bool). Contains (if b then change_of start finish name ∷ [] else []) (change_of start finish name))
      (sym some) (Contains-head (change_of start finish name) [])

  change_here : (name : List ℕ) (change : Change) → name ≡ change.name → IsChange start finish change
      → Contains (changes_of_name start finish name) change
  change_here name change same is =
      subst (λ (n : List ℕ). Contains (changes_of_name start finish n) change) (sym same)
      (subst (Contains (changes_of_name start finish change.name)) (sym is.0)
      (own_change change.name (subst (λ (c : Change). is_some (kind_of c) ≡ true) is.0 is.1)))

  among_changes : (names : List (List ℕ)) (change : Change) → Contains names change.name → IsChange start finish change
      → Contains (changes_among start finish names) change
  among_changes [] change within is = absurd (Contains-nil change.name within)
  among_changes (name ∷ names) change within is = elim (Contains-cons name names change.name within) [
    | inl same ↦ Contains-append_left (changes_of_name start finish name) (changes_among start finish names) change
        (change_here name change same is)
    | inr later ↦ Contains-append_right (changes_of_name start finish name) (changes_among start finish names) change
        (among_changes names change later is)
  ]

  -- the record of a name has the name
  name_of_record : (db : List Record) (name : List ℕ) (entry : Record) → record_in db name ≡ Some entry
      → Contains (map (λ (r : Record). r.name) db) name
  name_of_record db name entry is =
      let there = find-some (is_named name) db entry is in
      subst (Contains (map (λ (r : Record). r.name) db)) (bytes_eq-true entry.name name there.1)
      (Contains-map_intro (λ (r : Record). r.name) db entry there.0)

  -- a name of which something has changed has a record at the start or at the end
  has_record : (name : List ℕ) → is_some (kind_of (change_of start finish name)) ≡ true
      → Contains (map (λ (r : Record). r.name) start ++ map (λ (r : Record). r.name) finish) name
  has_record name some = at (record_in start name) (record_in finish name) refl refl some
    where
      at : (old new : Option Record) → record_in start name ≡ old → record_in finish name ≡ new
          → is_some (kind_between (version_in old) (version_in new) (has_config_files old) (has_config_files new)) ≡ true
          → Contains (map (λ (r : Record). r.name) start ++ map (λ (r : Record). r.name) finish) name
      at (Some entry) new was is holds =
          Contains-append_left (map (λ (r : Record). r.name) start) (map (λ (r : Record). r.name) finish) name
          (name_of_record start name entry was)
      at None (Some entry) was is holds =
          Contains-append_right (map (λ (r : Record). r.name) start) (map (λ (r : Record). r.name) finish) name
          (name_of_record finish name entry is)
      at None None was is holds = absurd (let e : false ≡ true = holds in cc)

  -- the changes of names in their order are in their order
  rising : (names : List (List ℕ)) → IsAscending names
      → AllPairs (λ (earlier : Change) (later : Change). name_cmp earlier.name later.name ≡ Less) (changes_among start finish names)
  rising [] up = λ i j d before within. absurd (omega arith)
  rising (name ∷ names) up = at (rising names (pairs_tail (λ (a : List ℕ) (b : List ℕ). name_cmp a b ≡ Less) name names up))
      (is_some (kind_of (change_of start finish name)))
    where
      Before : Change → Change → Type 0
      Before earlier later = name_cmp earlier.name later.name ≡ Less

      first : All (Before (change_of start finish name)) (changes_among start finish names)
      first = All-intro (Before (change_of start finish name)) (changes_among start finish names) (λ change within.
          All-contains (λ (b : List ℕ). name_cmp name b ≡ Less) names change.name
          (pairs_head (λ (a : List ℕ) (b : List ℕ). name_cmp a b ≡ Less) name names up) (change_among names change within).0)

      at : AllPairs Before (changes_among start finish names)
          → (b : Bool) → AllPairs Before ((if b then change_of start finish name ∷ [] else []) ++ changes_among start finish names)
      at later true = AllPairs-cons Before (change_of start finish name) (changes_among start finish names) first later
      at later false = later

  pub are_changes : (names : List (List ℕ)) → AreNames start finish names → AreChanges start finish (changes_among start finish names)
  are_changes names are = record {
    ascending = rising names are.ascending;
    each = λ change. (
      (λ within. (change_among names change within).1),
      (λ is. among_changes names change ((are.each change.name).1
          (has_record change.name (subst (λ (c : Change). is_some (kind_of c) ≡ true) is.0 is.1))) is),
    );
  }
