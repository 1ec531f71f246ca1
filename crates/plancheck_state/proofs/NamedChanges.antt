-- The record of a name is the only one of it, so that what is changed or purged by name is changed or purged at its place.
use Rattle.std.proofs.Common.{◌≡◌, ◌≢◌, ℕ, zero, suc, ◌+◌, ◌<◌, Bool, true, false, true≢false, cond, not, ◌||◌, inl, inr, List, [], ◌∷◌, length, get_or, take, Some, Result, Ok, Err, OnOk, Contains, slice_get, slice_set, refl, sym, ap, subst, ◌∙◌, arith}
use Rattle.std.specs.List.{All, filter, list_any, remove}
use Rattle.std.proofs.Math.ListN.{length-map, length-set}
use Rattle.std.proofs.lemmas.Bool.{cases_order}
use Rattle.std.proofs.lemmas.Grind.{get_or-set_at}
use Rattle.std.proofs.lemmas.List.{get_or-map, get_or-set_other, take_more}
use Rattle.std.proofs.lemmas.List.Elements.{All-contains}
use Rattle.std.proofs.lemmas.List.Folds.{list_any-append}
use Rattle.std.proofs.lemmas.Option.{get_or_from_slice_get, slice_get_within}
use Rattle.rules.specs.Database.{Record, HasDistinctNames, IsPresent}
use Rattle.rules.specs.ElementLaws.{All-intro, Contains-map, list_any-from_contains}
use Rattle.rules.specs.NamedLaws.{bytes_eq-true}
use Rattle.rules.specs.Step.{IndexPackage, after_unpack, changed, configured, is_among, is_named, unpacked_over}
use Rattle.plancheck_state.specs.Holders.{IsPlaceOf}
use Rattle.plancheck_state.proofs.Changed.{changed_by_place}
use Rattle.plancheck_state.proofs.ListedLemmas.{at-place, place-at}

-- a record with the change, if it is of the name
abbrev step : List ℕ → (Record → Record) → Record → Record
step name change entry = cond (is_named name entry) (change entry) entry

step-named : (name : List ℕ) (change : Record → Record) (entry : Record) → is_named name entry ≡ true → step name change entry ≡ change entry
step-named name change entry named = rw named refl

step-other : (name : List ℕ) (change : Record → Record) (entry : Record) → is_named name entry ≡ false → step name change entry ≡ entry
step-other name change entry other = rw other refl

-- records at two places have two names
apart : (db : List Record) (k place : ℕ) (d : Record) → HasDistinctNames db → k ≢ place → k < length db → place < length db
    → (get_or db k d).name ≢ (get_or db place d).name
unfolding HasDistinctNames
apart db k place d distinct other k_within within same = elim (cases_order k place) [
  | inl equal ↦ other equal
  | inr (inl before) ↦ distinct k place d before within same
  | inr (inr behind) ↦ distinct place k d behind k_within (sym same)
]

-- and a record at another place isn't of the name
pub unnamed : (name : List ℕ) (db : List Record) (place k : ℕ) (d : Record) → HasDistinctNames db → IsPlaceOf name db place → k ≢ place
    → k < length db → is_named name (get_or db k d) ≡ false
unnamed name db place k d distinct is other within = by (is_named name (get_or db k d)) refl
  where
    at : (entry : Record) × (slice_get db place ≡ Some entry) × (is_named name entry ≡ true)
    at = place-at name db place is

    by : (b : Bool) → is_named name (get_or db k d) ≡ b → b ≡ false
    by false e = refl
    by true e = absurd (apart db k place d distinct other within (slice_get_within db place at.0 at.1)
        (bytes_eq-true (get_or db k d).name name e ∙ sym (bytes_eq-true at.0.name name at.2)
        ∙ ap (λ (r : Record). r.name) (sym (get_or_from_slice_get db place at.0 d at.1))))

-- what is changed by name is changed at its place
pub changed-at : (name : List ℕ) (change : Record → Record) (db : List Record) (place : ℕ) (old new : Record) → HasDistinctNames db
    → IsPlaceOf name db place → old ≡ get_or db place old → new ≡ change old → slice_set db place new ≡ changed (is_named name) change db
changed-at name change db place old new distinct is old_is new_is =
    changed_by_place (is_named name) change db (slice_set db place new) (length-set db place new) each
  where
    at : (entry : Record) × (slice_get db place ≡ Some entry) × (is_named name entry ≡ true)
    at = place-at name db place is

    there : (d : Record) → get_or db place d ≡ at.0
    there d = get_or_from_slice_get db place at.0 d at.1

    each : (k : ℕ) (d : Record) → k < length db → get_or (slice_set db place new) k d ≡ step name change (get_or db k d)
    each k d within = elim (cases_order k place) [
      | inl same ↦ get_or-set_at db place k new d same (slice_get_within db place at.0 at.1) ∙ new_is ∙ ap change (old_is ∙ there old)
          ∙ sym (step-named name change at.0 at.2) ∙ sym (ap (step name change) (ap (λ i. get_or db i d) same ∙ there d))
      | inr (inl before) ↦ elsewhere k d within (omega (arith, before))
      | inr (inr behind) ↦ elsewhere k d within (omega (arith, behind))
    ]
      where
        elsewhere : (k : ℕ) (d : Record) → k < length db → k ≢ place → get_or (slice_set db place new) k d ≡ step name change (get_or db k d)
        elsewhere k d within other = get_or-set_other db place k new d other
            ∙ sym (step-other name change (get_or db k d) (unnamed name db place k d distinct is other within))

neither : (a b : Bool) → (a || b) ≡ false → (a ≡ false) × (b ≡ false)
neither true b fails = absurd (true≢false fails)
neither false b fails = (refl, fails)

-- where no record is of the name, nothing is changed or purged
pub changed-nowhere : (name : List ℕ) (change : Record → Record) (db : List Record) → list_any (is_named name) db ≡ false
    → db ≡ changed (is_named name) change db
changed-nowhere name change [] none = refl
changed-nowhere name change (first ∷ db) none = let parts = neither (is_named name first) (list_any (is_named name) db) none in
    ap (λ rest. first ∷ rest) (changed-nowhere name change db parts.1)
    ∙ ap (λ entry. entry ∷ changed (is_named name) change db) (sym (step-other name change first parts.0))

pub kept-nowhere : (name : List ℕ) (db : List Record) → list_any (is_named name) db ≡ false
    → db ≡ filter (λ entry. not (is_named name entry)) db
kept-nowhere name [] none = refl
kept-nowhere name (first ∷ db) none = let parts = neither (is_named name first) (list_any (is_named name) db) none in
    rw parts.0 (ap (λ rest. first ∷ rest) (kept-nowhere name db parts.1))

-- what is purged by name is taken out at its place
pub purged-at : (name : List ℕ) (db : List Record) (place : ℕ) → HasDistinctNames db → IsPlaceOf name db place
    → remove db place ≡ filter (λ entry. not (is_named name entry)) db
purged-at name db place distinct is = let at = place-at name db place is in
    taken db place at.0 at.1 at.2 (λ k d within other. unnamed name db place k d distinct is other within)
  where
    none : (db : List Record) → ((k : ℕ) (d : Record) → k < length db → is_named name (get_or db k d) ≡ false)
        → db ≡ filter (λ entry. not (is_named name entry)) db
    none [] each = refl
    none (first ∷ db) each = rw (each 0 first (omega arith))
        (ap (λ rest. first ∷ rest) (none db (λ k d within. each (suc k) d (omega (arith, within)))))

    taken : (db : List Record) (place : ℕ) (entry : Record) → slice_get db place ≡ Some entry → is_named name entry ≡ true
        → ((k : ℕ) (d : Record) → k < length db → k ≢ place → is_named name (get_or db k d) ≡ false)
        → remove db place ≡ filter (λ entry. not (is_named name entry)) db
    taken [] place entry there named each = absurd (let h = there in cc)
    taken (first ∷ db) zero entry there named each = let same : first ≡ entry = let h = there in cc in
        rw (ap (is_named name) same ∙ named) (none db (λ k d within. each (suc k) d (omega (arith, within)) (omega arith)))
    taken (first ∷ db) (suc place) entry there named each =
        rw (each 0 first (omega arith) (omega arith)) (ap (λ rest. first ∷ rest) (taken db place entry there named
        (λ k d within other. each (suc k) d (omega (arith, within)) (omega (arith, other)))))

-- a change that keeps names keeps them distinct
pub distinct-changed : (test : Record → Bool) (change : Record → Record) (db : List Record) → ((entry : Record) → (change entry).name ≡ entry.name)
    → HasDistinctNames db → HasDistinctNames (changed test change db)
unfolding HasDistinctNames
distinct-changed test change db kept distinct i j d before within same =
    distinct i j d before inside (sym (named i (omega (arith, before, inside))) ∙ same ∙ named j inside)
  where
    inside : j < length db
    inside = subst (λ n. j < n) (length-map db (λ entry. cond (test entry) (change entry) entry)) within

    name-kept : (b : Bool) (entry : Record) → (cond b (change entry) entry).name ≡ entry.name
    name-kept true entry = kept entry
    name-kept false entry = refl

    named : (k : ℕ) → k < length db → (get_or (changed test change db) k d).name ≡ (get_or db k d).name
    named k k_within = ap (λ (r : Record). r.name) (get_or-map (λ entry. cond (test entry) (change entry) entry) db k d d k_within)
        ∙ name-kept (test (get_or db k d)) (get_or db k d)

-- a record that was configured is configured once more in vain
twice : (name : List ℕ) (among : Bool) (entry : Record)
    → step name configured (cond among (configured entry) entry) ≡ cond (among || is_named name entry) (configured entry) entry
twice name true entry = by (is_named name entry)
  where
    by : (b : Bool) → cond b (configured (configured entry)) (configured entry) ≡ configured entry
    by true = refl
    by false = refl
twice name false entry = refl

-- the package of the next name is configured
pub configured-next : (names : List (List ℕ)) (index : ℕ) (name : List ℕ) (db : List Record) → index < length names → name ≡ get_or names index name
    → changed (is_named name) configured (changed (is_among (take index names)) configured db) ≡ changed (is_among (take (index + 1) names)) configured db
configured-next names index name db within is = each db
  where
    or_false : (b : Bool) → (b || false) ≡ b
    or_false true = refl
    or_false false = refl

    among : (entry : Record) → is_among (take (index + 1) names) entry ≡ (is_among (take index names) entry || is_named name entry)
    among entry = ap (λ some. is_among some entry) (take_more names index name within)
        ∙ list_any-append (λ n. is_named n entry) (take index names) (get_or names index name ∷ [])
        ∙ ap (λ b. is_among (take index names) entry || b) (or_false (is_named (get_or names index name) entry))
        ∙ ap (λ n. is_among (take index names) entry || is_named n entry) (sym is)

    each : (db : List Record) → changed (is_named name) configured (changed (is_among (take index names)) configured db)
        ≡ changed (is_among (take (index + 1) names)) configured db
    each [] = refl
    each (entry ∷ db) = ap (λ first. first ∷ changed (is_named name) configured (changed (is_among (take index names)) configured db))
        (twice name (is_among (take index names) entry) entry ∙ ap (λ b. cond b (configured entry) entry) (sym (among entry)))
        ∙ ap (λ rest. cond (is_among (take (index + 1) names) entry) (configured entry) entry ∷ rest) (each db)

-- with no names nothing is configured
pub configured-none : (db : List Record) → db ≡ changed (is_among []) configured db
configured-none [] = refl
configured-none (entry ∷ db) = ap (λ rest. entry ∷ rest) (configured-none db)

-- the record of the next name is present
pub present-next : (names : List (List ℕ)) (index : ℕ) (name : List ℕ) (db : List Record) → index < length names → name ≡ get_or names index name
    → All (λ entry. is_among names entry ≡ true → IsPresent entry) db
    → All (λ entry. is_named name entry ≡ true → IsPresent entry) (changed (is_among (take index names)) configured db)
present-next names index name db within is present = All-intro (λ entry. is_named name entry ≡ true → IsPresent entry)
    (changed (is_among (take index names)) configured db) (λ entry there named.
    let from = Contains-map step_of db entry there in
    subst IsPresent from.2 (by (is_among (take index names) from.0) from.0 from.1
    (sym (name-kept (is_among (take index names) from.0) from.0) ∙ ap (is_named name) from.2 ∙ named)))
  where
    step_of : Record → Record
    step_of entry = cond (is_among (take index names) entry) (configured entry) entry

    name-kept : (b : Bool) (entry : Record) → is_named name (cond b (configured entry) entry) ≡ is_named name entry
    name-kept true entry = refl
    name-kept false entry = refl

    by : (b : Bool) (entry : Record) → Contains db entry → is_named name entry ≡ true → IsPresent (cond b (configured entry) entry)
    by true entry there named = refl
    by false entry there named = All-contains (λ (r : Record). is_among names r ≡ true → IsPresent r) db entry present there
        (list_any-from_contains (λ n. is_named n entry) names name (index, within, sym is) named)

-- a record of a place is a record
pub place-there : (name : List ℕ) (db : List Record) (place : ℕ) → IsPlaceOf name db place → list_any (is_named name) db ≡ true
place-there name db place is = let at = place-at name db place is in
    list_any-from_contains (is_named name) db at.0 (at-place db place at.0 at.1) at.2

-- what is unpacked over the record of its name is what is unpacked
pub unpacked-there : {E : Type 0} (r : Result (Unit {0}) E) (listed : IndexPackage) (db new : List Record) (place : ℕ)
    → IsPlaceOf listed.pkg.name db place → OnOk r (new ≡ changed (is_named listed.pkg.name) (unpacked_over listed) db)
    → OnOk r (new ≡ after_unpack listed db)
unpacked-there (Ok done) listed db new place is ok = rw (place-there listed.pkg.name db place is) ok
unpacked-there (Err failed) listed db new place is ok = tt
