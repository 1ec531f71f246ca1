-- The holders of names at their listed places, where records are added, changed and purged.
use Rattle.std.proofs.Common.{◌≡◌, ◌≢◌, ◌==◌, not, ℕ, zero, suc, ◌+◌, ◌<◌, ◌≤◌, Bool, true, false, true≢false, cond, ◌||◌, ◌⊎◌, inl, inr, List, [], ◌∷◌, ◌++◌, map, length, get_or, take, Option, Some, None, MatchOption, Contains, slice_get, slice_set, refl, sym, ap, subst, ◌∙◌, bytes_eq, arith}
use Rattle.std.specs.List.{All, filter, list_any, remove}
use Rattle.std.specs.Option.{option_map, option_to_list}
use Rattle.std.proofs.lemmas.Bool.{ne_eqb}
use Rattle.std.proofs.lemmas.Bool.Decides.{nat_tests}
use Rattle.std.proofs.lemmas.List.{take_all, take_more}
use Rattle.std.proofs.lemmas.List.Elements.{All-contains, Contains-append_left, Contains-append_right}
use Rattle.std.proofs.lemmas.List.Folds.{list_any-append}
use Rattle.std.proofs.lemmas.Option.{slice_get_read, slice_get_within, get_or_from_slice_get, slice_get-map}
use Rattle.rules.specs.Database.{Record}
use Rattle.rules.specs.ElementLaws.{All-intro, Any-from_list_any, Contains-cons, Contains-filter_intro, Contains-head, Contains-map_intro, Contains-nil}
use Rattle.rules.specs.NamedLaws.{bytes_eq-true}
use Rattle.rules.specs.Package.{Provided}
use Rattle.rules.specs.Step.{changed, is_named, removed}
use Rattle.index.specs.Providers.{is_item_of}
use Rattle.plancheck_state.specs.Holders.{AreHolders, AreListed, IsEntered, IsPlaceOf, KeepsPlaces, is_holder, is_named_at, moved_down, places_left, records_at}

either : (a b : Bool) → (a || b) ≡ true → (a ≡ true) ⊎ (b ≡ true)
either true b passes = inl refl
either false b passes = inr passes

or_false : (b : Bool) → (b || false) ≡ b
or_false true = refl
or_false false = refl

-- a record is at a place, and one at a place is one
pub place-of : (db : List Record) (entry : Record) → Contains db entry → (place : ℕ) × (slice_get db place ≡ Some entry)
place-of db entry within = (within.0, slice_get_read db (length db) within.0 entry refl within.1 (sym within.2))

pub at-place : (db : List Record) (place : ℕ) (entry : Record) → slice_get db place ≡ Some entry → Contains db entry
at-place db place entry is = (place, slice_get_within db place entry is, get_or_from_slice_get db place entry entry is)

-- what is provided by the items up to the next is provided by those before or by that one
pub entered-next : (provides : List Provided) (item : Provided) (index place : ℕ) (old new : List ℕ → List ℕ) → KeepsPlaces old new
    → ((name : List ℕ) → list_any (is_item_of name) (take index provides) ≡ true → Contains (old name) place)
    → ((name : List ℕ) → is_item_of name item ≡ true → Contains (new name) place)
    → index < length provides → item ≡ get_or provides index item
    → (name : List ℕ) → list_any (is_item_of name) (take (index + 1) provides) ≡ true → Contains (new name) place
entered-next provides item index place old new kept before added within is name passes =
    elim (either (list_any (is_item_of name) (take index provides)) (is_item_of name item) parts) [
      | inl earlier ↦ kept name place (before name earlier)
      | inr here ↦ added name here
    ]
  where
    parts : (list_any (is_item_of name) (take index provides) || is_item_of name item) ≡ true
    parts = ap (λ b. list_any (is_item_of name) (take index provides) || b) (sym (or_false (is_item_of name item)))
        ∙ sym (list_any-append (is_item_of name) (take index provides) (item ∷ []))
        ∙ ap (λ last. list_any (is_item_of name) (take index provides ++ last ∷ [])) is
        ∙ ap (list_any (is_item_of name)) (sym (take_more provides index item within)) ∙ passes

-- where the place is entered for the name and for each item, it is entered for all
pub entered-all : (own : List ℕ) (provides : List Provided) (index place : ℕ) (places : List ℕ → List ℕ) → length provides ≤ index
    → Contains (places own) place
    → ((name : List ℕ) → list_any (is_item_of name) (take index provides) ≡ true → Contains (places name) place)
    → IsEntered own provides place places
entered-all own provides index place places past named items name passes =
    elim (either (bytes_eq own name) (list_any (is_item_of name) provides) passes) [
      | inl same ↦ subst (λ n. Contains (places n) place) (bytes_eq-true own name same) named
      | inr some ↦ items name (ap (list_any (is_item_of name)) (take_all index provides past) ∙ some)
    ]

-- the holders before a place are listed
abbrev pub ListedBelow : ℕ → (List ℕ → List ℕ) → List Record → Type 0
ListedBelow count places db = (name : List ℕ) (place : ℕ) (entry : Record) → place < count → slice_get db place ≡ Some entry
    → is_holder name entry ≡ true → Contains (places name) place

-- the next record's place is entered
pub listed-next : (db : List Record) (index : ℕ) (entry : Record) (old new : List ℕ → List ℕ) (own : List ℕ) (provides : List Provided)
    → KeepsPlaces old new → IsEntered own provides index new → own ≡ entry.name → provides ≡ entry.relations.provides
    → index < length db → entry ≡ get_or db index entry → ListedBelow index old db → ListedBelow (index + 1) new db
listed-next db index entry old new own provides kept entered named provided within is before name place other below there holds =
    elim (lt_or_eq place index (omega (arith, below))) [
      | inl earlier ↦ kept name place (before name place other earlier there holds)
      | inr same ↦ subst (λ at. Contains (new name) at) (sym same) (entered name
          (ap (λ n. bytes_eq n name || list_any (is_item_of name) provides) named
          ∙ ap (λ items. bytes_eq entry.name name || list_any (is_item_of name) items) provided
          ∙ ap (is_holder name) (sym (that same)) ∙ holds))
    ]
  where
    lt_or_eq : (a b : ℕ) → a < b + 1 → (a < b) ⊎ (a ≡ b)
    lt_or_eq zero zero h = inr refl
    lt_or_eq zero (suc b) h = inl (omega arith)
    lt_or_eq (suc a) zero h = absurd (omega (arith, h))
    lt_or_eq (suc a) (suc b) h = elim (lt_or_eq a b (omega (arith, h))) [ inl less ↦ inl (omega (arith, less)) | inr same ↦ inr (ap suc same) ]

    that : place ≡ index → other ≡ entry
    that same = let e : Some other ≡ Some entry = sym there ∙ ap (slice_get db) same ∙ slice_get_read db (length db) index entry refl within is in cc

pub listed-none : (places : List ℕ → List ℕ) (db : List Record) → ListedBelow 0 places db
listed-none places db name place entry below there holds = absurd (omega (arith, below))

pub listed-all : (count : ℕ) (places : List ℕ → List ℕ) (db : List Record) → length db ≤ count → ListedBelow count places db → AreListed places db
listed-all count places db past below name place entry there holds =
    below name place entry (let h = slice_get_within db place entry there in omega (arith, h, past)) there holds

-- the holders of a name are at its places
records-within : (db : List Record) (places : List ℕ) (entry : Record) → Contains (records_at db places) entry → Contains db entry
records-within db [] entry within = absurd (Contains-nil entry within)
records-within db (place ∷ places) entry within = by (slice_get db place) refl within (records-within db places entry)
  where
    by : (o : Option Record) → slice_get db place ≡ o → Contains (option_to_list o ++ records_at db places) entry
        → (Contains (records_at db places) entry → Contains db entry) → Contains db entry
    by None e rest later = later rest
    by (Some first) e both later = elim (Contains-cons first (records_at db places) entry both) [
      | inl same ↦ subst (Contains db) same (at-place db place first e)
      | inr rest ↦ later rest
    ]

records-has : (db : List Record) (places : List ℕ) (place : ℕ) (entry : Record) → Contains places place → slice_get db place ≡ Some entry
    → Contains (records_at db places) entry
records-has db [] place entry within is = absurd (Contains-nil place within)
records-has db (first ∷ places) place entry within is = elim (Contains-cons first places place within) [
  | inl same ↦ Contains-append_left (option_to_list (slice_get db first)) (records_at db places) entry
      (subst (λ o. Contains (option_to_list o) entry) (sym (ap (slice_get db) same ∙ is)) (Contains-head entry []))
  | inr rest ↦ Contains-append_right (option_to_list (slice_get db first)) (records_at db places) entry
      (records-has db places place entry rest is)
]

pub holders-at : (name : List ℕ) (db : List Record) (places : List ℕ → List ℕ) → AreListed places db
    → AreHolders name db (records_at db (places name))
holders-at name db places listed = record {
  within = All-intro (Contains db) (records_at db (places name)) (λ entry within. records-within db (places name) entry within);
  each = λ entry within holds. let at = place-of db entry within in
      records-has db (places name) at.0 entry (listed name at.0 entry at.1 holds) at.1;
}

-- a record of the name is at one of its places
named-holds : (name : List ℕ) (entry : Record) → is_named name entry ≡ true → is_holder name entry ≡ true
named-holds name entry named = rw named refl

-- what the test at a place tests
pub named-at : (name : List ℕ) (db : List Record) (place : ℕ) (entry : Record) → slice_get db place ≡ Some entry
    → is_named_at name db place ≡ is_named name entry
named-at name db place entry is = rw is refl

pub nowhere-named : (name : List ℕ) (db : List Record) (places : List ℕ → List ℕ) → AreListed places db
    → All (λ place. is_named_at name db place ≡ false) (places name) → list_any (is_named name) db ≡ false
nowhere-named name db places listed none = by (list_any (is_named name) db) refl
  where
    by : (b : Bool) → list_any (is_named name) db ≡ b → b ≡ false
    by false e = refl
    by true e =
        let some = Any-from_list_any (is_named name) db e in
        let at = place-of db some.1 (some.0, some.2, some.3) in
        let named : is_named name some.1 ≡ true = some.4 in
        let fails : is_named_at name db at.0 ≡ false = All-contains (λ place. is_named_at name db place ≡ false) (places name) at.0 none
        (listed name at.0 some.1 at.1 (named-holds name some.1 named)) in
        absurd (true≢false (sym named ∙ sym (named-at name db at.0 some.1 at.1) ∙ fails))

pub place-answer : (answer : Option ℕ) (name : List ℕ) (db : List Record) (places : List ℕ → List ℕ) → AreListed places db
    → MatchOption answer (All (λ place. is_named_at name db place ≡ false) (places name)) (IsPlaceOf name db)
    → MatchOption answer (list_any (is_named name) db ≡ false) (IsPlaceOf name db)
place-answer None name db places listed none = nowhere-named name db places listed none
place-answer (Some place) name db places listed is = is

-- at the place of a name is a record of it
pub place-at : (name : List ℕ) (db : List Record) (place : ℕ) → IsPlaceOf name db place
    → (entry : Record) × (slice_get db place ≡ Some entry) × (is_named name entry ≡ true)
place-at name db place is = by (slice_get db place) refl
  where
    by : (o : Option Record) → slice_get db place ≡ o → (entry : Record) × (slice_get db place ≡ Some entry) × (is_named name entry ≡ true)
    by None e = absurd (true≢false (sym is ∙ (rw e refl)))
    by (Some entry) e = (entry, e, sym (named-at name db place entry e) ∙ is)

-- the record that was written at a place, and those at the others
set-get : (db : List Record) (place : ℕ) (new : Record) (k : ℕ) (entry : Record) → slice_get (slice_set db place new) k ≡ Some entry
    → ((k ≡ place) × (entry ≡ new)) ⊎ (slice_get db k ≡ Some entry)
set-get [] place new k entry is = inr is
set-get (first ∷ db) zero new zero entry is = inl (refl, let h = is in cc)
set-get (first ∷ db) zero new (suc k) entry is = inr is
set-get (first ∷ db) (suc place) new zero entry is = inr is
set-get (first ∷ db) (suc place) new (suc k) entry is = elim (set-get db place new k entry is) [
  | inl both ↦ inl (ap suc both.0, both.1)
  | inr old ↦ inr old
]

-- the record that was put behind the others, and the others
push-get : (db : List Record) (new : Record) (k : ℕ) (entry : Record) → slice_get (db ++ new ∷ []) k ≡ Some entry
    → ((k ≡ length db) × (entry ≡ new)) ⊎ (slice_get db k ≡ Some entry)
push-get [] new zero entry is = inl (refl, let h = is in cc)
push-get [] new (suc k) entry is = inr is
push-get (first ∷ db) new zero entry is = inr is
push-get (first ∷ db) new (suc k) entry is = elim (push-get db new k entry is) [
  | inl both ↦ inl (omega (arith, both.0), both.1)
  | inr old ↦ inr old
]

-- the records before one that is gone, and those behind it
remove-get : (db : List Record) (place k : ℕ) (entry : Record) → place < length db → slice_get (remove db place) k ≡ Some entry
    → ((k < place) × (slice_get db k ≡ Some entry)) ⊎ ((place ≤ k) × (slice_get db (suc k) ≡ Some entry))
remove-get [] place k entry within is = absurd (omega (arith, within))
remove-get (first ∷ db) zero k entry within is = inr (omega arith, is)
remove-get (first ∷ db) (suc place) zero entry within is = inl (omega arith, is)
remove-get (first ∷ db) (suc place) (suc k) entry within is = elim (remove-get db place k entry (omega (arith, within)) is) [
  | inl before ↦ inl (omega (arith, before.0), before.1)
  | inr behind ↦ inr (omega (arith, behind.0), behind.1)
]

-- a place is entered for what a record has and provides
pub entered-for : (new : Record) (own : List ℕ) (provides : List Provided) (place : ℕ) (places : List ℕ → List ℕ) → own ≡ new.name
    → provides ≡ new.relations.provides → IsEntered own provides place places → IsEntered new.name new.relations.provides place places
entered-for new own provides place places named provided entered =
    subst (λ name. IsEntered name new.relations.provides place places) named
    (subst (λ items. IsEntered own items place places) provided entered)

-- where a record is written at a place that is entered for it, all are listed
pub listed-set : (db : List Record) (place : ℕ) (new : Record) (old places : List ℕ → List ℕ) → KeepsPlaces old places
    → IsEntered new.name new.relations.provides place places → AreListed old db → AreListed places (slice_set db place new)
listed-set db place new old places kept entered listed name k entry there holds = elim (set-get db place new k entry there) [
  | inl both ↦ subst (λ at. Contains (places name) at) (sym both.0) (entered name (ap (is_holder name) (sym both.1) ∙ holds))
  | inr before ↦ kept name k (listed name k entry before holds)
]

pub listed-push : (db : List Record) (place : ℕ) (new : Record) (old places : List ℕ → List ℕ) → KeepsPlaces old places
    → IsEntered new.name new.relations.provides place places → place ≡ length db → AreListed old db → AreListed places (db ++ new ∷ [])
listed-push db place new old places kept entered is listed name k entry there holds = elim (push-get db new k entry there) [
  | inl both ↦ subst (λ at. Contains (places name) at) (is ∙ sym both.0) (entered name (ap (is_holder name) (sym both.1) ∙ holds))
  | inr before ↦ kept name k (listed name k entry before holds)
]

pub listed-kept : (db : List Record) (old places : List ℕ → List ℕ) → KeepsPlaces old places → AreListed old db → AreListed places db
listed-kept db old places kept listed name place entry there holds = kept name place (listed name place entry there holds)

moved-before : (gone place : ℕ) → place < gone → moved_down gone place ≡ place
moved-before gone place before = grind (arith, nat_tests)

moved-behind : (gone place : ℕ) → gone ≤ place → moved_down gone (suc place) ≡ place
moved-behind gone place behind = grind (arith, nat_tests)

-- a place that isn't gone is left, where it has moved to
left-there : (gone place : ℕ) (places : List ℕ) → place ≢ gone → Contains places place → Contains (places_left gone places) (moved_down gone place)
left-there gone place places other within =
    let stays = λ (p : ℕ). not (p == gone) in
    Contains-map_intro (moved_down gone) (filter stays places) place
    (Contains-filter_intro stays places place within (rw (ne_eqb place gone other) refl))

-- where the gap is closed, the records that are left are listed
pub listed-removed : (db : List Record) (gone : ℕ) (old places : List ℕ → List ℕ) → gone < length db
    → ((name : List ℕ) → places name ≡ places_left gone (old name)) → AreListed old db → AreListed places (remove db gone)
listed-removed db gone old places within moved listed name k entry there holds = subst (λ at. Contains at k) (sym (moved name))
    (elim (remove-get db gone k entry within there) [
      | inl before ↦ subst (λ at. Contains (places_left gone (old name)) at) (moved-before gone k before.0)
          (left-there gone k (old name) (λ same. absurd (omega (arith, same, before.0))) (listed name k entry before.1 holds))
      | inr behind ↦ subst (λ at. Contains (places_left gone (old name)) at) (moved-behind gone k behind.0)
          (left-there gone (suc k) (old name) (λ same. absurd (omega (arith, same, behind.0))) (listed name (suc k) entry behind.1 holds))
    ])

-- where a record is changed into one that holds no more names, all are listed
pub listed-changed : (test : Record → Bool) (change : Record → Record) (db : List Record) (places : List ℕ → List ℕ)
    → ((name : List ℕ) (entry : Record) → is_holder name (change entry) ≡ true → is_holder name entry ≡ true)
    → AreListed places db → AreListed places (changed test change db)
listed-changed test change db places fewer listed name place entry there holds = at (slice_get db place) refl
    (sym (slice_get-map step db place) ∙ there)
  where
    step : Record → Record
    step old = cond (test old) (change old) old

    held : (b : Bool) (old : Record) → is_holder name (cond b (change old) old) ≡ true → is_holder name old ≡ true
    held true old holds = fewer name old holds
    held false old holds = holds

    at : (o : Option Record) → slice_get db place ≡ o → option_map step o ≡ Some entry → Contains (places name) place
    at None e is = absurd (let h = is in cc)
    at (Some old) e is = let same : step old ≡ entry = let h = is in cc in
        listed name place old e (held (test old) old (ap (is_holder name) same ∙ holds))

-- a removed package provides nothing
pub removed-holds : (name : List ℕ) (entry : Record) → is_holder name (removed entry) ≡ true → is_holder name entry ≡ true
removed-holds name entry holds = elim (either (bytes_eq entry.name name) false holds) [
  | inl named ↦ rw named refl
  | inr nothing ↦ absurd (true≢false (sym nothing))
]
