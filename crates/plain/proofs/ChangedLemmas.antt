-- The records of a database after a change of some, and after an unpack.
use Rattle.std.proofs.Common.{◌≡◌, ◌≢◌, ℕ, Bool, true, false, cond, List, [], ◌∷◌, ◌++◌, ◌⊎◌, Option, None, refl, sym, ap, subst, ◌∙◌}
use Rattle.std.specs.List.{All, Any, Contains, list_any}
use Rattle.std.proofs.lemmas.List.Elements.{All-contains, Contains-append_cases, Contains-append_left, Contains-append_right}
use Rattle.rules.specs.Database.{Record, IsHeld, HasSoundFlag, Stands, pkg_of}
use Rattle.rules.specs.ElementLaws.{All-intro, Any-intro, Any-elim, Any-from_list_any, Contains-cons, Contains-head, Contains-nil, Contains-map, Contains-map_intro}
use Rattle.rules.specs.NamedLaws.{bytes_eq-true, bytes_eq-same}
use Rattle.rules.specs.Package.{Pkg}
use Rattle.rules.specs.Step.{IndexPackage, is_named, changed, unpacked_over, unpacked_with, after_unpack}
use Rattle.rules.specs.declared.status.State.TheVariants.{Unpacked}
use Rattle.rules.proofs.QuietLemmas.{unnamed}
use mathlib.Core.Logic.{inl, inr}

-- a record of another name doesn't pass the test of a name
pub not_named : (name : List ℕ) (entry : Record) → entry.name ≢ name → is_named name entry ≡ false
not_named name entry differ = at (is_named name entry) refl
  where
    at : (b : Bool) → is_named name entry ≡ b → is_named name entry ≡ false
    at true is = absurd (differ (bytes_eq-true entry.name name is))
    at false is = is

-- a record that fails the test of a name is of another name
pub named_not : (name : List ℕ) (entry : Record) → is_named name entry ≡ false → entry.name ≢ name
named_not name entry fails same = absurd (let e : true ≡ false = sym (bytes_eq-same entry.name name same) ∙ fails in cc)

-- a record after a change is a changed one that passes the test, or one that fails it
pub changed_each : (test : Record → Bool) (change : Record → Record) (db : List Record) (entry : Record)
    → Contains (changed test change db) entry
    → ((old : Record) × Contains db old × (test old ≡ true) × (change old ≡ entry)) ⊎ (Contains db entry × (test entry ≡ false))
changed_each test change db entry within =
    let old = Contains-map (λ r. cond (test r) (change r) r) db entry within in at old.0 old.1 (test old.0) refl old.2
  where
    at : (old : Record) → Contains db old → (b : Bool) → test old ≡ b → cond b (change old) old ≡ entry
        → ((old : Record) × Contains db old × (test old ≡ true) × (change old ≡ entry)) ⊎ (Contains db entry × (test entry ≡ false))
    at old there true is same = inl (old, there, is, same)
    at old there false is same = inr (subst (Contains db) same there, subst (λ r. test r ≡ false) same is)

-- a record that fails the test is there after the change, and of one that passes what it becomes
pub changed_keeps : (test : Record → Bool) (change : Record → Record) (db : List Record) (old : Record) → Contains db old
    → test old ≡ false → Contains (changed test change db) old
changed_keeps test change db old within fails =
    let same : cond (test old) (change old) old ≡ old = ap (λ (b : Bool). cond b (change old) old) fails in
    subst (Contains (changed test change db)) same (Contains-map_intro (λ r. cond (test r) (change r) r) db old within)

pub changed_has : (test : Record → Bool) (change : Record → Record) (db : List Record) (old : Record) → Contains db old
    → test old ≡ true → Contains (changed test change db) (change old)
changed_has test change db old within passes =
    let same : cond (test old) (change old) old ≡ change old = ap (λ (b : Bool). cond b (change old) old) passes in
    subst (Contains (changed test change db)) same (Contains-map_intro (λ r. cond (test r) (change r) r) db old within)

-- what holds of all records, and of what is changed, holds of all behind the change
pub All-behind : (P : Record → Type 0) (test : Record → Bool) (change : Record → Record) (db : List Record)
    → ((old : Record) → Contains db old → test old ≡ true → P (change old)) → All P db → All P (changed test change db)
All-behind P test change db each all = All-intro P (changed test change db) (λ entry within.
    elim (changed_each test change db entry within) [
      | inl made ↦ subst P made.3 (each made.0 made.1 made.2)
      | inr left ↦ All-contains P db entry all left.0
    ])

-- a record with a property that a change keeps is some record with it behind the change
pub Any-behind : (P : Record → Type 0) (test : Record → Bool) (change : Record → Record) (db : List Record) (entry : Record)
    → Contains db entry → P entry → (test entry ≡ true → P (change entry)) → Any P (changed test change db)
Any-behind P test change db entry within holds changes = at (test entry) refl
  where
    at : (b : Bool) → test entry ≡ b → Any P (changed test change db)
    at true is = Any-intro P (changed test change db) (change entry) (changed_has test change db entry within is) (changes is)
    at false is = Any-intro P (changed test change db) entry (changed_keeps test change db entry within is) holds

-- the record is of the package as an unpack leaves it
pub record IsUnpackedAs (pkg : Pkg) (entry : Record) : Type 0 where
  pub state : entry.state ≡ Unpacked
  pub sound : HasSoundFlag entry
  pub unheld : ¬ IsHeld entry
  pub same : pkg_of entry ≡ pkg

pub unpacked_as : (listed : IndexPackage) (version : Option (List ℕ)) → IsUnpackedAs listed.pkg (unpacked_with listed version)
unpacked_as listed version = record {
  state = refl;
  sound = refl;
  unheld = λ held. absurd (let e : false ≡ true = held in cc);
  same = refl;
}

-- what is unpacked stands
pub unpacked_stands : (pkg : Pkg) (entry : Record) → IsUnpackedAs pkg entry → Stands entry
unpacked_stands pkg entry as_it = rw (as_it.state, as_it.sound) refl

-- after an unpack each record is of the package unpacked, or one of another name that was there
pub after_unpack_each : (listed : IndexPackage) (db : List Record) (entry : Record) → Contains (after_unpack listed db) entry
    → IsUnpackedAs listed.pkg entry ⊎ (Contains db entry × (entry.name ≢ listed.pkg.name))
after_unpack_each listed db entry = at (list_any (is_named listed.pkg.name) db) refl
  where
    at : (b : Bool) → list_any (is_named listed.pkg.name) db ≡ b
        → Contains (cond b (changed (is_named listed.pkg.name) (unpacked_over listed) db) (db ++ unpacked_with listed None ∷ [])) entry
        → IsUnpackedAs listed.pkg entry ⊎ (Contains db entry × (entry.name ≢ listed.pkg.name))
    at true some within = elim (changed_each (is_named listed.pkg.name) (unpacked_over listed) db entry within) [
      | inl made ↦ inl (subst (IsUnpackedAs listed.pkg) made.3 (unpacked_as listed _))
      | inr left ↦ inr (left.0, named_not listed.pkg.name entry left.1)
    ]
    at false none within = elim (Contains-append_cases db (unpacked_with listed None ∷ []) entry within) [
      | inl there ↦ inr (there, unnamed listed.pkg.name db none entry there)
      | inr last ↦ elim (Contains-cons (unpacked_with listed None) [] entry last) [
        | inl same ↦ inl (subst (IsUnpackedAs listed.pkg) same (unpacked_as listed None))
        | inr none ↦ absurd (Contains-nil entry none)
      ]
    ]

-- a record of another name is there after the unpack
pub after_unpack_keeps : (listed : IndexPackage) (db : List Record) (old : Record) → Contains db old → old.name ≢ listed.pkg.name
    → Contains (after_unpack listed db) old
after_unpack_keeps listed db old within differ = at (list_any (is_named listed.pkg.name) db)
  where
    at : (b : Bool) → Contains
        (cond b (changed (is_named listed.pkg.name) (unpacked_over listed) db) (db ++ unpacked_with listed None ∷ [])) old
    at true = changed_keeps (is_named listed.pkg.name) (unpacked_over listed) db old within (not_named listed.pkg.name old differ)
    at false = Contains-append_left db (unpacked_with listed None ∷ []) old within

-- the package that is unpacked has a record
pub after_unpack_has : (listed : IndexPackage) (db : List Record) → Any (IsUnpackedAs listed.pkg) (after_unpack listed db)
after_unpack_has listed db = at (list_any (is_named listed.pkg.name) db) refl
  where
    at : (b : Bool) → list_any (is_named listed.pkg.name) db ≡ b → Any (IsUnpackedAs listed.pkg)
        (cond b (changed (is_named listed.pkg.name) (unpacked_over listed) db) (db ++ unpacked_with listed None ∷ []))
    at true some = Any-elim (λ r. is_named listed.pkg.name r ≡ true) db
        (Any (IsUnpackedAs listed.pkg) (changed (is_named listed.pkg.name) (unpacked_over listed) db))
        (λ old within is. Any-intro (IsUnpackedAs listed.pkg) (changed (is_named listed.pkg.name) (unpacked_over listed) db)
        (unpacked_over listed old) (changed_has (is_named listed.pkg.name) (unpacked_over listed) db old within is)
        (unpacked_as listed _)) (Any-from_list_any (is_named listed.pkg.name) db some)
    at false none = Any-intro (IsUnpackedAs listed.pkg) (db ++ unpacked_with listed None ∷ []) (unpacked_with listed None)
        (Contains-append_right db (unpacked_with listed None ∷ []) (unpacked_with listed None)
        (Contains-head (unpacked_with listed None) [])) (unpacked_as listed None)
