-- What follows while a change is underway, and which changes of records keep it so.
use Rattle.std.proofs.Common.{◌≡◌, ℕ, Bool, true, List, sym, ap, subst, ◌∙◌}
use Rattle.std.specs.List.{Any, Contains}
use Rattle.std.proofs.lemmas.List.Elements.{All-contains}
use Rattle.rules.specs.Database.{Record, HasRecord, HasDistinctNames, IsPresent, IsInstalled, IsRemoved, IsHeld, HasSoundFlag, Stands, pkg_of}
use Rattle.rules.specs.ElementLaws.{All-intro, Any-intro, Any-elim}
use Rattle.rules.specs.Package.{Pkg}
use Rattle.rules.specs.Sound.{HasMember}
use Rattle.rules.specs.Step.{changed}
use Rattle.rules.specs.Universe.{Universe}
use Rattle.rules.proofs.Decided.{dec_Any, dec_text}
use Rattle.rules.proofs.QuietLemmas.{the_record}
use Rattle.plain.specs.Change.{old_and_new, IsPurgeGoal, Stays}
use Rattle.plain.specs.Underway.{HasOldAndNew, IsFree, IsUnderway}
use Rattle.plain.proofs.ChangedLemmas.{All-behind, Any-behind}
use Rattle.plain.proofs.ClashLemmas.{new_one}

-- whether a member has the name
unfoldable pub dec_HasMember : (name : List ℕ) (members : List Pkg) → Dec (HasMember name members)
unfolding HasMember
dec_HasMember name members = dec_Any (λ (m : Pkg). m.name ≡ name) (λ m. dec_text m.name name) members

-- the name of a member has one
pub member_named : (members : List Pkg) (pkg : Pkg) (name : List ℕ) → Contains members pkg → pkg.name ≡ name → HasMember name members
unfolding HasMember
member_named members pkg name within same = Any-intro (λ (m : Pkg). m.name ≡ name) members pkg within same

pub named_member : (members : List Pkg) (name : List ℕ) → HasMember name members → (pkg : Pkg) × Contains members pkg × (pkg.name ≡ name)
unfolding HasMember
named_member members name has = Any-elim (λ (m : Pkg). m.name ≡ name) members
    ((pkg : Pkg) × Contains members pkg × (pkg.name ≡ name)) (λ pkg within same. (pkg, within, same)) has

-- the name of a record's package
pub named : (entry : Record) (pkg : Pkg) → pkg_of entry ≡ pkg → entry.name ≡ pkg.name
named entry pkg same = ap (λ (p : Pkg). p.name) same

module _ (u : Universe) (start : List Record) (members : List Pkg) (db : List Record) (underway : IsUnderway u start members db) where
  -- a record whose name has a member stands with a member's relations
  pub member_record : (entry : Record) → Contains db entry → HasMember entry.name members → Stands entry × Contains members (pkg_of entry)
  member_record entry there has =
      let pkg = named_member members entry.name has in
      let is : Stands entry × (pkg_of entry ≡ pkg.0) = the_record (λ (r : Record). Stands r × (pkg_of r ≡ pkg.0)) db underway.distinct entry there
      (subst (λ n. HasRecord (λ (r : Record). Stands r × (pkg_of r ≡ pkg.0)) n db) pkg.2 (underway.standing pkg.0 pkg.1)) in
      (is.0, subst (Contains members) (sym is.1) pkg.1)

  -- what a member's record is, as a record
  pub record_of_member : (pkg : Pkg) → Contains members pkg → (entry : Record) × Contains db entry × Stands entry × (pkg_of entry ≡ pkg)
  record_of_member pkg within = Any-elim (λ (r : Record). (r.name ≡ pkg.name) × (Stands r × (pkg_of r ≡ pkg))) db
      ((entry : Record) × Contains db entry × Stands entry × (pkg_of entry ≡ pkg))
      (λ entry there is. (entry, there, is.1.0, is.1.1)) (underway.standing pkg within)

  pub record_of_staying : (pkg : Pkg) → Contains members pkg → Stays start pkg
      → (entry : Record) × Contains db entry × IsInstalled entry × (pkg_of entry ≡ pkg)
  record_of_staying pkg within stays = Any-elim (λ (r : Record). (r.name ≡ pkg.name) × (IsInstalled r × (pkg_of r ≡ pkg))) db
      ((entry : Record) × Contains db entry × IsInstalled entry × (pkg_of entry ≡ pkg))
      (λ entry there is. (entry, there, is.1.0, is.1.1)) (underway.staying pkg within stays)

  -- a present record without a member may go
  pub free_record : (entry : Record) → Contains db entry → IsPresent entry → ¬ HasMember entry.name members → IsFree start members entry
  free_record entry there = All-contains (λ (r : Record). IsPresent r → ¬ HasMember r.name members → IsFree start members r) db entry
      underway.free there

  -- the database has old and new packages alone
  pub underway_has_old_and_new : HasOldAndNew start members db
  unfolding HasOldAndNew
  underway_has_old_and_new = All-intro (λ (r : Record). IsPresent r → Contains (old_and_new start members) (pkg_of r)) db
      (λ entry there present. at entry there present (dec_HasMember entry.name members))
    where
      at : (entry : Record) → Contains db entry → IsPresent entry → Dec (HasMember entry.name members)
          → Contains (old_and_new start members) (pkg_of entry)
      at entry there present (yes has) = new_one start members (pkg_of entry) (member_record entry there has).1
      at entry there present (no none) = (free_record entry there present none).was

  -- a change that keeps what members need, and leaves of others only what may go, keeps the change underway
  pub underway_changed : (test : Record → Bool) (change : Record → Record) → HasDistinctNames (changed test change db)
      → ((old : Record) → (change old).name ≡ old.name)
      → ((old : Record) → Contains db old → test old ≡ true → HasMember old.name members
      → (Stands old → Stands (change old)) × (IsInstalled old → IsInstalled (change old)) × (pkg_of (change old) ≡ pkg_of old))
      → ((old : Record) → Contains db old → test old ≡ true → IsPresent (change old) → ¬ HasMember (change old).name members
      → IsFree start members (change old))
      → ((old : Record) → Contains db old → test old ≡ true → IsRemoved (change old) → HasSoundFlag (change old) × ¬ IsHeld (change old))
      → IsUnderway u start members (changed test change db)
  underway_changed test change distinct names keeps frees settles = record {
    distinct = distinct;
    standing = λ pkg within. Any-elim (λ (r : Record). (r.name ≡ pkg.name) × (Stands r × (pkg_of r ≡ pkg))) db
        (Any (λ (r : Record). (r.name ≡ pkg.name) × (Stands r × (pkg_of r ≡ pkg))) (changed test change db))
        (λ entry there is. Any-behind (λ (r : Record). (r.name ≡ pkg.name) × (Stands r × (pkg_of r ≡ pkg))) test change db entry there is
        (λ passes. let kept = keeps entry there passes (member_named members pkg entry.name within (sym is.0)) in
        (names entry ∙ is.0, (kept.0 is.1.0, kept.2 ∙ is.1.1)))) (underway.standing pkg within);
    staying = λ pkg within stays. Any-elim (λ (r : Record). (r.name ≡ pkg.name) × (IsInstalled r × (pkg_of r ≡ pkg))) db
        (Any (λ (r : Record). (r.name ≡ pkg.name) × (IsInstalled r × (pkg_of r ≡ pkg))) (changed test change db))
        (λ entry there is. Any-behind (λ (r : Record). (r.name ≡ pkg.name) × (IsInstalled r × (pkg_of r ≡ pkg))) test change db entry there is
        (λ passes. let kept = keeps entry there passes (member_named members pkg entry.name within (sym is.0)) in
        (names entry ∙ is.0, (kept.1 is.1.0, kept.2 ∙ is.1.1)))) (underway.staying pkg within stays);
    free = All-behind (λ (r : Record). IsPresent r → ¬ HasMember r.name members → IsFree start members r) test change db frees underway.free;
    sound = All-behind (λ (r : Record). IsRemoved r → ¬ IsPurgeGoal u r.name → HasSoundFlag r) test change db
        (λ entry there passes removed none. (settles entry there passes removed).0) underway.sound;
    unheld = All-behind (λ (r : Record). IsRemoved r → IsPurgeGoal u r.name → ¬ IsHeld r) test change db
        (λ entry there passes removed asked. (settles entry there passes removed).1) underway.unheld;
  }
