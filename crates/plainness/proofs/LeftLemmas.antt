-- What is asked of each record by itself is what is asked of what is unpacked, removed and purged.
use Rattle.std.proofs.Common.{◌≡◌, ℕ, List, map, Bor, refl, subst}
use Rattle.std.specs.Prelude.{◌↔◌}
use Rattle.std.specs.List.{All, Contains}
use Rattle.std.proofs.lemmas.List.Elements.{All-contains}
use Rattle.plain.specs.Change.{IsPurgeGoal}
use Rattle.rules.specs.Database.{Record, HasRecord, HasSoundFlag, IsPresent, IsRemoved}
use Rattle.rules.specs.ElementLaws.{All-intro, Any-elim, Any-intro, Contains-map, Contains-map_intro}
use Rattle.rules.specs.Legal.{IsNotHeld}
use Rattle.rules.specs.Package.{Pkg}
use Rattle.rules.specs.Sound.{HasMember}
use Rattle.rules.specs.Universe.{StandsAs, Universe}
use Rattle.rules.specs.declared.goal.Goal.TheVariants as goal
use Rattle.plainness.specs.Parts.{LeftAreSound, MayBeLeft, MayLeave, PurgedAreUnheld, RemovedAreSound, RemovedAreUnheld, UnpackedAreUnheld}

-- the record of a name has what each record with a property has
of_record : (P : Record → Type 0) (Q : List ℕ → Type 0) (db : List Record) → ((entry : Record) → Contains db entry → P entry → Q entry.name)
    → (name : List ℕ) → HasRecord P name db → Q name
of_record P Q db each name has = Any-elim (λ (entry : Record). (entry.name ≡ name) × P entry) db (Q name)
    (λ entry within is. subst Q is.0 (each entry within is.1)) has

-- a record has its own name
own_record : (P : Record → Type 0) (db : List Record) (entry : Record) → Contains db entry → P entry → HasRecord P entry.name db
own_record P db entry within is = Any-intro (λ (other : Record). (other.name ≡ entry.name) × P other) db entry within (refl, is)

-- each record may leave where what is to be removed is unheld and sound
pub leaving : (start : List Record) (members : List Pkg) (names : List (List ℕ))
    → ((name : List ℕ) → Contains names name ↔ HasMember name members)
    → All (MayLeave start names) start ↔ (RemovedAreUnheld start members × RemovedAreSound start members)
unfolding MayLeave
leaving start members names table = (
  λ all. (
    λ name goes. of_record IsPresent (λ n. ¬ HasMember n members → IsNotHeld start n) start
        (λ entry within is alone. (All-contains (MayLeave start names) start entry all within is (λ there. alone ((table entry.name).0 there))).0)
        name goes.0 goes.1,
    All-intro (λ (entry : Record). IsPresent entry → ¬ HasMember entry.name members → HasSoundFlag entry) start
        (λ entry within is alone. (All-contains (MayLeave start names) start entry all within is (λ there. alone ((table entry.name).0 there))).1),
  ),
  λ both. All-intro (MayLeave start names) start (λ entry within is alone.
      let none : ¬ HasMember entry.name members = λ has. alone ((table entry.name).1 has) in (
        both.0 entry.name (own_record IsPresent start entry within is, none),
        All-contains (λ (entry : Record). IsPresent entry → ¬ HasMember entry.name members → HasSoundFlag entry) start entry both.1 within is none,
      )),
)

-- each record may be left where what is to be purged is unheld, and the others sound
pub left : (u : Universe) (start : List Record) (names : List (List ℕ))
    → ((name : List ℕ) → Contains names name ↔ Contains u.goals (goal.Purge name))
    → All (MayBeLeft start names) start ↔ (PurgedAreUnheld u start × LeftAreSound u start)
unfolding IsPurgeGoal MayBeLeft
left u start names table = (
  λ all. (
    λ name goes. of_record IsRemoved (λ n. IsPurgeGoal u n → IsNotHeld start n) start
        (λ entry within is asked. (All-contains (MayBeLeft start names) start entry all within is).0 ((table entry.name).1 asked))
        name goes.1 goes.0,
    All-intro (λ (entry : Record). IsRemoved entry → ¬ IsPurgeGoal u entry.name → HasSoundFlag entry) start
        (λ entry within is unasked. (All-contains (MayBeLeft start names) start entry all within is).1 (λ there. unasked ((table entry.name).0 there))),
  ),
  λ both. All-intro (MayBeLeft start names) start (λ entry within is. (
    λ there. both.0 entry.name ((table entry.name).0 there, own_record IsRemoved start entry within is),
    λ none. All-contains (λ (entry : Record). IsRemoved entry → ¬ IsPurgeGoal u entry.name → HasSoundFlag entry) start entry both.1 within is
        (λ asked. none ((table entry.name).1 asked)),
  )),
)

-- what is asked of each member that is lent is asked of what is to be unpacked
pub unpacking : (start : List Record) (members : List (Bor Pkg))
    → All (λ (member : Bor Pkg). ¬ StandsAs start member.now.name member.now.version → IsNotHeld start member.now.name) members
    ↔ UnpackedAreUnheld start (map (λ (member : Bor Pkg). member.now) members)
unpacking start members = (
  λ all pkg unpack.
      let from = Contains-map (λ (member : Bor Pkg). member.now) members pkg unpack.0 in
      let Asked : Pkg → Type 0 = λ p. ¬ StandsAs start p.name p.version → IsNotHeld start p.name in
      subst Asked from.2 (All-contains (λ (member : Bor Pkg). Asked member.now) members from.0 all from.1) unpack.1,
  λ each. All-intro (λ (member : Bor Pkg). ¬ StandsAs start member.now.name member.now.version → IsNotHeld start member.now.name) members
      (λ member within none. each member.now (Contains-map_intro (λ (m : Bor Pkg). m.now) members member within, none)),
)
