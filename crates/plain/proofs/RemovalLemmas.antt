-- The removals of a plain change are allowed, go on while something is to be removed, and come to an end.
use Rattle.std.proofs.Common.{◌≡◌, ◌≢◌, ℕ, ◌+◌, ◌<◌, ◌≤◌, Bool, true, false, not, cond, List, [], ◌∷◌, ◌++◌, ◌⊎◌, refl, sym, ap, subst, ◌∙◌, arith, bytes_eq}
use Rattle.std.specs.List.{All, Any, Contains}
use Rattle.std.proofs.lemmas.List.Elements.{All-contains, All-cons, All-nil, Contains-append_cases}
use Rattle.rules.specs.Database.{Record, HasRecord, IsPresent, IsInstalled, IsHeld, IsEssential, HasSoundFlag, Stands, pkg_of}
use Rattle.rules.specs.ElementLaws.{All-intro, Any-intro, Any-elim, Any-weaker, Any-from_list_any, Contains-cons, Contains-head, Contains-nil, Contains-rest}
use Rattle.rules.specs.Legal.{Allowed, IsNotHeld, RemoveAsks, DeconfigureAsks}
use Rattle.rules.specs.NamedLaws.{bytes_eq-true, bytes_eq-same}
use Rattle.rules.specs.Package.{Pkg, Atom, MatchesSome, MeetsClause}
use Rattle.rules.specs.Remove.{IsMetWithout, NeedsNot, IsNeededByNone, IsNotNeeded}
use Rattle.rules.specs.Sound.{HasMember, HasItsRelations, IsAcceptable, IsSound, MeetsClauses, selected}
use Rattle.rules.specs.State.{is_installed_state, is_present_state}
use Rattle.rules.specs.Step.{changed, deconfigured, is_named, removed}
use Rattle.rules.specs.Universe.{Universe}
use Rattle.rules.specs.declared.step.Rule.TheVariants as rule
use Rattle.rules.specs.declared.step.Step.TheVariants as step
use Rattle.std.proofs.Common.{None}
use Rattle.rules.proofs.Decided.{dec_Any, dec_IsTrue, dec_and, dec_not}
use Rattle.rules.proofs.QuietLemmas.{distinct_names_kept, the_named, the_record}
use Rattle.plain.specs.Change.{IsToRemove}
use Rattle.plain.specs.PhaseLaws.{DeconfigureLeaves, RemovalLeaves, LastRemovalIsAllowed, RemovalsGoOn, RemovalsAreAllowed}
use Rattle.plain.specs.Order.{MayGo, IsStillInstalled}
use Rattle.plain.specs.Underway.{IsFree, IsUnderway, is_member, is_to_remove, steps_for, removals_left}
use Rattle.plain.proofs.ChangedLemmas.{Any-behind, changed_each, changed_keeps, named_not, not_named}
use Rattle.plain.proofs.ClashLemmas.{installed_present}
use Rattle.plain.proofs.UnderwayLemmas.{dec_HasMember, member_named, named, member_record, record_of_member, free_record, underway_changed}
use mathlib.Core.Logic.{inl, inr}

-- a removal that keeps its rules is allowed
allowed_remove : (u : Universe) (db : List Record) (name : List ℕ) → HasRecord (λ entry. IsPresent entry × HasSoundFlag entry) name db
    → IsNotHeld db name → ¬ HasRecord IsEssential name db → IsNotNeeded db name → Allowed u db (step.Remove name)
unfolding Allowed
allowed_remove u db name there unheld inessential unneeded =
    All-cons (RemoveAsks db name) rule.WrongState (rule.Held ∷ rule.Essential ∷ rule.NeededBy ∷ []) there
    (All-cons (RemoveAsks db name) rule.Held (rule.Essential ∷ rule.NeededBy ∷ []) unheld
    (All-cons (RemoveAsks db name) rule.Essential (rule.NeededBy ∷ []) inessential
    (All-cons (RemoveAsks db name) rule.NeededBy [] unneeded (All-nil (RemoveAsks db name)))))

-- an installed package may be deconfigured
pub allowed_deconfigure : (u : Universe) (db : List Record) (name : List ℕ) → HasRecord IsInstalled name db
    → Allowed u db (step.Deconfigure name)
unfolding Allowed
allowed_deconfigure u db name there =
    All-cons (DeconfigureAsks db name) rule.WrongState [] there (All-nil (DeconfigureAsks db name))

module _ (u : Universe) (start : List Record) (members : List Pkg) (db : List Record) (underway : IsUnderway u start members db)
    (name : List ℕ) (goes : IsToRemove members db name) where
  -- the record of a name to be removed is present, and may go
  gone_present : (entry : Record) → Contains db entry → entry.name ≡ name → IsPresent entry
  gone_present entry there same = the_record IsPresent db underway.distinct entry there
      (subst (λ n. HasRecord IsPresent n db) (sym same) goes.0)

  gone_free : (entry : Record) → Contains db entry → entry.name ≡ name → IsFree start members entry
  gone_free entry there same = free_record u start members db underway entry there (gone_present entry there same)
      (λ has. goes.1 (subst (λ n. HasMember n members) same has))

  -- no member has the name
  no_member : (pkg : Pkg) → Contains members pkg → pkg.name ≢ name
  no_member pkg within same = goes.1 (member_named members pkg name within same)

  present_sound : HasRecord (λ entry. IsPresent entry × HasSoundFlag entry) name db
  present_sound = Any-weaker (λ (r : Record). (r.name ≡ name) × IsPresent r) (λ (r : Record). (r.name ≡ name) × (IsPresent r × HasSoundFlag r)) db
      (λ entry there is. (is.0, (is.1, (gone_free entry there is.0).sound))) goes.0

  not_held : IsNotHeld db name
  unfolding IsNotHeld
  not_held held = Any-elim (λ (r : Record). (r.name ≡ name) × IsHeld r) db ⊥
      (λ entry there is. (gone_free entry there is.0).unheld is.1) held

  not_essential : ¬ HasRecord IsEssential name db
  not_essential essential = Any-elim (λ (r : Record). (r.name ≡ name) × IsEssential r) db ⊥
      (λ entry there is. (gone_free entry there is.0).inessential is.1) essential

  -- a clause that the members meet is met without the name
  met_without : (gone : Record) → gone.name ≡ name → (clause : List Atom) → MeetsClause members clause → IsMetWithout db gone clause
  unfolding MeetsClause IsMetWithout
  met_without gone same clause met matches = Any-elim (λ (m : Pkg). MatchesSome m clause) members
      (Any (λ (r : Record). (r.name ≢ gone.name) × (Stands r × MatchesSome (pkg_of r) clause)) db)
      (λ pkg within fits.
      let entry = record_of_member u start members db underway pkg within in
      Any-intro (λ (r : Record). (r.name ≢ gone.name) × (Stands r × MatchesSome (pkg_of r) clause)) db entry.0 entry.1 (
        (λ alike. no_member pkg within (sym (named entry.0 pkg entry.3) ∙ alike ∙ same)),
        (entry.2, subst (λ (p : Pkg). MatchesSome p clause) (sym entry.3) fits),
      )) met

  -- a record of a member needs no package of the name
  member_needs_not : IsSound members → (gone : Record) → gone.name ≡ name → (other : Record) → Contains members (pkg_of other)
      → All (IsMetWithout db gone) (other.relations.pre_depends ++ other.relations.depends)
  unfolding IsSound MeetsClauses
  member_needs_not sound gone same other within =
      let content = All-contains (HasItsRelations members) members (pkg_of other) sound within in
      All-intro (IsMetWithout db gone) (other.relations.pre_depends ++ other.relations.depends) (λ clause inside.
      met_without gone same clause (elim (Contains-append_cases other.relations.pre_depends other.relations.depends clause inside) [
        | inl pre ↦ All-contains (MeetsClause members) other.relations.pre_depends clause content.pre_depends pre
        | inr dep ↦ All-contains (MeetsClause members) other.relations.depends clause content.depends dep
      ]))

  not_needed : IsSound members → ((other : List ℕ) → IsStillInstalled members db other → other ≡ name) → IsNotNeeded db name
  unfolding IsNotNeeded IsNeededByNone NeedsNot
  not_needed sound last = All-intro (λ (gone : Record). gone.name ≡ name → IsPresent gone → IsNeededByNone db gone) db
      (λ gone within same present. All-intro (λ (other : Record). other.name ≢ gone.name → NeedsNot db gone other) db
      (λ other there differ installed. at gone same other there differ installed (dec_HasMember other.name members)))
    where
      at : (gone : Record) → gone.name ≡ name → (other : Record) → Contains db other → other.name ≢ gone.name → IsInstalled other
          → Dec (HasMember other.name members) → All (IsMetWithout db gone) (other.relations.pre_depends ++ other.relations.depends)
      at gone same other there differ installed (yes has) =
          member_needs_not sound gone same other (member_record u start members db underway other there has).1
      at gone same other there differ installed (no none) = absurd (differ (last other.name (
        (Any-intro (λ (r : Record). (r.name ≡ other.name) × IsPresent r) db other there (refl, installed_present other.state installed), none),
        Any-intro (λ (r : Record). (r.name ≡ other.name) × IsInstalled r) db other there (refl, installed),
      ) ∙ sym same))

  -- the last of the names that is installed may go
  may_go : IsSound members → ((other : List ℕ) → IsStillInstalled members db other → other ≡ name) → Allowed u db (step.Remove name)
  may_go sound last = allowed_remove u db name present_sound not_held not_essential (not_needed sound last)

pub last_removal_is_allowed : LastRemovalIsAllowed
unfolding IsAcceptable
last_removal_is_allowed u start db selection name change underway goes last =
    may_go u start (selected u selection) db underway name goes change.acceptable.sound last

-- whether something that is to be removed is installed
dec_still_installed : (members : List Pkg) (db : List Record) → Dec (Any (λ (r : Record). IsInstalled r × ¬ HasMember r.name members) db)
dec_still_installed members db = dec_Any (λ (r : Record). IsInstalled r × ¬ HasMember r.name members)
    (λ r. dec_and (dec_IsTrue (is_installed_state r.state)) (dec_not (dec_HasMember r.name members))) db

pub removals_go_on : RemovalsGoOn
removals_go_on u start db selection name change underway goes = at (dec_still_installed (selected u selection) db)
  where
    still : (other : List ℕ) → IsStillInstalled (selected u selection) db other → Any (λ (r : Record). IsInstalled r × ¬ HasMember r.name (selected u selection)) db
    still other is = Any-weaker (λ (r : Record). (r.name ≡ other) × IsInstalled r) (λ (r : Record). IsInstalled r × ¬ HasMember r.name (selected u selection)) db
        (λ entry there here. (here.1, λ has. is.0.1 (subst (λ n. HasMember n (selected u selection)) here.0 has))) is.1

    at : Dec (Any (λ (r : Record). IsInstalled r × ¬ HasMember r.name (selected u selection)) db)
        → ((other : List ℕ) × MayGo u (selected u selection) db other) ⊎ ((other : List ℕ) × IsStillInstalled (selected u selection) db other)
    at (yes some) = inr (Any-elim (λ (r : Record). IsInstalled r × ¬ HasMember r.name (selected u selection)) db
        ((other : List ℕ) × IsStillInstalled (selected u selection) db other) (λ entry there is. (
          entry.name,
          (
            (Any-intro (λ (r : Record). (r.name ≡ entry.name) × IsPresent r) db entry there (refl, installed_present entry.state is.0), is.1),
            Any-intro (λ (r : Record). (r.name ≡ entry.name) × IsInstalled r) db entry there (refl, is.0),
          ),
        )) some)
    at (no none) = inl (
      name,
      (
        goes,
        last_removal_is_allowed u start db selection name change underway goes (λ other is. absurd (none (still other is))),
      ),
    )

-- Fewer steps are left

-- a name without a member fails the test
not_member : (members : List Pkg) (name : List ℕ) → ¬ HasMember name members → is_member members name ≡ false
not_member members name none = at (is_member members name) refl
  where
    at : (b : Bool) → is_member members name ≡ b → is_member members name ≡ false
    at false is = is
    at true is = absurd (none (Any-elim (λ (m : Pkg). bytes_eq m.name name ≡ true) members (HasMember name members)
        (λ pkg within same. member_named members pkg name within (bytes_eq-true pkg.name name same))
        (Any-from_list_any (λ (m : Pkg). bytes_eq m.name name) members is)))

-- where each record that a change is made of needs fewer steps behind it, and there is one, fewer are left
no_more_left : (members : List Pkg) (test : Record → Bool) (change : Record → Record) (db : List Record)
    → ((old : Record) → Contains db old → test old ≡ true → steps_for members (change old) < steps_for members old)
    → removals_left members (changed test change db) ≤ removals_left members db
no_more_left members test change [] less = omega arith
no_more_left members test change (first ∷ rest) less = at (test first) refl
    (no_more_left members test change rest (λ old there. less old (Contains-rest first rest old there)))
  where
    at : (b : Bool) → test first ≡ b → removals_left members (changed test change rest) ≤ removals_left members rest
        → steps_for members (cond b (change first) first) + removals_left members (changed test change rest)
        ≤ steps_for members first + removals_left members rest
    at true is below = let here = less first (Contains-head first rest) is in omega arith
    at false is below = omega arith

fewer_left : (members : List Pkg) (test : Record → Bool) (change : Record → Record) (db : List Record)
    → ((old : Record) → Contains db old → test old ≡ true → steps_for members (change old) < steps_for members old)
    → (entry : Record) → Contains db entry → test entry ≡ true
    → removals_left members (changed test change db) < removals_left members db
fewer_left members test change [] less entry there passes = absurd (Contains-nil entry there)
fewer_left members test change (first ∷ rest) less entry there passes = at (Contains-cons first rest entry there) (test first) refl
    (no_more_left members test change rest (λ old behind. less old (Contains-rest first rest old behind)))
    (λ behind. fewer_left members test change rest (λ old further. less old (Contains-rest first rest old further)) entry behind passes)
  where
    at : (first ≡ entry) ⊎ Contains rest entry → (b : Bool) → test first ≡ b
        → removals_left members (changed test change rest) ≤ removals_left members rest
        → (Contains rest entry → removals_left members (changed test change rest) < removals_left members rest)
        → steps_for members (cond b (change first) first) + removals_left members (changed test change rest)
        < steps_for members first + removals_left members rest
    at (inl same) false is below later = absurd (let e : true ≡ false = sym passes ∙ ap test (sym same) ∙ is in cc)
    at (inl same) true is below later = let here = less first (Contains-head first rest) is in omega arith
    at (inr behind) true is below later = let here = less first (Contains-head first rest) is in omega arith
    at (inr behind) false is below later = let further = later behind in omega arith

module _ (u : Universe) (start : List Record) (members : List Pkg) (db : List Record) (underway : IsUnderway u start members db)
    (name : List ℕ) (goes : IsToRemove members db name) where
  -- a record that has the name
  here : (entry : Record) → is_named name entry ≡ true → entry.name ≡ name
  here entry is = bytes_eq-true entry.name name is

  no_member_here : (entry : Record) → is_named name entry ≡ true → ¬ HasMember entry.name members
  no_member_here entry is has = goes.1 (subst (λ n. HasMember n members) (here entry is) has)

  free_here : (entry : Record) → Contains db entry → is_named name entry ≡ true → IsFree start members entry
  free_here entry there is = gone_free u start members db underway name goes entry there (here entry is)

  removed_underway : IsUnderway u start members (changed (is_named name) removed db)
  removed_underway = underway_changed u start members db underway (is_named name) removed
      (distinct_names_kept None (step.Remove name) db underway.distinct) (λ old. refl)
      (λ old there is has. absurd (no_member_here old is has))
      (λ old there is present none. absurd (let e : false ≡ true = present in cc))
      (λ old there is gone. ((free_here old there is).sound, λ held. absurd (let e : false ≡ true = held in cc)))

  deconfigured_underway : IsUnderway u start members (changed (is_named name) deconfigured db)
  deconfigured_underway = underway_changed u start members db underway (is_named name) deconfigured
      (distinct_names_kept None (step.Deconfigure name) db underway.distinct) (λ old. refl)
      (λ old there is has. absurd (no_member_here old is has))
      (λ old there is present none. let free = free_here old there is in
      record { was = free.was; sound = free.sound; unheld = free.unheld; inessential = free.inessential })
      (λ old there is gone. absurd (let e : false ≡ true = gone in cc))

  -- the steps for a record of the name: two if it is installed, and else one
  steps_for_gone : (old : Record) → Contains db old → is_named name old ≡ true
      → steps_for members old ≡ cond (is_installed_state old.state) 2 1
  steps_for_gone old there is =
      let present : is_present_state old.state ≡ true = gone_present u start members db underway name goes old there (here old is) in
      let alone : is_member members old.name ≡ false = not_member members old.name (no_member_here old is) in
      let both : is_to_remove members old ≡ true = rw (present, alone) refl in
      ap (λ (b : Bool). cond b (cond (is_installed_state old.state) 2 1) 0) both

  removed_less : (old : Record) → Contains db old → is_named name old ≡ true → steps_for members (removed old) < steps_for members old
  removed_less old there is = at (is_installed_state old.state) (steps_for_gone old there is)
    where
      at : (b : Bool) → steps_for members old ≡ cond b 2 1 → 0 < steps_for members old
      at true e = omega arith
      at false e = omega arith

  deconfigured_less : HasRecord IsInstalled name db → (old : Record) → Contains db old → is_named name old ≡ true
      → steps_for members (deconfigured old) < steps_for members old
  deconfigured_less has old there is =
      let installed : is_installed_state old.state ≡ true = the_named IsInstalled db underway.distinct name has old there is in
      let two : steps_for members old ≡ 2 = steps_for_gone old there is ∙ ap (λ (b : Bool). cond b 2 1) installed in
      let alone : is_member members old.name ≡ false = not_member members old.name (no_member_here old is) in
      let one_ : steps_for members (deconfigured old) ≡ 1 = ap (λ (b : Bool). cond (not b) 1 0) alone in
      omega arith

  -- there is a record of the name
  pub some_record : (entry : Record) × Contains db entry × (is_named name entry ≡ true)
  some_record = Any-elim (λ (r : Record). (r.name ≡ name) × IsPresent r) db
      ((entry : Record) × Contains db entry × (is_named name entry ≡ true))
      (λ entry there is. (entry, there, bytes_eq-same entry.name name is.0)) goes.0

pub removals_are_allowed : RemovalsAreAllowed
removals_are_allowed u start db members (step.Unpack name version) underway next = absurd next
removals_are_allowed u start db members (step.Configure names) underway next = absurd next
removals_are_allowed u start db members (step.Purge name) underway next = absurd next
removals_are_allowed u start db members (step.Deconfigure name) underway next =
    let entry = some_record u start members db underway name next.1.has.0 in (
      allowed_deconfigure u db name next.1.has.1,
      deconfigured_underway u start members db underway name next.1.has.0,
      fewer_left members (is_named name) deconfigured db
          (deconfigured_less u start members db underway name next.1.has.0 next.1.has.1) entry.0 entry.1 entry.2,
    )
removals_are_allowed u start db members (step.Remove name) underway next =
    let entry = some_record u start members db underway name next.has.0 in (
      next.has.1,
      removed_underway u start members db underway name next.has.0,
      fewer_left members (is_named name) removed db (removed_less u start members db underway name next.has.0) entry.0 entry.1 entry.2,
    )

-- What is left to be removed

-- a present record of a name behind a change was present, where the change keeps names and makes nothing present
present_before : (test : Record → Bool) (change : Record → Record) (db : List Record) (name : List ℕ)
    → ((old : Record) → (change old).name ≡ old.name)
    → ((old : Record) → Contains db old → test old ≡ true → IsPresent (change old) → IsPresent old)
    → HasRecord IsPresent name (changed test change db) → HasRecord IsPresent name db
present_before test change db name names before has = Any-elim (λ (r : Record). (r.name ≡ name) × IsPresent r) (changed test change db)
    (HasRecord IsPresent name db) (λ entry there is. elim (changed_each test change db entry there) [
      | inl made ↦ Any-intro (λ (r : Record). (r.name ≡ name) × IsPresent r) db made.0 made.1 (
        sym (names made.0) ∙ ap (λ (r : Record). r.name) made.3 ∙ is.0,
        before made.0 made.1 made.2 (subst (λ (r : Record). IsPresent r) (sym made.3) is.1),
      )
      | inr left ↦ Any-intro (λ (r : Record). (r.name ≡ name) × IsPresent r) db entry left.0 is
    ]) has

pub removal_leaves : RemovalLeaves
removal_leaves u members db name other = (
  λ goes. ((before goes.0, goes.1), λ same. differs same goes.0),
  λ goes. (
    Any-elim (λ (r : Record). (r.name ≡ other) × IsPresent r) db (HasRecord IsPresent other (changed (is_named name) removed db))
        (λ entry there is. Any-intro (λ (r : Record). (r.name ≡ other) × IsPresent r) (changed (is_named name) removed db) entry
        (changed_keeps (is_named name) removed db entry there (not_named name entry (λ same. goes.1 (sym is.0 ∙ same)))) is) goes.0.0,
    goes.0.1,
  ),
)
  where
    before : HasRecord IsPresent other (changed (is_named name) removed db) → HasRecord IsPresent other db
    before = present_before (is_named name) removed db other (λ old. refl) (λ old there is present. absurd (let e : false ≡ true = present in cc))

    differs : other ≡ name → HasRecord IsPresent other (changed (is_named name) removed db) → ⊥
    differs same has = Any-elim (λ (r : Record). (r.name ≡ other) × IsPresent r) (changed (is_named name) removed db) ⊥
        (λ entry there is. elim (changed_each (is_named name) removed db entry there) [
          | inl made ↦ absurd (let e : false ≡ true = subst (λ (r : Record). IsPresent r) (sym made.3) is.1 in cc)
          | inr left ↦ named_not name entry left.1 (is.0 ∙ same)
        ]) has

pub deconfigure_leaves : DeconfigureLeaves
deconfigure_leaves u members db name other distinct has = (
  (λ goes. (before goes.0, goes.1), λ goes. (behind goes.0, goes.1)),
  (
    λ still. ((((before still.0.0), still.0.1), (still_before still.1).0), (still_before still.1).1),
    λ still. (
      (behind still.0.0.0, still.0.0.1),
      Any-elim (λ (r : Record). (r.name ≡ other) × IsInstalled r) db
          (HasRecord IsInstalled other (changed (is_named name) deconfigured db))
          (λ entry there is. Any-intro (λ (r : Record). (r.name ≡ other) × IsInstalled r) (changed (is_named name) deconfigured db) entry
          (changed_keeps (is_named name) deconfigured db entry there (not_named name entry (λ same. still.1 (sym is.0 ∙ same)))) is) still.0.1,
    ),
  ),
)
  where
    before : HasRecord IsPresent other (changed (is_named name) deconfigured db) → HasRecord IsPresent other db
    before = present_before (is_named name) deconfigured db other (λ old. refl) (λ old there is present.
        installed_present old.state (the_named IsInstalled db distinct name has old there is))

    behind : HasRecord IsPresent other db → HasRecord IsPresent other (changed (is_named name) deconfigured db)
    behind goes = Any-elim (λ (r : Record). (r.name ≡ other) × IsPresent r) db (HasRecord IsPresent other (changed (is_named name) deconfigured db))
        (λ entry there is. Any-behind (λ (r : Record). (r.name ≡ other) × IsPresent r) (is_named name) deconfigured db entry there is
        (λ passes. (is.0, refl))) goes

    still_before : HasRecord IsInstalled other (changed (is_named name) deconfigured db) → HasRecord IsInstalled other db × (other ≢ name)
    still_before still = Any-elim (λ (r : Record). (r.name ≡ other) × IsInstalled r) (changed (is_named name) deconfigured db)
        (HasRecord IsInstalled other db × (other ≢ name)) (λ entry there is. elim (changed_each (is_named name) deconfigured db entry there) [
          | inl made ↦ absurd (let e : false ≡ true = subst (λ (r : Record). IsInstalled r) (sym made.3) is.1 in cc)
          | inr left ↦ (
            Any-intro (λ (r : Record). (r.name ≡ other) × IsInstalled r) db entry left.0 is,
            λ same. named_not name entry left.1 (is.0 ∙ same),
          )
        ]) still
