-- Where names are package names, each step that leads on and is allowed has one beside it that is forward and allowed.
use Rattle.std.proofs.Common.{◌≡◌, ℕ, Bool, true, false, cond, ◌&&◌, not, List, [], ◌∷◌, ◌++◌, map, Option, Some, None, refl, sym, ap, subst, ◌∙◌}
use Rattle.std.specs.Prelude.{IsTrue, IsSome, bytes_eq, if◌then◌else◌}
use Rattle.std.specs.List.{All, Any, Contains, filter, find, list_any}
use Rattle.std.specs.Option.{option_and_then, option_map_or}
use Rattle.std.specs.Ordering.{is_eq}
use Rattle.std.proofs.lemmas.List.Elements.{All-cons, All-contains, All-nil, All-weaker, Contains-append_cases}
use Rattle.std.proofs.lemmas.Option.{same_Some}
use Rattle.rules.specs.Available.{is_of, same_version}
use Rattle.rules.specs.Database.{HasRecord, IsPresent, HasSoundFlag, Record, Stands}
use Rattle.rules.specs.ElementLaws.{All-intro, Any-elim, Any-intro, Any-weaker, Contains-cons, Contains-filter, Contains-head, Contains-map, Contains-nil, Contains-rest}
use Rattle.rules.specs.Legal.{Allowed, Asks, UnpackAsks, rules_of}
use Rattle.rules.specs.Name.{is_name}
use Rattle.rules.specs.Package.{Pkg}
use Rattle.rules.specs.Run.{Run, after}
use Rattle.rules.specs.Sound.{HasMember, HasVersion}
use Rattle.rules.specs.Step.{IndexPackage, after_unpack, changed, configured, deconfigured, is_among, is_named, removed, result_of, unpacked_over, unpacked_with}
use Rattle.rules.specs.Universe.{IsOf, Pair, StandsAs, Universe, listed_among, listed_of}
use Rattle.rules.specs.Verdict.{IsBuiltOn}
use Rattle.rules.specs.Version.{SameVersion, version_cmp}
use Rattle.rules.specs.VersionOrderLaws.{SameVersion-trans, version_cmp-same_right}
use Rattle.rules.specs.declared.step.Rule.{Rule}
use Rattle.rules.specs.declared.step.Rule.TheVariants as rule
use Rattle.rules.specs.declared.step.Step.{Step}
use Rattle.rules.specs.declared.step.Step.TheVariants as step
use Rattle.fixed_order.specs.Names.{AreNamed}
use Rattle.rules.specs.Names.{HasNames, HasPairNames}
use Rattle.forward_steps.specs.Forward.{IsAtRest, IsForward, IsOfSelected}
use Rattle.ordering.specs.Leading.{IsSelectedIn, LeadsOn, NothingLeadsOn}
use mathlib.Core.Logic.{inl, inr}

abbrev IsNamed : Record → Type 0
IsNamed entry = IsTrue (is_name entry.name)

-- Names along a run

-- a change that keeps names keeps package names
changed_named : (test : Record → Bool) (change : Record → Record) (db : List Record)
    → ((entry : Record) → IsNamed entry → IsNamed (change entry)) → HasNames db → HasNames (changed test change db)
changed_named test change [] keeps named = All-nil IsNamed
changed_named test change (entry ∷ db) keeps named = All-cons IsNamed (if test entry then change entry else entry) (changed test change db)
    (at (test entry)) (changed_named test change db keeps (Rattle.std.proofs.lemmas.List.Elements.All-tail IsNamed entry db named))
  where
    here : IsNamed entry
    here = Rattle.std.proofs.lemmas.List.Elements.All-head IsNamed entry db named

    at : (b : Bool) → IsNamed (if b then change entry else entry)
    at true = keeps entry here
    at false = here

-- an unpacking of a package with a name keeps package names
unpacked_named : (listed : IndexPackage) (db : List Record) → IsTrue (is_name listed.pkg.name) → HasNames db → HasNames (after_unpack listed db)
unpacked_named listed db is named = at (list_any (is_named listed.pkg.name) db)
  where
    at : (b : Bool) → HasNames (if b then changed (is_named listed.pkg.name) (unpacked_over listed) db else db ++ unpacked_with listed None ∷ [])
    at true = changed_named (is_named listed.pkg.name) (unpacked_over listed) db (λ entry was. is) named
    at false = All-intro IsNamed (db ++ unpacked_with listed None ∷ []) (λ entry within.
        elim (Contains-append_cases db (unpacked_with listed None ∷ []) entry within) [
          | inl old ↦ All-contains IsNamed db entry named old
          | inr new ↦ elim (Contains-cons (unpacked_with listed None) [] entry new) [
            | inl same ↦ subst IsNamed same is
            | inr none ↦ absurd (Contains-nil entry none)
          ]
        ])

-- the stanza of a pair has its name
listed_named : (u : Universe) (pairs : List Pair) (name version : List ℕ) (listed : IndexPackage)
    → ((pair : Pair) → Contains pairs pair → (one : IndexPackage) → pair.listed ≡ Some one → IsTrue (is_name one.pkg.name))
    → listed_among pairs name version ≡ Some listed → IsTrue (is_name listed.pkg.name)
listed_named u [] name version listed each is = absurd (let e : None ≡ Some listed = is in cc)
listed_named u (pair ∷ pairs) name version listed each is = at (is_of name version pair.pkg) is
    (listed_named u pairs name version listed (λ other within. each other (Contains-rest pair pairs other within)))
  where
    at : (b : Bool) → option_and_then (λ (p : Pair). p.listed) (cond b (Some pair) (find (λ (p : Pair). is_of name version p.pkg) pairs)) ≡ Some listed
        → (listed_among pairs name version ≡ Some listed → IsTrue (is_name listed.pkg.name)) → IsTrue (is_name listed.pkg.name)
    at true is later = each pair (Contains-head pair pairs) listed is
    at false is later = later is

-- each stanza that a step unpacks has a package name
pair_listed : (u : Universe) (start : List Record) → IsBuiltOn start u → HasPairNames u → (pair : Pair) → Contains u.pairs pair
    → (one : IndexPackage) → pair.listed ≡ Some one → IsTrue (is_name one.pkg.name)
pair_listed u start built named pair within one is =
    let all = All-contains (λ (p : Pair). Rattle.std.specs.Prelude.MatchOption p.listed Rattle.std.specs.Prelude.⊤ (λ listed. IsOf p.pkg.name p.pkg.version listed.pkg)) u.pairs pair built.listed within in
    let Is : Option IndexPackage → Type 0 = λ o. Rattle.std.specs.Prelude.MatchOption o Rattle.std.specs.Prelude.⊤ (λ listed. IsOf pair.pkg.name pair.pkg.version listed.pkg) in
    let of : Is (Some one) = subst Is is all in
    let Named : List ℕ → Type 0 = λ name. IsTrue (is_name name) in
    subst Named (sym of.0) (All-contains (λ (p : Pair). IsTrue (is_name p.pkg.name)) u.pairs pair named within)

step_named : (u : Universe) (start db : List Record) (taken : Step) → IsBuiltOn start u → HasPairNames u → HasNames db
    → HasNames (after u db taken)
step_named u start db (step.Unpack name version) built pairs named = at (listed_of u name version) refl
  where
    at : (listed : Option IndexPackage) → listed_of u name version ≡ listed → HasNames (option_map_or (λ (stanza : IndexPackage). after_unpack stanza db) listed db)
    at None is = named
    at (Some listed) is = unpacked_named listed db (listed_named u u.pairs name version listed (pair_listed u start built pairs) is) named
step_named u start db (step.Deconfigure name) built pairs named = changed_named (is_named name) deconfigured db (λ entry was. was) named
step_named u start db (step.Configure names) built pairs named = changed_named (is_among names) configured db (λ entry was. was) named
step_named u start db (step.Remove name) built pairs named = changed_named (is_named name) removed db (λ entry was. was) named
step_named u start db (step.Purge name) built pairs named = All-intro IsNamed (filter (λ (entry : Record). not (is_named name entry)) db)
    (λ entry within. All-contains IsNamed db entry named (Contains-filter (λ (r : Record). not (is_named name r)) db entry within).0)

-- the records that a run leads to have package names
run_named : (u : Universe) (start db finish : List Record) (steps : List Step) → IsBuiltOn start u → HasPairNames u → HasNames db
    → Run u db steps finish → HasNames finish
run_named u start db finish [] built pairs named run = subst HasNames (sym run) named
run_named u start db finish (taken ∷ steps) built pairs named run =
    run_named u start (after u db taken) finish steps built pairs (step_named u start db taken built pairs named) run.1

-- The same version in another text

-- two tests that agree find the same
found_alike : {X : Type 0} (p q : X → Bool) → ((x : X) → p x ≡ q x) → (xs : List X) → find p xs ≡ find q xs
found_alike p q agree [] = refl
found_alike {X} p q agree (x ∷ xs) =
    ap (λ (b : Bool). cond b (Some x) (find p xs)) (agree x) ∙ ap (λ (rest : Option X). cond (q x) (Some x) rest) (found_alike p q agree xs)

same_listed : (u : Universe) (name version other : List ℕ) → SameVersion version other → listed_of u name version ≡ listed_of u name other
same_listed u name version other same = ap (option_and_then (λ (p : Pair). p.listed))
    (found_alike (λ (p : Pair). is_of name version p.pkg) (λ (p : Pair). is_of name other p.pkg)
    (λ p. ap (λ (ordering : Rattle.std.specs.declared.cmp.Ordering.Ordering). bytes_eq p.pkg.name name && is_eq ordering)
    (version_cmp-same_right p.pkg.version version other same)) u.pairs)

-- an unpacking is allowed in whatever text of its version
unpack_alike : (u : Universe) (db : List Record) (name version other : List ℕ) → SameVersion other version
    → Allowed u db (step.Unpack name version) → Allowed u db (step.Unpack name other)
unfolding Allowed StandsAs
unpack_alike u db name version other same allowed = All-weaker (Asks u db (step.Unpack name version)) (Asks u db (step.Unpack name other))
    each (rules_of (step.Unpack name version)) allowed
  where
    listed : (Ask : Option IndexPackage → Type 0) → Ask (listed_of u name version) → Ask (listed_of u name other)
    listed Ask asked = subst Ask (sym (same_listed u name other version same)) asked

    each : (failed : Rule) → Asks u db (step.Unpack name version) failed → Asks u db (step.Unpack name other) failed
    each rule.StartConflict asked = asked
    each rule.PreDepends asked = listed (λ l. UnpackAsks l db name other rule.PreDepends) asked
    each rule.Conflict asked = listed (λ l. UnpackAsks l db name other rule.Conflict) asked
    each rule.Breaks asked = listed (λ l. UnpackAsks l db name other rule.Breaks) asked
    each rule.Depends asked = asked
    each rule.Group asked = asked
    each rule.NeededBy asked = asked
    each rule.Essential asked = asked
    each rule.Held asked = asked
    each rule.WrongState asked = λ standing. asked (Any-weaker
        (λ (entry : Record). (entry.name ≡ name) × (Stands entry × SameVersion entry.version other))
        (λ (entry : Record). (entry.name ≡ name) × (Stands entry × SameVersion entry.version version)) db
        (λ entry within is. (is.0, (is.1.0, SameVersion-trans entry.version other version is.1.1 same))) standing)
    each rule.NotAdmitted asked = listed IsSome asked
    each rule.End asked = asked

-- Steps that lead on

member_named : (selected : List Pkg) (name version : List ℕ) → AreNamed selected → HasVersion name version selected → IsTrue (is_name name)
unfolding HasVersion
member_named selected name version named has = Any-elim (IsOf name version) selected (IsTrue (is_name name))
    (λ pkg within is. let Named : List ℕ → Type 0 = λ n. IsTrue (is_name n) in
    subst Named is.0 (All-contains (λ (p : Pkg). IsTrue (is_name p.name)) selected pkg named within)) has

-- a step that leads on and is allowed goes with one that is forward and allowed
pub forward_beside : (u : Universe) (selected : List Pkg) (db : List Record) (taken : Step) → AreNamed selected → HasNames db
    → IsAtRest u selected db → LeadsOn u selected db taken → ¬ Allowed u db taken
unfolding IsAtRest HasVersion IsSelectedIn IsOfSelected Allowed
forward_beside u selected db (step.Unpack name version) members names rest leads allowed = Any-elim (IsOf name version) selected ⊥
    (λ pkg within is. let Named : List ℕ → Type 0 = λ n. IsTrue (is_name n) in
    rest (step.Unpack name pkg.version) (
      subst Named is.0 (All-contains (λ (p : Pkg). IsTrue (is_name p.name)) selected pkg members within),
      Any-intro (λ (p : Pkg). (p.name ≡ name) × (p.version ≡ pkg.version)) selected pkg within (is.0, refl),
    )
    (unpack_alike u db name version pkg.version is.1 allowed)) leads
forward_beside u selected db (step.Deconfigure name) members names rest leads allowed = leads
forward_beside u selected db (step.Configure group) members names rest leads allowed =
    rest (step.Configure group) (
      leads.0,
      All-weaker (IsSelectedIn selected db) (IsOfSelected selected db) (λ name is. (
        Any-elim (λ (entry : Record). (entry.name ≡ name) × HasVersion name entry.version selected) db (IsTrue (is_name name))
            (λ entry within has. member_named selected name entry.version members has.1) is,
        is,
      )) group leads.1,
    ) allowed
forward_beside u selected db (step.Remove name) members names rest leads allowed =
    rest (step.Remove name) (removed_name, leads) allowed
  where
    removed_name : IsTrue (is_name name)
    removed_name =
        let state : HasRecord (λ entry. IsPresent entry × HasSoundFlag entry) name db =
        All-contains (Asks u db (step.Remove name)) (rules_of (step.Remove name)) rule.WrongState allowed
        (Contains-head rule.WrongState (rule.Held ∷ rule.Essential ∷ rule.NeededBy ∷ [])) in
        Any-elim (λ (entry : Record). (entry.name ≡ name) × (IsPresent entry × HasSoundFlag entry)) db (IsTrue (is_name name))
        (λ entry within is. let Named : List ℕ → Type 0 = λ n. IsTrue (is_name n) in subst Named is.0 (All-contains IsNamed db entry names within)) state
forward_beside u selected db (step.Purge name) members names rest leads allowed = rest (step.Purge name) leads allowed

-- where no forward step is allowed behind a run, no step that leads on is
pub nothing_leads_on : (u : Universe) (selected : List Pkg) (start finish : List Record) (steps : List Step) → IsBuiltOn start u
    → HasPairNames u → HasNames start → AreNamed selected → Run u start steps finish → IsAtRest u selected finish
    → NothingLeadsOn u selected finish
nothing_leads_on u selected start finish steps built pairs names members run rest taken leads =
    forward_beside u selected finish taken members (run_named u start start finish steps built pairs names run) rest leads
