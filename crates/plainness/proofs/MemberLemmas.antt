-- The packages of a selection's numbers are its members, and whether a change is plain doesn't hang on their order.
use Rattle.std.proofs.Common.{◌≡◌, ◌≢◌, ℕ, zero, suc, List, [], ◌∷◌, map, Option, Some, None, refl, ap, subst, ◌∙◌}
use Rattle.std.specs.Prelude.{slice_get}
use Rattle.std.specs.List.{All, Any, Contains, cons_option, filter, filter_map}
use Rattle.std.specs.Option.{option_map}
use Rattle.std.proofs.lemmas.List.Elements.{All-contains, Contains-append_cases, Contains-append_left, Contains-append_right}
use Rattle.std.proofs.lemmas.Option.{same_Some}
use Rattle.refutation.specs.Selection.{selects}
use Rattle.refutation.proofs.SelectionLemmas.{contained_selects, selects_contained}
use Rattle.refutation.specs.Clause.{item_at}
use Rattle.refutation.proofs.MemberLemmas.{is_member, picked}
use Rattle.plain.specs.Change.{HaveNoClash, IsMetByStaying, IsPlain, IsReady, Stays, old_and_new}
use Rattle.rules.specs.Database.{Record, HasSoundFlag, IsPresent, pkg_of}
use Rattle.rules.specs.ElementLaws.{All-intro, Any-elim, Any-intro, Contains-cons, Contains-head, Contains-nil, Contains-rest}
use Rattle.rules.specs.Package.{Atom, MatchesSome, Pkg}
use Rattle.rules.specs.Sound.{HasMember, selected}
use Rattle.rules.specs.State.{is_present_state}
use Rattle.rules.specs.Universe.{Pair, Universe}
use Rattle.plainness.specs.Members.{AreSame, numbered_members, pkg_of_number}
use mathlib.Core.Logic.{inl, inr}

-- what is left by a filter that changes comes from an element
Contains-filter_map : {X Y : Type 0} (h : X → Option Y) (xs : List X) (y : Y) → Contains (filter_map h xs) y
    → (x : X) × Contains xs x × (h x ≡ Some y)
Contains-filter_map h [] y within = absurd (Contains-nil y within)
Contains-filter_map {X} {Y} h (x ∷ xs) y within = at (h x) refl within (Contains-filter_map h xs y)
  where
    later : ((z : X) × Contains xs z × (h z ≡ Some y)) → (z : X) × Contains (x ∷ xs) z × (h z ≡ Some y)
    later there = (there.0, Contains-rest x xs there.0 there.1, there.2)

    at : (o : Option Y) → h x ≡ o → Contains (cons_option o (filter_map h xs)) y
        → (Contains (filter_map h xs) y → (z : X) × Contains xs z × (h z ≡ Some y))
        → (z : X) × Contains (x ∷ xs) z × (h z ≡ Some y)
    at None is whole rest = later (rest whole)
    at (Some w) is whole rest = elim (Contains-cons w (filter_map h xs) y whole) [
      | inl same ↦ (x, Contains-head x xs, is ∙ ap Some same)
      | inr there ↦ later (rest there)
    ]

-- and an element of which something is left is there
Contains-filter_map_intro : {X Y : Type 0} (h : X → Option Y) (xs : List X) (x : X) (y : Y) → Contains xs x → h x ≡ Some y
    → Contains (filter_map h xs) y
Contains-filter_map_intro h [] x y within is = absurd (Contains-nil x within)
Contains-filter_map_intro {X} {Y} h (z ∷ zs) x y within is =
    elim (Contains-cons z zs x within) [
      | inl same ↦ here (h z) (ap h same ∙ is)
      | inr later ↦ past (h z) (Contains-filter_map_intro h zs x y later is)
    ]
  where
    here : (o : Option Y) → o ≡ Some y → Contains (cons_option o (filter_map h zs)) y
    here None same = absurd (let e : None ≡ Some y = same in cc)
    here (Some w) same = subst (Contains (w ∷ filter_map h zs)) (same_Some w y same) (Contains-head w (filter_map h zs))

    past : (o : Option Y) → Contains (filter_map h zs) y → Contains (cons_option o (filter_map h zs)) y
    past None there = there
    past (Some w) there = Contains-rest w (filter_map h zs) y there

-- a number with a package is that of a pair with it
pair_of : (u : Universe) (number : ℕ) (pkg : Pkg) → pkg_of_number u number ≡ Some pkg
    → (pair : Pair) × (item_at u.pairs number ≡ Some pair) × (pair.pkg ≡ pkg)
pair_of u zero pkg is = absurd (let e : None ≡ Some pkg = is in cc)
pair_of u (suc place) pkg is = at (slice_get u.pairs place) refl is
  where
    at : (o : Option Pair) → slice_get u.pairs place ≡ o → option_map (λ (pair : Pair). pair.pkg) o ≡ Some pkg
        → (pair : Pair) × (slice_get u.pairs place ≡ Some pair) × (pair.pkg ≡ pkg)
    at None there is = absurd (let e : None ≡ Some pkg = is in cc)
    at (Some pair) there is = (pair, there, same_Some pair.pkg pkg is)

-- the number of a pair has its package
pkg_there : (u : Universe) (number : ℕ) (pair : Pair) → item_at u.pairs number ≡ Some pair → pkg_of_number u number ≡ Some pair.pkg
pkg_there u zero pair is = absurd (let e : None ≡ Some pair = is in cc)
pkg_there u (suc place) pair is = ap (option_map (λ (p : Pair). p.pkg)) is

-- the packages of the numbers are those that are selected
pub same_members : (u : Universe) (numbers : List ℕ) → AreSame (numbered_members u numbers) (selected u (selects numbers))
same_members u numbers pkg = (to, from)
  where
    to : Contains (numbered_members u numbers) pkg → Contains (selected u (selects numbers)) pkg
    to within =
        let origin = Contains-filter_map (pkg_of_number u) numbers pkg within in
        let at = pair_of u origin.0 pkg origin.2 in
        subst (Contains (selected u (selects numbers))) at.2
        (is_member u (selects numbers) origin.0 at.0 at.1 (selects_contained numbers origin.0 origin.1))

    from : Contains (selected u (selects numbers)) pkg → Contains (numbered_members u numbers) pkg
    from within =
        let one = picked u (selects numbers) pkg within in
        Contains-filter_map_intro (pkg_of_number u) numbers one.number pkg (contained_selects numbers one.number one.chosen)
        (pkg_there u one.number one.pair one.there ∙ ap Some one.same)

-- a change that is plain to members is plain to the same in another order
module _ (u : Universe) (start : List Record) (members others : List Pkg) (same : AreSame members others) where
  old_or_new : (pkg : Pkg) → Contains (old_and_new start others) pkg → Contains (old_and_new start members) pkg
  old_or_new pkg within =
      let present : List Pkg = map pkg_of (filter (λ (entry : Record). is_present_state entry.state) start) in
      elim (Contains-append_cases present others pkg within) [
        | inl old ↦ Contains-append_left present members pkg old
        | inr here ↦ Contains-append_right present members pkg ((same pkg).1 here)
      ]

  no_clash_again : HaveNoClash start members → HaveNoClash start others
  unfolding HaveNoClash
  no_clash_again no_clash pkg other within there = no_clash pkg other (old_or_new pkg within) (old_or_new other there)

  met_again : (name : List ℕ) (clause : List Atom) → IsMetByStaying start members name clause → IsMetByStaying start others name clause
  unfolding IsMetByStaying
  met_again name clause some = Any-elim (λ (other : Pkg). (other.name ≢ name) × Stays start other × MatchesSome other clause) members
      (Any (λ (other : Pkg). (other.name ≢ name) × Stays start other × MatchesSome other clause) others)
      (λ other within is. Any-intro (λ (other : Pkg). (other.name ≢ name) × Stays start other × MatchesSome other clause) others other
      ((same other).0 within) is) some

  ready_again : All (IsReady start members) members → All (IsReady start others) others
  ready_again ready = All-intro (IsReady start others) others (λ pkg within away.
      All-intro (IsMetByStaying start others pkg.name) pkg.relations.pre_depends (λ clause there.
      met_again pkg.name clause (All-contains (IsMetByStaying start members pkg.name) pkg.relations.pre_depends clause
      (All-contains (IsReady start members) members pkg ready ((same pkg).1 within) away) there)))

  member_again : (name : List ℕ) → HasMember name members → HasMember name others
  unfolding HasMember
  member_again name some = Any-elim (λ (m : Pkg). m.name ≡ name) members (Any (λ (m : Pkg). m.name ≡ name) others)
      (λ m within named. Any-intro (λ (m : Pkg). m.name ≡ name) others m ((same m).0 within) named) some

  pub plain_again : IsPlain u start members → IsPlain u start others
  plain_again plain = record {
    no_clash = no_clash_again plain.no_clash;
    ready = ready_again plain.ready;
    unpacked_unheld = λ pkg unpack. plain.unpacked_unheld pkg ((same pkg).1 unpack.0, unpack.1);
    removed_unheld = λ name goes. plain.removed_unheld name (goes.0, λ has. goes.1 (member_again name has));
    purged_unheld = plain.purged_unheld;
    removed_sound = All-intro (λ (entry : Record). IsPresent entry → ¬ HasMember entry.name others → HasSoundFlag entry) start (λ entry there is alone.
        All-contains (λ (entry : Record). IsPresent entry → ¬ HasMember entry.name members → HasSoundFlag entry) start entry
        plain.removed_sound there is (λ has. alone (member_again entry.name has)));
    left_sound = plain.left_sound;
  }

-- the other way round
pub same_back : (members others : List Pkg) → AreSame members others → AreSame others members
same_back members others same pkg = ((same pkg).1, (same pkg).0)
