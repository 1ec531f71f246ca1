-- Members that stay, and what is ready by them.
use Rattle.std.proofs.Common.{◌≡◌, ◌≢◌, ◌⊎◌, ℕ, ◌+◌, ◌<◌, List, [], ◌∷◌, ◌++◌, length, take, get_or, map, Bor, sym, subst}
use Rattle.std.specs.Prelude.{◌↔◌}
use Rattle.std.specs.List.{All, Any, Contains}
use Rattle.std.proofs.lemmas.List.{map-append, take_more}
use Rattle.std.proofs.lemmas.List.Elements.{All-contains, Contains-append_cases, Contains-append_left, Contains-append_right}
use Rattle.plain.specs.Change.{IsMetByStaying, IsReady, Stays}
use Rattle.rules.specs.Database.{Record}
use Rattle.rules.specs.ElementLaws.{All-intro, Any-elim, Any-intro, Contains-cons, Contains-head, Contains-map, Contains-map_intro, Contains-nil}
use Rattle.rules.specs.Package.{Atom, MatchesSome, Pkg}
use Rattle.plainness.specs.Parts.{AreStaying, IsMatchedByOther, IsReadyBy}
use mathlib.Core.Logic.{inl, inr}

-- the packages that are lent
abbrev pub lent : List (Bor Pkg) → List Pkg
lent packages = map (λ (pkg : Bor Pkg). pkg.now) packages

-- one more that is lent
pub lent_more : (packages : List (Bor Pkg)) (last : Bor Pkg) (pkg : Pkg) → Contains (lent (packages ++ last ∷ [])) pkg ↔ (Contains (lent packages) pkg ⊎ (pkg ≡ last.now))
lent_more packages last pkg =
    let Over : List Pkg → Type 0 = λ ps. Contains ps pkg ↔ (Contains (lent packages) pkg ⊎ (pkg ≡ last.now)) in
    subst Over (sym (map-append (λ (p : Bor Pkg). p.now) packages (last ∷ []))) (
      λ within. elim (Contains-append_cases (lent packages) (last.now ∷ []) pkg within) [
        | inl before ↦ inl before
        | inr here ↦ elim (Contains-cons last.now [] pkg here) [ inl same ↦ inr (sym same) | inr none ↦ absurd (Contains-nil pkg none) ]
      ],
      λ either. elim either [
        | inl before ↦ Contains-append_left (lent packages) (last.now ∷ []) pkg before
        | inr same ↦ Contains-append_right (lent packages) (last.now ∷ []) pkg (subst (Contains (last.now ∷ [])) (sym same) (Contains-head last.now []))
      ],
    )

-- what stays with one that stays, and without one that doesn't
pub pushed : (start : List Record) (staying after : List (Bor Pkg)) (member : Bor Pkg) → Stays start member.now → after ≡ staying ++ member ∷ []
    → (pkg : Pkg) → Contains (lent after) pkg ↔ (Contains (lent staying) pkg ⊎ ((pkg ≡ member.now) × Stays start pkg))
pushed start staying after member is grown pkg =
    let more = lent_more staying member pkg in
    let Over : List (Bor Pkg) → Type 0 = λ ps. Contains (lent ps) pkg ↔ (Contains (lent staying) pkg ⊎ ((pkg ≡ member.now) × Stays start pkg)) in
    subst Over (sym grown) (
      λ within. elim (more.0 within) [ inl before ↦ inl before | inr same ↦ inr (same, subst (Stays start) (sym same) is) ],
      λ either. elim either [ inl before ↦ more.1 (inl before) | inr here ↦ more.1 (inr here.0) ],
    )

pub not_pushed : (start : List Record) (staying : List (Bor Pkg)) (member : Bor Pkg) → ¬ Stays start member.now
    → (pkg : Pkg) → Contains (lent staying) pkg ↔ (Contains (lent staying) pkg ⊎ ((pkg ≡ member.now) × Stays start pkg))
not_pushed start staying member leaves pkg = (
  λ within. inl within,
  λ either. elim either [ inl before ↦ before | inr here ↦ absurd (leaves (subst (Stays start) here.0 here.1)) ],
)

-- those of no members
pub none_stay : (start : List Record) (members staying : List (Bor Pkg)) → staying ≡ [] → AreStaying start (lent (take 0 members)) (lent staying)
none_stay start members staying empty pkg = (
  λ within. absurd (Contains-nil pkg (subst (λ (ps : List (Bor Pkg)). Contains (lent ps) pkg) empty within)),
  λ both. absurd (Contains-nil pkg both.0),
)

-- those of one member more
pub more_stay : (start : List Record) (members staying after : List (Bor Pkg)) (place : ℕ) (d : Bor Pkg) → place < length members
    → ((pkg : Pkg) → Contains (lent after) pkg ↔ (Contains (lent staying) pkg ⊎ ((pkg ≡ (get_or members place d).now) × Stays start pkg)))
    → AreStaying start (lent (take place members)) (lent staying) → AreStaying start (lent (take (place + 1) members)) (lent after)
more_stay start members staying after place d within adds so_far pkg =
    let member : Bor Pkg = get_or members place d in
    let last = lent_more (take place members) member pkg in
    let Over : List (Bor Pkg) → Type 0 = λ ms. Contains (lent after) pkg ↔ (Contains (lent ms) pkg × Stays start pkg) in
    subst Over (sym (take_more members place d within)) (
      λ there. elim ((adds pkg).0 there) [
        | inl before ↦ let both = (so_far pkg).0 before in (last.1 (inl both.0), both.1)
        | inr here ↦ (last.1 (inr here.0), here.1)
      ],
      λ both. elim (last.0 both.0) [
        | inl before ↦ (adds pkg).1 (inl ((so_far pkg).1 (before, both.1)))
        | inr same ↦ (adds pkg).1 (inr (same, both.1))
      ],
    )

-- all have been looked at
pub all_stay : (start : List Record) (members staying : List (Bor Pkg)) (place : ℕ) → take place members ≡ members
    → AreStaying start (lent (take place members)) (lent staying) → AreStaying start (lent members) (lent staying)
all_stay start members staying place all are = subst (λ (ms : List (Bor Pkg)). AreStaying start (lent ms) (lent staying)) all are

-- a clause that one which stays matches
met_by : (start : List Record) (members staying : List Pkg) → AreStaying start members staying → (name : List ℕ) (clause : List Atom)
    → IsMatchedByOther staying name clause ↔ IsMetByStaying start members name clause
unfolding IsMetByStaying
met_by start members staying are name clause = (
  λ some. Any-elim (λ (o : Pkg). (o.name ≢ name) × MatchesSome o clause) staying (Any (λ (o : Pkg). (o.name ≢ name) × Stays start o × MatchesSome o clause) members)
      (λ other within both. let stays = (are other).0 within in
      Any-intro (λ (o : Pkg). (o.name ≢ name) × Stays start o × MatchesSome o clause) members other stays.0 (both.0, stays.1, both.1)) some,
  λ some. Any-elim (λ (o : Pkg). (o.name ≢ name) × Stays start o × MatchesSome o clause) members (Any (λ (o : Pkg). (o.name ≢ name) × MatchesSome o clause) staying)
      (λ other within all. Any-intro (λ (o : Pkg). (o.name ≢ name) × MatchesSome o clause) staying other ((are other).1 (within, all.1)) (all.0, all.2)) some,
)

-- a member is ready by those that stay
ready_by : (start : List Record) (members staying : List Pkg) → AreStaying start members staying → (member : Pkg)
    → IsReadyBy start staying member ↔ IsReady start members member
ready_by start members staying are member = (
  λ ready away. All-intro (IsMetByStaying start members member.name) member.relations.pre_depends (λ clause within.
      (met_by start members staying are member.name clause).0 (All-contains (IsMatchedByOther staying member.name) member.relations.pre_depends clause (ready away) within)),
  λ ready away. All-intro (IsMatchedByOther staying member.name) member.relations.pre_depends (λ clause within.
      (met_by start members staying are member.name clause).1 (All-contains (IsMetByStaying start members member.name) member.relations.pre_depends clause (ready away) within)),
)

-- each member is
pub all_ready : (start : List Record) (members : List (Bor Pkg)) (staying : List Pkg) → AreStaying start (lent members) staying
    → All (λ (member : Bor Pkg). IsReadyBy start staying member.now) members ↔ All (IsReady start (lent members)) (lent members)
all_ready start members staying are = (
  λ all. All-intro (IsReady start (lent members)) (lent members) (λ pkg within.
      let from = Contains-map (λ (m : Bor Pkg). m.now) members pkg within in
      subst (IsReady start (lent members)) from.2 ((ready_by start (lent members) staying are from.0.now).0
      (All-contains (λ (m : Bor Pkg). IsReadyBy start staying m.now) members from.0 all from.1))),
  λ all. All-intro (λ (m : Bor Pkg). IsReadyBy start staying m.now) members (λ member within.
      (ready_by start (lent members) staying are member.now).1
      (All-contains (IsReady start (lent members)) (lent members) member.now all (Contains-map_intro (λ (m : Bor Pkg). m.now) members member within))),
)
