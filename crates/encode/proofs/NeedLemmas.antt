-- What a pair needs, as premises with their clauses.
use Rattle.std.proofs.Common.{◌≡◌, ℕ, ◌+◌, ◌⊎◌, List, Some, None, length, refl, sym, subst, ◌∙◌}
use Rattle.std.specs.Prelude.{◌↔◌, ⊤, slice_get}
use Rattle.std.proofs.lemmas.Option.{same_Some}
use Rattle.rules.specs.Package.{Atom, MatchesSome, Pkg}
use Rattle.rules.specs.Universe.{Universe}
use Rattle.refutation.specs.Clause.{HasAt, IsListOf, item_at}
use Rattle.refutation.specs.Premise.{IsPremise, PairHas, Selects}
use Rattle.refutation.specs.declared.line.Premise.{Premise}
use Rattle.refutation.specs.declared.line.Premise.TheVariants as premise
use Rattle.refutation.specs.declared.literal.Literal.{Literal}
use Rattle.refutation.specs.declared.literal.Literal.TheVariants as literal
use Rattle.encode.specs.Growing.{IsDependsOf, IsNeed, IsNeedOf, IsOfFirst, IsPreDependsOf, PkgIsAt}
use Rattle.encode.specs.Numbers.{IsOutOrMatching}
use Rattle.encode.proofs.NumberLemmas.{none_in}
use Rattle.encode.proofs.PairLemmas.{at_number, at_place, has_pkg, item_there, within_pairs}
use Rattle.universe_parts.specs.Parts.{packages_of}
use mathlib.Core.Logic.{inl, inr}

-- that a pair has a clause in a field, and the literals that the clause says
abbrev pub NeedsAt : Universe → (Pkg → List (List Atom)) → ℕ → ℕ → Type 0
NeedsAt u field number clause = PairHas u number (λ pkg. HasAt (field pkg) clause (λ _. ⊤))

abbrev pub IsInNeed : Universe → (Pkg → List (List Atom)) → ℕ → ℕ → Literal → Type 0
IsInNeed u field number clause item = (item ≡ literal.Unselected number)
    ⊎ Selects u (λ other. PairHas u number (λ pkg. HasAt (field pkg) clause (MatchesSome other))) item

-- a property that is another's selects the same
selects_alike : (u : Universe) (P Q : Pkg → Type 0) → ((pkg : Pkg) → P pkg ↔ Q pkg) → (item : Literal)
    → Selects u P item ↔ Selects u Q item
selects_alike u P Q alike (literal.Selected number) = (
  λ (pair, there, holds). (pair, there, (alike pair.pkg).0 holds),
  λ (pair, there, holds). (pair, there, (alike pair.pkg).1 holds),
)
selects_alike u P Q alike (literal.Unselected number) = (λ is. is, λ is. is)

-- the literals of the clause at a place of a field
pub need_list : (u : Universe) (field : Pkg → List (List Atom)) (number place clause : ℕ) (pkg : Pkg) (atoms : List Atom) (literals : List Literal)
    → PkgIsAt u number pkg → slice_get (field pkg) place ≡ Some atoms → clause ≡ place + 1 → IsListOf (IsOutOrMatching u number atoms) literals
    → IsListOf (IsInNeed u field number clause) literals
need_list u field number place clause pkg atoms literals is there same all item =
    let selects = selects_alike u (λ other. MatchesSome other atoms)
    (λ other. PairHas u number (λ p. HasAt (field p) clause (MatchesSome other))) alike item in (
      λ within. elim ((all item).0 within) [ inl out ↦ inl out | inr some ↦ inr (selects.0 some) ],
      λ either. elim either [ inl out ↦ (all item).1 (inl out) | inr some ↦ (all item).1 (inr (selects.1 some)) ],
    )
  where
    here : item_at (field pkg) clause ≡ Some atoms
    here = at_place (field pkg) clause place atoms same there

    alike : (other : Pkg) → MatchesSome other atoms ↔ PairHas u number (λ p. HasAt (field p) clause (MatchesSome other))
    alike other =
        let has = has_pkg u number pkg (λ p. HasAt (field p) clause (MatchesSome other)) is in (
          λ some. has.0 (atoms, here, some),
          λ some.
              let (clause_atoms, at, matches) = has.1 some in
              subst (MatchesSome other) (same_Some clause_atoms atoms (sym at ∙ here)) matches,
        )

-- the clauses at all places of a field are just the premises of the field
pub all_needs : (u : Universe) (field : Pkg → List (List Atom)) (make : ℕ → Premise) (number : ℕ) (pkg : Pkg) → PkgIsAt u number pkg
    → ((clause : ℕ) → IsPremise u (make clause) ↔ NeedsAt u field number clause) → (reason : Premise)
    → IsOfFirst (λ place one. one ≡ make (place + 1)) (length (field pkg)) reason ↔ (IsPremise u reason × ((clause : ℕ) × (reason ≡ make clause)))
all_needs u field make number pkg is premises reason = (to, from)
  where
    to : IsOfFirst (λ place one. one ≡ make (place + 1)) (length (field pkg)) reason → IsPremise u reason × ((clause : ℕ) × (reason ≡ make clause))
    to (place, within, same) =
        let (atoms, there) = item_there (field pkg) place within in
        let has : NeedsAt u field number (place + 1) = (has_pkg u number pkg (λ p. HasAt (field p) (place + 1) (λ _. ⊤)) is).0
        (atoms, at_place (field pkg) (place + 1) place atoms refl there, tt) in
        (subst (IsPremise u) (sym same) ((premises (place + 1)).1 has), (place + 1, same))

    from : IsPremise u reason × ((clause : ℕ) × (reason ≡ make clause)) → IsOfFirst (λ place one. one ≡ make (place + 1)) (length (field pkg)) reason
    from (so, (clause, same)) =
        let has = (premises clause).0 (subst (IsPremise u) same so) in
        let (atoms, there, unit) = (has_pkg u number pkg (λ p. HasAt (field p) clause (λ _. ⊤)) is).1 has in
        let (place, next, within, at) = at_number (field pkg) clause atoms there in
        let Made : ℕ → Type 0 = λ n. reason ≡ make n in
        (place, within, subst Made next same)

-- the premises of the two fields are what the pair needs
pub both_fields : (u : Universe) (number : ℕ) (reason : Premise)
    → ((IsPremise u reason × IsPreDependsOf number reason) ⊎ (IsPremise u reason × IsDependsOf number reason)) ↔ (IsPremise u reason × IsNeedOf number reason)
both_fields u number reason = (to, from reason)
  where
    to : (IsPremise u reason × IsPreDependsOf number reason) ⊎ (IsPremise u reason × IsDependsOf number reason) → IsPremise u reason × IsNeedOf number reason
    to (inl (so, (clause, same))) = (so, subst (IsNeedOf number) (sym same) refl)
    to (inr (so, (clause, same))) = (so, subst (IsNeedOf number) (sym same) refl)

    from : (f : Premise) → IsPremise u f × IsNeedOf number f → (IsPremise u f × IsPreDependsOf number f) ⊎ (IsPremise u f × IsDependsOf number f)
    from (premise.Same pair other) (so, of) = absurd of
    from (premise.PreDepends pair clause) (so, of) =
        let Of : ℕ → Type 0 = λ n. premise.PreDepends pair clause ≡ premise.PreDepends n clause in inl (so, (clause, subst Of of refl))
    from (premise.Depends pair clause) (so, of) =
        let Of : ℕ → Type 0 = λ n. premise.Depends pair clause ≡ premise.Depends n clause in inr (so, (clause, subst Of of refl))
    from (premise.Conflicts pair other) (so, of) = absurd of
    from (premise.Breaks pair other) (so, of) = absurd of
    from (premise.Goal asked) (so, of) = absurd of
    from (premise.GoalOn asked pair) (so, of) = absurd of
    from (premise.Hold pair) (so, of) = absurd of
    from (premise.Essential name) (so, of) = absurd of
    from (premise.Keep name) (so, of) = absurd of

-- a premise of what a pair needs speaks of that pair
pub need_has : (u : Universe) (number : ℕ) (reason : Premise) → IsPremise u reason → IsNeedOf number reason → PairHas u number (λ _. ⊤)
need_has u number (premise.Same pair other) so of = absurd of
need_has u number (premise.PreDepends pair clause) (here, there, has) of =
    let Has : ℕ → Type 0 = λ n. PairHas u n (λ _. ⊤) in subst Has of (here, there, tt)
need_has u number (premise.Depends pair clause) (here, there, has) of =
    let Has : ℕ → Type 0 = λ n. PairHas u n (λ _. ⊤) in subst Has of (here, there, tt)
need_has u number (premise.Conflicts pair other) so of = absurd of
need_has u number (premise.Breaks pair other) so of = absurd of
need_has u number (premise.Goal asked) so of = absurd of
need_has u number (premise.GoalOn asked pair) so of = absurd of
need_has u number (premise.Hold pair) so of = absurd of
need_has u number (premise.Essential name) so of = absurd of
need_has u number (premise.Keep name) so of = absurd of

pub no_need : (u : Universe) (place : ℕ) → None ≡ slice_get (packages_of u.pairs) place → (reason : Premise)
    → ¬ (IsPremise u reason × IsNeedOf (place + 1) reason)
no_need u place is reason (so, of) = none_in u place (λ _. ⊤) is (need_has u (place + 1) reason so of)

-- what the pairs at all places need is what pairs need
pub all_pairs_need : (u : Universe) (reason : Premise)
    → IsOfFirst (λ place one. IsPremise u one × IsNeedOf (place + 1) one) (length u.pairs) reason ↔ (IsPremise u reason × IsNeed reason)
all_pairs_need u reason = (
  λ (place, within, (so, of)). (so, (place + 1, of)),
  λ (so, (number, of)).
      let (place, next, within) = within_pairs u number (λ _. ⊤) (need_has u number reason so of) in
      let Of : ℕ → Type 0 = λ n. IsNeedOf n reason in
      (place, within, (so, subst Of next of)),
)
