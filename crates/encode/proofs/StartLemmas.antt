-- What the start asks for, as premises.
use Rattle.std.proofs.Common.{◌≡◌, ℕ, ◌⊎◌, true, false, List, Option, Some, None, MatchOption, refl, sym, subst, ◌∙◌}
use Rattle.std.specs.Prelude.{◌↔◌, ⊤, IsTrue}
use Rattle.std.specs.List.{Any, Contains}
use Rattle.rules.specs.ElementLaws.{Any-elim, Any-intro, Any-weaker}
use Rattle.rules.specs.Package.{Pkg}
use Rattle.rules.specs.PlanLaws.{IsEssentialIn}
use Rattle.rules.specs.Universe.{IsOf, Start, Universe}
use Rattle.rules.specs.Version.{SameVersion}
use Rattle.rules.specs.declared.goal.Goal.TheVariants as goal
use Rattle.refutation.specs.Premise.{IsPremise, PairHas}
use Rattle.refutation.specs.declared.line.Premise.{Premise}
use Rattle.refutation.specs.declared.line.Premise.TheVariants as premise
use Rattle.encode.specs.Growing.{IsOfStart}
use Rattle.encode.specs.Starts.{IsEssentialBy, IsHeldBy, IsHoldBy, IsHoldEach, IsKeepBy, IsSaidBy}
use mathlib.Core.Logic.{inl, inr}

-- the premises of each of a list of pairs
pub hold_each : (pairs : List ℕ) (reason : Premise) → Any (λ pair. reason ≡ premise.Hold pair) pairs ↔ IsHoldEach pairs reason
hold_each pairs reason = (
  λ some. Any-elim (λ pair. reason ≡ premise.Hold pair) pairs (IsHoldEach pairs reason) (λ pair within same. (pair, within, same)) some,
  λ (pair, within, same). Any-intro (λ one. reason ≡ premise.Hold one) pairs pair within same,
)

-- the premises of the pairs that are held are those of the start's name
pub hold_premises : (u : Universe) (start : Start) (pairs slice : List ℕ) → slice ≡ pairs
    → ((pair : ℕ) → Contains pairs pair ↔ PairHas u pair (IsHeldBy start)) → (reason : Premise) → IsHoldEach slice reason ↔ IsHoldBy u start reason
hold_premises u start pairs slice is are reason =
    let Over : List ℕ → Type 0 = λ xs. IsHoldEach xs reason ↔ IsHoldBy u start reason in
    subst Over (sym is) (
      λ (pair, within, same). (pair, (are pair).0 within, same),
      λ (pair, has, same). (pair, (are pair).1 has, same),
    )

-- the pairs of the version that stands are held where the name is
pub held_are : (u : Universe) (start : Start) (version : List ℕ) → start.standing ≡ Some version → start.is_held ≡ true
    → (pair : ℕ) → PairHas u pair (IsOf start.name version) ↔ PairHas u pair (IsHeldBy start)
held_are u start version stands held pair = (
  λ (here, there, of). (here, there, (sym of.0, held, subst (At here.pkg) (sym stands) of.1)),
  λ (here, there, by). (here, there, (sym by.0, subst (At here.pkg) stands by.2)),
)
  where
    At : Pkg → Option (List ℕ) → Type 0
    At pkg standing = MatchOption standing ⊥ (SameVersion pkg.version)

-- a name that isn't held, or doesn't stand, has no pair that is
pub unheld_none : (u : Universe) (start : Start) → start.is_held ≡ false → (pair : ℕ) → ¬ PairHas u pair (IsHeldBy start)
unheld_none u start unheld pair (here, there, by) = absurd (let e : false ≡ true = sym unheld ∙ by.1 in cc)

pub fallen_none : (u : Universe) (start : Start) → start.standing ≡ None → (pair : ℕ) → ¬ PairHas u pair (IsHeldBy start)
fallen_none u start fallen pair (here, there, by) =
    let At : Option (List ℕ) → Type 0 = λ standing. MatchOption standing ⊥ (SameVersion here.pkg.version) in
    subst At fallen by.2

-- what the start says of its names are the premises of the start
pub all_starts : (u : Universe) (reason : Premise) → Any (λ start. IsSaidBy u start reason) u.starts ↔ (IsPremise u reason × IsOfStart reason)
unfolding IsEssentialIn
all_starts u reason = (to, from reason)
  where
    one : (start : Start) → Contains u.starts start → IsSaidBy u start reason → IsPremise u reason × IsOfStart reason
    one start within (inl (pair, (here, there, by), same)) = (
      subst (IsPremise u) (sym same) (
        here,
        there,
        Any-intro
            (λ s. (s.name ≡ here.pkg.name) × IsTrue s.is_held × MatchOption s.standing ⊥ (SameVersion here.pkg.version)) u.starts start within by,
      ),
      subst IsOfStart (sym same) tt,
    )
    one start within (inr (inl (essential, present, same))) = (
      subst (IsPremise u) (sym same) (Any-intro (λ s. (s.name ≡ start.name) × IsTrue s.is_essential × IsTrue s.is_present) u.starts start within
          (refl, essential, present)),
      subst IsOfStart (sym same) tt,
    )
    one start within (inr (inr (keeps, stands, same))) = (
      subst (IsPremise u) (sym same) (
        keeps,
        Any-intro (λ s. (s.name ≡ start.name) × MatchOption s.standing ⊥ (λ _. ⊤)) u.starts start within
            (refl, stands),
      ),
      subst IsOfStart (sym same) tt,
    )

    to : Any (λ start. IsSaidBy u start reason) u.starts → IsPremise u reason × IsOfStart reason
    to some = Any-elim (λ start. IsSaidBy u start reason) u.starts (IsPremise u reason × IsOfStart reason) one some

    from : (f : Premise) → IsPremise u f × IsOfStart f → Any (λ start. IsSaidBy u start f) u.starts
    from (premise.Same pair other) (so, of) = absurd of
    from (premise.PreDepends pair clause) (so, of) = absurd of
    from (premise.Depends pair clause) (so, of) = absurd of
    from (premise.Conflicts pair other) (so, of) = absurd of
    from (premise.Breaks pair other) (so, of) = absurd of
    from (premise.Goal asked) (so, of) = absurd of
    from (premise.GoalOn asked pair) (so, of) = absurd of
    from (premise.Hold pair) ((here, there, some), of) =
        Any-weaker (λ s. (s.name ≡ here.pkg.name) × IsTrue s.is_held × MatchOption s.standing ⊥ (SameVersion here.pkg.version))
        (λ s. IsSaidBy u s (premise.Hold pair)) u.starts (λ start within by. inl (pair, (here, there, by), refl)) some
    from (premise.Essential name) (some, of) =
        Any-weaker (λ s. (s.name ≡ name) × IsTrue s.is_essential × IsTrue s.is_present) (λ s. IsSaidBy u s (premise.Essential name)) u.starts
        (λ start within (same, essential, present).
        let Made : List ℕ → Type 0 = λ n. premise.Essential name ≡ premise.Essential n in
        inr (inl (essential, present, subst Made (sym same) refl))) some
    from (premise.Keep name) ((keeps, some), of) =
        Any-weaker (λ s. (s.name ≡ name) × MatchOption s.standing ⊥ (λ _. ⊤)) (λ s. IsSaidBy u s (premise.Keep name)) u.starts
        (λ start within (same, stands).
        let Made : List ℕ → Type 0 = λ n. premise.Keep name ≡ premise.Keep n in
        inr (inr (keeps, stands, subst Made (sym same) refl))) some

pub three_said : (u : Universe) (start : Start) (reason : Premise)
    → ((IsHoldBy u start reason ⊎ IsEssentialBy start reason) ⊎ IsKeepBy u start reason) ↔ IsSaidBy u start reason
three_said u start reason = (to, from)
  where
    to : (IsHoldBy u start reason ⊎ IsEssentialBy start reason) ⊎ IsKeepBy u start reason → IsSaidBy u start reason
    to (inl (inl so)) = inl so
    to (inl (inr so)) = inr (inl so)
    to (inr so) = inr (inr so)

    from : IsSaidBy u start reason → (IsHoldBy u start reason ⊎ IsEssentialBy start reason) ⊎ IsKeepBy u start reason
    from (inl so) = inl (inl so)
    from (inr (inl so)) = inl (inr so)
    from (inr (inr so)) = inr so

-- the premise of a name that is essential and was present, and of one that stood where nothing is to be removed
pub essential_by : (start : Start) (name : List ℕ) → name ≡ start.name → IsTrue start.is_essential × IsTrue start.is_present → (reason : Premise)
    → (reason ≡ premise.Essential name) ↔ IsEssentialBy start reason
essential_by start name same needed reason =
    let Made : List ℕ → Type 0 = λ n. reason ≡ premise.Essential n in (
      λ is. (needed.0, needed.1, subst Made same is),
      λ (essential, present, is). subst Made (sym same) is,
    )

pub keep_by : (u : Universe) (start : Start) (name : List ℕ) → name ≡ start.name → Contains u.goals goal.NoRemove
    → MatchOption start.standing ⊥ (λ _. ⊤) → (reason : Premise) → (reason ≡ premise.Keep name) ↔ IsKeepBy u start reason
keep_by u start name same keeps stands reason =
    let Made : List ℕ → Type 0 = λ n. reason ≡ premise.Keep n in (
      λ is. (keeps, stands, subst Made same is),
      λ (kept, stood, is). subst Made (sym same) is,
    )
