-- A settled selection is locally minimal.
use Rattle.std.proofs.Common.{◌≡◌, ◌≢◌, ◌⊎◌, ℕ, pos, ◌<◌, ◌≤◌, ◌+◌, ◌∷◌, [], Bool, true, false, cond, List, length, Option, Some, None, refl, sym, ap, subst, ◌∙◌, arith, zero, suc}
use Rattle.std.specs.Prelude.{◌==◌, slice_get, if◌then◌else◌}
use Rattle.std.specs.List.{Any, Contains}
use Rattle.std.specs.Option.{option_and_then, option_map, option_map_or}
use Rattle.std.proofs.lemmas.Bool.{cases_lt}
use Rattle.std.proofs.lemmas.Bool.Decides.{eqb_tells}
use Rattle.rules.specs.ElementLaws.{Any-intro, Any-append_left, Any-append_right}
use Rattle.rules.specs.Minimal.{IsClosed, IsLocallyMinimal, IsReached, IsSelected, Needs, Stood, WasPresent, pkg_at, with_pair, without_pair}
use Rattle.rules.specs.Package.{Atom, Pkg, MatchesSome}
use Rattle.rules.specs.Sound.{HasMember, IsAcceptable, selected}
use Rattle.rules.specs.Universe.{Universe, Pair}
use Rattle.refutation.specs.Clause.{HasAt, IsTrueOf, item_at}
use Rattle.refutation.specs.Laws.{AcceptableWherePremisesAreTrue, HasAscendingPairs, HasNeededPairs}
use Rattle.refutation.specs.Premise.{IsInPremise, IsPremise, PairHas}
use Rattle.refutation.specs.declared.line.Premise.{Premise}
use Rattle.refutation.specs.declared.line.Premise.TheVariants as premise
use Rattle.refutation.specs.declared.literal.Literal.{Literal}
use Rattle.refutation.specs.declared.literal.Literal.TheVariants as literal
use Rattle.refutation.proofs.MemberLemmas.{is_member}
use Rattle.search_settle.specs.Change.{after, IsWithin}
use Rattle.search_settle.specs.Encoded.{IsGivenBy, IsKnown}
use Rattle.search_settle.specs.Given.{AreSiblings, Given, clause_at, is_need_at, is_need_of, role_of, sibling_at, sibling_of}
use Rattle.search_settle.specs.Moves.{IsAtRest, IsNearer, Known, number_of}
use Rattle.search_settle.specs.Reach.{AllReached, HasNeeds, IsClosedIn}
use Rattle.search_settle.specs.Settled.{IsSettled}
use Rattle.search_settle.specs.Truth.{AreTrue, holds}
use Rattle.search_settle.specs.declared.change.Change.{Change}
use Rattle.search_settle.specs.declared.change.Change.TheVariants.{Leave, Replace, Add}
use Rattle.search_settle.specs.declared.role.Role.{Role}
use Rattle.search_settle.proofs.EncodedLemmas.{clause_of, clauses_true, found_in, mapped_at, not_zero, premise_of, premises_true, selected_in, some_at, without_in}
use Rattle.search_settle.proofs.PartLemmas.{number_within, pkg_there}
use mathlib.Core.Logic.{inl, inr}

-- the package of a number is that of its pair
pair_there : (u : Universe) (number : ℕ) (pkg : Pkg) → pkg_at u number ≡ Some pkg → (pair : Pair) × (item_at u.pairs number ≡ Some pair) × (pair.pkg ≡ pkg)
pair_there u zero pkg is = absurd (let e : None ≡ Some pkg = is in cc)
pair_there u (suc place) pkg is = at (slice_get u.pairs place) refl is
  where
    at : (o : Option Pair) → slice_get u.pairs place ≡ o → option_map (λ (pair : Pair). pair.pkg) o ≡ Some pkg
        → (pair : Pair) × (slice_get u.pairs place ≡ Some pair) × (pair.pkg ≡ pkg)
    at None there is = absurd (let e : None ≡ Some pkg = is in cc)
    at (Some pair) there is = (pair, there, (let e : pair.pkg ≡ pkg = cc in e))

isnt : (b : Bool) → ¬ (b ≡ true) → b ≡ false
isnt false never = refl
isnt true never = absurd (never refl)

same_number : (number : ℕ) → (number == number) ≡ true
same_number number = elim (eqb_tells number number) [ inl same ↦ same.0 | inr other ↦ absurd (other.1 refl) ]

other_number : (a b : ℕ) → a ≢ b → (a == b) ≡ false
other_number a b other = elim (eqb_tells a b) [ inl same ↦ absurd (other same.1) | inr is ↦ is.0 ]

same_of : (a number : ℕ) → (a == number) ≡ true → a ≡ number
same_of a number is = elim (eqb_tells a number) [ inl same ↦ same.1 | inr differs ↦ absurd (let e : true ≡ false = sym is ∙ differs.0 in cc) ]

module _ (law : AcceptableWherePremisesAreTrue) (u : Universe) (premises : List Premise) (given : Given) (by : IsGivenBy u premises given) (known : Known)
    (knows : IsKnown u known) (ascending : HasAscendingPairs u) (needed : HasNeededPairs u) (selection : ℕ → Bool)
    (all : AreTrue selection given.clauses) (settled : IsSettled given known selection) where
  -- no selection after a change that brings nearer is acceptable
  refused : (change : Change) → 1 ≤ number_of change → number_of change ≤ given.numbers → IsWithin given.numbers change
      → IsNearer given known selection change → ¬ IsAcceptable u (after change selection)
  unfolding IsAtRest
  refused change one below within nearer = λ acceptable. settled.rests (number_of change) one below change refl within nearer
      (clauses_true u premises given by (after change selection) ((law u (after change selection) ascending needed).0 acceptable))

  -- the sibling by a clause is that of its premise's role
  role_there : (number : ℕ) (reason : Premise) (place : ℕ) → slice_get premises place ≡ Some reason
      → sibling_at given number place ≡ sibling_of number (role_of reason)
  role_there number reason place is = ap (λ (o : Option Role). option_and_then (sibling_of number) o)
      (ap (λ (roles : List Role). slice_get roles place) by.roles ∙ mapped_at role_of premises place reason is)

  -- the numbers of two pairs of one name are siblings
  siblings : (number other : ℕ) (pair beside : Pair) → item_at u.pairs number ≡ Some pair → item_at u.pairs other ≡ Some beside
      → beside.pkg.name ≡ pair.pkg.name → number ≢ other → AreSiblings given number other
  siblings number other pair beside there also names differ = elim (cases_lt number other) [
    | inl below ↦ first below
    | inr above ↦ second (omega (arith, above, differ))
  ]
    where
      one : 1 ≤ number
      one = not_zero u.pairs number pair there

      within : number ≤ given.numbers
      within = omega (arith, number_within u number pair there, by.numbers)

      first : number < other → AreSiblings given number other
      first below =
          let is : IsPremise u (premise.Same number other) = (below, (pair, there, (beside, also, names))) in
          let place = clause_of u premises given by (premise.Same number other) is in
          record {
            place = place.0;
            listed = without_in u premises given by (premise.Same number other) place.0 number one within place.2 place.3 (inl refl);
            sibling = role_there number (premise.Same number other) place.0 place.1 ∙ rw (same_number number) refl;
          }

      second : other < number → AreSiblings given number other
      second below =
          let is : IsPremise u (premise.Same other number) = (below, (beside, also, (pair, there, sym names))) in
          let place = clause_of u premises given by (premise.Same other number) is in
          record {
            place = place.0;
            listed = without_in u premises given by (premise.Same other number) place.0 number one within place.2 place.3 (inr refl);
            sibling = role_there number (premise.Same other number) place.0 place.1
                ∙ rw (other_number other number (λ e. differ (sym e)), same_number number) refl;
          }

  -- one number has one pair
  one_pair : (number other : ℕ) (pair beside : Pair) → number ≡ other → item_at u.pairs number ≡ Some pair → item_at u.pairs other ≡ Some beside → pair ≡ beside
  one_pair number other pair beside same there also =
      let e : Some pair ≡ Some beside = sym there ∙ ap (item_at u.pairs) same ∙ also in cc

  -- siblings have pairs of one name
  sibling_named : (number other : ℕ) (pair : Pair) → item_at u.pairs number ≡ Some pair → AreSiblings given number other
      → (beside : Pair) × (item_at u.pairs other ≡ Some beside) × (beside.pkg.name ≡ pair.pkg.name)
  sibling_named number other pair there are =
      let reason = premise_of u premises given by are.place (by.indexed.lists.within _ are.place are.listed) in
      named reason.0 reason.2 (sym (role_there number reason.0 are.place reason.1) ∙ are.sibling)
    where
      Found : Type 0
      Found = (beside : Pair) × (item_at u.pairs other ≡ Some beside) × (beside.pkg.name ≡ pair.pkg.name)

      two : (a b : ℕ) → IsPremise u (premise.Same a b)
          → ((a == number) ≡ true × a ≡ number) ⊎ ((a == number) ≡ false × (a ≢ number))
          → ((b == number) ≡ true × b ≡ number) ⊎ ((b == number) ≡ false × (b ≢ number))
          → (if a == number then Some b else (if b == number then Some a else None)) ≡ Some other → Found
      two a b is (inl same) which at =
          let e : Some b ≡ Some other = rw same.0 at at in
          let f : b ≡ other = cc in (
            is.1.2.0,
            ap (item_at u.pairs) (sym f) ∙ is.1.2.1,
            is.1.2.2 ∙ ap (λ (p : Pair). p.pkg.name) (one_pair a number is.1.0 pair same.1 is.1.1 there),
          )
      two a b is (inr differs) (inl same) at =
          let e : Some a ≡ Some other = rw (differs.0, same.0) at at in
          let f : a ≡ other = cc in (
            is.1.0,
            ap (item_at u.pairs) (sym f) ∙ is.1.1,
            sym is.1.2.2 ∙ ap (λ (p : Pair). p.pkg.name) (one_pair b number is.1.2.0 pair same.1 is.1.2.1 there),
          )
      two a b is (inr differs) (inr also) at = absurd (let e : None ≡ Some other = rw (differs.0, also.0) at at in cc)

      named : (reason : Premise) → IsPremise u reason → sibling_of number (role_of reason) ≡ Some other → Found
      named (premise.Same a b) is at = two a b is (eqb_tells a number) (eqb_tells b number) at
      named (premise.PreDepends a b) is at = absurd (let e : None ≡ Some other = at in cc)
      named (premise.Depends a b) is at = absurd (let e : None ≡ Some other = at in cc)
      named (premise.Conflicts a b) is at = absurd (let e : None ≡ Some other = at in cc)
      named (premise.Breaks a b) is at = absurd (let e : None ≡ Some other = at in cc)
      named (premise.Goal a) is at = absurd (let e : None ≡ Some other = at in cc)
      named (premise.GoalOn a b) is at = absurd (let e : None ≡ Some other = at in cc)
      named (premise.Hold a) is at = absurd (let e : None ≡ Some other = at in cc)
      named (premise.Essential a) is at = absurd (let e : None ≡ Some other = at in cc)
      named (premise.Keep a) is at = absurd (let e : None ≡ Some other = at in cc)

  -- of two pairs of one name one isn't selected
  one_out : (number other : ℕ) (pair beside : Pair) → item_at u.pairs number ≡ Some pair → item_at u.pairs other ≡ Some beside
      → beside.pkg.name ≡ pair.pkg.name → number ≢ other → selection number ≡ true → selection other ≡ false
  one_out number other pair beside there also names differ chosen = elim (cases_lt number other) [
    | inl below ↦ let is = premises_true u premises given by selection all (premise.Same number other) (below, (pair, there, (beside, also, names))) in
        out is.0 is.1 is.2
    | inr above ↦ let is = premises_true u premises given by selection all (premise.Same other number) (omega (arith, above, differ), (beside, also, (pair, there, sym names))) in
        tuo is.0 is.1 is.2
  ]
    where
      out : (l : Literal) → (l ≡ literal.Unselected number) ⊎ (l ≡ literal.Unselected other) → IsTrueOf selection l → selection other ≡ false
      out l (inl is) holds = absurd (let e : true ≡ false = sym chosen ∙ subst (IsTrueOf selection) is holds in cc)
      out l (inr is) holds = subst (IsTrueOf selection) is holds

      tuo : (l : Literal) → (l ≡ literal.Unselected other) ⊎ (l ≡ literal.Unselected number) → IsTrueOf selection l → selection other ≡ false
      tuo l (inl is) holds = subst (IsTrueOf selection) is holds
      tuo l (inr is) holds = absurd (let e : true ≡ false = sym chosen ∙ subst (IsTrueOf selection) is holds in cc)

  -- where a clause says what a number needs, its literals that select are of packages that it needs
  needs : (number other place : ℕ) (pair beside : Pair) → item_at u.pairs number ≡ Some pair → item_at u.pairs other ≡ Some beside
      → place < length given.clauses → is_need_at given number place ≡ true → Contains (clause_at given place) (pos other) → Needs pair.pkg beside.pkg
  unfolding Needs
  needs number other place pair beside there also within need in_clause =
      let reason = premise_of u premises given by place within in
      said reason.0 (selected_in u premises given by reason.0 (clause_at given place) other reason.2 reason.3 in_clause)
      (sym (ap (λ (o : Option Role). option_map_or (is_need_of number) o false)
      (ap (λ (roles : List Role). slice_get roles place) by.roles ∙ mapped_at role_of premises place reason.0 reason.1)) ∙ need)
    where
      matched : (field : Pkg → List (List Atom)) (a clause : ℕ) → a ≡ number
          → PairHas u other (λ needed. PairHas u a (λ pkg. HasAt (field pkg) clause (MatchesSome needed))) → Any (MatchesSome beside.pkg) (field pair.pkg)
      matched field a clause same has =
          let mine = one_pair a number has.2.0 pair same has.2.1 there in
          let its = one_pair other other has.0 beside refl has.1 also in
          subst (λ (p : Pair). Any (MatchesSome p.pkg) (field pair.pkg)) its
          (subst (λ (p : Pair). Any (MatchesSome has.0.pkg) (field p.pkg)) mine
          (Any-intro (MatchesSome has.0.pkg) (field has.2.0.pkg) has.2.2.0 (item_in (field has.2.0.pkg) clause has.2.2.0 has.2.2.1) has.2.2.2))
        where
          item_in : (xs : List (List Atom)) (n : ℕ) (x : List Atom) → item_at xs n ≡ Some x → Contains xs x
          item_in xs zero x is = absurd (let e : None ≡ Some x = is in cc)
          item_in xs (suc k) x is = found_in xs k x is

      said : (reason : Premise) → IsInPremise u reason (literal.Selected other) → is_need_of number (role_of reason) ≡ true → Needs pair.pkg beside.pkg
      said (premise.PreDepends a clause) (inl is) so = absurd (cc)
      said (premise.PreDepends a clause) (inr has) so = Any-append_left (MatchesSome beside.pkg) pair.pkg.relations.pre_depends pair.pkg.relations.depends
          (matched (λ pkg. pkg.relations.pre_depends) a clause (same_of a number so) has)
      said (premise.Depends a clause) (inl is) so = absurd (cc)
      said (premise.Depends a clause) (inr has) so = Any-append_right (MatchesSome beside.pkg) pair.pkg.relations.pre_depends pair.pkg.relations.depends
          (matched (λ pkg. pkg.relations.depends) a clause (same_of a number so) has)
      said (premise.Same a b) is so = absurd (let e : false ≡ true = so in cc)
      said (premise.Conflicts a b) is so = absurd (let e : false ≡ true = so in cc)
      said (premise.Breaks a b) is so = absurd (let e : false ≡ true = so in cc)
      said (premise.Goal a) is so = absurd (let e : false ≡ true = so in cc)
      said (premise.GoalOn a b) is so = absurd (let e : false ≡ true = so in cc)
      said (premise.Hold a) is so = absurd (let e : false ≡ true = so in cc)
      said (premise.Essential a) is so = absurd (let e : false ≡ true = so in cc)
      said (premise.Keep a) is so = absurd (let e : false ≡ true = so in cc)

  -- a set that is closed by the packages is closed by the clauses
  closed_in : (set : ℕ → Bool) → IsClosed u selection set → IsClosedIn given known selection set
  unfolding IsSelected HasNeeds
  closed_in set closed = record {
    wanted = λ number within chosen is. let has = selected_pair number within chosen (λ e. absurd (let f : true ≡ false = sym is ∙ ap (holds known.wanted) e ∙ knows.none in cc)) in
        closed.wanted number has.0.pkg (chosen, pkg_there u number has.0 has.1)
        ((knows.wanted number has.0.pkg (pkg_there u number has.0 has.1)).0 is);
    needed = λ number chosen within_set. λ place other listed need in_clause also.
        let below = by.indexed.lists.within _ place listed in
        let reason = premise_of u premises given by place below in
        let mine = need_pair number reason.0 reason.2 (sym (ap (λ (o : Option Role). option_map_or (is_need_of number) o false)
        (ap (λ (roles : List Role). slice_get roles place) by.roles ∙ mapped_at role_of premises place reason.0 reason.1)) ∙ need) in
        let its = other_pair other reason.0 reason.2 (selected_in u premises given by reason.0 (clause_at given place) other reason.2 reason.3 in_clause)
        number (sym (ap (λ (o : Option Role). option_map_or (is_need_of number) o false)
        (ap (λ (roles : List Role). slice_get roles place) by.roles ∙ mapped_at role_of premises place reason.0 reason.1)) ∙ need) in
        closed.needed number other mine.0.pkg its.0.pkg (chosen, pkg_there u number mine.0 mine.1) (also, pkg_there u other its.0 its.1) within_set
        (needs number other place mine.0 its.0 mine.1 its.1 below need in_clause);
  }
    where
      selected_pair : (number : ℕ) → number ≤ given.numbers → selection number ≡ true → (number ≡ 0 → ⊥) → (pair : Pair) × (item_at u.pairs number ≡ Some pair)
      selected_pair number within chosen positive = at u.pairs number (omega (arith, within, by.numbers)) positive
        where
          at : (pairs : List Pair) (n : ℕ) → n ≤ length pairs → (n ≡ 0 → ⊥) → (pair : Pair) × (item_at pairs n ≡ Some pair)
          at pairs zero below some = absurd (some refl)
          at [] (suc place) below some = absurd (omega arith)
          at (first ∷ rest) (suc place) below some = (Rattle.std.proofs.Common.get_or (first ∷ rest) place first, some_at (first ∷ rest) place first (omega arith))

      need_pair : (number : ℕ) (reason : Premise) → IsPremise u reason → is_need_of number (role_of reason) ≡ true → (pair : Pair) × (item_at u.pairs number ≡ Some pair)
      need_pair number (premise.PreDepends a clause) is so = (is.0, subst (λ (n : ℕ). item_at u.pairs n ≡ Some is.0) (same_of a number so) is.1)
      need_pair number (premise.Depends a clause) is so = (is.0, subst (λ (n : ℕ). item_at u.pairs n ≡ Some is.0) (same_of a number so) is.1)
      need_pair number (premise.Same a b) is so = absurd (let e : false ≡ true = so in cc)
      need_pair number (premise.Conflicts a b) is so = absurd (let e : false ≡ true = so in cc)
      need_pair number (premise.Breaks a b) is so = absurd (let e : false ≡ true = so in cc)
      need_pair number (premise.Goal a) is so = absurd (let e : false ≡ true = so in cc)
      need_pair number (premise.GoalOn a b) is so = absurd (let e : false ≡ true = so in cc)
      need_pair number (premise.Hold a) is so = absurd (let e : false ≡ true = so in cc)
      need_pair number (premise.Essential a) is so = absurd (let e : false ≡ true = so in cc)
      need_pair number (premise.Keep a) is so = absurd (let e : false ≡ true = so in cc)

      other_pair : (other : ℕ) (reason : Premise) → IsPremise u reason → IsInPremise u reason (literal.Selected other) → (number : ℕ)
          → is_need_of number (role_of reason) ≡ true → (pair : Pair) × (item_at u.pairs other ≡ Some pair)
      other_pair other (premise.PreDepends a clause) is (inl same) number so = absurd (cc)
      other_pair other (premise.PreDepends a clause) is (inr has) number so = (has.0, has.1)
      other_pair other (premise.Depends a clause) is (inl same) number so = absurd (cc)
      other_pair other (premise.Depends a clause) is (inr has) number so = (has.0, has.1)
      other_pair other (premise.Same a b) is within number so = absurd (let e : false ≡ true = so in cc)
      other_pair other (premise.Conflicts a b) is within number so = absurd (let e : false ≡ true = so in cc)
      other_pair other (premise.Breaks a b) is within number so = absurd (let e : false ≡ true = so in cc)
      other_pair other (premise.Goal a) is within number so = absurd (let e : false ≡ true = so in cc)
      other_pair other (premise.GoalOn a b) is within number so = absurd (let e : false ≡ true = so in cc)
      other_pair other (premise.Hold a) is within number so = absurd (let e : false ≡ true = so in cc)
      other_pair other (premise.Essential a) is within number so = absurd (let e : false ≡ true = so in cc)
      other_pair other (premise.Keep a) is within number so = absurd (let e : false ≡ true = so in cc)

  reached : IsReached u selection
  unfolding IsReached IsSelected AllReached
  reached set closed number pkg chosen =
      let has = pair_there u number pkg chosen.1 in
      settled.reached set (closed_in set closed) number (omega (arith, number_within u number has.0 has.1, by.numbers)) chosen.0

  left : (number : ℕ) (pkg : Pkg) → IsSelected u selection number pkg → ¬ WasPresent u pkg.name → ¬ IsAcceptable u (without_pair selection number)
  unfolding IsSelected
  left number pkg chosen absent =
      let has = pair_there u number pkg chosen.1 in
      let one = not_zero u.pairs number has.0 has.1 in
      let within : number ≤ given.numbers = omega (arith, number_within u number has.0 has.1, by.numbers) in
      refused (Leave number) one within (one, within)
      (chosen.0, isnt (holds known.present number) (λ is. absent ((knows.present number pkg chosen.1).0 is)))

  changed : (number former : ℕ) (pkg stood : Pkg) → IsSelected u selection number pkg → pkg_at u former ≡ Some stood
      → stood.name ≡ pkg.name → Stood u stood → ¬ Stood u pkg → ¬ IsAcceptable u (with_pair (without_pair selection number) former)
  unfolding IsSelected
  changed number former pkg stood chosen there names standing not_standing =
      let has = pair_there u number pkg chosen.1 in
      let its = pair_there u former stood there in
      let one = not_zero u.pairs number has.0 has.1 in
      let within : number ≤ given.numbers = omega (arith, number_within u number has.0 has.1, by.numbers) in
      let also = not_zero u.pairs former its.0 its.1 in
      let below : former ≤ given.numbers = omega (arith, number_within u former its.0 its.1, by.numbers) in
      let same_name : its.0.pkg.name ≡ has.0.pkg.name = ap (λ (p : Pkg). p.name) its.2 ∙ names ∙ sym (ap (λ (p : Pkg). p.name) has.2) in
      let differ : number ≢ former = λ e. not_standing (subst (Stood u) (let f : Some stood ≡ Some pkg = sym there ∙ ap (pkg_at u) (sym e) ∙ chosen.1 in cc) standing) in
      refused (Replace number former) one within (one, within, also, below) (
        chosen.0,
        (
          (knows.stood former stood there).1 standing,
          isnt (holds known.stood number) (λ is. not_standing ((knows.stood number pkg chosen.1).0 is)),
          one_out number former has.0 its.0 has.1 its.1 same_name differ chosen.0,
          same_test (holds known.present former) (holds known.present number)
              (λ is. (knows.present number pkg chosen.1).1 (subst (WasPresent u) names ((knows.present former stood there).0 is)))
              (λ is. (knows.present former stood there).1 (subst (WasPresent u) (sym names) ((knows.present number pkg chosen.1).0 is))),
        ),
        siblings number former has.0 its.0 has.1 its.1 same_name differ,
      )
    where
      same_test : (a b : Bool) → (a ≡ true → b ≡ true) → (b ≡ true → a ≡ true) → a ≡ b
      same_test true b to from = sym (to refl)
      same_test false true to from = from refl
      same_test false false to from = refl

  removed : (number : ℕ) (pkg : Pkg) → pkg_at u number ≡ Some pkg → WasPresent u pkg.name → ¬ HasMember pkg.name (selected u selection)
      → ¬ IsAcceptable u (with_pair selection number)
  unfolding HasMember
  removed number pkg there was none =
      let has = pair_there u number pkg there in
      let one = not_zero u.pairs number has.0 has.1 in
      let within : number ≤ given.numbers = omega (arith, number_within u number has.0 has.1, by.numbers) in
      refused (Add number) one within (one, within) (
        out number has.0 has.1 (ap (λ (p : Pkg). p.name) has.2),
        (knows.present number pkg there).1 was,
        λ other are. let its = sibling_named number other has.0 has.1 are in
            out other its.0 its.1 (its.2 ∙ ap (λ (p : Pkg). p.name) has.2),
      )
    where
      out : (n : ℕ) (pair : Pair) → item_at u.pairs n ≡ Some pair → pair.pkg.name ≡ pkg.name → selection n ≡ false
      out n pair at names = isnt (selection n) (λ chosen. none (Any-intro (λ (member : Pkg). member.name ≡ pkg.name) (selected u selection) pair.pkg
          (is_member u selection n pair at chosen) names))

  settled_minimal : IsLocallyMinimal u selection
  settled_minimal = record { reached = reached; needed = left; changed = changed; removed = removed }

-- a settled selection that makes all clauses true is acceptable and locally minimal
pub settled_is_minimal : (law : AcceptableWherePremisesAreTrue) (u : Universe) (premises : List Premise) (given : Given) → IsGivenBy u premises given
    → (known : Known) → IsKnown u known → HasAscendingPairs u → HasNeededPairs u → (selection : ℕ → Bool) → AreTrue selection given.clauses
    → IsSettled given known selection → IsAcceptable u selection × IsLocallyMinimal u selection
settled_is_minimal law u premises given by known knows ascending needed selection all settled = (
  (law u selection ascending needed).1 (premises_true u premises given by selection all),
  settled_minimal law u premises given by known knows ascending needed selection all settled,
)
