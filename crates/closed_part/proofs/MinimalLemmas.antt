-- A selection of a closed part that is locally minimal is so as one of the universe.
use Rattle.std.proofs.Common.{◌≡◌, ◌≢◌, ℕ, ◌<◌, ◌==◌, Bool, not, ◌&&◌, ◌||◌, List, Some, refl, sym, ap, subst, ◌∙◌}
use Rattle.std.specs.Prelude.{IsTrue}
use Rattle.std.specs.List.{AllPairs}
use Rattle.std.proofs.lemmas.Bool.{and_from, and_parts, eq-eqb, eqb-false, eqb-true, ne_eqb, not-true, not_from_false, or_cases, or_left, or_right}
use Rattle.std.proofs.lemmas.Option.{same_Some}
use Rattle.rules.specs.Minimal.{IsClosed, IsLocallyMinimal, IsReached, IsSelected, IsWanted, Stood, WasPresent, pkg_at, with_pair, without_pair}
use Rattle.rules.specs.Package.{Pkg}
use Rattle.rules.specs.Sound.{HasMember, IsAcceptable}
use Rattle.rules.specs.Universe.{Universe, Pair}
use Rattle.refutation.specs.Clause.{item_at}
use Rattle.closed_part.specs.Laws.{PartIsMinimal}
use Rattle.closed_part.specs.Part.{IsClosedPart, IsLifted, IsPart, StandingWerePresent}
use Rattle.closed_part.specs.Part.{number_in}
use Rattle.closed_part.proofs.OverLemmas.{over, is_over, over_part}
use Rattle.closed_part.proofs.PkgLemmas.{lowered_pkg, number_is, raised_pkg, stood_present}
use Rattle.closed_part.proofs.PlaceLemmas.{numbered, one_place}
use Rattle.closed_part.proofs.SelectedLemmas.{part_is_acceptable, part_selects_the_same}
use mathlib.Core.Logic.{inl, inr}

module _ (numbers : List ℕ) (ascending : AllPairs (λ earlier later. earlier < later) numbers) (selection lifted : ℕ → Bool)
    (lifts : IsLifted numbers selection lifted) (place number : ℕ) (there : item_at numbers place ≡ Some number) where
  -- another number stands at another place
  other_place : (k n : ℕ) → item_at numbers k ≡ Some n → n ≢ number → k ≢ place
  other_place k n at differ same =
      differ (same_Some n number (sym at ∙ ap (item_at numbers) same ∙ there))

  other_number : (k n : ℕ) → item_at numbers k ≡ Some n → k ≢ place → n ≢ number
  other_number k n at differ same = differ (one_place numbers ascending k place number (at ∙ ap (λ m. Some m) same) there)

  -- without a pair a selection is lifted to one without it
  lifted_without : IsLifted numbers (without_pair selection place) (without_pair lifted number)
  lifted_without n = (to, from)
    where
      to : IsTrue (lifted n && not (n == number)) → (k : ℕ) × (item_at numbers k ≡ Some n) × IsTrue (selection k && not (k == place))
      to both =
          let parts = and_parts (lifted n) (not (n == number)) both in
          let counterpart = (lifts n).0 parts.0 in
          let differ : counterpart.0 ≢ place = other_place counterpart.0 n counterpart.1 (eqb-false n number (not-true (n == number) parts.1)) in (
            counterpart.0,
            counterpart.1,
            and_from (selection counterpart.0) (not (counterpart.0 == place)) counterpart.2
                (not_from_false (counterpart.0 == place) (ne_eqb counterpart.0 place differ)),
          )

      from : (k : ℕ) × (item_at numbers k ≡ Some n) × IsTrue (selection k && not (k == place)) → IsTrue (lifted n && not (n == number))
      from counterpart =
          let parts = and_parts (selection counterpart.0) (not (counterpart.0 == place)) counterpart.2 in
          let differ : n ≢ number = other_number counterpart.0 n counterpart.1 (eqb-false counterpart.0 place (not-true (counterpart.0 == place) parts.1)) in
          and_from (lifted n) (not (n == number)) ((lifts n).1 (counterpart.0, counterpart.1, parts.0))
          (not_from_false (n == number) (ne_eqb n number differ))

  -- with a pair a selection is lifted to one with it
  lifted_with : IsLifted numbers (with_pair selection place) (with_pair lifted number)
  lifted_with n = (to, from)
    where
      to : IsTrue (lifted n || (n == number)) → (k : ℕ) × (item_at numbers k ≡ Some n) × IsTrue (selection k || (k == place))
      to either = elim (or_cases (lifted n) (n == number) either) [
        | inl chosen ↦ let counterpart = (lifts n).0 chosen in (counterpart.0, counterpart.1, or_left (selection counterpart.0) (counterpart.0 == place) counterpart.2)
        | inr same ↦ (
          place,
          there ∙ ap (λ m. Some m) (sym (eqb-true n number same)),
          or_right (selection place) (place == place) (eq-eqb place place refl),
        )
      ]

      from : (k : ℕ) × (item_at numbers k ≡ Some n) × IsTrue (selection k || (k == place)) → IsTrue (lifted n || (n == number))
      from counterpart = elim (or_cases (selection counterpart.0) (counterpart.0 == place) counterpart.2) [
        | inl chosen ↦ or_left (lifted n) (n == number) ((lifts n).1 (counterpart.0, counterpart.1, chosen))
        | inr same ↦ or_right (lifted n) (n == number) (eq-eqb n number
            (same_Some n number (sym counterpart.1 ∙ ap (item_at numbers) (eqb-true counterpart.0 place same) ∙ there)))
      ]

module _ (u : Universe) (numbers : List ℕ) (pairs : List Pair) (is : IsPart u numbers (over u pairs)) (selection lifted : ℕ → Bool)
    (lifts : IsLifted numbers selection lifted) where
  abbrev part : Universe
  part = over u pairs

  -- a selected pair of the part is selected in the universe, and the other way round
  raised : (place : ℕ) (pkg : Pkg) → IsSelected part selection place pkg
      → (number : ℕ) × (item_at numbers place ≡ Some number) × IsSelected u lifted number pkg
  unfolding IsSelected
  raised place pkg chosen =
      let counterpart = raised_pkg u part numbers is.pairs place pkg chosen.1 in
      (counterpart.0, counterpart.1, ((lifts counterpart.0).1 (place, counterpart.1, chosen.0), counterpart.2))

  lowered : (number : ℕ) (pkg : Pkg) → IsSelected u lifted number pkg
      → (place : ℕ) × (item_at numbers place ≡ Some number) × IsSelected part selection place pkg
  unfolding IsSelected
  lowered number pkg chosen =
      let counterpart = (lifts number).0 chosen.0 in
      (counterpart.0, counterpart.1, (counterpart.2, lowered_pkg u part numbers is.pairs counterpart.0 number pkg counterpart.1 chosen.1))

  -- a closed set of numbers of the universe is one of the part's
  closed_in : (set : ℕ → Bool) → IsClosed u lifted set → IsClosed part selection (λ place. set (number_in numbers place))
  unfolding IsWanted WasPresent
  closed_in set closed = record {
    wanted = λ place pkg chosen wanted.
        let one = raised place pkg chosen in
        subst (λ n. IsTrue (set n)) (sym (number_is numbers place one.0 one.1)) (closed.wanted one.0 pkg one.2 wanted);
    needed = λ place other pkg needed chosen also within needs.
        let one = raised place pkg chosen in
        let two = raised other needed also in
        subst (λ n. IsTrue (set n)) (sym (number_is numbers other two.0 two.1)) (closed.needed one.0 two.0 pkg needed one.2 two.2
        (subst (λ n. IsTrue (set n)) (number_is numbers place one.0 one.1) within) needs);
  }

  reached : IsReached part selection → IsReached u lifted
  unfolding IsReached
  reached all set closed number pkg chosen =
      let one = lowered number pkg chosen in
      subst (λ n. IsTrue (set n)) (number_is numbers one.0 number one.1)
      (all (λ place. set (number_in numbers place)) (closed_in set closed) one.0 pkg one.2)

  -- what isn't acceptable in the part isn't so in the universe
  unacceptable : (less raised : ℕ → Bool) → IsLifted numbers less raised → ¬ IsAcceptable part less → ¬ IsAcceptable u raised
  unacceptable less raised lifts never acceptable = never ((part_is_acceptable u part numbers less raised is lifts).1 acceptable)

  module _ (closed : IsClosedPart u numbers) (standing : StandingWerePresent u) where
    -- the place of a pair whose name was present
    present_place : (number : ℕ) (pkg : Pkg) → pkg_at u number ≡ Some pkg → WasPresent u pkg.name
        → (place : ℕ) × (item_at numbers place ≡ Some number)
    unfolding IsWanted
    present_place number pkg there present = numbered numbers number (closed.wanted number pkg there (inl present))

    minimal : IsLocallyMinimal part selection → IsLocallyMinimal u lifted
    unfolding WasPresent Stood
    minimal least = record {
      reached = reached least.reached;
      needed = λ number pkg chosen absent.
          let one = lowered number pkg chosen in
          unacceptable (without_pair selection one.0) (without_pair lifted number)
          (lifted_without numbers is.ascending selection lifted lifts one.0 number one.1)
          (least.needed one.0 pkg one.2 absent);
      changed = λ number former pkg stood chosen there named before never.
          let one = lowered number pkg chosen in
          let two = present_place former stood there (stood_present u stood standing before) in
          unacceptable (with_pair (without_pair selection one.0) two.0) (with_pair (without_pair lifted number) former)
          (lifted_with numbers is.ascending (without_pair selection one.0) (without_pair lifted number)
          (lifted_without numbers is.ascending selection lifted lifts one.0 number one.1) two.0 former two.1)
          (least.changed one.0 two.0 pkg stood one.2
          (lowered_pkg u part numbers is.pairs two.0 former stood two.1 there) named before never);
      removed = λ number pkg there present none.
          let one = present_place number pkg there present in
          unacceptable (with_pair selection one.0) (with_pair lifted number)
          (lifted_with numbers is.ascending selection lifted lifts one.0 number one.1)
          (least.removed one.0 pkg (lowered_pkg u part numbers is.pairs one.0 number pkg one.1 there) present
          (subst (λ members. ¬ HasMember pkg.name members) (part_selects_the_same u part numbers selection lifted is lifts) none));
    }

pub part_is_minimal : PartIsMinimal
part_is_minimal u part numbers selection lifted is closed standing lifts least =
    minimal u numbers part.pairs (over_part u numbers part is) selection lifted lifts closed standing
    (subst (λ p. IsLocallyMinimal p selection) (sym (is_over u numbers part is)) least)
