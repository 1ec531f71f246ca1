-- A clause of an encoding that has two pairs is the clause of a premise that leaves a choice.
use Rattle.std.proofs.Common.{◌≡◌, ◌≢◌, ℕ, zero, suc, true, false, List, [], ◌∷◌, refl, sym, ap, subst, ◌∙◌}
use Rattle.std.specs.Prelude.{ℤ, IsTrue}
use Rattle.std.specs.List.{AllZip, Any, Contains}
use Rattle.rules.specs.ElementLaws.{Any-elim, Contains-cons, Contains-head, Contains-map, Contains-nil, Contains-rest}
use Rattle.rules.specs.Universe.{Universe}
use Rattle.encode.specs.Encoding.{Encoding, IsClauseOf, IsEncoding, signed_number}
use Rattle.refutation.specs.Premise.{IsInPremise, IsPremise}
use Rattle.refutation.specs.declared.line.Premise.{Premise}
use Rattle.refutation.specs.declared.literal.Literal.{Literal}
use Rattle.refutation.specs.declared.literal.Literal.TheVariants as literal
use Rattle.search.specs.Choice.{HasAnother, HasTwo, IsOtherThan, is_positive}
use Rattle.closed_part.specs.Premises.{LeavesChoice}
use mathlib.Core.Logic.{inl, inr}

-- the premise of a clause
premise_of_clause : (u : Universe) (premises : List Premise) (clauses : List (List ℤ)) → AllZip (IsClauseOf u) premises clauses
    → (clause : List ℤ) → Contains clauses clause → (premise : Premise) × Contains premises premise × IsClauseOf u premise clause
premise_of_clause u [] [] all clause within = absurd (Contains-nil clause within)
premise_of_clause u [] (one ∷ clauses) all clause within = absurd all
premise_of_clause u (premise ∷ premises) [] all clause within = absurd all
premise_of_clause u (premise ∷ premises) (one ∷ clauses) all clause within = elim (Contains-cons one clauses clause within) [
  | inl same ↦ let C : List ℤ → Type 0 = λ c. IsClauseOf u premise c in (premise, Contains-head premise premises, subst C same all.0)
  | inr later ↦ let (rest, there, of) = premise_of_clause u premises clauses all.1 clause later in (rest, Contains-rest premise premises rest there, of)
]

-- a literal that says that a pair is selected
selected_pair : (disjunct : Literal) (number : ℤ) → signed_number disjunct ≡ number → IsTrue (is_positive number) → (pair : ℕ) × (disjunct ≡ literal.Selected pair)
selected_pair (literal.Selected pair) number is so = (pair, refl)
selected_pair (literal.Unselected zero) number is so =
    let P : ℤ → Type 0 = λ z. IsTrue (is_positive z) in absurd (let e : false ≡ true = subst P (sym is) so in cc)
selected_pair (literal.Unselected (suc below)) number is so =
    let P : ℤ → Type 0 = λ z. IsTrue (is_positive z) in absurd (let e : false ≡ true = subst P (sym is) so in cc)

-- two pairs of the clause of a premise
two_pairs : (u : Universe) (premise : Premise) (clause : List ℤ) → IsPremise u premise → IsClauseOf u premise clause → (one two : ℤ)
    → Contains clause one → Contains clause two → IsTrue (is_positive one) → IsTrue (is_positive two) → two ≢ one → LeavesChoice u
unfolding IsClauseOf
two_pairs u premise clause so (literals, list, same) one two one_in two_in first second differ =
    let One : List ℤ → Type 0 = λ zs. Contains zs one in
    let Two : List ℤ → Type 0 = λ zs. Contains zs two in
    let (left, left_in, left_is) = Contains-map signed_number literals one (subst One same one_in) in
    let (right, right_in, right_is) = Contains-map signed_number literals two (subst Two same two_in) in
    let (pair, pair_is) = selected_pair left one left_is first in
    let (other, other_is) = selected_pair right two right_is second in
    let In : Literal → Type 0 = λ l. IsInPremise u premise l in (
      premise,
      pair,
      other,
      so,
      (λ equal. differ (sym right_is ∙ ap signed_number (other_is ∙ ap literal.Selected (sym equal) ∙ sym pair_is) ∙ left_is)),
      subst In pair_is ((list left).0 left_in),
      subst In other_is ((list right).0 right_in),
    )

pub choice_left : (u : Universe) (encoding : Encoding) → IsEncoding u encoding → Any HasTwo encoding.clauses.clauses → LeavesChoice u
unfolding HasTwo
choice_left u encoding is some = Any-elim HasTwo encoding.clauses.clauses (LeavesChoice u)
    (λ clause within two.
    let (premise, there, of) = premise_of_clause u encoding.premises encoding.clauses.clauses is.clauses clause within in
    Any-elim (HasAnother clause) clause (LeavesChoice u)
    (λ one one_in (first, others).
    Any-elim (IsOtherThan one) clause (LeavesChoice u)
    (λ other other_in (second, differ). two_pairs u premise clause (is.sound premise there) of one other one_in other_in first second differ)
    others) two) some
