-- Selections that make all clauses of an encoding true.
use Rattle.std.proofs.Common.{◌≡◌, ℕ, zero, suc, ◌≤◌, List, [], ◌∷◌, map, refl, sym, subst, add-one, arith}
use mathlib.Core.Logic.{inl, inr}
use Rattle.std.specs.Prelude.{ℤ}
use Rattle.std.specs.List.{All, AllZip, Any, Contains}
use Rattle.std.proofs.lemmas.List.Elements.{All-contains}
use Rattle.rules.specs.ElementLaws.{Any-elim, Contains-cons, Contains-head, Contains-map, Contains-nil, Contains-rest}
use Rattle.rules.specs.Universe.{Universe}
use Rattle.clauses.specs.Clause.{IsTrueLiteral, IsTrueOf as IsTrueClause, MakesAllTrue}
use Rattle.refutation.specs.Clause.{IsClauseTrue, IsTrueOf}
use Rattle.refutation.specs.Laws.{AllPremisesTrue}
use Rattle.refutation.specs.Premise.{IsInPremise}
use Rattle.refutation.specs.declared.line.Premise.{Premise}
use Rattle.refutation.specs.declared.literal.Literal.{Literal}
use Rattle.refutation.specs.declared.literal.Literal.TheVariants as literal
use Rattle.encode.specs.Encoding.{Encoding, IsClauseOf, IsEncoding, signed_number}
use Rattle.refutation.specs.Selection.{selects}
use Rattle.refutation.proofs.SelectionLemmas.{selects_contained, selects_not}

-- the clause of a premise
pub clause_of_premise : (u : Universe) (premises : List Premise) (clauses : List (List ℤ)) → AllZip (IsClauseOf u) premises clauses
    → (reason : Premise) → Contains premises reason → (clause : List ℤ) × Contains clauses clause × IsClauseOf u reason clause
clause_of_premise u [] [] all reason within = absurd (Contains-nil reason within)
clause_of_premise u [] (clause ∷ clauses) all reason within = absurd all
clause_of_premise u (premise ∷ premises) [] all reason within = absurd all
clause_of_premise u (premise ∷ premises) (clause ∷ clauses) all reason within = elim (Contains-cons premise premises reason within) [
  | inl same ↦ let P : Premise → Type 0 = λ p. IsClauseOf u p clause in (clause, Contains-head clause clauses, subst P same all.0)
  | inr later ↦ let (rest, there, of) = clause_of_premise u premises clauses all.1 reason later in (rest, Contains-rest clause clauses rest there, of)
]

-- a literal is true of the test of a selection where it is true of the selection, in which 0 isn't
literal_true : (selection : List ℕ) → All (λ number. 1 ≤ number) selection → (item : Literal) → IsTrueLiteral selection (signed_number item)
    → IsTrueOf (selects selection) item
literal_true selection positive (literal.Selected number) is = selects_contained selection number is
literal_true selection positive (literal.Unselected zero) is =
    let zero_in : 1 ≤ 0 = All-contains (λ number. 1 ≤ number) selection 0 positive is in absurd (let e : 1 ≤ 0 = zero_in in omega arith)
literal_true selection positive (literal.Unselected (suc below)) is =
    let N : ℕ → Type 0 = λ n. ¬ Contains selection n in selects_not selection (suc below) (subst N (add-one below) is)

-- where a selection makes all clauses true, so it does those of all premises
pub all_premises_true : (u : Universe) (encoding : Encoding) (selection : List ℕ) → IsEncoding u encoding → All (λ number. 1 ≤ number) selection
    → MakesAllTrue selection encoding.clauses.clauses → AllPremisesTrue u (selects selection)
unfolding IsClauseOf
all_premises_true u encoding selection is positive makes premise so =
    let (clause, within, (literals, list, same)) =
    clause_of_premise u encoding.premises encoding.clauses.clauses is.clauses premise (is.every premise so) in
    let made : Any (IsTrueLiteral selection) (map signed_number literals) =
    subst (IsTrueClause selection) same (All-contains (IsTrueClause selection) encoding.clauses.clauses clause makes within) in
    Any-elim (IsTrueLiteral selection) (map signed_number literals) (IsClauseTrue (selects selection) (IsInPremise u premise))
    (λ number there true_of.
    let (item, in_list, sign) = Contains-map signed_number literals number there in
    let True : ℤ → Type 0 = λ z. IsTrueLiteral selection z in
    (item, (list item).0 in_list, literal_true selection positive item (subst True (sym sign) true_of))) made
