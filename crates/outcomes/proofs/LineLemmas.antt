-- Lines of candidates, one more behind those so far.
use Rattle.std.proofs.Common.{◌≡◌, ◌∙◌, ◌++◌, ℕ, List, [], ◌∷◌, Option, ap, append_assoc, arith, length, refl, sym}
use Rattle.candidates.specs.Offer.{Offer}
use Rattle.outcomes.specs.Answer.{candidate_line, candidate_lines}

-- the line of the candidate of one more name
pub one_name : (old after line name : List ℕ) (candidate : Option Offer) (names more : List (List ℕ)) (rest behind : List (Option Offer))
    → after ≡ old ++ line → line ≡ candidate_line name candidate → names ≡ name ∷ more → rest ≡ candidate ∷ behind
    → after ++ candidate_lines more behind ≡ old ++ candidate_lines names rest
one_name old after line name candidate names more rest behind e is first next =
    ap (λ t. t ++ candidate_lines more behind) (e ∙ ap (λ l. old ++ l) is)
    ∙ append_assoc old (candidate_line name candidate) (candidate_lines more behind)
    ∙ sym (ap (λ ns. old ++ candidate_lines ns rest) first ∙ ap (λ fs. old ++ candidate_lines (name ∷ more) fs) next)

-- without candidates there is no line
pub none_left : (names : List (List ℕ)) (rest : List (Option Offer)) → length rest ≡ 0 → candidate_lines names rest ≡ []
none_left [] rest none = refl
none_left (name ∷ names) [] none = refl
none_left (name ∷ names) (candidate ∷ rest) none = absurd (omega (arith, none))
