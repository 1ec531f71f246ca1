-- Lines of JSON values, one more behind those so far.
use Rattle.std.proofs.Common.{◌≡◌, ◌∙◌, ◌++◌, ℕ, List, [], ◌∷◌, ap, append_assoc, append-nil, refl, sym}
use Rattle.json_answers.specs.Document.{IsLineOf}
use Rattle.outcomes.specs.Survey.{AreJsonLines}
use Rattle.serde_json.specs.Data.{Data}

-- one more line behind the others
pub one_line : (values : List Data) (value : Data) (old new printed : List ℕ) → AreJsonLines values old → IsLineOf value printed
    → new ≡ old ++ printed → AreJsonLines (values ++ value ∷ []) new
one_line [] value old new printed are is e =
    (printed, [], e ∙ ap (λ (t : List ℕ). t ++ printed) are ∙ sym (append-nil printed), is, refl)
one_line (first ∷ values) value old new printed are is e = (
  are.0,
  are.1 ++ printed,
  e ∙ ap (λ (t : List ℕ). t ++ printed) are.2 ∙ append_assoc are.0 are.1 printed,
  are.3,
  one_line values value are.1 (are.1 ++ printed) printed are.4 is refl,
)
