-- Objects of steps, one more behind those so far.
use Rattle.std.proofs.Common.{◌≡◌, ◌∙◌, ◌++◌, List, [], ◌∷◌, Option, ap, append_assoc, arith, length, refl, sym}
use Rattle.json_answers.specs.Steps.{step_data, steps_data}
use Rattle.json_answers.specs.declared.archives.Archive.{Archive}
use Rattle.rules.specs.declared.step.Step.{Step}
use Rattle.serde_json.specs.Data.{Data}

-- the object of one more step
pub one_step : (old after : List Data) (value : Data) (step : Step) (archive : Option Archive) (steps more : List Step)
    (rest behind : List (Option Archive)) → after ≡ old ++ value ∷ [] → value ≡ step_data step archive → steps ≡ step ∷ more
    → rest ≡ archive ∷ behind → after ++ steps_data more behind ≡ old ++ steps_data steps rest
one_step old after value step archive steps more rest behind e is first next =
    ap (λ (ds : List Data). ds ++ steps_data more behind) (e ∙ ap (λ (d : Data). old ++ d ∷ []) is)
    ∙ append_assoc old (step_data step archive ∷ []) (steps_data more behind)
    ∙ sym (ap (λ (ss : List Step). old ++ steps_data ss rest) first
    ∙ ap (λ (found : List (Option Archive)). old ++ steps_data (step ∷ more) found) next)

-- without places there is no object
pub none_left : (steps : List Step) (rest : List (Option Archive)) → length rest ≡ 0 → steps_data steps rest ≡ []
none_left [] rest none = refl
none_left (step ∷ steps) [] none = refl
none_left (step ∷ steps) (archive ∷ rest) none = absurd (omega (arith, none))
