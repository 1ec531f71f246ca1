-- Lines of goals, one more behind those so far.
use Rattle.std.proofs.Common.{◌≡◌, ◌∙◌, ◌++◌, ℕ, List, ◌∷◌, ap, append_assoc, codes, sym}
use Rattle.cli.specs.Places.{lines_of}

-- the line of one more goal
pub one_line : (old after text : List ℕ) (all rest : List (List ℕ)) → after ≡ (old ++ text) ++ codes "\n" → all ≡ text ∷ rest
    → after ++ lines_of rest ≡ old ++ lines_of all
one_line old after text all rest e is = ap (λ t. t ++ lines_of rest) e ∙ append_assoc (old ++ text) (codes "\n") (lines_of rest)
    ∙ append_assoc old text (codes "\n" ++ lines_of rest) ∙ sym (ap (λ ts. old ++ lines_of ts) is)
