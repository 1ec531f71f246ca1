-- What holds for the arguments of a call holds for its options.
use Rattle.std.proofs.Common.{◌≡◌, ℕ, List, subst}
use Rattle.command_line.specs.declared.call.Format.{Format}
use Rattle.inputs.specs.Texts.{Texts}

-- what holds of texts, of a word and in a format holds of the same ones
pub exchanged : (P : Texts → List ℕ → Format → Type 0) (texts others : Texts) (word same : List ℕ) (written format : Format)
    → texts ≡ others → word ≡ same → written ≡ format → P texts word written → P others same format
exchanged P texts others word same written format first second third is =
    subst (P others same) third
    (subst (λ (w : List ℕ). P others w written) second
    (subst (λ (t : Texts). P t word written) first is))
