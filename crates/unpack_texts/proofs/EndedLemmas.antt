-- Texts that were fetched, each with a newline at its end.
use Rattle.std.proofs.Common.{ℕ, List, [], ◌∷◌, Vec, Global, map, refl}
use Rattle.std.specs.List.{AllZip}
use Rattle.rules.specs.Step.{IndexPackage}
use Rattle.unpack_texts.specs.Fetched.{IsFetched, Items}
use Rattle.unpack_texts.specs.Texts.{IsEnded, with_newline}

-- a text that is fetched for each package is one that ends with a newline, once one is added where it is missing
pub are_ended : (arch : List ℕ) (items : Items) (wanted : List IndexPackage) (raws : List (Vec ℕ Global))
    → AllZip (IsFetched arch items) wanted (map (λ text. text.items) raws)
    → AllZip (IsEnded arch items) wanted (map (λ text. with_newline text.items) raws)
are_ended arch items [] [] fetched = tt
are_ended arch items [] (raw ∷ raws) fetched = absurd fetched
are_ended arch items (one ∷ wanted) [] fetched = absurd fetched
are_ended arch items (one ∷ wanted) (raw ∷ raws) fetched =
    (record { raw = raw.items; fetched = fetched.0; is = refl }, are_ended arch items wanted raws fetched.1)
