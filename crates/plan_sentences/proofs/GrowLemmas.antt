-- A text that grows piece by piece.
use Rattle.std.proofs.Common.{◌≡◌, ◌∙◌, ◌++◌, [], ℕ, List, ap, append_assoc}

-- a piece more, and what follows it
pub by_one : (old a rest one whole : List ℕ) → one ≡ old ++ a → whole ≡ one ++ rest → whole ≡ old ++ (a ++ rest)
by_one old a rest one whole first is = is ∙ ap (λ (text : List ℕ). text ++ rest) first ∙ append_assoc old a rest

-- by two pieces
pub by_two : (old a b one two : List ℕ) → one ≡ old ++ a → two ≡ one ++ b → two ≡ old ++ (a ++ b)
by_two old a b one two first second = by_one old a b one two first second

-- by five pieces
pub by_five : (old a b c d e one two three four five : List ℕ) → one ≡ old ++ a → two ≡ one ++ b → three ≡ two ++ c
    → four ≡ three ++ d → five ≡ four ++ e → five ≡ old ++ (a ++ (b ++ (c ++ (d ++ e))))
by_five old a b c d e one two three four five first second third fourth fifth =
    by_one old a (b ++ (c ++ (d ++ e))) one five first
    (by_one one b (c ++ (d ++ e)) two five second
    (by_one two c (d ++ e) three five third
    (by_one three d e four five fourth fifth)))

-- by six pieces
pub by_six : (old a b c d e f one two three four five six : List ℕ) → one ≡ old ++ a → two ≡ one ++ b → three ≡ two ++ c
    → four ≡ three ++ d → five ≡ four ++ e → six ≡ five ++ f → six ≡ old ++ (a ++ (b ++ (c ++ (d ++ (e ++ f)))))
by_six old a b c d e f one two three four five six first second third fourth fifth sixth =
    by_one old a (b ++ (c ++ (d ++ (e ++ f)))) one six first
    (by_five one b c d e f two three four five six second third fourth fifth sixth)

-- what an empty text has grown by is the text
pub from_nothing : (none said text : List ℕ) → none ≡ [] → text ≡ none ++ said → text ≡ said
from_nothing none said text empty grown = grown ∙ ap (λ (old : List ℕ). old ++ said) empty
