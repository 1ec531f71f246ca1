-- A text that grows piece by piece.
use Rattle.std.proofs.Common.{◌≡◌, ◌<◌, ◌++◌, ◌∷◌, [], ℕ, Err, List, Ok, Result, arith, length, refl}
use Rattle.std.specs.Prelude.{OnOk, codes, if◌then◌else◌, is_ok}
use Rattle.std.proofs.lemmas.Grind.{common_steps}
use Rattle.indexmap.proofs.MapLemmas.{OnOk-map}
use Rattle.rules.specs.Universe.{Universe}
use Rattle.refutation_sentences.specs.Words.{listed, satisfying}

-- by three pieces
pub by_three : (old a b c one two three : List ℕ) → one ≡ old ++ a → two ≡ one ++ b → three ≡ two ++ c
    → three ≡ old ++ (a ++ (b ++ c))
by_three old a b c one two three first second third = grind (arith, common_steps)

-- by a text, and one behind it
pub by_two : (old a b one two : List ℕ) → one ≡ old ++ a → two ≡ one ++ b → two ≡ old ++ (a ++ b)
by_two old a b one two first second = grind (arith, common_steps)

-- what a piece is written as, where it is written
pub where_written : {T E : Type 0} (r : Result T E) (new more old : List ℕ) → new ≡ (if is_ok r then more else old) → OnOk r (new ≡ more)
where_written (Ok value) new more old same = same
where_written (Err refused) new more old same = tt

-- by a text, and one behind it where that is written
pub ends_two : {T E : Type 0} (r : Result T E) (old a b one two : List ℕ) → one ≡ old ++ a → OnOk r (two ≡ one ++ b)
    → OnOk r (two ≡ old ++ (a ++ b))
ends_two r old a b one two first last =
    OnOk-map r (two ≡ one ++ b) (two ≡ old ++ (a ++ b)) (λ second. by_two old a b one two first second) last

-- by three pieces, where the last one is written
pub ends_three : {T E : Type 0} (r : Result T E) (old a b c one two three : List ℕ) → one ≡ old ++ a → two ≡ one ++ b
    → OnOk r (three ≡ two ++ c) → OnOk r (three ≡ old ++ (a ++ (b ++ c)))
ends_three r old a b c one two three first second last =
    OnOk-map r (three ≡ two ++ c) (three ≡ old ++ (a ++ (b ++ c))) (λ third. by_three old a b c one two three first second third) last

-- by four pieces
pub by_four : (old a b c d one two three four : List ℕ) → one ≡ old ++ a → two ≡ one ++ b → three ≡ two ++ c → four ≡ three ++ d
    → four ≡ old ++ (a ++ (b ++ (c ++ d)))
by_four old a b c d one two three four first second third fourth =
    let front : two ≡ old ++ (a ++ b) = by_two old a b one two first second in
    let back : four ≡ two ++ (c ++ d) = by_two two c d three four third fourth in
    grind (arith, common_steps)

-- by five pieces
pub by_five : (old a b c d e one two three four five : List ℕ) → one ≡ old ++ a → two ≡ one ++ b → three ≡ two ++ c → four ≡ three ++ d
    → five ≡ four ++ e → five ≡ old ++ (a ++ (b ++ (c ++ (d ++ e))))
by_five old a b c d e one two three four five first second third fourth fifth =
    let front : two ≡ old ++ (a ++ b) = by_two old a b one two first second in
    let back : five ≡ two ++ (c ++ (d ++ e)) = by_three two c d e three four five third fourth fifth in
    grind (arith, common_steps)

-- by six pieces
pub by_six : (old a b c d e f one two three four five six : List ℕ) → one ≡ old ++ a → two ≡ one ++ b → three ≡ two ++ c
    → four ≡ three ++ d → five ≡ four ++ e → six ≡ five ++ f → six ≡ old ++ (a ++ (b ++ (c ++ (d ++ (e ++ f)))))
by_six old a b c d e f one two three four five six first second third fourth fifth sixth =
    let front : three ≡ old ++ (a ++ (b ++ c)) = by_three old a b c one two three first second third in
    let back : six ≡ three ++ (d ++ (e ++ f)) = by_three three d e f four five six fourth fifth sixth in
    grind (arith, common_steps)

-- where several satisfy
pub satisfying_many : (u : Universe) (numbers why : List ℕ) → 1 < length numbers
    → satisfying u numbers why ≡ codes ", which only " ++ (listed u numbers ++ codes " can satisfy")
satisfying_many u [] why many = absurd (omega (arith, many))
satisfying_many u (number ∷ []) why many = absurd (omega (arith, many))
satisfying_many u (number ∷ other ∷ numbers) why many = refl
