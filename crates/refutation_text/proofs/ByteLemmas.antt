-- No word of a line has a space or a newline in it.
use Rattle.std.proofs.Common.{◌≡◌, ℕ, true, false, List, [], ◌∷◌, ◌++◌, ◌&&◌, map, refl, eqb}
use Rattle.std.proofs.lemmas.Bool.{and_parts}
use Rattle.std.proofs.lemmas.List.Elements.{All-cons, All-nil}
use Rattle.std.specs.Char.{is_ascii_alphanumeric, is_ascii_digit}
use Rattle.std.specs.List.{list_all}
use Rattle.std.specs.Prelude.{codes, decimal}
use Rattle.refutation.specs.declared.line.Line.{Line}
use Rattle.refutation.specs.declared.line.Line.TheVariants as line
use Rattle.refutation.specs.declared.line.Premise.{Premise}
use Rattle.refutation.specs.declared.line.Premise.TheVariants.{Same, PreDepends, Depends, Conflicts, Breaks, Goal, GoalOn, Hold, Essential, Keep}
use Rattle.refutation.specs.declared.literal.Literal.{Literal}
use Rattle.refutation.specs.declared.literal.Literal.TheVariants.{Selected, Unselected}
use Rattle.refutation_text.specs.Derived.{are_distinct, is_some_hint}
use Rattle.refutation_text.specs.LineText.{is_named, is_premise_in_range, is_premise_named, is_writable, premise_words, words_of}
use Rattle.refutation_text.specs.Number.{is_literal, is_number, literal_word}
use Rattle.refutation_text.specs.declared.limits.TheConstants.{NUMBER, PAIR}
use Rattle.plantext.proofs.ByteLemmas.{AreFree, IsFree, IsOutside, letters_free, name_free, passing_free}
use Rattle.refutation_text.proofs.NumberLemmas.{decimal_is_word, number_small, pair_small}

pair_free : (byte pair : ℕ) → IsOutside byte → is_number PAIR pair ≡ true → IsFree byte (decimal pair)
pair_free byte pair outside h = passing_free is_ascii_digit byte (decimal pair) outside.digit (decimal_is_word PAIR pair pair_small h).digits_alone

number_free : (byte number : ℕ) → IsOutside byte → is_number NUMBER number ≡ true → IsFree byte (decimal number)
number_free byte number outside h = passing_free is_ascii_digit byte (decimal number) outside.digit (decimal_is_word NUMBER number number_small h).digits_alone

literal_free : (byte : ℕ) (literal : Literal) → IsOutside byte → is_literal literal ≡ true → IsFree byte (literal_word literal)
literal_free byte (Selected pair) outside h = pair_free byte pair outside h
literal_free byte (Unselected pair) outside h = All-cons (λ b. eqb b byte ≡ false) 45 (decimal pair) outside.hyphen (pair_free byte pair outside h)

-- Words

hints_free : (byte : ℕ) (hints : List ℕ) → IsOutside byte → list_all (is_number NUMBER) hints ≡ true → AreFree byte (map decimal hints)
hints_free byte [] outside h = tt
hints_free byte (hint ∷ later) outside h =
    let both = and_parts (is_number NUMBER hint) (list_all (is_number NUMBER) later) h in
    (number_free byte hint outside both.0, hints_free byte later outside both.1)

-- the words of literals, before others
literals_free : (byte : ℕ) (literals : List Literal) (behind : List (List ℕ)) → IsOutside byte → list_all is_literal literals ≡ true → AreFree byte behind
    → AreFree byte (map literal_word literals ++ behind)
literals_free byte [] behind outside h free = free
literals_free byte (literal ∷ later) behind outside h free =
    let both = and_parts (is_literal literal) (list_all is_literal later) h in
    (literal_free byte literal outside both.0, literals_free byte later behind outside both.1 free)

colon_free : (byte : ℕ) → IsOutside byte → IsFree byte (codes ":")
colon_free byte outside = All-cons (λ b. eqb b byte ≡ false) 58 [] outside.colon (All-nil (λ b. eqb b byte ≡ false))

pair_words_free : (byte : ℕ) (kind : List ℕ) (pair other : ℕ) → IsOutside byte → list_all is_ascii_alphanumeric kind ≡ true
    → is_number PAIR pair && is_number PAIR other ≡ true → AreFree byte (kind ∷ decimal pair ∷ decimal other ∷ [])
pair_words_free byte kind pair other outside letters h =
    let both = and_parts (is_number PAIR pair) (is_number PAIR other) h in
    (letters_free byte kind outside letters, (pair_free byte pair outside both.0, (pair_free byte other outside both.1, tt)))

clause_words_free : (byte : ℕ) (kind : List ℕ) (pair clause : ℕ) → IsOutside byte → list_all is_ascii_alphanumeric kind ≡ true
    → is_number PAIR pair && is_number NUMBER clause ≡ true → AreFree byte (kind ∷ decimal pair ∷ decimal clause ∷ [])
clause_words_free byte kind pair clause outside letters h =
    let both = and_parts (is_number PAIR pair) (is_number NUMBER clause) h in
    (letters_free byte kind outside letters, (pair_free byte pair outside both.0, (number_free byte clause outside both.1, tt)))

premise_free : (byte : ℕ) (premise : Premise) → IsOutside byte → is_premise_in_range premise ≡ true → is_premise_named premise ≡ true
    → AreFree byte (premise_words premise)
premise_free byte (Same pair other) outside h named = pair_words_free byte (codes "same") pair other outside refl h
premise_free byte (PreDepends pair clause) outside h named = clause_words_free byte (codes "predepends") pair clause outside refl h
premise_free byte (Depends pair clause) outside h named = clause_words_free byte (codes "depends") pair clause outside refl h
premise_free byte (Conflicts pair other) outside h named = pair_words_free byte (codes "conflicts") pair other outside refl h
premise_free byte (Breaks pair other) outside h named = pair_words_free byte (codes "breaks") pair other outside refl h
premise_free byte (Goal goal) outside h named = (letters_free byte (codes "goal") outside refl, (number_free byte goal outside h, tt))
premise_free byte (GoalOn goal pair) outside h named =
    let both = and_parts (is_number NUMBER goal) (is_number PAIR pair) h in
    (letters_free byte (codes "goal") outside refl, (number_free byte goal outside both.0, (pair_free byte pair outside both.1, tt)))
premise_free byte (Hold pair) outside h named = (letters_free byte (codes "hold") outside refl, (pair_free byte pair outside h, tt))
premise_free byte (Essential name) outside h named = (letters_free byte (codes "essential") outside refl, (name_free byte name outside named, tt))
premise_free byte (Keep name) outside h named = (letters_free byte (codes "keep") outside refl, (name_free byte name outside named, tt))

pub words_free : (byte : ℕ) (line : Line) → IsOutside byte → is_writable line ≡ true → is_named line ≡ true → AreFree byte (words_of line)
words_free byte (line.Premise premise) outside h named = premise_free byte premise outside h named
words_free byte (line.Derived literals hints) outside h named =
    let all = and_parts (list_all is_literal literals && list_all (is_number NUMBER) hints) (are_distinct literals && is_some_hint hints) h in
    let both = and_parts (list_all is_literal literals) (list_all (is_number NUMBER) hints) all.0 in (
      letters_free byte (codes "derive") outside refl,
      literals_free byte literals (codes ":" ∷ map decimal hints) outside both.0 (colon_free byte outside, hints_free byte hints outside both.1),
    )
