-- No word of a line has a space or a newline in it, and no line of an index a newline.
use Rattle.std.proofs.Common.{◌≡◌, ℕ, true, false, List, [], ◌∷◌, ◌++◌, ◌&&◌, map, refl, eqb}
use Rattle.std.proofs.lemmas.Bool.{and_parts}
use Rattle.std.proofs.lemmas.List.Elements.{All-append, All-cons, All-nil}
use Rattle.std.specs.Char.{is_ascii_alphanumeric, is_ascii_digit}
use Rattle.std.specs.List.{flat_map, list_all}
use Rattle.std.specs.Prelude.{codes, decimal, length, not}
use Rattle.rules.specs.declared.step.Step.TheVariants.{Unpack}
use Rattle.plantext.proofs.ByteLemmas.{AreFree, IsFree, IsOutside, letters_free, name_free, passing_free, words_free as step_free}
use Rattle.refutation_text.specs.Derived.{is_some_hint}
use Rattle.refutation_text.specs.Number.{is_number}
use Rattle.refutation_text.specs.declared.limits.TheConstants.{NUMBER}
use Rattle.refutation_text.proofs.NumberLemmas.{decimal_is_word, number_small}
use Rattle.named_refutation.specs.Derived.{are_distinct, literal_words}
use Rattle.named_refutation.specs.Index.{index_front, is_index_writable, is_path, is_sum, is_sum_digit}
use Rattle.named_refutation.specs.LineText.{is_literal, is_named, is_pair, is_premise_in_range, is_premise_named, is_writable, premise_words, words_of}
use Rattle.named_refutation.specs.declared.index_line.TheConstants.{SUM}
use Rattle.named_refutation.specs.declared.named.IndexLine.{IndexLine}
use Rattle.named_refutation.specs.declared.named.NamedLine.{NamedLine}
use Rattle.named_refutation.specs.declared.named.NamedLine.TheVariants as line
use Rattle.named_refutation.specs.declared.named.NamedLiteral.{NamedLiteral}
use Rattle.named_refutation.specs.declared.named.NamedLiteral.TheVariants.{Selected, Unselected}
use Rattle.named_refutation.specs.declared.named.NamedPair.{NamedPair}
use Rattle.named_refutation.specs.declared.named.NamedPremise.{NamedPremise}
use Rattle.named_refutation.specs.declared.named.NamedPremise.TheVariants.{Same, PreDepends, Depends, Conflicts, Breaks, Goal, GoalOn, Hold, Essential, Keep}
use Rattle.named_refutation.proofs.ReadLemmas.{pair_words}

-- Words

-- the words of a pair, before others
pair_free : (byte : ℕ) (pair : NamedPair) (later : List (List ℕ)) → IsOutside byte → is_pair pair ≡ true → AreFree byte later → AreFree byte (pair_words pair later)
pair_free byte pair later outside h free = let words = step_free byte (Unpack pair.name pair.version) outside h in (words.1.0, (words.1.1.0, free))

number_free : (byte number : ℕ) → IsOutside byte → is_number NUMBER number ≡ true → IsFree byte (decimal number)
number_free byte number outside h = passing_free is_ascii_digit byte (decimal number) outside.digit (decimal_is_word NUMBER number number_small h).digits_alone

kind_free : (byte : ℕ) (kind : List ℕ) (later : List (List ℕ)) → IsOutside byte → list_all is_ascii_alphanumeric kind ≡ true → AreFree byte later
    → AreFree byte (kind ∷ later)
kind_free byte kind later outside letters free = (letters_free byte kind outside letters, free)

two_free : (byte : ℕ) (kind : List ℕ) (pair other : NamedPair) → IsOutside byte → list_all is_ascii_alphanumeric kind ≡ true
    → is_pair pair && is_pair other ≡ true → AreFree byte (kind ∷ pair_words pair (pair_words other []))
two_free byte kind pair other outside letters named =
    let both = and_parts (is_pair pair) (is_pair other) named in
    kind_free byte kind (pair_words pair (pair_words other [])) outside letters
    (pair_free byte pair (pair_words other []) outside both.0 (pair_free byte other [] outside both.1 tt))

clause_free : (byte : ℕ) (kind : List ℕ) (pair : NamedPair) (clause : ℕ) → IsOutside byte → list_all is_ascii_alphanumeric kind ≡ true
    → is_number NUMBER clause ≡ true → is_pair pair ≡ true → AreFree byte (kind ∷ pair_words pair (decimal clause ∷ []))
clause_free byte kind pair clause outside letters h named =
    kind_free byte kind (pair_words pair (decimal clause ∷ [])) outside letters
    (pair_free byte pair (decimal clause ∷ []) outside named (number_free byte clause outside h, tt))

premise_free : (byte : ℕ) (premise : NamedPremise) → IsOutside byte → is_premise_in_range premise ≡ true → is_premise_named premise ≡ true
    → AreFree byte (premise_words premise)
premise_free byte (Same pair other) outside h named = two_free byte (codes "same") pair other outside refl named
premise_free byte (PreDepends pair clause) outside h named = clause_free byte (codes "predepends") pair clause outside refl h named
premise_free byte (Depends pair clause) outside h named = clause_free byte (codes "depends") pair clause outside refl h named
premise_free byte (Conflicts pair other) outside h named = two_free byte (codes "conflicts") pair other outside refl named
premise_free byte (Breaks pair other) outside h named = two_free byte (codes "breaks") pair other outside refl named
premise_free byte (Goal goal) outside h named = kind_free byte (codes "goal") (decimal goal ∷ []) outside refl (number_free byte goal outside h, tt)
premise_free byte (GoalOn goal pair) outside h named =
    kind_free byte (codes "goal") (decimal goal ∷ pair_words pair []) outside refl (number_free byte goal outside h, pair_free byte pair [] outside named tt)
premise_free byte (Hold pair) outside h named = kind_free byte (codes "hold") (pair_words pair []) outside refl (pair_free byte pair [] outside named tt)
premise_free byte (Essential name) outside h named = kind_free byte (codes "essential") (name ∷ []) outside refl (name_free byte name outside named, tt)
premise_free byte (Keep name) outside h named = kind_free byte (codes "keep") (name ∷ []) outside refl (name_free byte name outside named, tt)

hints_free : (byte : ℕ) (hints : List ℕ) → IsOutside byte → list_all (is_number NUMBER) hints ≡ true → AreFree byte (map decimal hints)
hints_free byte [] outside h = tt
hints_free byte (hint ∷ later) outside h =
    let both = and_parts (is_number NUMBER hint) (list_all (is_number NUMBER) later) h in
    (number_free byte hint outside both.0, hints_free byte later outside both.1)

-- the words of literals, before others
literals_free : (byte : ℕ) (literals : List NamedLiteral) (behind : List (List ℕ)) → IsOutside byte → list_all is_literal literals ≡ true
    → AreFree byte behind → AreFree byte (flat_map literal_words literals ++ behind)
literals_free byte [] behind outside h free = free
literals_free byte (Selected pair ∷ later) behind outside h free =
    let both = and_parts (is_pair pair) (list_all is_literal later) h in
    pair_free byte pair (flat_map literal_words later ++ behind) outside both.0 (literals_free byte later behind outside both.1 free)
literals_free byte (Unselected pair ∷ later) behind outside h free =
    let both = and_parts (is_pair pair) (list_all is_literal later) h in
    let words = pair_free byte pair (flat_map literal_words later ++ behind) outside both.0 (literals_free byte later behind outside both.1 free) in
    (All-cons (λ b. eqb b byte ≡ false) 45 pair.name outside.hyphen words.0, words.1)

colon_free : (byte : ℕ) → IsOutside byte → IsFree byte (codes ":")
colon_free byte outside = All-cons (λ b. eqb b byte ≡ false) 58 [] outside.colon (All-nil (λ b. eqb b byte ≡ false))

pub words_free : (byte : ℕ) (line : NamedLine) → IsOutside byte → is_writable line ≡ true → is_named line ≡ true → AreFree byte (words_of line)
words_free byte (line.Premise premise) outside h named = premise_free byte premise outside h named
words_free byte (line.Derived literals hints) outside h named =
    let both = and_parts (list_all (is_number NUMBER) hints) (are_distinct literals && is_some_hint hints) h in
    kind_free byte (codes "derive") (flat_map literal_words literals ++ codes ":" ∷ map decimal hints) outside refl
    (literals_free byte literals (codes ":" ∷ map decimal hints) outside named (colon_free byte outside, hints_free byte hints outside both.0))

-- Indices

path_free : (path : List ℕ) → is_path path ≡ true → IsFree 10 path
path_free [] h = All-nil (λ b. eqb b 10 ≡ false)
path_free (b ∷ later) h = passing_free (λ byte. not (eqb byte 10)) 10 (b ∷ later) refl h

pub index_free : (index : IndexLine) → is_index_writable index ≡ true → IsFree 10 (index_front ++ (index.sum ++ 32 ∷ index.path))
index_free index h =
    let both = and_parts (is_sum index.sum) (is_path index.path) h in
    let digits = and_parts (eqb (length index.sum) SUM) (list_all is_sum_digit index.sum) both.0 in
    All-append (λ b. eqb b 10 ≡ false) index_front (index.sum ++ 32 ∷ index.path) (passing_free (λ byte. not (eqb byte 10)) 10 index_front refl refl)
    (All-append (λ b. eqb b 10 ≡ false) index.sum (32 ∷ index.path) (passing_free is_sum_digit 10 index.sum refl digits.1)
    (All-cons (λ b. eqb b 10 ≡ false) 32 index.path refl (path_free index.path both.1)))
