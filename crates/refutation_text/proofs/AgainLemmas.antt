-- What is written is read again: each word, then each line, then all lines.
use Rattle.std.proofs.Common.{◌≡◌, ℕ, ◌+◌, ◌≤◌, true, false, ◌&&◌, not, List, [], ◌∷◌, ◌++◌, length, map, Some, None, Ok, refl, sym, ap, ◌∙◌, eqb, append_assoc, append-nil, arith, inl, inr}
use Rattle.std.proofs.lemmas.Bool.{and_parts, cases_Bool, le-ltb, not-true}
use Rattle.std.proofs.lemmas.List.Splits.{slice_split_at}
use Rattle.std.specs.List.{flat_map, join_with_byte, list_all}
use Rattle.std.specs.Option.{option_and_then}
use Rattle.std.specs.Prelude.{codes, decimal}
use Rattle.std.specs.Str.{bytes_eq}
use Rattle.rules.specs.NamedLaws.{bytes_eq-true}
use Rattle.rules.specs.declared.limits.TheConstants.{TEXT_BYTES}
use Rattle.refutation.specs.declared.line.Line.{Line}
use Rattle.refutation.specs.declared.line.Line.TheVariants as line
use Rattle.refutation.specs.declared.line.Premise.{Premise}
use Rattle.refutation.specs.declared.line.Premise.TheVariants.{Same, PreDepends, Depends, Conflicts, Breaks, Goal, GoalOn, Hold, Essential, Keep}
use Rattle.refutation.specs.declared.literal.Literal.{Literal}
use Rattle.plantext.specs.Cut.{parts_at}
use Rattle.refutation_text.specs.Derived.{are_distinct, derived_from, derived_line, hinted_line, hints_from, is_some_hint}
use Rattle.refutation_text.specs.LineText.{is_named, is_premise_in_range, is_premise_named, is_writable, line_of, line_of_words, line_text, premise_words, words_of}
use Rattle.refutation_text.specs.Number.{is_literal, is_number, literal_in, literal_word}
use Rattle.refutation_text.specs.PremiseWords.{two_numbers}
use Rattle.refutation_text.specs.Text.{is_wide, line_in_text, numbered_line, put_line, read_lines, read_refutation, refutation_text, IsReadAs, IsWritable}
use Rattle.refutation_text.specs.declared.limits.TheConstants.{LINES, NUMBER, PAIR}
use Rattle.plantext.proofs.AgainLemmas.{joined_parts}
use Rattle.plantext.proofs.ByteLemmas.{AreFree, IsFree, joined_free, newline_outside, space_outside}
use Rattle.refutation_text.proofs.ByteLemmas.{words_free}
use Rattle.refutation_text.proofs.LineLemmas.{read_lines_more}
use Rattle.refutation_text.proofs.NumberLemmas.{literal_again, number_again, number_small, pair_small}

-- Premises

two_pairs : (pair other : ℕ) → is_number PAIR pair && is_number PAIR other ≡ true
    → two_numbers PAIR PAIR (decimal pair ∷ decimal other ∷ []) ≡ Some (pair, other)
two_pairs pair other h =
    let both = and_parts (is_number PAIR pair) (is_number PAIR other) h in
    rw (number_again PAIR pair pair_small both.0, number_again PAIR other pair_small both.1) refl

pair_and_clause : (pair clause : ℕ) → is_number PAIR pair && is_number NUMBER clause ≡ true
    → two_numbers PAIR NUMBER (decimal pair ∷ decimal clause ∷ []) ≡ Some (pair, clause)
pair_and_clause pair clause h =
    let both = and_parts (is_number PAIR pair) (is_number NUMBER clause) h in
    rw (number_again PAIR pair pair_small both.0, number_again NUMBER clause number_small both.1) refl

goal_and_pair : (goal pair : ℕ) → is_number NUMBER goal && is_number PAIR pair ≡ true
    → two_numbers NUMBER PAIR (decimal goal ∷ decimal pair ∷ []) ≡ Some (goal, pair)
goal_and_pair goal pair h =
    let both = and_parts (is_number NUMBER goal) (is_number PAIR pair) h in
    rw (number_again NUMBER goal number_small both.0, number_again PAIR pair pair_small both.1) refl

-- the words of a premise are read as it
premise_again : (premise : Premise) → is_premise_in_range premise ≡ true → is_premise_named premise ≡ true
    → line_of_words (premise_words premise) ≡ Some (line.Premise premise)
premise_again (Same pair other) h named = rw (two_pairs pair other h) refl
premise_again (PreDepends pair clause) h named = rw (pair_and_clause pair clause h) refl
premise_again (Depends pair clause) h named = rw (pair_and_clause pair clause h) refl
premise_again (Conflicts pair other) h named = rw (two_pairs pair other h) refl
premise_again (Breaks pair other) h named = rw (two_pairs pair other h) refl
premise_again (Goal goal) h named = rw (number_again NUMBER goal number_small h) refl
premise_again (GoalOn goal pair) h named = rw (goal_and_pair goal pair h) refl
premise_again (Hold pair) h named = rw (number_again PAIR pair pair_small h) refl
premise_again (Essential name) h named = rw named refl
premise_again (Keep name) h named = rw named refl

-- Derived lines

hints_again : (earlier hints : List ℕ) → list_all (is_number NUMBER) hints ≡ true → hints_from earlier (map decimal hints) ≡ Some (earlier ++ hints)
hints_again earlier [] h = ap (λ (hints : List ℕ). Some hints) (sym (append-nil earlier))
hints_again earlier (hint ∷ later) h =
    let both = and_parts (is_number NUMBER hint) (list_all (is_number NUMBER) later) h in
    ap (option_and_then (λ read. hints_from (earlier ++ read ∷ []) (map decimal later))) (number_again NUMBER hint number_small both.0)
    ∙ hints_again (earlier ++ hint ∷ []) later both.1
    ∙ ap (λ (hints : List ℕ). Some hints) (append_assoc earlier (hint ∷ []) later)

-- the word of a literal isn't a colon
literal_no_colon : (literal : Literal) → is_literal literal ≡ true → bytes_eq (literal_word literal) (codes ":") ≡ false
literal_no_colon literal h = elim (cases_Bool (bytes_eq (literal_word literal) (codes ":"))) [
  | inl e ↦
      let colon : literal_in (codes ":") ≡ Some literal = ap literal_in (sym (bytes_eq-true (literal_word literal) (codes ":") e)) ∙ literal_again literal h in
      absurd (no_colon literal colon)
  | inr e ↦ e
] where
  no_colon : (literal : Literal) → None ≡ Some literal → ⊥
  no_colon literal e = cc

literals_again : (earlier literals : List Literal) (words : List (List ℕ)) → list_all is_literal literals ≡ true
    → derived_from earlier (map literal_word literals ++ codes ":" ∷ words) ≡ hinted_line (earlier ++ literals) words
literals_again earlier [] words h = ap (λ (literals : List Literal). hinted_line literals words) (sym (append-nil earlier))
literals_again earlier (literal ∷ later) words h =
    let both = and_parts (is_literal literal) (list_all is_literal later) h in
    rw (literal_no_colon literal both.0)
    (ap (option_and_then (λ one. derived_from (earlier ++ one ∷ []) (map literal_word later ++ codes ":" ∷ words))) (literal_again literal both.0)
    ∙ literals_again (earlier ++ literal ∷ []) later words both.1
    ∙ ap (λ (literals : List Literal). hinted_line literals words) (append_assoc earlier (literal ∷ []) later))

-- the words of a derived line are read as it
derived_again : (literals : List Literal) (hints : List ℕ) → is_writable (line.Derived literals hints) ≡ true
    → line_of_words (words_of (line.Derived literals hints)) ≡ Some (line.Derived literals hints)
derived_again literals hints h =
    let all = and_parts (list_all is_literal literals && list_all (is_number NUMBER) hints) (are_distinct literals && is_some_hint hints) h in
    let both = and_parts (list_all is_literal literals) (list_all (is_number NUMBER) hints) all.0 in
    let proper = and_parts (are_distinct literals) (is_some_hint hints) all.1 in
    literals_again [] literals (map decimal hints) both.0
    ∙ ap (option_and_then (derived_line literals)) (hints_again [] hints both.1)
    ∙ rw (proper.1, proper.0) refl

-- Lines

-- the words of a line are read as it
words_again : (line : Line) → is_writable line ≡ true → is_named line ≡ true → line_of_words (words_of line) ≡ Some line
words_again (line.Premise premise) h named = premise_again premise h named
words_again (line.Derived literals hints) h named = derived_again literals hints h

-- the words of a line with spaces between them
abbrev joined_words : Line → List ℕ
joined_words line = join_with_byte 32 (words_of line)

premise_parted : (premise : Premise) → AreFree 32 (premise_words premise) → parts_at 32 (join_with_byte 32 (premise_words premise)) ≡ premise_words premise
premise_parted (Same pair other) free = joined_parts 32 (codes "same") (decimal pair ∷ decimal other ∷ []) free
premise_parted (PreDepends pair clause) free = joined_parts 32 (codes "predepends") (decimal pair ∷ decimal clause ∷ []) free
premise_parted (Depends pair clause) free = joined_parts 32 (codes "depends") (decimal pair ∷ decimal clause ∷ []) free
premise_parted (Conflicts pair other) free = joined_parts 32 (codes "conflicts") (decimal pair ∷ decimal other ∷ []) free
premise_parted (Breaks pair other) free = joined_parts 32 (codes "breaks") (decimal pair ∷ decimal other ∷ []) free
premise_parted (Goal goal) free = joined_parts 32 (codes "goal") (decimal goal ∷ []) free
premise_parted (GoalOn goal pair) free = joined_parts 32 (codes "goal") (decimal goal ∷ decimal pair ∷ []) free
premise_parted (Hold pair) free = joined_parts 32 (codes "hold") (decimal pair ∷ []) free
premise_parted (Essential name) free = joined_parts 32 (codes "essential") (name ∷ []) free
premise_parted (Keep name) free = joined_parts 32 (codes "keep") (name ∷ []) free

words_parted : (line : Line) → AreFree 32 (words_of line) → parts_at 32 (joined_words line) ≡ words_of line
words_parted (line.Premise premise) free = premise_parted premise free
words_parted (line.Derived literals hints) free = joined_parts 32 (codes "derive") (map literal_word literals ++ codes ":" ∷ map decimal hints) free

-- the text of a line is read as it
line_again : (line : Line) → is_writable line ≡ true → is_named line ≡ true → line_of (joined_words line) ≡ Some line
unfolding line_of
line_again line h named = ap line_of_words (words_parted line (words_free 32 line space_outside h named)) ∙ words_again line h named

line_free : (line : Line) → is_writable line ≡ true → is_named line ≡ true → IsFree 10 (joined_words line)
line_free line h named = joined_free 10 32 (words_of line) refl (words_free 10 line newline_outside h named)

-- a line and its newline before other bytes
line_parted : (line : Line) (rest : List ℕ) → is_writable line ≡ true → is_named line ≡ true
    → parts_at 10 (line_text line ++ rest) ≡ joined_words line ∷ parts_at 10 rest
unfolding line_text
line_parted line rest h named =
    ap (parts_at 10) (append_assoc (joined_words line) (10 ∷ []) rest)
    ∙ slice_split_at (λ b. eqb b 10) (joined_words line) 10 rest (line_free line h named) refl

line_in_place : (number : ℕ) (line : Line) → is_writable line ≡ true → is_named line ≡ true → not (is_wide line) ≡ true → number ≤ LINES
    → line_in_text number (joined_words line) ≡ Ok line
line_in_place number line h named narrow within =
    ap (numbered_line number) (line_again line h named) ∙ rw (le-ltb LINES number within, not-true (is_wide line) narrow) refl

-- the texts of lines are read as them
lines_again : (number : ℕ) (lines : List Line) → IsWritable lines → list_all is_named lines ≡ true → list_all (λ line. not (is_wide line)) lines ≡ true
    → number + length lines ≤ LINES + 1 → read_lines number (parts_at 10 (flat_map line_text lines)) ≡ Ok lines
lines_again number [] h named narrow within = refl
lines_again number (line ∷ later) h named narrow within =
    let writable = and_parts (is_writable line) (list_all is_writable later) h in
    let names = and_parts (is_named line) (list_all is_named later) named in
    let widths = and_parts (not (is_wide line)) (list_all (λ other. not (is_wide other)) later) narrow in
    let rest = flat_map line_text later in
    let here : number ≤ LINES = omega arith in
    let left : (number + 1) + length later ≤ LINES + 1 = omega arith in
    ap (read_lines number) (line_parted line rest writable.0 names.0)
    ∙ read_lines_more number (joined_words line) rest
    ∙ ap (λ read. put_line read (read_lines (number + 1) (parts_at 10 rest))) (line_in_place number line writable.0 names.0 widths.0 here)
    ∙ ap (put_line (Ok line)) (lines_again (number + 1) later writable.1 names.1 widths.1 left)

-- Texts

-- the text of a refutation is read as its lines
pub refutation_again : (lines : List Line) (text : List ℕ) → text ≡ refutation_text lines → list_all is_named lines ≡ true → IsReadAs lines text
unfolding read_refutation refutation_text
refutation_again lines text e named h limits =
    let few : length lines ≤ LINES = limits.few in
    rw (le-ltb TEXT_BYTES (length text) limits.small, e) (lines_again 1 lines h named limits.narrow (omega arith))
