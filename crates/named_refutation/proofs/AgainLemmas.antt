-- What is written is read again: each word, then each line.
use Rattle.std.proofs.Common.{◌≡◌, ℕ, true, false, ◌&&◌, List, [], ◌∷◌, ◌++◌, map, Some, refl, sym, ap, ◌∙◌, eqb, append_assoc, append-nil, inl, inr}
use Rattle.std.proofs.lemmas.Bool.{and_parts, cases_Bool, eqb-true, false≢true}
use Rattle.std.proofs.lemmas.List.Splits.{slice_split_at}
use Rattle.std.specs.List.{flat_map, join_with_byte, list_all}
use Rattle.std.specs.Option.{is_none, option_and_then}
use Rattle.std.specs.Prelude.{codes, decimal}
use Rattle.std.specs.Str.{bytes_eq}
use Rattle.rules.specs.Name.{is_name}
use Rattle.rules.specs.NamedLaws.{bytes_eq-true}
use Rattle.rules.specs.VersionFault.{first_fault}
use Rattle.plantext.specs.Cut.{parts_at}
use Rattle.plantext.proofs.AgainLemmas.{joined_parts}
use Rattle.plantext.proofs.ByteLemmas.{AreFree, IsFree, joined_free, newline_outside, space_outside}
use Rattle.refutation_text.specs.Derived.{hints_from, is_some_hint}
use Rattle.refutation_text.specs.Number.{is_number}
use Rattle.refutation_text.specs.declared.limits.TheConstants.{NUMBER}
use Rattle.refutation_text.proofs.NumberLemmas.{number_again, number_small}
use Rattle.named_refutation.specs.Derived.{are_distinct, derived_from, derived_line, hinted_line, literal_of, literal_words}
use Rattle.named_refutation.specs.LineText.{is_literal, is_named, is_pair, is_premise_in_range, is_premise_named, is_writable, line_of, line_of_words, line_text, premise_words, words_of}
use Rattle.named_refutation.specs.Pair.{pair_of}
use Rattle.named_refutation.specs.declared.named.NamedLine.{NamedLine}
use Rattle.named_refutation.specs.declared.named.NamedLine.TheVariants as line
use Rattle.named_refutation.specs.declared.named.NamedLiteral.{NamedLiteral}
use Rattle.named_refutation.specs.declared.named.NamedLiteral.TheVariants.{Selected, Unselected}
use Rattle.named_refutation.specs.declared.named.NamedPair.{NamedPair}
use Rattle.named_refutation.specs.declared.named.NamedPremise.{NamedPremise}
use Rattle.named_refutation.specs.declared.named.NamedPremise.TheVariants.{Same, PreDepends, Depends, Conflicts, Breaks, Goal, GoalOn, Hold, Essential, Keep}
use Rattle.named_refutation.proofs.ByteLemmas.{words_free}
use Rattle.named_refutation.proofs.ReadLemmas.{pair_words}

-- Premises

pair_again : (pair : NamedPair) → is_pair pair ≡ true → pair_of pair.name pair.version ≡ Some pair
pair_again pair h = rw h refl

-- the words of a premise are read as it
premise_again : (premise : NamedPremise) → is_premise_in_range premise ≡ true → is_premise_named premise ≡ true
    → line_of_words (premise_words premise) ≡ Some (line.Premise premise)
premise_again (Same pair other) h named =
    let both = and_parts (is_pair pair) (is_pair other) named in rw (pair_again pair both.0, pair_again other both.1) refl
premise_again (PreDepends pair clause) h named = rw (pair_again pair named, number_again NUMBER clause number_small h) refl
premise_again (Depends pair clause) h named = rw (pair_again pair named, number_again NUMBER clause number_small h) refl
premise_again (Conflicts pair other) h named =
    let both = and_parts (is_pair pair) (is_pair other) named in rw (pair_again pair both.0, pair_again other both.1) refl
premise_again (Breaks pair other) h named =
    let both = and_parts (is_pair pair) (is_pair other) named in rw (pair_again pair both.0, pair_again other both.1) refl
premise_again (Goal goal) h named = rw (number_again NUMBER goal number_small h) refl
premise_again (GoalOn goal pair) h named = rw (number_again NUMBER goal number_small h, pair_again pair named) refl
premise_again (Hold pair) h named = rw (pair_again pair named) refl
premise_again (Essential name) h named = rw named refl
premise_again (Keep name) h named = rw named refl

-- Derived lines

hints_again : (earlier hints : List ℕ) → list_all (is_number NUMBER) hints ≡ true → hints_from earlier (map decimal hints) ≡ Some (earlier ++ hints)
hints_again earlier [] h = ap (λ (hints : List ℕ). Some hints) (sym (append-nil earlier))
hints_again earlier (hint ∷ later) h =
    let both = and_parts (is_number NUMBER hint) (list_all (is_number NUMBER) later) h in
    ap (option_and_then (λ read. hints_from (earlier ++ read ∷ []) (map decimal later))) (number_again NUMBER hint number_small both.0)
    ∙ hints_again (earlier ++ hint ∷ []) later both.1
    ∙ ap (λ (hints : List ℕ). Some hints) (append_assoc earlier (hint ∷ []) later)

-- a name isn't a colon
name_no_colon : (name : List ℕ) → is_name name ≡ true → bytes_eq name (codes ":") ≡ false
name_no_colon name h = elim (cases_Bool (bytes_eq name (codes ":"))) [
  | inl e ↦ absurd (false≢true (ap is_name (sym (bytes_eq-true name (codes ":") e)) ∙ h))
  | inr e ↦ e
]

-- a name doesn't begin with a minus
name_no_minus : (b : ℕ) (later : List ℕ) → is_name (b ∷ later) ≡ true → eqb b 45 ≡ false
name_no_minus b later h = elim (cases_Bool (eqb b 45)) [
  | inl e ↦ absurd (false≢true (ap (λ (first : ℕ). is_name (first ∷ later)) (sym (eqb-true b 45 e)) ∙ h))
  | inr e ↦ e
]

named_pair : List ℕ → List ℕ → NamedPair
named_pair name version = record { name = name; version = version }

selected_again : (name version : List ℕ) → is_name name && is_none (first_fault version) ≡ true
    → literal_of name version ≡ Some (Selected (record { name = name; version = version }))
selected_again [] version h = absurd (false≢true h)
selected_again (b ∷ later) version h =
    let both = and_parts (is_name (b ∷ later)) (is_none (first_fault version)) h in
    rw (name_no_minus b later both.0, h) refl

-- a literal before other words is read as it
literal_again : (literal : NamedLiteral) (earlier : List NamedLiteral) (later : List (List ℕ)) → is_literal literal ≡ true
    → derived_from earlier (literal_words literal ++ later) ≡ derived_from (earlier ++ literal ∷ []) later
literal_again (Selected pair) earlier later h =
    let both = and_parts (is_name pair.name) (is_none (first_fault pair.version)) h in
    rw (name_no_colon pair.name both.0, selected_again pair.name pair.version h) refl
literal_again (Unselected pair) earlier later h = rw (pair_again pair h) refl

literals_again : (earlier literals : List NamedLiteral) (hint : List ℕ) (words : List (List ℕ)) → list_all is_literal literals ≡ true
    → derived_from earlier (flat_map literal_words literals ++ codes ":" ∷ hint ∷ words) ≡ hinted_line (earlier ++ literals) (hint ∷ words)
literals_again earlier [] hint words h = ap (λ (literals : List NamedLiteral). hinted_line literals (hint ∷ words)) (sym (append-nil earlier))
literals_again earlier (literal ∷ later) hint words h =
    let both = and_parts (is_literal literal) (list_all is_literal later) h in
    ap (derived_from earlier) (append_assoc (literal_words literal) (flat_map literal_words later) (codes ":" ∷ hint ∷ words))
    ∙ literal_again literal earlier (flat_map literal_words later ++ codes ":" ∷ hint ∷ words) both.0
    ∙ literals_again (earlier ++ literal ∷ []) later hint words both.1
    ∙ ap (λ (literals : List NamedLiteral). hinted_line literals (hint ∷ words)) (append_assoc earlier (literal ∷ []) later)

-- the words of a derived line are read as it
derived_again : (literals : List NamedLiteral) (hints : List ℕ) → is_writable (line.Derived literals hints) ≡ true → list_all is_literal literals ≡ true
    → line_of_words (words_of (line.Derived literals hints)) ≡ Some (line.Derived literals hints)
derived_again literals [] h named =
    let all = and_parts (list_all (is_number NUMBER) []) (are_distinct literals && is_some_hint []) h in
    absurd (false≢true (and_parts (are_distinct literals) (is_some_hint []) all.1).1)
derived_again literals (hint ∷ hints) h named =
    let all = and_parts (list_all (is_number NUMBER) (hint ∷ hints)) (are_distinct literals && is_some_hint (hint ∷ hints)) h in
    let proper = and_parts (are_distinct literals) (is_some_hint (hint ∷ hints)) all.1 in
    literals_again [] literals (decimal hint) (map decimal hints) named
    ∙ ap (option_and_then (derived_line literals)) (hints_again [] (hint ∷ hints) all.0)
    ∙ rw proper.0 refl

-- Lines

-- the words of a line are read as it
words_again : (line : NamedLine) → is_writable line ≡ true → is_named line ≡ true → line_of_words (words_of line) ≡ Some line
words_again (line.Premise premise) h named = premise_again premise h named
words_again (line.Derived literals hints) h named = derived_again literals hints h named

-- the words of a line with spaces between them
abbrev pub joined_words : NamedLine → List ℕ
joined_words line = join_with_byte 32 (words_of line)

premise_parted : (premise : NamedPremise) → AreFree 32 (premise_words premise) → parts_at 32 (join_with_byte 32 (premise_words premise)) ≡ premise_words premise
premise_parted (Same pair other) free = joined_parts 32 (codes "same") (pair_words pair (pair_words other [])) free
premise_parted (PreDepends pair clause) free = joined_parts 32 (codes "predepends") (pair_words pair (decimal clause ∷ [])) free
premise_parted (Depends pair clause) free = joined_parts 32 (codes "depends") (pair_words pair (decimal clause ∷ [])) free
premise_parted (Conflicts pair other) free = joined_parts 32 (codes "conflicts") (pair_words pair (pair_words other [])) free
premise_parted (Breaks pair other) free = joined_parts 32 (codes "breaks") (pair_words pair (pair_words other [])) free
premise_parted (Goal goal) free = joined_parts 32 (codes "goal") (decimal goal ∷ []) free
premise_parted (GoalOn goal pair) free = joined_parts 32 (codes "goal") (decimal goal ∷ pair_words pair []) free
premise_parted (Hold pair) free = joined_parts 32 (codes "hold") (pair_words pair []) free
premise_parted (Essential name) free = joined_parts 32 (codes "essential") (name ∷ []) free
premise_parted (Keep name) free = joined_parts 32 (codes "keep") (name ∷ []) free

words_parted : (line : NamedLine) → AreFree 32 (words_of line) → parts_at 32 (joined_words line) ≡ words_of line
words_parted (line.Premise premise) free = premise_parted premise free
words_parted (line.Derived literals hints) free = joined_parts 32 (codes "derive") (flat_map literal_words literals ++ codes ":" ∷ map decimal hints) free

-- the text of a line is read as it
pub line_again : (line : NamedLine) → is_writable line ≡ true → is_named line ≡ true → line_of (joined_words line) ≡ Some line
unfolding line_of
line_again line h named = ap line_of_words (words_parted line (words_free 32 line space_outside h named)) ∙ words_again line h named

line_free : (line : NamedLine) → is_writable line ≡ true → is_named line ≡ true → IsFree 10 (joined_words line)
line_free line h named = joined_free 10 32 (words_of line) refl (words_free 10 line newline_outside h named)

-- a line and its newline before other bytes
pub line_parted : (line : NamedLine) (rest : List ℕ) → is_writable line ≡ true → is_named line ≡ true
    → parts_at 10 (line_text line ++ rest) ≡ joined_words line ∷ parts_at 10 rest
unfolding line_text
line_parted line rest h named =
    ap (parts_at 10) (append_assoc (joined_words line) (10 ∷ []) rest)
    ∙ slice_split_at (λ b. eqb b 10) (joined_words line) 10 rest (line_free line h named) refl
