-- What is read as a refutation is the text of its lines: each word, then each line, then all lines.
use Rattle.std.proofs.Common.{◌≡◌, ℕ, ◌+◌, ◌<◌, ◌^◌, ◌&&◌, ◌||◌, true, ltb, List, [], ◌∷◌, ◌++◌, length, map, Option, Some, None, Result, Ok, Err, refl, sym, ap, ◌∙◌, append_assoc, append-nil, inl, inr}
use Rattle.std.proofs.lemmas.Bool.{cases_Bool}
use Rattle.std.proofs.lemmas.List.{map_push}
use Rattle.std.proofs.lemmas.List.Splits.{join_with_byte-slice_split}
use Rattle.std.specs.List.{flat_map, join_with_byte}
use Rattle.std.specs.Option.{option_and_then, option_map, option_or}
use Rattle.std.specs.Prelude.{codes, decimal}
use Rattle.std.specs.Str.{bytes_eq}
use Rattle.rules.specs.NamedLaws.{bytes_eq-true}
use Rattle.rules.specs.declared.limits.TheConstants.{TEXT_BYTES}
use Rattle.refutation.specs.declared.line.Line.{Line}
use Rattle.refutation.specs.declared.line.Line.TheVariants as line
use Rattle.refutation.specs.declared.line.Premise.{Premise}
use Rattle.refutation.specs.declared.line.Premise.TheVariants.{Same, PreDepends, Depends, Conflicts, Breaks, Goal, GoalOn, Hold, Essential, Keep}
use Rattle.refutation.specs.declared.literal.Literal.{Literal}
use Rattle.plantext.specs.Cut.{parts_at}
use Rattle.refutation_text.specs.Derived.{are_distinct, derived_from, derived_line, hinted_line, hints_from, is_some_hint}
use Rattle.refutation_text.specs.LineText.{line_by, line_of, line_of_words, line_text, premise_words, words_of}
use Rattle.refutation_text.specs.Number.{literal_in, literal_word, number_in}
use Rattle.refutation_text.specs.PremiseWords.{goal_of, numbered_by, only_number, premise_by, two_numbers}
use Rattle.refutation_text.specs.Text.{header, is_wide, line_in_text, numbered_line, put_line, read_end, read_lines, read_parts, read_refutation, refutation_text}
use Rattle.refutation_text.specs.declared.error.RefutationFault.{RefutationFault}
use Rattle.refutation_text.specs.declared.limits.TheConstants.{LINES, NUMBER, PAIR}
use Rattle.plantext.specs.Word.{only_name}
use Rattle.plantext.proofs.WrittenLemmas.{only_name_is}
use Rattle.refutation_text.proofs.NumberLemmas.{literal_is, number_is, number_small, pair_small}

-- Words

only_number_is : (most : ℕ) (words : List (List ℕ)) (number : ℕ) → most < 2 ^ 64 → only_number most words ≡ Some number → words ≡ decimal number ∷ []
only_number_is most [] number small h = cc
only_number_is most (word ∷ []) number small h = ap (λ (w : List ℕ). w ∷ []) (number_is most word number small h)
only_number_is most (word ∷ next ∷ later) number small h = cc

two_numbers_are : (most most_other : ℕ) (words : List (List ℕ)) (two : ℕ × ℕ) → most < 2 ^ 64 → most_other < 2 ^ 64
    → two_numbers most most_other words ≡ Some two → words ≡ decimal two.0 ∷ decimal two.1 ∷ []
two_numbers_are most most_other [] two small small_other h = cc
two_numbers_are most most_other (word ∷ later) two small small_other h = go (number_in most word) refl (only_number most_other later) refl h where
  go : (first : Option ℕ) → number_in most word ≡ first → (second : Option ℕ) → only_number most_other later ≡ second
      → option_and_then (λ number. option_map (λ other. (number, other)) second) first ≡ Some two → word ∷ later ≡ decimal two.0 ∷ decimal two.1 ∷ []
  go None e second k g = cc
  go (Some number) e None k g = cc
  go (Some number) e (Some other) k g =
      let same : (number, other) ≡ two = cc in
      ap (λ (w : List ℕ). w ∷ later) (number_is most word number small e)
      ∙ ap (λ (ws : List (List ℕ)). decimal number ∷ ws) (only_number_is most_other later other small_other k)
      ∙ ap (λ (pair : ℕ × ℕ). decimal pair.0 ∷ decimal pair.1 ∷ []) same

-- Premises

named_is : (to_premise : List ℕ → Premise) (kind : List ℕ) (words : List (List ℕ)) (premise : Premise)
    → ((name : List ℕ) → premise_words (to_premise name) ≡ kind ∷ name ∷ [])
    → option_map to_premise (only_name words) ≡ Some premise → kind ∷ words ≡ premise_words premise
named_is to_premise kind words premise spelled h = go (only_name words) refl h where
  go : (read : Option (List ℕ)) → only_name words ≡ read → option_map to_premise read ≡ Some premise → kind ∷ words ≡ premise_words premise
  go None e g = cc
  go (Some name) e g =
      let same : to_premise name ≡ premise = cc in
      ap (λ (ws : List (List ℕ)). kind ∷ ws) (only_name_is words name e) ∙ sym (spelled name) ∙ ap premise_words same

single_is : (most : ℕ) (to_premise : ℕ → Premise) (kind : List ℕ) (words : List (List ℕ)) (premise : Premise) → most < 2 ^ 64
    → ((number : ℕ) → premise_words (to_premise number) ≡ kind ∷ decimal number ∷ [])
    → option_map to_premise (only_number most words) ≡ Some premise → kind ∷ words ≡ premise_words premise
single_is most to_premise kind words premise small spelled h = go (only_number most words) refl h where
  go : (read : Option ℕ) → only_number most words ≡ read → option_map to_premise read ≡ Some premise → kind ∷ words ≡ premise_words premise
  go None e g = cc
  go (Some number) e g =
      let same : to_premise number ≡ premise = cc in
      ap (λ (ws : List (List ℕ)). kind ∷ ws) (only_number_is most words number small e) ∙ sym (spelled number) ∙ ap premise_words same

double_is : (most most_other : ℕ) (to_premise : ℕ → ℕ → Premise) (kind : List ℕ) (words : List (List ℕ)) (premise : Premise)
    → most < 2 ^ 64 → most_other < 2 ^ 64
    → ((number other : ℕ) → premise_words (to_premise number other) ≡ kind ∷ decimal number ∷ decimal other ∷ [])
    → option_map (λ (two : ℕ × ℕ). to_premise two.0 two.1) (two_numbers most most_other words) ≡ Some premise → kind ∷ words ≡ premise_words premise
double_is most most_other to_premise kind words premise small small_other spelled h = go (two_numbers most most_other words) refl h where
  go : (read : Option (ℕ × ℕ)) → two_numbers most most_other words ≡ read → option_map (λ (two : ℕ × ℕ). to_premise two.0 two.1) read ≡ Some premise
      → kind ∷ words ≡ premise_words premise
  go None e g = cc
  go (Some two) e g =
      let same : to_premise two.0 two.1 ≡ premise = cc in
      ap (λ (ws : List (List ℕ)). kind ∷ ws) (two_numbers_are most most_other words two small small_other e)
      ∙ sym (spelled two.0 two.1) ∙ ap premise_words same

goal_is : (words : List (List ℕ)) (premise : Premise) → goal_of words ≡ Some premise → codes "goal" ∷ words ≡ premise_words premise
goal_is words premise h = go (only_number NUMBER words) refl h where
  go : (read : Option ℕ) → only_number NUMBER words ≡ read
      → option_or (option_map (λ goal. Goal goal) read) (option_map (λ (two : ℕ × ℕ). GoalOn two.0 two.1) (two_numbers NUMBER PAIR words)) ≡ Some premise
      → codes "goal" ∷ words ≡ premise_words premise
  go None e g = double_is NUMBER PAIR (λ goal pair. GoalOn goal pair) (codes "goal") words premise number_small pair_small (λ goal pair. refl) g
  go (Some goal) e g =
      let same : Goal goal ≡ premise = cc in
      ap (λ (ws : List (List ℕ)). codes "goal" ∷ ws) (only_number_is NUMBER words goal number_small e) ∙ ap premise_words same

-- a kind that is this word, before words that are the premise's
told : (kind word : List ℕ) (words : List (List ℕ)) (premise : Premise) → bytes_eq kind word ≡ true → word ∷ words ≡ premise_words premise
    → kind ∷ words ≡ premise_words premise
told kind word words premise e h = ap (λ (k : List ℕ). k ∷ words) (bytes_eq-true kind word e) ∙ h

-- two pairs, told by this word
pairs_told : (to_premise : ℕ → ℕ → Premise) (kind word : List ℕ) (words : List (List ℕ)) (premise : Premise)
    → bytes_eq kind word ≡ true
    → ((pair other : ℕ) → premise_words (to_premise pair other) ≡ word ∷ decimal pair ∷ decimal other ∷ [])
    → option_map (λ (two : ℕ × ℕ). to_premise two.0 two.1) (two_numbers PAIR PAIR words) ≡ Some premise
    → kind ∷ words ≡ premise_words premise
pairs_told to_premise kind word words premise e spelled h =
    told kind word words premise e (double_is PAIR PAIR to_premise word words premise pair_small pair_small spelled h)

-- a pair and a clause, told by this word
clause_told : (to_premise : ℕ → ℕ → Premise) (kind word : List ℕ) (words : List (List ℕ)) (premise : Premise)
    → bytes_eq kind word ≡ true
    → ((pair clause : ℕ) → premise_words (to_premise pair clause) ≡ word ∷ decimal pair ∷ decimal clause ∷ [])
    → option_map (λ (two : ℕ × ℕ). to_premise two.0 two.1) (two_numbers PAIR NUMBER words) ≡ Some premise
    → kind ∷ words ≡ premise_words premise
clause_told to_premise kind word words premise e spelled h =
    told kind word words premise e (double_is PAIR NUMBER to_premise word words premise pair_small number_small spelled h)

-- a pair, told by the word `hold`
hold_told : (kind : List ℕ) (words : List (List ℕ)) (premise : Premise) → bytes_eq kind (codes "hold") ≡ true
    → option_map (λ pair. Hold pair) (only_number PAIR words) ≡ Some premise → kind ∷ words ≡ premise_words premise
hold_told kind words premise e h =
    told kind (codes "hold") words premise e
    (single_is PAIR (λ pair. Hold pair) (codes "hold") words premise pair_small (λ pair. refl) h)

-- a name, told by this word
name_told : (to_premise : List ℕ → Premise) (kind word : List ℕ) (words : List (List ℕ)) (premise : Premise)
    → bytes_eq kind word ≡ true → ((name : List ℕ) → premise_words (to_premise name) ≡ word ∷ name ∷ [])
    → option_map to_premise (only_name words) ≡ Some premise → kind ∷ words ≡ premise_words premise
name_told to_premise kind word words premise e spelled h =
    told kind word words premise e (named_is to_premise word words premise spelled h)

numbered_is : (kind : List ℕ) (words : List (List ℕ)) (premise : Premise)
    → numbered_by kind words ≡ Some premise → kind ∷ words ≡ premise_words premise
numbered_is kind words premise h = elim (cases_Bool (bytes_eq kind (codes "same"))) [
  | inl e ↦ pairs_told (λ i j. Same i j) kind (codes "same") words premise e (λ i j. refl) (rw e at h)
  | inr e ↦ let h1 = rw e at h in elim (cases_Bool (bytes_eq kind (codes "predepends"))) [
    | inl e ↦ clause_told (λ i c. PreDepends i c) kind (codes "predepends") words premise e (λ i c. refl) (rw e at h1)
    | inr e ↦ let h2 = rw e at h1 in elim (cases_Bool (bytes_eq kind (codes "depends"))) [
      | inl e ↦ clause_told (λ i c. Depends i c) kind (codes "depends") words premise e (λ i c. refl) (rw e at h2)
      | inr e ↦ let h3 = rw e at h2 in elim (cases_Bool (bytes_eq kind (codes "conflicts"))) [
        | inl e ↦ pairs_told (λ i j. Conflicts i j) kind (codes "conflicts") words premise e (λ i j. refl) (rw e at h3)
        | inr e ↦ let h4 = rw e at h3 in elim (cases_Bool (bytes_eq kind (codes "breaks"))) [
          | inl e ↦ pairs_told (λ i j. Breaks i j) kind (codes "breaks") words premise e (λ i j. refl) (rw e at h4)
          | inr e ↦ let h5 = rw e at h4 in elim (cases_Bool (bytes_eq kind (codes "goal"))) [
            | inl e ↦ told kind (codes "goal") words premise e (goal_is words premise (rw e at h5))
            | inr e ↦ let h6 = rw e at h5 in elim (cases_Bool (bytes_eq kind (codes "hold"))) [
              | inl e ↦ hold_told kind words premise e (rw e at h6)
              | inr e ↦ cc (rw e at h6)
            ]
          ]
        ]
      ]
    ]
  ]
]

premise_is : (kind : List ℕ) (words : List (List ℕ)) (premise : Premise)
    → premise_by kind words ≡ Some premise → kind ∷ words ≡ premise_words premise
premise_is kind words premise h = elim (cases_Bool (bytes_eq kind (codes "essential"))) [
  | inl e ↦ name_told (λ name. Essential name) kind (codes "essential") words premise e (λ name. refl) (rw e at h)
  | inr e ↦ let h1 = rw e at h in elim (cases_Bool (bytes_eq kind (codes "keep"))) [
    | inl e ↦ name_told (λ name. Keep name) kind (codes "keep") words premise e (λ name. refl) (rw e at h1)
    | inr e ↦ numbered_is kind words premise (rw e at h1)
  ]
]

-- Derived lines

-- a hint that is read, before words that are those of the hints
hint_more : (hints : List ℕ) (hint : ℕ) (word : List ℕ) (later : List (List ℕ)) (all : List ℕ) → word ≡ decimal hint
    → map decimal (hints ++ hint ∷ []) ++ later ≡ map decimal all → map decimal hints ++ word ∷ later ≡ map decimal all
hint_more hints hint word later all is behind =
    ap (λ (w : List ℕ). map decimal hints ++ w ∷ later) is
    ∙ sym (append_assoc (map decimal hints) (decimal hint ∷ []) later)
    ∙ ap (λ (ws : List (List ℕ)). ws ++ later) (sym (map_push decimal hints hint))
    ∙ behind

-- what is read as hints is the hints so far and the words
hints_are : (hints : List ℕ) (words : List (List ℕ)) (all : List ℕ) → hints_from hints words ≡ Some all → map decimal hints ++ words ≡ map decimal all
hints_are hints [] all h = let same : hints ≡ all = cc in append-nil (map decimal hints) ∙ ap (map decimal) same
hints_are hints (word ∷ later) all h = go (λ hint g. hints_are (hints ++ hint ∷ []) later all g) (number_in NUMBER word) refl h where
  go : ((hint : ℕ) → hints_from (hints ++ hint ∷ []) later ≡ Some all → map decimal (hints ++ hint ∷ []) ++ later ≡ map decimal all)
      → (read : Option ℕ) → number_in NUMBER word ≡ read → option_and_then (λ hint. hints_from (hints ++ hint ∷ []) later) read ≡ Some all
      → map decimal hints ++ word ∷ later ≡ map decimal all
  go behind None e g = cc
  go behind (Some hint) e g = hint_more hints hint word later all (number_is NUMBER word hint number_small e) (behind hint g)

derived_line_is : (literals : List Literal) (hints : List ℕ) (line_read : Line) → derived_line literals hints ≡ Some line_read
    → words_of (line.Derived literals hints) ≡ words_of line_read
derived_line_is literals hints line_read h = elim (cases_Bool (is_some_hint hints && are_distinct literals)) [
  | inl e ↦ let same : line.Derived literals hints ≡ line_read = cc (rw e at h) in ap words_of same
  | inr e ↦ cc (rw e at h)
]

-- the words of a derived line with these literals, of which those from the colon on are these
abbrev derived_words : List Literal → List (List ℕ) → List (List ℕ)
derived_words literals behind = codes "derive" ∷ map literal_word literals ++ behind

hinted_is : (literals : List Literal) (words : List (List ℕ)) (line_read : Line) → hinted_line literals words ≡ Some line_read
    → derived_words literals (codes ":" ∷ words) ≡ words_of line_read
hinted_is literals words line_read h = go (hints_from [] words) refl h where
  go : (read : Option (List ℕ)) → hints_from [] words ≡ read → option_and_then (λ hints. derived_line literals hints) read ≡ Some line_read
      → derived_words literals (codes ":" ∷ words) ≡ words_of line_read
  go None e g = cc
  go (Some hints) e g =
      ap (λ (ws : List (List ℕ)). derived_words literals (codes ":" ∷ ws)) (hints_are [] words hints e) ∙ derived_line_is literals hints line_read g

literal_more : (literals : List Literal) (literal : Literal) (word : List ℕ) (later : List (List ℕ)) (line_read : Line) → word ≡ literal_word literal
    → derived_words (literals ++ literal ∷ []) later ≡ words_of line_read → derived_words literals (word ∷ later) ≡ words_of line_read
literal_more literals literal word later line_read is behind =
    ap (λ (w : List ℕ). derived_words literals (w ∷ later)) is
    ∙ ap (λ (ws : List (List ℕ)). codes "derive" ∷ ws) (sym (append_assoc (map literal_word literals) (literal_word literal ∷ []) later))
    ∙ ap (λ (ws : List (List ℕ)). codes "derive" ∷ ws ++ later) (sym (map_push literal_word literals literal))
    ∙ behind

derived_is : (literals : List Literal) (words : List (List ℕ)) (line_read : Line) → derived_from literals words ≡ Some line_read → derived_words literals words ≡ words_of line_read
derived_is literals [] line_read h = cc
derived_is literals (word ∷ later) line_read h = elim (cases_Bool (bytes_eq word (codes ":"))) [
  | inl e ↦ ap (λ (w : List ℕ). derived_words literals (w ∷ later)) (bytes_eq-true word (codes ":") e) ∙ hinted_is literals later line_read (rw e at h)
  | inr e ↦ go (λ literal g. derived_is (literals ++ literal ∷ []) later line_read g) (literal_in word) refl (rw e at h)
] where
  go : ((literal : Literal) → derived_from (literals ++ literal ∷ []) later ≡ Some line_read → derived_words (literals ++ literal ∷ []) later ≡ words_of line_read)
      → (read : Option Literal) → literal_in word ≡ read → option_and_then (λ literal. derived_from (literals ++ literal ∷ []) later) read ≡ Some line_read
      → derived_words literals (word ∷ later) ≡ words_of line_read
  go behind None e g = cc
  go behind (Some literal) e g = literal_more literals literal word later line_read (literal_is word literal e) (behind literal g)

-- Lines

line_by_is : (kind : List ℕ) (words : List (List ℕ)) (line_read : Line) → line_by kind words ≡ Some line_read → kind ∷ words ≡ words_of line_read
line_by_is kind words line_read h = elim (cases_Bool (bytes_eq kind (codes "derive"))) [
  | inl e ↦ ap (λ (k : List ℕ). k ∷ words) (bytes_eq-true kind (codes "derive") e) ∙ derived_is [] words line_read (rw e at h)
  | inr e ↦ go (premise_by kind words) refl (rw e at h)
] where
  go : (read : Option Premise) → premise_by kind words ≡ read → option_map (λ premise. line.Premise premise) read ≡ Some line_read → kind ∷ words ≡ words_of line_read
  go None e g = cc
  go (Some premise) e g =
      let same : line.Premise premise ≡ line_read = cc in
      premise_is kind words premise e ∙ ap words_of same

words_are : (words : List (List ℕ)) (line_read : Line) → line_of_words words ≡ Some line_read → words ≡ words_of line_read
words_are [] line_read h = cc
words_are (kind ∷ words) line_read h = line_by_is kind words line_read h

-- a text that is read as a line is the line's
line_is : (text : List ℕ) (line_read : Line) → line_of text ≡ Some line_read → text ++ 10 ∷ [] ≡ line_text line_read
unfolding line_of line_text
line_is text line_read h = ap (λ (written : List ℕ). written ++ 10 ∷ [])
    (sym (join_with_byte-slice_split 32 text) ∙ ap (join_with_byte 32) (words_are (parts_at 32 text) line_read h))

numbered_line_is : (number : ℕ) (read : Option Line) (line_read : Line) → numbered_line number read ≡ Ok line_read → read ≡ Some line_read
numbered_line_is number None line_read h = cc
numbered_line_is number (Some other) line_read h = elim (cases_Bool (ltb LINES number || is_wide other)) [ inl e ↦ cc (rw e at h) | inr e ↦ cc (rw e at h) ]

-- the line that was read, and the lines behind it
record Puts (read : Result Line RefutationFault) (later : Result (List Line) RefutationFault) (lines : List Line) : Type 0 where
  line_read : Line
  more : List Line
  here : read ≡ Ok line_read
  behind : later ≡ Ok more
  all : lines ≡ line_read ∷ more

puts : (read : Result Line RefutationFault) (later : Result (List Line) RefutationFault) (lines : List Line) → put_line read later ≡ Ok lines → Puts read later lines
puts (Ok line_read) (Ok more) lines h = record { line_read = line_read; more = more; here = refl; behind = refl; all = cc }
puts (Ok line_read) (Err fault) lines h = cc
puts (Err fault) later lines h = cc

end_is : (number : ℕ) (last : List ℕ) (lines : List Line) → read_end number last ≡ Ok lines → last ≡ flat_map line_text lines
end_is number [] lines h = let none : lines ≡ [] = cc in rw none refl
end_is number (b ∷ bytes) lines h = cc

-- the texts that are read as lines are the lines'
lines_are : (number : ℕ) (parts : List (List ℕ)) (lines : List Line) → read_lines number parts ≡ Ok lines → join_with_byte 10 parts ≡ flat_map line_text lines
lines_are number [] lines h = cc
lines_are number (last ∷ []) lines h = end_is number last lines h
lines_are number (text ∷ next ∷ later) lines h =
    let put = puts (line_in_text number text) (read_lines (number + 1) (next ∷ later)) lines h in
    let behind = lines_are (number + 1) (next ∷ later) put.more put.behind in
    let here = line_is text put.line_read (numbered_line_is number (line_of text) put.line_read put.here) in
    sym (append_assoc text (10 ∷ []) (join_with_byte 10 (next ∷ later)))
    ∙ ap (λ (written : List ℕ). written ++ join_with_byte 10 (next ∷ later)) here
    ∙ ap (λ (written : List ℕ). line_text put.line_read ++ written) behind
    ∙ sym (ap (flat_map line_text) put.all)

-- Texts

parts_are : (parts : List (List ℕ)) (lines : List Line) → read_parts parts ≡ Ok lines → join_with_byte 10 parts ≡ refutation_text lines
unfolding refutation_text
parts_are [] lines h = cc
parts_are (first ∷ []) lines h = elim (cases_Bool (bytes_eq first header)) [ inl e ↦ cc (rw e at h) | inr e ↦ cc (rw e at h) ]
parts_are (first ∷ next ∷ later) lines h = elim (cases_Bool (bytes_eq first header)) [
  | inl e ↦
      ap (λ (written : List ℕ). written ++ 10 ∷ join_with_byte 10 (next ∷ later)) (bytes_eq-true first header e)
      ∙ ap (λ (written : List ℕ). header ++ 10 ∷ written) (lines_are 1 (next ∷ later) lines (rw e at h))
  | inr e ↦ cc (rw e at h)
]

pub read_is_written : (text : List ℕ) (lines : List Line) → read_refutation text ≡ Ok lines → text ≡ refutation_text lines
unfolding read_refutation
read_is_written text lines h = elim (cases_Bool (ltb TEXT_BYTES (length text))) [
  | inl e ↦ cc (rw e at h)
  | inr e ↦ sym (join_with_byte-slice_split 10 text) ∙ parts_are (parts_at 10 text) lines (rw e at h)
]
