-- What is read as a refutation is its text: each word, then each line.
use Rattle.std.proofs.Common.{◌≡◌, ℕ, ◌&&◌, true, List, [], ◌∷◌, ◌++◌, map, Option, Some, None, refl, sym, ap, ◌∙◌, append_assoc, append-nil, inl, inr, eqb}
use Rattle.std.proofs.lemmas.Bool.{cases_Bool, eqb-true}
use Rattle.std.proofs.lemmas.Grind.{flat_map-append}
use Rattle.std.proofs.lemmas.List.{map_push}
use Rattle.std.proofs.lemmas.List.Splits.{join_with_byte-slice_split}
use Rattle.std.specs.List.{flat_map, join_with_byte}
use Rattle.std.specs.Option.{is_none, option_and_then, option_map, option_or}
use Rattle.std.specs.Prelude.{codes, decimal}
use Rattle.std.specs.Str.{bytes_eq}
use Rattle.rules.specs.Name.{is_name}
use Rattle.rules.specs.NamedLaws.{bytes_eq-true}
use Rattle.rules.specs.VersionFault.{first_fault}
use Rattle.plantext.specs.Cut.{parts_at}
use Rattle.plantext.specs.Word.{only_name}
use Rattle.plantext.proofs.WrittenLemmas.{only_name_is}
use Rattle.refutation_text.specs.Derived.{hints_from, is_some_hint}
use Rattle.refutation_text.specs.Number.{number_in}
use Rattle.refutation_text.specs.PremiseWords.{only_number}
use Rattle.refutation_text.specs.declared.limits.TheConstants.{NUMBER}
use Rattle.refutation_text.proofs.NumberLemmas.{number_is, number_small}
use Rattle.named_refutation.specs.Derived.{are_distinct, derived_from, derived_line, hinted_line, literal_of, literal_words}
use Rattle.named_refutation.specs.LineText.{line_by, line_of, line_of_words, line_text, premise_words, words_of}
use Rattle.named_refutation.specs.Pair.{number_and_pair, only_pair, pair_and_number, pair_of, two_pairs}
use Rattle.named_refutation.specs.PremiseWords.{goal_of, paired_by, premise_by}
use Rattle.named_refutation.specs.declared.named.NamedLine.{NamedLine}
use Rattle.named_refutation.specs.declared.named.NamedLine.TheVariants as line
use Rattle.named_refutation.specs.declared.named.NamedLiteral.{NamedLiteral}
use Rattle.named_refutation.specs.declared.named.NamedLiteral.TheVariants.{Selected, Unselected}
use Rattle.named_refutation.specs.declared.named.NamedPair.{NamedPair}
use Rattle.named_refutation.specs.declared.named.NamedPremise.{NamedPremise}
use Rattle.named_refutation.specs.declared.named.NamedPremise.TheVariants.{Same, PreDepends, Depends, Conflicts, Breaks, Goal, GoalOn, Hold, Essential, Keep}

-- Words

-- the words of a pair, before others
abbrev pub pair_words : NamedPair → List (List ℕ) → List (List ℕ)
pair_words pair later = pair.name ∷ pair.version ∷ later

pair_is : (name version : List ℕ) (later : List (List ℕ)) (pair : NamedPair) → pair_of name version ≡ Some pair
    → name ∷ version ∷ later ≡ pair_words pair later
pair_is name version later pair h = elim (cases_Bool (is_name name && is_none (first_fault version))) [
  | inl e ↦ let same : of name version ≡ pair = cc (rw e at h) in ap (λ (p : NamedPair). pair_words p later) same
  | inr e ↦ cc (rw e at h)
] where
  of : List ℕ → List ℕ → NamedPair
  of name version = record { name = name; version = version }

only_number_is : (words : List (List ℕ)) (number : ℕ) → only_number NUMBER words ≡ Some number → words ≡ decimal number ∷ []
only_number_is [] number h = cc
only_number_is (word ∷ []) number h = ap (λ (w : List ℕ). w ∷ []) (number_is NUMBER word number number_small h)
only_number_is (word ∷ next ∷ later) number h = cc

only_pair_is : (words : List (List ℕ)) (pair : NamedPair) → only_pair words ≡ Some pair → words ≡ pair_words pair []
only_pair_is [] pair h = cc
only_pair_is (name ∷ []) pair h = cc
only_pair_is (name ∷ version ∷ []) pair h = pair_is name version [] pair h
only_pair_is (name ∷ version ∷ next ∷ later) pair h = cc

two_pairs_are : (words : List (List ℕ)) (two : NamedPair × NamedPair) → two_pairs words ≡ Some two → words ≡ pair_words two.0 (pair_words two.1 [])
two_pairs_are [] two h = cc
two_pairs_are (name ∷ []) two h = cc
two_pairs_are (name ∷ version ∷ later) two h = go (pair_of name version) refl (only_pair later) refl h where
  go : (first : Option NamedPair) → pair_of name version ≡ first → (second : Option NamedPair) → only_pair later ≡ second
      → option_and_then (λ pair. option_map (λ other. (pair, other)) second) first ≡ Some two
      → name ∷ version ∷ later ≡ pair_words two.0 (pair_words two.1 [])
  go None e second k g = cc
  go (Some pair) e None k g = cc
  go (Some pair) e (Some other) k g =
      let same : (pair, other) ≡ two = cc in
      pair_is name version later pair e ∙ ap (pair_words pair) (only_pair_is later other k)
      ∙ ap (λ (both : NamedPair × NamedPair). pair_words both.0 (pair_words both.1 [])) same

pair_and_number_are : (words : List (List ℕ)) (both : NamedPair × ℕ) → pair_and_number words ≡ Some both → words ≡ pair_words both.0 (decimal both.1 ∷ [])
pair_and_number_are [] both h = cc
pair_and_number_are (name ∷ []) both h = cc
pair_and_number_are (name ∷ version ∷ later) both h = go (pair_of name version) refl (only_number NUMBER later) refl h where
  go : (first : Option NamedPair) → pair_of name version ≡ first → (second : Option ℕ) → only_number NUMBER later ≡ second
      → option_and_then (λ pair. option_map (λ number. (pair, number)) second) first ≡ Some both
      → name ∷ version ∷ later ≡ pair_words both.0 (decimal both.1 ∷ [])
  go None e second k g = cc
  go (Some pair) e None k g = cc
  go (Some pair) e (Some number) k g =
      let same : (pair, number) ≡ both = cc in
      pair_is name version later pair e ∙ ap (pair_words pair) (only_number_is later number k)
      ∙ ap (λ (pair_read : NamedPair × ℕ). pair_words pair_read.0 (decimal pair_read.1 ∷ [])) same

number_and_pair_are : (words : List (List ℕ)) (both : ℕ × NamedPair) → number_and_pair words ≡ Some both → words ≡ decimal both.0 ∷ pair_words both.1 []
number_and_pair_are [] both h = cc
number_and_pair_are (word ∷ later) both h = go (number_in NUMBER word) refl (only_pair later) refl h where
  go : (first : Option ℕ) → number_in NUMBER word ≡ first → (second : Option NamedPair) → only_pair later ≡ second
      → option_and_then (λ number. option_map (λ pair. (number, pair)) second) first ≡ Some both → word ∷ later ≡ decimal both.0 ∷ pair_words both.1 []
  go None e second k g = cc
  go (Some number) e None k g = cc
  go (Some number) e (Some pair) k g =
      let same : (number, pair) ≡ both = cc in
      ap (λ (w : List ℕ). w ∷ later) (number_is NUMBER word number number_small e) ∙ ap (λ (ws : List (List ℕ)). decimal number ∷ ws) (only_pair_is later pair k)
      ∙ ap (λ (pair_read : ℕ × NamedPair). decimal pair_read.0 ∷ pair_words pair_read.1 []) same

-- Premises

-- what is found of the words is told by them, and so is the premise that is made of it
made_is : {A : Type 0} (to_premise : A → NamedPremise) (spell : A → List (List ℕ)) (kind word : List ℕ) (words : List (List ℕ)) (read : Option A)
    (premise : NamedPremise) → ((value : A) → read ≡ Some value → words ≡ spell value)
    → ((value : A) → premise_words (to_premise value) ≡ word ∷ spell value)
    → bytes_eq kind word ≡ true → option_map to_premise read ≡ Some premise → kind ∷ words ≡ premise_words premise
made_is {A} to_premise spell kind word words read premise told spelled e h = go read refl h where
  go : (value : Option A) → read ≡ value → option_map to_premise value ≡ Some premise → kind ∷ words ≡ premise_words premise
  go None r g = cc
  go (Some value) r g =
      let same : to_premise value ≡ premise = cc in
      ap (λ (k : List ℕ). k ∷ words) (bytes_eq-true kind word e) ∙ ap (λ (ws : List (List ℕ)). word ∷ ws) (told value r)
      ∙ sym (spelled value) ∙ ap premise_words same

-- two pairs, told by this word
two_told : (to_premise : NamedPair → NamedPair → NamedPremise) (kind word : List ℕ) (words : List (List ℕ)) (premise : NamedPremise)
    → bytes_eq kind word ≡ true
    → ((two : NamedPair × NamedPair) → premise_words (to_premise two.0 two.1) ≡ word ∷ pair_words two.0 (pair_words two.1 []))
    → option_map (λ (two : NamedPair × NamedPair). to_premise two.0 two.1) (two_pairs words) ≡ Some premise → kind ∷ words ≡ premise_words premise
two_told to_premise kind word words premise e spelled h =
    made_is (λ (two : NamedPair × NamedPair). to_premise two.0 two.1) (λ two. pair_words two.0 (pair_words two.1 [])) kind word words (two_pairs words) premise
    (two_pairs_are words) spelled e h

-- a pair and a clause, told by this word
clause_told : (to_premise : NamedPair → ℕ → NamedPremise) (kind word : List ℕ) (words : List (List ℕ)) (premise : NamedPremise)
    → bytes_eq kind word ≡ true
    → ((both : NamedPair × ℕ) → premise_words (to_premise both.0 both.1) ≡ word ∷ pair_words both.0 (decimal both.1 ∷ []))
    → option_map (λ (both : NamedPair × ℕ). to_premise both.0 both.1) (pair_and_number words) ≡ Some premise → kind ∷ words ≡ premise_words premise
clause_told to_premise kind word words premise e spelled h =
    made_is (λ (both : NamedPair × ℕ). to_premise both.0 both.1) (λ both. pair_words both.0 (decimal both.1 ∷ [])) kind word words (pair_and_number words) premise
    (pair_and_number_are words) spelled e h

-- a name, told by this word
name_told : (to_premise : List ℕ → NamedPremise) (kind word : List ℕ) (words : List (List ℕ)) (premise : NamedPremise)
    → bytes_eq kind word ≡ true → ((name : List ℕ) → premise_words (to_premise name) ≡ word ∷ name ∷ [])
    → option_map to_premise (only_name words) ≡ Some premise → kind ∷ words ≡ premise_words premise
name_told to_premise kind word words premise e spelled h =
    made_is to_premise (λ name. name ∷ []) kind word words (only_name words) premise (only_name_is words) spelled e h

goal_is : (kind : List ℕ) (words : List (List ℕ)) (premise : NamedPremise) → bytes_eq kind (codes "goal") ≡ true → goal_of words ≡ Some premise
    → kind ∷ words ≡ premise_words premise
goal_is kind words premise e h = go (only_number NUMBER words) refl h where
  go : (read : Option ℕ) → only_number NUMBER words ≡ read
      → option_or (option_map (λ goal. Goal goal) read) (option_map (λ (both : ℕ × NamedPair). GoalOn both.0 both.1) (number_and_pair words)) ≡ Some premise
      → kind ∷ words ≡ premise_words premise
  go None r g =
      made_is (λ (both : ℕ × NamedPair). GoalOn both.0 both.1) (λ both. decimal both.0 ∷ pair_words both.1 []) kind (codes "goal") words (number_and_pair words)
      premise (number_and_pair_are words) (λ both. refl) e g
  go (Some goal) r g =
      made_is (λ number. Goal number) (λ number. decimal number ∷ []) kind (codes "goal") words (only_number NUMBER words)
      premise (only_number_is words) (λ number. refl) e (ap (option_map (λ number. Goal number)) r ∙ g)

paired_is : (kind : List ℕ) (words : List (List ℕ)) (premise : NamedPremise)
    → paired_by kind words ≡ Some premise → kind ∷ words ≡ premise_words premise
paired_is kind words premise h = elim (cases_Bool (bytes_eq kind (codes "same"))) [
  | inl e ↦ two_told (λ i j. Same i j) kind (codes "same") words premise e (λ two. refl) (rw e at h)
  | inr e ↦ let h1 = rw e at h in elim (cases_Bool (bytes_eq kind (codes "predepends"))) [
    | inl e ↦ clause_told (λ i c. PreDepends i c) kind (codes "predepends") words premise e (λ both. refl) (rw e at h1)
    | inr e ↦ let h2 = rw e at h1 in elim (cases_Bool (bytes_eq kind (codes "depends"))) [
      | inl e ↦ clause_told (λ i c. Depends i c) kind (codes "depends") words premise e (λ both. refl) (rw e at h2)
      | inr e ↦ let h3 = rw e at h2 in elim (cases_Bool (bytes_eq kind (codes "conflicts"))) [
        | inl e ↦ two_told (λ i j. Conflicts i j) kind (codes "conflicts") words premise e (λ two. refl) (rw e at h3)
        | inr e ↦ let h4 = rw e at h3 in elim (cases_Bool (bytes_eq kind (codes "breaks"))) [
          | inl e ↦ two_told (λ i j. Breaks i j) kind (codes "breaks") words premise e (λ two. refl) (rw e at h4)
          | inr e ↦ let h5 = rw e at h4 in elim (cases_Bool (bytes_eq kind (codes "goal"))) [
            | inl e ↦ goal_is kind words premise e (rw e at h5)
            | inr e ↦ let h6 = rw e at h5 in elim (cases_Bool (bytes_eq kind (codes "hold"))) [
              | inl e ↦ made_is (λ pair. Hold pair) (λ pair. pair_words pair []) kind (codes "hold") words (only_pair words) premise
                  (only_pair_is words) (λ pair. refl) e (rw e at h6)
              | inr e ↦ cc (rw e at h6)
            ]
          ]
        ]
      ]
    ]
  ]
]

premise_is : (kind : List ℕ) (words : List (List ℕ)) (premise : NamedPremise)
    → premise_by kind words ≡ Some premise → kind ∷ words ≡ premise_words premise
premise_is kind words premise h = elim (cases_Bool (bytes_eq kind (codes "essential"))) [
  | inl e ↦ name_told (λ name. Essential name) kind (codes "essential") words premise e (λ name. refl) (rw e at h)
  | inr e ↦ let h1 = rw e at h in elim (cases_Bool (bytes_eq kind (codes "keep"))) [
    | inl e ↦ name_told (λ name. Keep name) kind (codes "keep") words premise e (λ name. refl) (rw e at h1)
    | inr e ↦ paired_is kind words premise (rw e at h1)
  ]
]

-- Derived lines

-- two words that are read as a literal, before others
literal_is : (word version : List ℕ) (later : List (List ℕ)) (literal : NamedLiteral) → literal_of word version ≡ Some literal
    → word ∷ version ∷ later ≡ literal_words literal ++ later
literal_is [] version later literal h = cc
literal_is (b ∷ name) version later literal h = elim (cases_Bool (eqb b 45)) [
  | inl minus ↦ unselected (pair_of name version) refl (rw minus at h) minus
  | inr other ↦ selected (pair_of (b ∷ name) version) refl (rw other at h)
] where
  minus_before : List (List ℕ) → List (List ℕ)
  minus_before [] = []
  minus_before (word ∷ behind) = (45 ∷ word) ∷ behind

  unselected : (one : Option NamedPair) → pair_of name version ≡ one → option_map (λ pair. Unselected pair) one ≡ Some literal → eqb b 45 ≡ true
      → (b ∷ name) ∷ version ∷ later ≡ literal_words literal ++ later
  unselected None e g minus = cc
  unselected (Some pair) e g minus =
      let same : Unselected pair ≡ literal = cc in
      ap (λ (first : ℕ). (first ∷ name) ∷ version ∷ later) (eqb-true b 45 minus) ∙ ap minus_before (pair_is name version later pair e)
      ∙ ap (λ (one : NamedLiteral). literal_words one ++ later) same

  selected : (one : Option NamedPair) → pair_of (b ∷ name) version ≡ one → option_map (λ pair. Selected pair) one ≡ Some literal
      → (b ∷ name) ∷ version ∷ later ≡ literal_words literal ++ later
  selected None e g = cc
  selected (Some pair) e g =
      let same : Selected pair ≡ literal = cc in
      pair_is (b ∷ name) version later pair e ∙ ap (λ (one : NamedLiteral). literal_words one ++ later) same

-- a hint that is read, before words that are those of the hints
hint_more : (hints : List ℕ) (hint : ℕ) (word : List ℕ) (later : List (List ℕ)) (all : List ℕ) → word ≡ decimal hint
    → map decimal (hints ++ hint ∷ []) ++ later ≡ map decimal all → map decimal hints ++ word ∷ later ≡ map decimal all
hint_more hints hint word later all is behind =
    ap (λ (w : List ℕ). map decimal hints ++ w ∷ later) is
    ∙ sym (append_assoc (map decimal hints) (decimal hint ∷ []) later)
    ∙ ap (λ (ws : List (List ℕ)). ws ++ later) (sym (map_push decimal hints hint))
    ∙ behind

-- what is read as hints is the hints so far and the words
hints_are : (hints : List ℕ) (words : List (List ℕ)) (all : List ℕ) → hints_from hints words ≡ Some all → map decimal hints ++ words ≡ map decimal all
hints_are hints [] all h = let same : hints ≡ all = cc in append-nil (map decimal hints) ∙ ap (map decimal) same
hints_are hints (word ∷ later) all h = go (λ hint g. hints_are (hints ++ hint ∷ []) later all g) (number_in NUMBER word) refl h where
  go : ((hint : ℕ) → hints_from (hints ++ hint ∷ []) later ≡ Some all → map decimal (hints ++ hint ∷ []) ++ later ≡ map decimal all)
      → (read : Option ℕ) → number_in NUMBER word ≡ read → option_and_then (λ hint. hints_from (hints ++ hint ∷ []) later) read ≡ Some all
      → map decimal hints ++ word ∷ later ≡ map decimal all
  go behind None e g = cc
  go behind (Some hint) e g = hint_more hints hint word later all (number_is NUMBER word hint number_small e) (behind hint g)

derived_line_is : (literals : List NamedLiteral) (hints : List ℕ) (line_read : NamedLine) → derived_line literals hints ≡ Some line_read
    → words_of (line.Derived literals hints) ≡ words_of line_read
derived_line_is literals hints line_read h = elim (cases_Bool (is_some_hint hints && are_distinct literals)) [
  | inl e ↦ let same : line.Derived literals hints ≡ line_read = cc (rw e at h) in ap words_of same
  | inr e ↦ cc (rw e at h)
]

-- the words of a derived line with these literals, of which those from the colon on are these
abbrev derived_words : List NamedLiteral → List (List ℕ) → List (List ℕ)
derived_words literals behind = codes "derive" ∷ flat_map literal_words literals ++ behind

hinted_is : (literals : List NamedLiteral) (words : List (List ℕ)) (line_read : NamedLine) → hinted_line literals words ≡ Some line_read
    → derived_words literals (codes ":" ∷ words) ≡ words_of line_read
hinted_is literals words line_read h = go (hints_from [] words) refl h where
  go : (read : Option (List ℕ)) → hints_from [] words ≡ read → option_and_then (λ hints. derived_line literals hints) read ≡ Some line_read
      → derived_words literals (codes ":" ∷ words) ≡ words_of line_read
  go None e g = cc
  go (Some hints) e g =
      ap (λ (ws : List (List ℕ)). derived_words literals (codes ":" ∷ ws)) (hints_are [] words hints e) ∙ derived_line_is literals hints line_read g

literal_more : (literals : List NamedLiteral) (literal : NamedLiteral) (word version : List ℕ) (later : List (List ℕ)) (line_read : NamedLine)
    → literal_of word version ≡ Some literal
    → derived_words (literals ++ literal ∷ []) later ≡ words_of line_read → derived_words literals (word ∷ version ∷ later) ≡ words_of line_read
literal_more literals literal word version later line_read is behind =
    ap (derived_words literals) (literal_is word version later literal is)
    ∙ ap (λ (ws : List (List ℕ)). codes "derive" ∷ ws) (sym (append_assoc (flat_map literal_words literals) (literal_words literal) later))
    ∙ ap (λ (ws : List (List ℕ)). codes "derive" ∷ (flat_map literal_words literals ++ ws) ++ later) (sym (append-nil (literal_words literal)))
    ∙ ap (λ (ws : List (List ℕ)). codes "derive" ∷ ws ++ later) (sym (flat_map-append literal_words literals (literal ∷ [])))
    ∙ behind

derived_is : (literals : List NamedLiteral) (words : List (List ℕ)) (line_read : NamedLine) → derived_from literals words ≡ Some line_read
    → derived_words literals words ≡ words_of line_read
derived_is literals [] line_read h = cc
derived_is literals (word ∷ []) line_read h = cc
derived_is literals (word ∷ next ∷ later) line_read h = elim (cases_Bool (bytes_eq word (codes ":"))) [
  | inl e ↦ ap (λ (w : List ℕ). derived_words literals (w ∷ next ∷ later)) (bytes_eq-true word (codes ":") e) ∙ hinted_is literals (next ∷ later) line_read (rw e at h)
  | inr e ↦ go (λ literal g. derived_is (literals ++ literal ∷ []) later line_read g) (literal_of word next) refl (rw e at h)
] where
  go : ((literal : NamedLiteral) → derived_from (literals ++ literal ∷ []) later ≡ Some line_read → derived_words (literals ++ literal ∷ []) later ≡ words_of line_read)
      → (read : Option NamedLiteral) → literal_of word next ≡ read → option_and_then (λ literal. derived_from (literals ++ literal ∷ []) later) read ≡ Some line_read
      → derived_words literals (word ∷ next ∷ later) ≡ words_of line_read
  go behind None e g = cc
  go behind (Some literal) e g = literal_more literals literal word next later line_read e (behind literal g)

-- Lines

line_by_is : (kind : List ℕ) (words : List (List ℕ)) (line_read : NamedLine) → line_by kind words ≡ Some line_read → kind ∷ words ≡ words_of line_read
line_by_is kind words line_read h = elim (cases_Bool (bytes_eq kind (codes "derive"))) [
  | inl e ↦ ap (λ (k : List ℕ). k ∷ words) (bytes_eq-true kind (codes "derive") e) ∙ derived_is [] words line_read (rw e at h)
  | inr e ↦ go (premise_by kind words) refl (rw e at h)
] where
  go : (read : Option NamedPremise) → premise_by kind words ≡ read → option_map (λ premise. line.Premise premise) read ≡ Some line_read → kind ∷ words ≡ words_of line_read
  go None e g = cc
  go (Some premise) e g =
      let same : line.Premise premise ≡ line_read = cc in
      premise_is kind words premise e ∙ ap words_of same

words_are : (words : List (List ℕ)) (line_read : NamedLine) → line_of_words words ≡ Some line_read → words ≡ words_of line_read
words_are [] line_read h = cc
words_are (kind ∷ words) line_read h = line_by_is kind words line_read h

-- a text that is read as a line is the line's
pub line_is : (text : List ℕ) (line_read : NamedLine) → line_of text ≡ Some line_read → text ++ 10 ∷ [] ≡ line_text line_read
unfolding line_of line_text
line_is text line_read h = ap (λ (written : List ℕ). written ++ 10 ∷ [])
    (sym (join_with_byte-slice_split 32 text) ∙ ap (join_with_byte 32) (words_are (parts_at 32 text) line_read h))
