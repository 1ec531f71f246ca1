-- What is read of a value is spelled by it.
use Rattle.std.proofs.Common.{◌≡◌, ℕ, ◌+◌, ◌≤◌, ◌<◌, true, false, not, Option, None, List, [], ◌∷◌, ◌++◌, length, map, refl, sym, ap, ◌∙◌, arith, inl, inr, ◌⊎◌, subst}
use Rattle.std.proofs.lemmas.Bool.{and_left, and_right, cases_Bool, false≢true}
use Rattle.std.proofs.lemmas.List.{length-append, length-map}
use Rattle.std.proofs.lemmas.List.Elements.{filter-append}
use Rattle.std.proofs.lemmas.List.Folds.{list_all-append}
use Rattle.std.proofs.lemmas.List.Splits.{join_with_byte-slice_split}
use Rattle.std.specs.List.{AllByRecursion, AllZip, flat_map, join_with_byte, list_all}
use Rattle.rules.specs.Package.{Atom, Provided}
use Rattle.rules.specs.Name.{is_name}
use Rattle.rules.specs.declared.goal.Restriction.{Restriction}
use Rattle.relation_text.specs.Bytes.{is_bar, is_comma, is_white}
use Rattle.relation_text.specs.Grammar.{IsWhite, SpellsAtom, SpellsAtoms, SpellsClause, SpellsClauses, SpellsList, SpellsProvided, SpellsProvides}
use Rattle.relation_text.specs.Laws.{AreFew, AtomsReadAreSpelled, ClausesReadAreSpelled, ProvidesReadAreSpelled, alternatives_of}
use Rattle.relation_text.specs.Refusal.{bad_version_of, excess_from, fault_of, most_atoms}
use Rattle.relation_text.specs.Spelling.{atom_of, atoms_between, clauses_of, is_blank, items_of, parts_of, provided_items_of, provided_of, separates}
use Rattle.relation_text.specs.declared.cut.Separator.TheVariants.{Bar, Comma, CommaOrBar}
use Rattle.relation_text.specs.declared.shape.RelationForm.{RelationForm}
use Rattle.relation_text.specs.declared.shape.RelationForm.TheVariants.{Clauses, Atoms, Provides}
use Rattle.relation_text.specs.declared.shape.ShapePlace.TheVariants.{Between, Alternative}
use Rattle.relation_text.proofs.AtomParse.{Ends, IsAtomOf, parse_alternative, parse_part}
use Rattle.relation_text.proofs.AtomSpelling.{spelled_atom}
use Rattle.relation_text.proofs.AtomText.{IsAtomText, IsOnePart}
use Rattle.relation_text.proofs.AtomValue.{atom_value, cut_atom, fails_white, faultless_from, name_stops, provided_value, white_fails}
use Rattle.relation_text.proofs.Faults.{IsFine, few_items, fine_from, versions_fine, was_read}
use Rattle.relation_text.proofs.FirstStop.{accepted_shape}
use Rattle.relation_text.proofs.PartShapes.{behind_bar, no_blank_before_bar, over_bar, parts_end}
use Rattle.relation_text.proofs.PartSplits.{IsPart, all_both, all_items, all_map, all_nested, items_found, parts_free, parts_spelled, slot_of, split_free, split_twice}
use Rattle.relation_text.proofs.Runs.{Stops, run_free}
use Rattle.std.specs.Char.{is_ascii_alphanumeric}

-- An atom

stops_blank : (before rest : List ℕ) → Stops is_white rest → (rest ≡ [] → ⊥) → is_blank (before ++ rest) ≡ false
stops_blank before [] stops some = absurd (some refl)
stops_blank before (b ∷ rest) stops some =
    list_all-append is_white before (b ∷ rest) ∙ and_right (list_all is_white before) (list_all is_white (b ∷ rest)) (and_left (is_white b) (list_all is_white rest) stops)

name_some : (name rest : List ℕ) → is_name name ≡ true → name ++ rest ≡ [] → ⊥
name_some [] rest is e = false≢true is
name_some (b ∷ name) rest is e = cc e

pub atom_text_not_blank : (text name : List ℕ) (qualifier : Option (List ℕ)) (restriction : Option Restriction) → IsAtomText text name qualifier restriction
    → is_blank text ≡ false
atom_text_not_blank text name qualifier restriction is =
    ap is_blank is.text_is
    ∙ stops_blank is.before (name ++ is.rest) (name_stops is_white (fails_white is_ascii_alphanumeric refl refl refl) name is.rest is.name_is)
    (name_some name is.rest is.name_is)

atom_not_blank : (form : RelationForm) (text : List ℕ) → IsAtomOf form text → is_blank text ≡ false
atom_not_blank form text is = atom_text_not_blank text is.name is.qualifier is.restriction is.atom

parsed_atom : (form : RelationForm) (arch text : List ℕ) → IsAtomOf form text → bad_version_of text ≡ None → SpellsAtom arch text (atom_of arch text)
parsed_atom form arch text is fine =
    let cut = cut_atom text is.name is.qualifier is.restriction is.atom in
    subst (SpellsAtom arch text) (sym (atom_value arch text is.name is.qualifier is.restriction is.atom))
    (spelled_atom arch text is.name is.qualifier is.restriction is.atom (faultless_from text is.restriction cut.restriction_is fine))

parsed_provided : (arch text : List ℕ) → IsAtomOf Provides text → bad_version_of text ≡ None → SpellsProvided arch text (provided_of arch text)
parsed_provided arch text is fine =
    let cut = cut_atom text is.name is.qualifier is.restriction is.atom in
    subst (SpellsAtom arch text) (sym (provided_value arch text is.name is.qualifier is.restriction is.atom is.takes))
    (spelled_atom arch text is.name is.qualifier is.restriction is.atom (faultless_from text is.restriction cut.restriction_is fine))

-- A part between commas

-- a part that is fine
record IsFinePart (form : RelationForm) (text : List ℕ) : Type 0 where
  ends : Ends form Between text
  one : IsOnePart form text
  version : bad_version_of text ≡ None

atom_part : (arch text : List ℕ) → IsFinePart Atoms text → IsPart (SpellsAtom arch) (atom_of arch) text
atom_part arch text fine = elim (parse_part Atoms text fine.ends fine.one) [
  | inl white ↦ inl white
  | inr atom ↦ inr (atom_not_blank Atoms text atom, parsed_atom Atoms arch text atom fine.version)
]

provided_part : (arch text : List ℕ) → IsFinePart Provides text → IsPart (SpellsProvided arch) (provided_of arch) text
provided_part arch text fine = elim (parse_part Provides text fine.ends fine.one) [
  | inl white ↦ inl white
  | inr atom ↦ inr (atom_not_blank Provides text atom, parsed_provided arch text atom fine.version)
]

fine_parts : (form : RelationForm) (parts : List (List ℕ)) → AllByRecursion (Ends form Between) parts → AllByRecursion (IsOnePart form) parts
    → AllByRecursion (λ text. bad_version_of text ≡ None) parts → AllByRecursion (IsFinePart form) parts
fine_parts form [] ends ones versions = tt
fine_parts form (text ∷ parts) ends ones versions =
    (record { ends = ends.0; one = ones.0; version = versions.0 }, fine_parts form parts ends.1 ones.1 versions.1)

comma_parts : (value : List ℕ) → join_with_byte 44 (parts_of Comma value) ≡ value
comma_parts value = join_with_byte-slice_split 44 value

ends_parts : (form : RelationForm) (value : List ℕ) → IsFine form value → AllByRecursion (Ends form Between) (parts_of Comma value)
ends_parts form value fine = parts_end form (parts_of Comma value) (subst (Ends form Between) (sym (comma_parts value)) (accepted_shape form value fine.shape))

pub list_spelled : {A : Type 0} (Spells : List ℕ → A → Type 0) (of : List ℕ → A) (value : List ℕ) → AllByRecursion (IsPart Spells of) (parts_of Comma value)
    → SpellsList Spells value (map of (items_of (parts_of Comma value)))
list_spelled Spells of value all = record {
  parts = parts_of Comma value;
  slots = map (slot_of of) (parts_of Comma value);
  value_is = sym (comma_parts value);
  each = parts_spelled Spells of (parts_of Comma value) all;
  items_are = items_found of (parts_of Comma value);
}

few_mapped : {A : Type 0} (of : List ℕ → A) (parts : List (List ℕ)) → excess_from most_atoms 0 parts ≡ None → AreFew (map of (items_of parts))
few_mapped of parts e = subst (λ (n : ℕ). n ≤ most_atoms) (sym (length-map (items_of parts) of)) (few_items most_atoms 0 parts e)

atoms_spelled : (arch value : List ℕ) → IsFine Atoms value → SpellsAtoms arch value (atoms_between Comma arch value) × AreFew (atoms_between Comma arch value)
atoms_spelled arch value fine =
    let parts = parts_of Comma value in
    let all = fine_parts Atoms parts (ends_parts Atoms value fine) (parts_free is_comma value) (versions_fine 0 parts fine.versions) in (
      list_spelled (SpellsAtom arch) (atom_of arch) value (all_map (IsFinePart Atoms) (IsPart (SpellsAtom arch) (atom_of arch)) (atom_part arch) parts all),
      few_mapped (atom_of arch) parts fine.few,
    )

provides_spelled : (arch value : List ℕ) → IsFine Provides value → SpellsProvides arch value (provided_items_of arch value) × AreFew (provided_items_of arch value)
provides_spelled arch value fine =
    let parts = parts_of Comma value in
    let all = fine_parts Provides parts (ends_parts Provides value fine) (parts_free is_comma value) (versions_fine 0 parts fine.versions) in (
      list_spelled (SpellsProvided arch) (provided_of arch) value (all_map (IsFinePart Provides) (IsPart (SpellsProvided arch) (provided_of arch)) (provided_part arch) parts all),
      few_mapped (provided_of arch) parts fine.few,
    )

pub atoms_read_are_spelled : AtomsReadAreSpelled
atoms_read_are_spelled arch value atoms e =
    let read = was_read (fault_of Atoms value) (atoms_between Comma arch value) atoms e in
    subst (λ (atoms : List Atom). SpellsAtoms arch value atoms × AreFew atoms) read.items_are (atoms_spelled arch value (fine_from Atoms value read.faultless))

pub provides_read_are_spelled : ProvidesReadAreSpelled
provides_read_are_spelled arch value items e =
    let read = was_read (fault_of Provides value) (provided_items_of arch value) items e in
    subst (λ (items : List Provided). SpellsProvides arch value items × AreFew items) read.items_are (provides_spelled arch value (fine_from Provides value read.faultless))

-- A clause

-- a text between separators that is fine
abbrev IsFineAlternative : List ℕ → Type 0
IsFineAlternative text = IsOnePart Clauses text × (bad_version_of text ≡ None)

-- a text that spells an atom
abbrev IsAlternative : List ℕ → List ℕ → Type 0
IsAlternative arch text = (is_blank text ≡ false) × SpellsAtom arch text (atom_of arch text)

alternative : (arch text : List ℕ) → IsFineAlternative text → IsAtomOf Clauses text → IsAlternative arch text
alternative arch text fine atom = (atom_not_blank Clauses text atom, parsed_atom Clauses arch text atom fine.1)

later_alternatives : (arch text : List ℕ) (texts : List (List ℕ)) → Ends Clauses Alternative (join_with_byte 124 (text ∷ texts))
    → AllByRecursion IsFineAlternative (text ∷ texts) → AllByRecursion (IsAlternative arch) (text ∷ texts)
later_alternatives arch text [] e fine = (alternative arch text fine.0 (parse_alternative Clauses text e fine.0.0), tt)
later_alternatives arch text (following ∷ texts) e fine =
    let more = join_with_byte 124 (following ∷ texts) in
    let bar = behind_bar _ more (over_bar Alternative text more e) in
    (alternative arch text fine.0 (parse_alternative Clauses text bar.before fine.0.0), later_alternatives arch following texts bar.behind fine.1)

first_alternative : (arch text : List ℕ) (texts : List (List ℕ)) → Ends Clauses Between (join_with_byte 124 (text ∷ texts))
    → AllByRecursion IsFineAlternative (text ∷ texts) → IsWhite (join_with_byte 124 (text ∷ texts)) ⊎ AllByRecursion (IsAlternative arch) (text ∷ texts)
first_alternative arch text [] e fine = elim (parse_part Clauses text e fine.0.0) [
  | inl white ↦ inl white
  | inr atom ↦ inr (alternative arch text fine.0 atom, tt)
]
first_alternative arch text (following ∷ texts) e fine =
    let more = join_with_byte 124 (following ∷ texts) in
    let bar = behind_bar _ more (over_bar Between text more e) in
    elim (parse_part Clauses text bar.before fine.0.0) [
      | inl white ↦ absurd (no_blank_before_bar text more white e)
      | inr atom ↦ inr (alternative arch text fine.0 atom, later_alternatives arch following texts bar.behind fine.1)
    ]

zip_alternatives : (arch : List ℕ) (texts : List (List ℕ)) → AllByRecursion (IsAlternative arch) texts → AllZip (SpellsAtom arch) texts (map (atom_of arch) texts)
zip_alternatives arch [] all = tt
zip_alternatives arch (text ∷ texts) all = (all.0.1, zip_alternatives arch texts all.1)

pub joined_blank : (text : List ℕ) (texts : List (List ℕ)) → is_blank text ≡ false → is_blank (join_with_byte 124 (text ∷ texts)) ≡ false
joined_blank text [] other = other
joined_blank text (following ∷ texts) other =
    list_all-append is_white text _ ∙ and_left (list_all is_white text) _ other

some_alternatives : {A : Type 0} (of : List ℕ → A) (text : List ℕ) (texts : List (List ℕ)) → 0 < length (map of (text ∷ texts))
some_alternatives of text texts = omega arith

alternatives_spelled : (arch part : List ℕ) (text : List ℕ) (texts : List (List ℕ)) → part ≡ join_with_byte 124 (text ∷ texts)
    → AllByRecursion (IsAlternative arch) (text ∷ texts) → SpellsClause arch part (map (atom_of arch) (items_of (text ∷ texts)))
alternatives_spelled arch part text texts e all =
    let items = all_items (text ∷ texts) (all_map (IsAlternative arch) (λ text. is_blank text ≡ false) (λ text is. is.0) (text ∷ texts) all) in
    subst (λ (items : List (List ℕ)). SpellsClause arch part (map (atom_of arch) items)) (sym items)
    (record {
      alternatives = text ∷ texts;
      some = some_alternatives (atom_of arch) text texts;
      text_is = e;
      each = zip_alternatives arch (text ∷ texts) all;
    })

clause_spelled : (arch part : List ℕ) (texts : List (List ℕ)) → part ≡ join_with_byte 124 texts → Ends Clauses Between part
    → AllByRecursion IsFineAlternative texts → IsWhite part ⊎ ((is_blank part ≡ false) × SpellsClause arch part (map (atom_of arch) (items_of texts)))
clause_spelled arch part [] e ends fine = inl (ap is_blank e)
clause_spelled arch part (text ∷ texts) e ends fine = elim (first_alternative arch text texts (subst (Ends Clauses Between) e ends) fine) [
  | inl white ↦ inl (ap is_blank e ∙ white)
  | inr all ↦ inr (ap is_blank e ∙ joined_blank text texts all.0.0, alternatives_spelled arch part text texts e all)
]

record IsFineClause (part : List ℕ) : Type 0 where
  ends : Ends Clauses Between part
  alternatives : AllByRecursion IsFineAlternative (parts_of Bar part)

clause_part : (arch part : List ℕ) → IsFineClause part → IsPart (SpellsClause arch) (atoms_between Bar arch) part
clause_part arch part fine = clause_spelled arch part (parts_of Bar part) (sym (join_with_byte-slice_split 124 part)) fine.ends fine.alternatives

fine_clauses : (parts : List (List ℕ)) → AllByRecursion (Ends Clauses Between) parts → AllByRecursion (λ part. AllByRecursion IsFineAlternative (parts_of Bar part)) parts
    → AllByRecursion IsFineClause parts
fine_clauses [] ends fine = tt
fine_clauses (part ∷ parts) ends fine = (record { ends = ends.0; alternatives = fine.0 }, fine_clauses parts ends.1 fine.1)

-- commas and bars part what bars part of what commas part
pub parts_twice : (value : List ℕ) → parts_of CommaOrBar value ≡ flat_map (parts_of Bar) (parts_of Comma value)
parts_twice value = split_twice is_comma is_bar value

fine_alternatives : (value : List ℕ) → IsFine Clauses value → AllByRecursion (λ part. AllByRecursion IsFineAlternative (parts_of Bar part)) (parts_of Comma value)
fine_alternatives value fine =
    let texts = parts_of CommaOrBar value in
    let all = all_both (IsOnePart Clauses) (λ text. bad_version_of text ≡ None) texts (parts_free (separates CommaOrBar) value) (versions_fine 0 texts fine.versions) in
    all_nested IsFineAlternative (parts_of Bar) (parts_of Comma value) (subst (AllByRecursion IsFineAlternative) (parts_twice value) all)

clauses_parts : (arch value : List ℕ) → IsFine Clauses value → AllByRecursion (IsPart (SpellsClause arch) (atoms_between Bar arch)) (parts_of Comma value)
clauses_parts arch value fine =
    all_map IsFineClause (IsPart (SpellsClause arch) (atoms_between Bar arch)) (clause_part arch) (parts_of Comma value)
    (fine_clauses (parts_of Comma value) (ends_parts Clauses value fine) (fine_alternatives value fine))

-- The number of alternatives

blank_part : (text : List ℕ) → is_blank text ≡ true → items_of (parts_of Bar text) ≡ []
blank_part text blank = ap items_of (split_free is_bar text (run_free is_white is_bar (white_fails is_bar refl refl refl) text blank)) ∙ rw blank refl

add_counts : (a b m n : ℕ) → a ≡ m → b ≡ n → a + b ≡ m + n
add_counts a b m n e f = omega (arith, e, f)

pub count_alternatives : (arch : List ℕ) (parts : List (List ℕ))
    → length (items_of (flat_map (parts_of Bar) parts)) ≡ length (alternatives_of (map (atoms_between Bar arch) (items_of parts)))
count_alternatives arch [] = refl
count_alternatives arch (text ∷ parts) =
    let later = count_alternatives arch parts in
    let cut : items_of (flat_map (parts_of Bar) (text ∷ parts)) ≡ items_of (parts_of Bar text) ++ items_of (flat_map (parts_of Bar) parts)
    = filter-append (λ text. not (is_blank text)) (parts_of Bar text) (flat_map (parts_of Bar) parts) in
    elim (cases_Bool (is_blank text)) [
      | inl blank ↦ ap length cut ∙ ap (λ (items : List (List ℕ)). length (items ++ items_of (flat_map (parts_of Bar) parts))) (blank_part text blank) ∙ later ∙ rw blank refl
      | inr other ↦
          ap length cut
          ∙ length-append (items_of (parts_of Bar text)) (items_of (flat_map (parts_of Bar) parts))
          ∙ add_counts _ _ _ _ (sym (length-map (items_of (parts_of Bar text)) (atom_of arch))) later
          ∙ sym (length-append (atoms_between Bar arch text) (alternatives_of (map (atoms_between Bar arch) (items_of parts))))
          ∙ rw other refl
    ]

pub count_of_value : (arch value : List ℕ) → length (items_of (parts_of CommaOrBar value)) ≡ length (alternatives_of (clauses_of arch value))
count_of_value arch value = ap (λ (texts : List (List ℕ)). length (items_of texts)) (parts_twice value) ∙ count_alternatives arch (parts_of Comma value)

clauses_spelled : (arch value : List ℕ) → IsFine Clauses value → SpellsClauses arch value (clauses_of arch value) × AreFew (alternatives_of (clauses_of arch value))
clauses_spelled arch value fine = (
  list_spelled (SpellsClause arch) (atoms_between Bar arch) value (clauses_parts arch value fine),
  subst (λ (n : ℕ). n ≤ most_atoms) (count_of_value arch value) (few_items most_atoms 0 (parts_of CommaOrBar value) fine.few),
)

pub clauses_read_are_spelled : ClausesReadAreSpelled
clauses_read_are_spelled arch value clauses e =
    let read = was_read (fault_of Clauses value) (clauses_of arch value) clauses e in
    subst (λ (clauses : List (List Atom)). SpellsClauses arch value clauses × AreFew (alternatives_of clauses)) read.items_are
    (clauses_spelled arch value (fine_from Clauses value read.faultless))
