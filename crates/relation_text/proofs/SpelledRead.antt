-- What a value spells is read of it.
use Rattle.std.proofs.Common.{◌≡◌, ℕ, ◌≤◌, ◌<◌, Bool, false, Option, Some, None, List, [], ◌∷◌, length, map, one-add, refl, sym, ap, ◌∙◌, arith, subst}
use Rattle.std.proofs.lemmas.Bool.{and_parts, or_from}
use Rattle.std.proofs.lemmas.List.{length-map}
use Rattle.std.specs.List.{AllByRecursion, AllZip, flat_map, join_with_byte, list_all, list_any}
use Rattle.std.specs.Option.{option_and_then, option_map}
use Rattle.std.specs.Prelude.{Ok}
use Rattle.rules.specs.Package.{Atom, Provided}
use Rattle.rules.specs.declared.goal.Restriction.{Restriction}
use Rattle.relation_text.specs.Bytes.{is_bar, is_comma, is_white}
use Rattle.relation_text.specs.Grammar.{IsWhite, SpellsAtom, SpellsClause, SpellsClauses, SpellsList, SpellsProvided, atom_of_provided, exactly}
use Rattle.relation_text.specs.Laws.{AreFew, AtomsSpelledAreRead, ClausesSpelledAreRead, ProvidesSpelledAreRead, alternatives_of}
use Rattle.relation_text.specs.Place.{is_end}
use Rattle.relation_text.specs.Refusal.{bad_version_in, bad_version_of, fault_of, most_atoms, separator_of, unless_refused}
use Rattle.relation_text.specs.Spelling.{after_qualifier, after_run, atom_of, atoms_between, clauses_of, is_blank, items_of, opened_at, parts_of, provided_items_of, provided_of, separates}
use Rattle.rules.specs.Name.{is_name_byte}
use Rattle.relation_text.specs.declared.cut.Separator.{Separator}
use Rattle.relation_text.specs.declared.cut.Separator.TheVariants.{Bar, Comma, CommaOrBar}
use Rattle.relation_text.specs.declared.shape.RelationForm.{RelationForm}
use Rattle.relation_text.specs.declared.shape.RelationForm.TheVariants.{Clauses, Atoms, Provides}
use Rattle.relation_text.specs.declared.shape.ShapePlace.TheVariants.{Between, Alternative}
use Rattle.relation_text.proofs.AtomBytes.{atom_bytes, is_atom_byte}
use Rattle.relation_text.proofs.AtomLeads.{Leads, atom_end_is_end, atom_leads, begins_alternative, begins_between}
use Rattle.relation_text.proofs.AtomParse.{Ends}
use Rattle.relation_text.proofs.AtomSpelling.{atom_faultless, atom_parts, spelled_value}
use Rattle.relation_text.proofs.AtomText.{IsOnePart, TakesAny}
use Rattle.relation_text.proofs.AtomValue.{cut_atom, no_bad_version, provided_value, white_fails}
use Rattle.relation_text.proofs.Faults.{IsFine, items_unrefused, no_fault, versions_unrefused}
use Rattle.relation_text.proofs.PartShapes.{joined_clause, joined_end, shape_fine, white_stays}
use Rattle.relation_text.proofs.PartSplits.{IsItem, all_flat, all_items, all_map, items_back, joined_free, parts_fact, some_parts, split_free, split_joined}
use Rattle.relation_text.proofs.ReadSpelled.{atom_text_not_blank, count_of_value, joined_blank, parts_twice}
use Rattle.relation_text.proofs.Runs.{Excludes, excludes_byte, run_free}

-- White space alone

white_dropped : (text : List ℕ) → IsWhite text → after_run is_white text ≡ []
white_dropped [] white = refl
white_dropped (b ∷ text) white =
    let both = and_parts (is_white b) (list_all is_white text) white in
    let first = both.0 in
    rw (first, one-add) (white_dropped text both.1)

white_version : (text : List ℕ) → IsWhite text → bad_version_of text ≡ None
unfolding bad_version_of
white_version text white =
    ap (λ (rest : List ℕ). option_and_then (bad_version_in text) (opened_at (after_run is_white (after_qualifier (after_run is_name_byte rest))))) (white_dropped text white)

white_excludes : (form : RelationForm) → Excludes is_white (separates (separator_of form))
white_excludes Clauses = white_fails (separates CommaOrBar) refl refl refl
white_excludes Atoms = white_fails is_comma refl refl refl
white_excludes Provides = white_fails is_comma refl refl refl

-- a part that is read
record IsGood (form : RelationForm) (text : List ℕ) : Type 0 where
  one : IsOnePart form text
  ends : Ends form Between text
  version : bad_version_of text ≡ None

white_good : (form : RelationForm) (text : List ℕ) → IsWhite text → IsGood form text
white_good form text white = record {
  one = run_free is_white (separates (separator_of form)) (white_excludes form) text white;
  ends = ap is_end (white_stays form text white);
  version = white_version text white;
}

-- An atom

atom_excludes : (form : RelationForm) → Excludes is_atom_byte (separates (separator_of form))
atom_excludes Clauses b in_atom = or_from (is_comma b) (is_bar b) (excludes_byte is_atom_byte 44 refl b in_atom) (excludes_byte is_atom_byte 124 refl b in_atom)
atom_excludes Atoms b in_atom = excludes_byte is_atom_byte 44 refl b in_atom
atom_excludes Provides b in_atom = excludes_byte is_atom_byte 44 refl b in_atom

atom_version : (arch text : List ℕ) (atom : Atom) → SpellsAtom arch text atom → bad_version_of text ≡ None
atom_version arch text atom is =
    let cut = cut_atom text atom.name is.qualifier atom.restriction (atom_parts arch text atom is) in
    no_bad_version text atom.restriction cut.restriction_is (atom_faultless arch text atom is)

atom_free : (test : ℕ → Bool) → Excludes is_atom_byte test → (arch text : List ℕ) (atom : Atom) → SpellsAtom arch text atom → list_any test text ≡ false
atom_free test excludes arch text atom is =
    run_free is_atom_byte test excludes text (atom_bytes text atom.name is.qualifier atom.restriction (atom_parts arch text atom is))

atom_good : (form : RelationForm) (arch text : List ℕ) (atom : Atom) → TakesAny form atom.restriction → SpellsAtom arch text atom → IsGood form text
atom_good form arch text atom takes is = record {
  one = atom_free (separates (separator_of form)) (atom_excludes form) arch text atom is;
  ends = atom_end_is_end _ (atom_leads form Between (begins_between form) text atom.name is.qualifier atom.restriction (atom_parts arch text atom is) takes);
  version = atom_version arch text atom is;
}

atom_some : (arch text : List ℕ) (atom : Atom) → SpellsAtom arch text atom → is_blank text ≡ false
atom_some arch text atom is = atom_text_not_blank text atom.name is.qualifier atom.restriction (atom_parts arch text atom is)

atom_item : (arch text : List ℕ) (atom : Atom) → SpellsAtom arch text atom → IsItem (atom_of arch) text atom
atom_item arch text atom is = record { some = atom_some arch text atom is; value = spelled_value arch text atom is }

takes_atoms : (restriction : Option Restriction) → TakesAny Atoms restriction
takes_atoms None = tt
takes_atoms (Some restriction) = tt

takes_clauses : (restriction : Option Restriction) → TakesAny Clauses restriction
takes_clauses None = tt
takes_clauses (Some restriction) = tt

takes_exactly : (version : Option (List ℕ)) → TakesAny Provides (option_map exactly version)
takes_exactly None = tt
takes_exactly (Some version) = refl

-- An item of Provides

version_back : (version : Option (List ℕ)) → option_map (λ (restriction : Restriction). restriction.version) (option_map exactly version) ≡ version
version_back None = refl
version_back (Some version) = refl

-- the item of Provides that an atom stands for
abbrev provided_from : Atom → Provided
provided_from atom = record { name = atom.name; version = option_map (λ restriction. restriction.version) atom.restriction; foreign = atom.foreign }

provided_back : (item : Provided) → provided_from (atom_of_provided item) ≡ item
provided_back item = λ i. record { name = item.name; version = version_back item.version i; foreign = item.foreign }

provided_is : (arch text : List ℕ) (item : Provided) → SpellsProvided arch text item → provided_of arch text ≡ item
provided_is arch text item is =
    let atom = atom_of_provided item in
    let same : atom_of_provided (provided_of arch text) ≡ atom
    = provided_value arch text atom.name is.qualifier atom.restriction (atom_parts arch text atom is) (takes_exactly item.version)
    ∙ λ i. record { name = atom.name; restriction = atom.restriction; foreign = sym is.foreign_is i } in
    sym (provided_back (provided_of arch text)) ∙ ap provided_from same ∙ provided_back item

provided_item : (arch text : List ℕ) (item : Provided) → SpellsProvided arch text item → IsItem (provided_of arch) text item
provided_item arch text item is = record { some = atom_some arch text (atom_of_provided item) is; value = provided_is arch text item is }

-- A list of parts between commas

record IsReadList {A : Type 0} (form : RelationForm) (of : List ℕ → A) (value : List ℕ) (items : List A) : Type 0 where
  fine : IsFine form value
  items_are : map of (items_of (parts_of Comma value)) ≡ items

comma_free : (form : RelationForm) → separator_of form ≡ Comma → (text : List ℕ) → IsOnePart form text → list_any is_comma text ≡ false
comma_free form by_comma text one = subst (λ (separator : Separator). list_any (separates separator) text ≡ false) by_comma one

list_read : {A : Type 0} (form : RelationForm) → separator_of form ≡ Comma → (Spells : List ℕ → A → Type 0) (of : List ℕ → A)
    → ((text : List ℕ) (item : A) → Spells text item → IsGood form text) → ((text : List ℕ) (item : A) → Spells text item → IsItem of text item)
    → (value : List ℕ) (items : List A) → SpellsList Spells value items → AreFew items → IsReadList form of value items
list_read {A} form by_comma Spells of good back value items is few =
    let some = some_parts Spells value items is in
    let parts = some.first ∷ some.later in
    let all : AllByRecursion (IsGood form) parts = parts_fact Spells (IsGood form) (white_good form) good parts some.slots some.each in
    let free = all_map (IsGood form) (λ (text : List ℕ). list_any is_comma text ≡ false) (λ text is. comma_free form by_comma text is.one) parts all in
    let split : parts_of Comma value ≡ parts = ap (parts_of Comma) some.value_is ∙ split_joined is_comma 44 refl some.first some.later free in
    let values : map of (items_of (parts_of Comma value)) ≡ items
    = ap (λ (parts : List (List ℕ)). map of (items_of parts)) split ∙ items_back Spells of back parts some.slots some.each ∙ sym some.items_are in
    let count : length (items_of (parts_of Comma value)) ≡ length items = sym (length-map (items_of (parts_of Comma value)) of) ∙ ap (λ (items : List A). length items) values in
    let same_parts : parts_of (separator_of form) value ≡ parts_of Comma value = ap (λ (separator : Separator). parts_of separator value) by_comma in
    record {
      fine = record {
        shape = shape_fine form value (subst (Ends form Between) (sym some.value_is)
            (joined_end form parts (all_map (IsGood form) (Ends form Between) (λ text is. is.ends) parts all)));
        versions = versions_unrefused 0 (parts_of (separator_of form) value) (subst (AllByRecursion (λ (text : List ℕ). bad_version_of text ≡ None)) (sym (same_parts ∙ split))
            (all_map (IsGood form) (λ (text : List ℕ). bad_version_of text ≡ None) (λ text is. is.version) parts all));
        few = items_unrefused most_atoms 0 (parts_of (separator_of form) value) (subst (λ (parts : List (List ℕ)). length (items_of parts) ≤ most_atoms) (sym same_parts)
            (subst (λ (n : ℕ). n ≤ most_atoms) (sym count) few));
      };
      items_are = values;
    }

read_ok : {A : Type 0} (form : RelationForm) (value : List ℕ) (read items : A) → IsFine form value → read ≡ items → unless_refused (fault_of form value) read ≡ Ok items
read_ok form value read items fine e = let clean = no_fault form value fine in rw clean (λ i. Ok (e i))

pub atoms_spelled_are_read : AtomsSpelledAreRead
atoms_spelled_are_read arch value atoms is few =
    let read = list_read Atoms refl (SpellsAtom arch) (atom_of arch) (λ text atom is. atom_good Atoms arch text atom (takes_atoms atom.restriction) is)
    (atom_item arch) value atoms is few in
    read_ok Atoms value (atoms_between Comma arch value) atoms read.fine read.items_are

pub provides_spelled_are_read : ProvidesSpelledAreRead
provides_spelled_are_read arch value items is few =
    let read = list_read Provides refl (SpellsProvided arch) (provided_of arch)
    (λ text item is. atom_good Provides arch text (atom_of_provided item) (takes_exactly item.version) is) (provided_item arch) value items is few in
    read_ok Provides value (provided_items_of arch value) items read.fine read.items_are

-- A clause

-- an alternative of a clause
record IsGoodAlternative (text : List ℕ) : Type 0 where
  some : is_blank text ≡ false
  no_comma : list_any is_comma text ≡ false
  no_bar : list_any is_bar text ≡ false
  first : Leads Clauses Between text
  later : Leads Clauses Alternative text
  version : bad_version_of text ≡ None

good_alternative : (arch text : List ℕ) (atom : Atom) → SpellsAtom arch text atom → IsGoodAlternative text
good_alternative arch text atom is =
    let parts = atom_parts arch text atom is in
    let takes = takes_clauses atom.restriction in
    record {
      some = atom_some arch text atom is;
      no_comma = atom_free is_comma (excludes_byte is_atom_byte 44 refl) arch text atom is;
      no_bar = atom_free is_bar (excludes_byte is_atom_byte 124 refl) arch text atom is;
      first = atom_leads Clauses Between (begins_between Clauses) text atom.name is.qualifier atom.restriction parts takes;
      later = atom_leads Clauses Alternative (begins_alternative Clauses) text atom.name is.qualifier atom.restriction parts takes;
      version = atom_version arch text atom is;
    }

-- texts that spell the atoms of a clause
record IsAlternatives (arch : List ℕ) (texts : List (List ℕ)) (clause : List Atom) : Type 0 where
  good : AllByRecursion IsGoodAlternative texts
  values : map (atom_of arch) texts ≡ clause

alternatives_are : (arch : List ℕ) (texts : List (List ℕ)) (clause : List Atom) → AllZip (SpellsAtom arch) texts clause → IsAlternatives arch texts clause
alternatives_are arch [] [] all = record { good = tt; values = refl }
alternatives_are arch [] (atom ∷ clause) all = absurd all
alternatives_are arch (text ∷ texts) [] all = absurd all
alternatives_are arch (text ∷ texts) (atom ∷ clause) all =
    let later = alternatives_are arch texts clause all.1 in
    record {
      good = (good_alternative arch text atom all.0, later.good);
      values = λ i. spelled_value arch text atom all.0 i ∷ later.values i;
    }

-- a part between commas that is read as a clause, or as none
record IsGoodClause (text : List ℕ) : Type 0 where
  free : list_any is_comma text ≡ false
  ends : Ends Clauses Between text
  versions : AllByRecursion (λ text. bad_version_of text ≡ None) (parts_of Bar text)

white_clause : (text : List ℕ) → IsWhite text → IsGoodClause text
white_clause text white = record {
  free = run_free is_white is_comma (white_fails is_comma refl refl refl) text white;
  ends = ap is_end (white_stays Clauses text white);
  versions = subst (AllByRecursion (λ (text : List ℕ). bad_version_of text ≡ None))
      (sym (split_free is_bar text (run_free is_white is_bar (white_fails is_bar refl refl refl) text white))) (white_version text white, tt);
}

record IsReadClause (arch text : List ℕ) (clause : List Atom) : Type 0 where
  good : IsGoodClause text
  item : IsItem (atoms_between Bar arch) text clause

joined_read : (arch text first : List ℕ) (later : List (List ℕ)) (clause : List Atom) → text ≡ join_with_byte 124 (first ∷ later) → IsAlternatives arch (first ∷ later) clause
    → IsReadClause arch text clause
joined_read arch text first later clause e are =
    let texts = first ∷ later in
    let no_bars = all_map IsGoodAlternative (λ (text : List ℕ). list_any is_bar text ≡ false) (λ text is. is.no_bar) texts are.good in
    let no_commas = all_map IsGoodAlternative (λ (text : List ℕ). list_any is_comma text ≡ false) (λ text is. is.no_comma) texts are.good in
    let somes = all_map IsGoodAlternative (λ (text : List ℕ). is_blank text ≡ false) (λ text is. is.some) texts are.good in
    let leads = all_map IsGoodAlternative (Leads Clauses Alternative) (λ text is. is.later) later are.good.1 in
    let versions = all_map IsGoodAlternative (λ (text : List ℕ). bad_version_of text ≡ None) (λ text is. is.version) texts are.good in
    let split : parts_of Bar text ≡ texts = ap (parts_of Bar) e ∙ split_joined is_bar 124 refl first later no_bars in
    record {
      good = record {
        free = ap (list_any is_comma) e ∙ joined_free is_comma 124 refl texts no_commas;
        ends = subst (Ends Clauses Between) (sym e) (joined_clause first later are.good.0.first leads);
        versions = subst (AllByRecursion (λ (text : List ℕ). bad_version_of text ≡ None)) (sym split) versions;
      };
      item = record {
        some = ap is_blank e ∙ joined_blank first later are.good.0.some;
        value = ap (λ (texts : List (List ℕ)). map (atom_of arch) (items_of texts)) split ∙ ap (map (atom_of arch)) (all_items texts somes) ∙ are.values;
      };
    }

clause_from : (arch text : List ℕ) (texts : List (List ℕ)) (clause : List Atom) → 0 < length clause → text ≡ join_with_byte 124 texts → AllZip (SpellsAtom arch) texts clause
    → IsReadClause arch text clause
clause_from arch text [] [] some e each = absurd (omega arith)
clause_from arch text [] (atom ∷ clause) some e each = absurd each
clause_from arch text (first ∷ later) clause some e each = joined_read arch text first later clause e (alternatives_are arch (first ∷ later) clause each)

clause_read : (arch text : List ℕ) (clause : List Atom) → SpellsClause arch text clause → IsReadClause arch text clause
clause_read arch text clause is = clause_from arch text is.alternatives clause is.some is.text_is is.each

clauses_read : (arch value : List ℕ) (clauses : List (List Atom)) → SpellsClauses arch value clauses → AreFew (alternatives_of clauses)
    → IsReadList Clauses (atoms_between Bar arch) value clauses
clauses_read arch value clauses is few =
    let some = some_parts (SpellsClause arch) value clauses is in
    let parts = some.first ∷ some.later in
    let all : AllByRecursion IsGoodClause parts = parts_fact (SpellsClause arch) IsGoodClause white_clause (λ text clause is. (clause_read arch text clause is).good) parts some.slots some.each in
    let free = all_map IsGoodClause (λ (text : List ℕ). list_any is_comma text ≡ false) (λ text is. is.free) parts all in
    let split : parts_of Comma value ≡ parts = ap (parts_of Comma) some.value_is ∙ split_joined is_comma 44 refl some.first some.later free in
    let values : clauses_of arch value ≡ clauses
    = ap (λ (parts : List (List ℕ)). map (atoms_between Bar arch) (items_of parts)) split
    ∙ items_back (SpellsClause arch) (atoms_between Bar arch) (λ text clause is. (clause_read arch text clause is).item) parts some.slots some.each
    ∙ sym some.items_are in
    let versions : AllByRecursion (λ (text : List ℕ). bad_version_of text ≡ None) (flat_map (parts_of Bar) parts)
    = all_flat (λ (text : List ℕ). bad_version_of text ≡ None) (parts_of Bar) parts
    (all_map IsGoodClause (λ (text : List ℕ). AllByRecursion (λ (text : List ℕ). bad_version_of text ≡ None) (parts_of Bar text)) (λ text is. is.versions) parts all) in
    let texts : parts_of CommaOrBar value ≡ flat_map (parts_of Bar) parts = parts_twice value ∙ ap (flat_map (parts_of Bar)) split in
    let count : length (items_of (parts_of CommaOrBar value)) ≡ length (alternatives_of clauses)
    = count_of_value arch value ∙ ap (λ (clauses : List (List Atom)). length (alternatives_of clauses)) values in
    record {
      fine = record {
        shape = shape_fine Clauses value (subst (Ends Clauses Between) (sym some.value_is)
            (joined_end Clauses parts (all_map IsGoodClause (Ends Clauses Between) (λ text is. is.ends) parts all)));
        versions = versions_unrefused 0 (parts_of CommaOrBar value) (subst (AllByRecursion (λ (text : List ℕ). bad_version_of text ≡ None)) (sym texts) versions);
        few = items_unrefused most_atoms 0 (parts_of CommaOrBar value) (subst (λ (n : ℕ). n ≤ most_atoms) (sym count) few);
      };
      items_are = values;
    }

pub clauses_spelled_are_read : ClausesSpelledAreRead
clauses_spelled_are_read arch value clauses is few =
    let read = clauses_read arch value clauses is few in
    read_ok Clauses value (clauses_of arch value) clauses read.fine read.items_are
