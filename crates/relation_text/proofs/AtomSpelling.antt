-- What is spelled as an atom has the parts of one, and the other way round.
use Rattle.std.proofs.Common.{◌≡◌, ℕ, Option, Some, None, List, ◌∷◌, ◌++◌, codes, refl, sym, ap, ◌∙◌, append_assoc}
use Rattle.rules.specs.Package.{Atom}
use Rattle.rules.specs.VersionFault.{first_fault}
use Rattle.rules.specs.declared.goal.Restriction.{Restriction}
use Rattle.debversion.proofs.SpellingLemmas.{faultless_is_spelled}
use Rattle.relation_text.specs.Grammar.{SpellsAnyRestriction, SpellsAtom, SpellsRestriction, behind_colon}
use Rattle.relation_text.specs.Spelling.{atom_of}
use Rattle.relation_text.proofs.AtomText.{IsAnyOpened, IsAtomText, IsOpened}
use Rattle.relation_text.proofs.AtomBytes.{version_text}
use Rattle.relation_text.proofs.AtomValue.{IsFaultless, atom_from, atom_value}

regroup_restriction : (a o b v c d : List ℕ) → a ++ o ++ b ++ v ++ c ++ codes ")" ++ d ≡ a ++ (o ++ (b ++ (v ++ (c ++ (41 ∷ d)))))
regroup_restriction a o b v c d = simp append_assoc refl

regroup_atom : (a n q b r : List ℕ) → a ++ n ++ q ++ b ++ r ≡ a ++ (n ++ (q ++ (b ++ r)))
regroup_atom a n q b r = simp append_assoc refl

-- From the parts to the spelling

spelled_restriction : (text : List ℕ) (restriction : Restriction) → IsOpened text restriction → first_fault restriction.version ≡ None → SpellsRestriction text restriction
spelled_restriction text restriction is clean =
    let inside = is.inside_is in
    let rest = inside.rest_is in
    let closing = rest.closing_is in
    record {
      operator = inside.operator;
      before_operator = is.before;
      before_version = rest.before;
      before_closing = closing.before;
      behind = closing.behind;
      text_is = is.text_is
          ∙ ap (λ (bytes : List ℕ). 40 ∷ (is.before ++ bytes)) (inside.text_is
          ∙ ap (λ (bytes : List ℕ). inside.operator ++ bytes) (rest.text_is
          ∙ ap (λ (bytes : List ℕ). rest.before ++ (restriction.version ++ bytes)) closing.text_is))
          ∙ ap (λ (bytes : List ℕ). 40 ∷ bytes) (sym (regroup_restriction is.before inside.operator rest.before restriction.version closing.before closing.behind));
      white = (is.before_is, rest.before_is, closing.before_is, closing.behind_is);
      op_is = inside.op_is;
      version_is = (faultless_is_spelled restriction.version).0 clean;
    }

spelled_any : (text : List ℕ) (restriction : Option Restriction) → IsAnyOpened text restriction → IsFaultless restriction → SpellsAnyRestriction text restriction
spelled_any text None is clean = is
spelled_any text (Some restriction) is clean = spelled_restriction text restriction is clean

pub spelled_atom : (arch text name : List ℕ) (qualifier : Option (List ℕ)) (restriction : Option Restriction) → IsAtomText text name qualifier restriction
    → IsFaultless restriction → SpellsAtom arch text (atom_from arch name qualifier restriction)
spelled_atom arch text name qualifier restriction is clean =
    let rest = is.rest_is in
    let tail = rest.tail_is in
    record {
      qualifier = qualifier;
      before_name = is.before;
      behind_name = tail.before;
      restriction = tail.opened;
      text_is = is.text_is
          ∙ ap (λ (bytes : List ℕ). is.before ++ (name ++ bytes)) (rest.text_is ∙ ap (λ (bytes : List ℕ). behind_colon qualifier ++ bytes) tail.text_is)
          ∙ sym (regroup_atom is.before name (behind_colon qualifier) tail.before tail.opened);
      white = (is.before_is, tail.before_is);
      name_is = is.name_is;
      qualifier_is = rest.qualifier_is;
      foreign_is = refl;
      restriction_is = spelled_any tail.opened restriction tail.opened_is clean;
    }

-- From the spelling to the parts

opened_parts : (text : List ℕ) (restriction : Restriction) → SpellsRestriction text restriction → IsOpened text restriction
opened_parts text restriction is =
    let closing = is.before_closing ++ 41 ∷ is.behind in
    let rest = is.before_version ++ (restriction.version ++ closing) in
    record {
      before = is.before_operator;
      inside = is.operator ++ rest;
      text_is = is.text_is
          ∙ ap (λ (bytes : List ℕ). 40 ∷ bytes) (regroup_restriction is.before_operator is.operator is.before_version restriction.version is.before_closing is.behind);
      before_is = is.white.0;
      inside_is = record {
        operator = is.operator;
        rest = rest;
        text_is = refl;
        op_is = is.op_is;
        rest_is = record {
          before = is.before_version;
          closing = closing;
          text_is = refl;
          before_is = is.white.1;
          version_is = version_text restriction.version is.version_is;
          closing_is = record { before = is.before_closing; behind = is.behind; text_is = refl; before_is = is.white.2; behind_is = is.white.3 };
        };
      };
    }

any_parts : (text : List ℕ) (restriction : Option Restriction) → SpellsAnyRestriction text restriction → IsAnyOpened text restriction
any_parts text None is = is
any_parts text (Some restriction) is = opened_parts text restriction is

any_faultless : (text : List ℕ) (restriction : Option Restriction) → SpellsAnyRestriction text restriction → IsFaultless restriction
any_faultless text None is = tt
any_faultless text (Some restriction) is = (faultless_is_spelled restriction.version).1 is.version_is

pub atom_parts : (arch text : List ℕ) (atom : Atom) (is : SpellsAtom arch text atom) → IsAtomText text atom.name is.qualifier atom.restriction
atom_parts arch text atom is = record {
  before = is.before_name;
  rest = behind_colon is.qualifier ++ (is.behind_name ++ is.restriction);
  text_is = is.text_is ∙ regroup_atom is.before_name atom.name (behind_colon is.qualifier) is.behind_name is.restriction;
  before_is = is.white.0;
  name_is = is.name_is;
  rest_is = record {
    tail = is.behind_name ++ is.restriction;
    text_is = refl;
    qualifier_is = is.qualifier_is;
    tail_is = record {
      before = is.behind_name;
      opened = is.restriction;
      text_is = refl;
      before_is = is.white.1;
      opened_is = any_parts is.restriction atom.restriction is.restriction_is;
    };
  };
}

pub atom_faultless : (arch text : List ℕ) (atom : Atom) → SpellsAtom arch text atom → IsFaultless atom.restriction
atom_faultless arch text atom is = any_faultless is.restriction atom.restriction is.restriction_is

pub spelled_value : (arch text : List ℕ) (atom : Atom) → SpellsAtom arch text atom → atom_of arch text ≡ atom
spelled_value arch text atom is =
    atom_value arch text atom.name is.qualifier atom.restriction (atom_parts arch text atom is)
    ∙ λ i. record { name = atom.name; restriction = atom.restriction; foreign = sym is.foreign_is i }
