-- The bytes of an atom's text: no comma and no bar among them.
use Rattle.std.proofs.Common.{◌≡◌, ℕ, ◌<◌, Bool, true, false, ◌||◌, ◌==◌, Option, Some, None, List, [], ◌∷◌, ◌++◌, length, refl, sym, ap, ◌∙◌, arith, inl, inr, subst, IfSome}
use Rattle.std.proofs.lemmas.Bool.{and_from, and_parts, both_ways, cases_Bool, or_parts, or_right}
use Rattle.std.proofs.lemmas.List.Folds.{list_all-append}
use Rattle.std.proofs.lemmas.List.Sums.{list_all-from_AllPass}
use Rattle.std.specs.Char.{is_ascii_alphanumeric, is_ascii_digit}
use Rattle.std.specs.List.{list_all}
use Rattle.rules.specs.Name.{is_name_byte}
use Rattle.rules.specs.VersionFault.{first_fault, is_revision_byte, is_upstream_byte}
use Rattle.rules.specs.declared.goal.Restriction.{Restriction}
use Rattle.debversion.specs.Spelling.{IsEpoch, IsRevision, IsSpelled, IsUpstream, before_hyphen, behind_epoch}
use Rattle.debversion.proofs.SpellingLemmas.{faultless_is_spelled}
use Rattle.relation_text.specs.Bytes.{is_operator_byte, is_qualifier_byte, is_version_byte, is_white}
use Rattle.relation_text.specs.Grammar.{IsQualifier, behind_colon}
use Rattle.relation_text.proofs.AtomText.{IsAnyOpened, IsAtomText, IsBehindName, IsBehindOperator, IsClosing, IsInside, IsTail, IsVersionText}
use Rattle.relation_text.proofs.AtomValue.{name_bytes, op_bytes, qualifier_bytes}

pub all_joined : (test : ℕ → Bool) (front back : List ℕ) → list_all test front ≡ true → list_all test back ≡ true → list_all test (front ++ back) ≡ true
all_joined test front back all rest = list_all-append test front back ∙ and_from _ _ all rest

-- what passes one test passes another
abbrev Implies : (ℕ → Bool) → (ℕ → Bool) → Type 0
Implies test other = (b : ℕ) → test b ≡ true → other b ≡ true

all_weaker : (test other : ℕ → Bool) → Implies test other → (bytes : List ℕ) → list_all test bytes ≡ true → list_all other bytes ≡ true
all_weaker test other implies [] all = refl
all_weaker test other implies (b ∷ bytes) all =
    let both = and_parts (test b) (list_all test bytes) all in
    and_from _ _ (implies b both.0) (all_weaker test other implies bytes both.1)

-- The bytes of a version

digit_is : Implies is_ascii_digit is_version_byte
digit_is b digit = rw digit refl

upstream_fails : (b : ℕ) → is_version_byte b ≡ false → is_upstream_byte b ≡ false
upstream_fails b other =
    let tilde = or_parts (is_ascii_alphanumeric b || b == 46 || b == 43 || b == 45 || b == 58) (b == 126) other in
    let colon = or_parts (is_ascii_alphanumeric b || b == 46 || b == 43 || b == 45) (b == 58) tilde.0 in
    let hyphen = or_parts (is_ascii_alphanumeric b || b == 46 || b == 43) (b == 45) colon.0 in
    let plus = or_parts (is_ascii_alphanumeric b || b == 46) (b == 43) hyphen.0 in
    let dot = or_parts (is_ascii_alphanumeric b) (b == 46) plus.0 in
    let letter = dot.0 in
    let no_dot = dot.1 in
    let no_plus = plus.1 in
    let no_hyphen = hyphen.1 in
    let no_colon = colon.1 in
    let no_tilde = tilde.1 in
    rw (letter, no_plus, no_dot, no_tilde, no_hyphen, no_colon) refl

upstream_is : Implies is_upstream_byte is_version_byte
upstream_is b upstream = elim (cases_Bool (is_version_byte b)) [
  | inl version ↦ version
  | inr other ↦ absurd (both_ways (is_upstream_byte b) (upstream_fails b other) upstream)
]

revision_is : Implies is_revision_byte is_version_byte
revision_is b revision = upstream_is b (rw revision refl)

epoch_bytes : (epoch : Option (List ℕ)) (rest : List ℕ) → IfSome epoch IsEpoch → list_all is_version_byte rest ≡ true → list_all is_version_byte (behind_epoch epoch rest) ≡ true
epoch_bytes None rest is all = all
epoch_bytes (Some epoch) rest is all = all_joined is_version_byte epoch (58 ∷ rest)
    (all_weaker is_ascii_digit is_version_byte digit_is epoch (list_all-from_AllPass is_ascii_digit epoch is.digits)) all

hyphen_bytes : (upstream : List ℕ) (revision : Option (List ℕ)) → IsUpstream upstream → IfSome revision IsRevision → list_all is_version_byte (before_hyphen upstream revision) ≡ true
hyphen_bytes upstream None is has =
    all_weaker is_upstream_byte is_version_byte upstream_is upstream (list_all-from_AllPass is_upstream_byte upstream is.allowed)
hyphen_bytes upstream (Some revision) is has = all_joined is_version_byte upstream (45 ∷ revision)
    (all_weaker is_upstream_byte is_version_byte upstream_is upstream (list_all-from_AllPass is_upstream_byte upstream is.allowed))
    (all_weaker is_revision_byte is_version_byte revision_is revision (list_all-from_AllPass is_revision_byte revision has.allowed))

version_written : (version : List ℕ) → first_fault version ≡ None → 0 < length version
unfolding first_fault
version_written [] clean = cc clean
version_written (b ∷ version) clean = omega arith

pub version_text : (version : List ℕ) → IsSpelled version → IsVersionText version
version_text version is = record {
  written = version_written version ((faultless_is_spelled version).1 is);
  bytes = subst (λ (bytes : List ℕ). list_all is_version_byte bytes ≡ true) (sym is.text_is)
      (epoch_bytes is.epoch (before_hyphen is.upstream is.revision) is.epoch_is (hyphen_bytes is.upstream is.revision is.upstream_is is.revision_is));
}

-- a byte of an atom's text
abbrev pub is_atom_byte : ℕ → Bool
is_atom_byte b =
    is_white b || (is_name_byte b || (is_qualifier_byte b || (is_operator_byte b || (is_version_byte b || (b == 58 || (b == 40 || b == 41))))))

-- bytes of each kind are of an atom's text

white_in : Implies is_white is_atom_byte
white_in b h = rw h refl

name_in : Implies is_name_byte is_atom_byte
name_in b h = or_right (is_white b) _ (rw h refl)

qualifier_in : Implies is_qualifier_byte is_atom_byte
qualifier_in b h = or_right (is_white b) _ (or_right (is_name_byte b) _ (rw h refl))

operator_in : Implies is_operator_byte is_atom_byte
operator_in b h = or_right (is_white b) _ (or_right (is_name_byte b) _ (or_right (is_qualifier_byte b) _ (rw h refl)))

version_in : Implies is_version_byte is_atom_byte
version_in b h = or_right (is_white b) _ (or_right (is_name_byte b) _ (or_right (is_qualifier_byte b) _ (or_right (is_operator_byte b) _ (rw h refl))))

abbrev AreAtomBytes : List ℕ → Type 0
AreAtomBytes text = list_all is_atom_byte text ≡ true

same_bytes : (text other : List ℕ) → text ≡ other → AreAtomBytes other → AreAtomBytes text
same_bytes text other e all = ap (list_all is_atom_byte) e ∙ all

closing_bytes : (text : List ℕ) → IsClosing text → AreAtomBytes text
closing_bytes text is = same_bytes text _ is.text_is
    (all_joined is_atom_byte is.before (41 ∷ is.behind) (all_weaker is_white is_atom_byte white_in is.before is.before_is)
    (all_weaker is_white is_atom_byte white_in is.behind is.behind_is))

behind_operator_bytes : (text version : List ℕ) → IsBehindOperator text version → AreAtomBytes text
behind_operator_bytes text version is = same_bytes text _ is.text_is
    (all_joined is_atom_byte is.before (version ++ is.closing) (all_weaker is_white is_atom_byte white_in is.before is.before_is)
    (all_joined is_atom_byte version is.closing (all_weaker is_version_byte is_atom_byte version_in version is.version_is.bytes)
    (closing_bytes is.closing is.closing_is)))

inside_bytes : (text : List ℕ) (restriction : Restriction) → IsInside text restriction → AreAtomBytes text
inside_bytes text restriction is = same_bytes text _ is.text_is
    (all_joined is_atom_byte is.operator is.rest
    (all_weaker is_operator_byte is_atom_byte operator_in is.operator (op_bytes is.operator restriction.op is.op_is))
    (behind_operator_bytes is.rest restriction.version is.rest_is))

opened_bytes : (text : List ℕ) (restriction : Option Restriction) → IsAnyOpened text restriction → AreAtomBytes text
opened_bytes text None is = same_bytes text [] is refl
opened_bytes text (Some restriction) is = same_bytes text _ is.text_is
    (all_joined is_atom_byte is.before is.inside (all_weaker is_white is_atom_byte white_in is.before is.before_is)
    (inside_bytes is.inside restriction is.inside_is))

tail_bytes : (text : List ℕ) (restriction : Option Restriction) → IsTail text restriction → AreAtomBytes text
tail_bytes text restriction is = same_bytes text _ is.text_is
    (all_joined is_atom_byte is.before is.opened (all_weaker is_white is_atom_byte white_in is.before is.before_is)
    (opened_bytes is.opened restriction is.opened_is))

colon_bytes : (qualifier : Option (List ℕ)) → IfSome qualifier IsQualifier → AreAtomBytes (behind_colon qualifier)
colon_bytes None is = refl
colon_bytes (Some qualifier) is = all_weaker is_qualifier_byte is_atom_byte qualifier_in qualifier (qualifier_bytes qualifier is)

behind_name_bytes : (text : List ℕ) (qualifier : Option (List ℕ)) (restriction : Option Restriction) → IsBehindName text qualifier restriction → AreAtomBytes text
behind_name_bytes text qualifier restriction is = same_bytes text _ is.text_is
    (all_joined is_atom_byte (behind_colon qualifier) is.tail (colon_bytes qualifier is.qualifier_is) (tail_bytes is.tail restriction is.tail_is))

pub atom_bytes : (text name : List ℕ) (qualifier : Option (List ℕ)) (restriction : Option Restriction) → IsAtomText text name qualifier restriction
    → list_all is_atom_byte text ≡ true
atom_bytes text name qualifier restriction is = same_bytes text _ is.text_is
    (all_joined is_atom_byte is.before (name ++ is.rest) (all_weaker is_white is_atom_byte white_in is.before is.before_is)
    (all_joined is_atom_byte name is.rest (all_weaker is_name_byte is_atom_byte name_in name (name_bytes name is.name_is))
    (behind_name_bytes is.rest qualifier restriction is.rest_is)))
