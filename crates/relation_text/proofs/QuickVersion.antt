-- A version that the quick reading goes over is spelled as one.
use Rattle.std.proofs.Common.{◌≡◌, ℕ, ◌<◌, Bool, true, false, ◌||◌, ◌==◌, ◌≤◌, Option, Some, None, List, [], ◌∷◌, ◌++◌, length, refl, sym, ap, ◌∙◌, arith, inl, inr, subst, IfSome, IfNone}
use Rattle.std.proofs.lemmas.Bool.{and_from, and_parts, both_ways, cases_Bool, eqb-true, false≢true, or_from, or_left, or_parts, or_right}
use Rattle.std.proofs.lemmas.Bool.Decides.{nat_tests}
use Rattle.std.proofs.lemmas.List.Sums.{AllPass-from_list_all}
use Rattle.std.proofs.lemmas.Str.{digit_value_digit}
use Rattle.std.specs.Char.{digit_value, is_ascii_alphanumeric, is_ascii_digit}
use Rattle.std.specs.Int.{IsInRange}
use Rattle.std.specs.List.{list_all, list_any}
use Rattle.std.specs.Str.Parse.{digits_value}
use Rattle.rules.specs.Version.{is_colon, is_hyphen, is_tilde}
use Rattle.rules.specs.VersionFault.{greatest_epoch, is_revision_byte, is_upstream_byte}
use Rattle.debversion.specs.Spelling.{IsEpoch, IsRevision, IsSpelled, IsUpstream, before_hyphen}
use Rattle.relation_text.specs.Bytes.{is_closing, is_version_byte, is_white}
use Rattle.relation_text.specs.Quick.{QuickEnds, quick_next, upstream_begins, version_begins, version_goes_on}
use Rattle.relation_text.specs.declared.quick.QuickState.{QuickState}
use Rattle.relation_text.specs.declared.quick.QuickState.TheVariants.{At, OneDigit, BehindEpoch, BehindHyphen}
use Rattle.relation_text.specs.declared.shape.RelationForm.{RelationForm}
use Rattle.relation_text.specs.declared.shape.ShapePlace.TheVariants.{InVersion, Dead}
use Rattle.relation_text.proofs.QuickShape.{dead_end}
use Rattle.relation_text.proofs.Runs.{Stops}

-- The bytes of a version

no_revision_byte : (b : ℕ) → is_revision_byte b ≡ false → is_hyphen b ≡ false → is_colon b ≡ false → is_version_byte b ≡ false
no_revision_byte b other no_hyphen no_colon =
    let letter = or_parts (is_ascii_alphanumeric b) _ other in
    let plus = or_parts (b == 43) _ letter.1 in
    let dot = or_parts (b == 46) (is_tilde b) plus.1 in
    let no_letter = letter.0 in
    let no_plus = plus.0 in
    let no_dot = dot.0 in
    let no_tilde = dot.1 in
    rw (no_letter, no_dot, no_plus, no_hyphen, no_colon, no_tilde) refl

-- a byte of a version that is neither a hyphen nor a colon is one of a revision
plain_byte : (b : ℕ) → is_version_byte b ≡ true → is_hyphen b ≡ false → is_colon b ≡ false → is_revision_byte b ≡ true
plain_byte b version no_hyphen no_colon = elim (cases_Bool (is_revision_byte b)) [
  | inl plain ↦ plain
  | inr other ↦ absurd (both_ways (is_version_byte b) (no_revision_byte b other no_hyphen no_colon) version)
]

-- a byte of an upstream version other than a colon
abbrev is_plain_or_hyphen : ℕ → Bool
is_plain_or_hyphen b = is_revision_byte b || is_hyphen b

upstream_byte : (b : ℕ) → is_plain_or_hyphen b ≡ true → is_upstream_byte b ≡ true
upstream_byte b h = elim (cases_Bool (is_revision_byte b)) [
  | inl plain ↦ or_left (is_revision_byte b) _ plain
  | inr other ↦ or_right (is_revision_byte b) _ (or_left (is_hyphen b) _ (rw other at h))
]

upstream_bytes : (bytes : List ℕ) → list_all is_plain_or_hyphen bytes ≡ true → list_all is_upstream_byte bytes ≡ true
upstream_bytes [] all = refl
upstream_bytes (b ∷ bytes) all =
    let both = and_parts (is_plain_or_hyphen b) (list_all is_plain_or_hyphen bytes) all in
    and_from _ _ (upstream_byte b both.0) (upstream_bytes bytes both.1)

revision_bytes : (bytes : List ℕ) → list_all is_plain_or_hyphen bytes ≡ true → list_any is_hyphen bytes ≡ false → list_all is_revision_byte bytes ≡ true
revision_bytes [] all none = refl
revision_bytes (b ∷ bytes) all none =
    let both = and_parts (is_plain_or_hyphen b) (list_all is_plain_or_hyphen bytes) all in
    let free = or_parts (is_hyphen b) (list_any is_hyphen bytes) none in
    let plain : is_revision_byte b ≡ true = elim (cases_Bool (is_revision_byte b)) [
      | inl plain ↦ plain
      | inr other ↦ absurd (both_ways (is_hyphen b) free.0 (rw other at both.0))
    ] in
    and_from _ _ plain (revision_bytes bytes both.1 free.1)

no_colon_byte : (b : ℕ) → is_plain_or_hyphen b ≡ true → is_colon b ≡ false
no_colon_byte b h = elim (cases_Bool (is_colon b)) [
  | inl colon ↦ absurd (both_ways (is_plain_or_hyphen b) (ap is_plain_or_hyphen (eqb-true b 58 colon)) h)
  | inr other ↦ other
]

no_colon_bytes : (bytes : List ℕ) → list_all is_plain_or_hyphen bytes ≡ true → list_any is_colon bytes ≡ false
no_colon_bytes [] all = refl
no_colon_bytes (b ∷ bytes) all =
    let both = and_parts (is_plain_or_hyphen b) (list_all is_plain_or_hyphen bytes) all in
    or_from _ _ (no_colon_byte b both.0) (no_colon_bytes bytes both.1)

-- What a version goes on with

-- the end of a version without a colon: more of its upstream version, and a hyphen and its revision, if there is one
record IsVersionRest (text : List ℕ) : Type 0 where
  more : List ℕ
  revision : Option (List ℕ)
  text_is : text ≡ before_hyphen more revision
  bytes : list_all is_plain_or_hyphen more ≡ true
  revision_is : IfSome revision IsRevision
  no_hyphen : IfNone revision (list_any is_hyphen more ≡ false)

nothing_more : IsVersionRest []
nothing_more = record { more = []; revision = None; text_is = refl; bytes = refl; revision_is = tt; no_hyphen = refl }

in_front : (b : ℕ) (more : List ℕ) (revision : Option (List ℕ)) → b ∷ before_hyphen more revision ≡ before_hyphen (b ∷ more) revision
in_front b more None = refl
in_front b more (Some revision) = refl

free_in_front : (b : ℕ) (more : List ℕ) (revision : Option (List ℕ)) → is_hyphen b ≡ false → IfNone revision (list_any is_hyphen more ≡ false)
    → IfNone revision (list_any is_hyphen (b ∷ more) ≡ false)
free_in_front b more None other free = or_from _ _ other free
free_in_front b more (Some revision) other free = tt

plain_more : (b : ℕ) (text : List ℕ) → is_revision_byte b ≡ true → is_hyphen b ≡ false → IsVersionRest text → IsVersionRest (b ∷ text)
plain_more b text plain no_hyphen rest = record {
  more = b ∷ rest.more;
  revision = rest.revision;
  text_is = ap (λ (bytes : List ℕ). b ∷ bytes) rest.text_is ∙ in_front b rest.more rest.revision;
  bytes = and_from _ _ (or_left (is_revision_byte b) _ plain) rest.bytes;
  revision_is = rest.revision_is;
  no_hyphen = free_in_front b rest.more rest.revision no_hyphen rest.no_hyphen;
}

hyphen_more : (text more : List ℕ) (revision : Option (List ℕ)) → 0 < length text → text ≡ before_hyphen more revision → list_all is_plain_or_hyphen more ≡ true
    → IfSome revision IsRevision → IfNone revision (list_any is_hyphen more ≡ false) → IsVersionRest (45 ∷ text)
hyphen_more text more None written text_is all is free = record {
  more = [];
  revision = Some text;
  text_is = refl;
  bytes = refl;
  revision_is = record {
    written = written;
    allowed = AllPass-from_list_all is_revision_byte text (ap (list_all is_revision_byte) text_is ∙ revision_bytes more all free);
  };
  no_hyphen = tt;
}
hyphen_more text more (Some revision) written text_is all is free = record {
  more = 45 ∷ more;
  revision = Some revision;
  text_is = ap (λ (bytes : List ℕ). 45 ∷ bytes) text_is;
  bytes = all;
  revision_is = is;
  no_hyphen = tt;
}

-- a byte of a version goes on with it, from each state in it but the one behind an epoch
goes_on : (form : RelationForm) (b : ℕ) → is_version_byte b ≡ true → quick_next form (At InVersion) b ≡ version_goes_on b
goes_on form b version = rw version refl

goes_on_behind_hyphen : (form : RelationForm) (b : ℕ) → is_version_byte b ≡ true → quick_next form BehindHyphen b ≡ version_goes_on b
goes_on_behind_hyphen form b version = rw version refl

from_epoch : (form : RelationForm) (b : ℕ) → is_version_byte b ≡ true → quick_next form BehindEpoch b ≡ upstream_begins b
from_epoch form b version = rw version refl

-- a version ends neither with a hyphen nor with its epoch
not_behind_hyphen : (form : RelationForm) (closing : List ℕ) → Stops is_version_byte closing → QuickEnds form BehindHyphen closing → ⊥
not_behind_hyphen form [] stops e = false≢true e
not_behind_hyphen form (b ∷ closing) stops e = dead_end form (quick_next form BehindHyphen b) closing (elim (cases_Bool (is_white b)) [
  | inl white ↦ rw (stops, white) refl
  | inr other ↦ elim (cases_Bool (is_closing b)) [
    | inl closes ↦ rw (stops, other, closes) refl
    | inr neither ↦ rw (stops, other, neither) refl
  ]
]) e

not_behind_epoch : (form : RelationForm) (closing : List ℕ) → Stops is_version_byte closing → QuickEnds form BehindEpoch closing → ⊥
not_behind_epoch form [] stops e = false≢true e
not_behind_epoch form (b ∷ closing) stops e = dead_end form (quick_next form BehindEpoch b) closing (elim (cases_Bool (is_white b)) [
  | inl white ↦ rw (stops, white) refl
  | inr other ↦ elim (cases_Bool (is_closing b)) [
    | inl closes ↦ rw (stops, other, closes) refl
    | inr neither ↦ rw (stops, other, neither) refl
  ]
]) e

over : (form : RelationForm) (state other : QuickState) (bytes : List ℕ) → state ≡ other → QuickEnds form state bytes → QuickEnds form other bytes
over form state other bytes same e = subst (λ (s : QuickState). QuickEnds form s bytes) same e

-- what follows a hyphen: some byte, as elsewhere in a version
record FollowsHyphen (form : RelationForm) (text closing : List ℕ) : Type 0 where
  written : 0 < length text
  ends : QuickEnds form (At InVersion) (text ++ closing)

follows_hyphen : (form : RelationForm) (text closing : List ℕ) → list_all is_version_byte text ≡ true → Stops is_version_byte closing
    → QuickEnds form BehindHyphen (text ++ closing) → FollowsHyphen form text closing
follows_hyphen form [] closing all stops e = absurd (not_behind_hyphen form closing stops e)
follows_hyphen form (b ∷ text) closing all stops e =
    let version = (and_parts (is_version_byte b) (list_all is_version_byte text) all).0 in
    record {
      written = omega arith;
      ends = over form (quick_next form BehindHyphen b) (quick_next form (At InVersion) b) (text ++ closing)
          (goes_on_behind_hyphen form b version ∙ sym (goes_on form b version)) e;
    }

rest_behind_hyphen : (text : List ℕ) → 0 < length text → IsVersionRest text → IsVersionRest (45 ∷ text)
rest_behind_hyphen text written rest = hyphen_more text rest.more rest.revision written rest.text_is rest.bytes rest.revision_is rest.no_hyphen

version_rest : (form : RelationForm) (text closing : List ℕ) → list_all is_version_byte text ≡ true → Stops is_version_byte closing
    → QuickEnds form (At InVersion) (text ++ closing) → IsVersionRest text
version_rest form [] closing all stops e = nothing_more
version_rest form (b ∷ text) closing all stops e =
    let both = and_parts (is_version_byte b) (list_all is_version_byte text) all in
    let on = over form (quick_next form (At InVersion) b) (version_goes_on b) (text ++ closing) (goes_on form b both.0) e in
    elim (cases_Bool (is_hyphen b)) [
      | inl hyphen ↦
          let follows = follows_hyphen form text closing both.1 stops (rw hyphen at on) in
          subst (λ (c : ℕ). IsVersionRest (c ∷ text)) (sym (eqb-true b 45 hyphen))
          (rest_behind_hyphen text follows.written (version_rest form text closing both.1 stops follows.ends))
      | inr no_hyphen ↦ elim (cases_Bool (is_colon b)) [
        | inl colon ↦ absurd (dead_end form (At Dead) (text ++ closing) refl (rw (no_hyphen, colon) at on))
        | inr no_colon ↦ plain_more b text (plain_byte b both.0 no_hyphen no_colon) no_hyphen
            (version_rest form text closing both.1 stops (rw (no_hyphen, no_colon) at on))
      ]
    ]

-- The whole version

first_free : (b : ℕ) (more : List ℕ) → is_colon b ≡ false → list_all is_plain_or_hyphen more ≡ true → list_any is_colon (b ∷ more) ≡ false
first_free b more other all = or_from _ _ other (no_colon_bytes more all)

upstream_of : (b : ℕ) (more : List ℕ) → is_revision_byte b ≡ true → list_all is_plain_or_hyphen more ≡ true → IsUpstream (b ∷ more)
upstream_of b more plain all = record {
  written = omega arith;
  allowed = AllPass-from_list_all is_upstream_byte (b ∷ more) (and_from _ _ (or_left (is_revision_byte b) _ plain) (upstream_bytes more all));
}

-- a version without an epoch
without_epoch : (b : ℕ) (text : List ℕ) → is_revision_byte b ≡ true → is_hyphen b ≡ false → is_colon b ≡ false → IsVersionRest text → IsSpelled (b ∷ text)
without_epoch b text plain no_hyphen no_colon rest = record {
  epoch = None;
  upstream = b ∷ rest.more;
  revision = rest.revision;
  text_is = ap (λ (bytes : List ℕ). b ∷ bytes) rest.text_is ∙ in_front b rest.more rest.revision;
  epoch_is = tt;
  upstream_is = upstream_of b rest.more plain rest.bytes;
  revision_is = rest.revision_is;
  no_colon = first_free b rest.more no_colon rest.bytes;
  no_hyphen = free_in_front b rest.more rest.revision no_hyphen rest.no_hyphen;
}

-- a digit is at most nine
digit_low : (b : ℕ) → is_ascii_digit b ≡ true → digit_value b < 10
digit_low b digit =
    let bounds : IsInRange 48 57 b = grind (arith, nat_tests) in
    let value = digit_value_digit b bounds in
    grind (arith, nat_tests)

small_epoch : (b : ℕ) → is_ascii_digit b ≡ true → digits_value 10 (b ∷ []) ≤ greatest_epoch
small_epoch b digit = let low = digit_low b digit in omega arith

epoch_of_digit : (b : ℕ) → is_ascii_digit b ≡ true → IsEpoch (b ∷ [])
epoch_of_digit b digit = record {
  written = omega arith;
  digits = AllPass-from_list_all is_ascii_digit (b ∷ []) (and_from _ _ digit refl);
  small = small_epoch b digit;
}

-- a version with an epoch of one digit
with_epoch : (e b : ℕ) (text : List ℕ) → is_ascii_digit e ≡ true → is_revision_byte b ≡ true → is_hyphen b ≡ false → IsVersionRest text → IsSpelled (e ∷ 58 ∷ b ∷ text)
with_epoch e b text digit plain no_hyphen rest = record {
  epoch = Some (e ∷ []);
  upstream = b ∷ rest.more;
  revision = rest.revision;
  text_is = ap (λ (bytes : List ℕ). e ∷ 58 ∷ b ∷ bytes) rest.text_is ∙ ap (λ (bytes : List ℕ). e ∷ 58 ∷ bytes) (in_front b rest.more rest.revision);
  epoch_is = epoch_of_digit e digit;
  upstream_is = upstream_of b rest.more plain rest.bytes;
  revision_is = rest.revision_is;
  no_colon = tt;
  no_hyphen = free_in_front b rest.more rest.revision no_hyphen rest.no_hyphen;
}

-- an upstream version begins with this byte
record Begins (form : RelationForm) (b : ℕ) (text closing : List ℕ) : Type 0 where
  plain : is_revision_byte b ≡ true
  no_hyphen : is_hyphen b ≡ false
  no_colon : is_colon b ≡ false
  rest : IsVersionRest text

upstream_first : (form : RelationForm) (b : ℕ) (text closing : List ℕ) → is_version_byte b ≡ true → list_all is_version_byte text ≡ true → Stops is_version_byte closing
    → QuickEnds form (upstream_begins b) (text ++ closing) → Begins form b text closing
upstream_first form b text closing version all stops e = elim (cases_Bool (is_colon b || is_hyphen b)) [
  | inl other ↦ absurd (dead_end form (At Dead) (text ++ closing) refl (rw other at e))
  | inr neither ↦
      let both = or_parts (is_colon b) (is_hyphen b) neither in
      record {
        plain = plain_byte b version both.1 both.0;
        no_hyphen = both.1;
        no_colon = both.0;
        rest = version_rest form text closing all stops (rw neither at e);
      }
]

behind_epoch_spelled : (form : RelationForm) (d : ℕ) (text closing : List ℕ) → is_ascii_digit d ≡ true → list_all is_version_byte text ≡ true → Stops is_version_byte closing
    → QuickEnds form BehindEpoch (text ++ closing) → IsSpelled (d ∷ 58 ∷ text)
behind_epoch_spelled form d [] closing digit all stops e = absurd (not_behind_epoch form closing stops e)
behind_epoch_spelled form d (b ∷ text) closing digit all stops e =
    let both = and_parts (is_version_byte b) (list_all is_version_byte text) all in
    let begins = upstream_first form b text closing both.0 both.1 stops
    (over form (quick_next form BehindEpoch b) (upstream_begins b) (text ++ closing) (from_epoch form b both.0) e) in
    with_epoch d b text digit begins.plain begins.no_hyphen begins.rest

digit_plain : (d : ℕ) → is_ascii_digit d ≡ true → is_revision_byte d ≡ true
digit_plain d digit = rw digit refl

digit_other : (d c : ℕ) → is_ascii_digit c ≡ false → is_ascii_digit d ≡ true → (d == c) ≡ false
digit_other d c other digit = elim (cases_Bool (d == c)) [
  | inl same ↦ absurd (both_ways (is_ascii_digit c) other (ap is_ascii_digit (sym (eqb-true d c same)) ∙ digit))
  | inr differs ↦ differs
]

digit_first : (d : ℕ) (text : List ℕ) → is_ascii_digit d ≡ true → IsVersionRest text → IsSpelled (d ∷ text)
digit_first d text digit rest = without_epoch d text (digit_plain d digit) (digit_other d 45 refl digit) (digit_other d 58 refl digit) rest

-- behind the first digit of a version
digit_spelled : (form : RelationForm) (d : ℕ) (text closing : List ℕ) → is_ascii_digit d ≡ true → list_all is_version_byte text ≡ true → Stops is_version_byte closing
    → QuickEnds form OneDigit (text ++ closing) → IsSpelled (d ∷ text)
digit_spelled form d [] closing digit all stops e = digit_first d [] digit nothing_more
digit_spelled form d (b ∷ text) closing digit all stops e =
    let both = and_parts (is_version_byte b) (list_all is_version_byte text) all in
    let version = both.0 in
    elim (cases_Bool (is_colon b)) [
      | inl colon ↦
          subst (λ (c : ℕ). IsSpelled (d ∷ c ∷ text)) (sym (eqb-true b 58 colon))
          (behind_epoch_spelled form d text closing digit both.1 stops
          (over form (quick_next form OneDigit b) BehindEpoch (text ++ closing) (rw (version, colon) refl) e))
      | inr other ↦
          digit_first d (b ∷ text) digit (version_rest form (b ∷ text) closing all stops
          (over form (quick_next form OneDigit b) (quick_next form (At InVersion) b) (text ++ closing) (rw (version, other) refl) e))
    ]

-- a version that begins with this byte is spelled as one
pub begun_spelled : (form : RelationForm) (b : ℕ) (text closing : List ℕ) → is_version_byte b ≡ true → list_all is_version_byte text ≡ true → Stops is_version_byte closing
    → QuickEnds form (version_begins b) (text ++ closing) → IsSpelled (b ∷ text)
begun_spelled form b text closing version all stops e = elim (cases_Bool (is_ascii_digit b)) [
  | inl digit ↦ digit_spelled form b text closing digit all stops (rw digit at e)
  | inr other ↦
      let begins = upstream_first form b text closing version all stops (rw other at e) in
      without_epoch b text begins.plain begins.no_hyphen begins.no_colon begins.rest
]
