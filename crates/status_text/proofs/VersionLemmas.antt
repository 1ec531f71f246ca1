-- A version can be the value of a field: it has visible bytes alone.
use Rattle.std.proofs.Common.{◌≡◌, ℕ, Bool, true, false, ◌⊎◌, List, [], ◌∷◌, ◌++◌, refl, sym, ap, subst, ◌∙◌, append-nil, eqb, Option, None, Some, codes, inl, inr}
use Rattle.std.specs.Prelude.{IfSome}
use Rattle.std.proofs.lemmas.Bool.{false≢true, and_parts}
use Rattle.std.proofs.lemmas.List.Sums.{list_all-from_AllPass}
use Rattle.std.specs.Char.{is_ascii_digit}
use Rattle.std.specs.List.{list_all, AllByRecursion}
use Rattle.rules.specs.VersionFault.{first_fault, is_revision_byte, is_upstream_byte}
use Rattle.stanza.specs.Line.{is_white}
use Rattle.stanza.specs.Field.{trim_front, trim_end}
use Rattle.debversion.specs.Spelling.{IsEpoch, IsUpstream, IsRevision, behind_epoch, before_hyphen, IsSpelled}
use Rattle.debversion.proofs.SpellingLemmas.{faultless_is_spelled}
use Rattle.status_text.specs.Touched.{IsWritableVersion}
use Rattle.status_text.proofs.TrimLemmas.{trim_front-dark, cut_end}
use Rattle.status_text.proofs.NameLemmas.{other_byte}
use Rattle.status_text.proofs.DistinctFieldLemmas.{all_from, all-append}
use Rattle.status_text.proofs.StatusLemmas.{one_line}

-- the byte is neither a newline nor white
record IsVisible (b : ℕ) : Type 0 where
  plain : eqb b 10 ≡ false
  dark : is_white b ≡ false

abbrev AreVisible : List ℕ → Type 0
AreVisible bytes = AllByRecursion IsVisible bytes

-- bytes that pass a test which newline, space and tab fail
visible-passing : (test : ℕ → Bool) (bytes : List ℕ) → test 10 ≡ false → test 32 ≡ false → test 9 ≡ false → list_all test bytes ≡ true → AreVisible bytes
visible-passing test [] newline space tab all = tt
visible-passing test (b ∷ bs) newline space tab all =
    let both = and_parts (test b) (list_all test bs) all in (
      record {
        plain = other_byte test 10 b newline both.0;
        dark = rw (other_byte test 32 b space both.0, other_byte test 9 b tab both.0) refl;
      },
      visible-passing test bs newline space tab both.1,
    )

upstream-visible : (upstream : List ℕ) → IsUpstream upstream → AreVisible upstream
upstream-visible upstream is = visible-passing is_upstream_byte upstream refl refl refl (list_all-from_AllPass is_upstream_byte upstream is.allowed)

hyphen-visible : (upstream : List ℕ) (revision : Option (List ℕ)) → IsUpstream upstream → IfSome revision IsRevision → AreVisible (before_hyphen upstream revision)
hyphen-visible upstream None is has = upstream-visible upstream is
hyphen-visible upstream (Some revision) is has =
    all-append IsVisible upstream (45 ∷ revision) (upstream-visible upstream is)
    (record { plain = refl; dark = refl }, visible-passing is_revision_byte revision refl refl refl (list_all-from_AllPass is_revision_byte revision has.allowed))

epoch-visible : (epoch : Option (List ℕ)) (rest : List ℕ) → IfSome epoch IsEpoch → AreVisible rest → AreVisible (behind_epoch epoch rest)
epoch-visible None rest has all = all
epoch-visible (Some epoch) rest has all =
    all-append IsVisible epoch (58 ∷ rest) (visible-passing is_ascii_digit epoch refl refl refl (list_all-from_AllPass is_ascii_digit epoch has.digits))
    (record { plain = refl; dark = refl }, all)

version-visible : (version : List ℕ) → IsSpelled version → AreVisible version
version-visible version is =
    subst AreVisible (sym is.text_is) (epoch-visible is.epoch (before_hyphen is.upstream is.revision) is.epoch_is (hyphen-visible is.upstream is.revision is.upstream_is is.revision_is))

-- nothing is taken off visible bytes
visible-front : (bytes : List ℕ) → AreVisible bytes → trim_front bytes ≡ bytes
visible-front [] all = refl
visible-front (b ∷ bs) all = trim_front-dark b bs all.0.dark

last-visible : (front white : List ℕ) → AreVisible (front ++ white) → list_all is_white white ≡ true → white ≡ []
last-visible [] [] all white = refl
last-visible [] (b ∷ bs) all white = absurd (false≢true (sym all.0.dark ∙ (and_parts (is_white b) (list_all is_white bs) white).0))
last-visible (x ∷ front) white all is = last-visible front white all.1 is

visible-end : (bytes : List ℕ) → AreVisible bytes → trim_end bytes ≡ bytes
visible-end bytes all =
    let cut = cut_end bytes in
    let none : cut.0 ≡ [] = last-visible (trim_end bytes) cut.0 (subst AreVisible cut.2 all) cut.1 in
    sym (cut.2 ∙ ap (λ x. trim_end bytes ++ x) none ∙ append-nil (trim_end bytes))

version-clean : (version : List ℕ) → first_fault version ≡ None → IsWritableVersion version
version-clean version clean =
    let all = version-visible version ((faultless_is_spelled version).0 clean) in
    one_line (codes "Config-Version") version refl (all_from IsVisible (λ b. eqb b 10 ≡ false) (λ b is. is.plain) version all) (visible-front version all) (visible-end version all)

version-empty : IsWritableVersion []
version-empty = record { name = refl; trimmed = refl; lines = refl }

pub version-writable : (version : List ℕ) → (version ≡ []) ⊎ (first_fault version ≡ None) → IsWritableVersion version
version-writable version is = elim is [
  | inl empty ↦ subst IsWritableVersion (sym empty) version-empty
  | inr clean ↦ version-clean version clean
]
