-- No word of a step has a space or a newline in it.
use Rattle.std.proofs.Common.{◌≡◌, ℕ, Bool, true, false, Option, Some, None, List, [], ◌∷◌, refl, sym, ap, subst, ◌∙◌, eqb, inl, inr}
use Rattle.std.proofs.lemmas.Bool.{and_parts, cases_Bool, eqb-true, false≢true}
use Rattle.std.proofs.lemmas.List.Elements.{All-append, All-cons, All-nil}
use Rattle.std.proofs.lemmas.List.Sums.{list_all-from_AllPass}
use Rattle.std.specs.Char.{is_ascii_alphanumeric, is_ascii_digit}
use Rattle.std.specs.List.{All, AllByRecursion, join_with_byte, list_all}
use Rattle.std.specs.Option.{is_none}
use Rattle.std.specs.Prelude.{IfSome, codes, not, length}
use Rattle.rules.specs.declared.step.Step.{Step}
use Rattle.rules.specs.declared.step.Step.TheVariants.{Unpack, Deconfigure, Configure, Remove, Purge}
use Rattle.rules.specs.Name.{is_name, is_name_byte}
use Rattle.rules.specs.VersionFault.{first_fault, is_revision_byte, is_upstream_byte}
use Rattle.debversion.specs.Spelling.{IsEpoch, IsRevision, IsSpelled, IsUpstream, before_hyphen, behind_epoch}
use Rattle.debversion.proofs.SpellingLemmas.{faultless_is_spelled}
use Rattle.plantext.specs.Group.{are_ascending_names}
use Rattle.plantext.specs.StepLine.{is_spelled, words_of}
use Rattle.plantext.proofs.GroupLemmas.{ascending_name, ascending_rest}

-- the byte is in no name and in no version
pub record IsOutside (byte : ℕ) : Type 0 where
  pub letter : is_ascii_alphanumeric byte ≡ false
  pub digit : is_ascii_digit byte ≡ false
  pub name : is_name_byte byte ≡ false
  pub upstream : is_upstream_byte byte ≡ false
  pub revision : is_revision_byte byte ≡ false
  pub colon : eqb 58 byte ≡ false
  pub hyphen : eqb 45 byte ≡ false

pub space_outside : IsOutside 32
space_outside = record { letter = refl; digit = refl; name = refl; upstream = refl; revision = refl; colon = refl; hyphen = refl }

pub newline_outside : IsOutside 10
newline_outside = record { letter = refl; digit = refl; name = refl; upstream = refl; revision = refl; colon = refl; hyphen = refl }

-- the text has not the byte
abbrev pub IsFree : ℕ → List ℕ → Type 0
IsFree byte text = All (λ b. eqb b byte ≡ false) text

-- what fails for a byte passes for another alone
other_byte : (test : ℕ → Bool) (byte b : ℕ) → test byte ≡ false → test b ≡ true → eqb b byte ≡ false
other_byte test byte b fails passes = elim (cases_Bool (eqb b byte)) [
  | inl h ↦ absurd (false≢true (sym fails ∙ sym (ap test (eqb-true b byte h)) ∙ passes))
  | inr h ↦ h
]

-- bytes that pass a test are free of one that fails it
pub passing_free : (test : ℕ → Bool) (byte : ℕ) (text : List ℕ) → test byte ≡ false → list_all test text ≡ true → IsFree byte text
passing_free test byte [] fails all = All-nil (λ b. eqb b byte ≡ false)
passing_free test byte (b ∷ bs) fails all =
    let both = and_parts (test b) (list_all test bs) all in
    All-cons (λ x. eqb x byte ≡ false) b bs (other_byte test byte b fails both.0) (passing_free test byte bs fails both.1)

pub name_free : (byte : ℕ) (name : List ℕ) → IsOutside byte → is_name name ≡ true → IsFree byte name
name_free byte [] outside h = absurd (false≢true h)
name_free byte (b ∷ bs) outside h =
    let both = and_parts (is_ascii_alphanumeric b) (list_all is_name_byte bs) h in
    All-cons (λ x. eqb x byte ≡ false) b bs (other_byte is_ascii_alphanumeric byte b outside.letter both.0)
    (passing_free is_name_byte byte bs outside.name both.1)

-- Versions

upstream_free : (byte : ℕ) (upstream : List ℕ) → IsOutside byte → IsUpstream upstream → IsFree byte upstream
upstream_free byte upstream outside is =
    passing_free is_upstream_byte byte upstream outside.upstream (list_all-from_AllPass is_upstream_byte upstream is.allowed)

hyphen_free : (byte : ℕ) (upstream : List ℕ) (revision : Option (List ℕ)) → IsOutside byte → IsUpstream upstream → IfSome revision IsRevision
    → IsFree byte (before_hyphen upstream revision)
hyphen_free byte upstream None outside is has = upstream_free byte upstream outside is
hyphen_free byte upstream (Some revision) outside is has =
    All-append (λ b. eqb b byte ≡ false) upstream (45 ∷ revision) (upstream_free byte upstream outside is)
    (All-cons (λ b. eqb b byte ≡ false) 45 revision outside.hyphen
    (passing_free is_revision_byte byte revision outside.revision (list_all-from_AllPass is_revision_byte revision has.allowed)))

epoch_free : (byte : ℕ) (epoch : Option (List ℕ)) (rest : List ℕ) → IsOutside byte → IfSome epoch IsEpoch → IsFree byte rest
    → IsFree byte (behind_epoch epoch rest)
epoch_free byte None rest outside has free = free
epoch_free byte (Some epoch) rest outside has free =
    All-append (λ b. eqb b byte ≡ false) epoch (58 ∷ rest)
    (passing_free is_ascii_digit byte epoch outside.digit (list_all-from_AllPass is_ascii_digit epoch has.digits))
    (All-cons (λ b. eqb b byte ≡ false) 58 rest outside.colon free)

spelled_free : (byte : ℕ) (version : List ℕ) → IsOutside byte → IsSpelled version → IsFree byte version
spelled_free byte version outside is =
    subst (IsFree byte) (sym is.text_is)
    (epoch_free byte is.epoch (before_hyphen is.upstream is.revision) outside is.epoch_is
    (hyphen_free byte is.upstream is.revision outside is.upstream_is is.revision_is))

none_from : {A : Type 0} (value : Option A) → is_none value ≡ true → value ≡ None
none_from None h = refl
none_from (Some x) h = cc

version_free : (byte : ℕ) (version : List ℕ) → IsOutside byte → is_none (first_fault version) ≡ true → IsFree byte version
version_free byte version outside h =
    spelled_free byte version outside ((faultless_is_spelled version).0 (none_from (first_fault version) h))

-- Words

-- each word has not the byte
abbrev pub AreFree : ℕ → List (List ℕ) → Type 0
AreFree byte words = AllByRecursion (IsFree byte) words

names_free : (byte : ℕ) (names : List (List ℕ)) → IsOutside byte → are_ascending_names names ≡ true → AreFree byte names
names_free byte [] outside h = tt
names_free byte (name ∷ later) outside h =
    (name_free byte name outside (ascending_name name later h), names_free byte later outside (ascending_rest name later h))

pub letters_free : (byte : ℕ) (word : List ℕ) → IsOutside byte → list_all is_ascii_alphanumeric word ≡ true → IsFree byte word
letters_free byte word outside h = passing_free is_ascii_alphanumeric byte word outside.letter h

pub words_free : (byte : ℕ) (step : Step) → IsOutside byte → is_spelled step ≡ true → AreFree byte (words_of step)
words_free byte (Unpack name version) outside h =
    let both = and_parts (is_name name) (is_none (first_fault version)) h in
    (letters_free byte (codes "unpack") outside refl, (name_free byte name outside both.0, (version_free byte version outside both.1, tt)))
words_free byte (Deconfigure name) outside h = (letters_free byte (codes "deconfigure") outside refl, (name_free byte name outside h, tt))
words_free byte (Configure names) outside h =
    let both = and_parts (not (eqb (length names) 0)) (are_ascending_names names) h in
    (letters_free byte (codes "configure") outside refl, names_free byte names outside both.1)
words_free byte (Remove name) outside h = (letters_free byte (codes "remove") outside refl, (name_free byte name outside h, tt))
words_free byte (Purge name) outside h = (letters_free byte (codes "purge") outside refl, (name_free byte name outside h, tt))

-- words that have not the byte, joined by another, have it not
pub joined_free : (byte separator : ℕ) (words : List (List ℕ)) → eqb separator byte ≡ false → AreFree byte words
    → IsFree byte (join_with_byte separator words)
joined_free byte separator [] other free = All-nil (λ b. eqb b byte ≡ false)
joined_free byte separator (word ∷ []) other free = free.0
joined_free byte separator (word ∷ next ∷ later) other free =
    All-append (λ b. eqb b byte ≡ false) word (separator ∷ join_with_byte separator (next ∷ later)) free.0
    (All-cons (λ b. eqb b byte ≡ false) separator (join_with_byte separator (next ∷ later)) other
    (joined_free byte separator (next ∷ later) other free.1))
