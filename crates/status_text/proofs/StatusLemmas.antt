-- The field Status of a record can be written: its words have no newline, and no white space at the ends.
use Rattle.std.proofs.Common.{◌≡◌, ℕ, true, false, not, List, [], ◌∷◌, ◌++◌, refl, sym, ap, ◌∙◌, append_assoc, eqb, codes, Option}
use Rattle.std.proofs.lemmas.Bool.{and_parts, not-true}
use Rattle.std.specs.List.{list_all, AllByRecursion}
use Rattle.rules.specs.FileRecord.{written_config_version}
use Rattle.rules.specs.Stanza.{want_word, flag_word, state_word, status_field, config_fields}
use Rattle.rules.specs.declared.status.Flag.{Flag}
use Rattle.rules.specs.declared.status.Flag.TheVariants as flags
use Rattle.rules.specs.declared.status.State.{State}
use Rattle.rules.specs.declared.status.State.TheVariants.{NotInstalled, ConfigFiles, HalfInstalled, Unpacked, HalfConfigured, TriggersAwaited, TriggersPending, Installed}
use Rattle.rules.specs.declared.status.Want.{Want}
use Rattle.rules.specs.declared.status.Want.TheVariants.{Unknown, Install, Hold, Deinstall, Purge}
use Rattle.stanza.specs.declared.lines.TheConstants.{NEWLINE}
use Rattle.stanza.specs.Line.{is_white}
use Rattle.stanza.specs.Field.{is_name, trim_front, trim_end}
use Rattle.status_text.specs.Writable.{is_more, IsWritable}
use Rattle.status_text.proofs.LineLemmas.{IsPlain, behind_first-plain}
use Rattle.status_text.proofs.TrimLemmas.{trim_end-dark}
use Rattle.status_text.proofs.DistinctFieldLemmas.{all-append}

-- ---- a value of one line

-- the byte is no newline
abbrev IsNoNewline : ℕ → Type 0
IsNoNewline b = eqb b 10 ≡ false

-- bytes without a newline, of which the first and the last are not white, are a value
pub one_line : (name value : List ℕ) → is_name name ≡ true → IsPlain value → trim_front value ≡ value → trim_end value ≡ value → IsWritable (record { name = name; value = value })
one_line name value named plain front end = record {
  name = named;
  trimmed = ap trim_end front ∙ end;
  lines = ap (list_all is_more) (behind_first-plain value (NEWLINE ∷ []) plain);
}

-- ---- the words of a status

plain-if : (bytes : List ℕ) → list_all (λ b. not (eqb b 10)) bytes ≡ true → IsPlain bytes
plain-if [] all = tt
plain-if (b ∷ bs) all =
    let both = and_parts (not (eqb b 10)) (list_all (λ c. not (eqb c 10)) bs) all in
    (not-true (eqb b 10) both.0, plain-if bs both.1)

want-plain : (want : Want) → list_all (λ b. not (eqb b 10)) (want_word want) ≡ true
want-plain Unknown = refl
want-plain Install = refl
want-plain Hold = refl
want-plain Deinstall = refl
want-plain Purge = refl

flag-plain : (flag : Flag) → list_all (λ b. not (eqb b 10)) (flag_word flag) ≡ true
flag-plain flags.Ok = refl
flag-plain flags.ReinstallRequired = refl

state-plain : (state : State) → list_all (λ b. not (eqb b 10)) (state_word state) ≡ true
state-plain NotInstalled = refl
state-plain ConfigFiles = refl
state-plain HalfInstalled = refl
state-plain Unpacked = refl
state-plain HalfConfigured = refl
state-plain TriggersAwaited = refl
state-plain TriggersPending = refl
state-plain Installed = refl

want-front : (want : Want) (rest : List ℕ) → trim_front (want_word want ++ rest) ≡ want_word want ++ rest
want-front Unknown rest = refl
want-front Install rest = refl
want-front Hold rest = refl
want-front Deinstall rest = refl
want-front Purge rest = refl

word-end : (front word : List ℕ) (b : ℕ) → is_white b ≡ false → trim_end (front ++ (word ++ b ∷ [])) ≡ front ++ (word ++ b ∷ [])
word-end front word b dark =
    let joined = append_assoc front word (b ∷ []) in
    ap trim_end (sym joined) ∙ trim_end-dark (front ++ word) b dark ∙ joined

state-end : (front : List ℕ) (state : State) → trim_end (front ++ state_word state) ≡ front ++ state_word state
state-end front NotInstalled = word-end front (codes "not-installe") 100 refl
state-end front ConfigFiles = word-end front (codes "config-file") 115 refl
state-end front HalfInstalled = word-end front (codes "half-installe") 100 refl
state-end front Unpacked = word-end front (codes "unpacke") 100 refl
state-end front HalfConfigured = word-end front (codes "half-configure") 100 refl
state-end front TriggersAwaited = word-end front (codes "triggers-awaite") 100 refl
state-end front TriggersPending = word-end front (codes "triggers-pendin") 103 refl
state-end front Installed = word-end front (codes "installe") 100 refl

pub status-writable : (want : Want) (flag : Flag) (state : State) → IsWritable (status_field want flag state)
status-writable want flag state =
    let first = want_word want in
    let front = ((first ++ codes " ") ++ flag_word flag) ++ codes " " in
    let value = front ++ state_word state in
    let plain : IsPlain value =
    all-append IsNoNewline front (state_word state)
    (all-append IsNoNewline ((first ++ codes " ") ++ flag_word flag) (codes " ")
    (all-append IsNoNewline (first ++ codes " ") (flag_word flag) (all-append IsNoNewline first (codes " ") (plain-if first (want-plain want)) (refl, tt)) (plain-if (flag_word flag) (flag-plain flag))) (refl, tt))
    (plain-if (state_word state) (state-plain state)) in
    let joined : value ≡ first ++ (codes " " ++ (flag_word flag ++ (codes " " ++ state_word state))) =
    append_assoc ((first ++ codes " ") ++ flag_word flag) (codes " ") (state_word state)
    ∙ append_assoc (first ++ codes " ") (flag_word flag) (codes " " ++ state_word state)
    ∙ append_assoc first (codes " ") (flag_word flag ++ (codes " " ++ state_word state)) in
    one_line (codes "Status") value refl plain
    (ap trim_front joined ∙ want-front want (codes " " ++ (flag_word flag ++ (codes " " ++ state_word state))) ∙ sym joined)
    (state-end front state)

-- the config version that a stanza says can be written where the record's can
pub config-writable : (state : State) (version : Option (List ℕ)) → AllByRecursion IsWritable (config_fields version) → AllByRecursion IsWritable (config_fields (written_config_version state version))
config-writable NotInstalled version can = tt
config-writable ConfigFiles version can = can
config-writable HalfInstalled version can = can
config-writable Unpacked version can = can
config-writable HalfConfigured version can = can
config-writable TriggersAwaited version can = tt
config-writable TriggersPending version can = tt
config-writable Installed version can = tt
