-- A table of the names and the versions of stanzas.
use Rattle.std.proofs.Common.{◌≡◌, ℕ, ◌+◌, ◌<◌, Bool, true, false, cond, ◌&&◌, ◌||◌, List, [], ◌∷◌, ◌++◌, length, get_or, take, refl, sym, ap, ◌∙◌, bytes_eq, Bor, if◌then◌else◌}
use Rattle.std.specs.List.{flat_map, list_all, list_any}
use Rattle.std.proofs.lemmas.List.{append-nil, take_more}
use Rattle.std.proofs.lemmas.Grind.{flat_map-append}
use Rattle.std.proofs.lemmas.List.Folds.{list_any-append}
use Rattle.rules.specs.Available.{is_of, same_version}
use Rattle.rules.specs.Step.{IndexPackage}
use Rattle.index.specs.Index.{ReadIndex}
use Rattle.input_notes.specs.Indices.{adds_none, idle_index, index_line, is_in}
use Rattle.input_notes.specs.Inputs.{stanzas_of}
use Rattle.input_notes.specs.Keys.{AddsKeys, HasKeysOf, has_key_of}

abbrev Keys : Type 0
Keys = List (Bor (List ℕ) × List ℕ)

or_last : (added had : Bool) → cond added true had ≡ (had || (added || false))
or_last true true = refl
or_last true false = refl
or_last false true = refl
or_last false false = refl

or_assoc : (a b c : Bool) → ((a || b) || c) ≡ (a || (b || c))
or_assoc true b c = refl
or_assoc false b c = refl

-- stanzas are among some and others where they are among all of them
pub in_both : (earlier later : List IndexPackage) (wanted : IndexPackage) → is_in (earlier ++ later) wanted ≡ (is_in earlier wanted || is_in later wanted)
in_both earlier later wanted = list_any-append (λ (other : IndexPackage). is_of wanted.pkg.name wanted.pkg.version other.pkg) earlier later

-- a table gets one name with its version
pub key_put : (old new : Keys) (entry : IndexPackage) (name : Bor (List ℕ)) (version : List ℕ) → name.now ≡ entry.pkg.name → version ≡ entry.pkg.version
    → ((wanted : Bor (List ℕ) × List ℕ)
    → list_any (λ (key : Bor (List ℕ) × List ℕ). bytes_eq wanted.0.now key.0.now && same_version wanted.1 key.1) new
    ≡ cond (bytes_eq name.now wanted.0.now && same_version version wanted.1) true
    (list_any (λ (key : Bor (List ℕ) × List ℕ). bytes_eq wanted.0.now key.0.now && same_version wanted.1 key.1) old))
    → AddsKeys old new (entry ∷ [])
key_put old new entry name version named versioned updates wanted =
    updates (record { ref_ptr = name.ref_ptr; now = wanted.pkg.name }, wanted.pkg.version)
    ∙ ap (λ (n : List ℕ). cond (bytes_eq n wanted.pkg.name && same_version version wanted.pkg.version) true (has_key_of old wanted)) named
    ∙ ap (λ (v : List ℕ). cond (bytes_eq entry.pkg.name wanted.pkg.name && same_version v wanted.pkg.version) true (has_key_of old wanted)) versioned
    ∙ or_last _ _

or_false : (b : Bool) → b ≡ (b || false)
or_false true = refl
or_false false = refl

-- a table gets none at first
pub adds_nothing : (keys : Keys) → AddsKeys keys keys []
adds_nothing keys wanted = or_false _

-- and then one more
pub adds_next : (keys table after : Keys) (entries : List IndexPackage) (place : ℕ) (entry : IndexPackage) → place < length entries
    → entry ≡ get_or entries place entry → AddsKeys keys table (take place entries) → AddsKeys table after (entry ∷ [])
    → AddsKeys keys after (take (place + 1) entries)
adds_next keys table after entries place entry within is so_far put wanted =
    put wanted
    ∙ ap (λ b. b || is_in (entry ∷ []) wanted) (so_far wanted)
    ∙ or_assoc (has_key_of keys wanted) (is_in (take place entries) wanted) (is_in (entry ∷ []) wanted)
    ∙ ap (λ b. has_key_of keys wanted || b) (sym (in_both (take place entries) (entry ∷ []) wanted))
    ∙ ap (λ (here : IndexPackage). has_key_of keys wanted || is_in (take place entries ++ here ∷ []) wanted) is
    ∙ sym (ap (λ (listed : List IndexPackage). has_key_of keys wanted || is_in listed wanted) (take_more entries place entry within))

-- what stands in an index is behind what stands in those before it
stanzas_next : (indices : List ReadIndex) (place : ℕ) (read : ReadIndex) → place < length indices → read ≡ get_or indices place read
    → stanzas_of (take (place + 1) indices) ≡ stanzas_of (take place indices) ++ (read.index.listed ++ [])
stanzas_next indices place read within is =
    ap stanzas_of (take_more indices place read within)
    ∙ flat_map-append (λ (one : ReadIndex). one.index.listed) (take place indices) (get_or indices place read ∷ [])
    ∙ sym (ap (λ (here : ReadIndex). stanzas_of (take place indices) ++ (here.index.listed ++ [])) is)

-- a table of the indices so far gets what stands in the next
pub keys_next : (table after : Keys) (indices : List ReadIndex) (place : ℕ) (read : ReadIndex) → place < length indices
    → read ≡ get_or indices place read → HasKeysOf table (stanzas_of (take place indices)) → AddsKeys table after read.index.listed
    → HasKeysOf after (stanzas_of (take (place + 1) indices))
keys_next table after indices place read within is so_far put wanted =
    put wanted
    ∙ ap (λ b. b || is_in read.index.listed wanted) (so_far wanted)
    ∙ sym (in_both (stanzas_of (take place indices)) read.index.listed wanted)
    ∙ sym (ap (λ (listed : List IndexPackage). is_in (stanzas_of (take place indices) ++ listed) wanted) (append-nil read.index.listed))
    ∙ sym (ap (λ (listed : List IndexPackage). is_in listed wanted) (stanzas_next indices place read within is))

-- stanzas are in such a table where they are among the stanzas that it is of
pub all_in : (table : Keys) (earlier listed : List IndexPackage) → HasKeysOf table earlier → list_all (has_key_of table) listed ≡ adds_none earlier listed
all_in table earlier [] same = refl
all_in table earlier (one ∷ listed) same = ap (λ b. b && list_all (has_key_of table) listed) (same one)
    ∙ ap (λ b. is_in earlier one && b) (all_in table earlier listed same)

-- what is said of an index by such a table is its line, where it is idle
pub said_of : (table : Keys) (indices : List ReadIndex) (place : ℕ) (read : ReadIndex) (entries : List IndexPackage) (text after : List ℕ)
    → HasKeysOf table (stanzas_of (take place indices)) → entries ≡ read.index.listed
    → after ≡ text ++ (if list_all (has_key_of table) entries then index_line (place + 1) entries else [])
    → after ≡ text ++ idle_index indices place read
said_of table indices place read entries text after same are told =
    told
    ∙ ap (λ (listed : List IndexPackage). text ++ (if list_all (has_key_of table) listed then index_line (place + 1) listed else [])) are
    ∙ ap (λ b. text ++ (if b then index_line (place + 1) read.index.listed else [])) (all_in table (stanzas_of (take place indices)) read.index.listed same)

-- a table without a key is that of no index
pub none_in : (table : Keys) (indices : List ReadIndex) → table ≡ [] → HasKeysOf table (stanzas_of (take 0 indices))
none_in table indices empty wanted = ap (λ (keys : Keys). has_key_of keys wanted) empty
