-- The text that is fetched for a step hands in the stanza that the rules unpack.
use Rattle.std.proofs.Common.{◌≡◌, ℕ, zero, suc, ◌+◌, ◌≤◌, Bool, true, false, List, [], ◌∷◌, ◌++◌, map, length, nat_lt, Option, Some, None, MatchOption, Result, Ok, Err, refl, sym, ap, subst, ◌∙◌, arith, ltb-false, ltb-true}
use Rattle.std.specs.Prelude.{Contains, if◌then◌else◌, slice_get}
use Rattle.std.specs.Option.{option_and_then}
use Rattle.std.proofs.lemmas.Option.{same_Some}
use Rattle.unpack_texts.specs.Fetched.{items_in}
use Rattle.index.specs.Alone.{alone}
use Rattle.index.specs.Index.{ReadIndex, ReadStanzas, entry_then, first_place, is_too_many, next_place, stanzas_of, with_release, with_stanzas}
use Rattle.index.specs.Sources.{SourceText}
use Rattle.index.specs.Streamed.{read_stream, read_streamed, stanzas_read}
use Rattle.index.specs.declared.error.IndexFault.{IndexFault}
use Rattle.index.specs.declared.error.IndexFault.TheVariants as index_fault
use Rattle.inputs.specs.Indices.{index_in, index_of, index_then, indices_from, read_indices, with_indices}
use Rattle.inputs.specs.ReadAs.{files_of}
use Rattle.inputs.specs.Texts.{Found, sources_of}
use Rattle.inputs.specs.declared.refusal.Fault.{Fault}
use Rattle.inputs.specs.declared.refusal.Fault.TheVariants as fault
use Rattle.inputs.specs.declared.refusal.Refusal.{Refusal}
use Rattle.inputs.proofs.DistinctLemmas.{found-ok, read-ok}
use Rattle.inputs.proofs.MeaningLemmas.{ok-same}
use Rattle.rules.specs.Available.{Index}
use Rattle.rules.specs.ElementLaws.{Contains-head, Contains-map, Contains-rest}
use Rattle.rules.specs.FileRecord.{IndexStanza}
use Rattle.rules.specs.Step.{IndexPackage}
use Rattle.rules.specs.Universe.{Universe, listed_of}
use Rattle.rules.specs.declared.index_place.IndexPlace.{IndexPlace}
use Rattle.rules.specs.declared.limits.TheConstants.{TEXT_BYTES}
use Rattle.rules.specs.declared.release.Release.{Release}
use Rattle.rules.specs.declared.step.Step.{Step}
use Rattle.rules.specs.declared.step.Step.TheVariants as step
use Rattle.stanza.specs.Stanza.{StanzaText, items_of}
use Rattle.stanza.specs.Streamed.{as_read}
use Rattle.stanza.specs.declared.error.ReaderError.{ReaderError}
use Rattle.stanza.specs.declared.error.StanzaError.{StanzaError}
use Rattle.stanza.specs.declared.form.Form.TheVariants.{Plain}
use Rattle.stanza.proofs.StreamLemmas.{text-read, text-refused}
use Rattle.status.specs.Applicable.{handed_in}
use Rattle.universe_parts.specs.Parts.{numbered}
use Rattle.unpack_texts.specs.Texts.{IsTextFor, IsTextOf, with_newline}
use Rattle.applied_end.proofs.NewlineLemmas.{closed_alone, ended_closed, raw_is_one}
use Rattle.applied_end.specs.Step.{IsStanzaOf}
use Rattle.applied_end.specs.Text.{EndedReadsSame, FetchedIsHandedIn, IsHandedIn}

pub ended_reads_same : EndedReadsSame
ended_reads_same arch text stanza within =
    ap (alone arch) (ended_closed stanza.raw) ∙ closed_alone arch stanza.raw (raw_is_one text stanza within)

-- An index that is read isn't too long

abbrev Items : Type 0
Items = List (Result StanzaText ReaderError)

stanzas_ok : (stanzas : ReadStanzas) (later : Result ReadStanzas IndexFault) (read : ReadStanzas) → with_stanzas stanzas later ≡ Ok read
    → (rest : ReadStanzas) × (later ≡ Ok rest)
stanzas_ok stanzas (Err refused) read is = absurd (let e = is in cc)
stanzas_ok stanzas (Ok rest) read is = (rest, refl)

-- what is read behind a stanza, where nothing is refused
entry_ok : (count : ℕ) (entry : Result (Option IndexStanza) IndexFault) (later : ℕ → Result ReadStanzas IndexFault) (read : ReadStanzas)
    → entry_then count entry later ≡ Ok read → (behind : ℕ) × (rest : ReadStanzas) × (later behind ≡ Ok rest)
entry_ok count (Err refused) later read is = absurd (let e = is in cc)
entry_ok count (Ok entry) later read is = by (is_too_many count entry) is
  where
    by : (many : Bool) → (if many then Err index_fault.TooLarge else with_stanzas (stanzas_of entry) (later (count + length (stanzas_of entry).listed))) ≡ Ok read
        → (behind : ℕ) × (rest : ReadStanzas) × (later behind ≡ Ok rest)
    by true is = absurd (let e = is in cc)
    by false is =
        let (rest, same) = stanzas_ok (stanzas_of entry) (later (count + length (stanzas_of entry).listed)) read is in
        (count + length (stanzas_of entry).listed, rest, same)

-- a reading that ends in a refusal is refused
refused_stream : (arch : List ℕ) (place : IndexPlace) (stanzas : List StanzaText) (error : ReaderError) (count : ℕ) (read : ReadStanzas)
    → stanzas_read arch place (map Ok stanzas ++ Err error ∷ []) count ≡ Ok read → ⊥
refused_stream arch place [] error count read is = absurd (let e = is in cc)
refused_stream arch place (stanza ∷ stanzas) error count read is =
    let (behind, rest, later) = entry_ok count (read_streamed arch place (Ok stanza))
    (stanzas_read arch (next_place place) (map Ok stanzas ++ Err error ∷ [])) read is in
    refused_stream arch (next_place place) stanzas error behind rest later

stream_short : (arch : List ℕ) (number before : ℕ) (text : List ℕ) (read : ReadStanzas) → read_stream arch number before text ≡ Ok read
    → length text ≤ TEXT_BYTES
stream_short arch number before text read is = by (nat_lt TEXT_BYTES (length text)) refl
  where
    by : (long : Bool) → nat_lt TEXT_BYTES (length text) ≡ long → length text ≤ TEXT_BYTES
    by false short = ltb-false TEXT_BYTES (length text) short
    by true long =
        let (stanzas, error, items) = text-refused Plain text TEXT_BYTES (ltb-true TEXT_BYTES (length text) long) in
        absurd (refused_stream arch (first_place number) stanzas error before read
        (ap (λ (xs : Items). stanzas_read arch (first_place number) xs before) (sym items) ∙ is))

release_ok : (release : Release) (stanzas : Result ReadStanzas IndexFault) (read : ReadIndex) → with_release release stanzas ≡ Ok read
    → (kept : ReadStanzas) × (stanzas ≡ Ok kept)
release_ok release (Err refused) read is = absurd (let e = is in cc)
release_ok release (Ok kept) read is = (kept, refl)

index_short : (arch : List ℕ) (text_of : ℕ → List ℕ → Found) (number before : ℕ) (source : SourceText) (read : ReadIndex) (text : List ℕ)
    → index_of arch text_of number before source ≡ Ok read → text_of number source.file ≡ Some text → length text ≤ TEXT_BYTES
index_short arch text_of number before source read text is there =
    let (bytes, same, reading) = found-ok (index_in arch number before source) (text_of number source.file) read is in
    let of_release = read-ok fault.Index (with_release source.release (read_stream arch number before bytes)) read reading in
    let (kept, stream) = release_ok source.release (read_stream arch number before bytes) read of_release in
    subst (λ (t : List ℕ). length t ≤ TEXT_BYTES) (same_Some bytes text (sym same ∙ there)) (stream_short arch number before bytes kept stream)

-- what is read behind an index, where nothing is refused
record GoesOn (number : ℕ) (read : Result ReadIndex Fault) (later : ℕ → Result (List Index) Refusal) : Type 0 where
  one : ReadIndex
  is : read ≡ Ok one
  rest : List Index
  behind : later (length one.index.listed) ≡ Ok rest

indices_ok : (indices : List Index) (later : Result (List Index) Refusal) (read : List Index) → with_indices indices later ≡ Ok read
    → (rest : List Index) × (later ≡ Ok rest)
indices_ok indices (Err refused) read is = absurd (let e = is in cc)
indices_ok indices (Ok rest) read is = (rest, refl)

goes_on : (number : ℕ) (read : Result ReadIndex Fault) (later : ℕ → Result (List Index) Refusal) (indices : List Index)
    → index_then number read later ≡ Ok indices → GoesOn number read later
goes_on number (Err refused) later indices is = absurd (let e = is in cc)
goes_on number (Ok one) later indices is =
    let (rest, behind) = indices_ok (one.index ∷ []) (later (length one.index.listed)) indices is in
    record { one = one; is = refl; rest = rest; behind = behind }

indices_short : (arch : List ℕ) (text_of : ℕ → List ℕ → Found) (number before place : ℕ) (sources : List SourceText) (indices : List Index) (file text : List ℕ)
    → indices_from arch text_of number before sources ≡ Ok indices → slice_get (files_of sources) place ≡ Some file
    → text_of (number + place) file ≡ Some text → length text ≤ TEXT_BYTES
indices_short arch text_of number before place [] indices file text is there opens = absurd (let e = there in cc)
indices_short arch text_of number before zero (source ∷ sources) indices file text is there opens =
    let on = goes_on number (index_of arch text_of number before source) (λ count. indices_from arch text_of (number + 1) (before + count) sources) indices is in
    let here : number + 0 ≡ number = omega arith in
    index_short arch text_of number before source on.one text on.is
    (ap (text_of number) (same_Some source.file file there) ∙ ap (λ (n : ℕ). text_of n file) (sym here) ∙ opens)
indices_short arch text_of number before (suc place) (source ∷ sources) indices file text is there opens =
    let on = goes_on number (index_of arch text_of number before source) (λ count. indices_from arch text_of (number + 1) (before + count) sources) indices is in
    let next : (number + 1) + place ≡ number + suc place = omega arith in
    indices_short arch text_of (number + 1) (before + length on.one.index.listed) place sources on.rest file text on.behind there
    (ap (λ (n : ℕ). text_of n file) next ∙ opens)

opened_short : (arch : List ℕ) (text_of : ℕ → List ℕ → Found) (sources : List SourceText) (indices : List Index) (number : ℕ) (text : List ℕ)
    → read_indices arch text_of sources ≡ Ok indices → option_and_then (text_of number) (numbered number (files_of sources)) ≡ Some text
    → length text ≤ TEXT_BYTES
unfolding read_indices
opened_short arch text_of sources indices zero text is opens = absurd (let e = opens in cc)
opened_short arch text_of sources indices (suc place) text is opens = by (slice_get (files_of sources) place) refl opens
  where
    by : (file : Option (List ℕ)) → slice_get (files_of sources) place ≡ file → option_and_then (text_of (suc place)) file ≡ Some text
        → length text ≤ TEXT_BYTES
    by None there opens = absurd (let e = opens in cc)
    by (Some file) there opens =
        let next : 1 + place ≡ suc place = omega arith in
        indices_short arch text_of 1 0 place sources indices file text is there (ap (λ (n : ℕ). text_of n file) next ∙ opens)

-- What is fetched

-- an item of a text that is read as a stanza is that stanza
item_is : (item : Result StanzaText StanzaError) (stanza : StanzaText) → as_read item ≡ Ok stanza → item ≡ Ok stanza
item_is (Ok one) stanza is = let e = is in cc
item_is (Err refused) stanza is = absurd (let e = is in cc)

stanza_within : (before : List StanzaText) (stanza : StanzaText) (later : Items) → Contains (map Ok before ++ Ok stanza ∷ later) (Ok stanza)
stanza_within [] stanza later = Contains-head (Ok stanza) later
stanza_within (first ∷ before) stanza later =
    Contains-rest (Ok first) (map Ok before ++ Ok stanza ∷ later) (Ok stanza) (stanza_within before stanza later)

-- a stanza that is read of a text that isn't too long is one of its items
read_within_items : (text : List ℕ) (before : List StanzaText) (stanza : StanzaText) (later : Items) → length text ≤ TEXT_BYTES
    → items_in text ≡ map Ok before ++ Ok stanza ∷ later → Contains (items_of Plain text) (Ok stanza)
read_within_items text before stanza later short is =
    let Within : Items → Type 0 = λ items. Contains items (Ok stanza) in
    let there = subst Within (sym is ∙ text-read Plain text TEXT_BYTES short) (stanza_within before stanza later) in
    let (item, within, same) = Contains-map as_read (items_of Plain text) (Ok stanza) there in
    subst (λ (element : Result StanzaText StanzaError). Contains (items_of Plain text) element) (item_is item stanza same) within

-- the text of the stanza of a package hands in a stanza of it
text_handed_in : (arch : List ℕ) (text_of : ℕ → List ℕ → Found) (sources : List SourceText) (indices : List Index) (listed : IndexPackage) (text : List ℕ)
    → read_indices arch text_of sources ≡ Ok indices → IsTextOf arch text_of (files_of sources) listed text → IsStanzaOf (Some listed) (alone arch text)
text_handed_in arch text_of sources indices listed text read is =
    let short = opened_short arch text_of sources indices listed.place.index is.bytes read is.there in
    let fetched = is.fetched.fetched in
    let within = read_within_items is.bytes fetched.there.before fetched.stanza fetched.there.later short fetched.there.is in
    let same : alone arch text ≡ Some fetched.same.indexed =
    ap (alone arch) is.fetched.is ∙ ap (λ (t : List ℕ). alone arch (with_newline t)) (sym fetched.raw)
    ∙ ended_reads_same arch is.bytes fetched.stanza within ∙ ap (alone arch) fetched.raw ∙ fetched.same.read in
    let Of : Option IndexStanza → Type 0 = λ o. IsStanzaOf (Some listed) o in
    subst Of (sym same) (fetched.same.pkg, fetched.same.essential)

unpack_handed_in : (arch : List ℕ) (text_of : ℕ → List ℕ → Found) (sources : List SourceText) (indices : List Index) (listed : Option IndexPackage) (given : Option (List ℕ))
    → read_indices arch text_of sources ≡ Ok indices
    → MatchOption listed (given ≡ None) (λ one. MatchOption given ⊥ (IsTextOf arch text_of (files_of sources) one)) → IsStanzaOf listed (handed_in arch given)
unpack_handed_in arch text_of sources indices None given read is = ap (handed_in arch) is
unpack_handed_in arch text_of sources indices (Some listed) None read is = absurd is
unpack_handed_in arch text_of sources indices (Some listed) (Some text) read is = text_handed_in arch text_of sources indices listed text read is

step_handed_in : (arch : List ℕ) (text_of : ℕ → List ℕ → Found) (sources : List SourceText) (indices : List Index) (u : Universe) (taken : Step) (given : Option (List ℕ))
    → read_indices arch text_of sources ≡ Ok indices → IsTextFor arch text_of (files_of sources) u taken given → IsHandedIn arch u taken given
step_handed_in arch text_of sources indices u (step.Unpack name version) given read is = unpack_handed_in arch text_of sources indices (listed_of u name version) given read is
step_handed_in arch text_of sources indices u (step.Deconfigure name) given read is = refl
step_handed_in arch text_of sources indices u (step.Configure names) given read is = refl
step_handed_in arch text_of sources indices u (step.Remove name) given read is = refl
step_handed_in arch text_of sources indices u (step.Purge name) given read is = refl

pub fetched_is_handed_in : FetchedIsHandedIn
fetched_is_handed_in texts indices files u taken given has named is =
    let same : files ≡ files_of has.sources = named.files_are ∙ ap files_of (ok-same named.sources has.sources (sources_of texts) named.sources_are has.sources_are) in
    step_handed_in texts.arch texts.index has.sources indices u taken given has.indices_are
    (subst (λ (fs : List (List ℕ)). IsTextFor texts.arch texts.index fs u taken given) same is)
