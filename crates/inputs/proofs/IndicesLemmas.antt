-- The indices one by one, and how many packages they have.
use Rattle.std.proofs.Common.{◌≡◌, ◌⊎◌, ℕ, ◌+◌, ◌<◌, ◌≤◌, ◌++◌, Bool, true, false, cond, List, [], ◌∷◌, length, drop, get_or, nat_le, Option, Some, None, Result, Ok, Err, refl, sym, ap, subst, ◌∙◌, arith, append_assoc, append-nil}
use Rattle.std.proofs.lemmas.Bool.{leb-false}
use Rattle.std.proofs.lemmas.List.{drop_more, length-append, map-append}
use Rattle.candidates.specs.Inputs.{indices_of}
use Rattle.index.specs.Index.{ReadIndex, ReadStanzas, entry_then, first_place, next_place, with_release, with_stanzas}
use Rattle.index.specs.Sources.{SourceText}
use Rattle.index.specs.Streamed.{read_stream, read_streamed, stanzas_read}
use Rattle.index.specs.declared.error.IndexFault.{IndexFault}
use Rattle.index.specs.declared.error.IndexFault.TheVariants as index_fault
use Rattle.rules.specs.Available.{Index}
use Rattle.rules.specs.FileRecord.{IndexStanza}
use Rattle.rules.specs.Step.{IndexPackage}
use Rattle.rules.specs.declared.index_place.IndexPlace.{IndexPlace}
use Rattle.rules.specs.declared.limits.TheConstants.{PACKAGES, TEXT_BYTES}
use Rattle.rules.specs.declared.release.Release.{Release}
use Rattle.stanza.specs.declared.form.Form.TheVariants.{Plain}
use Rattle.stanza.specs.Stanza.{StanzaText}
use Rattle.stanza.specs.Streamed.{read_within}
use Rattle.stanza.specs.declared.error.ReaderError.{ReaderError}
use Rattle.inputs.specs.Indices.{IsRefusedIndex, index_in, index_of, index_then, indices_from, released, with_indices, with_keys}
use Rattle.inputs.specs.Reading.{out_of_memory, with_fault}
use Rattle.inputs.specs.Texts.{Found, read_found}
use Rattle.inputs.specs.declared.refusal.Fault.TheVariants as fault
use Rattle.inputs.specs.declared.refusal.Refusal.{Refusal}
use mathlib.Core.Logic.{inl, inr}

-- indices and then others and then the later ones are the first two together and then the later ones
with_both : (some more : List Index) (later : Result (List Index) Refusal)
    → with_indices some (with_indices more later) ≡ with_indices (some ++ more) later
with_both some more (Err refused) = refl
with_both some more (Ok later) = ap Ok (sym (append_assoc some more later))

-- one more index is kept behind the others
pub released_more : (releases : List Release) (kept : List ReadStanzas) (release : Release) (stanzas : ReadStanzas)
    → length kept ≡ length releases
    → released (releases ++ release ∷ []) (kept ++ stanzas ∷ []) ≡ released releases kept ++ (with_keys release stanzas).index ∷ []
released_more [] [] release stanzas same = refl
released_more [] (one ∷ kept) release stanzas same = absurd (omega (arith, same))
released_more (first ∷ releases) [] release stanzas same = absurd (omega (arith, same))
released_more (first ∷ releases) (one ∷ kept) release stanzas same =
    ap (λ rest. (with_keys first one).index ∷ rest) (released_more releases kept release stanzas (omega (arith, same)))

-- where no source is left, the indices are all that there are
pub at_end : (arch : List ℕ) (index_texts : ℕ → List ℕ → Found) (number before : ℕ) (all : List Index) (left : List SourceText) → length left ≡ 0
    → with_indices all (indices_from arch index_texts number before left) ≡ Ok all
at_end arch index_texts number before all [] none = ap Ok (append-nil all)
at_end arch index_texts number before all (source ∷ sources) none = absurd (omega (arith, none))

-- behind an index that is read, the indices go on
pub goes_on : (arch : List ℕ) (index_texts : ℕ → List ℕ → Found) (number before : ℕ) (releases further : List Release)
    (kept more : List ReadStanzas) (left : List SourceText) (source : SourceText) (sources : List SourceText) (release : Release)
    (stanzas : ReadStanzas)
    → left ≡ source ∷ sources → release ≡ source.release
    → index_of arch index_texts number before source ≡ Ok (with_keys source.release stanzas)
    → length kept ≡ length releases → further ≡ releases ++ release ∷ [] → more ≡ kept ++ stanzas ∷ []
    → with_indices (released releases kept) (indices_from arch index_texts number before left)
    ≡ with_indices (released further more) (indices_from arch index_texts (number + 1) (before + length stanzas.listed) sources)
goes_on arch index_texts number before releases further kept more left source sources release stanzas next keys is same behind put =
    ap (λ named. with_indices (released releases kept) (indices_from arch index_texts number before named)) next
    ∙ ap (λ r. with_indices (released releases kept) (index_then number r (λ count. indices_from arch index_texts (number + 1) (before + count) sources))) is
    ∙ with_both (released releases kept) ((with_keys source.release stanzas).index ∷ [])
    (indices_from arch index_texts (number + 1) (before + length stanzas.listed) sources)
    ∙ ap (λ all. with_indices all (indices_from arch index_texts (number + 1) (before + length stanzas.listed) sources))
    (ap (λ r. released releases kept ++ (with_keys r stanzas).index ∷ []) (sym keys)
    ∙ sym (released_more releases kept release stanzas same)
    ∙ ap (λ rs. released rs (kept ++ stanzas ∷ [])) (sym behind) ∙ ap (released further) (sym put))

-- an index that is refused is the first refusal, where all that there is comes to what is left
pub is_refused : (arch : List ℕ) (index_texts : ℕ → List ℕ → Found) (number before : ℕ) (all : List Index) (left : List SourceText)
    (source : SourceText) (sources : List SourceText) (refused : Refusal) (whole : Result (List Index) Refusal)
    → left ≡ source ∷ sources → whole ≡ with_indices all (indices_from arch index_texts number before left)
    → IsRefusedIndex number (index_of arch index_texts number before source) refused
    → (refused ≡ out_of_memory) ⊎ (whole ≡ Err refused)
is_refused arch index_texts number before all left source sources refused whole next same (inr wanting) = inl wanting
is_refused arch index_texts number before all left source sources refused whole next same (inl is) = inr (same
    ∙ ap (λ named. with_indices all (indices_from arch index_texts number before named)) next
    ∙ ap (λ r. with_indices all (index_then number r (λ count. indices_from arch index_texts (number + 1) (before + count) sources))) is.0
    ∙ ap (λ p. let e : Result (List Index) Refusal = Err (record { place = p; fault = refused.fault }) in e) (sym is.1))

-- Indices that are lent

-- the first of what is left, with the first of the release keys that are left
pub lends_on : (releases : List Release) (kept : List ReadStanzas) (i : ℕ) (d : ReadStanzas) (left : List Release) (release : Release)
    (rest : List Release) (some more : List ReadIndex) (read : ReadIndex) → i < length kept → left ≡ release ∷ rest
    → read ≡ with_keys release (get_or kept i d) → more ≡ some ++ read ∷ []
    → indices_of some ++ released left (drop i kept) ≡ indices_of more ++ released rest (drop (i + 1) kept)
lends_on releases kept i d left release rest some more read within next is put =
    ap (λ rs. indices_of some ++ released rs (drop i kept)) next
    ∙ ap (λ ks. indices_of some ++ released (release ∷ rest) ks) (drop_more kept i d within)
    ∙ sym (append_assoc (indices_of some) ((with_keys release (get_or kept i d)).index ∷ []) (released rest (drop (i + 1) kept)))
    ∙ ap (λ (r : ReadIndex). (indices_of some ++ r.index ∷ []) ++ released rest (drop (i + 1) kept)) (sym is)
    ∙ ap (λ all. all ++ released rest (drop (i + 1) kept)) (put_behind some more read put)
  where
    put_behind : (some more : List ReadIndex) (read : ReadIndex) → more ≡ some ++ read ∷ []
        → indices_of some ++ read.index ∷ [] ≡ indices_of more
    put_behind some more read put =
        sym (map-append (λ (r : ReadIndex). r.index) some (read ∷ [])) ∙ sym (ap indices_of put)

-- How many packages there are

-- a reading has one value
ok-same : {A E : Type 0} (one other : A) (made : Result A E) → made ≡ Ok one → made ≡ Ok other → one ≡ other
ok-same one other made first second = let e = sym first ∙ second in cc

-- stanzas that are read behind so many packages are no more than are read in all
stanzas_fit : (arch : List ℕ) (place : IndexPlace) (items : List (Result StanzaText ReaderError)) (count : ℕ) (read : ReadStanzas)
    → stanzas_read arch place items count ≡ Ok read → count ≤ PACKAGES → count + length read.listed ≤ PACKAGES
stanzas_fit arch place [] count read same within =
    subst (λ (r : ReadStanzas). count + length r.listed ≤ PACKAGES) (ok-same (record { listed = []; skipped = 0 }) read (stanzas_read arch place [] count) refl same) (omega arith)
stanzas_fit arch place (item ∷ items) count read same within =
    at (read_streamed arch place item) same (stanzas_fit arch (next_place place) items)
  where
    behind : (some : ReadStanzas) (left : ℕ) (later : Result ReadStanzas IndexFault) → with_stanzas some later ≡ Ok read
        → count + length some.listed ≡ left
        → ((r : ReadStanzas) → later ≡ Ok r → left + length r.listed ≤ PACKAGES) → count + length read.listed ≤ PACKAGES
    behind some left (Err refused) same is fits = absurd (let e = same in cc)
    behind some left (Ok more) same is fits = subst (λ (r : ReadStanzas). count + length r.listed ≤ PACKAGES)
        (ok-same (record { listed = some.listed ++ more.listed; skipped = some.skipped + more.skipped }) read (with_stanzas some (Ok more)) refl same)
        (let fit = fits more refl in let sum = length-append some.listed more.listed in omega (arith, fit, sum))

    counted : (listed : IndexPackage) (full : Bool) → nat_le PACKAGES count ≡ full
        → cond full (Err index_fault.TooLarge) (with_stanzas (record { listed = listed ∷ []; skipped = 0 }) (stanzas_read arch (next_place place) items (count + 1))) ≡ Ok read
        → ((count : ℕ) (r : ReadStanzas) → stanzas_read arch (next_place place) items count ≡ Ok r → count ≤ PACKAGES → count + length r.listed ≤ PACKAGES)
        → count + length read.listed ≤ PACKAGES
    counted listed true is same later = absurd (let e = same in cc)
    counted listed false is same later =
        behind (record { listed = listed ∷ []; skipped = 0 }) (count + 1) (stanzas_read arch (next_place place) items (count + 1)) same refl
        (λ r done. later (count + 1) r done (omega (arith, leb-false PACKAGES count is)))

    at : (entry : Result (Option IndexStanza) IndexFault) → entry_then count entry (stanzas_read arch (next_place place) items) ≡ Ok read
        → ((count : ℕ) (r : ReadStanzas) → stanzas_read arch (next_place place) items count ≡ Ok r → count ≤ PACKAGES → count + length r.listed ≤ PACKAGES)
        → count + length read.listed ≤ PACKAGES
    at (Err refused) same later = absurd (let e = same in cc)
    at (Ok None) same later = behind (record { listed = []; skipped = 1 }) (count + 0) (stanzas_read arch (next_place place) items (count + 0)) same refl
        (λ r done. later (count + 0) r done (omega (arith, within)))
    at (Ok (Some indexed)) same later = counted indexed.listed (nat_le PACKAGES count) refl same later

-- an index that is read behind so many packages has no more than are read in all
pub index_fits : (arch : List ℕ) (index_texts : ℕ → List ℕ → Found) (number before : ℕ) (source : SourceText) (stanzas : ReadStanzas)
    → index_of arch index_texts number before source ≡ Ok (with_keys source.release stanzas) → before ≤ PACKAGES
    → before + length stanzas.listed ≤ PACKAGES
index_fits arch index_texts number before source stanzas same within = at (index_texts number source.file) same
  where
    kept : (read : Result ReadStanzas IndexFault) → with_fault fault.Index (with_release source.release read) ≡ Ok (with_keys source.release stanzas)
        → ((r : ReadStanzas) → read ≡ Ok r → before + length r.listed ≤ PACKAGES) → before + length stanzas.listed ≤ PACKAGES
    kept (Err refused) same fits = absurd (let e = same in cc)
    kept (Ok read) same fits =
        let is : with_keys source.release read ≡ with_keys source.release stanzas =
        ok-same (with_keys source.release read) (with_keys source.release stanzas) (with_fault fault.Index (with_release source.release (Ok read))) refl same in
        let listed : read.listed ≡ stanzas.listed = ap (λ (r : ReadIndex). r.index.listed) is in
        subst (λ (l : List IndexPackage). before + length l ≤ PACKAGES) listed (fits read refl)

    at : (text : Found) → read_found (index_in arch number before source) text ≡ Ok (with_keys source.release stanzas)
        → before + length stanzas.listed ≤ PACKAGES
    at None same = absurd (let e = same in cc)
    at (Some text) same = kept (read_stream arch number before text) same
        (λ r is. stanzas_fit arch (first_place number) (read_within Plain 1 TEXT_BYTES text) before r is within)

-- two lists of one length that each get one more have one length
pub lengths_more : {A B : Type 0} (some more : List A) (others further : List B) (x : A) (y : B) → length some ≡ length others
    → more ≡ some ++ x ∷ [] → further ≡ others ++ y ∷ [] → length more ≡ length further
lengths_more some more others further x y same put behind =
    ap length put ∙ length-append some (x ∷ []) ∙ ap (λ n. n + 1) same ∙ sym (length-append others (y ∷ [])) ∙ sym (ap length behind)
