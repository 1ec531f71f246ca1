-- What one stanza gives of an index that is read stanza by stanza.
use Rattle.std.proofs.Common.{◌≡◌, ℕ, ◌+◌, Bool, true, false, cond, List, [], ◌∷◌, Option, None, Some, Result, Ok, Err, nat_le, refl, sym, ap, ◌∙◌, arith, append-nil, codes}
use Rattle.relation.specs.PackageStanza.{counts_for, is_essential, says_essential}
use Rattle.relation.specs.PkgFields.{fields_of}
use Rattle.relation.specs.PkgText.{pkg_fault, pkg_name_fault, pkg_of, unless_fault}
use Rattle.relation.specs.PkgValues.{PkgValues, spelled, values_of}
use Rattle.relation.specs.declared.error.PkgFault.{PkgFault}
use Rattle.rules.specs.FileRecord.{IndexStanza}
use Rattle.rules.specs.Package.{Pkg}
use Rattle.rules.specs.declared.index_place.IndexPlace.{IndexPlace}
use Rattle.rules.specs.declared.limits.TheConstants.{PACKAGES}
use Rattle.stanza.specs.Field.{value_named}
use Rattle.stanza.specs.Stanza.{StanzaText}
use Rattle.index.specs.Index.{ReadStanzas, entry_then, indexed_at, indexed_with, joined, read_entry, read_indexed, read_native, stanzas_of, unless_name_fault, with_stanzas}
use Rattle.index.specs.Streamed.{after_name, native_values, read_values, unless_refused}
use Rattle.index.specs.Walk.{IndexFields, index_fields_of}
use Rattle.index.specs.declared.error.IndexFault.{IndexFault}
use Rattle.index.proofs.IndexLemmas.{with_stanzas-twice}

-- the values as the stanza that they are of
abbrev pub as_entry : List ℕ → IndexPlace → StanzaText → Result (Option PkgValues) IndexFault → Result (Option IndexStanza) IndexFault
as_entry arch place stanza (Err fault) = Err fault
as_entry arch place stanza (Ok None) = Ok None
as_entry arch place stanza (Ok (Some values)) = Ok (Some (indexed_at place stanza (spelled arch values)))

indexed_is : (arch : List ℕ) (place : IndexPlace) (stanza : StanzaText) (fault : Option PkgFault)
    → indexed_with place stanza (unless_fault fault (pkg_of arch (fields_of stanza))) ≡ as_entry arch place stanza (unless_refused fault (values_of (fields_of stanza)))
indexed_is arch place stanza None = refl
indexed_is arch place stanza (Some refused) = refl

counted_is : (arch : List ℕ) (place : IndexPlace) (stanza : StanzaText) (test : Bool)
    → cond test (read_indexed arch place stanza) (Ok None)
    ≡ as_entry arch place stanza (cond test (unless_refused (pkg_fault (fields_of stanza)) (values_of (fields_of stanza))) (Ok None))
counted_is arch place stanza true = indexed_is arch place stanza (pkg_fault (fields_of stanza))
counted_is arch place stanza false = refl

native_is : (arch : List ℕ) (place : IndexPlace) (stanza : StanzaText) (value : Option (List ℕ))
    → read_native arch place stanza value ≡ as_entry arch place stanza (native_values arch stanza.line (index_fields_of stanza) value)
native_is arch place stanza None = refl
native_is arch place stanza (Some value) = counted_is arch place stanza (counts_for arch value)

named_is : (arch : List ℕ) (place : IndexPlace) (stanza : StanzaText) (fault : Option PkgFault) (entry : Result (Option IndexStanza) IndexFault) (values : Result (Option PkgValues) IndexFault)
    → entry ≡ as_entry arch place stanza values → unless_name_fault fault entry ≡ as_entry arch place stanza (after_name fault values)
named_is arch place stanza None entry values is = is
named_is arch place stanza (Some refused) entry values is = refl

-- a stanza gives what its values are
pub entry_is : (arch : List ℕ) (place : IndexPlace) (stanza : StanzaText)
    → read_entry arch place stanza ≡ as_entry arch place stanza (read_values arch stanza.line (index_fields_of stanza))
entry_is arch place stanza =
    named_is arch place stanza (pkg_name_fault (fields_of stanza)) _ _ (native_is arch place stanza (value_named (codes "Architecture") stanza.fields))

-- behind some stanzas one that is skipped, and one with a package
pub skip_then : (old : ReadStanzas) (count : ℕ) (later : ℕ → Result ReadStanzas IndexFault)
    → with_stanzas old (entry_then count (Ok None) later) ≡ with_stanzas (joined old (stanzas_of None)) (later count)
skip_then old count later =
    let same : count + 0 ≡ count = omega arith in
    with_stanzas-twice old (stanzas_of None) (later (count + 0)) ∙ ap (λ n. with_stanzas (joined old (stanzas_of None)) (later n)) same

pub put_then : (old : ReadStanzas) (count : ℕ) (indexed : IndexStanza) (later : ℕ → Result ReadStanzas IndexFault) → nat_le PACKAGES count ≡ false
    → with_stanzas old (entry_then count (Ok (Some indexed)) later) ≡ with_stanzas (joined old (stanzas_of (Some indexed))) (later (count + 1))
put_then old count indexed later few =
    ap (with_stanzas old) (rw few refl) ∙ with_stanzas-twice old (stanzas_of (Some indexed)) (later (count + 1))

joined-last : (stanzas : ReadStanzas) → joined stanzas (record { listed = []; skipped = 0 }) ≡ stanzas
joined-last stanzas = let e : stanzas.skipped + 0 ≡ stanzas.skipped = omega arith in rw (e, append-nil stanzas.listed) refl

pub with_stanzas-last : (stanzas : ReadStanzas) → with_stanzas stanzas (Ok (record { listed = []; skipped = 0 })) ≡ Ok stanzas
with_stanzas-last stanzas = ap Ok (joined-last stanzas)

-- what a stanza gives, by what was read of what was found in it
pub values_entry : (arch : List ℕ) (place : IndexPlace) (stanza : StanzaText) (line : ℕ) (index_fields : IndexFields) (values : Result (Option PkgValues) IndexFault)
    → line ≡ stanza.line → index_fields ≡ index_fields_of stanza → read_values arch line index_fields ≡ values → read_entry arch place stanza ≡ as_entry arch place stanza values
values_entry arch place stanza line index_fields values on of is =
    entry_is arch place stanza
    ∙ ap (as_entry arch place stanza) (ap (λ (n : ℕ). read_values arch n (index_fields_of stanza)) (sym on) ∙ ap (λ (f : IndexFields). read_values arch line f) (sym of) ∙ is)

-- a package with these marks at the place
abbrev pub with_package : ReadStanzas → Pkg → Bool → Bool → IndexPlace → ReadStanzas
with_package old pkg mark said place =
    joined old (record { listed = record { pkg = pkg; is_essential = mark; says_essential = said; place = place } ∷ []; skipped = 0 })

pub put_entry : (old new : ReadStanzas) (count next : ℕ) (place : IndexPlace) (stanza : StanzaText) (pkg : Pkg) (mark said : Bool)
    (later : ℕ → Result ReadStanzas IndexFault) (entry : Result (Option IndexStanza) IndexFault) → entry ≡ Ok (Some (indexed_at place stanza pkg))
    → nat_le PACKAGES count ≡ false → mark ≡ is_essential stanza.fields → said ≡ says_essential stanza.fields → new ≡ with_package old pkg mark said place → next ≡ count + 1
    → with_stanzas old (entry_then count entry later) ≡ with_stanzas new (later next)
put_entry old new count next place stanza pkg mark said later entry is few marked is_said new_is next_is =
    ap (λ (e : Result (Option IndexStanza) IndexFault). with_stanzas old (entry_then count e later)) is
    ∙ put_then old count (indexed_at place stanza pkg) later few
    ∙ ap (λ (s : ReadStanzas). with_stanzas s (later (count + 1))) (sym (new_is
    ∙ ap (λ (m : Bool). with_package old pkg m said place) marked
    ∙ ap (λ (s : Bool). with_package old pkg (is_essential stanza.fields) s place) is_said))
    ∙ ap (λ (n : ℕ). with_stanzas new (later n)) (sym next_is)
