-- The texts of one opening are put at the places of their steps.
use Rattle.std.proofs.Common.{◌≡◌, ◌<◌, ◌∙◌, ℕ, zero, suc, Bor, List, [], ◌∷◌, Vec, Global, Option, Some, None, length, map, refl, rules, ap, sym, subst, arith}
use Rattle.std.specs.List.{AllZip}
use Rattle.std.specs.Option.{option_and_then, option_copied, option_map}
use Rattle.std.proofs.lemmas.Option.{slice_get-map}
use Rattle.std.proofs.Math.ListN.{length-map}
use Rattle.std.proofs.lemmas.List.Elements.{All-head, All-tail}
use Rattle.std.proofs.lemmas.List.Sorted.{All-permutation, IsPermutation-sym, length_permutation}
use Rattle.std.proofs.lemmas.Result.{err_from_is_err_and}
use Rattle.rules.specs.Step.{IndexPackage}
use Rattle.inputs.specs.Texts.{Found}
use Rattle.universe_parts.specs.Parts.{numbered}
use Rattle.unpack_texts.specs.Fetched.{items_in}
use Rattle.unpack_texts.specs.Filled.{IsFilled, filled}
use Rattle.unpack_texts.specs.Opened.{Belongs, IsOpenedFault}
use Rattle.unpack_texts.specs.Texts.{IsEnded, opened}
use Rattle.unpack_texts.specs.Wanted.{AreOfIndex, AreWithin, WantedStanza}
use Rattle.unpack_texts.proofs.FilledLemmas.{filled_from, filled_permuted, length-filled}
use Rattle.unpack_texts.proofs.RefusalLemmas.{opened_refused, refused_permuted, unnamed}
use Rattle.unpack_texts.proofs.WantedLemmas.{order_of_entries}
use Rattle.unpack_texts.proofs.texts.fetch_group.Goals as goal

-- what an opening gives of an index that has this file
opened_at : (index_texts : ℕ → List ℕ → Found) (files : List (List ℕ)) (number : ℕ) (file : List ℕ) → numbered number files ≡ Some file
    → opened index_texts files number ≡ index_texts number file
opened_at index_texts files number file is = ap (option_and_then (index_texts number)) is

-- no opening gives anything of one that has none
opened_none : (index_texts : ℕ → List ℕ → Found) (files : List (List ℕ)) (number : ℕ) → numbered number files ≡ None → opened index_texts files number ≡ None
opened_none index_texts files number is = ap (option_and_then (index_texts number)) is

-- each text belongs to the stanza in its place
belong : (arch : List ℕ) (index_texts : ℕ → List ℕ → Found) (files : List (List ℕ)) (number : ℕ) (bytes : List ℕ) (group : List WantedStanza) (texts : List (List ℕ))
    → opened index_texts files number ≡ Some bytes → AreOfIndex number group → AllZip (IsEnded arch (items_in bytes)) (map (λ one. one.listed) group) texts
    → AllZip (Belongs arch index_texts files) group texts
belong arch index_texts files number bytes [] [] there of_index fetched = tt
belong arch index_texts files number bytes [] (text ∷ texts) there of_index fetched = absurd fetched
belong arch index_texts files number bytes (one ∷ group) [] there of_index fetched = absurd fetched
belong arch index_texts files number bytes (one ∷ group) (text ∷ texts) there of_index fetched =
    let at : one.listed.place.index ≡ number = All-head (λ o. o.listed.place.index ≡ number) one group of_index in (
      record { bytes = bytes; there = subst (λ (n : ℕ). opened index_texts files n ≡ Some bytes) (sym at) there; fetched = fetched.0 },
      belong arch index_texts files number bytes group texts there (All-tail (λ o. o.listed.place.index ≡ number) one group of_index) fetched.1,
    )

-- the file of a number, of lists that lend each other
numbered_lent : (files : List (Bor (List ℕ))) (number : ℕ) → numbered number (map (λ (file : Bor (List ℕ)). file.now) files)
    ≡ option_map (λ (file : Bor (List ℕ)). file.now) (numbered number files)
numbered_lent files zero = refl
numbered_lent files (suc number) = slice_get-map (λ (file : Bor (List ℕ)). file.now) files number

pub returns-in_default-clause-refused : goal.returns-in_default-clause-refused
returns-in_default-clause-refused g c at known =
    let files = map (λ (file : Bor (List ℕ)). file.now) c.args.files.now in
    let none : numbered c.args.number files ≡ None = numbered_lent c.args.files.now c.args.number
    ∙ ap (option_map (λ (file : Bor (List ℕ)). file.now)) (sym c.file_of.ensures ∙ ap option_copied c.in_default.is) in
    unnamed c.args.arch.now at.index files c.args.number c.args.group.now c.refused_at.result c.requires.some c.requires.of_index
    (opened_none at.index files c.args.number none) (search rules)

pub fetch_from-requires : goal.fetch_from-requires
fetch_from-requires g c = rw c.as_slice-2.ensures.value
    (order_of_entries c.in_ok-entries.entries.items c.in_ok-ordered.ordered.items
    (subst (λ (xs : List WantedStanza). map (λ (entry : Bor IndexPackage). entry.now) c.in_ok-entries.entries.items ≡ map (λ (one : WantedStanza). one.listed) xs)
    c.as_slice.ensures.value c.in_ok-entries.ensures) c.in_ok-ordered.ensures.order)

pub returns-in_err-fetched-clause-refused : goal.returns-in_err-fetched-clause-refused
returns-in_err-fetched-clause-refused g c at known =
    let files = map (λ (file : Bor (List ℕ)). file.now) c.args.files.now in
    let ordered = c.in_ok-ordered.ordered.items in
    let shown : map (λ (entry : Bor IndexPackage). entry.now) c.as_slice-2.result.now ≡ map (λ (one : WantedStanza). one.listed) ordered =
    ap (map (λ (entry : Bor IndexPackage). entry.now)) c.as_slice-2.ensures.value ∙ c.in_ok-entries.ensures ∙ ap (map (λ (one : WantedStanza). one.listed)) c.as_slice.ensures.value in
    let named : numbered c.args.number files ≡ Some c.in-Some.file.now.now = numbered_lent c.args.files.now c.args.number
    ∙ ap (option_map (λ (file : Bor (List ℕ)). file.now)) (sym c.file_of.ensures ∙ ap option_copied c.in-Some.is) in
    let p = err_from_is_err_and c.from_residual-in_err-fetched.result c.from_residual-in_err-fetched.ensures.1 in
    rw (p.1, p.2) (refused_permuted c.args.arch.now at.index files ordered c.args.group.now _
    (IsPermutation-sym c.args.group.now ordered c.in_ok-ordered.ensures.same)
    (opened_refused c.args.arch.now at.index files c.args.number c.in-Some.file.now.now ordered _ (opened_at at.index files c.args.number c.in-Some.file.now.now named)
    (subst (λ (n : ℕ). 0 < n) (sym (length_permutation c.args.group.now ordered c.in_ok-ordered.ensures.same)) c.requires.some)
    (All-permutation (λ one. one.listed.place.index ≡ c.args.number) c.args.group.now ordered c.in_ok-ordered.ensures.same c.requires.of_index)
    (subst (λ (l : List IndexPackage). IsOpenedFault c.args.arch.now c.args.number (at.index c.args.number c.in-Some.file.now.now) l c.in_err-fetched.field-0.0) shown
    (c.in_err-fetched.ensures.refused at known))))

pub fill-requires-clause-count : goal.fill-requires-clause-count
fill-requires-clause-count g c =
    let sizes : length c.in_ok-entries.entries.items ≡ length c.in_ok-ordered.ordered.items =
    sym (length-map c.in_ok-entries.entries.items (λ (entry : Bor IndexPackage). entry.now)) ∙ ap length c.in_ok-entries.ensures
    ∙ length-map c.as_slice.result.now (λ (one : WantedStanza). one.listed) ∙ ap length c.as_slice.ensures.value in
    omega (arith, c.in_ok-fetched.ensures.each, ap length c.as_slice-2.ensures.value, ap length c.as_slice-3.ensures.value, sizes)

pub fill-requires-clause-within : goal.fill-requires-clause-within
fill-requires-clause-within g c = rw c.as_slice-3.ensures.value
    (All-permutation (λ one. one.step < length c.args.texts.now.items) c.args.group.now c.in_ok-ordered.ordered.items c.in_ok-ordered.ensures.same c.requires.within)

pub returns-clause-size : goal.returns-clause-size
returns-clause-size g c = ap length c.fill.ensures ∙ length-filled c.args.texts.now.items c.as_slice-3.result.now _

pub returns-clause-filled : goal.returns-clause-filled
returns-clause-filled g c at known =
    let files = map (λ (file : Bor (List ℕ)). file.now) c.args.files.now in
    let ordered = c.in_ok-ordered.ordered.items in
    let same = c.in_ok-ordered.ensures.same in
    let places = c.args.texts.now.items in
    let texts = map (λ (text : Vec ℕ Global). text.items) c.in_ok-fetched.fetched.items in
    let shown : map (λ (entry : Bor IndexPackage). entry.now) c.as_slice-2.result.now ≡ map (λ (one : WantedStanza). one.listed) ordered =
    ap (map (λ (entry : Bor IndexPackage). entry.now)) c.as_slice-2.ensures.value ∙ c.in_ok-entries.ensures ∙ ap (map (λ (one : WantedStanza). one.listed)) c.as_slice.ensures.value in
    let named : numbered c.args.number files ≡ Some c.in-Some.file.now.now = numbered_lent c.args.files.now c.args.number
    ∙ ap (option_map (λ (file : Bor (List ℕ)). file.now)) (sym c.file_of.ensures ∙ ap option_copied c.in-Some.is) in
    let read = c.in_ok-fetched.ensures.fetched at known in
    let all : AllZip (Belongs c.args.arch.now at.index files) ordered texts = belong c.args.arch.now at.index files c.args.number read.0 ordered texts
    (opened_at at.index files c.args.number c.in-Some.file.now.now named ∙ read.1)
    (All-permutation (λ one. one.listed.place.index ≡ c.args.number) c.args.group.now ordered same c.requires.of_index)
    (subst (λ (l : List IndexPackage). AllZip (IsEnded c.args.arch.now (items_in read.0)) l texts) shown read.2) in
    let within : AreWithin (length places) ordered = All-permutation (λ one. one.step < length places) c.args.group.now ordered same c.requires.within in
    filled_permuted (Belongs c.args.arch.now at.index files) ordered c.args.group.now places c.fill.new.texts.items (IsPermutation-sym c.args.group.now ordered same)
    (subst (λ (new : List (Option (List ℕ))). IsFilled (Belongs c.args.arch.now at.index files) ordered places new)
    (sym (c.fill.ensures ∙ ap (λ (group : List WantedStanza). filled places group texts) c.as_slice-3.ensures.value))
    (filled_from (Belongs c.args.arch.now at.index files) places ordered texts all within))
