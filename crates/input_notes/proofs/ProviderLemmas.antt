-- Packages that provide a name, put together one after another.
use Rattle.std.proofs.Common.{◌≡◌, ℕ, ◌+◌, ◌<◌, ◌≤◌, ◌++◌, Bor, List, [], ◌∷◌, arith, drop, fold, get_or, length, map, refl, sym, ap, ◌∙◌}
use Rattle.std.specs.List.{filter}
use Rattle.std.proofs.lemmas.List.{drop_more, map-append}
use Rattle.std.proofs.lemmas.List.Elements.{filter-append}
use Rattle.std.proofs.lemmas.List.Sums.{fold-append}
use Rattle.index.specs.Index.{ReadIndex}
use Rattle.index.specs.Names.{with_name}
use Rattle.rules.specs.Step.{IndexPackage}
use Rattle.input_notes.specs.Inputs.{stanzas_of}
use Rattle.input_notes.specs.Providers.{provided_line, provided_words, provides_name, with_providers}

-- the providers of two lists are those of the first and then those of the second
pub both_providers : (names : List (List ℕ)) (name : List ℕ) (listed later : List IndexPackage)
    → with_providers names name (listed ++ later) ≡ with_providers (with_providers names name listed) name later
both_providers names name listed later =
    let name_of : IndexPackage → List ℕ = λ (one : IndexPackage). one.pkg.name in
    let first : List IndexPackage = filter (provides_name name) listed in
    let second : List IndexPackage = filter (provides_name name) later in
    let split : filter (provides_name name) (listed ++ later) ≡ first ++ second = filter-append (provides_name name) listed later in
    let named : map name_of (first ++ second) ≡ map name_of first ++ map name_of second = map-append name_of first second in
    let folded : fold with_name names (map name_of first ++ map name_of second) ≡ fold with_name (fold with_name names (map name_of first)) (map name_of second)
    = fold-append with_name names (map name_of first) (map name_of second) in
    ap (λ (kept : List IndexPackage). fold with_name names (map name_of kept)) split
    ∙ ap (λ (all : List (List ℕ)). fold with_name names all) named
    ∙ folded

-- one package more
pub package_next : (entries : List IndexPackage) (place : ℕ) (entry : IndexPackage) (name : List ℕ) (names after whole : List (List ℕ))
    → place < length entries → entry ≡ get_or entries place entry → after ≡ with_providers names name (entry ∷ [])
    → with_providers names name (drop place entries) ≡ whole → with_providers after name (drop (place + 1) entries) ≡ whole
package_next entries place entry name names after whole within is put so_far =
    ap (λ (before : List (List ℕ)). with_providers before name (drop (place + 1) entries)) put
    ∙ sym (both_providers names name (entry ∷ []) (drop (place + 1) entries))
    ∙ ap (λ (here : IndexPackage). with_providers names name (here ∷ drop (place + 1) entries)) is
    ∙ sym (ap (with_providers names name) (drop_more entries place entry within))
    ∙ so_far

-- one index more
pub index_next : (indices : List ReadIndex) (place : ℕ) (read : ReadIndex) (listed : List IndexPackage) (name : List ℕ) (names after whole : List (List ℕ))
    → place < length indices → read ≡ get_or indices place read → listed ≡ read.index.listed → after ≡ with_providers names name listed
    → with_providers names name (stanzas_of (drop place indices)) ≡ whole
    → with_providers after name (stanzas_of (drop (place + 1) indices)) ≡ whole
index_next indices place read listed name names after whole within is of put so_far =
    ap (λ (before : List (List ℕ)). with_providers before name (stanzas_of (drop (place + 1) indices))) put
    ∙ sym (both_providers names name listed (stanzas_of (drop (place + 1) indices)))
    ∙ ap (λ (here : List IndexPackage). with_providers names name (here ++ stanzas_of (drop (place + 1) indices))) of
    ∙ ap (λ (here : ReadIndex). with_providers names name (here.index.listed ++ stanzas_of (drop (place + 1) indices))) is
    ∙ sym (ap (λ (rest : List ReadIndex). with_providers names name (stanzas_of rest)) (drop_more indices place read within))
    ∙ so_far

-- where there is a name the line is told
pub provided_some : (name : List ℕ) (names : List (Bor (List ℕ))) → 1 ≤ length names
    → provided_words name (map (λ (one : Bor (List ℕ)). one.now) names) ≡ provided_line name (map (λ (one : Bor (List ℕ)). one.now) names)
provided_some name [] some = absurd (omega arith)
provided_some name (first ∷ others) some = refl
