-- Files that begin as a journal, and the parts of a header.
use Rattle.std.proofs.Common.{◌≡◌, ℕ, ◌<◌, ◌≤◌, ◌^◌, Some, None, Option, List, [], ◌∷◌, ◌++◌, length, get_or, take, refl, sym, ◌∙◌, ap, arith, append_assoc, length-append}
use Rattle.std.proofs.lemmas.List.{take-append-le, take_all}
use Rattle.journal.specs.Creating.{IsUnmade, unmade}
use Rattle.std.specs.Int.{w16, w64, to_be_bytes}
use Rattle.journal.specs.declared.header.FormatVersion.{FormatVersion}
use Rattle.journal.specs.declared.header.FormatVersion.TheVariants.{One, Two}
use Rattle.journal.specs.Fault.{IsMarked}
use Rattle.journal.specs.File.{HeaderFits, header, magic_of}
use Rattle.journal.proofs.NumberLemmas.{cut_once}

pub magic_size : (version : FormatVersion) → length (magic_of version) ≡ 8
unfolding magic_of
magic_size One = refl
magic_size Two = refl

pub magics_differ : (x y : List ℕ) → magic_of One ++ x ≡ magic_of Two ++ y → ⊥
unfolding magic_of
magics_differ x y same = let last : 49 ≡ 50 = ap (λ (l : List ℕ). get_or l 7 0) same in omega (arith, last)

-- bytes that no version begins with
pub neither : (magic : List ℕ) → ¬ (magic ≡ magic_of One) → ¬ (magic ≡ magic_of Two) → (version : FormatVersion) → ¬ (magic ≡ magic_of version)
neither magic a b One = a
neither magic a b Two = b

-- fewer than sixteen bytes aren't a journal
pub short_unmarked : (file magic rest : List ℕ) → file ≡ magic ++ rest → length magic ≡ 8 → length rest < 8 → ¬ IsMarked file
short_unmarked file magic rest is size short marked =
    omega (arith, ap length is, length-append magic rest, size, short, ap length marked.is, length-append (magic_of marked.version) marked.rest, magic_size marked.version, marked.enough)

-- nor are bytes that begin as no version does
pub other_unmarked : (file magic rest : List ℕ) → file ≡ magic ++ rest → length magic ≡ 8 → ((version : FormatVersion) → ¬ (magic ≡ magic_of version)) → ¬ IsMarked file
other_unmarked file magic rest is size other marked =
    other marked.version (cut_once magic (magic_of marked.version) rest marked.rest (size ∙ sym (magic_size marked.version)) (sym is ∙ marked.is)).0

-- the parts of a header of version 1
pub header_1 : (start tail : List ℕ) → header None start ++ tail ≡ magic_of One ++ (to_be_bytes w64 (length start) ++ (start ++ tail))
unfolding header
header_1 start tail =
    append_assoc (magic_of One) (to_be_bytes w64 (length start) ++ start) tail
    ∙ ap (λ (l : List ℕ). magic_of One ++ l) (append_assoc (to_be_bytes w64 (length start)) start tail)

-- the parts of one of version 2
pub header_2 : (arch start tail : List ℕ) → header (Some arch) start ++ tail
    ≡ magic_of Two ++ (to_be_bytes w64 (length start) ++ (to_be_bytes w16 (length arch) ++ (arch ++ (start ++ tail))))
unfolding header
header_2 arch start tail =
    append_assoc (magic_of Two) (to_be_bytes w64 (length start) ++ (to_be_bytes w16 (length arch) ++ (arch ++ start))) tail
    ∙ ap (λ (l : List ℕ). magic_of Two ++ l) (append_assoc (to_be_bytes w64 (length start)) (to_be_bytes w16 (length arch) ++ (arch ++ start)) tail
    ∙ ap (λ (l : List ℕ). to_be_bytes w64 (length start) ++ l) (append_assoc (to_be_bytes w16 (length arch)) (arch ++ start) tail
    ∙ ap (λ (l : List ℕ). to_be_bytes w16 (length arch) ++ l) (append_assoc arch start tail)))

-- where the parts of version 1 aren't there, there is no header
pub no_header_1 : (rest : List ℕ) → ((start tail : List ℕ) → length start < 2 ^ 64 → ¬ (rest ≡ to_be_bytes w64 (length start) ++ (start ++ tail)))
    → (named : Option (List ℕ)) (start tail : List ℕ) → HeaderFits named start → ¬ (magic_of One ++ rest ≡ header named start ++ tail)
no_header_1 rest none None start tail fits is =
    none start tail fits.start_fits (cut_once (magic_of One) (magic_of One) rest (to_be_bytes w64 (length start) ++ (start ++ tail)) refl (is ∙ header_1 start tail)).1
no_header_1 rest none (Some arch) start tail fits is =
    magics_differ rest (to_be_bytes w64 (length start) ++ (to_be_bytes w16 (length arch) ++ (arch ++ (start ++ tail)))) (is ∙ header_2 arch start tail)

-- where those of version 2 aren't there, there is none either
pub no_header_2 : (rest : List ℕ) → ((arch start tail : List ℕ) → length arch < 2 ^ 16 → length start < 2 ^ 64
    → ¬ (rest ≡ to_be_bytes w64 (length start) ++ (to_be_bytes w16 (length arch) ++ (arch ++ (start ++ tail)))))
    → (named : Option (List ℕ)) (start tail : List ℕ) → HeaderFits named start → ¬ (magic_of Two ++ rest ≡ header named start ++ tail)
no_header_2 rest none None start tail fits is =
    magics_differ (to_be_bytes w64 (length start) ++ (start ++ tail)) rest (sym (is ∙ header_1 start tail))
no_header_2 rest none (Some arch) start tail fits is =
    none arch start tail fits.name_fits fits.start_fits
    (cut_once (magic_of Two) (magic_of Two) rest (to_be_bytes w64 (length start) ++ (to_be_bytes w16 (length arch) ++ (arch ++ (start ++ tail)))) refl (is ∙ header_2 arch start tail)).1

-- the bytes of a journal of version 2 without steps, as they are written one after another
pub image_is : (arch start : List ℕ) → magic_of Two ++ to_be_bytes w64 (length start) ++ to_be_bytes w16 (length arch) ++ arch ++ start ++ 0 ∷ [] ≡ header (Some arch) start ++ 0 ∷ []
unfolding header
image_is arch start = ap (λ (l : List ℕ). l ++ 0 ∷ []) (
    append_assoc (magic_of Two ++ to_be_bytes w64 (length start) ++ to_be_bytes w16 (length arch)) arch start
    ∙ append_assoc (magic_of Two ++ to_be_bytes w64 (length start)) (to_be_bytes w16 (length arch)) (arch ++ start)
    ∙ append_assoc (magic_of Two) (to_be_bytes w64 (length start)) (to_be_bytes w16 (length arch) ++ (arch ++ start)))

-- such bytes are no fewer than eight
pub image_size : (arch start : List ℕ) → 8 ≤ length (header (Some arch) start ++ 0 ∷ [])
image_size arch start =
    let rest = to_be_bytes w64 (length start) ++ (to_be_bytes w16 (length arch) ++ (arch ++ (start ++ 0 ∷ []))) in
    omega (arith, ap length (header_2 arch start (0 ∷ [])), length-append (magic_of Two) rest, magic_size Two)

-- no version begins as a file does that is being made
not_unmade : (version : FormatVersion) → ¬ (magic_of version ≡ unmade)
unfolding magic_of unmade
not_unmade One same = let last : 49 ≡ 48 = ap (λ (l : List ℕ). get_or l 7 0) same in omega (arith, last)
not_unmade Two same = let last : 50 ≡ 48 = ap (λ (l : List ℕ). get_or l 7 0) same in omega (arith, last)

unmade_size : length unmade ≡ 8
unfolding unmade
unmade_size = refl

-- a file of which no journal was made doesn't begin as one
pub unmade_unmarked : (file : List ℕ) → IsUnmade file → ¬ IsMarked file
unmade_unmarked file is marked =
    let magic = magic_of marked.version in
    let size = magic_size marked.version in
    let front : take 8 file ≡ magic = ap (take 8) marked.is ∙ take-append-le 8 magic marked.rest (omega (arith, size)) ∙ take_all 8 magic (omega (arith, size)) in
    let all : take (length file) unmade ≡ unmade =
    take_all (length file) unmade (omega (arith, ap length marked.is, length-append magic marked.rest, size, marked.enough, unmade_size)) in
    not_unmade marked.version (sym front ∙ is ∙ all)
