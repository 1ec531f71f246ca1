-- What is read as a refutation is its text: the indices, then all lines, then the text.
use Rattle.std.proofs.Common.{◌≡◌, ℕ, ◌+◌, ◌||◌, ◌&&◌, ltb, List, [], ◌∷◌, ◌++◌, length, take, drop, Option, Some, None, Result, Ok, Err, refl, sym, ap, ◌∙◌, append_assoc, append-nil, arith, inl, inr, eqb}
use Rattle.std.proofs.lemmas.Bool.{and_parts, cases_Bool, eqb-true}
use Rattle.std.proofs.lemmas.List.{take-append-drop}
use Rattle.std.proofs.lemmas.List.Splits.{join_with_byte-slice_split}
use Rattle.std.specs.List.{flat_map, join_with_byte}
use Rattle.std.specs.Str.{bytes_eq}
use Rattle.rules.specs.NamedLaws.{bytes_eq-true}
use Rattle.rules.specs.declared.limits.TheConstants.{TEXT_BYTES}
use Rattle.plantext.specs.Cut.{parts_at}
use Rattle.plantext.specs.Plan.{end_line}
use Rattle.refutation_text.specs.declared.error.RefutationFault.{RefutationFault}
use Rattle.refutation_text.specs.declared.limits.TheConstants.{LINES}
use Rattle.named_refutation.specs.Index.{index_by, index_front, index_of, index_text, is_sum}
use Rattle.named_refutation.specs.LineText.{line_of, line_text}
use Rattle.named_refutation.specs.Text.{cut_indices, header, is_wide, line_in_text, named_text, numbered_line, put_line, read_behind, read_end, read_lines, read_named, read_parts, with_indices}
use Rattle.named_refutation.specs.declared.named.IndexLine.{IndexLine}
use Rattle.named_refutation.specs.declared.named.NamedLine.{NamedLine}
use Rattle.named_refutation.specs.declared.named.NamedRefutation.{NamedRefutation}
use Rattle.named_refutation.proofs.ReadLemmas.{line_is}

-- Indices

-- a sum and what stands behind it are the index's
index_by_is : (sum behind : List ℕ) (index : IndexLine) → index_by sum behind ≡ Some index → sum ++ behind ≡ index.sum ++ 32 ∷ index.path
index_by_is sum [] index h = cc
index_by_is sum (b ∷ []) index h = cc
index_by_is sum (b ∷ first ∷ path) index h = elim (cases_Bool (eqb b 32 && is_sum sum)) [
  | inl e ↦
      let same : of sum (first ∷ path) ≡ index = cc (rw e at h) in
      ap (λ (space : ℕ). sum ++ space ∷ first ∷ path) (eqb-true b 32 (and_parts (eqb b 32) (is_sum sum) e).0)
      ∙ ap (λ (line_read : IndexLine). line_read.sum ++ 32 ∷ line_read.path) same
  | inr e ↦ cc (rw e at h)
] where
  of : List ℕ → List ℕ → IndexLine
  of sum path = record { sum = sum; path = path }

-- a text that is read as an index is the index's
index_is : (text : List ℕ) (index : IndexLine) → index_of text ≡ Some index → text ++ 10 ∷ [] ≡ index_text index
unfolding index_of index_text
index_is text index h = elim (cases_Bool (bytes_eq (take 6 text) index_front)) [
  | inl e ↦
      let rest : List ℕ = drop 6 text in
      let front : take 6 text ≡ index_front = bytes_eq-true (take 6 text) index_front e in
      let is : take 64 rest ++ drop 64 rest ≡ index.sum ++ 32 ∷ index.path = index_by_is (take 64 rest) (drop 64 rest) index (rw e at h) in
      let all : text ≡ index_front ++ (index.sum ++ 32 ∷ index.path) =
      sym (take-append-drop 6 text) ∙ ap (λ (first : List ℕ). first ++ rest) front
      ∙ ap (λ (behind : List ℕ). index_front ++ behind) (sym (take-append-drop 64 rest) ∙ is) in
      ap (λ (written : List ℕ). written ++ 10 ∷ []) all
  | inr e ↦ cc (rw e at h)
]

-- a line and its newline, before what is behind it
line_before : (line before behind later : List ℕ) → line ++ 10 ∷ [] ≡ before → later ≡ behind → line ++ 10 ∷ later ≡ before ++ behind
line_before line before behind later here rest =
    sym (append_assoc line (10 ∷ []) later) ∙ ap (λ (text : List ℕ). text ++ later) here ∙ ap (λ (text : List ℕ). before ++ text) rest

-- what is cut off is the lines of the indices, before what is left
cut_is : (parts : List (List ℕ)) → join_with_byte 10 parts ≡ flat_map index_text (cut_indices parts).0 ++ join_with_byte 10 (cut_indices parts).1
cut_is [] = refl
cut_is (last ∷ []) = refl
cut_is (text ∷ next ∷ later) = go (index_of text) refl (cut_is (next ∷ later)) where
  rest : List IndexLine × List (List ℕ)
  rest = cut_indices (next ∷ later)

  go : (line_read : Option IndexLine) → index_of text ≡ line_read
      → join_with_byte 10 (next ∷ later) ≡ flat_map index_text (cut_indices (next ∷ later)).0 ++ join_with_byte 10 (cut_indices (next ∷ later)).1
      → join_with_byte 10 (text ∷ next ∷ later) ≡ flat_map index_text (cut_indices (text ∷ next ∷ later)).0 ++ join_with_byte 10 (cut_indices (text ∷ next ∷ later)).1
  go None e behind = rw e refl
  go (Some index) e behind =
      rw e (line_before text (index_text index) (flat_map index_text (cut_indices (next ∷ later)).0 ++ join_with_byte 10 (cut_indices (next ∷ later)).1)
      (join_with_byte 10 (next ∷ later)) (index_is text index e) behind
      ∙ sym (append_assoc (index_text index) (flat_map index_text (cut_indices (next ∷ later)).0) (join_with_byte 10 (cut_indices (next ∷ later)).1)))

-- Lines

numbered_line_is : (before number : ℕ) (read : Option NamedLine) (line_read : NamedLine) → numbered_line before number read ≡ Ok line_read → read ≡ Some line_read
numbered_line_is before number None line_read h = cc
numbered_line_is before number (Some other) line_read h = elim (cases_Bool (ltb LINES number || is_wide other)) [ inl e ↦ cc (rw e at h) | inr e ↦ cc (rw e at h) ]

-- the line that was read, and the lines behind it
record Puts (read : Result NamedLine RefutationFault) (later : Result (List NamedLine) RefutationFault) (lines : List NamedLine) : Type 0 where
  line_read : NamedLine
  more : List NamedLine
  here : read ≡ Ok line_read
  behind : later ≡ Ok more
  all : lines ≡ line_read ∷ more

puts : (read : Result NamedLine RefutationFault) (later : Result (List NamedLine) RefutationFault) (lines : List NamedLine)
    → put_line read later ≡ Ok lines → Puts read later lines
puts (Ok line_read) (Ok more) lines h = record { line_read = line_read; more = more; here = refl; behind = refl; all = cc }
puts (Ok line_read) (Err fault) lines h = cc
puts (Err fault) later lines h = cc

-- where nothing is refused behind the end, nothing stands there
end_is : (place : ℕ) (parts : List (List ℕ)) (lines : List NamedLine) → read_end place parts ≡ Ok lines → (lines ≡ []) × (join_with_byte 10 parts ≡ [])
end_is place [] lines h = cc
end_is place (text ∷ next ∷ later) lines h = cc
end_is place ([] ∷ []) lines h = let none : lines ≡ [] = cc in (none, refl)
end_is place ((b ∷ bytes) ∷ []) lines h = cc

-- the texts of lines behind this many, and the line that ends all
abbrev pub ended : ℕ → List NamedLine → List ℕ
ended count lines = flat_map line_text lines ++ (end_line (count + length lines) ++ 10 ∷ [])

-- the text of a line before those of more lines and the line that ends them
before_more : (count : ℕ) (text later : List ℕ) (line_read : NamedLine) (more lines : List NamedLine) → lines ≡ line_read ∷ more
    → text ++ 10 ∷ [] ≡ line_text line_read → later ≡ ended (count + 1) more → text ++ 10 ∷ later ≡ ended count lines
before_more count text later line_read more lines all here behind =
    let end = end_line ((count + 1) + length more) ++ 10 ∷ [] in
    let same : (count + 1) + length more ≡ count + length lines = omega (arith, ap length all) in
    line_before text (line_text line_read) (flat_map line_text more ++ end) later here behind
    ∙ sym (append_assoc (line_text line_read) (flat_map line_text more) end)
    ∙ sym (ap (λ (put : List NamedLine). flat_map line_text put ++ end) all)
    ∙ ap (λ n. flat_map line_text lines ++ (end_line n ++ 10 ∷ [])) same

-- the line that ends so many, before nothing
before_nothing : (count : ℕ) (text later : List ℕ) (lines : List NamedLine) → text ≡ end_line count → lines ≡ [] → later ≡ []
    → text ++ 10 ∷ later ≡ ended count lines
before_nothing count text later lines ends none nothing =
    let same : count + length lines ≡ count = omega (arith, ap length none) in
    rw (same, none) (line_before text (end_line count ++ 10 ∷ []) [] later (ap (λ (written : List ℕ). written ++ 10 ∷ []) ends) nothing
    ∙ append-nil (end_line count ++ 10 ∷ []))

-- the texts that are read as lines are theirs and the line that ends them
lines_are : (before count : ℕ) (parts : List (List ℕ)) (lines : List NamedLine) → read_lines before count parts ≡ Ok lines → join_with_byte 10 parts ≡ ended count lines
lines_are before count [] lines h = cc
lines_are before count (last ∷ []) lines h = cc
lines_are before count (text ∷ next ∷ later) lines h = elim (cases_Bool (bytes_eq text (end_line count))) [
  | inl e ↦
      let nothing = end_is (before + (count + 1)) (next ∷ later) lines (rw e at h) in
      before_nothing count text (join_with_byte 10 (next ∷ later)) lines (bytes_eq-true text (end_line count) e) nothing.0 nothing.1
  | inr e ↦
      let put = puts (line_in_text before (count + 1) text) (read_lines before (count + 1) (next ∷ later)) lines (rw e at h) in
      before_more count text (join_with_byte 10 (next ∷ later)) put.line_read put.more lines put.all
      (line_is text put.line_read (numbered_line_is before (count + 1) (line_of text) put.line_read put.here))
      (lines_are before (count + 1) (next ∷ later) put.more put.behind)
]

-- Texts

-- the text behind the header, of these indices and lines
abbrev behind_header : NamedRefutation → List ℕ
behind_header refutation = flat_map index_text refutation.indices ++ ended 0 refutation.lines

behind_is : (parts : List (List ℕ)) (refutation : NamedRefutation) → read_behind (cut_indices parts) ≡ Ok refutation → join_with_byte 10 parts ≡ behind_header refutation
behind_is parts refutation h = go (read_lines (length (cut_indices parts).0 + 1) 0 (cut_indices parts).1) refl h where
  of : List IndexLine → List NamedLine → NamedRefutation
  of indices lines = record { indices = indices; lines = lines }

  go : (read : Result (List NamedLine) RefutationFault) → read_lines (length (cut_indices parts).0 + 1) 0 (cut_indices parts).1 ≡ read
      → with_indices (cut_indices parts).0 read ≡ Ok refutation → join_with_byte 10 parts ≡ behind_header refutation
  go (Err fault) e g = cc
  go (Ok lines) e g =
      let same : of (cut_indices parts).0 lines ≡ refutation = cc in
      cut_is parts
      ∙ ap (λ (written : List ℕ). flat_map index_text (cut_indices parts).0 ++ written) (lines_are (length (cut_indices parts).0 + 1) 0 (cut_indices parts).1 lines e)
      ∙ ap behind_header same

behind_written : (refutation : NamedRefutation) → header ++ 10 ∷ behind_header refutation ≡ named_text refutation
unfolding named_text
behind_written refutation =
    let same : 0 + length refutation.lines ≡ length refutation.lines = omega arith in
    let indices : List ℕ = flat_map index_text refutation.indices in
    let lines : List ℕ = flat_map line_text refutation.lines in
    let end : List ℕ = end_line (length refutation.lines) in
    ap (λ n. header ++ 10 ∷ (indices ++ (lines ++ (end_line n ++ 10 ∷ [])))) same
    ∙ sym (ap (λ (behind : List ℕ). header ++ 10 ∷ behind) (append_assoc (indices ++ lines) end (10 ∷ []) ∙ append_assoc indices lines (end ++ 10 ∷ [])))

parts_are : (parts : List (List ℕ)) (refutation : NamedRefutation) → read_parts parts ≡ Ok refutation → join_with_byte 10 parts ≡ named_text refutation
parts_are [] refutation h = cc
parts_are (first ∷ []) refutation h = elim (cases_Bool (bytes_eq first header)) [ inl e ↦ cc (rw e at h) | inr e ↦ cc (rw e at h) ]
parts_are (first ∷ next ∷ later) refutation h = elim (cases_Bool (bytes_eq first header)) [
  | inl e ↦
      ap (λ (written : List ℕ). written ++ 10 ∷ join_with_byte 10 (next ∷ later)) (bytes_eq-true first header e)
      ∙ ap (λ (written : List ℕ). header ++ 10 ∷ written) (behind_is (next ∷ later) refutation (rw e at h))
      ∙ behind_written refutation
  | inr e ↦ cc (rw e at h)
]

pub read_is_written : (text : List ℕ) (refutation : NamedRefutation) → read_named text ≡ Ok refutation → text ≡ named_text refutation
unfolding read_named
read_is_written text refutation h = elim (cases_Bool (ltb TEXT_BYTES (length text))) [
  | inl e ↦ cc (rw e at h)
  | inr e ↦ sym (join_with_byte-slice_split 10 text) ∙ parts_are (parts_at 10 text) refutation (rw e at h)
]
