-- What is written is read again: the indices, then all lines, then the text.
use Rattle.std.proofs.Common.{◌≡◌, ℕ, ◌+◌, ◌≤◌, ◌<◌, ◌^◌, true, false, not, List, [], ◌∷◌, ◌++◌, length, take, drop, Some, None, Ok, refl, sym, ap, ◌∙◌, eqb, append_assoc, arith}
use Rattle.std.proofs.Math.Seq.{drop-append_seam, take-append_seam}
use Rattle.std.proofs.lemmas.Bool.{and_parts, eqb-true, false≢true, le-ltb, ne_eqb, not-true}
use Rattle.std.proofs.lemmas.Fmt.{digits_decimal}
use Rattle.std.proofs.lemmas.List.Elements.{All-append, All-cons, All-nil}
use Rattle.std.proofs.lemmas.List.Splits.{slice_split_at}
use Rattle.std.proofs.lemmas.Str.Parse.{digit_from_value, numerals_by_value, tells_digits}
use Rattle.std.specs.List.{flat_map, list_all}
use Rattle.std.specs.Prelude.{codes, decimal}
use Rattle.std.specs.Str.{bytes_eq}
use Rattle.std.specs.Str.Parse.{AllDigits}
use Rattle.rules.specs.NamedLaws.{bytes_eq-same}
use Rattle.rules.specs.declared.limits.TheConstants.{TEXT_BYTES}
use Rattle.plantext.specs.Cut.{parts_at}
use Rattle.plantext.specs.Plan.{end_line}
use Rattle.plantext.proofs.ByteLemmas.{IsFree, passing_free}
use Rattle.refutation_text.specs.declared.limits.TheConstants.{LINES}
use Rattle.named_refutation.specs.Index.{index_by, index_front, index_of, index_text, is_index_writable, is_path, is_sum, is_sum_digit}
use Rattle.named_refutation.specs.LineText.{is_named, is_writable, line_text}
use Rattle.named_refutation.specs.Text.{cut_indices, is_wide, line_in_text, named_text, numbered_line, put_index, put_line, read_behind, read_lines, read_named, with_indices, IsReadAs}
use Rattle.named_refutation.specs.declared.index_line.TheConstants.{SUM}
use Rattle.named_refutation.specs.declared.named.IndexLine.{IndexLine}
use Rattle.named_refutation.specs.declared.named.NamedLine.{NamedLine}
use Rattle.named_refutation.specs.declared.named.NamedLine.TheVariants as line
use Rattle.named_refutation.specs.declared.named.NamedLiteral.TheVariants.{Selected, Unselected}
use Rattle.named_refutation.specs.declared.named.NamedPremise.TheVariants.{Same, PreDepends, Depends, Conflicts, Breaks, Goal, GoalOn, Hold, Essential, Keep}
use Rattle.named_refutation.specs.declared.named.NamedRefutation.{NamedRefutation}
use Rattle.named_refutation.proofs.AgainLemmas.{joined_words, line_again, line_parted}
use Rattle.named_refutation.proofs.ByteLemmas.{index_free}
use Rattle.named_refutation.proofs.IndexLemmas.{cut_more, cut_none}
use Rattle.named_refutation.proofs.LineLemmas.{read_lines_end, read_lines_more}
use Rattle.named_refutation.proofs.TextLemmas.{ended}

-- Indices

-- the line of an index without its newline
abbrev bare : IndexLine → List ℕ
bare index = index_front ++ (index.sum ++ 32 ∷ index.path)

by_again : (sum path : List ℕ) → is_sum sum ≡ true → is_path path ≡ true → index_by sum (32 ∷ path) ≡ Some (record { sum = sum; path = path })
by_again sum [] is path = absurd (false≢true path)
by_again sum (b ∷ later) is path = rw is refl

-- the line of an index is read as it
index_again : (index : IndexLine) → is_index_writable index ≡ true → index_of (bare index) ≡ Some index
unfolding index_of
index_again index h =
    let both = and_parts (is_sum index.sum) (is_path index.path) h in
    let many : length index.sum ≡ 64 = eqb-true (length index.sum) 64 (and_parts (eqb (length index.sum) SUM) (list_all is_sum_digit index.sum) both.0).0 in
    let front : take 64 (index.sum ++ 32 ∷ index.path) ≡ index.sum =
    ap (λ n. take n (index.sum ++ 32 ∷ index.path)) (sym many) ∙ take-append_seam index.sum (32 ∷ index.path) in
    let back : drop 64 (index.sum ++ 32 ∷ index.path) ≡ 32 ∷ index.path =
    ap (λ n. drop n (index.sum ++ 32 ∷ index.path)) (sym many) ∙ drop-append_seam index.sum (32 ∷ index.path) in
    ap (λ (sum : List ℕ). index_by sum (drop 64 (index.sum ++ 32 ∷ index.path))) front
    ∙ ap (index_by index.sum) back ∙ by_again index.sum index.path both.0 both.1

-- the line of an index and its newline, before other bytes
index_parted : (index : IndexLine) (rest : List ℕ) → is_index_writable index ≡ true → parts_at 10 (index_text index ++ rest) ≡ bare index ∷ parts_at 10 rest
unfolding index_text
index_parted index rest h =
    ap (parts_at 10) (append_assoc (bare index) (10 ∷ []) rest)
    ∙ slice_split_at (λ b. eqb b 10) (bare index) 10 rest (index_free index h) refl

-- the lines of indices are cut off, before what isn't one
indices_again : (indices : List IndexLine) (rest : List ℕ) → list_all is_index_writable indices ≡ true
    → cut_indices (parts_at 10 rest) ≡ ([], parts_at 10 rest) → cut_indices (parts_at 10 (flat_map index_text indices ++ rest)) ≡ (indices, parts_at 10 rest)
indices_again [] rest h none = none
indices_again (index ∷ later) rest h none =
    let both = and_parts (is_index_writable index) (list_all is_index_writable later) h in
    let behind = flat_map index_text later ++ rest in
    ap (λ text. cut_indices (parts_at 10 text)) (append_assoc (index_text index) (flat_map index_text later) rest)
    ∙ ap cut_indices (index_parted index behind both.0)
    ∙ cut_more index (bare index) behind (index_again index both.0)
    ∙ ap (put_index index) (indices_again later rest both.1 none)

-- The end

digits_free : (digits : List ℕ) → AllDigits 10 digits → IsFree 10 digits
digits_free [] all = All-nil (λ b. eqb b 10 ≡ false)
digits_free (b ∷ later) all =
    let range = digit_from_value b all.0 in
    All-cons (λ x. eqb x 10 ≡ false) b later (ne_eqb b 10 (λ e. omega arith)) (digits_free later all.1)

end_free : (count : ℕ) → count < 2 ^ 64 → IsFree 10 (end_line count)
end_free count small =
    All-append (λ b. eqb b 10 ≡ false) (codes "end ") (decimal count) (passing_free (λ b. not (eqb b 10)) 10 (codes "end ") refl refl)
    (digits_free (decimal count) (digits_decimal (numerals_by_value (AllDigits 10) tells_digits) count small))

end_parted : (count : ℕ) → count < 2 ^ 64 → parts_at 10 (end_line count ++ 10 ∷ []) ≡ end_line count ∷ parts_at 10 []
end_parted count small = slice_split_at (λ b. eqb b 10) (end_line count) 10 [] (end_free count small) refl

-- the end is read as no lines
end_again : (before count : ℕ) → count < 2 ^ 64 → read_lines before count (parts_at 10 (end_line count ++ 10 ∷ [])) ≡ Ok []
end_again before count small =
    ap (read_lines before count) (end_parted count small) ∙ read_lines_end before count (end_line count) [] (bytes_eq-same (end_line count) (end_line count) refl)

-- Lines

-- no line ends others
line_is_no_end : (line : NamedLine) (count : ℕ) → bytes_eq (joined_words line) (end_line count) ≡ false
line_is_no_end (line.Premise (Same pair other)) count = refl
line_is_no_end (line.Premise (PreDepends pair clause)) count = refl
line_is_no_end (line.Premise (Depends pair clause)) count = refl
line_is_no_end (line.Premise (Conflicts pair other)) count = refl
line_is_no_end (line.Premise (Breaks pair other)) count = refl
line_is_no_end (line.Premise (Goal goal)) count = refl
line_is_no_end (line.Premise (GoalOn goal pair)) count = refl
line_is_no_end (line.Premise (Hold pair)) count = refl
line_is_no_end (line.Premise (Essential name)) count = refl
line_is_no_end (line.Premise (Keep name)) count = refl
line_is_no_end (line.Derived [] hints) count = refl
line_is_no_end (line.Derived (Selected pair ∷ later) hints) count = refl
line_is_no_end (line.Derived (Unselected pair ∷ later) hints) count = refl

-- no line is that of an index
line_is_no_index : (line : NamedLine) → index_of (joined_words line) ≡ None
unfolding index_of
line_is_no_index (line.Premise (Same pair other)) = refl
line_is_no_index (line.Premise (PreDepends pair clause)) = refl
line_is_no_index (line.Premise (Depends pair clause)) = refl
line_is_no_index (line.Premise (Conflicts pair other)) = refl
line_is_no_index (line.Premise (Breaks pair other)) = refl
line_is_no_index (line.Premise (Goal goal)) = refl
line_is_no_index (line.Premise (GoalOn goal pair)) = refl
line_is_no_index (line.Premise (Hold pair)) = refl
line_is_no_index (line.Premise (Essential name)) = refl
line_is_no_index (line.Premise (Keep name)) = refl
line_is_no_index (line.Derived [] hints) = refl
line_is_no_index (line.Derived (Selected pair ∷ later) hints) = refl
line_is_no_index (line.Derived (Unselected pair ∷ later) hints) = refl

end_is_no_index : (count : ℕ) → index_of (end_line count) ≡ None
unfolding index_of
end_is_no_index count = refl

line_in_place : (before number : ℕ) (line : NamedLine) → is_writable line ≡ true → is_named line ≡ true → not (is_wide line) ≡ true → number ≤ LINES
    → line_in_text before number (joined_words line) ≡ Ok line
line_in_place before number line h named narrow within =
    ap (numbered_line before number) (line_again line h named) ∙ rw (le-ltb LINES number within, not-true (is_wide line) narrow) refl

-- what is known of lines that are written
record AreGood (lines : List NamedLine) : Type 0 where
  writable : list_all is_writable lines ≡ true
  named : list_all is_named lines ≡ true
  narrow : list_all (λ line. not (is_wide line)) lines ≡ true

-- the same of the first and of those behind it
record IsGoodBefore (line : NamedLine) (later : List NamedLine) : Type 0 where
  writable : is_writable line ≡ true
  named : is_named line ≡ true
  narrow : not (is_wide line) ≡ true
  behind : AreGood later

good_parts : (line : NamedLine) (later : List NamedLine) → AreGood (line ∷ later) → IsGoodBefore line later
good_parts line later good =
    let writable = and_parts (is_writable line) (list_all is_writable later) good.writable in
    let named = and_parts (is_named line) (list_all is_named later) good.named in
    let narrow = and_parts (not (is_wide line)) (list_all (λ other. not (is_wide other)) later) good.narrow in
    record {
      writable = writable.0;
      named = named.0;
      narrow = narrow.0;
      behind = record { writable = writable.1; named = named.1; narrow = narrow.1 };
    }

-- the texts of lines and the line that ends them are read as them
lines_again : (before count : ℕ) (lines : List NamedLine) → AreGood lines → count + length lines ≤ LINES
    → read_lines before count (parts_at 10 (ended count lines)) ≡ Ok lines
lines_again before count [] good within =
    let none : count + length {A = NamedLine} [] ≡ count = omega arith in
    ap (λ n. read_lines before count (parts_at 10 (end_line n ++ 10 ∷ []))) none ∙ end_again before count (omega arith)
lines_again before count (line ∷ later) good within =
    let is = good_parts line later good in
    let end = end_line (count + length (line ∷ later)) ++ 10 ∷ [] in
    let rest = flat_map line_text later ++ end in
    let here : count + 1 ≤ LINES = omega arith in
    let left : (count + 1) + length later ≤ LINES = omega arith in
    let same : count + length (line ∷ later) ≡ (count + 1) + length later = omega arith in
    ap (λ text. read_lines before count (parts_at 10 text)) (append_assoc (line_text line) (flat_map line_text later) end)
    ∙ ap (read_lines before count) (line_parted line rest is.writable is.named)
    ∙ read_lines_more before count (joined_words line) rest (line_is_no_end line count)
    ∙ ap (λ read. put_line read (read_lines before (count + 1) (parts_at 10 rest))) (line_in_place before (count + 1) line is.writable is.named is.narrow here)
    ∙ ap (λ n. put_line (Ok line) (read_lines before (count + 1) (parts_at 10 (flat_map line_text later ++ (end_line n ++ 10 ∷ []))))) same
    ∙ ap (put_line (Ok line)) (lines_again before (count + 1) later is.behind left)

-- before lines and their end no index is cut off
none_cut : (count : ℕ) (lines : List NamedLine) → AreGood lines → count + length lines < 2 ^ 64
    → cut_indices (parts_at 10 (ended count lines)) ≡ ([], parts_at 10 (ended count lines))
none_cut count [] good small =
    let all = count + length {A = NamedLine} [] in
    ap cut_indices (end_parted all small) ∙ cut_none (end_line all) [] (end_is_no_index all)
    ∙ ap (λ (parts : List (List ℕ)). ([], parts)) (sym (end_parted all small))
none_cut count (line ∷ later) good small =
    let is = good_parts line later good in
    let end = end_line (count + length (line ∷ later)) ++ 10 ∷ [] in
    let rest = flat_map line_text later ++ end in
    let parts : parts_at 10 (ended count (line ∷ later)) ≡ joined_words line ∷ parts_at 10 rest =
    ap (parts_at 10) (append_assoc (line_text line) (flat_map line_text later) end) ∙ line_parted line rest is.writable is.named in
    ap cut_indices parts ∙ cut_none (joined_words line) rest (line_is_no_index line) ∙ ap (λ (all : List (List ℕ)). ([], all)) (sym parts)

-- Texts

-- the text behind the header is read as the indices and the lines
behind_again : (refutation : NamedRefutation) → list_all is_index_writable refutation.indices ≡ true → AreGood refutation.lines
    → length refutation.lines ≤ LINES
    → read_behind (cut_indices (parts_at 10 (flat_map index_text refutation.indices ++ ended 0 refutation.lines))) ≡ Ok refutation
behind_again refutation indices good few =
    ap read_behind (indices_again refutation.indices (ended 0 refutation.lines) indices (none_cut 0 refutation.lines good (omega arith)))
    ∙ ap (with_indices refutation.indices) (lines_again (length refutation.indices + 1) 0 refutation.lines good (omega arith))

-- the text of a refutation is read as it
pub refutation_again : (refutation : NamedRefutation) (text : List ℕ) → text ≡ named_text refutation → list_all is_named refutation.lines ≡ true
    → IsReadAs refutation text
unfolding read_named named_text
refutation_again refutation text e named writable limits =
    let indices : List ℕ = flat_map index_text refutation.indices in
    let lines : List ℕ = flat_map line_text refutation.lines in
    let count : 0 + length refutation.lines ≡ length refutation.lines = omega arith in
    let good : AreGood refutation.lines = record { writable = writable.lines; named = named; narrow = limits.narrow } in
    rw (le-ltb TEXT_BYTES (length text) limits.small, e)
    (ap (λ behind. read_behind (cut_indices (parts_at 10 behind)))
    (append_assoc (indices ++ lines) (end_line (length refutation.lines)) (10 ∷ []) ∙ append_assoc indices lines (end_line (length refutation.lines) ++ 10 ∷ [])
    ∙ ap (λ n. indices ++ (lines ++ (end_line n ++ 10 ∷ []))) (sym count))
    ∙ behind_again refutation writable.indices good limits.few)
