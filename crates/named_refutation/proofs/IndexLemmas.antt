-- Indices read so far, and those that are cut off behind them.
use Rattle.std.proofs.Common.{◌≡◌, ℕ, List, [], ◌∷◌, ◌++◌, Some, None, refl, sym, ap, ◌∙◌, append_assoc, append-nil}
use Rattle.plantext.specs.Cut.{SplitsPart, parts_at}
use Rattle.plantext.specs.declared.cut.TheConstants.{NEWLINE}
use Rattle.plantext.proofs.PartLemmas.{parts_some}
use Rattle.named_refutation.specs.Index.{index_of}
use Rattle.named_refutation.specs.Text.{cut_indices, put_index}
use Rattle.named_refutation.specs.declared.named.IndexLine.{IndexLine}

-- the indices before those that are cut off behind them
abbrev pub put_indices : List IndexLine → List IndexLine × List (List ℕ) → List IndexLine × List (List ℕ)
put_indices indices cut = (indices ++ cut.0, cut.1)

-- an index that has its newline is cut off before what is behind it
pub cut_more : (index : IndexLine) (text rest : List ℕ) → index_of text ≡ Some index
    → cut_indices (text ∷ parts_at NEWLINE rest) ≡ put_index index (cut_indices (parts_at NEWLINE rest))
cut_more index text rest is = let some = parts_some NEWLINE rest in rw (some.2, is) refl

-- before another line nothing is cut off
pub cut_none : (text rest : List ℕ) → index_of text ≡ None → cut_indices (text ∷ parts_at NEWLINE rest) ≡ ([], text ∷ parts_at NEWLINE rest)
cut_none text rest is = let some = parts_some NEWLINE rest in rw (some.2, is) refl

-- one more index is read
pub index_read : (indices : List IndexLine) (index : IndexLine) (text line rest : List ℕ) → SplitsPart NEWLINE text line rest
    → index_of line ≡ Some index
    → put_indices (indices ++ index ∷ []) (cut_indices (parts_at NEWLINE rest)) ≡ put_indices indices (cut_indices (parts_at NEWLINE text))
index_read indices index text line rest split is =
    let cut = cut_indices (parts_at NEWLINE rest) in
    ap (λ (all : List IndexLine). (all, cut.1)) (append_assoc indices (index ∷ []) cut.0)
    ∙ sym (ap (put_indices indices) (ap cut_indices split.parts ∙ cut_more index line rest is))

-- the line that is left is none of an index
pub indices_read : (indices : List IndexLine) (text line rest : List ℕ) → SplitsPart NEWLINE text line rest → index_of line ≡ None
    → (indices, parts_at NEWLINE text) ≡ put_indices indices (cut_indices (parts_at NEWLINE text))
indices_read indices text line rest split is =
    sym (ap (put_indices indices) (ap cut_indices split.parts ∙ cut_none line rest is)
    ∙ ap (λ (all : List IndexLine). (all, line ∷ parts_at NEWLINE rest)) (append-nil indices)
    ∙ ap (λ (parts : List (List ℕ)). (indices, parts)) (sym split.parts))

-- no line is left
pub all_read : (indices : List IndexLine) (text : List ℕ) → parts_at NEWLINE text ≡ text ∷ []
    → (indices, parts_at NEWLINE text) ≡ put_indices indices (cut_indices (parts_at NEWLINE text))
all_read indices text last =
    sym (ap (put_indices indices) (ap cut_indices last)
    ∙ ap (λ (all : List IndexLine). (all, text ∷ [])) (append-nil indices)
    ∙ ap (λ (parts : List (List ℕ)). (indices, parts)) (sym last))
