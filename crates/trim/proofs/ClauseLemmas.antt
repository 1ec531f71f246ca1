-- What follows from lines follows from their copies under other numbers.
use Rattle.std.proofs.Common.{◌≡◌, ℕ, List, [], ◌∷◌, ◌++◌, Some, map, refl, sym, ap, subst, ◌∙◌, append_assoc, arith}
use Rattle.std.specs.Prelude.{slice_index}
use Rattle.std.specs.List.{Contains}
use Rattle.std.proofs.lemmas.List.Elements.{Contains-append_right}
use Rattle.rules.specs.Universe.{Universe}
use Rattle.refutation.specs.Clause.{HasAt, item_at, IsEmptyClause}
use Rattle.refutation.specs.Following.{IsOpen, FalseAfter, EndsFalse}
use Rattle.refutation.specs.Refutation.{IsInLine, IsGoodLine, AreGoodLines}
use Rattle.refutation.specs.declared.line.Line.{Line}
use Rattle.refutation.specs.declared.line.Line.TheVariants as line
use Rattle.refutation.specs.declared.line.Premise.{Premise}
use Rattle.refutation.specs.declared.literal.Literal.{Literal}
use Rattle.refutation.proofs.ListLemmas.{Same, same_after}
use Rattle.trim.specs.Needed.{HintsAt, renumbered}
use Rattle.trim.specs.Kept.{IsCopyOf}
use Rattle.trim.proofs.ItemLemmas.{mapped}

-- the same is open where the same is false
same_open : (falses wrongs clause copy : Literal → Type 0) → Same falses wrongs → Same clause copy → (literal : Literal)
    → IsOpen falses clause literal → IsOpen wrongs copy literal
same_open falses wrongs clause copy same alike literal opened =
    ((alike literal).0 opened.0, λ wrong. opened.1 ((same literal).1 wrong))

back : (one other : Literal → Type 0) → Same one other → Same other one
back one other same literal = ((same literal).1, (same literal).0)

itself : (clause : Literal → Type 0) → Same clause clause
itself clause literal = ((λ within. within), (λ within. within))

-- a copy has the same clause
pub same_clause : (u : Universe) (original copy : Line) → IsCopyOf original copy → Same (IsInLine u original) (IsInLine u copy)
same_clause u (line.Premise premise) copy is =
    subst (λ (other : Line). Same (IsInLine u (line.Premise premise)) (IsInLine u other)) (sym is) (itself (IsInLine u (line.Premise premise)))
same_clause u (line.Derived literals hints) copy is =
    subst (λ (other : Line). Same (IsInLine u (line.Derived literals hints)) (IsInLine u other)) (sym is.1) (itself (Contains literals))

-- the copy of an empty line is empty
pub same_empty : (u : Universe) (original copy : Line) → IsCopyOf original copy → IsEmptyClause (IsInLine u original) → IsEmptyClause (IsInLine u copy)
same_empty u original copy is empty literal within = empty literal ((same_clause u original copy is literal).1 within)

-- a line with other hints is a copy
pub copy_is : (numbers : List ℕ) (original : Line) → IsCopyOf original (renumbered numbers original)
copy_is numbers (line.Premise premise) = refl
copy_is numbers (line.Derived literals hints) = (map (slice_index numbers) hints, refl)

-- the copy of a line has a hint at what the table has for a hint of the line
pub hints_copied : (numbers : List ℕ) (original : Line) (number : ℕ) → HintsAt original number → HintsAt (renumbered numbers original) (slice_index numbers number)
hints_copied numbers (line.Premise premise) number hinted = absurd hinted
hints_copied numbers (line.Derived literals hints) number hinted = mapped (slice_index numbers) hints number hinted

-- a line whose copy is a premise is it
pub premise_copied : (numbers : List ℕ) (original : Line) (premise : Premise) → renumbered numbers original ≡ line.Premise premise → original ≡ line.Premise premise
premise_copied numbers (line.Premise other) premise same = same
premise_copied numbers (line.Derived literals hints) premise same =
    absurd (let e : line.Derived literals (map (slice_index numbers) hints) ≡ line.Premise premise = same in cc)

head_in : (hint : ℕ) (rest : List ℕ) → Contains (hint ∷ rest) hint
head_in hint rest = (0, omega arith, refl)

-- what hints end in is the same over copies under other numbers
moved : (u : Universe) (earlier kept : List Line) (f : ℕ → ℕ) (hints : List ℕ)
    → ((hint : ℕ) → Contains hints hint → (item : Line) → item_at earlier hint ≡ Some item → HasAt kept (f hint) (IsCopyOf item))
    → (falses wrongs : Literal → Type 0) → Same falses wrongs
    → EndsFalse (IsInLine u) earlier falses hints → EndsFalse (IsInLine u) kept wrongs (map f hints)
moved u earlier kept f [] copies falses wrongs same ends = ends
moved u earlier kept f (hint ∷ []) copies falses wrongs same ends =
    let other = copies hint (head_in hint []) ends.0 ends.1 in
    let alike = same_clause u ends.0 other.0 other.2 in
    (other.0, other.1, λ item within. (same item).0 (ends.2 item ((alike item).1 within)))
moved u earlier kept f (hint ∷ next ∷ rest) copies falses wrongs same ends =
    let other = copies hint (head_in hint (next ∷ rest)) ends.0 ends.1 in
    let alike = same_clause u ends.0 other.0 other.2 in
    let to = same_open wrongs falses (IsInLine u other.0) (IsInLine u ends.0) (back falses wrongs same) (back (IsInLine u ends.0) (IsInLine u other.0) alike) in (
      other.0,
      other.1,
      (
        (λ item another one two. ends.2.0 item another (to item one) (to another two)),
        moved u earlier kept f (next ∷ rest) (λ later within. copies later (Contains-append_right (hint ∷ []) (next ∷ rest) later within))
            (FalseAfter falses (IsInLine u ends.0)) (FalseAfter wrongs (IsInLine u other.0))
            (same_after falses wrongs (IsInLine u ends.0) (IsInLine u other.0) same alike) ends.2.1,
      ),
    )

-- a good line is good with other hints behind copies
pub good_copied : (u : Universe) (earlier kept : List Line) (original : Line) (numbers : List ℕ)
    → ((hint : ℕ) → HintsAt original hint → (other : Line) → item_at earlier hint ≡ Some other → HasAt kept (slice_index numbers hint) (IsCopyOf other))
    → IsGoodLine u earlier original → IsGoodLine u kept (renumbered numbers original)
good_copied u earlier kept (line.Premise premise) numbers copies good = good
good_copied u earlier kept (line.Derived literals hints) numbers copies good =
    moved u earlier kept (slice_index numbers) hints copies (Contains literals) (Contains literals) (itself (Contains literals)) good

-- good lines without the last are good
pub front_good : (u : Universe) (earlier : List Line) (original : Line) → AreGoodLines u (earlier ++ original ∷ []) → AreGoodLines u earlier
unfolding AreGoodLines
front_good u earlier original good before rest other place =
    good before (rest ++ original ∷ []) other (ap (λ (lines : List Line). lines ++ original ∷ []) place ∙ append_assoc before (other ∷ rest) (original ∷ []))

-- and the last is good behind the others
pub last_good : (u : Universe) (earlier : List Line) (original : Line) → AreGoodLines u (earlier ++ original ∷ []) → IsGoodLine u earlier original
unfolding AreGoodLines
last_good u earlier original good = good earlier [] original refl
