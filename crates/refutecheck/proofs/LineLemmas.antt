-- Lines with the lists of their clauses, one after another, and the verdict on them.
use Rattle.std.proofs.Common.{◌≡◌, ℕ, zero, suc, ◌+◌, ◌<◌, ◌≤◌, List, [], ◌∷◌, ◌++◌, Some, length, take, drop, get_or, slice_get, refl, sym, ap, subst, ◌∙◌, arith, length-append}
use Rattle.std.specs.Prelude.{◌↔◌}
use Rattle.std.specs.List.{AllZip, Contains}
use Rattle.std.specs.List.Sorted.{IsStrictlySortedBy}
use Rattle.std.proofs.lemmas.List.{drop_more, length-take-le, take-append-drop, take_all}
use Rattle.std.proofs.lemmas.Option.{get_or_from_slice_get, slice_get_within}
use Rattle.rules.specs.ElementLaws.{Contains-head, Contains-nil}
use Rattle.rules.specs.Universe.{Universe, pair_cmp}
use Rattle.rules.proofs.Rising.{AllPairs-rising}
use Rattle.refutation.specs.Laws.{GoodLinesGrow, HasAscendingPairs, NoneIsAcceptable}
use Rattle.refutation.specs.Refutation.{AreGoodLines, EndsEmpty, IsAccepted, IsFirstBad, IsGoodLine}
use Rattle.refutation.specs.declared.line.Line.{Line}
use Rattle.refutation.specs.declared.literal.Literal.{Literal}
use Rattle.refutecheck.specs.Answer.{AreJudged, EndsWithNone, IsClauseOf, IsRepeatedAt, IsVerdict, Refutes}
use Rattle.refutecheck.specs.declared.verdict.Verdict.{Verdict}
use Rattle.refutecheck.specs.declared.verdict.Verdict.TheVariants as verdict
use mathlib.Core.Logic.{inl, inr}

-- one more of each
zip_push : {X Y : Type 0} (R : X → Y → Type 0) (xs : List X) (ys : List Y) (x : X) (y : Y) → AllZip R xs ys → R x y
    → AllZip R (xs ++ x ∷ []) (ys ++ y ∷ [])
zip_push R [] [] x y all holds = (holds, tt)
zip_push R [] (w ∷ ws) x y all holds = absurd all
zip_push R (z ∷ zs) [] x y all holds = absurd all
zip_push R (z ∷ zs) (w ∷ ws) x y all holds = (all.0, zip_push R zs ws x y all.1 holds)

-- the last of each
record Last {X Y : Type 0} (R : X → Y → Type 0) (xs : List X) (y : Y) : Type 0 where
  pub earlier : List X
  pub last : X
  pub place : xs ≡ earlier ++ last ∷ []
  pub holds : R last y

last_left : {X Y : Type 0} (R : X → Y → Type 0) (xs : List X) (ys : List Y) (y : Y) → AllZip R xs (ys ++ y ∷ []) → Last R xs y
last_left R [] [] y all = absurd all
last_left R [] (w ∷ ws) y all = absurd all
last_left R (x ∷ []) [] y all = record { earlier = []; last = x; place = refl; holds = all.0 }
last_left R (x ∷ z ∷ zs) [] y all = absurd all.1
last_left {X} R (x ∷ xs) (w ∷ ws) y all =
    let later = last_left R xs ws y all.1 in
    record { earlier = x ∷ later.earlier; last = later.last; place = ap (λ (zs : List X). x ∷ zs) later.place; holds = later.holds }

record LastRight {X Y : Type 0} (R : X → Y → Type 0) (ys : List Y) (x : X) : Type 0 where
  pub earlier : List Y
  pub last : Y
  pub place : ys ≡ earlier ++ last ∷ []
  pub holds : R x last

last_right : {X Y : Type 0} (R : X → Y → Type 0) (xs : List X) (ys : List Y) (x : X) → AllZip R (xs ++ x ∷ []) ys → LastRight R ys x
last_right R [] [] x all = absurd all
last_right R (z ∷ zs) [] x all = absurd all
last_right R [] (y ∷ []) x all = record { earlier = []; last = y; place = refl; holds = all.0 }
last_right R [] (y ∷ w ∷ ws) x all = absurd all.1
last_right {X} {Y} R (z ∷ zs) (y ∷ ys) x all =
    let later = last_right R zs ys x all.1 in
    record { earlier = y ∷ later.earlier; last = later.last; place = ap (λ (ws : List Y). y ∷ ws) later.place; holds = later.holds }

-- a list in which there is nothing is empty
nothing_in : (literals : List Literal) → ((literal : Literal) → ¬ Contains literals literal) → literals ≡ []
nothing_in [] none = refl
nothing_in (literal ∷ rest) none = absurd (none literal (Contains-head literal rest))

-- the lines end in an empty clause where their lists do
pub ends_alike : (u : Universe) (lines : List Line) (clauses : List (List Literal)) → AllZip (IsClauseOf u) lines clauses
    → EndsWithNone clauses ↔ EndsEmpty u lines
ends_alike u lines clauses all = (to, from)
  where
    to : EndsWithNone clauses → EndsEmpty u lines
    to (earlier, is) =
        let last = last_left (IsClauseOf u) lines earlier [] (subst (AllZip (IsClauseOf u) lines) is all) in
        record {
          earlier = last.earlier;
          last = last.last;
          place = last.place;
          empty = λ literal within. Contains-nil literal ((last.holds literal).1 within);
        }

    from : EndsEmpty u lines → EndsWithNone clauses
    from ends =
        let With : List Line → Type 0 = λ ls. AllZip (IsClauseOf u) ls clauses in
        let last = last_right (IsClauseOf u) ends.earlier clauses ends.last (subst With ends.place all) in
        let none : last.last ≡ [] = nothing_in last.last (λ literal within. ends.empty literal ((last.holds literal).0 within)) in
        (last.earlier, last.place ∙ ap (λ (c : List Literal). last.earlier ++ c ∷ []) none)

-- one line more, which is good, with its clause
pub one_line_more : (u : Universe) (lines : List Line) (clauses after : List (List Literal)) (line : Line) (clause : List Literal)
    → GoodLinesGrow → AreJudged u lines clauses → IsGoodLine u lines line → IsClauseOf u line clause
    → after ≡ clauses ++ clause ∷ [] → AreJudged u (lines ++ line ∷ []) after
one_line_more u lines clauses after line clause grow judged good list is = record {
  zip = subst (AllZip (IsClauseOf u) (lines ++ line ∷ [])) (sym is) (zip_push (IsClauseOf u) lines clauses line clause judged.zip list);
  good = grow u lines line judged.good good;
  many = ap length is ∙ length-append clauses (clause ∷ []) ∙ ap (λ n. n + 1) judged.many ∙ sym (length-append lines (line ∷ []));
}

-- the list of the line at a place
zip_at : {X Y : Type 0} (R : X → Y → Type 0) (xs : List X) (ys : List Y) (place : ℕ) (x : X) (d : Y) → AllZip R xs ys
    → slice_get xs place ≡ Some x → R x (get_or ys place d)
zip_at R [] ys place x d all is = absurd (let h = is in cc)
zip_at R (z ∷ zs) [] place x d all is = absurd all
zip_at R (z ∷ zs) (w ∷ ws) zero x d all is = subst (λ v. R v w) (let h = is in cc) all.0
zip_at R (z ∷ zs) (w ∷ ws) (suc place) x d all is = zip_at R zs ws place x d all.1 is

-- a premise that was a line before is good once more, and has the clause of that line
pub repeated_line : (u : Universe) (lines : List Line) (clauses : List (List Literal)) (place : ℕ) (line : Line)
    → AreJudged u lines clauses → IsRepeatedAt lines place line
    → (place < length clauses) × IsGoodLine u lines line × IsClauseOf u line (get_or clauses place [])
unfolding AreGoodLines
repeated_line u lines clauses place line judged ((premise, is), there) = (
  omega (arith, within, judged.many),
  subst (IsGoodLine u lines) (sym is) (subst (IsGoodLine u (take place lines)) is good),
  zip_at (IsClauseOf u) lines clauses place line [] judged.zip there,
)
  where
    within : place < length lines
    within = slice_get_within lines place line there

    good : IsGoodLine u (take place lines) line
    good = judged.good (take place lines) (drop (place + 1) lines) line
        (sym (take-append-drop place lines) ∙ ap (λ (rest : List Line). take place lines ++ rest)
        (drop_more lines place line within ∙ ap (λ (line : Line). line ∷ drop (place + 1) lines) (get_or_from_slice_get lines place line line there)))

-- no line is left
pub all_judged : (u : Universe) (lines : List Line) (clauses : List (List Literal)) (index : ℕ) → length lines ≤ index
    → AreJudged u (take index lines) clauses → AreJudged u lines clauses
all_judged u lines clauses index past judged =
    let Over : List Line → Type 0 = λ done. AreJudged u done clauses in subst Over (take_all index lines past) judged

-- the first line that isn't good
pub first_bad : (u : Universe) (lines : List Line) (clauses : List (List Literal)) (index : ℕ) (d : Line) → index < length lines
    → AreJudged u (take index lines) clauses → ¬ IsGoodLine u (take index lines) (get_or lines index d) → IsFirstBad u lines (index + 1)
unfolding IsFirstBad
first_bad u lines clauses index d within judged bad = inl (record {
  earlier = take index lines;
  line = get_or lines index d;
  rest = drop (index + 1) lines;
  place = sym (take-append-drop index lines) ∙ ap (λ (rest : List Line). take index lines ++ rest) (drop_more lines index d within);
  number_is = ap (λ n. n + 1) (sym (length-take-le index lines (omega (arith, within))));
  good = judged.good;
  bad = bad;
})

-- all lines are good, and the last one's clause is empty
pub accepted : (u : Universe) (lines : List Line) (clauses : List (List Literal)) → AreJudged u lines clauses → EndsWithNone clauses
    → IsAccepted u lines
accepted u lines clauses judged ends = record {
  good = judged.good;
  ends = (ends_alike u lines clauses judged.zip).0 ends;
}

-- all lines are good, but the last one's clause isn't empty
pub unfinished : (u : Universe) (lines : List Line) (clauses : List (List Literal)) → AreJudged u lines clauses → ¬ EndsWithNone clauses
    → IsFirstBad u lines (length lines + 1)
unfolding IsFirstBad
unfinished u lines clauses judged isnt = inr (record {
  good = judged.good;
  unfinished = λ ends. isnt ((ends_alike u lines clauses judged.zip).1 ends);
  number_is = refl;
})

-- pairs that are strictly in order ascend
ascending : (u : Universe) → IsStrictlySortedBy pair_cmp u.pairs → HasAscendingPairs u
unfolding HasAscendingPairs
ascending u sorted = AllPairs-rising pair_cmp u.pairs sorted

-- where lines are accepted, no selection is acceptable
pub refutes_all : (u : Universe) (lines : List Line) (answer : Verdict) → NoneIsAcceptable → IsStrictlySortedBy pair_cmp u.pairs
    → IsVerdict u lines answer → Refutes u answer
refutes_all u lines verdict.Yes law sorted is = law u lines (ascending u sorted) is
refutes_all u lines (verdict.No number) law sorted is = tt
