-- Lists of literals as the clauses of premises.
use Rattle.std.proofs.Common.{◌≡◌, ℕ, ◌+◌, ◌<◌, ◌⊎◌, List, [], ◌∷◌, ◌++◌, length, take, get_or, refl, sym, subst}
use Rattle.std.specs.Prelude.{◌↔◌}
use Rattle.std.specs.List.{Contains}
use Rattle.std.proofs.lemmas.List.{take_more}
use Rattle.std.proofs.lemmas.List.Elements.{Contains-append_cases, Contains-append_left, Contains-append_right}
use Rattle.rules.specs.ElementLaws.{Contains-cons, Contains-head, Contains-nil, Contains-rest}
use Rattle.rules.specs.Package.{Pkg}
use Rattle.rules.specs.Universe.{Universe}
use Rattle.refutation.specs.Clause.{IsListOf}
use Rattle.refutation.specs.Premise.{Selects}
use Rattle.refutation.specs.declared.literal.Literal.{Literal}
use Rattle.refutation.specs.declared.literal.Literal.TheVariants as literal
use Rattle.encode.specs.Numbers.{AreNumbersOf, SelectsOneOf}
use mathlib.Core.Logic.{inl, inr}

-- an element of a list of one, and of two
pub of_one : {X : Type 0} (one item : X) → Contains (one ∷ []) item ↔ (item ≡ one)
of_one {X} one item = (
  λ within. elim (Contains-cons one [] item within) [ inl same ↦ sym same | inr none ↦ absurd (Contains-nil item none) ],
  λ same. subst (Contains (one ∷ [])) (sym same) (Contains-head one []),
)

pub of_two : {X : Type 0} (one two item : X) → Contains (one ∷ two ∷ []) item ↔ ((item ≡ one) ⊎ (item ≡ two))
of_two {X} one two item = (
  λ within. elim (Contains-cons one (two ∷ []) item within) [
    | inl same ↦ inl (sym same)
    | inr later ↦ inr ((of_one two item).0 later)
  ],
  λ either. elim either [
    | inl same ↦ subst (Contains (one ∷ two ∷ [])) (sym same) (Contains-head one (two ∷ []))
    | inr same ↦ Contains-rest one (two ∷ []) item ((of_one two item).1 same)
  ],
)

-- an element of a list with one more behind it
pub of_more : {X : Type 0} (xs : List X) (x item : X) → Contains (xs ++ x ∷ []) item ↔ (Contains xs item ⊎ (item ≡ x))
of_more xs x item = (
  λ within. elim (Contains-append_cases xs (x ∷ []) item within) [
    | inl before ↦ inl before
    | inr here ↦ inr ((of_one x item).0 here)
  ],
  λ either. elim either [
    | inl before ↦ Contains-append_left xs (x ∷ []) item before
    | inr same ↦ Contains-append_right xs (x ∷ []) item ((of_one x item).1 same)
  ],
)

-- one number more: what says that its pair is selected
pub selects_more : (numbers : List ℕ) (index : ℕ) → index < length numbers → (item : Literal)
    → SelectsOneOf (take (index + 1) numbers) item
    ↔ (SelectsOneOf (take index numbers) item ⊎ (item ≡ literal.Selected (get_or numbers index 0)))
selects_more numbers index within item =
    let Over : List ℕ → Type 0 = λ done. SelectsOneOf done item
    ↔ (SelectsOneOf (take index numbers) item ⊎ (item ≡ literal.Selected (get_or numbers index 0))) in
    subst Over (sym (take_more numbers index 0 within)) (to, from)
  where
    last : ℕ
    last = get_or numbers index 0

    Selected : ℕ → Type 0
    Selected number = item ≡ literal.Selected number

    to : SelectsOneOf (take index numbers ++ last ∷ []) item → SelectsOneOf (take index numbers) item ⊎ (item ≡ literal.Selected last)
    to (number, there, is) = elim ((of_more (take index numbers) last number).0 there) [
      | inl before ↦ inl (number, before, is)
      | inr same ↦ inr (subst Selected same is)
    ]

    from : SelectsOneOf (take index numbers) item ⊎ (item ≡ literal.Selected last) → SelectsOneOf (take index numbers ++ last ∷ []) item
    from (inl (number, there, is)) = (number, (of_more (take index numbers) last number).1 (inl there), is)
    from (inr is) = (last, Contains-append_right (take index numbers) (last ∷ []) last (Contains-head last []), is)

-- nothing is selected by no number
pub selects_none : (numbers : List ℕ) (item : Literal) → ¬ SelectsOneOf (take 0 numbers) item
selects_none numbers item (number, there, is) = Contains-nil number there

-- the numbers of the pairs with a property say just that one of these pairs is selected
pub selects_all : (u : Universe) (P : Pkg → Type 0) (numbers : List ℕ) → AreNumbersOf u P numbers → (item : Literal)
    → SelectsOneOf numbers item ↔ Selects u P item
selects_all u P numbers are item = (to, from item)
  where
    to : SelectsOneOf numbers item → Selects u P item
    to (number, there, is) = subst (Selects u P) (sym is) ((are number).0 there)

    from : (f : Literal) → Selects u P f → SelectsOneOf numbers f
    from (literal.Selected number) has = (number, (are number).1 has, refl)
    from (literal.Unselected number) has = absurd has

-- one number more: the literals with the one that says that its pair is selected
pub one_selected_more : (numbers : List ℕ) (index : ℕ) → index < length numbers → (before middle after : List Literal)
    → ((item : Literal) → Contains middle item ↔ (Contains before item ⊎ SelectsOneOf (take index numbers) item))
    → after ≡ middle ++ literal.Selected (get_or numbers index 0) ∷ []
    → (item : Literal) → Contains after item ↔ (Contains before item ⊎ SelectsOneOf (take (index + 1) numbers) item)
one_selected_more numbers index within before middle after so_far is item =
    let Over : List Literal → Type 0 = λ xs. Contains xs item ↔ (Contains before item ⊎ SelectsOneOf (take (index + 1) numbers) item) in
    let last = literal.Selected (get_or numbers index 0) in
    let behind = of_more middle last item in
    let more = selects_more numbers index within item in
    subst Over (sym is) (
      λ now. elim (behind.0 now) [
        | inl earlier ↦ elim ((so_far item).0 earlier) [ inl was ↦ inl was | inr some ↦ inr (more.1 (inl some)) ]
        | inr here ↦ inr (more.1 (inr here))
      ],
      λ either. elim either [
        | inl was ↦ behind.1 (inl ((so_far item).1 (inl was)))
        | inr some ↦ elim (more.0 some) [
          | inl earlier ↦ behind.1 (inl ((so_far item).1 (inr earlier)))
          | inr here ↦ behind.1 (inr here)
        ]
      ],
    )

-- before the first number
pub no_selected : (numbers : List ℕ) (before : List Literal) (item : Literal)
    → Contains before item ↔ (Contains before item ⊎ SelectsOneOf (take 0 numbers) item)
no_selected numbers before item = (
  λ within. inl within,
  λ either. elim either [ inl within ↦ within | inr some ↦ absurd (selects_none numbers item some) ],
)

-- the literals of the numbers of the pairs with a property, behind none
pub only_selected : (u : Universe) (P : Pkg → Type 0) (numbers slice : List ℕ) → slice ≡ numbers → AreNumbersOf u P numbers
    → (before after : List Literal)
    → ((item : Literal) → Contains after item ↔ (Contains before item ⊎ SelectsOneOf slice item)) → before ≡ []
    → IsListOf (Selects u P) after
only_selected u P numbers slice is are before after adds empty item =
    let Adds : List ℕ → Type 0 = λ ns. Contains after item ↔ (Contains before item ⊎ SelectsOneOf ns item) in
    let here : Adds numbers = subst Adds is (adds item) in
    let all = selects_all u P numbers are item in (
      λ within. elim (here.0 within) [
        | inl was ↦ absurd (Contains-nil item (subst (λ (xs : List Literal). Contains xs item) empty was))
        | inr some ↦ all.0 some
      ],
      λ has. here.1 (inr (all.1 has)),
    )

-- the same behind one literal
pub one_or_selected : (u : Universe) (P : Pkg → Type 0) (numbers slice : List ℕ) → slice ≡ numbers → AreNumbersOf u P numbers
    → (one : Literal) (before after : List Literal)
    → ((item : Literal) → Contains after item ↔ (Contains before item ⊎ SelectsOneOf slice item)) → before ≡ one ∷ []
    → IsListOf (λ item. (item ≡ one) ⊎ Selects u P item) after
one_or_selected u P numbers slice is are one before after adds alone item =
    let Adds : List ℕ → Type 0 = λ ns. Contains after item ↔ (Contains before item ⊎ SelectsOneOf ns item) in
    let here : Adds numbers = subst Adds is (adds item) in
    let all = selects_all u P numbers are item in
    let Within : List Literal → Type 0 = λ xs. Contains xs item in (
      λ within. elim (here.0 within) [
        | inl was ↦ inl ((of_one one item).0 (subst Within alone was))
        | inr some ↦ inr (all.0 some)
      ],
      λ either. elim either [
        | inl same ↦ here.1 (inl (subst Within (sym alone) ((of_one one item).1 same)))
        | inr has ↦ here.1 (inr (all.1 has))
      ],
    )

-- a list that is another has its literals
pub slice_list : (clause : Literal → Type 0) (literals slice : List Literal) → slice ≡ literals → IsListOf clause literals → IsListOf clause slice
slice_list clause literals slice is list =
    let Over : List Literal → Type 0 = λ xs. IsListOf clause xs in subst Over (sym is) list
