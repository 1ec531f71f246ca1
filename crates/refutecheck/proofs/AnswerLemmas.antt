-- Lists of literals as the clauses of premises.
use Rattle.std.proofs.Common.{◌≡◌, ℕ, ◌+◌, ◌<◌, ◌⊎◌, List, [], ◌∷◌, ◌++◌, Option, Some, None, length, take, get_or, sym, ap, subst, ◌∙◌}
use Rattle.std.specs.Prelude.{◌↔◌, ⊤}
use Rattle.std.specs.List.{Contains}
use Rattle.std.proofs.lemmas.List.{take_more}
use Rattle.std.proofs.lemmas.Option.{same_Some}
use Rattle.rules.specs.ElementLaws.{Any-append, Any-append_left, Any-append_right, Any-elim, Any-intro, Contains-cons, Contains-head, Contains-nil, Contains-rest}
use Rattle.rules.specs.Package.{Atom, Matches, MatchesSome, Pkg}
use Rattle.rules.specs.Universe.{Universe}
use Rattle.refutation.specs.Clause.{HasAt, IsListOf, item_at}
use Rattle.refutation.specs.Premise.{PairHas, Selects}
use Rattle.refutation.specs.declared.literal.Literal.{Literal}
use Rattle.refutation.specs.declared.literal.Literal.TheVariants as literal
use Rattle.universe_parts.specs.Parts.{packages_of}
use Rattle.refutecheck.specs.Answer.{IsClauseWhere, IsNeedOf, IsOutOrMatching}
use Rattle.refutecheck.proofs.PairLemmas.{has_at}
use mathlib.Core.Logic.{inl, inr}

-- an element of a list of one, and of two
pub of_one : {X : Type 0} (one item : X) → Contains (one ∷ []) item ↔ (item ≡ one)
of_one {X} one item = (
  λ within. elim (Contains-cons one [] item within) [ inl same ↦ sym same | inr none ↦ absurd (Contains-nil item none) ],
  λ same. subst (Contains (one ∷ [])) (sym same) (Contains-head one []),
)

pub of_two : {X : Type 0} (one two item : X) → Contains (one ∷ two ∷ []) item ↔ ((item ≡ one) ⊎ (item ≡ two))
of_two {X} one two item = (
  λ within. elim (Contains-cons one (two ∷ []) item within) [
    | inl same ↦ inl (sym same)
    | inr later ↦ inr ((of_one two item).0 later)
  ],
  λ either. elim either [
    | inl same ↦ subst (Contains (one ∷ two ∷ [])) (sym same) (Contains-head one (two ∷ []))
    | inr same ↦ Contains-rest one (two ∷ []) item ((of_one two item).1 same)
  ],
)

-- where one fact holds exactly where the other does, the clause of the one is that of the other
pub where_same : (one other : Type 0) (clause : Literal → Type 0) (answer : Option (List Literal)) → one ↔ other
    → IsClauseWhere one clause answer → IsClauseWhere other clause answer
where_same one other clause None same isnt = λ holds. isnt (same.1 holds)
where_same one other clause (Some literals) same is = (same.0 is.0, is.1)

-- a property that is another's selects the same
pub selects_alike : (u : Universe) (P Q : Pkg → Type 0) → ((pkg : Pkg) → P pkg ↔ Q pkg) → (literal : Literal)
    → Selects u P literal ↔ Selects u Q literal
selects_alike u P Q alike (literal.Selected number) = (
  λ (pair, there, holds). (pair, there, (alike pair.pkg).0 holds),
  λ (pair, there, holds). (pair, there, (alike pair.pkg).1 holds),
)
selects_alike u P Q alike (literal.Unselected number) = (λ is. is, λ is. is)

-- one of two properties selects what one of them selects
selects_either : (u : Universe) (P Q R : Pkg → Type 0) → ((pkg : Pkg) → R pkg ↔ (P pkg ⊎ Q pkg)) → (literal : Literal)
    → Selects u R literal ↔ (Selects u P literal ⊎ Selects u Q literal)
selects_either u P Q R either (literal.Selected number) = (to, from)
  where
    to : Selects u R (literal.Selected number) → Selects u P (literal.Selected number) ⊎ Selects u Q (literal.Selected number)
    to (pair, there, holds) = elim ((either pair.pkg).0 holds) [ inl one ↦ inl (pair, there, one) | inr two ↦ inr (pair, there, two) ]

    from : Selects u P (literal.Selected number) ⊎ Selects u Q (literal.Selected number) → Selects u R (literal.Selected number)
    from (inl (pair, there, one)) = (pair, there, (either pair.pkg).1 (inl one))
    from (inr (pair, there, two)) = (pair, there, (either pair.pkg).1 (inr two))
selects_either u P Q R either (literal.Unselected number) = (λ is. absurd is, λ is. elim is [ inl one ↦ one | inr two ↦ two ])

-- no package matches an atom of the empty list
none_matches : (pkg : Pkg) → ¬ MatchesSome pkg []
unfolding MatchesSome
none_matches pkg some = Any-elim (Matches pkg) [] ⊥ (λ atom within holds. Contains-nil atom within) some

-- a package matches an atom of a list with one more where it matches one of the list or that one
matches_more : (pkg : Pkg) (atoms : List Atom) (atom : Atom)
    → MatchesSome pkg (atoms ++ atom ∷ []) ↔ (MatchesSome pkg atoms ⊎ Matches pkg atom)
unfolding MatchesSome
matches_more pkg atoms atom = (
  λ some. elim (Any-append (Matches pkg) atoms (atom ∷ []) some) [
    | inl before ↦ inl before
    | inr here ↦ inr (Any-elim (Matches pkg) (atom ∷ []) (Matches pkg atom)
        (λ other within holds. subst (Matches pkg) ((of_one atom other).0 within) holds) here)
  ],
  λ either. elim either [
    | inl before ↦ Any-append_left (Matches pkg) atoms (atom ∷ []) before
    | inr holds ↦ Any-append_right (Matches pkg) atoms (atom ∷ [])
        (Any-intro (Matches pkg) (atom ∷ []) atom (Contains-head atom []) holds)
  ],
)

-- before the first atom
pub no_atoms : (u : Universe) (number : ℕ) (disjunct : Literal)
    → Contains (literal.Unselected number ∷ []) disjunct ↔ IsOutOrMatching u number [] disjunct
no_atoms u number disjunct =
    (λ within. inl ((of_one (literal.Unselected number) disjunct).0 within), λ either. from disjunct either)
  where
    from : (f : Literal) → IsOutOrMatching u number [] f → Contains (literal.Unselected number ∷ []) f
    from f (inl out) = (of_one (literal.Unselected number) f).1 out
    from (literal.Selected pair) (inr (here, there, some)) = absurd (none_matches here.pkg some)
    from (literal.Unselected pair) (inr has) = absurd has

-- one atom more
pub one_atom_more : (u : Universe) (number : ℕ) (atoms : List Atom) (index : ℕ) (d : Atom) → index < length atoms
    → (before after : Literal → Type 0) → ((literal : Literal) → before literal ↔ IsOutOrMatching u number (take index atoms) literal)
    → ((literal : Literal) → after literal ↔ (before literal ⊎ Selects u (λ pkg. Matches pkg (get_or atoms index d)) literal))
    → (literal : Literal) → after literal ↔ IsOutOrMatching u number (take (index + 1) atoms) literal
one_atom_more u number atoms index d within before after so_far adds literal =
    let Over : List Atom → Type 0 = λ done. after literal ↔ IsOutOrMatching u number done literal in
    subst Over (sym (take_more atoms index d within)) (to, from)
  where
    last : Atom
    last = get_or atoms index d

    both : Selects u (λ pkg. MatchesSome pkg (take index atoms ++ last ∷ [])) literal
        ↔ (Selects u (λ pkg. MatchesSome pkg (take index atoms)) literal ⊎ Selects u (λ pkg. Matches pkg last) literal)
    both = selects_either u (λ pkg. MatchesSome pkg (take index atoms)) (λ pkg. Matches pkg last)
        (λ pkg. MatchesSome pkg (take index atoms ++ last ∷ [])) (λ pkg. matches_more pkg (take index atoms) last) literal

    to : after literal → IsOutOrMatching u number (take index atoms ++ last ∷ []) literal
    to now = elim ((adds literal).0 now) [
      | inl was ↦ elim ((so_far literal).0 was) [ inl out ↦ inl out | inr some ↦ inr (both.1 (inl some)) ]
      | inr here ↦ inr (both.1 (inr here))
    ]

    from : IsOutOrMatching u number (take index atoms ++ last ∷ []) literal → after literal
    from (inl out) = (adds literal).1 (inl ((so_far literal).1 (inl out)))
    from (inr some) = elim (both.0 some) [
      | inl was ↦ (adds literal).1 (inl ((so_far literal).1 (inr was)))
      | inr here ↦ (adds literal).1 (inr here)
    ]

-- what a premise of Pre-Depends or of Depends says, by the field
abbrev pub NeedsAt : Universe → (Pkg → List (List Atom)) → ℕ → ℕ → Type 0
NeedsAt u field number clause = PairHas u number (λ pkg. HasAt (field pkg) clause (λ _. ⊤))

abbrev pub IsInNeed : Universe → (Pkg → List (List Atom)) → ℕ → ℕ → Literal → Type 0
IsInNeed u field number clause disjunct = (disjunct ≡ literal.Unselected number)
    ⊎ Selects u (λ other. PairHas u number (λ pkg. HasAt (field pkg) clause (MatchesSome other))) disjunct

pub the_clause : (u : Universe) (field : Pkg → List (List Atom)) (number clause : ℕ) (pkg : Pkg) (atoms : List Atom) (literals : List Literal)
    → Some pkg ≡ item_at (packages_of u.pairs) number → Some atoms ≡ item_at (field pkg) clause
    → IsListOf (IsOutOrMatching u number atoms) literals
    → NeedsAt u field number clause × IsListOf (IsInNeed u field number clause) literals
the_clause u field number clause pkg atoms literals is here all = (
  (has_at u number pkg (λ p. HasAt (field p) clause (λ _. ⊤)) (sym is)).0 (atoms, sym here, tt),
  λ literal.
      let same = selects_alike u (λ other. MatchesSome other atoms)
      (λ other. PairHas u number (λ p. HasAt (field p) clause (MatchesSome other))) alike literal in (
        λ within. elim ((all literal).0 within) [ inl out ↦ inl out | inr some ↦ inr (same.0 some) ],
        λ either. elim either [ inl out ↦ (all literal).1 (inl out) | inr some ↦ (all literal).1 (inr (same.1 some)) ],
      ),
)
  where
    alike : (other : Pkg) → MatchesSome other atoms ↔ PairHas u number (λ p. HasAt (field p) clause (MatchesSome other))
    alike other =
        let has = has_at u number pkg (λ p. HasAt (field p) clause (MatchesSome other)) (sym is) in (
          λ some. has.0 (atoms, sym here, some),
          λ there.
              let (others, at, some) = has.1 there in
              subst (MatchesSome other) (same_Some others atoms (sym at ∙ sym here)) some,
        )

-- the clause of the field of the pair's package
pub need_at : (u : Universe) (field : Pkg → List (List Atom)) (number clause : ℕ) (pkg : Pkg) (clauses : List (List Atom))
    (answer : Option (List Literal)) → Some pkg ≡ item_at (packages_of u.pairs) number → clauses ≡ field pkg
    → IsNeedOf u number (item_at clauses clause) answer → IsClauseWhere (NeedsAt u field number clause) (IsInNeed u field number clause) answer
need_at u field number clause pkg clauses None is same none = λ needs.
    let there = (has_at u number pkg (λ p. HasAt (field p) clause (λ _. ⊤)) (sym is)).1 needs in
    let here : item_at (field pkg) clause ≡ None = ap (λ (cs : List (List Atom)). item_at cs clause) (sym same) ∙ none in
    absurd (let e : None ≡ Some there.0 = sym here ∙ there.1 in cc)
need_at u field number clause pkg clauses (Some literals) is same (atoms, at, all) =
    the_clause u field number clause pkg atoms literals is (sym at ∙ ap (λ (cs : List (List Atom)). item_at cs clause) same) all
