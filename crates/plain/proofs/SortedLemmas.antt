-- Lists of names in order: a name put at its place, all names of a list from the greatest down, and the least name with a
-- property.
use Rattle.std.proofs.Common.{◌≡◌, ℕ, List, [], ◌∷◌, ◌⊎◌, refl, sym, ap, subst, ◌∙◌, arith}
use Rattle.std.specs.Prelude.{◌↔◌}
use Rattle.std.specs.Cmp.Lexicographic.{nat_list_cmp_total}
use Rattle.std.specs.List.{AllPairs, Any, Contains}
use Rattle.std.specs.Ordering.{ordering_reverse}
use Rattle.std.specs.declared.cmp.Ordering.{Ordering}
use Rattle.std.specs.declared.cmp.Ordering.TheVariants.{Less, Equal, Greater}
use Rattle.std.proofs.lemmas.List.Elements.{All-contains}
use Rattle.std.proofs.lemmas.List.Kept.{AllPairs-cons}
use Rattle.std.proofs.lemmas.Map.Lookups.{exact_bytes}
use Rattle.rules.specs.ElementLaws.{All-intro, Any-intro, Any-elim, Any-contains, Contains-cons, Contains-head, Contains-nil, Contains-rest}
use Rattle.rules.specs.Name.{IsAscending, name_cmp}
use Rattle.rules.proofs.Decided.{dec_Any}
use Rattle.rules.proofs.Rising.{pairs_head, pairs_tail}
use Rattle.plain.proofs.UnpackLemmas.{less_differ}
use mathlib.Core.Logic.{inl, inr}

abbrev pub Name : Type 0
Name = List ℕ

-- no name is below itself, and of two only one is below the other
pub not_below_itself : (name : Name) → ¬ (name_cmp name name ≡ Less)
not_below_itself name below = less_differ name name below refl

pub not_both : (name other : Name) → name_cmp name other ≡ Less → ¬ (name_cmp other name ≡ Less)
not_both name other below above = not_below_itself name (nat_list_cmp_total.trans name other name below above)

-- of two names one is below the other, or they are one
pub either_below : (name other : Name) → (name_cmp name other ≡ Less) ⊎ ((name ≡ other) ⊎ (name_cmp other name ≡ Less))
either_below name other = at (name_cmp name other) refl
  where
    at : (o : Ordering) → name_cmp name other ≡ o → (name_cmp name other ≡ Less) ⊎ ((name ≡ other) ⊎ (name_cmp other name ≡ Less))
    at Less is = inl is
    at Equal is = inr (inl (exact_bytes name other is))
    at Greater is = inr (inr (nat_list_cmp_total.antisymm other name ∙ ap ordering_reverse is))

-- lists in a strict order of which two names are one or in order
module _ (IsBefore : Name → Name → Type 0) (either : (name other : Name) → IsBefore name other ⊎ ((name ≡ other) ⊎ IsBefore other name))
    (through : (name other another : Name) → IsBefore name other → IsBefore other another → IsBefore name another) where
  -- a name put at its place
  pub put : (name : Name) (names : List Name) → AllPairs IsBefore names
      → (more : List Name) × AllPairs IsBefore more × ((other : Name) → Contains more other ↔ ((name ≡ other) ⊎ Contains names other))
  put name [] rises = (
    name ∷ [],
    AllPairs-cons IsBefore name [] (All-intro (IsBefore name) [] (λ b within. absurd (Contains-nil b within))) rises,
    λ other. (
      Contains-cons name [] other,
      λ either_. elim either_ [ inl same ↦ subst (Contains (name ∷ [])) same (Contains-head name []) | inr none ↦ absurd (Contains-nil other none) ],
    ),
  )
  put name (first ∷ rest) rises = at (either name first) (put name rest (pairs_tail IsBefore first rest rises))
    where
      heads : (b : Name) → Contains rest b → IsBefore first b
      heads b within = All-contains (IsBefore first) rest b (pairs_head IsBefore first rest rises) within

      behind_name : IsBefore name first → (b : Name) → Contains (first ∷ rest) b → IsBefore name b
      behind_name before b within = elim (Contains-cons first rest b within) [
        | inl same ↦ subst (IsBefore name) same before
        | inr behind ↦ through name first b before (heads b behind)
      ]

      at : IsBefore name first ⊎ ((name ≡ first) ⊎ IsBefore first name)
          → (more : List Name) × AllPairs IsBefore more × ((other : Name) → Contains more other ↔ ((name ≡ other) ⊎ Contains rest other))
          → (more : List Name) × AllPairs IsBefore more × ((other : Name) → Contains more other ↔ ((name ≡ other) ⊎ Contains (first ∷ rest) other))
      at (inr (inr before)) later = (
        first ∷ later.0,
        AllPairs-cons IsBefore first later.0 (All-intro (IsBefore first) later.0 (λ b within.
            elim ((later.2 b).0 within) [ inl same ↦ subst (IsBefore first) same before | inr behind ↦ heads b behind ])) later.1,
        λ other. (
          (λ within. elim (Contains-cons first later.0 other within) [
            | inl same ↦ inr (subst (Contains (first ∷ rest)) same (Contains-head first rest))
            | inr behind ↦ elim ((later.2 other).0 behind) [ inl same ↦ inl same | inr further ↦ inr (Contains-rest first rest other further) ]
          ]),
          (λ either_. elim either_ [
            | inl same ↦ Contains-rest first later.0 other ((later.2 other).1 (inl same))
            | inr within ↦ elim (Contains-cons first rest other within) [
              | inl same ↦ subst (Contains (first ∷ later.0)) same (Contains-head first later.0)
              | inr behind ↦ Contains-rest first later.0 other ((later.2 other).1 (inr behind))
            ]
          ]),
        ),
      )
      at (inr (inl is)) later = (
        first ∷ rest,
        rises,
        λ other. (
          (λ within. inr within),
          (λ either_. elim either_ [
            | inl same ↦ subst (Contains (first ∷ rest)) (sym is ∙ same) (Contains-head first rest)
            | inr within ↦ within
          ]),
        ),
      )
      at (inl before) later = (
        name ∷ first ∷ rest,
        AllPairs-cons IsBefore name (first ∷ rest) (All-intro (IsBefore name) (first ∷ rest) (behind_name before)) rises,
        λ other. (
          Contains-cons name (first ∷ rest) other,
          (λ either_. elim either_ [
            | inl same ↦ subst (Contains (name ∷ first ∷ rest)) same (Contains-head name (first ∷ rest))
            | inr within ↦ Contains-rest name (first ∷ rest) other within
          ]),
        ),
      )

-- each name is above all that follow it
abbrev pub IsDescending : List Name → Type 0
IsDescending names = AllPairs (λ earlier later. name_cmp later earlier ≡ Less) names

-- a name put at its place among ascending ones
pub put_up : (name : Name) (names : List Name) → IsAscending names
    → (more : List Name) × IsAscending more × ((other : Name) → Contains more other ↔ ((name ≡ other) ⊎ Contains names other))
put_up = put (λ a b. name_cmp a b ≡ Less) either_below nat_list_cmp_total.trans

-- of two names one is above the other, or they are one
either_above : (name other : Name) → (name_cmp other name ≡ Less) ⊎ ((name ≡ other) ⊎ (name_cmp name other ≡ Less))
either_above name other = elim (either_below other name) [
  | inl below ↦ inl below
  | inr (inl same) ↦ inr (inl (sym same))
  | inr (inr above) ↦ inr (inr above)
]

-- all names of a list, from the greatest down
pub sorted : (names : List Name) → (falling : List Name) × IsDescending falling × ((name : Name) → Contains names name → Contains falling name)
sorted [] = ([], (λ i j d before within. absurd (omega arith)), λ name within. within)
sorted (first ∷ rest) =
    let later = sorted rest in
    let more = put (λ a b. name_cmp b a ≡ Less) either_above (λ a b c above below. nat_list_cmp_total.trans c b a below above) first later.0 later.1 in (
      more.0,
      more.1,
      λ name within. (more.2 name).1 (elim (Contains-cons first rest name within) [
        | inl same ↦ inl same
        | inr behind ↦ inr (later.2 name behind)
      ]),
    )

-- strict orders of which two names are one or in order
module _ (IsBefore : Name → Name → Type 0) (either : (name other : Name) → IsBefore name other ⊎ ((name ≡ other) ⊎ IsBefore other name))
    (through : (name other another : Name) → IsBefore name other → IsBefore other another → IsBefore name another)
    (never : (name : Name) → ¬ IsBefore name name) where
  -- of the names with a property there is a first
  pub first_of : (P : Name → Type 0) → ((name : Name) → Dec (P name)) → (names : List Name) → Any P names
      → (name : Name) × P name × ((other : Name) → Contains names other → P other → ¬ IsBefore other name)
  first_of P each [] some = absurd (Contains-nil some.1 (Any-contains P [] some))
  first_of P each (first ∷ rest) some = at (dec_Any P each rest) (λ behind. first_of P each rest behind)
    where
      -- the first of the rest, beside a head that has the property
      beside : (name : Name) → P name → ((other : Name) → Contains rest other → P other → ¬ IsBefore other name)
          → P first → IsBefore first name ⊎ ((first ≡ name) ⊎ IsBefore name first)
          → (name : Name) × P name × ((other : Name) → Contains (first ∷ rest) other → P other → ¬ IsBefore other name)
      beside name has none here (inl before) = (
        first,
        here,
        λ other within holds earlier. elim (Contains-cons first rest other within) [
          | inl same ↦ never first (subst (λ n. IsBefore n first) (sym same) earlier)
          | inr behind ↦ none other behind holds (through other first name earlier before)
        ],
      )
      beside name has none here (inr (inl is)) = (
        name,
        has,
        λ other within holds earlier. elim (Contains-cons first rest other within) [
          | inl same ↦ never name (subst (λ n. IsBefore n name) (sym same ∙ is) earlier)
          | inr behind ↦ none other behind holds earlier
        ],
      )
      beside name has none here (inr (inr after)) = (
        name,
        has,
        λ other within holds earlier. elim (Contains-cons first rest other within) [
          | inl same ↦ never name (through name first name after (subst (λ n. IsBefore n name) (sym same) earlier))
          | inr behind ↦ none other behind holds earlier
        ],
      )

      joined : (name : Name) → P name → ((other : Name) → Contains rest other → P other → ¬ IsBefore other name) → Dec (P first)
          → (name : Name) × P name × ((other : Name) → Contains (first ∷ rest) other → P other → ¬ IsBefore other name)
      joined name has none (yes here) = beside name has none here (either first name)
      joined name has none (no fails) = (
        name,
        has,
        λ other within holds earlier. elim (Contains-cons first rest other within) [
          | inl same ↦ fails (subst P (sym same) holds)
          | inr behind ↦ none other behind holds earlier
        ],
      )

      at : Dec (Any P rest)
          → (Any P rest → (name : Name) × P name × ((other : Name) → Contains rest other → P other → ¬ IsBefore other name))
          → (name : Name) × P name × ((other : Name) → Contains (first ∷ rest) other → P other → ¬ IsBefore other name)
      at (yes behind) later = let of_rest = later behind in joined of_rest.0 of_rest.1 of_rest.2 (each first)
      at (no none) later = (
        first,
        Any-elim P (first ∷ rest) (P first) (λ name within has. elim (Contains-cons first rest name within) [
          | inl same ↦ subst P (sym same) has
          | inr behind ↦ absurd (none (Any-intro P rest name behind has))
        ]) some,
        λ other within holds earlier. elim (Contains-cons first rest other within) [
          | inl same ↦ never first (subst (λ n. IsBefore n first) (sym same) earlier)
          | inr behind ↦ none (Any-intro P rest other behind holds)
        ],
      )

-- of the names with a property there is a least, and there is a greatest
pub least_of : (P : Name → Type 0) → ((name : Name) → Dec (P name)) → (names : List Name) → Any P names
    → (name : Name) × P name × ((other : Name) → Contains names other → P other → ¬ (name_cmp other name ≡ Less))
least_of = first_of (λ a b. name_cmp a b ≡ Less) either_below nat_list_cmp_total.trans not_below_itself

pub greatest_of : (P : Name → Type 0) → ((name : Name) → Dec (P name)) → (names : List Name) → Any P names
    → (name : Name) × P name × ((other : Name) → Contains names other → P other → ¬ (name_cmp name other ≡ Less))
greatest_of = first_of (λ a b. name_cmp b a ≡ Less) either_above (λ a b c above below. nat_list_cmp_total.trans c b a below above) not_below_itself
