-- Lines that are put into a set of texts, and premises that are told by them.
use Rattle.std.proofs.Common.{◌≡◌, ◌∙◌, ◌⊎◌, ◌<◌, ◌+◌, ℕ, Bool, true, false, Bor, List, [], ◌∷◌, ◌++◌, ap, append_assoc, bytes_eq, get_or, if◌then◌else◌, length, map, refl, subst, sym, take}
use Rattle.std.specs.Prelude.{◌↔◌, Some, slice_get}
use Rattle.std.specs.List.{All, Contains, flat_map, list_any}
use Rattle.std.proofs.lemmas.Grind.{flat_map-append}
use Rattle.std.proofs.lemmas.List.{get_or_default, take_more}
use Rattle.std.proofs.lemmas.List.Elements.{All-append, All-push, Contains-append_left, Contains-append_right, Contains-push, Contains-push_cases}
use Rattle.std.proofs.lemmas.Option.{get_or_from_slice_get, slice_get_within}
use Rattle.index.proofs.NameLemmas.{list_any-map}
use Rattle.index.specs.Index.{ReadIndex}
use Rattle.indexmap.specs.IndexSet.{insert_key}
use Rattle.indexmap.proofs.CallerLemmas.{Contains-list_any}
use Rattle.refutation.specs.Premise.{IsPremise}
use Rattle.refutation.specs.declared.line.Line.{Line}
use Rattle.refutation.specs.declared.line.Line.TheVariants as variant
use Rattle.refutation.specs.declared.line.Premise.{Premise}
use Rattle.refutation_sentences.proofs.TruthLemmas.{map-push}
use Rattle.refutation_sentences.specs.Sentences.{AreTruthful, HasBasis, HasSentence, IsBasis, IsSentence, IsTruthful}
use Rattle.refutation_sentences.specs.declared.basis.Basis.{Basis}
use Rattle.rules.specs.ElementLaws.{Contains-map_intro, Contains-nil}
use Rattle.rules.specs.NamedLaws.{bytes_eq-true}
use Rattle.rules.specs.Universe.{Universe}
use mathlib.Core.Logic.{inl, inr}

-- the texts of keys
abbrev pub texts_in : List (Bor (List ℕ)) → List (List ℕ)
texts_in keys = map (λ (key : Bor (List ℕ)). key.now) keys

-- a text in a set with one more
pub line_more : (keys more : List (Bor (List ℕ))) (new : Bor (List ℕ))
    → more ≡ insert_key (λ (a b : Bor (List ℕ)). bytes_eq a.now b.now) keys new → (other : List ℕ)
    → Contains (texts_in more) other ↔ (Contains (texts_in keys) other ⊎ (other ≡ new.now))
line_more keys more new is other = by (list_any (λ (key : Bor (List ℕ)). bytes_eq new.now key.now) keys) refl
  where
    by : (b : Bool) → list_any (λ (key : Bor (List ℕ)). bytes_eq new.now key.now) keys ≡ b
        → Contains (texts_in more) other ↔ (Contains (texts_in keys) other ⊎ (other ≡ new.now))
    by true there =
        let same : more ≡ keys = is ∙ ap (λ (b : Bool). if b then keys else keys ++ new ∷ []) there in
        let within : Contains (texts_in keys) new.now = Contains-list_any bytes_eq bytes_eq-true (texts_in keys) new.now
        (list_any-map (bytes_eq new.now) (λ (key : Bor (List ℕ)). key.now) keys ∙ there) in
        subst (λ (xs : List (Bor (List ℕ))). Contains (texts_in xs) other ↔ (Contains (texts_in keys) other ⊎ (other ≡ new.now))) (sym same) (
          λ it. inl it,
          λ either. elim either [ inl it ↦ it | inr it ↦ subst (Contains (texts_in keys)) (sym it) within ],
        )
    by false there =
        let same : more ≡ keys ++ new ∷ [] = is ∙ ap (λ (b : Bool). if b then keys else keys ++ new ∷ []) there in
        let texts : texts_in more ≡ texts_in keys ++ new.now ∷ [] =
        ap texts_in same ∙ map-push (λ (key : Bor (List ℕ)). key.now) keys new in
        subst (λ (xs : List (List ℕ)). Contains xs other ↔ (Contains (texts_in keys) other ⊎ (other ≡ new.now))) (sym texts) (
          λ it. elim (Contains-push_cases (texts_in keys) new.now other it) [ inl before ↦ inl before | inr is_new ↦ inr (sym is_new) ],
          λ either. elim either [
            | inl it ↦ Contains-append_left (texts_in keys) (new.now ∷ []) other it
            | inr it ↦ subst (Contains (texts_in keys ++ new.now ∷ [])) (sym it) (Contains-push (texts_in keys) new.now)
          ],
        )

-- a premise that is told is told by more lines
pub told_on : (u : Universe) (indices : List ReadIndex) (claim : Premise) (said : List (List ℕ)) (more : List (List ℕ))
    → HasSentence u indices claim said → HasSentence u indices claim (said ++ more)
told_on u indices claim said more has = (has.0, Contains-append_left said more has.0 has.1, has.2)

-- a premise whose basis is there has one among more bases
pub basis_on : (claim : Premise) (bases : List Basis) (more : List Basis) → HasBasis claim bases → HasBasis claim (bases ++ more)
basis_on claim bases more has = (has.0, Contains-append_left bases more has.0 has.1, has.2)

-- one premise more is told
pub text_told : {X : Type 0} (f : X → List ℕ) (u : Universe) (indices : List ReadIndex) (lines : List Line) (bases : List Basis) (place : ℕ) (basis : Basis)
    (texts more : List X) (text : X) → place < length bases → basis ≡ get_or bases place basis → more ≡ texts ++ text ∷ []
    → IsBasis u lines basis → IsSentence u indices basis.premise.now (f text)
    → AreTruthful u indices lines (map f texts) × All (λ (one : Basis). HasSentence u indices one.premise.now (map f texts)) (take place bases)
    → AreTruthful u indices lines (map f more) × All (λ (one : Basis). HasSentence u indices one.premise.now (map f more)) (take (place + 1) bases)
text_told {X} f u indices lines bases place basis texts more text within at is based sentence so_far =
    subst (λ (all : List X). AreTruthful u indices lines (map f all) × All (λ (one : Basis). HasSentence u indices one.premise.now (map f all)) (take (place + 1) bases))
    (sym is)
    (subst (λ (all : List (List ℕ)). AreTruthful u indices lines all × All (λ (one : Basis). HasSentence u indices one.premise.now all) (take (place + 1) bases))
    (sym (map-push f texts text)) (truth, told))
  where
    said : List (List ℕ)
    said = map f texts ++ f text ∷ []

    Told : Basis → Type 0
    Told one = HasSentence u indices one.premise.now said

    truth : AreTruthful u indices lines said
    truth = All-push (IsTruthful u indices lines) (map f texts) (f text) so_far.0 (inl (basis.premise.now, based.0, based.1, sentence))

    earlier : All Told (take place bases)
    earlier k d lt = told_on u indices (get_or (take place bases) k d).premise.now (map f texts) (f text ∷ []) (so_far.1 k d lt)

    here : Told (get_or bases place basis)
    here = subst Told at (f text, Contains-push (map f texts) (f text), sentence)

    told : All Told (take (place + 1) bases)
    told = subst (All Told) (sym (take_more bases place basis within)) (All-push Told (take place bases) (get_or bases place basis) earlier here)

-- the text at a place is one of the texts
pub text_at_place : {X : Type 0} (f : X → List ℕ) (texts : List X) (place : ℕ) (text : X) → Some text ≡ slice_get texts place
    → Contains (map f texts) (f text)
text_at_place f texts place text is =
    Contains-map_intro f texts text (place, slice_get_within texts place text (sym is), get_or_from_slice_get texts place text text (sym is))

-- the lines before and those of the texts so far, with one text more
pub texts_more : {X : Type 0} (f : X → List ℕ) (before keys more : List (List ℕ)) (texts : List X) (place : ℕ) (text : X)
    → place < length texts → text ≡ get_or texts place text
    → ((other : List ℕ) → Contains more other ↔ (Contains keys other ⊎ (other ≡ f text)))
    → ((other : List ℕ) → Contains keys other ↔ (Contains before other ⊎ Contains (map f (take place texts)) other))
    → (other : List ℕ) → Contains more other ↔ (Contains before other ⊎ Contains (map f (take (place + 1) texts)) other)
texts_more {X} f before keys more texts place text within at adds so_far other =
    subst (λ (all : List (List ℕ)). Contains more other ↔ (Contains before other ⊎ Contains all other)) (sym grown) (to, from)
  where
    grown : map f (take (place + 1) texts) ≡ map f (take place texts) ++ f text ∷ []
    grown = ap (map f) (take_more texts place text within) ∙ map-push f (take place texts) (get_or texts place text)
        ∙ ap (λ (one : X). map f (take place texts) ++ f one ∷ []) (sym at)

    to : Contains more other → Contains before other ⊎ Contains (map f (take place texts) ++ f text ∷ []) other
    to it = elim ((adds other).0 it) [
      | inl earlier ↦ elim ((so_far other).0 earlier) [
        | inl was ↦ inl was
        | inr among ↦ inr (Contains-append_left (map f (take place texts)) (f text ∷ []) other among)
      ]
      | inr same ↦ inr (subst (Contains (map f (take place texts) ++ f text ∷ [])) (sym same) (Contains-push (map f (take place texts)) (f text)))
    ]

    from : Contains before other ⊎ Contains (map f (take place texts) ++ f text ∷ []) other → Contains more other
    from either = elim either [
      | inl was ↦ (adds other).1 (inl ((so_far other).1 (inl was)))
      | inr among ↦ elim (Contains-push_cases (map f (take place texts)) (f text) other among) [
        | inl earlier ↦ (adds other).1 (inl ((so_far other).1 (inr earlier)))
        | inr same ↦ (adds other).1 (inr (sym same))
      ]
    ]

-- what is so of all texts is so of the lines that are among them
pub all_among : (P : List ℕ → Type 0) (texts lines : List (List ℕ)) → All P texts → ((other : List ℕ) → Contains lines other → Contains texts other)
    → All P lines
all_among P texts lines all among k d lt =
    let it : Contains texts (get_or lines k d) = among (get_or lines k d) (k, lt, get_or_same lines k d lt) in
    subst P it.2 (all it.0 (get_or lines k d) it.1)
  where
    get_or_same : (xs : List (List ℕ)) (k : ℕ) (d : List ℕ) → k < length xs → get_or xs k (get_or xs k d) ≡ get_or xs k d
    get_or_same xs k d lt = get_or_default xs k (get_or xs k d) d lt

-- no texts are put behind the lines
pub no_texts : (keys : List (List ℕ)) (other : List ℕ) → Contains keys other ↔ (Contains keys other ⊎ Contains [] other)
no_texts keys other = (λ it. inl it, λ either. elim either [ inl it ↦ it | inr none ↦ absurd (Contains-nil other none) ])

-- one line more
pub bases_more : (u : Universe) (lines : List Line) (place : ℕ) (line : Line) (old new : List Basis) → place < length lines
    → line ≡ get_or lines place line → ((claim : Premise) → HasBasis claim old → HasBasis claim new)
    → ((claim : Premise) → line ≡ variant.Premise claim → IsPremise u claim → HasBasis claim new)
    → ((claim : Premise) → Contains (take place lines) (variant.Premise claim) → IsPremise u claim → HasBasis claim old)
    → (claim : Premise) → Contains (take (place + 1) lines) (variant.Premise claim) → IsPremise u claim → HasBasis claim new
bases_more u lines place line old new within at kept added so_far claim there premise =
    elim (Contains-push_cases (take place lines) (get_or lines place line) (variant.Premise claim)
    (subst (λ (xs : List Line). Contains xs (variant.Premise claim)) (take_more lines place line within) there)) [
      | inl earlier ↦ kept claim (so_far claim earlier premise)
      | inr is ↦ added claim (at ∙ is) premise
    ]

-- no line has a premise
pub no_lines : (u : Universe) (bases : List Basis) (claim : Premise) → Contains [] (variant.Premise claim) → IsPremise u claim → HasBasis claim bases
no_lines u bases claim none premise = absurd (Contains-nil (variant.Premise claim) none)
