-- A table of where the offers of each name stand: a name that is entered, and what is found.
use Rattle.std.proofs.Common.{◌≡◌, ℕ, ◌+◌, ◌<◌, ◌≤◌, Bool, true, false, cond, List, [], ◌∷◌, None, Some, Bor, Contains, is_some, length, take, drop, refl, sym, ap, subst, ◌∙◌, bytes_eq, arith}
use Rattle.std.specs.List.{filter, prefix_len}
use Rattle.std.specs.List.Sorted.{IsStrictlySortedBy}
use Rattle.std.specs.Ordering.{is_le}
use Rattle.std.proofs.Math.Seq.{take-add}
use Rattle.std.proofs.lemmas.Bool.{cases_Bool, true≢false}
use Rattle.std.proofs.lemmas.List.{drop-drop, drop-take, length-drop, take-append-drop, take_all}
use Rattle.std.proofs.lemmas.List.Elements.{All-append, All-contains, All-weaker}
use Rattle.std.proofs.lemmas.List.Sums.{prefix_len-le-length}
use Rattle.rules.specs.ElementLaws.{All-intro, Contains-filter, Contains-head}
use Rattle.rules.specs.Name.{name_cmp}
use Rattle.rules.specs.NamedLaws.{bytes_eq-same, bytes_eq-true}
use Rattle.providers.specs.Offers.{Offer, is_offer_of, offer_cmp}
use Rattle.providers.specs.Spans.{AreSpans, HasNames, HasNoNames, IsSpan, IsTable, IsTableUpTo, span_in}
use Rattle.providers.proofs.CutLemmas.{front_passes_each, sorted_behind, within_drop}
use Rattle.providers.proofs.RunLemmas.{behind_run, first_is_least, run_is}
use mathlib.Core.Logic.{inl, inr}

-- a table of names and places
abbrev pub Table : Type 0
Table = List (Bor (List ℕ) × (ℕ × ℕ))

-- each name of the first table is one of the second
abbrev pub KeepsNames : Table → Table → Type 0
KeepsNames old new = (name : List ℕ) → is_some (span_in old name) ≡ true → is_some (span_in new name) ≡ true

-- the second table is the first with the key's span
abbrev pub IsEntered : Table → Table → Bor (List ℕ) → ℕ × ℕ → Type 0
IsEntered old new key span = (name : List ℕ) → span_in new name ≡ cond (bytes_eq key.now name) (Some span) (span_in old name)

module _ (offers : List Offer) (old new : Table) (key : Bor (List ℕ)) (span : ℕ × ℕ) (entered : IsEntered old new key span) where
  pub right_entered : AreSpans offers old → IsSpan key.now offers span.0 span.1 → AreSpans offers new
  right_entered right is name start end is_span = elim (cases_Bool (bytes_eq key.now name)) [
    | inl same ↦
        let here : Some span ≡ Some (start, end) = sym (rw same at (entered name)) ∙ is_span in
        let at : span ≡ (start, end) = cc in
        subst (λ (s : ℕ × ℕ). IsSpan name offers s.0 s.1) at (subst (λ (n : List ℕ). IsSpan n offers span.0 span.1) (bytes_eq-true key.now name same) is)
    | inr other ↦ right name start end (sym (rw other at (entered name)) ∙ is_span)
  ]

  pub kept_entered : KeepsNames old new
  kept_entered name there = elim (cases_Bool (bytes_eq key.now name)) [
    | inl same ↦ ap is_some (rw same at (entered name))
    | inr other ↦ ap is_some (rw other at (entered name)) ∙ there
  ]

  pub is_entered : is_some (span_in new key.now) ≡ true
  is_entered = ap is_some (rw (bytes_eq-same key.now key.now refl) at (entered key.now))

-- the table up to a place, with the span of the name of the offer that stands there
module _ (offers : List Offer) (start : ℕ) (first : Offer) (old new : Table) (key : Bor (List ℕ)) (run : ℕ)
    (up : IsStrictlySortedBy offer_cmp offers) (is : drop start offers ≡ first ∷ drop (start + 1) offers) (named : key.now ≡ first.name)
    (long : run ≡ prefix_len (is_offer_of key.now) (drop start offers)) (before : IsTableUpTo offers start old)
    (entered : IsEntered old new key (start, start + run)) where
  abbrev left : List Offer
  left = drop start offers

  first_within : Contains left first
  first_within = subst (λ (xs : List Offer). Contains xs first) (sym is) (Contains-head first (drop (start + 1) offers))

  -- the offers before it are of other names, since the table has theirs
  apart_before : (offer : Offer) → Contains (take start offers) offer → is_offer_of key.now offer ≡ false
  apart_before offer within = elim (cases_Bool (is_offer_of key.now offer)) [
    | inl same ↦
        let there : is_some (span_in old offer.name) ≡ true = All-contains (λ offer. is_some (span_in old offer.name) ≡ true) (take start offers) offer before.whole within in
        let none : span_in old first.name ≡ None = All-contains (λ offer. span_in old offer.name ≡ None) left first before.later first_within in
        let alike : offer.name ≡ first.name = bytes_eq-true offer.name key.now same ∙ named in
        absurd (true≢false (sym there ∙ ap (λ (n : List ℕ). is_some (span_in old n)) alike ∙ ap is_some none))
    | inr other ↦ other
  ]

  -- and so are those behind its run, since offers are in the order of their names
  apart_behind : (offer : Offer) → Contains (drop run left) offer → is_offer_of key.now offer ≡ false
  apart_behind offer within = behind_run key.now left (sorted_behind offer_cmp start offers up)
      (λ other inside.
      ap (λ (n : List ℕ). is_le (name_cmp n other.name)) named
      ∙ first_is_least first (drop (start + 1) offers) (subst (IsStrictlySortedBy offer_cmp) is (sorted_behind offer_cmp start offers up))
      other (subst (λ (xs : List Offer). Contains xs other) is inside))
      offer (subst (λ (n : ℕ). Contains (drop n left) offer) long within)

  fits : start + run ≤ length offers
  fits = omega (arith, before.within, long, prefix_len-le-length (is_offer_of key.now) left, length-drop start offers)

  span_is : IsSpan key.now offers start (start + run)
  span_is = record {
    within = fits;
    before = omega arith;
    same = drop-take start run offers ∙ ap (λ (n : ℕ). take n left) long
        ∙ run_is (take start offers) left key.now apart_before (λ offer within. apart_behind offer (subst (λ (n : ℕ). Contains (drop n left) offer) (sym long) within))
        ∙ ap (filter (is_offer_of key.now)) (take-append-drop start offers);
  }

  has_run : HasNames (take run left) new
  has_run = All-intro (λ offer. is_some (span_in new offer.name) ≡ true) (take run left) (λ offer within.
      let passes : is_offer_of key.now offer ≡ true = front_passes_each (is_offer_of key.now) left offer (subst (λ (n : ℕ). Contains (take n left) offer) long within) in
      ap (λ (n : List ℕ). is_some (span_in new n)) (bytes_eq-true offer.name key.now passes) ∙ is_entered offers old new key (start, start + run) entered)

  pub table_more : IsTableUpTo offers (start + run) new
  table_more = record {
    within = fits;
    right = right_entered offers old new key (start, start + run) entered before.right span_is;
    whole = subst (λ (xs : List Offer). HasNames xs new) (sym (take-add start run offers))
        (All-append (λ offer. is_some (span_in new offer.name) ≡ true) (take start offers) (take run left)
        (All-weaker (λ offer. is_some (span_in old offer.name) ≡ true) (λ offer. is_some (span_in new offer.name) ≡ true)
        (λ offer. kept_entered offers old new key (start, start + run) entered offer.name) (take start offers) before.whole) has_run);
    later = subst (λ (xs : List Offer). HasNoNames xs new) (drop-drop run start offers)
        (All-intro (λ offer. span_in new offer.name ≡ None) (drop run left) (λ offer within.
        entered offer.name ∙ ap (λ (b : Bool). cond b (Some (start, start + run)) (span_in old offer.name)) (other offer within)
        ∙ All-contains (λ offer. span_in old offer.name ≡ None) left offer before.later (within_drop run left offer within)));
  }
    where
      other : (offer : Offer) → Contains (drop run left) offer → bytes_eq key.now offer.name ≡ false
      other offer within = elim (cases_Bool (bytes_eq key.now offer.name)) [
        | inl same ↦ absurd (true≢false (sym (bytes_eq-same offer.name key.now (sym (bytes_eq-true key.now offer.name same))) ∙ apart_behind offer within))
        | inr apart ↦ apart
      ]

  -- the run has the offer itself
  pub some_run : start < start + run
  some_run =
      let some : 0 < prefix_len (is_offer_of key.now) left = subst (λ (xs : List Offer). 0 < prefix_len (is_offer_of key.now) xs) (sym is)
      (rw (bytes_eq-same first.name key.now (sym named)) (omega arith)) in
      omega (arith, long, some)

-- the table up to the end has all names
pub table_done : (offers : List Offer) (place : ℕ) (table : Table) → length offers ≤ place → IsTableUpTo offers place table → IsTable offers table
table_done offers place table all before = record {
  right = before.right;
  whole = subst (λ (xs : List Offer). HasNames xs table) (take_all place offers all) before.whole;
}

-- an empty table is one up to the front
pub table_begun : (offers : List Offer) → IsTableUpTo offers 0 []
table_begun offers = record {
  within = omega arith;
  right = λ name start end is_span. absurd (let e : None ≡ Some (start, end) = is_span in cc);
  whole = λ k d low. absurd (omega arith);
  later = All-intro (λ offer. span_in [] offer.name ≡ None) offers (λ offer within. refl);
}

none_within : {X : Type 0} (xs : List X) → ((x : X) → Contains xs x → ⊥) → xs ≡ []
none_within [] none = refl
none_within (x ∷ xs) none = absurd (none x (Contains-head x xs))

-- a name that the table doesn't have has no offers
pub none_found : (name : List ℕ) (offers : List Offer) (table : Table) → HasNames offers table → span_in table name ≡ None → [] ≡ filter (is_offer_of name) offers
none_found name offers table names none = sym (none_within (filter (is_offer_of name) offers) (λ offer within.
    let kept = Contains-filter (is_offer_of name) offers offer within in
    let there : is_some (span_in table offer.name) ≡ true = All-contains (λ offer. is_some (span_in table offer.name) ≡ true) offers offer names kept.0 in
    let same : offer.name ≡ name = bytes_eq-true offer.name name kept.1 in
    true≢false (sym there ∙ ap (λ (n : List ℕ). is_some (span_in table n)) same ∙ ap is_some none)))
