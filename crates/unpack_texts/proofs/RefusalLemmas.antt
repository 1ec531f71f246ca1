-- Which stanza is refused.
use Rattle.std.proofs.Common.{◌≡◌, inl, inr, ℕ, ◌<◌, List, [], ◌∷◌, length, map, Some, None, sym, ap, ◌∙◌, subst, arith}
use Rattle.std.specs.List.{Any}
use Rattle.std.specs.List.Sorted.{IsPermutation}
use Rattle.std.proofs.lemmas.List.Elements.{All-contains}
use Rattle.std.proofs.lemmas.List.Sorted.{Contains-permutation}
use Rattle.rules.specs.ElementLaws.{Any-contains, Any-intro, Contains-head, Contains-map}
use Rattle.rules.specs.Step.{IndexPackage}
use Rattle.rules.specs.Universe.{Universe}
use Rattle.rules.specs.declared.step.Step.{Step}
use Rattle.inputs.specs.Texts.{Found}
use Rattle.inputs.specs.declared.refusal.Fault.TheVariants as fault
use Rattle.inputs.specs.declared.refusal.Input.TheVariants as place
use Rattle.inputs.specs.declared.refusal.Refusal.{Refusal}
use Rattle.unpack_texts.specs.Fetched.{IsChanged, IsFetched, IsGone, items_in}
use Rattle.unpack_texts.specs.Opened.{IsGroupRefusal, IsOpenedFault}
use Rattle.unpack_texts.specs.Texts.{IsGoneFrom, IsStanzaRefusal, IsTextsRefusal, opened}
use Rattle.unpack_texts.specs.Wanted.{AreOfIndex, AreWanted, IsWanted, WantedStanza}

module _ (arch : List ℕ) (index_texts : ℕ → List ℕ → Found) (files : List (List ℕ)) (number : ℕ) where
  -- where a stanza has changed, no opening of its index gives its text
  gone_from : (bytes : List ℕ) (listed : IndexPackage) → opened index_texts files number ≡ Some bytes → listed.place.index ≡ number
      → IsGone arch (items_in bytes) listed → IsGoneFrom arch index_texts files listed
  gone_from bytes listed there is gone text of =
      let again : opened index_texts files number ≡ Some of.bytes = subst (λ (n : ℕ). opened index_texts files n ≡ Some of.bytes) is of.there in
      let same : of.bytes ≡ bytes = cc in
      gone of.fetched.raw (subst (λ (b : List ℕ). IsFetched arch (items_in b) listed of.fetched.raw) same of.fetched.fetched)

  -- that one of these stanzas has changed is refused at its index
  changed_one : (bytes : List ℕ) (group : List WantedStanza) → opened index_texts files number ≡ Some bytes → AreOfIndex number group
      → IsChanged arch (items_in bytes) (map (λ one. one.listed) group)
      → Any (λ one. IsStanzaRefusal arch index_texts files one.listed (record { place = place.Index number; fault = fault.Changed })) group
  changed_one bytes group there of_index changed =
      let shown = map (λ (one : WantedStanza). one.listed) group in
      let from = Contains-map (λ (one : WantedStanza). one.listed) group changed.1 (Any-contains (IsGone arch (items_in bytes)) shown changed) in
      let index : from.0.listed.place.index ≡ number = All-contains (λ one. one.listed.place.index ≡ number) group from.0 of_index from.1 in
      Any-intro (λ one. IsStanzaRefusal arch index_texts files one.listed (record { place = place.Index number; fault = fault.Changed })) group from.0 from.1
      (inr (
        ap (λ (n : ℕ). record { place = place.Index n; fault = fault.Changed }) (sym index),
        gone_from bytes from.0.listed there index (subst (λ (l : IndexPackage). IsGone arch (items_in bytes) l) (sym from.2) changed.4),
      ))

  -- the first of these stanzas, where there is one
  first_of : (group : List WantedStanza) (P : WantedStanza → Type 0) → 0 < length group
      → ((one : WantedStanza) → one.listed.place.index ≡ number → P one) → AreOfIndex number group → Any P group
  first_of [] P some here of_index = absurd (omega arith)
  first_of (one ∷ group) P some here of_index =
      Any-intro P (one ∷ group) one (Contains-head one group)
      (here one (All-contains (λ one. one.listed.place.index ≡ number) (one ∷ group) one of_index (Contains-head one group)))

  -- an index that can't be opened
  shut_one : (group : List WantedStanza) → 0 < length group → AreOfIndex number group → opened index_texts files number ≡ None
      → Any (λ one. IsStanzaRefusal arch index_texts files one.listed (record { place = place.Index number; fault = fault.Read })) group
  shut_one group some of_index shut =
      first_of group (λ one. IsStanzaRefusal arch index_texts files one.listed (record { place = place.Index number; fault = fault.Read })) some
      (λ one is. inl (ap (λ (n : ℕ). record { place = place.Index n; fault = fault.Read }) (sym is), subst (λ (n : ℕ). opened index_texts files n ≡ None) (sym is) shut))
      of_index

  -- an index that no source names
  pub unnamed : (group : List WantedStanza) (refused : Refusal) → 0 < length group → AreOfIndex number group → opened index_texts files number ≡ None
      → refused ≡ record { place = place.Index number; fault = fault.Changed } → IsGroupRefusal arch index_texts files group refused
  unnamed group refused some of_index shut is = inr (
      first_of group (λ one. IsStanzaRefusal arch index_texts files one.listed refused) some
      (λ one at. inr (
        is ∙ ap (λ (n : ℕ). record { place = place.Index n; fault = fault.Changed }) (sym at),
        λ text of. (let again : opened index_texts files number ≡ Some of.bytes = subst (λ (n : ℕ). opened index_texts files n ≡ Some of.bytes) at of.there in cc),
      ))
      of_index)

  -- what is refused of an opening
  pub opened_refused : (file : List ℕ) (group : List WantedStanza) (refused : Refusal) → opened index_texts files number ≡ index_texts number file → 0 < length group
      → AreOfIndex number group → IsOpenedFault arch number (index_texts number file) (map (λ one. one.listed) group) refused
      → IsGroupRefusal arch index_texts files group refused
  opened_refused file group refused is some of_index (inl memory) = inl memory
  opened_refused file group refused is some of_index (inr (inl (read, none))) = inr
      (subst (λ (r : Refusal). Any (λ one. IsStanzaRefusal arch index_texts files one.listed r) group) (sym read) (shut_one group some of_index (is ∙ none)))
  opened_refused file group refused is some of_index (inr (inr (at, changed))) = inr
      (subst (λ (r : Refusal). Any (λ one. IsStanzaRefusal arch index_texts files one.listed r) group) (sym at)
      (changed_one changed.bytes group (is ∙ changed.there) of_index changed.changed))

-- in whatever order the stanzas are listed
pub refused_permuted : (arch : List ℕ) (index_texts : ℕ → List ℕ → Found) (files : List (List ℕ)) (xs ys : List WantedStanza) (refused : Refusal) → IsPermutation xs ys
    → IsGroupRefusal arch index_texts files xs refused → IsGroupRefusal arch index_texts files ys refused
refused_permuted arch index_texts files xs ys refused same (inl memory) = inl memory
refused_permuted arch index_texts files xs ys refused same (inr some) = inr
    (Any-intro (λ one. IsStanzaRefusal arch index_texts files one.listed refused) ys some.1
    (Contains-permutation xs ys some.1 same (Any-contains (λ one. IsStanzaRefusal arch index_texts files one.listed refused) xs some)) some.4)

-- what is refused of a wanted stanza is refused of its step
pub refused_step : (arch : List ℕ) (index_texts : ℕ → List ℕ → Found) (files : List (List ℕ)) (u : Universe) (steps : List Step) (wanted : List WantedStanza) (refused : Refusal)
    → AreWanted u steps wanted → IsGroupRefusal arch index_texts files wanted refused → IsTextsRefusal arch index_texts files u steps refused
refused_step arch index_texts files u steps wanted refused are (inl memory) = inl memory
refused_step arch index_texts files u steps wanted refused are (inr some) = inr (record {
  place = some.1.step;
  listed = some.1.listed;
  unpacks = All-contains (IsWanted u steps) wanted some.1 are.each (Any-contains (λ one. IsStanzaRefusal arch index_texts files one.listed refused) wanted some);
  refusal = some.4;
})
