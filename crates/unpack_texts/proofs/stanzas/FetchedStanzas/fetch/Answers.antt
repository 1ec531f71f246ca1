-- The stanzas of the index are fetched in their order, and their bytes put at the places of their pairs.
use Rattle.std.proofs.Common.{◌≡◌, ◌∙◌, ℕ, Bor, List, Vec, Global, length, map, ap, sym, subst}
use Rattle.std.specs.Prelude.{⊤}
use Rattle.std.specs.List.{AllZip}
use Rattle.std.proofs.Math.ListN.{length-map}
use Rattle.std.proofs.lemmas.Result.{err_from_is_err_and}
use Rattle.rules.specs.Step.{IndexPackage}
use Rattle.unpack_texts.specs.Fetched.{IsChanged, IsFetched, items_in}
use Rattle.unpack_texts.specs.Stanzas.{AreAfter, AreAfterSome, AreWanted, PairStanza, WantedStanza, filled}
use Rattle.unpack_texts.proofs.StanzaLemmas.{after_fetch, gone_from, order_of_entries, some_zip, wanted_permuted, within_pairs}
use Rattle.unpack_texts.proofs.stanzas.FetchedStanzas.fetch.Goals as goal

pub fetch-requires : goal.fetch-requires
fetch-requires g c = record {
  order = rw c.as_slice-3.ensures.value (
      order_of_entries c.in_ok-entries.entries.items c.in_ok-wanted.wanted.items
      (subst (λ (xs : List WantedStanza). map (λ (entry : Bor IndexPackage). entry.now) c.in_ok-entries.entries.items ≡ map (λ (one : WantedStanza). one.listed) xs)
      c.as_slice-2.ensures.value c.in_ok-entries.ensures) c.in_ok-wanted.ensures.order);
}

pub returns-in_err-texts-clause-changed : goal.returns-in_err-texts-clause-changed
returns-in_err-texts-clause-changed g c text known =
    let number = c.args.number in
    let old = c.args.self.now in
    let first = c.in_ok-wanted_of.field-0.items in
    let ordered = c.in_ok-wanted.wanted.items in
    let shown : map (λ (entry : Bor IndexPackage). entry.now) c.as_slice-3.result.now ≡ map (λ (one : WantedStanza). one.listed) ordered =
    ap (map (λ (entry : Bor IndexPackage). entry.now)) c.as_slice-3.ensures.value ∙ c.in_ok-entries.ensures ∙ ap (map (λ (one : WantedStanza). one.listed)) c.as_slice-2.ensures.value in
    let are : AreWanted number old first = subst (λ (xs : List PairStanza). AreWanted number xs first) (c.as_slice.ensures.value ∙ c.self.view_is) c.in_ok-wanted_of.ensures in
    let all = wanted_permuted number old first ordered c.in_ok-wanted.ensures.same are in
    let p = err_from_is_err_and c.from_residual-in_err-texts.result c.from_residual-in_err-texts.ensures.1 in
    rw (p.1, p.2) (λ changed. gone_from c.args.arch.now (items_in text) number old ordered all.each
    (subst (λ (listed : List IndexPackage). IsChanged c.args.arch.now (items_in text) listed) shown (c.in_err-texts.ensures.changed text known changed)))

pub fill-requires-clause-within : goal.fill-requires-clause-within
fill-requires-clause-within g c =
    let number = c.args.number in
    let old = c.self.inside.stanzas.items in
    let first = c.in_ok-wanted_of.field-0.items in
    let ordered = c.in_ok-wanted.wanted.items in
    let are : AreWanted number old first = subst (λ (xs : List PairStanza). AreWanted number xs first) c.as_slice.ensures.value c.in_ok-wanted_of.ensures in
    rw c.as_slice-4.ensures.value (within_pairs number old ordered (wanted_permuted number old first ordered c.in_ok-wanted.ensures.same are).each)

pub returns-clause-fetched : goal.returns-clause-fetched
returns-clause-fetched g c text known =
    let number = c.args.number in
    let old = c.self.inside.stanzas.items in
    let first = c.in_ok-wanted_of.field-0.items in
    let ordered = c.in_ok-wanted.wanted.items in
    let texts = map (λ (text : Vec ℕ Global). text.items) c.in_ok-texts.texts.items in
    let shown : map (λ (entry : Bor IndexPackage). entry.now) c.as_slice-3.result.now ≡ map (λ (one : WantedStanza). one.listed) ordered =
    ap (map (λ (entry : Bor IndexPackage). entry.now)) c.as_slice-3.ensures.value ∙ c.in_ok-entries.ensures ∙ ap (map (λ (one : WantedStanza). one.listed)) c.as_slice-2.ensures.value in
    let are : AreWanted number old first = subst (λ (xs : List PairStanza). AreWanted number xs first) c.as_slice.ensures.value c.in_ok-wanted_of.ensures in
    let all = wanted_permuted number old first ordered c.in_ok-wanted.ensures.same are in
    let put : c.fill.new.stanzas.items ≡ filled old ordered texts = c.fill.ensures ∙ ap (λ (w : List WantedStanza). filled old w texts) c.as_slice-4.ensures.value in
    let belong : AllZip (IsFetched c.args.arch.now (items_in text)) (map (λ (one : WantedStanza). one.listed) ordered) texts =
    subst (λ (listed : List IndexPackage). AllZip (IsFetched c.args.arch.now (items_in text)) listed texts) shown (c.in_ok-texts.ensures.fetched text known) in
    subst (λ (new : List PairStanza). AreAfter c.args.arch.now text number c.args.self.now new) (sym put)
    (subst (λ (was : List PairStanza). AreAfter c.args.arch.now text number was (filled old ordered texts)) c.self.view_is
    (after_fetch (IsFetched c.args.arch.now (items_in text)) number old ordered texts all belong))

pub returns-clause-some : goal.returns-clause-some
returns-clause-some g c =
    let number = c.args.number in
    let old = c.self.inside.stanzas.items in
    let first = c.in_ok-wanted_of.field-0.items in
    let ordered = c.in_ok-wanted.wanted.items in
    let texts = map (λ (text : Vec ℕ Global). text.items) c.in_ok-texts.texts.items in
    let listed = map (λ (one : WantedStanza). one.listed) ordered in
    let shown : map (λ (entry : Bor IndexPackage). entry.now) c.as_slice-3.result.now ≡ listed =
    ap (map (λ (entry : Bor IndexPackage). entry.now)) c.as_slice-3.ensures.value ∙ c.in_ok-entries.ensures ∙ ap (map (λ (one : WantedStanza). one.listed)) c.as_slice-2.ensures.value in
    let are : AreWanted number old first = subst (λ (xs : List PairStanza). AreWanted number xs first) c.as_slice.ensures.value c.in_ok-wanted_of.ensures in
    let all = wanted_permuted number old first ordered c.in_ok-wanted.ensures.same are in
    let put : c.fill.new.stanzas.items ≡ filled old ordered texts = c.fill.ensures ∙ ap (λ (w : List WantedStanza). filled old w texts) c.as_slice-4.ensures.value in
    let size : length texts ≡ length listed =
    length-map c.in_ok-texts.texts.items (λ (text : Vec ℕ Global). text.items) ∙ c.in_ok-texts.ensures.each
    ∙ sym (length-map c.as_slice-3.result.now (λ (entry : Bor IndexPackage). entry.now)) ∙ ap length shown in
    subst (λ (new : List PairStanza). AreAfterSome number c.args.self.now new) (sym put)
    (subst (λ (was : List PairStanza). AreAfterSome number was (filled old ordered texts)) c.self.view_is
    (after_fetch (λ listed bytes. ⊤) number old ordered texts all (some_zip listed texts size)))
