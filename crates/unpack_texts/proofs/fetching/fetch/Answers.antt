-- Each turn fetches the text of the first package that is left.
use Rattle.std.proofs.Common.{◌∙◌, ◌++◌, ◌∷◌, [], ◌+◌, ◌≤◌, ℕ, Bor, List, Vec, Global, drop, get_or, length, map, refl, rules, ap, sym, subst, arith}
use Rattle.std.proofs.Math.ListN.{length-map}
use Rattle.std.proofs.lemmas.List.{append-nil, drop_all, get_or_default, length_push}
use Rattle.std.proofs.lemmas.Result.{err_from_is_err_and}
use Rattle.rules.specs.Step.{IndexPackage}
use Rattle.rules.specs.declared.index_place.IndexPlace.{IndexPlace}
use Rattle.stanza.specs.Reading.{Reading}
use Rattle.unpack_texts.specs.Fetched.{AreFetched, HasRead, IsStanzaAt, items_in}
use Rattle.unpack_texts.proofs.FetchedLemmas.{first-fetched, gone-at, has-begun, left-at, none-left, one-mapped}
use Rattle.unpack_texts.proofs.fetching.fetch.Goals as goal

pub loop-next-init : goal.loop-next-init
loop-next-init g c = record {
  order = λ d less. omega arith;
  sound = ap (λ (r : Reading). r.failed) c.in_ok-reader.ensures;
  known = λ text known. (text, known, has-begun text c.in_ok-reader.reader c.in_ok-reader.ensures);
  so_far = λ text later known are. rw c.new-texts.ensures.items are;
  each = search rules;
  sure = λ sure. sure;
  count = refl;
}

pub reach-requires-clause-order : goal.reach-requires-clause-order
reach-requires-clause-order g c =
    let w = c.loop-next in
    let n = c.next-item.result in
    let at : w.at ≤ (get_or c.args.wanted.now w.next-index n).now.place.stanza = w.invariant.order n c.loop-next-test.true in
    rw c.place-number.ensures (subst (λ (entry : Bor IndexPackage). w.at ≤ entry.now.place.stanza) (sym c.next-item.is) at)

pub returns-in_err-reach-clause-changed : goal.returns-in_err-reach-clause-changed
returns-in_err-reach-clause-changed g c text known =
    let w = c.loop-next in
    let f = w.invariant.known text known in
    let p = err_from_is_err_and c.from_residual-in_err-reach.result c.from_residual-in_err-reach.ensures.1 in
    rw (p.1, p.2) (λ changed. gone-at c.args.arch.now (items_in text) c.args.wanted.now w.next-index c.next-item.result c.loop-next-test.true c.next-item.is
    (λ raw fetched. c.in_err-reach.ensures.changed (items_in text) f.0 f.1 f.2 changed fetched.stanza
    (subst (λ (place : IndexPlace). IsStanzaAt (items_in text) place.stanza fetched.stanza) (sym c.place-number.ensures) fetched.there)))

pub returns-in_err-text_reached-clause-changed : goal.returns-in_err-text_reached-clause-changed
returns-in_err-text_reached-clause-changed g c text known =
    let w = c.loop-next in
    let f = w.invariant.known text known in
    let k = c.in_ok-reach.ensures.reached (items_in text) f.0 f.1 f.2 in
    let p = err_from_is_err_and c.from_residual-in_err-text_reached.result c.from_residual-in_err-text_reached.ensures.1 in
    rw (p.1, p.2) (λ changed. gone-at c.args.arch.now (items_in text) c.args.wanted.now w.next-index c.next-item.result c.loop-next-test.true c.next-item.is
    (c.in_err-text_reached.ensures.changed (items_in text) k.0
    (subst (λ (place : IndexPlace). HasRead (items_in text) place.stanza c.reach.new.reader k.0) c.place-number.ensures k.2) changed))

pub loop-next-preserved : goal.loop-next-preserved
loop-next-preserved g c =
    let w = c.loop-next in
    let shown = map (λ (entry : Bor IndexPackage). entry.now) c.args.wanted.now in
    let e = left-at c.args.wanted.now w.next-index c.next-item.result c.loop-next-test.true c.next-item.is in
    record {
      order = λ d less. rw c.place-number.ensures (
          subst (λ (entry : Bor IndexPackage). entry.now.place.stanza ≤ (get_or c.args.wanted.now (w.next-index + 1) d).now.place.stanza) (get_or_default c.args.wanted.now w.next-index d c.next-item.result c.loop-next-test.true ∙ sym c.next-item.is)
          (c.requires.order w.next-index (w.next-index + 1) d (omega arith) less));
      sound = c.in_ok-reach.ensures.sound;
      known = λ text known. (let f = w.invariant.known text known in
          let k = c.in_ok-reach.ensures.reached (items_in text) f.0 f.1 f.2 in (k.0, k.1, k.2));
      so_far = λ text later known are. (let f = w.invariant.known text known in
          let k = c.in_ok-reach.ensures.reached (items_in text) f.0 f.1 f.2 in
          let fetched = c.in_ok-text_reached.ensures.fetched (items_in text) k.0
          (subst (λ (place : IndexPlace). HasRead (items_in text) place.stanza c.reach.new.reader k.0) c.place-number.ensures k.2) in
          let own = c.in_ok-text_reached.field-0 in
          subst (λ (texts : List (List ℕ)). AreFetched c.args.arch.now (items_in text) shown texts)
          (sym (ap (λ (texts : List (Vec ℕ Global)). map (λ (one : Vec ℕ Global). one.items) texts ++ later) c.in_ok-push.ensures.items
          ∙ one-mapped (λ (one : Vec ℕ Global). one.items) w.texts.items own later))
          (w.invariant.so_far text (own.items ∷ later) known
          (first-fetched c.args.arch.now (items_in text) (drop w.next-index shown) (drop (w.next-index + 1) shown) c.next-item.result.now own.items later e fetched are)));
      each = omega (arith, ap length c.in_ok-push.ensures.items, length_push w.texts.items c.in_ok-text_reached.field-0, w.invariant.each);
      sure = λ sure. (c.in_ok-reach.ensures.sure (w.invariant.sure sure)).0;
      count = search rules;
    }

pub returns-clause-fetched : goal.returns-clause-fetched
returns-clause-fetched g c text known =
    let w = c.loop-next in
    let shown = map (λ (entry : Bor IndexPackage). entry.now) c.args.wanted.now in
    let none = drop_all w.next-index shown (omega (arith, length-map c.args.wanted.now (λ (entry : Bor IndexPackage). entry.now))) in
    subst (λ (texts : List (List ℕ)). AreFetched c.args.arch.now (items_in text) shown texts)
    (append-nil (map (λ (one : Vec ℕ Global). one.items) w.texts.items))
    (w.invariant.so_far text [] known (none-left c.args.arch.now (items_in text) (drop w.next-index shown) none))
