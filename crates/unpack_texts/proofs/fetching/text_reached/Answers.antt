-- The stanza that was reached is the one with the number.
use Rattle.std.proofs.Common.{◌≡◌, ◌∙◌, true, false, sym, ap, arith, rules}
use Rattle.stanza.specs.Stanza.{StanzaText}
use Rattle.unpack_texts.specs.Fetched.{IsSamePackage}
use Rattle.unpack_texts.proofs.ItemLemmas.{same-place, reached-there}
use Rattle.unpack_texts.proofs.fetching.text_reached.Goals as goal

pub returns-then-not-branch-clause-changed : goal.returns-then-not-branch-clause-changed
returns-then-not-branch-clause-changed c items left read same text fetched =
    let there = reached-there items c.args.wanted.now.place.stanza c.args.reader.now left c.in-Some.stanza read (search rules) in
    let f = fetched.there in
    let one : c.in-Some.stanza ≡ fetched.stanza = same-place there.before f.before c.in-Some.stanza fetched.stanza there.later f.later
    (sym there.is ∙ f.is) (omega (arith, there.count, f.count)) in
    let raw : text ≡ c.raw.result.now = sym fetched.raw ∙ ap (λ (s : StanzaText). s.raw) (sym one) ∙ sym c.raw.ensures in
    let is : IsSamePackage c.args.arch.now c.raw.result.now c.args.wanted.now = rw raw at fetched.same in
    let yes = c.in_ok-is_text_of-in-Some.ensures.1 is in
    let e : false ≡ true = rw c.if-not-branch.true at yes in cc
