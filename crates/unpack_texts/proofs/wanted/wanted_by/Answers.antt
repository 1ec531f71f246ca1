-- Each step adds the stanza that it unpacks, if it unpacks one.
use Rattle.std.proofs.Common.{◌≡◌, ◌∙◌, ◌++◌, ◌∷◌, [], Some, None, Vec, Global, refl, sym, ap, arith}
use Rattle.std.specs.List.{slice_get}
use Rattle.std.specs.Option.{option_copied}
use Rattle.std.proofs.lemmas.Option.{slice_get_read, slice_get_within}
use Rattle.rules.specs.Universe.{listed_for}
use Rattle.unpack_texts.specs.Wanted.{WantedStanza}
use Rattle.unpack_texts.proofs.WantedLemmas.{each_more, every_more, every_none}
use Rattle.unpack_texts.proofs.wanted.wanted_by.Goals as goal
use Rattle.unpack_texts.proofs.wanted.wanted_by.Goals.{in-Some+in_ok-push-in-Some, in-None}

pub loop-i-preserved : goal.loop-i-preserved
loop-i-preserved c =
    let u = c.args.universe.now in
    let steps = c.args.steps.now in
    let i = c.loop-i.i in
    let s = c.index-steps-i.result in
    let there : slice_get steps i ≡ Some s = slice_get_read steps _ i s refl c.loop-i-test.true c.index-steps-i.is in
    let known = c.loop-i.invariant in
    elim c.match-listed_for.branch [
      | in-Some+in_ok-push-in-Some w ↦ (let unpacks : listed_for u s ≡ Some w.in-Some.entry.now = sym c.listed_for.ensures ∙ ap option_copied w.in-Some.is in
          let items : c.match-listed_for.wanted.items ≡ c.loop-i.wanted.items ++ record { step = i; listed = w.in-Some.entry.now } ∷ [] =
          ap (λ (v : Vec WantedStanza Global). v.items) w.wanted-is ∙ w.in_ok-push-in-Some.ensures.items ∙ ap (λ (one : WantedStanza). c.loop-i.wanted.items ++ one ∷ []) w.new.ensures in
          record {
            each = rw items (each_more u steps i s there c.loop-i.wanted.items w.in-Some.entry.now unpacks known.each);
            every = rw items (every_more u steps i s there c.loop-i.wanted.items w.in-Some.entry.now known.every);
          })
      | in-None w ↦ (let none : listed_for u s ≡ None = sym c.listed_for.ensures ∙ ap option_copied w.in-None.is in
          let items : c.match-listed_for.wanted.items ≡ c.loop-i.wanted.items = ap (λ (v : Vec WantedStanza Global). v.items) w.wanted-is in
          record {
            each = rw items known.each;
            every = rw items (every_none u steps i s there c.loop-i.wanted.items none known.every);
          })
    ]

pub returns : goal.returns
returns c = record {
  each = c.loop-i.invariant.each;
  every = λ place listed unpacks. c.loop-i.invariant.every place listed
      (let within = slice_get_within c.args.steps.now place unpacks.step unpacks.there in omega (arith, c.loop-i-test.false, within)) unpacks;
}
