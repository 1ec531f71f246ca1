-- Each pair adds its stanza, if that is of the index.
use Rattle.std.proofs.Common.{◌≡◌, ◌∙◌, ◌++◌, ◌∷◌, [], Some, Vec, Global, refl, ap, arith}
use Rattle.std.specs.List.{slice_get}
use Rattle.std.proofs.lemmas.Option.{slice_get_read, slice_get_within}
use Rattle.unpack_texts.specs.Stanzas.{IsOfIndex, WantedStanza}
use Rattle.unpack_texts.proofs.StanzaLemmas.{each_more, every_more, every_none}
use Rattle.unpack_texts.proofs.wanted_pair.wanted_of.Goals as goal
use Rattle.unpack_texts.proofs.wanted_pair.wanted_of.Goals.{in-Some+in_ok-push-in-Some, in-None}

pub loop-i-preserved : goal.loop-i-preserved
loop-i-preserved c =
    let stanzas = c.args.stanzas.now in
    let number = c.args.number in
    let i = c.loop-i.i in
    let s = c.index-stanzas-i.result in
    let there : slice_get stanzas i ≡ Some s = slice_get_read stanzas _ i s refl c.loop-i-test.true c.index-stanzas-i.is in
    let known = c.loop-i.invariant in
    elim c.match-of_index.branch [
      | in-Some+in_ok-push-in-Some w ↦ (let of : IsOfIndex number s w.in-Some.entry.now = rw w.in-Some.is at c.of_index.ensures in
          let items : c.match-of_index.wanted.items ≡ c.loop-i.wanted.items ++ record { place = i; listed = w.in-Some.entry.now } ∷ [] =
          ap (λ (v : Vec WantedStanza Global). v.items) w.wanted-is ∙ w.in_ok-push-in-Some.ensures.items ∙ ap (λ (one : WantedStanza). c.loop-i.wanted.items ++ one ∷ []) w.new.ensures in
          record {
            each = rw items (each_more number stanzas i s there c.loop-i.wanted.items w.in-Some.entry.now of known.each);
            every = rw items (every_more number stanzas i s there c.loop-i.wanted.items w.in-Some.entry.now known.every);
          })
      | in-None w ↦ (let none = rw w.in-None.is at c.of_index.ensures in
          let items : c.match-of_index.wanted.items ≡ c.loop-i.wanted.items = ap (λ (v : Vec WantedStanza Global). v.items) w.wanted-is in
          record {
            each = rw items known.each;
            every = rw items (every_none number stanzas i s there c.loop-i.wanted.items none known.every);
          })
    ]

pub returns : goal.returns
returns c = record {
  each = c.loop-i.invariant.each;
  every = λ place listed is. c.loop-i.invariant.every place listed
      (let within = slice_get_within c.args.stanzas.now place is.one is.there in omega (arith, c.loop-i-test.false, within)) is;
}
