-- The first name that isn't in the table is put there.
use Rattle.std.proofs.Common.{◌≡◌, ◌<◌, ◌∙◌, [], length, get_or, map, sym, arith}
use Rattle.std.proofs.lemmas.List.{get_or-map, length-map}
use Rattle.stanza.specs.Starts.{name_at}
use Rattle.stanza.proofs.KnownLemmas.{AreKnown-note}
use Rattle.stanza.proofs.known.Known.note_all.Goals as goal

pub loop-self-preserved : goal.loop-self-preserved
loop-self-preserved c =
    let known = c.loop-self.self in
    let names = map (name_at c.args.done.now) c.args.starts.now in
    let within : known.noted < length names = omega (arith, length-map c.args.starts.now (name_at c.args.done.now), c.loop-self-test.true) in
    let is : c.part.result.now ≡ get_or names known.noted [] = c.part.ensures ∙ sym (get_or-map (name_at c.args.done.now) c.args.starts.now known.noted (record { at = 0; name_len = 0; line = 0 }) [] c.loop-self-test.true) in
    AreKnown-note known c.note.new.self names c.part.result.now c.loop-self.invariant within is c.in_ok-note.ensures
