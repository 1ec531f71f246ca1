-- A name whose slot is free is new; few names are gone over, and of many the table says whether one has the name.
use Rattle.std.proofs.Common.{◌≡◌, ◌∙◌, length, map, sym, subst, IfOk, arith, ◌≤◌}
use Rattle.std.proofs.lemmas.List.{length-map}
use Rattle.stanza.specs.Field.{same_name}
use Rattle.stanza.specs.Starts.{name_at}
use Rattle.stanza.proofs.KnownLemmas.{HasNames-all, any-keys}
use Rattle.stanza.proofs.NameLemmas.{new_name}
use Rattle.stanza.proofs.known.Known.has.Goals as goal

pub returns-then-not-has_slot_of-clause-has : goal.returns-then-not-has_slot_of-clause-has
returns-then-not-has_slot_of-clause-has c =
    sym (new_name c.args.self.now.seen.slots (map (name_at c.args.done.now) c.args.starts.now) c.args.name.now c.requires.seen (sym c.has_slot_of.ensures ∙ c.if-not-has_slot_of.true))

pub returns-then-starts-lt-MANY-clause-has : goal.returns-then-starts-lt-MANY-clause-has
returns-then-starts-lt-MANY-clause-has c =
    c.has_name.ensures ∙ any-keys (name_at c.args.done.now) (λ earlier. same_name earlier c.args.name.now) c.args.starts.now

pub returns-clause-has : goal.returns-clause-has
returns-clause-has c =
    let names = map (name_at c.args.done.now) c.args.starts.now in
    let all : length names ≤ c.note_all.new.self.noted = omega (arith, length-map c.args.starts.now (name_at c.args.done.now), c.in_ok-note_all.ensures.all) in
    subst (λ is_there. IfOk c.has.result (λ has. has ≡ is_there)) (HasNames-all c.note_all.new.self names c.in_ok-note_all.ensures.known all c.args.name.now) c.has.ensures
