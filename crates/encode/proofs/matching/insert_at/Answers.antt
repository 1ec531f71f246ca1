-- The number is put behind the others, unless it is there.
use Rattle.encode.proofs.NumberLemmas.{new_is_in, next_is_in}
use Rattle.encode.proofs.matching.insert_at.Goals as goal

pub returns : goal.returns
returns c = next_is_in c.args.numbers.now.keys c.insert.new.self.keys c.args.place c.in_ok-number.number c.in_ok-number.ensures
    (new_is_in c.args.numbers.now.keys c.insert.new.self.keys c.in_ok-number.number c.in_ok-insert.ensures.keys)
