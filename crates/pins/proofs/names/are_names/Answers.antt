-- The words that are lent are the words.
use Rattle.std.proofs.Common.{rules}
use Rattle.pins.proofs.NameLemmas.{are_names-lent}
use Rattle.pins.proofs.names.are_names.Goals as goal

pub returns-then-not-is_empty : goal.returns-then-not-is_empty
returns-then-not-is_empty c = rw (are_names-lent c.args.words.now) (search rules)
