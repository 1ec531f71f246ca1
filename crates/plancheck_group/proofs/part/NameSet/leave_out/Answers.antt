-- The set loses the name alone.
use Rattle.std.proofs.Common.{◌≢◌, ℕ, List, subst}
use Rattle.index.proofs.NameTable.{names_at}
use Rattle.plancheck_group.specs.Part.{IsPartWith}
use Rattle.plancheck_group.proofs.NameSetLemmas.{less_one, no_more, taken_out}
use Rattle.plancheck_group.proofs.part.NameSet.leave_out.Goals as goal

pub returns-clause-without : goal.returns-clause-without
returns-clause-without c = subst (λ (old : List (List ℕ)). IsPartWith (λ other. other ≢ c.args.name.now) old (names_at c.swap_remove-was_there.new.self.keys))
    c.self.view_is (taken_out c.args.name.now c.self.inside.names.keys c.swap_remove-was_there.new.self.keys (λ key. c.swap_remove-was_there.ensures.updates.0 key))

pub returns-clause-fewer : goal.returns-clause-fewer
returns-clause-fewer c = less_one c.args.name.now c.self.inside.names.keys c.swap_remove-was_there.new.self.keys c.swap_remove-was_there.result c.args.self.now
    c.swap_remove-was_there.ensures.found c.swap_remove-was_there.ensures.len c.self.view_is

pub returns-clause-no_more : goal.returns-clause-no_more
returns-clause-no_more c = no_more c.self.inside.names.keys c.swap_remove-was_there.new.self.keys c.swap_remove-was_there.result c.args.self.now
    c.swap_remove-was_there.ensures.len c.self.view_is
