-- No other matches an atom where none matches any.
use Rattle.plancheck_state.specs.InstalledLaws.{apart_by_atoms}
use Rattle.plancheck_end.proofs.content.is_matched_by_no_other.Goals as goal

pub returns : goal.returns
returns c = let e = apart_by_atoms c.args.db.now c.args.name.now c.args.atoms.now in (
  λ apart. e.0 (c.are_all_apart.ensures.0 apart),
  λ none. c.are_all_apart.ensures.1 (e.1 none),
)
