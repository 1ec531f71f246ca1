-- The record is of one of the names of the list, or of those that are left.
use Rattle.std.proofs.Common.{◌≡◌, ℕ, List, ap, sym, subst, ◌∙◌}
use Rattle.std.specs.Option.{option_map_or}
use Rattle.std.specs.List.{Contains}
use Rattle.rules.specs.Step.{is_among}
use Rattle.plancheck_group.proofs.NameSetLemmas.{told_among}
use Rattle.plancheck_group.proofs.part.Among.has_record.Goals as goal

pub returns-in-None : goal.returns-in-None
returns-in-None c = c.is_among.ensures ∙ ap (λ (names : List (List ℕ)). is_among names c.args.entry.now)
    (ap (λ left. option_map_or (λ part. part.now) left c.self.inside.listed.now) (sym c.in-None.is) ∙ c.self.view_is)

pub returns-in-Some : goal.returns-in-Some
returns-in-Some c =
    let view : c.in-Some.part.now ≡ c.args.self.now =
    ap (λ left. option_map_or (λ part. part.now) left c.self.inside.listed.now) (sym c.in-Some.is) ∙ c.self.view_is in
    told_among c.args.self.now c.args.entry.now c.has.result (
      λ so. subst (λ (names : List (List ℕ)). Contains names c.args.entry.now.name) view (subst (Contains c.in-Some.part.now) c.name.ensures (c.has.ensures.0 so)),
      λ there. c.has.ensures.1 (subst (Contains c.in-Some.part.now) (sym c.name.ensures)
          (subst (λ (names : List (List ℕ)). Contains names c.args.entry.now.name) (sym view) there)),
    )
