-- What is fetched of the index, each text with a newline at its end.
use Rattle.std.proofs.Common.{Bor, ℕ, List, map, sym, subst}
use Rattle.std.specs.List.{AllZip}
use Rattle.rules.specs.Step.{IndexPackage}
use Rattle.unpack_texts.specs.Fetched.{items_in}
use Rattle.unpack_texts.specs.Texts.{IsEnded}
use Rattle.unpack_texts.proofs.EndedLemmas.{are_ended}
use Rattle.unpack_texts.proofs.opening.fetch_from.Goals as goal

pub returns-in_ok-all_ended-in-Ok-clause-fetched : goal.returns-in_ok-all_ended-in-Ok-clause-fetched
returns-in_ok-all_ended-in-Ok-clause-fetched g c at known =
    let opened = c.in_ok-text.ensures.text at known in
    let wanted = map (λ (entry : Bor IndexPackage). entry.now) c.args.wanted.now in
    let fetched = c.in-Ok.ensures.fetched opened.0 opened.2 in (
      opened.0,
      opened.1,
      subst (λ (texts : List (List ℕ)). AllZip (IsEnded c.args.arch.now (items_in opened.0)) wanted texts) (sym c.in_ok-all_ended-in-Ok.ensures)
          (are_ended c.args.arch.now (items_in opened.0) wanted c.in-Ok.texts.items fetched),
    )
