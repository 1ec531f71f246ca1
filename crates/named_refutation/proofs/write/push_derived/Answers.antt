-- What is written one behind the other is the line's words with spaces between them.
use Rattle.std.proofs.Common.{◌≡◌, ◌++◌, ◌∷◌, [], OnOk, subst}
use Rattle.std.specs.Prelude.{codes}
use Rattle.named_refutation.proofs.WrittenLemmas.{derived_written}
use Rattle.named_refutation.proofs.write.push_derived.Goals as goal

pub returns-clause-written : goal.returns-clause-written
returns-clause-written c =
    let kind : c.extend_from_slice.new.self.items ≡ c.args.text.now.items ++ codes "derive" = cc c.in_ok-extend_from_slice.ensures.items in
    let colon : c.extend_from_slice-2.new.self.items ≡ c.push_literals.new.text.items ++ 32 ∷ 58 ∷ [] = cc c.in_ok-extend_from_slice-2.ensures.items in
    subst (λ written. OnOk c.push_hints.result (c.push_hints.new.text.items ≡ written)) (rw (colon, c.in_ok-push_literals.ensures.written, kind) (derived_written c.args.text.now.items c.args.literals.now c.args.hints.now)) c.push_hints.ensures
