-- The file that was opened is the one that there is.
use Rattle.std.proofs.Common.{rules, ◌≡◌, List, ℕ, Option, None, Some, true, bytes_eq, unwrap_or, refl, sym, ap, ◌∙◌}
use Rattle.std.proofs.lemmas.Bool.{cond-true}
use Rattle.test_calls.proofs.hosts.OneFileHost.open.Goals as goal

pub returns-clause-text : goal.returns-clause-text
returns-clause-text c at is =
    let same : bytes_eq c.args.path.now c.args.self.now.path.now ≡ true = search rules in (
      c.args.self.now.text.now,
      sym (ap (λ (o : Option (List ℕ → Option (List ℕ))). unwrap_or o (λ path. None) c.args.path.now) is)
          ∙ cond-true (bytes_eq c.args.path.now c.args.self.now.path.now) (Some c.args.self.now.text.now) None same,
      refl,
    )
