use Rattle.std.proofs.Common.{◌≡◌, ◌∙◌, ap, take}
use Rattle.rules.specs.VersionLaws.{front_digits}
use Rattle.debversion.proofs.Pieces.{front_digits-pass}
use Rattle.debversion.proofs.compare.split_piece.Goals as goal

pub returns-clause-digits_alone : goal.returns-clause-digits_alone
returns-clause-digits_alone c =
    let digits : c.split_at-2.result.0.now ≡ front_digits c.split_at.result.1.now =
    c.split_at-2.ensures.front ∙ ap (λ n. take n c.split_at.result.1.now) c.digits_len.ensures.value in
    rw digits (front_digits-pass c.split_at.result.1.now)
