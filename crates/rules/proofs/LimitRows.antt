-- How much is read, as numerals (this project's own): a limit that is another is refused here.
use Rattle.std.proofs.Common.{◌≡◌, refl}
use Rattle.rules.specs.declared.limits.TheConstants.{GOALS, INDICES, PACKAGES, PAIRS, STEPS, TEXT_BYTES}

text_bytes : TEXT_BYTES ≡ 268435456
text_bytes = refl

indices : INDICES ≡ 1000
indices = refl

packages : PACKAGES ≡ 4000000
packages = refl

pairs : PAIRS ≡ 1000000
pairs = refl

goals : GOALS ≡ 100000
goals = refl

steps : STEPS ≡ 1000000
steps = refl
