use Rattle.std.proofs.Common.{◌≡◌, ℕ, ◌==◌, ◌<◌, Bool, true, false, map, cond, get_or, refl, ap, ◌∙◌, arith}
use Rattle.std.proofs.lemmas.List.FromFn.{get_or-map-range_with_len}
use Rattle.std.specs.List.{range_with_len}
use Rattle.stanza.specs.Field.{is_name_byte}
use Rattle.stanza.specs.declared.names.TheConstants.{NAME_BYTES}
use Rattle.stanza.proofs.names.is_name_byte.Goals as goal

abbrev mark : ℕ → ℕ
mark b = cond (is_name_byte b) 1 0

-- the table has the mark of each byte
table_is : NAME_BYTES ≡ map mark (range_with_len 0 256)
table_is = refl

marked : (t : Bool) → (cond t 1 0 == 1) ≡ t
marked true = refl
marked false = refl

read : (b : ℕ) → b < 256 → (get_or NAME_BYTES b 0 == 1) ≡ is_name_byte b
read b h =
    ap (λ (n : ℕ). n == 1) (ap (λ t. get_or t b 0) table_is ∙ get_or-map-range_with_len mark 0 256 b b 0 h (omega arith))
    ∙ marked (is_name_byte b)

pub returns : goal.returns
returns c = rw c.from.ensures (read c.args.b (omega arith))
