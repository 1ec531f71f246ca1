-- What items give so far, and what those behind them give.
use Rattle.std.proofs.Common.{◌≡◌, ℕ, ◌+◌, List, [], ◌∷◌, ◌++◌, Option, Some, None, Result, Ok, Err, refl, sym, ap, ◌∙◌, append_assoc, append-nil}
use Rattle.std.specs.Option.{option_map}
use Rattle.rules.specs.Universe.{Pair}
use Rattle.refutation.specs.declared.line.Line.{Line}
use Rattle.named_refutation.specs.declared.named.NamedLine.{NamedLine}
use Rattle.named_refutation.specs.declared.named.NamedPair.{NamedPair}
use Rattle.named_lines.specs.Naming.{each_some}
use Rattle.named_lines.specs.Numbering.{each_ok, line_numbered, made, numbered_from, put_numbered}
use Rattle.named_lines.specs.declared.numbering.Missing.{Missing}
use Rattle.named_lines.specs.declared.numbering.NumberedLines.{NumberedLines}

-- Naming

-- what is given so far, before what the items behind give
abbrev pub some_behind : {B : Type 0} → List B → Option (List B) → Option (List B)
some_behind so_far given = option_map (λ rest. so_far ++ rest) given

some_put : {B : Type 0} (so_far : List B) (value : B) (given : Option (List B))
    → some_behind (so_far ++ value ∷ []) given ≡ some_behind so_far (option_map (λ rest. value ∷ rest) given)
some_put so_far value None = refl
some_put {B} so_far value (Some rest) = ap (λ (all : List B). Some all) (append_assoc so_far (value ∷ []) rest)

-- one more item gives something
pub some_more : {A B : Type 0} (give : A → Option B) (so_far : List B) (item : A) (value : B) (items later : List A) → items ≡ item ∷ later
    → give item ≡ Some value → some_behind (so_far ++ value ∷ []) (each_some give later) ≡ some_behind so_far (each_some give items)
some_more give so_far item value items later first is =
    some_put so_far value (each_some give later) ∙ sym (ap (λ all. some_behind so_far (each_some give all)) first ∙ rw is refl)

-- an item gives nothing, and so all give nothing
pub some_none : {A B : Type 0} (give : A → Option B) (so_far : List B) (item : A) (items later : List A) → items ≡ item ∷ later
    → give item ≡ None → some_behind so_far (each_some give items) ≡ None
some_none give so_far item items later first is = ap (λ all. some_behind so_far (each_some give all)) first ∙ rw is refl

-- no item is left
pub some_all : {A B : Type 0} (give : A → Option B) (so_far : List B) (items : List A) → items ≡ [] → some_behind so_far (each_some give items) ≡ Some so_far
some_all {A} {B} give so_far items none =
    ap (λ (all : List A). some_behind so_far (each_some give all)) none ∙ ap (λ (all : List B). Some all) (append-nil so_far)

-- Numbering

-- what is given so far, before what the items behind give
abbrev pub ok_behind : {B : Type 0} → List B → Result (List B) NamedPair → Result (List B) NamedPair
ok_behind so_far given = made (λ rest. so_far ++ rest) given

ok_put : {B : Type 0} (so_far : List B) (value : B) (given : Result (List B) NamedPair)
    → ok_behind (so_far ++ value ∷ []) given ≡ ok_behind so_far (made (λ rest. value ∷ rest) given)
ok_put so_far value (Err missing) = refl
ok_put {B} so_far value (Ok rest) = ap (λ (all : List B). Ok all) (append_assoc so_far (value ∷ []) rest)

-- one more item gives something
pub ok_more : {A B : Type 0} (give : A → Result B NamedPair) (so_far : List B) (item : A) (value : B) (items later : List A) → items ≡ item ∷ later
    → give item ≡ Ok value → ok_behind (so_far ++ value ∷ []) (each_ok give later) ≡ ok_behind so_far (each_ok give items)
ok_more give so_far item value items later first is =
    ok_put so_far value (each_ok give later) ∙ sym (ap (λ all. ok_behind so_far (each_ok give all)) first ∙ rw is refl)

-- a pair of an item is missing, and so all give that
pub ok_missing : {A B : Type 0} (give : A → Result B NamedPair) (so_far : List B) (item : A) (missing : NamedPair) (items later : List A) → items ≡ item ∷ later
    → give item ≡ Err missing → ok_behind so_far (each_ok give items) ≡ Err missing
ok_missing give so_far item missing items later first is = ap (λ all. ok_behind so_far (each_ok give all)) first ∙ rw is refl

-- no item is left
pub ok_all : {A B : Type 0} (give : A → Result B NamedPair) (so_far : List B) (items : List A) → items ≡ [] → ok_behind so_far (each_ok give items) ≡ Ok so_far
ok_all {A} {B} give so_far items none =
    ap (λ (all : List A). ok_behind so_far (each_ok give all)) none ∙ ap (λ (all : List B). Ok all) (append-nil so_far)

-- Lines

-- the lines so far, before those behind them
abbrev pub lines_behind : List Line → NumberedLines → NumberedLines
lines_behind so_far behind = record { lines = so_far ++ behind.lines; missing = behind.missing }

-- these lines, and what is missing behind them
abbrev pub stopped_at : List Line → Option Missing → NumberedLines
stopped_at lines missing = record { lines = lines; missing = missing }

-- one more line is numbered
pub line_more : (pairs : List Pair) (so_far : List Line) (number : ℕ) (item : NamedLine) (line : Line) (items later : List NamedLine) → items ≡ item ∷ later
    → line_numbered pairs item ≡ Ok line
    → lines_behind (so_far ++ line ∷ []) (numbered_from pairs (number + 1) later) ≡ lines_behind so_far (numbered_from pairs number items)
line_more pairs so_far number item line items later first is =
    let behind = numbered_from pairs (number + 1) later in
    ap (λ (lines : List Line). stopped_at lines behind.missing) (append_assoc so_far (line ∷ []) behind.lines)
    ∙ sym (ap (λ (all : List NamedLine). lines_behind so_far (numbered_from pairs number all)) first
    ∙ ap (λ (read : Result Line NamedPair). lines_behind so_far (put_numbered number read behind)) is)

-- a pair of a line is missing
pub line_missing : (pairs : List Pair) (so_far : List Line) (number : ℕ) (item : NamedLine) (pair : NamedPair) (items later : List NamedLine) → items ≡ item ∷ later
    → line_numbered pairs item ≡ Err pair
    → lines_behind so_far (numbered_from pairs number items) ≡ stopped_at so_far (Some (record { line = number; pair = pair }))
line_missing pairs so_far number item pair items later first is =
    let behind = numbered_from pairs (number + 1) later in
    ap (λ (all : List NamedLine). lines_behind so_far (numbered_from pairs number all)) first
    ∙ ap (λ (read : Result Line NamedPair). lines_behind so_far (put_numbered number read behind)) is
    ∙ ap (λ (lines : List Line). stopped_at lines (Some (record { line = number; pair = pair }))) (append-nil so_far)

-- no line is left
pub lines_all : (pairs : List Pair) (so_far : List Line) (number : ℕ) (items : List NamedLine) → items ≡ []
    → lines_behind so_far (numbered_from pairs number items) ≡ stopped_at so_far None
lines_all pairs so_far number items none =
    ap (λ (all : List NamedLine). lines_behind so_far (numbered_from pairs number all)) none
    ∙ ap (λ (lines : List Line). stopped_at lines None) (append-nil so_far)
