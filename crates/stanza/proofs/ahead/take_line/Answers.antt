-- The line's field is noted, if it begins one.
use Rattle.std.proofs.Common.{◌≡◌, ℕ, ◌++◌, ◌∷◌, [], List, length, arith, sym, ap, ◌∙◌}
use Rattle.stanza.specs.Line.{lines_of}
use Rattle.stanza.specs.Starts.{starts_of}
use Rattle.stanza.specs.declared.starts.FieldStart.{FieldStart}
use Rattle.stanza.proofs.StartsLemmas.{name-found, none-found, starts-field, starts-other}
use Rattle.stanza.proofs.ahead.take_line.Goals as goal

pub returns-in_default-clause-starts : goal.returns-in_default-clause-starts
returns-in_default-clause-starts c = λ n count.
    let same : c.requires.starts.0 ≡ n = omega (arith, count, c.requires.starts.2) in
    c.requires.starts.1 ∙ ap (λ (k : ℕ). starts_of c.args.form 0 k (lines_of c.args.done.now)) same
    ∙ sym (starts-other c.args.form n c.args.done.now c.args.line.now (none-found c.args.form c.args.opened c.args.number c.args.line.now c.in_ok-name.field-0 c.in_default.is c.in_ok-name.ensures))

pub returns-clause-starts : goal.returns-clause-starts
returns-clause-starts c = λ n count.
    let same : c.requires.starts.0 ≡ n = omega (arith, count, c.requires.starts.2) in
    c.in_ok-push.ensures.items
    ∙ ap (λ (starts : List FieldStart). starts ++ record { at = length c.args.done.now; name_len = length c.in-Some.name.now; line = c.args.number } ∷ [])
    (c.requires.starts.1 ∙ ap (λ (k : ℕ). starts_of c.args.form 0 k (lines_of c.args.done.now)) same)
    ∙ sym (starts-field c.args.form n c.args.number c.args.done.now c.args.line.now c.in-Some.name.now (name-found c.args.form c.args.opened c.args.number c.args.line.now c.in-Some.name c.in_ok-name.field-0 c.in-Some.is c.in_ok-name.ensures).begins (name-found c.args.form c.args.opened c.args.number c.args.line.now c.in-Some.name c.in_ok-name.field-0 c.in-Some.is c.in_ok-name.ensures).is count)
