-- One more member, whose key is among the names or not.
use Rattle.std.proofs.Common.{◌≡◌, ◌∙◌, ◌&&◌, ◌||◌, ℕ, Bool, Bor, Global, List, [], ◌∷◌, String, ap, bytes_eq, map, refl, string_bytes, sym}
use Rattle.std.specs.List.{list_any}
use Rattle.serde_json.specs.View.{members_view}
use Rattle.serde_json.specs.declared.value.Value.{Value}
use Rattle.questions.specs.Member.{are_among, is_among}
use Rattle.questions.proofs.stray.stray.Goals as goal

-- a key is tested with the names or with their texts
tested : (names : List (Bor (List ℕ))) (key : List ℕ)
    → list_any (λ name. bytes_eq name.now key) names ≡ is_among (map (λ name. name.now) names) key
tested [] key = refl
tested (name ∷ names) key = ap (λ (b : Bool). bytes_eq name.now key || b) (tested names key)

-- what a test of the first member's key says of all members
first_key : (names : List (Bor (List ℕ))) (entry : String Global × Value) (later entries : List (String Global × Value)) (key : List ℕ) (among : Bool)
    → entries ≡ entry ∷ later → key ≡ string_bytes entry.0 → among ≡ list_any (λ name. bytes_eq name.now key) names
    → are_among (map (λ name. name.now) names) (members_view entries)
    ≡ (among && are_among (map (λ name. name.now) names) (members_view later))
first_key names entry later entries key among first is test =
    let texts = map (λ (name : Bor (List ℕ)). name.now) names in
    ap (λ (es : List (String Global × Value)). are_among texts (members_view es)) first
    ∙ ap (λ (b : Bool). b && are_among texts (members_view later))
    (sym (ap (is_among texts) is) ∙ sym (tested names key) ∙ sym test)

pub returns-then-not-is_among : goal.returns-then-not-is_among
returns-then-not-is_among c =
    let names = c.args.names.now in
    let entry : String Global × Value = (c.in-Some.key.now, c.in-Some.field-0-1.now) in
    sym (sym c.loop-key.invariant
    ∙ first_key names entry c.next.new.self c.loop-key.key-iterator c.as_str.result.now c.is_among.result c.in-Some.ensures.steps
    c.as_str.ensures.value c.is_among.ensures
    ∙ ap (λ (b : Bool). b && are_among (map (λ (name : Bor (List ℕ)). name.now) names) (members_view c.next.new.self)) c.if-not-is_among.true)

pub loop-key-preserved : goal.loop-key-preserved
loop-key-preserved c =
    let names = c.args.names.now in
    let entry : String Global × Value = (c.in-Some.key.now, c.in-Some.field-0-1.now) in
    sym (first_key names entry c.next.new.self c.loop-key.key-iterator c.as_str.result.now c.is_among.result c.in-Some.ensures.steps
    c.as_str.ensures.value c.is_among.ensures
    ∙ ap (λ (b : Bool). b && are_among (map (λ (name : Bor (List ℕ)). name.now) names) (members_view c.next.new.self)) c.if-not-is_among.false)
    ∙ c.loop-key.invariant
