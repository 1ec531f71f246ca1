-- What is cut from the text of an atom are its parts.
use Rattle.std.proofs.Common.{◌≡◌, ℕ, Bool, true, false, cond, Option, Some, None, List, [], ◌∷◌, ◌++◌, refl, sym, ap, ◌∙◌, arith, inl, inr, subst, IfSome}
use Rattle.std.proofs.lemmas.Bool.{and_from, and_parts, both_ways, cases_Bool, false≢true}
use Rattle.std.specs.Char.{is_ascii_alphanumeric}
use Rattle.std.specs.List.{list_all, take_while}
use Rattle.std.specs.Option.{option_and_then, option_map, is_some}
use Rattle.rules.specs.Name.{is_name, is_name_byte}
use Rattle.rules.specs.Package.{Atom}
use Rattle.rules.specs.VersionFault.{first_fault}
use Rattle.rules.specs.declared.goal.Restriction.{Restriction}
use Rattle.rules.specs.declared.op.Op.{Op}
use Rattle.rules.specs.declared.op.Op.TheVariants.{StrictlyEarlier, EarlierOrEqual, ExactlyEqual, LaterOrEqual, StrictlyLater}
use Rattle.relation_text.specs.Bytes.{is_white, is_colon, is_operator_byte, is_qualifier_byte, is_version_byte}
use Rattle.relation_text.specs.Grammar.{IsQualifier, SpellsOp, atom_of_provided, behind_colon, exactly}
use Rattle.relation_text.specs.Refusal.{bad_version_in, bad_version_of}
use Rattle.relation_text.specs.Spelling.{after_name, after_qualifier, after_run, atom_of, inside_of, is_foreign, name_of, op_of, opened_at, provided_of, qualifier_at, restriction_in, version_in}
use Rattle.relation_text.specs.declared.shape.RelationForm.TheVariants.{Provides}
use Rattle.relation_text.proofs.Runs.{Excludes, Stops, drop_run, excludes_byte, stops_past, take_run}
use Rattle.relation_text.proofs.AtomText.{IsAnyOpened, IsAtomText, IsBehindName, IsBehindOperator, IsClosing, IsInside, IsTail, IsVersionText, TakesAny}

-- Which bytes stop which

-- white space fails a test that its three bytes fail
pub white_fails : (test : ℕ → Bool) → test 32 ≡ false → test 9 ≡ false → test 10 ≡ false → Excludes is_white test
white_fails test space tab newline b white = elim (cases_Bool (test b)) [
  | inl passes ↦
      let no_space = excludes_byte test 32 space b passes in
      let no_tab = excludes_byte test 9 tab b passes in
      let no_newline = excludes_byte test 10 newline b passes in
      absurd (both_ways (is_white b) (rw (no_space, no_tab, no_newline) refl) white)
  | inr fails ↦ fails
]

-- bytes that white space's three bytes aren't among are no white space
pub fails_white : (test : ℕ → Bool) → test 32 ≡ false → test 9 ≡ false → test 10 ≡ false → Excludes test is_white
fails_white test space tab newline b passes =
    let no_space = excludes_byte test 32 space b passes in
    let no_tab = excludes_byte test 9 tab b passes in
    let no_newline = excludes_byte test 10 newline b passes in
    rw (no_space, no_tab, no_newline) refl

version_no_operator : Excludes is_version_byte is_operator_byte
version_no_operator b passes =
    let less = excludes_byte is_version_byte 60 refl b passes in
    let equals = excludes_byte is_version_byte 61 refl b passes in
    let greater = excludes_byte is_version_byte 62 refl b passes in
    rw (less, equals, greater) refl

pub version_stops : (test : ℕ → Bool) → Excludes is_version_byte test → (version rest : List ℕ) → IsVersionText version → Stops test (version ++ rest)
version_stops test excludes [] rest is = absurd (let written = is.written in omega arith)
version_stops test excludes (b ∷ version) rest is = excludes b (and_parts (is_version_byte b) (list_all is_version_byte version) is.bytes).0

pub closing_stops : (closing : List ℕ) → IsClosing closing → Stops is_version_byte closing
closing_stops closing is = subst (Stops is_version_byte) (sym is.text_is)
    (stops_past is_white is_version_byte (white_fails is_version_byte refl refl refl) is.before (41 ∷ is.behind) is.before_is refl)

any_opened_stops : (test : ℕ → Bool) → test 40 ≡ false → (opened : List ℕ) (restriction : Option Restriction) → IsAnyOpened opened restriction → Stops test opened
any_opened_stops test fails opened None is = subst (Stops test) (sym is) tt
any_opened_stops test fails opened (Some restriction) is = subst (Stops test) (sym is.text_is) fails

pub tail_stops : (test : ℕ → Bool) → Excludes is_white test → test 40 ≡ false → (tail : List ℕ) (restriction : Option Restriction) → IsTail tail restriction → Stops test tail
tail_stops test excludes fails tail restriction is = subst (Stops test) (sym is.text_is)
    (stops_past is_white test excludes is.before is.opened is.before_is (any_opened_stops test fails is.opened restriction is.opened_is))

pub behind_name_stops : (rest : List ℕ) (qualifier : Option (List ℕ)) (restriction : Option Restriction) → IsBehindName rest qualifier restriction → Stops is_name_byte rest
behind_name_stops rest None restriction is = subst (Stops is_name_byte) (sym is.text_is)
    (tail_stops is_name_byte (white_fails is_name_byte refl refl refl) refl is.tail restriction is.tail_is)
behind_name_stops rest (Some qualifier) restriction is = subst (Stops is_name_byte) (sym is.text_is) refl

pub name_stops : (test : ℕ → Bool) → Excludes is_ascii_alphanumeric test → (name rest : List ℕ) → is_name name ≡ true → Stops test (name ++ rest)
name_stops test excludes [] rest is = absurd (false≢true is)
name_stops test excludes (b ∷ name) rest is = excludes b (and_parts (is_ascii_alphanumeric b) (list_all is_name_byte name) is).0

pub name_bytes : (name : List ℕ) → is_name name ≡ true → list_all is_name_byte name ≡ true
name_bytes [] is = absurd (false≢true is)
name_bytes (b ∷ name) is =
    let both = and_parts (is_ascii_alphanumeric b) (list_all is_name_byte name) is in
    let first = both.0 in
    and_from _ _ (rw first refl) both.1

pub qualifier_bytes : (qualifier : List ℕ) → IsQualifier qualifier → list_all is_qualifier_byte qualifier ≡ true
qualifier_bytes [] is = absurd is
qualifier_bytes (b ∷ rest) is = let first = is.0 in and_from _ _ (rw first refl) is.1

-- The operator

pub op_bytes : (text : List ℕ) (op : Op) → SpellsOp text op → list_all is_operator_byte text ≡ true
op_bytes text StrictlyEarlier e = rw e refl
op_bytes text EarlierOrEqual e = elim e [ inl equal ↦ rw equal refl | inr alone ↦ rw alone refl ]
op_bytes text ExactlyEqual e = rw e refl
op_bytes text LaterOrEqual e = elim e [ inl equal ↦ rw equal refl | inr alone ↦ rw alone refl ]
op_bytes text StrictlyLater e = rw e refl

op_value : (text : List ℕ) (op : Op) → SpellsOp text op → op_of text ≡ op
op_value text StrictlyEarlier e = rw e refl
op_value text EarlierOrEqual e = elim e [ inl equal ↦ rw equal refl | inr alone ↦ rw alone refl ]
op_value text ExactlyEqual e = rw e refl
op_value text LaterOrEqual e = elim e [ inl equal ↦ rw equal refl | inr alone ↦ rw alone refl ]
op_value text StrictlyLater e = rw e refl

op_stops : (text rest : List ℕ) (op : Op) → SpellsOp text op → Stops is_white (text ++ rest)
op_stops text rest StrictlyEarlier e = rw e refl
op_stops text rest EarlierOrEqual e = elim e [ inl equal ↦ rw equal refl | inr alone ↦ rw alone refl ]
op_stops text rest ExactlyEqual e = rw e refl
op_stops text rest LaterOrEqual e = elim e [ inl equal ↦ rw equal refl | inr alone ↦ rw alone refl ]
op_stops text rest StrictlyLater e = rw e refl

-- The restriction

pub behind_operator_stops : (text version : List ℕ) → IsBehindOperator text version → Stops is_operator_byte text
behind_operator_stops text version is = subst (Stops is_operator_byte) (sym is.text_is)
    (stops_past is_white is_operator_byte (white_fails is_operator_byte refl refl refl) is.before (version ++ is.closing) is.before_is
    (version_stops is_operator_byte version_no_operator version is.closing is.version_is))

behind_operator_value : (text version : List ℕ) → IsBehindOperator text version → take_while is_version_byte (after_run is_white text) ≡ version
behind_operator_value text version is =
    ap (λ (text : List ℕ). take_while is_version_byte (after_run is_white text)) is.text_is
    ∙ ap (take_while is_version_byte) (drop_run is_white is.before (version ++ is.closing) is.before_is
    (version_stops is_white (fails_white is_version_byte refl refl refl) version is.closing is.version_is))
    ∙ take_run is_version_byte version is.closing is.version_is.bytes (closing_stops is.closing is.closing_is)

inside_op : (text : List ℕ) (restriction : Restriction) → IsInside text restriction → op_of (take_while is_operator_byte text) ≡ restriction.op
inside_op text restriction is =
    ap (λ (text : List ℕ). op_of (take_while is_operator_byte text)) is.text_is
    ∙ ap op_of (take_run is_operator_byte is.operator is.rest (op_bytes is.operator restriction.op is.op_is)
    (behind_operator_stops is.rest restriction.version is.rest_is))
    ∙ op_value is.operator restriction.op is.op_is

pub inside_version : (text : List ℕ) (restriction : Restriction) → IsInside text restriction → version_in text ≡ restriction.version
inside_version text restriction is =
    ap version_in is.text_is
    ∙ ap (λ (text : List ℕ). take_while is_version_byte (after_run is_white text)) (drop_run is_operator_byte is.operator is.rest (op_bytes is.operator restriction.op is.op_is)
    (behind_operator_stops is.rest restriction.version is.rest_is))
    ∙ behind_operator_value is.rest restriction.version is.rest_is

inside_value : (text : List ℕ) (restriction : Restriction) → IsInside text restriction → restriction_in text ≡ restriction
inside_value text restriction is = λ i. record { op = inside_op text restriction is i; version = inside_version text restriction is i }

-- what is found as a restriction's inside
abbrev pub IsFound : Option (List ℕ) → Option Restriction → Type 0
IsFound None None = Unit {0}
IsFound None (Some restriction) = ⊥
IsFound (Some inside) None = ⊥
IsFound (Some inside) (Some restriction) = restriction_in inside ≡ restriction

opened_found : (opened : List ℕ) (restriction : Option Restriction) → IsAnyOpened opened restriction → IsFound (opened_at opened) restriction
opened_found opened None is = subst (λ (opened : List ℕ). IsFound (opened_at opened) None) (sym is) tt
opened_found opened (Some restriction) is =
    let inside = is.inside_is in
    let stops : Stops is_white is.inside = subst (Stops is_white) (sym inside.text_is) (op_stops inside.operator inside.rest restriction.op inside.op_is) in
    subst (λ (opened : List ℕ). IsFound (opened_at opened) (Some restriction)) (sym is.text_is)
    (subst (λ (inside : List ℕ). restriction_in inside ≡ restriction) (sym (drop_run is_white is.before is.inside is.before_is stops))
    (inside_value is.inside restriction inside))

tail_found : (tail : List ℕ) (restriction : Option Restriction) → IsTail tail restriction → IsFound (opened_at (after_run is_white tail)) restriction
tail_found tail restriction is =
    let at : after_run is_white tail ≡ is.opened = ap (after_run is_white) is.text_is
    ∙ drop_run is_white is.before is.opened is.before_is (any_opened_stops is_white refl is.opened restriction is.opened_is) in
    subst (λ (opened : List ℕ). IsFound (opened_at opened) restriction) (sym at) (opened_found is.opened restriction is.opened_is)

-- The name and the qualifier

no_qualifier : (tail : List ℕ) → Stops is_colon tail → qualifier_at tail ≡ None
no_qualifier [] stops = refl
no_qualifier (b ∷ tail) stops = rw stops refl

behind_no_qualifier : (tail : List ℕ) → Stops is_colon tail → after_qualifier tail ≡ tail
behind_no_qualifier [] stops = refl
behind_no_qualifier (b ∷ tail) stops = rw stops refl

record CutsQualifier (rest : List ℕ) (qualifier : Option (List ℕ)) (tail : List ℕ) : Type 0 where
  qualifier_is : qualifier_at rest ≡ qualifier
  behind : after_qualifier rest ≡ tail

cut_qualifier : (qualifier : Option (List ℕ)) (tail : List ℕ) → IfSome qualifier IsQualifier → Stops is_colon tail → Stops is_qualifier_byte tail
    → CutsQualifier (behind_colon qualifier ++ tail) qualifier tail
cut_qualifier None tail is stops ends = record { qualifier_is = no_qualifier tail stops; behind = behind_no_qualifier tail stops }
cut_qualifier (Some qualifier) tail is stops ends =
    let bytes = qualifier_bytes qualifier is in
    record {
      qualifier_is = ap (λ (qualifier : List ℕ). Some qualifier) (take_run is_qualifier_byte qualifier tail bytes ends);
      behind = drop_run is_qualifier_byte qualifier tail bytes ends;
    }

pub record CutsAtom (text name : List ℕ) (qualifier : Option (List ℕ)) (restriction : Option Restriction) : Type 0 where
  pub name_is : name_of text ≡ name
  pub qualifier_is : qualifier_at (after_name text) ≡ qualifier
  pub restriction_is : IsFound (inside_of text) restriction

pub cut_atom : (text name : List ℕ) (qualifier : Option (List ℕ)) (restriction : Option Restriction) → IsAtomText text name qualifier restriction
    → CutsAtom text name qualifier restriction
cut_atom text name qualifier restriction is =
    let rest = is.rest_is in
    let tail = rest.tail_is in
    let behind_white : after_run is_white text ≡ name ++ is.rest = ap (after_run is_white) is.text_is
    ∙ drop_run is_white is.before (name ++ is.rest) is.before_is
    (name_stops is_white (fails_white is_ascii_alphanumeric refl refl refl) name is.rest is.name_is) in
    let stops = behind_name_stops is.rest qualifier restriction rest in
    let bytes = name_bytes name is.name_is in
    let behind_name : after_name text ≡ is.rest = ap (after_run is_name_byte) behind_white ∙ drop_run is_name_byte name is.rest bytes stops in
    let cut = cut_qualifier qualifier rest.tail rest.qualifier_is
    (tail_stops is_colon (white_fails is_colon refl refl refl) refl rest.tail restriction tail)
    (tail_stops is_qualifier_byte (white_fails is_qualifier_byte refl refl refl) refl rest.tail restriction tail) in
    let to_rest : after_name text ≡ behind_colon qualifier ++ rest.tail = behind_name ∙ rest.text_is in
    record {
      name_is = ap (take_while is_name_byte) behind_white ∙ take_run is_name_byte name is.rest bytes stops;
      qualifier_is = ap qualifier_at to_rest ∙ cut.qualifier_is;
      restriction_is = subst (λ (tail : List ℕ). IsFound (opened_at (after_run is_white tail)) restriction) (sym (ap after_qualifier to_rest ∙ cut.behind))
          (tail_found rest.tail restriction tail);
    }

-- The values

found_restriction : (part : Option (List ℕ)) (restriction : Option Restriction) → IsFound part restriction → option_map restriction_in part ≡ restriction
found_restriction None None is = refl
found_restriction None (Some restriction) is = absurd is
found_restriction (Some inside) None is = absurd is
found_restriction (Some inside) (Some restriction) is = ap (λ (r : Restriction). Some r) is

found_exactly : (part : Option (List ℕ)) (restriction : Option Restriction) → IsFound part restriction → TakesAny Provides restriction
    → option_map exactly (option_map version_in part) ≡ restriction
found_exactly None None is takes = refl
found_exactly None (Some restriction) is takes = absurd is
found_exactly (Some inside) None is takes = absurd is
found_exactly (Some inside) (Some restriction) is takes =
    λ i. Some (record { op = sym takes i; version = (is i).version })

-- an atom of these parts
abbrev pub atom_from : List ℕ → List ℕ → Option (List ℕ) → Option Restriction → Atom
atom_from arch name qualifier restriction = record { name = name; restriction = restriction; foreign = is_foreign arch qualifier }

pub atom_value : (arch text name : List ℕ) (qualifier : Option (List ℕ)) (restriction : Option Restriction) → IsAtomText text name qualifier restriction
    → atom_of arch text ≡ atom_from arch name qualifier restriction
atom_value arch text name qualifier restriction is =
    let cut = cut_atom text name qualifier restriction is in
    let restriction_is = found_restriction (inside_of text) restriction cut.restriction_is in
    λ i. record { name = cut.name_is i; restriction = restriction_is i; foreign = is_foreign arch (cut.qualifier_is i) }

pub provided_value : (arch text name : List ℕ) (qualifier : Option (List ℕ)) (restriction : Option Restriction) → IsAtomText text name qualifier restriction
    → TakesAny Provides restriction → atom_of_provided (provided_of arch text) ≡ atom_from arch name qualifier restriction
provided_value arch text name qualifier restriction is takes =
    let cut = cut_atom text name qualifier restriction is in
    let restriction_is = found_exactly (inside_of text) restriction cut.restriction_is takes in
    λ i. record { name = cut.name_is i; restriction = restriction_is i; foreign = is_foreign arch (cut.qualifier_is i) }

-- The version

-- the version of a restriction, if there is one, has no fault
abbrev pub IsFaultless : Option Restriction → Type 0
IsFaultless None = Unit {0}
IsFaultless (Some restriction) = first_fault restriction.version ≡ None

no_fault_in : {A : Type 0} (fault : Option A) (offset : ℕ) → cond (is_some fault) (Some offset) None ≡ None → fault ≡ None
no_fault_in None offset e = refl
no_fault_in (Some fault) offset e = cc e

found_faultless : (text : List ℕ) (part : Option (List ℕ)) (restriction : Option Restriction) → IsFound part restriction
    → option_and_then (bad_version_in text) part ≡ None → IsFaultless restriction
found_faultless text None None is e = tt
found_faultless text None (Some restriction) is e = absurd is
found_faultless text (Some inside) None is e = absurd is
found_faultless text (Some inside) (Some restriction) is e =
    ap (λ (r : Restriction). first_fault r.version) (sym is) ∙ no_fault_in (first_fault (version_in inside)) _ e

faultless_found : (text : List ℕ) (part : Option (List ℕ)) (restriction : Option Restriction) → IsFound part restriction → IsFaultless restriction
    → option_and_then (bad_version_in text) part ≡ None
faultless_found text None None is faultless = refl
faultless_found text None (Some restriction) is faultless = absurd is
faultless_found text (Some inside) None is faultless = absurd is
faultless_found text (Some inside) (Some restriction) is faultless =
    let clean : first_fault (version_in inside) ≡ None = ap (λ (r : Restriction). first_fault r.version) is ∙ faultless in
    rw clean refl

pub faultless_from : (text : List ℕ) (restriction : Option Restriction) → IsFound (inside_of text) restriction → bad_version_of text ≡ None → IsFaultless restriction
unfolding bad_version_of
faultless_from text restriction restriction_is e = found_faultless text (inside_of text) restriction restriction_is e

pub no_bad_version : (text : List ℕ) (restriction : Option Restriction) → IsFound (inside_of text) restriction → IsFaultless restriction → bad_version_of text ≡ None
unfolding bad_version_of
no_bad_version text restriction restriction_is faultless = faultless_found text (inside_of text) restriction restriction_is faultless
