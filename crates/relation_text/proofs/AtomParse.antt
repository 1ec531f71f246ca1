-- What the automaton takes as an atom has the parts of one.
use Rattle.std.proofs.Common.{◌≡◌, ℕ, Bool, true, false, cond, Option, Some, None, List, [], ◌∷◌, ◌++◌, refl, sym, ap, ◌∙◌, arith, inl, inr, ◌⊎◌, ◌==◌, ◌||◌}
use Rattle.std.proofs.lemmas.Bool.{and_from, cases_Bool, eqb-true, false≢true, or_cases, or_parts}
use Rattle.std.specs.Char.{is_ascii_alphanumeric}
use Rattle.std.specs.List.{list_all, list_any}
use Rattle.rules.specs.Name.{is_name_byte}
use Rattle.rules.specs.declared.goal.Restriction.{Restriction}
use Rattle.rules.specs.declared.op.Op.TheVariants.{StrictlyEarlier, EarlierOrEqual, ExactlyEqual, LaterOrEqual, StrictlyLater}
use Rattle.relation_text.specs.Bytes.{is_white, is_comma, is_bar, is_colon, is_opening, is_closing, is_less, is_equals, is_greater, is_qualifier_byte, is_version_byte}
use Rattle.relation_text.specs.Grammar.{IsWhite}
use Rattle.relation_text.specs.Place.{is_end}
use Rattle.relation_text.specs.Refusal.{separator_of}
use Rattle.relation_text.specs.Shape.{after_atom, after_name, after_version, before_version, before_operator, next, next_in_operator, place_after, unless_provides}
use Rattle.relation_text.specs.Spelling.{separates}
use Rattle.relation_text.specs.declared.shape.RelationForm.{RelationForm}
use Rattle.relation_text.specs.declared.shape.RelationForm.TheVariants.{Clauses, Atoms, Provides}
use Rattle.relation_text.specs.declared.shape.ShapePlace.{ShapePlace}
use Rattle.relation_text.specs.declared.shape.ShapePlace.TheVariants.{Between, Alternative, InName, AfterName, BeforeQualifier, InQualifier, Opened, Less, Greater, AfterOperator, InVersion, AfterVersion, Closed, Dead}
use Rattle.relation_text.proofs.ShapeLemmas.{place_after-dead}
use Rattle.relation_text.proofs.AtomText.{IsOnePart, Takes, TakesAny, IsClosing, IsVersionEnd, IsBehindOperator, IsInside, IsTail, IsBehindName, IsAtomText}

-- the bytes lead from the place to an end
abbrev pub Ends : RelationForm → ShapePlace → List ℕ → Type 0
Ends form place bytes = is_end (place_after form place bytes) ≡ true

pub no_end : (form : RelationForm) (place : ShapePlace) (bytes : List ℕ) → place ≡ Dead → Ends form place bytes → ⊥
no_end form place bytes dead e =
    let f : false ≡ true = sym (ap (λ (p : ShapePlace). is_end (place_after form p bytes)) dead ∙ ap is_end (place_after-dead form bytes)) ∙ e in
    false≢true f

-- what follows the first byte is in the part too
pub part_rest : (form : RelationForm) (b : ℕ) (rest : List ℕ) → IsOnePart form (b ∷ rest) → IsOnePart form rest
part_rest form b rest part = (or_parts (separates (separator_of form) b) (list_any (separates (separator_of form)) rest) part).1

part_first : (form : RelationForm) (b : ℕ) (rest : List ℕ) → IsOnePart form (b ∷ rest) → separates (separator_of form) b ≡ false
part_first form b rest part = (or_parts (separates (separator_of form) b) (list_any (separates (separator_of form)) rest) part).0

pub no_comma : (form : RelationForm) (b : ℕ) → separates (separator_of form) b ≡ false → is_comma b ≡ false
no_comma Clauses b h = (or_parts (is_comma b) (is_bar b) h).0
no_comma Atoms b h = h
no_comma Provides b h = h

same_either : {X : Type 0} (t : Bool) (x : X) → cond t x x ≡ x
same_either true x = refl
same_either false x = refl

after_atom-dead : (form : RelationForm) (place : ShapePlace) (b : ℕ) → is_white b ≡ false → separates (separator_of form) b ≡ false → after_atom form place b ≡ Dead
after_atom-dead Clauses place b other h = let parts = or_parts (is_comma b) (is_bar b) h in
    let comma = parts.0 in let bar = parts.1 in rw (other, comma, bar) refl
after_atom-dead Atoms place b other h = rw (other, h) (same_either (is_bar b) Dead)
after_atom-dead Provides place b other h = rw (other, h) (same_either (is_bar b) Dead)

-- Behind a restriction

closed_rest : (form : RelationForm) (bytes : List ℕ) → Ends form Closed bytes → IsOnePart form bytes → IsWhite bytes
closed_rest form [] e part = refl
closed_rest form (b ∷ bytes) e part = elim (cases_Bool (is_white b)) [
  | inl white ↦ and_from _ _ white (closed_rest form bytes (rw white at e) (part_rest form b bytes part))
  | inr other ↦ absurd (no_end form (after_atom form Closed b) bytes (after_atom-dead form Closed b other (part_first form b bytes part)) e)
]

after_version_rest : (form : RelationForm) (bytes : List ℕ) → Ends form AfterVersion bytes → IsOnePart form bytes → IsClosing bytes
after_version_rest form [] e part = absurd (false≢true e)
after_version_rest form (b ∷ bytes) e part = elim (cases_Bool (is_white b)) [
  | inl white ↦
      let later = after_version_rest form bytes (rw white at e) (part_rest form b bytes part) in
      record {
        before = b ∷ later.before;
        behind = later.behind;
        text_is = ap (λ (rest : List ℕ). b ∷ rest) later.text_is;
        before_is = and_from _ _ white later.before_is;
        behind_is = later.behind_is;
      }
  | inr other ↦ elim (cases_Bool (is_closing b)) [
    | inl closing ↦ record {
      before = [];
      behind = bytes;
      text_is = ap (λ (c : ℕ). c ∷ bytes) (eqb-true b 41 closing);
      before_is = refl;
      behind_is = closed_rest form bytes (rw (other, closing) at e) (part_rest form b bytes part);
    }
    | inr no_closing ↦ absurd (no_end form (after_version b) bytes (rw (other, no_closing) refl) e)
  ]
]

in_version_rest : (form : RelationForm) (bytes : List ℕ) → Ends form InVersion bytes → IsOnePart form bytes → IsVersionEnd bytes
in_version_rest form [] e part = absurd (false≢true e)
in_version_rest form (b ∷ bytes) e part = elim (cases_Bool (is_version_byte b)) [
  | inl version ↦
      let later = in_version_rest form bytes (rw version at e) (part_rest form b bytes part) in
      record {
        version = b ∷ later.version;
        closing = later.closing;
        text_is = ap (λ (rest : List ℕ). b ∷ rest) later.text_is;
        version_is = and_from _ _ version later.version_is;
        closing_is = later.closing_is;
      }
  | inr other ↦ record {
    version = [];
    closing = b ∷ bytes;
    text_is = refl;
    version_is = refl;
    closing_is = after_version_rest form (b ∷ bytes) (rw other at e) part;
  }
]

-- In a restriction

record IsVersionThere (text : List ℕ) : Type 0 where
  version : List ℕ
  rest : IsBehindOperator text version

before_version_rest : (form : RelationForm) (bytes : List ℕ) → Ends form AfterOperator bytes → IsOnePart form bytes → IsVersionThere bytes
before_version_rest form [] e part = absurd (false≢true e)
before_version_rest form (b ∷ bytes) e part = elim (cases_Bool (is_white b)) [
  | inl white ↦
      let later = before_version_rest form bytes (rw white at e) (part_rest form b bytes part) in
      let rest = later.rest in
      record {
        version = later.version;
        rest = record {
          before = b ∷ rest.before;
          closing = rest.closing;
          text_is = ap (λ (rest : List ℕ). b ∷ rest) rest.text_is;
          before_is = and_from _ _ white rest.before_is;
          version_is = rest.version_is;
          closing_is = rest.closing_is;
        };
      }
  | inr other ↦ elim (cases_Bool (is_version_byte b)) [
    | inl version ↦
        let later = in_version_rest form bytes (rw (other, version) at e) (part_rest form b bytes part) in
        record {
          version = b ∷ later.version;
          rest = record {
            before = [];
            closing = later.closing;
            text_is = ap (λ (rest : List ℕ). b ∷ rest) later.text_is;
            before_is = refl;
            version_is = record { written = omega arith; bytes = and_from _ _ version later.version_is };
            closing_is = later.closing_is;
          };
        }
    | inr no_version ↦ absurd (no_end form (before_version b) bytes (rw (other, no_version) refl) e)
  ]
]

-- behind the first byte of an operator: its second, or `=`, or nothing
record IsSecond (second : ℕ) (text : List ℕ) : Type 0 where
  operator : List ℕ
  rest : List ℕ
  text_is : text ≡ operator ++ rest
  operator_is : (operator ≡ second ∷ []) ⊎ ((operator ≡ 61 ∷ []) ⊎ (operator ≡ []))
  rest_is : IsVersionThere rest

in_operator_rest : (form : RelationForm) (second b : ℕ) (bytes : List ℕ) → Ends form (next_in_operator second b) bytes → IsOnePart form (b ∷ bytes) → IsSecond second (b ∷ bytes)
in_operator_rest form second b bytes e part = elim (cases_Bool (b == second || is_equals b)) [
  | inl more ↦ record {
    operator = b ∷ [];
    rest = bytes;
    text_is = refl;
    operator_is = elim (or_cases (b == second) (is_equals b) more) [
      | inl same ↦ inl (ap (λ (c : ℕ). c ∷ []) (eqb-true b second same))
      | inr equals ↦ inr (inl (ap (λ (c : ℕ). c ∷ []) (eqb-true b 61 equals)))
    ];
    rest_is = before_version_rest form bytes (rw more at e) (part_rest form b bytes part);
  }
  | inr other ↦ record {
    operator = [];
    rest = b ∷ bytes;
    text_is = refl;
    operator_is = inr (inr refl);
    rest_is = before_version_rest form (b ∷ bytes) (rw other at e) part;
  }
]

record IsInsideOf (form : RelationForm) (text : List ℕ) : Type 0 where
  restriction : Restriction
  inside : IsInside text restriction
  takes : Takes form restriction.op

less_op : (form : RelationForm) (text : List ℕ) → Takes form EarlierOrEqual → Takes form StrictlyEarlier → IsSecond 60 text → IsInsideOf form (60 ∷ text)
less_op form text takes_equal takes_strictly second =
    let version = second.rest_is.version in
    let text_is : 60 ∷ text ≡ (60 ∷ second.operator) ++ second.rest = ap (λ (rest : List ℕ). 60 ∷ rest) second.text_is in
    elim (second.operator_is) [
      | inl strictly ↦ record {
        restriction = record { op = StrictlyEarlier; version = version };
        inside = record {
          operator = 60 ∷ second.operator;
          rest = second.rest;
          text_is = text_is;
          op_is = ap (λ (o : List ℕ). 60 ∷ o) strictly;
          rest_is = second.rest_is.rest;
        };
        takes = takes_strictly;
      }
      | inr or ↦ record {
        restriction = record { op = EarlierOrEqual; version = version };
        inside = record {
          operator = 60 ∷ second.operator;
          rest = second.rest;
          text_is = text_is;
          op_is = elim or [ inl equal ↦ inl (ap (λ (o : List ℕ). 60 ∷ o) equal) | inr alone ↦ inr (ap (λ (o : List ℕ). 60 ∷ o) alone) ];
          rest_is = second.rest_is.rest;
        };
        takes = takes_equal;
      }
    ]

greater_op : (form : RelationForm) (text : List ℕ) → Takes form LaterOrEqual → Takes form StrictlyLater → IsSecond 62 text → IsInsideOf form (62 ∷ text)
greater_op form text takes_equal takes_strictly second =
    let version = second.rest_is.version in
    let text_is : 62 ∷ text ≡ (62 ∷ second.operator) ++ second.rest = ap (λ (rest : List ℕ). 62 ∷ rest) second.text_is in
    elim (second.operator_is) [
      | inl strictly ↦ record {
        restriction = record { op = StrictlyLater; version = version };
        inside = record {
          operator = 62 ∷ second.operator;
          rest = second.rest;
          text_is = text_is;
          op_is = ap (λ (o : List ℕ). 62 ∷ o) strictly;
          rest_is = second.rest_is.rest;
        };
        takes = takes_strictly;
      }
      | inr or ↦ record {
        restriction = record { op = LaterOrEqual; version = version };
        inside = record {
          operator = 62 ∷ second.operator;
          rest = second.rest;
          text_is = text_is;
          op_is = elim or [ inl equal ↦ inl (ap (λ (o : List ℕ). 62 ∷ o) equal) | inr alone ↦ inr (ap (λ (o : List ℕ). 62 ∷ o) alone) ];
          rest_is = second.rest_is.rest;
        };
        takes = takes_equal;
      }
    ]

equals_op : (form : RelationForm) (text : List ℕ) → Takes form ExactlyEqual → IsVersionThere text → IsInsideOf form (61 ∷ text)
equals_op form text takes there = record {
  restriction = record { op = ExactlyEqual; version = there.version };
  inside = record { operator = 61 ∷ []; rest = text; text_is = refl; op_is = refl; rest_is = there.rest };
  takes = takes;
}

takes_equals : (form : RelationForm) → Takes form ExactlyEqual
takes_equals Clauses = tt
takes_equals Atoms = tt
takes_equals Provides = refl

second_of_less : (form : RelationForm) (bytes : List ℕ) → Ends form Less bytes → IsOnePart form bytes → IsSecond 60 bytes
second_of_less form [] e part = absurd (false≢true e)
second_of_less form (b ∷ bytes) e part = in_operator_rest form 60 b bytes e part

second_of_greater : (form : RelationForm) (bytes : List ℕ) → Ends form Greater bytes → IsOnePart form bytes → IsSecond 62 bytes
second_of_greater form [] e part = absurd (false≢true e)
second_of_greater form (b ∷ bytes) e part = in_operator_rest form 62 b bytes e part

less_rest : (form : RelationForm) (bytes : List ℕ) → Ends form (unless_provides form Less) bytes → IsOnePart form bytes → IsInsideOf form (60 ∷ bytes)
less_rest Clauses bytes e part = less_op Clauses bytes tt tt (second_of_less Clauses bytes e part)
less_rest Atoms bytes e part = less_op Atoms bytes tt tt (second_of_less Atoms bytes e part)
less_rest Provides bytes e part = absurd (no_end Provides Dead bytes refl e)

greater_rest : (form : RelationForm) (bytes : List ℕ) → Ends form (unless_provides form Greater) bytes → IsOnePart form bytes → IsInsideOf form (62 ∷ bytes)
greater_rest Clauses bytes e part = greater_op Clauses bytes tt tt (second_of_greater Clauses bytes e part)
greater_rest Atoms bytes e part = greater_op Atoms bytes tt tt (second_of_greater Atoms bytes e part)
greater_rest Provides bytes e part = absurd (no_end Provides Dead bytes refl e)

at_byte : (form : RelationForm) (c b : ℕ) (bytes : List ℕ) → (b == c) ≡ true → IsInsideOf form (c ∷ bytes) → IsInsideOf form (b ∷ bytes)
at_byte form c b bytes same there =
    let inside = there.inside in
    record {
      restriction = there.restriction;
      inside = record {
        operator = inside.operator;
        rest = inside.rest;
        text_is = ap (λ (d : ℕ). d ∷ bytes) (eqb-true b c same) ∙ inside.text_is;
        op_is = inside.op_is;
        rest_is = inside.rest_is;
      };
      takes = there.takes;
    }

record IsOpenedOf (form : RelationForm) (text : List ℕ) : Type 0 where
  before : List ℕ
  inside : List ℕ
  text_is : text ≡ before ++ inside
  before_is : IsWhite before
  inside_is : IsInsideOf form inside

opened_rest : (form : RelationForm) (bytes : List ℕ) → Ends form Opened bytes → IsOnePart form bytes → IsOpenedOf form bytes
opened_rest form [] e part = absurd (false≢true e)
opened_rest form (b ∷ bytes) e part = elim (cases_Bool (is_white b)) [
  | inl white ↦
      let later = opened_rest form bytes (rw white at e) (part_rest form b bytes part) in
      record {
        before = b ∷ later.before;
        inside = later.inside;
        text_is = ap (λ (rest : List ℕ). b ∷ rest) later.text_is;
        before_is = and_from _ _ white later.before_is;
        inside_is = later.inside_is;
      }
  | inr other ↦
      let rest = part_rest form b bytes part in
      let at : IsInsideOf form (b ∷ bytes) = elim (cases_Bool (is_equals b)) [
        | inl equals ↦ at_byte form 61 b bytes equals (equals_op form bytes (takes_equals form) (before_version_rest form bytes (rw (other, equals) at e) rest))
        | inr no_equals ↦ elim (cases_Bool (is_less b)) [
          | inl less ↦ at_byte form 60 b bytes less (less_rest form bytes (rw (other, no_equals, less) at e) rest)
          | inr no_less ↦ elim (cases_Bool (is_greater b)) [
            | inl greater ↦ at_byte form 62 b bytes greater (greater_rest form bytes (rw (other, no_equals, no_less, greater) at e) rest)
            | inr no_greater ↦ absurd (no_end form (before_operator form b) bytes (rw (other, no_equals, no_less, no_greater) refl) e)
          ]
        ]
      ] in
      record { before = []; inside = b ∷ bytes; text_is = refl; before_is = refl; inside_is = at }
]

-- Behind a name and its qualifier

record IsTailOf (form : RelationForm) (text : List ℕ) : Type 0 where
  restriction : Option Restriction
  tail : IsTail text restriction
  takes : TakesAny form restriction

opening_tail : (form : RelationForm) (b : ℕ) (bytes : List ℕ) → is_opening b ≡ true → Ends form Opened bytes → IsOnePart form bytes → IsTailOf form (b ∷ bytes)
opening_tail form b bytes opening e part =
    let there = opened_rest form bytes e part in
    record {
      restriction = Some there.inside_is.restriction;
      tail = record {
        before = [];
        opened = b ∷ bytes;
        text_is = refl;
        before_is = refl;
        opened_is = record {
          before = there.before;
          inside = there.inside;
          text_is = (λ i. eqb-true b 40 opening i ∷ there.text_is i);
          before_is = there.before_is;
          inside_is = there.inside_is.inside;
        };
      };
      takes = there.inside_is.takes;
    }

after_name_rest : (form : RelationForm) (bytes : List ℕ) → Ends form AfterName bytes → IsOnePart form bytes → IsTailOf form bytes
after_name_rest form [] e part = record {
  restriction = None;
  tail = record { before = []; opened = []; text_is = refl; before_is = refl; opened_is = refl };
  takes = tt;
}
after_name_rest form (b ∷ bytes) e part = elim (cases_Bool (is_opening b)) [
  | inl opening ↦ opening_tail form b bytes opening (rw opening at e) (part_rest form b bytes part)
  | inr no_opening ↦ elim (cases_Bool (is_white b)) [
    | inl white ↦
        let later = after_name_rest form bytes (rw (no_opening, white) at e) (part_rest form b bytes part) in
        let tail = later.tail in
        record {
          restriction = later.restriction;
          tail = record {
            before = b ∷ tail.before;
            opened = tail.opened;
            text_is = ap (λ (rest : List ℕ). b ∷ rest) tail.text_is;
            before_is = and_from _ _ white tail.before_is;
            opened_is = tail.opened_is;
          };
          takes = later.takes;
        }
    | inr other ↦
        absurd (no_end form (after_name form b) bytes
        (rw no_opening (after_atom-dead form AfterName b other (part_first form b bytes part))) e)
  ]
]

record IsQualifierOf (form : RelationForm) (text : List ℕ) : Type 0 where
  qualifier : List ℕ
  tail : List ℕ
  text_is : text ≡ qualifier ++ tail
  qualifier_is : list_all is_qualifier_byte qualifier ≡ true
  tail_is : IsTailOf form tail

in_qualifier_rest : (form : RelationForm) (bytes : List ℕ) → Ends form InQualifier bytes → IsOnePart form bytes → IsQualifierOf form bytes
in_qualifier_rest form [] e part = record { qualifier = []; tail = []; text_is = refl; qualifier_is = refl; tail_is = after_name_rest form [] refl refl }
in_qualifier_rest form (b ∷ bytes) e part = elim (cases_Bool (is_qualifier_byte b)) [
  | inl more ↦
      let later = in_qualifier_rest form bytes (rw more at e) (part_rest form b bytes part) in
      record {
        qualifier = b ∷ later.qualifier;
        tail = later.tail;
        text_is = ap (λ (rest : List ℕ). b ∷ rest) later.text_is;
        qualifier_is = and_from _ _ more later.qualifier_is;
        tail_is = later.tail_is;
      }
  | inr other ↦ record {
    qualifier = [];
    tail = b ∷ bytes;
    text_is = refl;
    qualifier_is = refl;
    tail_is = after_name_rest form (b ∷ bytes) (rw other at e) part;
  }
]

record IsBehindNameOf (form : RelationForm) (text : List ℕ) : Type 0 where
  qualifier : Option (List ℕ)
  restriction : Option Restriction
  rest : IsBehindName text qualifier restriction
  takes : TakesAny form restriction

qualifier_rest : (form : RelationForm) (bytes : List ℕ) → Ends form BeforeQualifier bytes → IsOnePart form bytes → IsBehindNameOf form (58 ∷ bytes)
qualifier_rest form [] e part = absurd (false≢true e)
qualifier_rest form (b ∷ bytes) e part = elim (cases_Bool (is_ascii_alphanumeric b)) [
  | inl first ↦
      let later = in_qualifier_rest form bytes (rw first at e) (part_rest form b bytes part) in
      record {
        qualifier = Some (b ∷ later.qualifier);
        restriction = later.tail_is.restriction;
        rest = record {
          tail = later.tail;
          text_is = ap (λ (rest : List ℕ). 58 ∷ b ∷ rest) later.text_is;
          qualifier_is = (first, later.qualifier_is);
          tail_is = later.tail_is.tail;
        };
        takes = later.tail_is.takes;
      }
  | inr other ↦ absurd (no_end form (next form BeforeQualifier b) bytes (rw other refl) e)
]

at_colon : (form : RelationForm) (b : ℕ) (bytes : List ℕ) → is_colon b ≡ true → IsBehindNameOf form (58 ∷ bytes) → IsBehindNameOf form (b ∷ bytes)
at_colon form b bytes colon there =
    let rest = there.rest in
    record {
      qualifier = there.qualifier;
      restriction = there.restriction;
      rest = record {
        tail = rest.tail;
        text_is = ap (λ (c : ℕ). c ∷ bytes) (eqb-true b 58 colon) ∙ rest.text_is;
        qualifier_is = rest.qualifier_is;
        tail_is = rest.tail_is;
      };
      takes = there.takes;
    }

without_qualifier : (form : RelationForm) (text : List ℕ) → IsTailOf form text → IsBehindNameOf form text
without_qualifier form text there = record {
  qualifier = None;
  restriction = there.restriction;
  rest = record { tail = text; text_is = refl; qualifier_is = tt; tail_is = there.tail };
  takes = there.takes;
}

record IsNameOf (form : RelationForm) (text : List ℕ) : Type 0 where
  name : List ℕ
  rest : List ℕ
  text_is : text ≡ name ++ rest
  name_is : list_all is_name_byte name ≡ true
  rest_is : IsBehindNameOf form rest

in_name_rest : (form : RelationForm) (bytes : List ℕ) → Ends form InName bytes → IsOnePart form bytes → IsNameOf form bytes
in_name_rest form [] e part = record {
  name = [];
  rest = [];
  text_is = refl;
  name_is = refl;
  rest_is = without_qualifier form [] (after_name_rest form [] refl refl);
}
in_name_rest form (b ∷ bytes) e part = elim (cases_Bool (is_name_byte b)) [
  | inl more ↦
      let later = in_name_rest form bytes (rw more at e) (part_rest form b bytes part) in
      record {
        name = b ∷ later.name;
        rest = later.rest;
        text_is = ap (λ (rest : List ℕ). b ∷ rest) later.text_is;
        name_is = and_from _ _ more later.name_is;
        rest_is = later.rest_is;
      }
  | inr other ↦ record {
    name = [];
    rest = b ∷ bytes;
    text_is = refl;
    name_is = refl;
    rest_is = elim (cases_Bool (is_colon b)) [
      | inl colon ↦ at_colon form b bytes colon (qualifier_rest form bytes (rw (other, colon) at e) (part_rest form b bytes part))
      | inr no_colon ↦ without_qualifier form (b ∷ bytes) (after_name_rest form (b ∷ bytes) (rw (other, no_colon) at e) part)
    ];
  }
]

-- a text that is an atom of the form
pub record IsAtomOf (form : RelationForm) (text : List ℕ) : Type 0 where
  pub name : List ℕ
  pub qualifier : Option (List ℕ)
  pub restriction : Option Restriction
  pub atom : IsAtomText text name qualifier restriction
  pub takes : TakesAny form restriction

named : (form : RelationForm) (b : ℕ) (bytes : List ℕ) → is_ascii_alphanumeric b ≡ true → IsNameOf form bytes → IsAtomOf form (b ∷ bytes)
named form b bytes first there = record {
  name = b ∷ there.name;
  qualifier = there.rest_is.qualifier;
  restriction = there.rest_is.restriction;
  atom = record {
    before = [];
    rest = there.rest;
    text_is = ap (λ (rest : List ℕ). b ∷ rest) there.text_is;
    before_is = refl;
    name_is = and_from _ _ first there.name_is;
    rest_is = there.rest_is.rest;
  };
  takes = there.rest_is.takes;
}

behind_white : (form : RelationForm) (b : ℕ) (bytes : List ℕ) → is_white b ≡ true → IsAtomOf form bytes → IsAtomOf form (b ∷ bytes)
behind_white form b bytes white there =
    let atom = there.atom in
    record {
      name = there.name;
      qualifier = there.qualifier;
      restriction = there.restriction;
      atom = record {
        before = b ∷ atom.before;
        rest = atom.rest;
        text_is = ap (λ (rest : List ℕ). b ∷ rest) atom.text_is;
        before_is = and_from _ _ white atom.before_is;
        name_is = atom.name_is;
        rest_is = atom.rest_is;
      };
      takes = there.takes;
    }

-- behind a bar
pub parse_alternative : (form : RelationForm) (bytes : List ℕ) → Ends form Alternative bytes → IsOnePart form bytes → IsAtomOf form bytes
parse_alternative form [] e part = absurd (false≢true e)
parse_alternative form (b ∷ bytes) e part = elim (cases_Bool (is_white b)) [
  | inl white ↦ behind_white form b bytes white (parse_alternative form bytes (rw white at e) (part_rest form b bytes part))
  | inr other ↦ elim (cases_Bool (is_ascii_alphanumeric b)) [
    | inl first ↦ named form b bytes first (in_name_rest form bytes (rw (other, first) at e) (part_rest form b bytes part))
    | inr no_name ↦ absurd (no_end form (next form Alternative b) bytes (rw (other, no_name) refl) e)
  ]
]

-- behind a comma, or at the value's beginning
pub parse_part : (form : RelationForm) (bytes : List ℕ) → Ends form Between bytes → IsOnePart form bytes → IsWhite bytes ⊎ IsAtomOf form bytes
parse_part form [] e part = inl refl
parse_part form (b ∷ bytes) e part =
    let comma = no_comma form b (part_first form b bytes part) in
    elim (cases_Bool (is_white b)) [
      | inl white ↦ elim (parse_part form bytes (rw (comma, white) at e) (part_rest form b bytes part)) [
        | inl blank ↦ inl (and_from _ _ white blank)
        | inr atom ↦ inr (behind_white form b bytes white atom)
      ]
      | inr other ↦ elim (cases_Bool (is_ascii_alphanumeric b)) [
        | inl first ↦ inr (named form b bytes first (in_name_rest form bytes (rw (comma, other, first) at e) (part_rest form b bytes part)))
        | inr no_name ↦ absurd (no_end form (next form Between b) bytes (rw (comma, other, no_name) refl) e)
      ]
    ]
