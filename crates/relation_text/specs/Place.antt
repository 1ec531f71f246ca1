-- The places of the automaton that reads a relation field's value (Policy 7.1).
use Rattle.std.specs.Prelude.{Bool, true, false}
use Rattle.relation_text.specs.declared.shape.ShapePlace.{ShapePlace}
use Rattle.relation_text.specs.declared.shape.ShapePlace.TheVariants.{Between, Alternative, InName, AfterName, BeforeQualifier, InQualifier, Opened, Less, Greater, AfterOperator, InVersion, AfterVersion, Closed, Dead}

-- a value may end here
abbrev pub is_end : ShapePlace → Bool
is_end Between = true
is_end Alternative = false
is_end InName = true
is_end AfterName = true
is_end BeforeQualifier = false
is_end InQualifier = true
is_end Opened = false
is_end Less = false
is_end Greater = false
is_end AfterOperator = false
is_end InVersion = false
is_end AfterVersion = false
is_end Closed = true
is_end Dead = false

-- the place from which nothing leads on
abbrev pub is_dead : ShapePlace → Bool
is_dead Between = false
is_dead Alternative = false
is_dead InName = false
is_dead AfterName = false
is_dead BeforeQualifier = false
is_dead InQualifier = false
is_dead Opened = false
is_dead Less = false
is_dead Greater = false
is_dead AfterOperator = false
is_dead InVersion = false
is_dead AfterVersion = false
is_dead Closed = false
is_dead Dead = true

-- a name or a qualifier could begin here
abbrev pub awaits_name : ShapePlace → Bool
awaits_name Between = true
awaits_name Alternative = true
awaits_name InName = false
awaits_name AfterName = false
awaits_name BeforeQualifier = true
awaits_name InQualifier = false
awaits_name Opened = false
awaits_name Less = false
awaits_name Greater = false
awaits_name AfterOperator = false
awaits_name InVersion = false
awaits_name AfterVersion = false
awaits_name Closed = false
awaits_name Dead = false
