-- The names so far stand behind the text, and each of them is a name.
use Rattle.std.proofs.Common.{◌≡◌, ◌∷◌, ◌++◌, true, take}
use Rattle.std.specs.List.{flat_map, list_all}
use Rattle.rules.specs.Name.{is_name}
use Rattle.plantext.specs.declared.cut.TheConstants.{SPACE}
use Rattle.plantext.proofs.write.push_names.Given as goal

abbrev pub invariant-loop-name : goal.invariant-loop-name
invariant-loop-name l = record {
  written : l.text.items ≡ l.initial.text.items ++ flat_map (λ name. SPACE ∷ name) (take l.name-index l.names);
  valid : list_all is_name (take l.name-index l.names) ≡ true;
}
