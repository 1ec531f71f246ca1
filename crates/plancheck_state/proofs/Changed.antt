-- A list of records that is changed place by place.
use Rattle.std.proofs.Common.{◌≡◌, ℕ, ◌<◌, Bool, List, [], cond, length, get_or, map, None, false, sym, subst, ◌∙◌}
use Rattle.std.proofs.Math.ListN.{length-map}
use Rattle.std.proofs.lemmas.List.{ext_get_or, get_or-map}
use Rattle.rules.specs.Database.{Record}
use Rattle.rules.specs.Step.{changed, no_relations}
use Rattle.rules.specs.declared.status.Flag.TheVariants as flags
use Rattle.rules.specs.declared.status.State.TheVariants.{NotInstalled}
use Rattle.rules.specs.declared.status.Want.TheVariants.{Unknown}

-- a list that has at each place what the function makes of the old one is the mapped list
pub mapped_by_place : {X : Type 0} (blank : X) (f : X → X) (old new : List X) → length new ≡ length old
    → ((k : ℕ) → k < length old → get_or new k blank ≡ f (get_or old k blank)) → new ≡ map f old
mapped_by_place blank f old new same each = ext_get_or blank new (map f old) (same ∙ sym (length-map old f))
    (λ k within. let inside = subst (λ n. k < n) same within in
    each k inside ∙ sym (get_or-map f old k blank blank inside))

-- a record that says nothing
abbrev blank : Record
blank = record {
  name = [];
  state = NotInstalled;
  want = Unknown;
  flag = flags.Ok;
  version = [];
  config_version = None;
  relations = no_relations;
  is_essential = false;
}

-- a list that has at each place what the change makes of the old one is the changed list
pub changed_by_place : (test : Record → Bool) (change : Record → Record) (old new : List Record) → length new ≡ length old
    → ((k : ℕ) (d : Record) → k < length old → get_or new k d ≡ cond (test (get_or old k d)) (change (get_or old k d)) (get_or old k d))
    → new ≡ changed test change old
changed_by_place test change old new same each =
    ext_get_or blank new (changed test change old) (same ∙ sym (length-map old step))
    (λ k within. let inside = subst (λ n. k < n) same within in
    each k blank inside ∙ sym (get_or-map step old k blank blank inside))
  where
    step : Record → Record
    step entry = cond (test entry) (change entry) entry
