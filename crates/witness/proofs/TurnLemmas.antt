-- The steps before a place are taken one after another, where all up to a count are a run.
use Rattle.std.proofs.Common.{◌≡◌, ℕ, suc, ◌<◌, ◌≤◌, List, ◌∷◌, Option, None, length, map, take, drop, get_or, sym, ap, subst, ◌∙◌, arith, length-take}
use Rattle.std.proofs.lemmas.List.{get_or-map, get_or-take, take-take}
use Rattle.rules.specs.Database.{Record}
use Rattle.rules.specs.Legal.{Allowed}
use Rattle.rules.specs.Run.{Run}
use Rattle.rules.specs.RunStepLaws.{split-at_place}
use Rattle.rules.specs.Step.{IndexPackage}
use Rattle.rules.specs.Universe.{Universe, listed_for}
use Rattle.rules.specs.declared.step.Step.{Step}
use Rattle.rules.proofs.RunLemmas.{Run-parts, one_end}
use Rattle.witness.specs.Turn.{HasRun}

-- the step at a place is allowed, where the list is a run and those before the place have led here
allowed_at : (u : Universe) (start db : List Record) (steps : List Step) (place : ℕ) (d : Step) → place < length steps
    → HasRun u start steps → Run u start (take place steps) db → Allowed u db (get_or steps place d)
allowed_at u start db steps place d within some run =
    let parts = Run-parts u start some.0 (take place steps) (get_or steps place d ∷ drop (suc place) steps)
    (subst (λ (ss : List Step). Run u start ss some.0) (split-at_place steps place d within) some.1) in
    subst (λ (reached : List Record). Allowed u reached (get_or steps place d))
    (one_end u start parts.0 db (take place steps) parts.1 run) parts.2.0

-- the same among the first steps of a list
pub next_allowed : (u : Universe) (start db : List Record) (steps : List Step) (place count : ℕ) (d : Step) → place < count
    → count ≤ length steps → HasRun u start (take count steps) → Run u start (take place steps) db
    → Allowed u db (get_or steps place d)
next_allowed u start db steps place count d below within some run =
    subst (Allowed u db) (get_or-take count steps place d below)
    (allowed_at u start db (take count steps) place d (simp length-take (omega arith)) some
    (subst (λ (ss : List Step). Run u start ss db) (sym (take-take place count steps (omega arith))) run))

-- the stanza at the place of a step is that of the step
pub stanza_at_place : (u : Universe) (steps : List Step) (stanzas : List (Option IndexPackage)) (listed : Option IndexPackage) (place : ℕ)
    (d : Step) → stanzas ≡ map (listed_for u) steps → place < length steps
    → ((none : Option IndexPackage) → listed ≡ get_or stanzas place none) → listed ≡ listed_for u (get_or steps place d)
stanza_at_place u steps stanzas listed place d are within at =
    at None
    ∙ ap (λ (all : List (Option IndexPackage)). get_or all place None) are
    ∙ get_or-map (listed_for u) steps place d None within
