-- An item more tells of a package of its atom.
use Rattle.std.proofs.Common.{◌∙◌, ℕ, List, Option, Vec, Global, ap, subst, sym}
use Rattle.std.specs.Prelude.{IfSome}
use Rattle.std.specs.List.{All}
use Rattle.std.proofs.lemmas.List.Elements.{All-map, All-push}
use Rattle.plan_sentences.specs.No.{IsThere}
use Rattle.plan_sentences.proofs.named.there_of.Goals as goal
use Rattle.plan_sentences.proofs.named.there_of.Goals.{in-Some+then-not-is_among+in_ok-push, in-Some+else-not-is_among, in_default}

pub loop-atom-preserved : goal.loop-atom-preserved
loop-atom-preserved c = λ distinct.
    let Tells : Vec ℕ Global → Type 0 = λ item. IsThere c.args.db.now c.args.atoms.now item.items in
    let so_far = c.loop-atom.invariant distinct in
    elim c.match-branch-2.branch [
      | in-Some+then-not-is_among+in_ok-push w ↦
          let tells = subst (λ (found : Option (Vec ℕ Global)). IfSome found Tells) w.in-Some.is
          (c.in_ok-item.ensures c.args.atoms.now distinct (c.loop-atom.atom-index, c.loop-atom-test.true, sym c.atom-item.is)) in
          subst (λ (items : List (Vec ℕ Global)). All Tells items)
          (sym (ap (λ (items : Vec (Vec ℕ Global) Global). items.items) w.items-is ∙ w.in_ok-push.ensures.items))
          (All-push Tells c.loop-atom.items.items w.in-Some.item so_far tells)
      | in-Some+else-not-is_among w ↦ subst (λ (items : Vec (Vec ℕ Global) Global). All Tells items.items) (sym w.items-is) so_far
      | in_default w ↦ subst (λ (items : Vec (Vec ℕ Global) Global). All Tells items.items) (sym w.items-is) so_far
    ]

pub returns : goal.returns
returns c = λ distinct.
    All-map (IsThere c.args.db.now c.args.atoms.now) (λ (item : Vec ℕ Global). item.items) c.loop-atom.items.items (c.loop-atom.invariant distinct)
