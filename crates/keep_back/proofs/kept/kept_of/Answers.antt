-- The whole request is kept where nothing of it is left out, and else what is left of it.
use Rattle.std.proofs.Common.{◌≡◌, ◌∙◌, List, subst, sym, true}
use Rattle.std.proofs.lemmas.Result.{IfErr-weaker, IfOk-weaker}
use Rattle.keep_back.specs.Further.{IsLeftOutFor}
use Rattle.keep_back.proofs.KeepLemmas.{AreOfRefuted, is-left, left-refused, of-refuted, refuted-request}
use Rattle.keep_back.proofs.kept.kept_of.Goals as goal
use Rattle.request_lines.specs.declared.wish.Wish.{Wish}

pub returns-then-not-branch-clause-solved : goal.returns-then-not-branch-clause-solved
returns-then-not-branch-clause-solved g c =
    rw (c.whole.ensures.request, c.whole.ensures.solved) (c.in_ok-solved.ensures.solved c.args.text.items c.requires.asked)

pub returns-clause-left : goal.returns-clause-left
returns-clause-left g c = λ texts read there.
    let is : c.in_ok-leave_out.field-0 ≡ true = cc c.if-not-branch.false in
    let out = subst (IsLeftOutFor c.in_ok-solved.solved.solved c.in_ok-left.left c.leave_out.new.left) is c.in_ok-leave_out.ensures in
    let of = subst (λ (ws : List Wish). AreOfRefuted c.args.before.now texts ws) (sym (out.1.wishes ∙ c.in_ok-left.ensures.wishes))
    (of-refuted c.args.before.now texts c.args.text.items c.as_slice.result.now c.args.requested c.in_ok-wishes.wishes.items read there
    c.requires.asked c.as_slice.ensures.value c.in_ok-wishes.ensures.lines c.in_ok-wishes.ensures.read
    (refuted-request c.args.before.now c.args.limit c.args.text.items c.in_ok-solved.solved
    (c.in_ok-solved.ensures.solved c.args.text.items c.requires.asked) out.0)) in
    IfOk-weaker c.keep_rest.result _ _ (λ kept is. is-left c.args.before.now texts c.args.limit c.leave_out.new.left.wishes.items kept read of is)
    c.keep_rest.ensures.left

pub returns-clause-refused : goal.returns-clause-refused
returns-clause-refused g c = λ texts read there.
    let is : c.in_ok-leave_out.field-0 ≡ true = cc c.if-not-branch.false in
    let out = subst (IsLeftOutFor c.in_ok-solved.solved.solved c.in_ok-left.left c.leave_out.new.left) is c.in_ok-leave_out.ensures in
    let of = subst (λ (ws : List Wish). AreOfRefuted c.args.before.now texts ws) (sym (out.1.wishes ∙ c.in_ok-left.ensures.wishes))
    (of-refuted c.args.before.now texts c.args.text.items c.as_slice.result.now c.args.requested c.in_ok-wishes.wishes.items read there
    c.requires.asked c.as_slice.ensures.value c.in_ok-wishes.ensures.lines c.in_ok-wishes.ensures.read
    (refuted-request c.args.before.now c.args.limit c.args.text.items c.in_ok-solved.solved
    (c.in_ok-solved.ensures.solved c.args.text.items c.requires.asked) out.0)) in
    IfErr-weaker c.keep_rest.result _ _ (λ refused is. left-refused c.args.before.now texts c.leave_out.new.left.wishes.items refused read of is)
    (c.keep_rest.ensures.refused texts read)
