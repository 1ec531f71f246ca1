-- What is in front of the operator's cut, or behind it, meets the restriction; a run that is cut once is one still.
use Rattle.std.proofs.Common.{◌≡◌, ◌≤◌, ◌&&◌, not, length, ap, subst, sym, arith, ◌∙◌}
use Rattle.std.specs.List.{filter}
use Rattle.std.specs.Ordering.{is_le, is_lt}
use Rattle.rules.specs.Version.{is_met}
use Rattle.rules.specs.declared.op.Op.{Op}
use Rattle.providers.specs.Offers.{Offer}
use Rattle.providers.specs.Range.{AreVersioned, IsRun, stands_in_front}
use Rattle.providers.specs.declared.range.Cut.TheVariants.{Before, Behind}
use Rattle.providers.proofs.CutLemmas.{filter_shorter, filter_twice}
use Rattle.providers.proofs.RunLemmas.{AreVersioned-filter, IsRun-filter, exactly_equal, later_or_equal, met_by, strictly_later}
use Rattle.providers.proofs.range.range_of.Goals as goal

pub behind-requires-clause-run : goal.behind-requires-clause-run
behind-requires-clause-run c = subst IsRun (sym c.in_front-early.ensures.front)
    (IsRun-filter (stands_in_front Behind c.args.version.now) c.args.offers.now c.requires.run)

pub behind-requires-clause-versioned : goal.behind-requires-clause-versioned
behind-requires-clause-versioned c = subst AreVersioned (sym c.in_front-early.ensures.front)
    (AreVersioned-filter (stands_in_front Behind c.args.version.now) c.args.offers.now c.requires.versioned)

pub returns-in-StrictlyEarlier-clause-meeting : goal.returns-in-StrictlyEarlier-clause-meeting
returns-in-StrictlyEarlier-clause-meeting c = c.in_front.ensures.front
    ∙ met_by is_lt c.args.op (λ ordering. ap (λ (op : Op). is_met op ordering) (sym c.in-StrictlyEarlier.is))
    c.args.version.now c.args.offers.now c.requires.versioned

pub returns-in-EarlierOrEqual-clause-meeting : goal.returns-in-EarlierOrEqual-clause-meeting
returns-in-EarlierOrEqual-clause-meeting c = c.in_front-in-EarlierOrEqual.ensures.front
    ∙ met_by is_le c.args.op (λ ordering. ap (λ (op : Op). is_met op ordering) (sym c.in-EarlierOrEqual.is))
    c.args.version.now c.args.offers.now c.requires.versioned

pub returns-in-ExactlyEqual-clause-meeting : goal.returns-in-ExactlyEqual-clause-meeting
returns-in-ExactlyEqual-clause-meeting c = c.behind.ensures.back
    ∙ ap (filter (λ (offer : Offer). not (stands_in_front Before c.args.version.now offer))) c.in_front-early.ensures.front
    ∙ filter_twice (stands_in_front Behind c.args.version.now) (λ (offer : Offer). not (stands_in_front Before c.args.version.now offer)) c.args.offers.now
    ∙ met_by (λ ordering. is_le ordering && not (is_lt ordering)) c.args.op
    (λ ordering. exactly_equal ordering ∙ ap (λ (op : Op). is_met op ordering) (sym c.in-ExactlyEqual.is))
    c.args.version.now c.args.offers.now c.requires.versioned

pub returns-in-LaterOrEqual-clause-meeting : goal.returns-in-LaterOrEqual-clause-meeting
returns-in-LaterOrEqual-clause-meeting c = c.behind-in-LaterOrEqual.ensures.back
    ∙ met_by (λ ordering. not (is_lt ordering)) c.args.op (λ ordering. later_or_equal ordering ∙ ap (λ (op : Op). is_met op ordering) (sym c.in-LaterOrEqual.is))
    c.args.version.now c.args.offers.now c.requires.versioned

pub returns-in-StrictlyLater-clause-meeting : goal.returns-in-StrictlyLater-clause-meeting
returns-in-StrictlyLater-clause-meeting c = c.behind-in-StrictlyLater.ensures.back
    ∙ met_by (λ ordering. not (is_le ordering)) c.args.op (λ ordering. strictly_later ordering ∙ ap (λ (op : Op). is_met op ordering) (sym c.in-StrictlyLater.is))
    c.args.version.now c.args.offers.now c.requires.versioned

pub returns-in-ExactlyEqual-clause-counted : goal.returns-in-ExactlyEqual-clause-counted
returns-in-ExactlyEqual-clause-counted c = λ d short.
    let same : length c.in_front-early.result.now ≡ length (filter (stands_in_front Behind c.args.version.now) c.args.offers.now)
    = ap length c.in_front-early.ensures.front in
    let fewer : length (filter (stands_in_front Behind c.args.version.now) c.args.offers.now) ≤ length c.args.offers.now
    = filter_shorter (stands_in_front Behind c.args.version.now) c.args.offers.now in
    let first = c.in_front-early.ensures.counted d short in
    let second = c.behind.ensures.counted d (omega (arith, same, fewer, short)) in
    omega (arith, first, second)
