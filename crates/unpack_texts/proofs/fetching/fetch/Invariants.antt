-- What was fetched so far are the texts of the packages before those that are left.
use Rattle.std.proofs.Common.{◌≡◌, ◌<◌, ◌≤◌, ◌++◌, ℕ, Bor, List, None, Some, true, drop, get_or, length, map}
use Rattle.rules.specs.Step.{IndexPackage}
use Rattle.unpack_texts.specs.Fetched.{AreFetched, HasRead, items_in}
use Rattle.unpack_texts.proofs.fetching.fetch.Given as goal

abbrev pub invariant-loop-next : goal.invariant-loop-next
invariant-loop-next g l = record {
  order : (d : Bor IndexPackage) → l.next-index < length l.wanted → l.at ≤ (get_or l.wanted l.next-index d).now.place.stanza;
  sound : l.reader.failed ≡ None;
  known : (text : List ℕ) → g.S.Source.left l.fn.source ≡ Some text → (more : List ℕ) × (g.S.Source.left l.source ≡ Some more)
      × HasRead (items_in text) l.at l.reader more;
  so_far : (text : List ℕ) (later : List (List ℕ)) → g.S.Source.left l.fn.source ≡ Some text
      → AreFetched l.arch (items_in text) (drop l.next-index (map (λ entry. entry.now) l.wanted)) later
      → AreFetched l.arch (items_in text) (map (λ entry. entry.now) l.wanted) (map (λ own. own.items) l.texts.items ++ later);
  each : length l.texts.items ≡ l.next-index;
  sure : g.S.Source.is_sure l.fn.source ≡ true → g.S.Source.is_sure l.source ≡ true;
  count : g.S.Source.faults l.source ≡ g.S.Source.faults l.fn.source;
}
