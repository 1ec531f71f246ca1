-- What was read so far is held, and nothing is lost.
use Rattle.std.proofs.Common.{◌≡◌, ◌<◌, ◌⊎◌, ◌-◌, length, true}
use Rattle.stanza.specs.Held.{IsHeld, total_of}
use Rattle.stanza.proofs.HeldLemmas.{Fills}
use Rattle.stanza.proofs.held.Held.fill.Given as goal

abbrev pub invariant-loop-self : goal.invariant-loop-self
invariant-loop-self g l = record {
  held : IsHeld l.self;
  size : length l.self.bytes.items ≡ length l.initial.self.bytes.items;
  room : l.room ≡ l.fn.self.room;
  some : (l.self.room < l.room) ⊎ ((l.self.room ≡ l.room) × (l.self.end < length l.self.bytes.items));
  filled : Fills (g.S.Source.left l.fn.source) (g.S.Source.left l.source) l.fn.self l.self;
  total : total_of l.self ≡ total_of l.fn.self;
  sure : g.S.Source.is_sure l.fn.source ≡ true → g.S.Source.is_sure l.source ≡ true;
  count : g.S.Source.faults l.source ≡ g.S.Source.faults l.fn.source;
}

abbrev pub decreases-loop-self : goal.decreases-loop-self
decreases-loop-self g l = length l.self.bytes.items - l.self.end
