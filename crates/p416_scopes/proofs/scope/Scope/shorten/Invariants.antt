use Rattle.std.proofs.Common.{◌≡◌, length, take}
use Rattle.p416_scopes.proofs.scope.Scope.shorten.Given as goal

abbrev pub invariant-loop-self : goal.invariant-loop-self
invariant-loop-self l = record {
  names : take l.len l.self.names ≡ take l.len l.fn.self.names;
  sorts : take l.len l.self.sorts.items ≡ take l.len l.fn.self.sorts.items;
  same : length l.self.names ≡ length l.self.sorts.items;
  top : l.self.top ≡ l.fn.self.top;
  positions : l.self.positions ≡ l.fn.self.positions;
  part : l.self.part ≡ l.fn.self.part;
}

abbrev pub decreases-loop-self : goal.decreases-loop-self
decreases-loop-self l = length l.self.names
