use Rattle.std.proofs.Common.{length, ◌-◌}
use Rattle.token_division.proofs.Steps.{Divided}
use Rattle.token_division.proofs.Laid.{Laid}
use Rattle.token_division.specs.Walk.{IsReached}
use Rattle.token_division.proofs.division.divide.Given as goal

abbrev pub invariant-loop-at : goal.invariant-loop-at
invariant-loop-at g l = record {
  divided : Divided g.L.Lexicon.front l.text l.tokens l.at l.is_first l.place;
  laid : Laid g.L.Lexicon.front l.text l.tokens l.at;
  reached : IsReached g.L.Lexicon.front l.text (record { tokens = l.tokens; at = l.at; is_first = l.is_first });
}

abbrev pub decreases-loop-at : goal.decreases-loop-at
decreases-loop-at g l = length l.text - l.at
