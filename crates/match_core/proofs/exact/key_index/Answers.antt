use Rattle.std.proofs.Common.{◌≡◌, map, sym, subst, arith}
use Rattle.match_core.specs.declared.entries.Entry.{Entry}
use Rattle.match_core.specs.internal.Index.{value_of}
use Rattle.match_core.proofs.Indexes.{key_index_turn}
use Rattle.match_core.proofs.exact.key_index.Goals as goal

pub loop-i-preserved : goal.loop-i-preserved
loop-i-preserved c =
    key_index_turn (record { specs = c.args.specs.now; entries = c.args.entries.now }) c.loop-i.i c.in_ok-key.key c.index-entries-i.result
    c.loop-i.index c.put_first.new.index c.requires.exact c.requires.fits (omega arith) c.index-entries-i.is
    (subst (λ (e : Entry). c.in_ok-key.key ≡ map value_of e.keys) (sym c.index-entries-i.is) (rw c.as_slice.ensures at c.in_ok-key.ensures)) c.loop-i.invariant c.in_ok-put_first.ensures.put
