use Rattle.std.proofs.Common.{map, arith}
use Rattle.entries_file.proofs.KeyLaws.{keys_start, reads_key, keys_bad, keys_wide, keys_more}
use Rattle.entries_file.proofs.key_forms.read_keys.Goals as goal
use Rattle.entries_file.proofs.key_forms.read_keys.Goals.{in-TooWide, in-Key+in_ok-push-in-Key}

pub loop-i-init : goal.loop-i-init
loop-i-init c = rw c.in_ok-keys.ensures (keys_start c.args.specs.now (map (λ word. word.now) c.args.words.now))

pub returns-in-Misformed : goal.returns-in-Misformed
returns-in-Misformed c =
    let reads = reads_key (λ word. word.now) c.args.specs.now c.args.words.now c.loop-i.i _ _ c.in_ok-read_key.field-0 (omega arith) c.requires c.in_ok-read_key.ensures in
    rw (keys_bad (λ word. word.now) c.args.specs.now c.args.words.now c.loop-i.i c.loop-i.is_wide c.loop-i.keys c.in_ok-read_key.field-0 c.loop-i.invariant reads c.in-Misformed.is)

pub loop-i-preserved : goal.loop-i-preserved
loop-i-preserved c =
    let reads = reads_key (λ word. word.now) c.args.specs.now c.args.words.now c.loop-i.i _ _ c.in_ok-read_key.field-0 (omega arith) c.requires c.in_ok-read_key.ensures in
    elim c.match-branch-3.branch [
      | in-TooWide w ↦
          rw (w.keys-is, w.is_wide-is)
          (keys_wide (λ word. word.now) c.args.specs.now c.args.words.now c.loop-i.i c.loop-i.is_wide c.loop-i.keys c.in_ok-read_key.field-0 c.loop-i.invariant reads w.in-TooWide.is)
      | in-Key+in_ok-push-in-Key w ↦
          rw (w.keys-is, w.is_wide-is, w.in_ok-push-in-Key.ensures.ok)
          (keys_more (λ word. word.now) c.args.specs.now c.args.words.now c.loop-i.i c.loop-i.is_wide c.loop-i.keys c.in_ok-read_key.field-0 w.in-Key.key c.loop-i.invariant reads w.in-Key.is)
    ]
