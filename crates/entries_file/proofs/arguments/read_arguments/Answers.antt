use Rattle.std.proofs.Common.{◌∙◌, map, arith}
use Rattle.entries_file.proofs.ArgumentLaws.{arguments_start, reads_argument, argument_wide, argument_wrong, argument_more, arguments_are}
use Rattle.entries_file.proofs.arguments.read_arguments.Goals as goal
use Rattle.entries_file.proofs.arguments.read_arguments.Goals.{in-NoNumber, in-Argument+in_ok-push-in-Argument}

pub loop-i-init : goal.loop-i-init
loop-i-init c = rw c.in_ok-arguments.ensures (arguments_start c.args.widths.now (map (λ word. word.now) c.args.words.now))

pub returns-in-TooWide : goal.returns-in-TooWide
returns-in-TooWide c =
    let reads = reads_argument (λ word. word.now) c.args.widths.now c.args.words.now c.loop-i.i _ _ c.read_argument.result (omega arith) c.read_argument.ensures in
    rw (argument_wide (λ word. word.now) c.args.widths.now c.args.words.now c.loop-i.i c.loop-i.no_number c.loop-i.arguments c.read_argument.result c.loop-i.invariant reads c.in-TooWide.is)

pub loop-i-preserved : goal.loop-i-preserved
loop-i-preserved c =
    let reads = reads_argument (λ word. word.now) c.args.widths.now c.args.words.now c.loop-i.i _ _ c.read_argument.result (omega arith) c.read_argument.ensures in
    elim c.match-read_argument.branch [
      | in-NoNumber w ↦
          rw (w.arguments-is, w.no_number-is)
          (argument_wrong (λ word. word.now) c.args.widths.now c.args.words.now c.loop-i.i c.loop-i.no_number c.loop-i.arguments c.read_argument.result c.loop-i.invariant reads w.in-NoNumber.is)
      | in-Argument+in_ok-push-in-Argument w ↦
          rw (w.arguments-is, w.no_number-is, w.in_ok-push-in-Argument.ensures.ok)
          (argument_more (λ word. word.now) c.args.widths.now c.args.words.now c.loop-i.i c.loop-i.no_number c.loop-i.arguments c.read_argument.result w.in-Argument.value c.loop-i.invariant reads w.in-Argument.is)
    ]

pub returns-then-are_wrong : goal.returns-then-are_wrong
returns-then-are_wrong c =
    let are = arguments_are (λ word. word.now) c.args.widths.now c.args.others c.args.words.now c.loop-i.i c.loop-i.no_number c.loop-i.arguments c.are_wrong.result (omega arith) c.loop-i.invariant c.are_wrong.ensures in
    rw (are.narrow, are.judged ∙ c.if-are_wrong.true)

pub returns : goal.returns
returns c =
    let are = arguments_are (λ word. word.now) c.args.widths.now c.args.others c.args.words.now c.loop-i.i c.loop-i.no_number c.loop-i.arguments c.are_wrong.result (omega arith) c.loop-i.invariant c.are_wrong.ensures in
    (rw (are.narrow, are.judged ∙ c.if-are_wrong.false), are.found c.if-are_wrong.false)
