use Rattle.std.proofs.Common.{length, sym, ap, ◌∙◌, map}
use Rattle.std.proofs.lemmas.List.{length-map}
use Rattle.p414_syntax.specs.References.{referred}
use Rattle.p414_preserved_check.specs.internal.Marks.{joins_marked}
use Rattle.p414_preserved_check.proofs.Preserving.{too_many, few}
use Rattle.p414_preserved_check.proofs.preserved.are_bad.Goals as goal

pub returns-then-preserved-gt-MOST_LISTS : goal.returns-then-preserved-gt-MOST_LISTS
returns-then-preserved-gt-MOST_LISTS c =
    too_many c.args.names.now (map referred c.args.preserved.now) c.requires.preserved (length c.args.preserved.now) (sym (length-map c.args.preserved.now referred)) c.if-preserved-gt-MOST_LISTS.true

pub returns : goal.returns
returns c =
    few c.args.names.now (map referred c.args.preserved.now) c.requires.preserved (length c.args.preserved.now) (sym (length-map c.args.preserved.now referred)) c.if-preserved-gt-MOST_LISTS.false c.in_ok-marks.marks.items c.in_ok-marks.ensures c.joins_marked.result
    (c.joins_marked.ensures ∙ ap (λ marks. joins_marked c.args.names.now marks (map referred c.args.preserved.now)) c.deref.ensures.value)
