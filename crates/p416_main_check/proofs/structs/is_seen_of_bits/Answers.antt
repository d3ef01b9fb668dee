use Rattle.std.proofs.Common.{sym, ◌∙◌}
use Rattle.p416_main_check.proofs.Fields.{bits_kept}
use Rattle.p416_main_check.proofs.structs.is_seen_of_bits.Goals as goal

pub returns-clause-seen : goal.returns-clause-seen
returns-clause-seen c =
    bits_kept c.args.top.now c.args.seen.now c.add.new.self c.args.name.now c.in_ok-add.field-0 c.in_ok-add.ensures c.requires (sym c.is_of_bits.ensures ∙ c.if-not-is_of_bits.false)
