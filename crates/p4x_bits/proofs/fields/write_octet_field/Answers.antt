-- The laws of windows hold of what was written.
use Rattle.std.proofs.Common.{take, drop, ap, ◌∙◌, arith}
use Rattle.p4x_bits.specs.BitLists.{num, octet_bits}
use Rattle.p4x_bits.proofs.BitLists.{length-octet_bits}
use Rattle.p4x_bits.proofs.Windows.{window_written, window_apart}
use Rattle.p4x_bits.proofs.fields.write_octet_field.Goals as goal

pub returns-clause-reads : goal.returns-clause-reads
returns-clause-reads c =
    let old = octet_bits c.args.octets.now in
    ap (λ xs. num (take c.args.width (drop c.args.at xs))) c.write_window.ensures
    ∙ window_written c.args.at c.args.width c.args.value old (omega (arith, length-octet_bits c.args.octets.now)) c.requires.value

pub returns-clause-apart : goal.returns-clause-apart
returns-clause-apart c =
    let old = octet_bits c.args.octets.now in
    λ from count h. ap (λ xs. take count (drop from xs)) c.write_window.ensures
    ∙ window_apart c.args.at c.args.width c.args.value from count old (omega (arith, length-octet_bits c.args.octets.now)) h
