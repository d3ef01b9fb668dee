-- A write into the octets' bits is one into the list, and the laws of windows hold of it.
use Rattle.std.proofs.Common.{◌≡◌, vec_len, length, take, drop, ap, sym, ◌∙◌, arith, length-take-le}
use Rattle.std.proofs.lemmas.List.{with_items_is}
use Rattle.std.specs.Vec.{with_items}
use Rattle.p4x_bits.specs.BitLists.{num, octet_bits}
use Rattle.p4x_bits.proofs.BitLists.{length-octet_bits}
use Rattle.p4x_bits.proofs.Windows.{written, written_within, length-written, window_written, window_apart}
use Rattle.p4x_bits.proofs.bits.Bits.write_field.Goals as goal

pub returns-clause-bits : goal.returns-clause-bits
returns-clause-bits c =
    let octets = c.self.inside.octets.items in
    let len = c.self.inside.len in
    let now = c.write_octet_field.new.octets in
    let at = c.args.at in
    let width = c.args.width in
    let old = c.args.self.now in
    let long : length old ≡ len = ap length (sym c.self.view_is) ∙ length-take-le len (octet_bits octets) (omega (arith, length-octet_bits octets)) in
    let same : length now ≡ vec_len c.self.inside.octets = omega arith in
    let bits : take len (octet_bits (with_items c.self.inside.octets now).items) ≡ written at width c.args.value old =
    ap (λ xs. take len (octet_bits xs)) (with_items_is c.self.inside.octets now same)
    ∙ written_within octets now old len at width c.args.value (omega arith) c.self.view_is (omega arith) (c.write_octet_field.ensures.bits ∙ ap (λ xs. written at width c.args.value (octet_bits xs)) c.deref_mut.ensures.value) in
    bits

pub returns-clause-len : goal.returns-clause-len
returns-clause-len c =
    let octets = c.self.inside.octets.items in
    let len = c.self.inside.len in
    let now = c.write_octet_field.new.octets in
    let at = c.args.at in
    let width = c.args.width in
    let old = c.args.self.now in
    let long : length old ≡ len = ap length (sym c.self.view_is) ∙ length-take-le len (octet_bits octets) (omega (arith, length-octet_bits octets)) in
    let same : length now ≡ vec_len c.self.inside.octets = omega arith in
    let bits : take len (octet_bits (with_items c.self.inside.octets now).items) ≡ written at width c.args.value old =
    ap (λ xs. take len (octet_bits xs)) (with_items_is c.self.inside.octets now same)
    ∙ written_within octets now old len at width c.args.value (omega arith) c.self.view_is (omega arith) (c.write_octet_field.ensures.bits ∙ ap (λ xs. written at width c.args.value (octet_bits xs)) c.deref_mut.ensures.value) in
    ap length bits ∙ length-written at width c.args.value old (omega arith)

pub returns-clause-reads : goal.returns-clause-reads
returns-clause-reads c =
    let octets = c.self.inside.octets.items in
    let len = c.self.inside.len in
    let now = c.write_octet_field.new.octets in
    let at = c.args.at in
    let width = c.args.width in
    let old = c.args.self.now in
    let long : length old ≡ len = ap length (sym c.self.view_is) ∙ length-take-le len (octet_bits octets) (omega (arith, length-octet_bits octets)) in
    let same : length now ≡ vec_len c.self.inside.octets = omega arith in
    let bits : take len (octet_bits (with_items c.self.inside.octets now).items) ≡ written at width c.args.value old =
    ap (λ xs. take len (octet_bits xs)) (with_items_is c.self.inside.octets now same)
    ∙ written_within octets now old len at width c.args.value (omega arith) c.self.view_is (omega arith) (c.write_octet_field.ensures.bits ∙ ap (λ xs. written at width c.args.value (octet_bits xs)) c.deref_mut.ensures.value) in
    ap (λ xs. num (take width (drop at xs))) bits ∙ window_written at width c.args.value old (omega arith) (omega arith)

pub returns-clause-apart : goal.returns-clause-apart
returns-clause-apart c =
    let octets = c.self.inside.octets.items in
    let len = c.self.inside.len in
    let now = c.write_octet_field.new.octets in
    let at = c.args.at in
    let width = c.args.width in
    let old = c.args.self.now in
    let long : length old ≡ len = ap length (sym c.self.view_is) ∙ length-take-le len (octet_bits octets) (omega (arith, length-octet_bits octets)) in
    let same : length now ≡ vec_len c.self.inside.octets = omega arith in
    let bits : take len (octet_bits (with_items c.self.inside.octets now).items) ≡ written at width c.args.value old =
    ap (λ xs. take len (octet_bits xs)) (with_items_is c.self.inside.octets now same)
    ∙ written_within octets now old len at width c.args.value (omega arith) c.self.view_is (omega arith) (c.write_octet_field.ensures.bits ∙ ap (λ xs. written at width c.args.value (octet_bits xs)) c.deref_mut.ensures.value) in
    λ from count h. ap (λ xs. take count (drop from xs)) bits ∙ window_apart at width c.args.value from count old (omega arith) h
