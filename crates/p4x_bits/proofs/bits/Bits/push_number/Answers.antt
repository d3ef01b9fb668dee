-- The bits are put behind the first ones of octets that grew.
use Rattle.std.proofs.Common.{◌≡◌, ℕ, ◌+◌, ◌*◌, ◌<◌, ◌^◌, ◌++◌, vec_len, length, take, ap, sym, ◌∙◌, arith}
use Rattle.std.proofs.lemmas.List.{with_items_is}
use Rattle.p4x_bits.specs.BitLists.{bits, octet_bits}
use Rattle.p4x_bits.proofs.BitLists.{length-bits, length-octet_bits}
use Rattle.p4x_bits.proofs.Counts.{some_is}
use Rattle.p4x_bits.proofs.Splices.{spliced, pushed_behind, begins_longer}
use Rattle.p4x_bits.proofs.bits.Bits.push_number.Goals as goal

pub returns-clause-ok : goal.returns-clause-ok
returns-clause-ok c =
    let octets = c.self.inside.octets.items in
    let longer = c.grow.new.octets.items in
    let len = c.self.inside.len in
    let to = c.in_ok-end.end in
    let n = 8 * length octets in
    let keeps : take n (octet_bits longer) ≡ octet_bits octets = c.in_ok-grow.ensures.keeps in
    let now = c.write_octet_field.new.octets in
    let new = bits c.args.width c.args.value in
    let sum : len + c.from.result ≡ to = some_is c.checked_add.result (len + c.from.result < 2 ^ 64) (len + c.from.result) to c.checked_add.ensures c.in_ok-end.ensures.ok_part in
    let end : len + c.args.width ≡ to = ap (λ (k : ℕ). len + k) (sym c.from.ensures) ∙ sum in
    let same : length now ≡ vec_len c.grow.new.octets = omega arith in
    let is : octet_bits now ≡ spliced len to new (octet_bits longer) =
    c.write_octet_field.ensures.bits ∙ ap (λ xs. spliced len (len + c.args.width) new (octet_bits xs)) c.deref_mut.ensures.value ∙ ap (λ (k : ℕ). spliced len k new (octet_bits longer)) end in
    ap (λ xs. take to (octet_bits xs)) (with_items_is c.grow.new.octets now same)
    ∙ pushed_behind len to n (octet_bits octets) (octet_bits longer) (octet_bits now) new (omega arith) keeps (begins_longer n (octet_bits longer) (octet_bits octets) keeps (length-octet_bits octets)) (omega (arith, length-octet_bits longer, c.in_ok-grow.ensures.room)) (ap (λ (k : ℕ). len + k) (length-bits c.args.width c.args.value) ∙ end) is
    ∙ ap (λ xs. xs ++ new) c.self.view_is
