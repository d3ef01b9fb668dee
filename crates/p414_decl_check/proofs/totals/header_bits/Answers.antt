use Rattle.std.proofs.Common.{ℕ, subst}
use Rattle.p414_names.specs.internal.Types.{IsUpTo}
use Rattle.p414_decl_check.proofs.Headers.{header_bits_is}
use Rattle.p414_decl_check.proofs.totals.header_bits.Goals as goal

pub returns-in-Header : goal.returns-in-Header
returns-in-Header c =
    let bits = header_bits_is c.args.names.now c.args.decl.now c.in-Header.declared c.elements_of.result c.as_slice.result.now (cc c.in-Header.is) c.elements_of.ensures c.as_slice.ensures in
    subst (λ (n : ℕ). IsUpTo 262144 n c.bits_times.result) bits c.bits_times.ensures
