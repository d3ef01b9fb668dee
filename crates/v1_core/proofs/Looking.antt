-- The bits ahead.
use Rattle.std.proofs.Common.{◌≡◌, ℕ, ◌+◌, ◌*◌, ◌/◌, ◌^◌, ◌<◌, ◌≤◌, Bool, true, false, cond, nat_lt, List, length, take, drop, refl, sym, ap, subst, ◌∙◌, arith}
use Rattle.std.proofs.lemmas.Bool.{lt-ltb, ltb-true}
use Rattle.p4x_bits.specs.BitLists.{num, octet_bits}
use Rattle.p4x_bits.proofs.BitLists.{num_of_take_below}
use Rattle.v1_core.specs.declared.parser_error.ParserError.TheVariants.{PacketTooShort}
use Rattle.v1_core.specs.Values.{a_number}
use Rattle.v1_core.specs.Ready.{Ended, given, failed, bits_ahead}

abbrev told : List ℕ → ℕ → Bool → Ended
told left width b = cond b (given (a_number width (num (take width (octet_bits left))))) (failed PacketTooShort)

pub ahead_there : (left : List ℕ) (width n : ℕ) → (width + 7) / 8 ≤ length left → n ≡ num (take width (drop 0 (octet_bits left))) → given (a_number width n) ≡ bits_ahead left width
ahead_there left width n enough is =
    ap (λ (k : ℕ). given (a_number width k)) is
    ∙ ap (told left width) (sym (lt-ltb width (8 * length left + 1) (omega arith)))

pub ahead_past : (left : List ℕ) (width : ℕ) → length left < (width + 7) / 8 → failed PacketTooShort ≡ bits_ahead left width
ahead_past left width few = by_value (nat_lt width (8 * length left + 1)) refl
  where
    by_value : (b : Bool) → nat_lt width (8 * length left + 1) ≡ b → failed PacketTooShort ≡ bits_ahead left width
    by_value true e = let lt = ltb-true _ _ e in absurd (omega arith)
    by_value false e = sym (ap (told left width) e)

pub ahead_fits : (left : List ℕ) (width n : ℕ) → n ≡ num (take width (drop 0 (octet_bits left))) → n < 2 ^ width
ahead_fits left width n is = subst (λ (k : ℕ). k < 2 ^ width) (sym is) (num_of_take_below width (octet_bits left))
