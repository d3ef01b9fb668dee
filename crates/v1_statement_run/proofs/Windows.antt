-- Fields that are read ahead.
use Rattle.std.proofs.Common.{◌≡◌, ℕ, ◌+◌, ◌-◌, ◌*◌, ◌/◌, ◌%◌, ◌^◌, ◌<◌, ◌≤◌, Bool, List, length, take, drop, refl, sym, ap, subst, ◌∙◌, arith}
use Rattle.std.proofs.Math.Pow.{pow_mono}
use Rattle.std.proofs.lemmas.List.{drop-drop, drop-take, take-take, length-drop, length-take-le}
use Rattle.p4x_bits.specs.BitLists.{num, bits, octet_bits}
use Rattle.p4x_bits.proofs.BitLists.{bits-num, num-bits, take-bits, drop-bits, num_of_take_below, length-octet_bits}
use Rattle.v1_core.specs.Cells.{Cells}
use Rattle.v1_ready_blocks.specs.Places.{slot_width}
use Rattle.v1_ready_blocks.specs.Packets.{filled}
use Rattle.v1_statement_run.specs.declared.packets.Window.{Window}
use Rattle.v1_statement_run.specs.Windows.{Holds}
use Rattle.v1_statement_run.proofs.Packing.{Filling, fill_width, fill_ends}

no_bits : (n : ℕ) (rest : List Bool) → bits 0 n ≡ take 0 rest
unfolding bits
no_bits n rest = refl

pub holds_none : (w : Window) (rest : List Bool) → w.held ≡ 0 → Holds w rest
holds_none w rest none = record {
  within = omega (arith, none);
  few = omega (arith, none);
  same = rw none (no_bits w.word rest);
}

pub fits_word : (n w : ℕ) (l : List Bool) → n ≡ num (take w l) → w ≤ 64 → n < 2 ^ 64
fits_word n w l is le =
    let below : n < 2 ^ w = subst (λ (k : ℕ). k < 2 ^ w) (sym is) (num_of_take_below w l) in
    let most : 2 ^ w ≤ 2 ^ 64 = pow_mono le in
    omega arith

pub holds_read : (w : Window) (octets : List ℕ) (at : ℕ) → 8 ≤ length octets - at / 8 → w.held ≡ 64 - at % 8 → w.word ≡ num (take w.held (drop at (octet_bits octets))) → Holds w (drop at (octet_bits octets))
holds_read w octets at long count is =
    let many : length (drop at (octet_bits octets)) ≡ 8 * length octets - at = length-drop at (octet_bits octets) ∙ ap (λ (n : ℕ). n - at) (length-octet_bits octets) in
    let within : w.held ≤ length (drop at (octet_bits octets)) = omega (arith, many, long, count) in
    record {
      within = within;
      few = omega (arith, count);
      same = ap (bits w.held) is ∙ bits-num w.held (take w.held (drop at (octet_bits octets))) (length-take-le w.held (drop at (octet_bits octets)) within);
    }

-- the first of the bits that are held
pub field_held : (w : Window) (rest : List Bool) (width left n : ℕ) → Holds w rest → w.held ≡ width + left → n ≡ w.word / 2 ^ left % 2 ^ width → n ≡ num (take width rest)
field_held w rest width left n holds parts is =
    is
    ∙ sym (num-bits width (w.word / 2 ^ left))
    ∙ ap num (sym (take-bits width left w.word))
    ∙ ap (λ (k : ℕ). num (take width (bits k w.word))) (sym parts)
    ∙ ap (λ (l : List Bool). num (take width l)) holds.same
    ∙ ap num (take-take width w.held rest (omega (arith, parts)))

-- and the others
pub holds_rest : (w new : Window) (bits : List Bool) (at width : ℕ) → Holds w (drop at bits) → new.word ≡ w.word → w.held ≡ width + new.held → Holds new (drop (at + width) bits)
holds_rest w new all at width holds same parts =
    let front : length (drop at all) ≡ length all - at = length-drop at all in
    let behind : length (drop (at + width) all) ≡ length all - (at + width) = length-drop (at + width) all in
    record {
      within = omega (arith, holds.within, parts, front, behind);
      few = omega (arith, holds.few, parts);
      same =
          ap (bits new.held) same
          ∙ sym (drop-bits width new.held w.word)
          ∙ ap (λ (k : ℕ). drop width (bits k w.word)) (sym parts)
          ∙ ap (drop width) holds.same
          ∙ ap (λ (k : ℕ). drop width (take k (drop at all))) parts
          ∙ drop-take width new.held (drop at all)
          ∙ ap (take new.held) (drop-drop width at all);
    }

-- slots that are filled

pub record FillingAhead (octets : List ℕ) (window : Window) (n slot i at : ℕ) (old now : Cells) : Type 0 where
  pub filling : Filling (octet_bits octets) n slot i at old now
  pub few : window.held < 64
  pub holds : Holds window (drop at (octet_bits octets))

pub ahead_width : (octets : List ℕ) (window : Window) (n slot i at w : ℕ) (old now : Cells) → i < n → w ≡ slot_width now (slot + i) → FillingAhead octets window n slot i at old now → at + w ≤ 8 * length octets
ahead_width octets window n slot i at w old now h is g = fill_width (octet_bits octets) octets n slot i at w old now refl h is g.filling

pub ahead_few : (octets : List ℕ) (window : Window) (n slot i at : ℕ) (old now : Cells) → FillingAhead octets window n slot i at old now → window.held < 64
ahead_few octets window n slot i at old now g = g.few

pub ahead_holds : (octets : List ℕ) (window : Window) (n slot i at : ℕ) (old now : Cells) → FillingAhead octets window n slot i at old now → Holds window (drop at (octet_bits octets))
ahead_holds octets window n slot i at old now g = g.holds

pub ahead_ends : (octets : List ℕ) (window : Window) (n slot i at : ℕ) (old now : Cells) → n ≤ i → FillingAhead octets window n slot i at old now → now ≡ filled n slot (octet_bits octets) old
ahead_ends octets window n slot i at old now h g = fill_ends (octet_bits octets) n slot i at old now h g.filling
