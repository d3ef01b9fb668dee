-- The plain program follows the meaning of P4_14.
use Rattle.std.proofs.Common.{◌≡◌, ℕ, suc, ◌+◌, ◌*◌, ◌/◌, ◌%◌, ◌^◌, ◌<◌, ◌≤◌, Bool, true, false, if◌then◌else◌, ◌==◌, nat_lt, List, ◌∷◌, ◌++◌, length, sum, take, drop, get_or, Some, None, refl, sym, ◌∙◌, ap, arith, append_assoc, add-one, drop-drop}
use Rattle.std.proofs.lemmas.List.{drop_all, take_all, append-nil}
use Rattle.std.proofs.lemmas.List.Sums.{sum_by-cons}
use Rattle.std.proofs.Math.Seq.{drop-cons}
use Rattle.std.proofs.lemmas.Bool.Decides.{nat_tests}
use Rattle.std.proofs.lemmas.List.{length-take}
use Rattle.std.proofs.Math.Nat.{mod-eq_of_lt}
use Rattle.p4x_bits.specs.BitLists.{num, bits, octet_bits, IsOctets}
use Rattle.p4x_bits.proofs.BitLists.{length-octet_bits}
use Rattle.state_store.specs.Ports.{drop_port}
use Rattle.p414_one_table.specs.declared.program.OneTable14.{OneTable14}
use Rattle.fabric.specs.declared.packets.Arrival.{Arrival}
use Rattle.p4x_cmd.specs.Entries.{no_entries}
use Rattle.match_core.specs.declared.entries.Entries.{Entries}
use Rattle.p4x_cmd.specs.Headers.{numbers_in, bits_in, octets_in}
use Rattle.p4x_cmd.specs.Meaning14.{State14, pass14, signature14, widths14, start14, extract14, after_parser14}
use Rattle.p4x_cmd.specs.Passes.{PassEnd, dropped, leaves}
use Rattle.p4x_cmd.proofs.HeaderLaws.{bits_of_numbers, octets_of_bits}
use Rattle.command_examples.specs.Plain.{AreWidths, IsProgram}
use Rattle.command_examples.specs.internal.Passes.{IsPass14}

-- What the loop over the fields keeps: the header's bits are those that were put, and those of the fields that are left.
pub record Again (widths : List ℕ) (packet : List Bool) (index at : ℕ) (header : List Bool) : Type 0 where
  pub place : at + sum (drop index widths) ≡ sum widths
  pub same : bits_in widths (numbers_in widths packet) ≡ header ++ bits_in (drop index widths) (numbers_in (drop index widths) (drop at packet))

-- the fields from a number on are one field and those behind it
fields_left : (widths : List ℕ) (index w : ℕ) → index < length widths → w ≡ get_or widths index 0 → drop index widths ≡ w ∷ drop (index + 1) widths
fields_left widths index w inside is =
    drop-cons widths index 0 inside ∙ ap (λ (x : ℕ). x ∷ drop (suc index) widths) (sym is) ∙ ap (λ (n : ℕ). w ∷ drop n widths) (sym (add-one index))

pub next_place : (widths : List ℕ) (packet : List Bool) (index at w : ℕ) (header : List Bool) → Again widths packet index at header → index < length widths → w ≡ get_or widths index 0
    → (at + w) + sum (drop (index + 1) widths) ≡ sum widths
next_place widths packet index at w header here inside is =
    let left : sum (drop index widths) ≡ w + sum (drop (index + 1) widths) = ap (λ (l : List ℕ). sum l) (fields_left widths index w inside is) ∙ sum_by-cons (λ x. x) w (drop (index + 1) widths) in
    let place = here.place in
    omega arith

-- one more field
pub again_more : (widths : List ℕ) (packet : List Bool) (index at w : ℕ) (header new : List Bool) → Again widths packet index at header → index < length widths → w ≡ get_or widths index 0
    → new ≡ header ++ bits w (num (take w (drop at packet))) → Again widths packet (index + 1) (at + w) new
again_more widths packet index at w header new here inside is put =
    let left = drop (index + 1) widths in
    let field = bits w (num (take w (drop at packet))) in
    let behind : drop w (drop at packet) ≡ drop (at + w) packet = drop-drop w at packet in
    record {
      place = next_place widths packet index at w header here inside is;
      same = here.same ∙ ap (λ (l : List ℕ). header ++ bits_in l (numbers_in l (drop at packet))) (fields_left widths index w inside is)
          ∙ ap (λ (rest : List Bool). header ++ (field ++ bits_in left (numbers_in left rest))) behind
          ∙ sym (append_assoc header field (bits_in left (numbers_in left (drop (at + w) packet))))
          ∙ ap (λ (l : List Bool). l ++ bits_in left (numbers_in left (drop (at + w) packet))) (sym put);
    }

pub again_ends : (widths : List ℕ) (packet : List Bool) (index at : ℕ) (header : List Bool) → Again widths packet index at header → length widths ≤ index
    → header ≡ bits_in widths (numbers_in widths packet)
again_ends widths packet index at header here past =
    sym (here.same ∙ ap (λ (l : List ℕ). header ++ bits_in l (numbers_in l (drop at packet))) (drop_all index widths past) ∙ append-nil header)

-- One packet.

abbrev none_given : OneTable14 → Entries
none_given p = no_entries (signature14 p)

-- the state after the header was extracted
abbrev got : OneTable14 → Arrival → State14
got p a = record (start14 p a) {
  valid = true;
  numbers = numbers_in (widths14 p) (octet_bits a.octets);
  unparsed = drop (sum (widths14 p) / 8) a.octets;
}

extracted_short : (p : OneTable14) (a : Arrival) → nat_lt (8 * length a.octets) (sum (widths14 p)) ≡ true → extract14 p (start14 p a) ≡ None
extracted_short p a is = rw is refl

extracted_whole : (p : OneTable14) (a : Arrival) → nat_lt (8 * length a.octets) (sum (widths14 p)) ≡ false → extract14 p (start14 p a) ≡ Some (got p a)
extracted_whole p a is = rw is refl

-- the octets of the header again, and those behind it
abbrev again : List ℕ → List ℕ → List ℕ
again widths octets = octets_in (bits_in widths (numbers_in widths (octet_bits octets))) ++ drop (sum widths / 8) octets

abbrev ends : List ℕ → List ℕ → ℕ → PassEnd
ends widths octets port = if port == drop_port then dropped else leaves port (again widths octets)

sent_whole : (p : OneTable14) (a : Arrival) → p.port % 2 ^ 9 ≡ p.port → after_parser14 p (none_given p) (Some (got p a)) ≡ ends (widths14 p) a.octets p.port
sent_whole p a fits = rw fits refl

pub short_is : (widths octets : List ℕ) (port : ℕ) → 8 * length octets < sum widths → IsPass14 widths port octets None
short_is widths octets port short p a is same =
    let here : 8 * length a.octets < sum (widths14 p) = rw (same, is.widths_are) short in
    let test : nat_lt (8 * length a.octets) (sum (widths14 p)) ≡ true = grind (arith, nat_tests) in
    ap (after_parser14 p (none_given p)) (extracted_short p a test)

pub whole_is : (widths octets : List ℕ) (port : ℕ) (p : OneTable14) (a : Arrival) → sum widths ≤ 8 * length octets → port ≤ drop_port → IsProgram widths port p → a.octets ≡ octets
    → (pass14 p (none_given p) a).end ≡ ends widths octets port
whole_is widths octets port p a whole small is same =
    let here : sum (widths14 p) ≤ 8 * length a.octets = rw (same, is.widths_are) whole in
    let test : nat_lt (8 * length a.octets) (sum (widths14 p)) ≡ false = grind (arith, nat_tests) in
    let bound : p.port ≤ drop_port = rw is.port_is small in
    ap (after_parser14 p (none_given p)) (extracted_whole p a test)
    ∙ sent_whole p a (mod-eq_of_lt (omega arith))
    ∙ ap (λ (l : List ℕ). ends l a.octets p.port) is.widths_are
    ∙ ap (λ (l : List ℕ). ends widths l p.port) same
    ∙ ap (λ (n : ℕ). ends widths octets n) is.port_is

pub dropped_is : (widths octets : List ℕ) (port : ℕ) → sum widths ≤ 8 * length octets → port ≡ drop_port → IsPass14 widths port octets None
dropped_is widths octets port whole last p a is same = whole_is widths octets port p a whole (omega arith) is same ∙ rw last refl

-- the header's octets are those whose bits it has
header_octets : (widths octets header : List ℕ) (bits : List Bool) → AreWidths widths → sum widths ≤ 8 * length octets → bits ≡ bits_in widths (numbers_in widths (octet_bits octets)) → IsOctets header
    → octet_bits header ≡ take (8 * (length bits / 8)) bits → octets_in (bits_in widths (numbers_in widths (octet_bits octets))) ≡ header
header_octets widths octets header bits are whole is all same =
    let size : length bits ≡ sum widths =
    ap (λ (l : List Bool). length l) (is ∙ bits_of_numbers widths (octet_bits octets) (omega (arith, length-octet_bits octets))) ∙ omega (arith, length-take (sum widths) (octet_bits octets), length-octet_bits octets) in
    let even = are.even in
    let whole_bits : take (8 * (length bits / 8)) bits ≡ bits = take_all (8 * (length bits / 8)) bits (omega arith) in
    ap octets_in (sym is ∙ sym whole_bits ∙ sym same) ∙ octets_of_bits header all

pub leaving_is : (widths octets header leaving : List ℕ) (bits : List Bool) (port : ℕ) → AreWidths widths → sum widths ≤ 8 * length octets → port < drop_port → bits ≡ bits_in widths (numbers_in widths (octet_bits octets)) → IsOctets header
    → octet_bits header ≡ take (8 * (length bits / 8)) bits → leaving ≡ header ++ drop (sum widths / 8) octets → IsPass14 widths port octets (Some leaving)
leaving_is widths octets header leaving bits port are whole small is all same both p a program alike =
    let test : (port == drop_port) ≡ false = grind (arith, nat_tests) in
    whole_is widths octets port p a whole (omega arith) program alike
    ∙ ap (λ (b : Bool). if b then dropped else leaves port (again widths octets)) test
    ∙ ap (λ (l : List ℕ). leaves port (l ++ drop (sum widths / 8) octets)) (header_octets widths octets header bits are whole is all same)
    ∙ ap (λ (l : List ℕ). leaves port l) (sym both)
