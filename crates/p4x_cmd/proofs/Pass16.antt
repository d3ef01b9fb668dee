-- What the written program does with one packet.
use Rattle.std.proofs.Common.{◌≡◌, ℕ, ◌*◌, ◌/◌, ◌%◌, ◌^◌, Bool, true, false, if◌then◌else◌, ◌==◌, nat_lt, List, [], ◌∷◌, ◌++◌, length, map, sum, drop, Option, Some, None, refl, sym, ◌∙◌, ap, codes}
use Rattle.std.proofs.Common.{◌≤◌, arith}
use Rattle.std.proofs.lemmas.Bool.Decides.{nat_tests}
use Rattle.state_store.specs.Ports.{drop_port}
use Rattle.p4x_bits.specs.BitLists.{octet_bits, IsOctets}
use Rattle.p4x_cmd.proofs.HeaderLaws.{whole_again}
use Rattle.fabric.specs.declared.packets.Arrival.{Arrival}
use Rattle.one_table_text.specs.declared.one_table.OneTable16.{OneTable16}
use Rattle.p4x_cmd.specs.Headers.{numbers_in, bits_in, octets_in, zeros}
use Rattle.p4x_cmd.specs.Entries.{fill_at, no_entries}
use Rattle.match_core.specs.declared.entries.Entries.{Entries}
use Rattle.match_core.specs.declared.entries.DefaultCall.{DefaultCall}
use Rattle.p4x_cmd.specs.Passes.{Pass, dropped, leaves}
use Rattle.p4x_cmd.specs.internal.Plain.{plain_pass}
use Rattle.one_table_text.specs.Programs.{program16, bit_field}
use Rattle.p4x_cmd.specs.Meaning16.{Moment, Member, Scope, parse16, start16, parser_of, main_at, block16, control16, control_scope, verified16, standard_number, dropped16, egress16, after_egress16, pass16, signature16}

abbrev pub field_widths : OneTable16 → List ℕ
field_widths q = map (λ x. x.width.value) (map bit_field q.fields)

abbrev the_member : OneTable16 → Member
the_member q = record { called = codes "h"; fields = map (λ x. x.name) (map bit_field q.fields); widths = field_widths q }

abbrev the_scope : OneTable16 → Scope
the_scope q = record { members = the_member q ∷ []; packet = codes "p"; headers = codes "hdr"; standard = codes "sm" }

abbrev begun : OneTable16 → Arrival → Moment
begun q a = record {
  headers = record { valid = false; numbers = zeros (field_widths q) } ∷ [];
  standard = a.port ∷ 0 ∷ 0 ∷ length a.octets % 2 ^ 32 ∷ 0 ∷ 0 ∷ 0 ∷ [];
  unparsed = a.octets;
  emitted = [];
  work = 0;
  stopped = false;
}

-- too few octets: the parser stops with PacketTooShort
abbrev too_short : OneTable16 → Arrival → Moment
too_short q a = record (begun q a) {
  standard = a.port ∷ 0 ∷ 0 ∷ length a.octets % 2 ^ 32 ∷ 0 ∷ 1 ∷ 0 ∷ [];
  work = 1;
}

-- the header is extracted
abbrev extracted : OneTable16 → Arrival → Moment
extracted q a = record (begun q a) {
  headers = record { valid = true; numbers = numbers_in (field_widths q) (octet_bits a.octets) } ∷ [];
  unparsed = drop (sum (field_widths q) / 8) a.octets;
  work = 2;
}

parsed_is : (q : OneTable16) (a : Arrival) → let s = program16 q in let p = parser_of s.decls (main_at s 0) in parse16 s p (start16 s p a) ≡ parse16 s p (begun q a)
unfolding program16
parsed_is q a = refl

parsed_short : (q : OneTable16) (a : Arrival) → nat_lt (8 * length a.octets) (sum (field_widths q)) ≡ true → let s = program16 q in parse16 s (parser_of s.decls (main_at s 0)) (begun q a) ≡ too_short q a
unfolding program16
parsed_short q a is = rw is refl

parsed_whole : (q : OneTable16) (a : Arrival) → nat_lt (8 * length a.octets) (sum (field_widths q)) ≡ false → let s = program16 q in parse16 s (parser_of s.decls (main_at s 0)) (begun q a) ≡ extracted q a
unfolding program16
parsed_whole q a is = rw is refl

-- what follows the parser
abbrev after : OneTable16 → Entries → Moment → Pass
after q e m =
    let s = program16 q in
    let now = control16 (control_scope s) e (block16 s 2) (verified16 s e m) in
    if standard_number now (codes "egress_spec") == drop_port then dropped16 now else after_egress16 s e (egress16 s e now)

pass_is : (q : OneTable16) (e : Entries) (a : Arrival) → let s = program16 q in pass16 s e a ≡ after q e (parse16 s (parser_of s.decls (main_at s 0)) (begun q a))
unfolding program16
pass_is q e a = refl

short_is : (q : OneTable16) (e : Entries) (a : Arrival) → after q e (too_short q a) ≡ record { end = dropped; work = 3 }
unfolding program16
short_is q e a = refl

-- the header's octets again, and what was not parsed
abbrev pub whole_octets : List ℕ → List ℕ → List ℕ
whole_octets widths octets = octets_in (bits_in widths (numbers_in widths (octet_bits octets))) ++ drop (sum widths / 8) octets

abbrev pub done : OneTable16 → Arrival → Bool → Pass
done q a drops =
    if drops then record { end = dropped; work = 5 } else record { end = leaves q.port (whole_octets (field_widths q) a.octets); work = 6 }

-- the default that the entries give is the table's one action
abbrev pub TakesAction : Option DefaultCall → Type 0
TakesAction None = Unit {0}
TakesAction (Some call) = call.action ≡ 0

whole_none : (q : OneTable16) (e : Entries) (a : Arrival) → (fill_at e 0).default ≡ None → after q e (extracted q a) ≡ done q a (q.port == drop_port)
unfolding program16
whole_none q e a is = rw is refl

whole_some : (q : OneTable16) (e : Entries) (a : Arrival) (c : DefaultCall) → (fill_at e 0).default ≡ Some c → c.action ≡ 0 → after q e (extracted q a) ≡ done q a (q.port == drop_port)
unfolding program16
whole_some q e a c is first = rw (is, first) refl

whole_is : (q : OneTable16) (e : Entries) (a : Arrival) → TakesAction (fill_at e 0).default → after q e (extracted q a) ≡ done q a (q.port == drop_port)
whole_is q e a takes = by_default (fill_at e 0).default refl takes
  where
    by_default : (o : Option DefaultCall) → (fill_at e 0).default ≡ o → TakesAction o → after q e (extracted q a) ≡ done q a (q.port == drop_port)
    by_default None is t = whole_none q e a is
    by_default (Some c) is t = whole_some q e a c is t

done_is : (q : OneTable16) (a : Arrival) (drops : Bool) → whole_octets (field_widths q) a.octets ≡ a.octets
    → done q a drops ≡ (if drops then record { end = dropped; work = 5 } else record { end = leaves q.port a.octets; work = 6 })
done_is q a true whole = refl
done_is q a false whole = ap (λ (octets : List ℕ). record { end = leaves q.port octets; work = 6 }) whole

pub pass16_is : (q : OneTable16) (e : Entries) (a : Arrival) → TakesAction (fill_at e 0).default → IsOctets a.octets → sum (field_widths q) % 8 ≡ 0
    → pass16 (program16 q) e a ≡ plain_pass (sum (field_widths q)) q.port a
pass16_is q e a takes octets even = pass_is q e a ∙ by_size (nat_lt (8 * length a.octets) (sum (field_widths q))) refl
  where
    by_size : (short : Bool) → nat_lt (8 * length a.octets) (sum (field_widths q)) ≡ short
        → after q e (parse16 (program16 q) (parser_of (program16 q).decls (main_at (program16 q) 0)) (begun q a)) ≡ plain_pass (sum (field_widths q)) q.port a
    by_size true is = ap (after q e) (parsed_short q a is) ∙ short_is q e a ∙ sym (ap (λ (b : Bool). if b then record { end = dropped; work = 3 } else (if q.port == drop_port then record { end = dropped; work = 5 } else record { end = leaves q.port a.octets; work = 6 })) is)
    by_size false is =
        let fits : sum (field_widths q) ≤ 8 * length a.octets = grind (arith, nat_tests) in
        ap (after q e) (parsed_whole q a is) ∙ whole_is q e a takes ∙ done_is q a (q.port == drop_port) (whole_again (field_widths q) a.octets octets even fits)
        ∙ sym (ap (λ (b : Bool). if b then record { end = dropped; work = 3 } else (if q.port == drop_port then record { end = dropped; work = 5 } else record { end = leaves q.port a.octets; work = 6 })) is)

-- with no entries the table has no default of the entries file
pub no_default : (q : OneTable16) → (fill_at (no_entries (signature16 (program16 q))) 0).default ≡ None
unfolding program16
no_default q = refl
