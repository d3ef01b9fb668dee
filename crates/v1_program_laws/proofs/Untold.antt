-- Where no stack tells anything in an expression it tells nothing of what the expression means.
use Rattle.std.proofs.Common.{◌≡◌, Option, Some, None, IfSome, List, refl, sym, ap, ◌∙◌}
use Rattle.p416_syntax.specs.Tree.{Exp16, literal, truth, error, name, member, index, slice, call, lookahead, cast, unary, binary, choice, parenthesized, no_arguments, argument, listed}
use Rattle.p416_syntax.specs.Names.{Name}
use Rattle.p416_syntax.specs.Kinds.{Kind, bits, unsized, boolean, error_code, header, stack, struct, packet_in, packet_out, errors, enumeration, one_of, table, applied, object, items, nothing, unknown}
use Rattle.p416_syntax.specs.Scopes.{Layout, Scope}
use Rattle.p416_syntax.specs.Expressions.{kind_of}
use Rattle.v1_core.specs.Values.{Step, to_member, to_element, Slice}
use Rattle.v1_core.specs.Expressions.{slice_of}
use Rattle.v1_core.specs.Cells.{Cells}
use Rattle.v1_core.specs.Seats.{Seat, stepped_seat}
use Rattle.v1_ready_forms.specs.Named.{NamedSeat, seat_of_name}
use Rattle.v1_ready_forms.specs.Spots.{Told, Spot, spot_with, spot_behind}
use Rattle.v1_place_laws.specs.Places.{Meant, meant, behind_meant, slice_meant, member_meant, meant_by}
use Rattle.v1_place_laws.specs.Finding.{seat_now}
use Rattle.v1_call_laws.specs.Telling.{IsTold, ToldNone}

abbrev Untold : Meant → Type 0
Untold x = x.spot.told ≡ None

spot_untold : (told : Option Told) (o : Option Seat) → told ≡ None → IfSome (meant None (spot_with told o)) Untold
spot_untold told None is = tt
spot_untold told (Some t) is = is

behind_untold : (types : List Layout) (step : Step) (o : Option Meant) → IfSome o Untold → IfSome (behind_meant (spot_behind types step) o) Untold
behind_untold types step None h = tt
behind_untold types step (Some x) h = by x.slice where
  by : (cut : Option Slice) → IfSome (behind_meant (spot_behind types step) (Some (record { spot = x.spot; slice = cut }))) Untold
  by None = spot_untold x.spot.told (stepped_seat types x.spot.seat.depth x.spot.seat.form x.spot.seat.start step) h
  by (Some c) = tt

slice_untold : (c : Slice) (o : Option Meant) → IfSome o Untold → IfSome (slice_meant c o) Untold
slice_untold c None h = tt
slice_untold c (Some x) h = h

member_untold : (types : List Layout) (k : Kind) (word : Name) (o : Option Meant) → IsTold k word → IfSome o Untold → IfSome (member_meant types k word o) Untold
member_untold types (bits width) word o none h = behind_untold types (to_member word) o h
member_untold types unsized word o none h = behind_untold types (to_member word) o h
member_untold types boolean word o none h = behind_untold types (to_member word) o h
member_untold types error_code word o none h = behind_untold types (to_member word) o h
member_untold types (header type) word o none h = behind_untold types (to_member word) o h
member_untold types (stack type size) word o none h = absurd none
member_untold types (struct type) word o none h = behind_untold types (to_member word) o h
member_untold types packet_in word o none h = behind_untold types (to_member word) o h
member_untold types packet_out word o none h = behind_untold types (to_member word) o h
member_untold types errors word o none h = behind_untold types (to_member word) o h
member_untold types (enumeration of) word o none h = behind_untold types (to_member word) o h
member_untold types (one_of of) word o none h = behind_untold types (to_member word) o h
member_untold types table word o none h = behind_untold types (to_member word) o h
member_untold types applied word o none h = behind_untold types (to_member word) o h
member_untold types (object of) word o none h = behind_untold types (to_member word) o h
member_untold types items word o none h = behind_untold types (to_member word) o h
member_untold types nothing word o none h = behind_untold types (to_member word) o h
member_untold types unknown word o none h = behind_untold types (to_member word) o h

module _ (s : Scope) (seats : List NamedSeat) where
  pub untold : (e : Exp16) → ToldNone s e → IfSome (meant_by s seats e) (λ x. x.spot.told ≡ None)
  untold (name text) none = spot_untold None (seat_of_name seats text) refl
  untold (member e word) none = member_untold s.layouts (kind_of s e) word (meant_by s seats e) none.0 (untold e none.1)
  untold (index e at) none = behind_untold s.layouts (to_element at.value) (meant_by s seats e) (untold e none)
  untold (slice e high low) none = slice_untold (slice_of high low) (meant_by s seats e) (untold e none)
  untold (literal n) none = tt
  untold (truth holds) none = tt
  untold error none = tt
  untold (call e given) none = tt
  untold (lookahead e to given) none = tt
  untold (cast to e) none = tt
  untold (unary operator e) none = tt
  untold (binary operator a d) none = tt
  untold (choice c a d) none = tt
  untold (parenthesized e) none = tt
  untold no_arguments none = tt
  untold (argument before last) none = tt
  untold (listed es) none = tt

-- so it is found
pub never_missing : (c : Cells) (x : Spot) → x.told ≡ None → seat_now c x ≡ None → ⊥
never_missing c x told missing = cc (sym (ap (λ (o : Option Told). seat_now c (record { seat = x.seat; told = o })) told) ∙ missing)
