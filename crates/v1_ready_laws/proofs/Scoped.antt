-- Where names are declared as what stands at their seats, what they mean is of their kinds.
use Rattle.std.proofs.Common.{◌≡◌, Option, Some, None, IfSome, List, sym, subst}
use Rattle.p416_syntax.specs.declared.program.Syntax16.{Syntax16}
use Rattle.p416_syntax.specs.Kinds.{Kind, bits, unsized, boolean, error_code, header, stack, struct, packet_in, packet_out, errors, enumeration, one_of, table, applied, object, items, nothing, unknown}
use Rattle.p416_syntax.specs.Scopes.{Layout as TypeLayout, Sort, a_type, a_value, an_enumeration, a_function, an_object, an_action, a_table, a_state, a_block, undeclared, Scope, sort_of}
use Rattle.p416_syntax.specs.Calls.{Place}
use Rattle.p416_syntax.specs.Declarations.{layouts_of}
use Rattle.p416_syntax.specs.Expressions.{sort_kind}
use Rattle.v1_core.specs.Values.{Value}
use Rattle.v1_core.specs.Frames.{Frame, read}
use Rattle.v1_core.specs.Surroundings.{World, named}
use Rattle.v1_core.specs.Numbered.{InScope, frame_in}
use Rattle.v1_core.specs.Cells.{Cells}
use Rattle.v1_core.specs.Seats.{Form, Seat}
use Rattle.v1_core.specs.PackedValues.{value_from}
use Rattle.v1_core.specs.Programs.{frame_kinds, numbered16}
use Rattle.v1_core.specs.PackedFrames.{IsFrameOf}
use Rattle.v1_ready_forms.specs.Named.{seat_of_name, seats_in}
use Rattle.v1_ready_laws.specs.Widths.{KindsNarrow}
use Rattle.v1_ready_laws.specs.Kinds.{IsOfAt, NamesAreOf}
use Rattle.v1_ready_laws.specs.Rules.{IsUnseated, SortSeated, NamesSeated}
use Rattle.v1_ready_laws.proofs.OfKinds.{seat_of}
use Rattle.v1_ready_laws.proofs.Named.{At, name_at}

unseated_of : (types : List TypeLayout) (c : Cells) (p : Place) (k : Kind) (v : Value) → IsUnseated k → IsOfAt types c p k v
unseated_of types c p (bits width) v never = absurd never
unseated_of types c p unsized v never = absurd never
unseated_of types c p boolean v never = absurd never
unseated_of types c p error_code v never = absurd never
unseated_of types c p (header type) v never = absurd never
unseated_of types c p (stack type size) v never = absurd never
unseated_of types c p (struct type) v never = absurd never
unseated_of types c p packet_in v never = tt
unseated_of types c p packet_out v never = tt
unseated_of types c p errors v never = absurd never
unseated_of types c p (enumeration enum) v never = absurd never
unseated_of types c p (one_of enum) v never = absurd never
unseated_of types c p table v never = absurd never
unseated_of types c p applied v never = absurd never
unseated_of types c p (object kind) v never = absurd never
unseated_of types c p items v never = absurd never
unseated_of types c p nothing v never = absurd never
unseated_of types c p unknown v never = absurd never

sort_is : (types : List TypeLayout) (c : Cells) (p : Place) (sort : Sort) (o : Option Seat) (v : Value) → SortSeated sort o → IfSome o (At c types v) → IsOfAt types c p (sort_kind sort) v
sort_is types c p (a_value k can) (Some t) v form at =
    subst (IsOfAt types c p k) (sym at.0)
    (subst (λ (f : Form). IsOfAt types c p k (value_from types c t.depth f t.start)) (sym form) (seat_of types c p k t.depth t.start))
sort_is types c p (a_value k can) None v never at = unseated_of types c p k v never
sort_is types c p (a_type k) o v form at = tt
sort_is types c p (an_enumeration enum) o v form at = tt
sort_is types c p a_function o v form at = tt
sort_is types c p (an_object kind) o v form at = tt
sort_is types c p (an_action plane handed) o v form at = tt
sort_is types c p (a_table actions counters) o v form at = tt
sort_is types c p a_state o v form at = tt
sort_is types c p a_block o v form at = tt
sort_is types c p undeclared o v form at = tt

pub names_are_of : (syntax : Syntax16) (c : Cells) (w : World) (s : Scope) (who : InScope) (f : Frame) → IsFrameOf syntax c → KindsNarrow (frame_kinds syntax) → s.layouts ≡ layouts_of syntax.decls → f ≡ frame_in who (numbered16 syntax c) → NamesSeated s (seats_in syntax w.around.roots who) → NamesAreOf w s c f
names_are_of syntax c w s who f is kinds types frame seated p text =
    subst (λ (l : List TypeLayout). IsOfAt l c p (sort_kind (sort_of s text)) (read f (named w.around f text))) (sym types)
    (subst (λ (g : Frame). IsOfAt (layouts_of syntax.decls) c p (sort_kind (sort_of s text)) (read g (named w.around g text))) (sym frame)
    (sort_is (layouts_of syntax.decls) c p (sort_of s text) (seat_of_name (seats_in syntax w.around.roots who) text) (read (frame_in who (numbered16 syntax c)) (named w.around (frame_in who (numbered16 syntax c)) text)) (seated text) (name_at syntax c w who text is.layout kinds)))
