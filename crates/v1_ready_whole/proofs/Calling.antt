-- What the calls of a parser name is what it declares: nothing.
use Rattle.std.proofs.Common.{◌≡◌, List, [], map, sym, subst, ap, ◌∙◌}
use Rattle.std.specs.Prelude.{filter_map, codes}
use Rattle.p416_syntax.specs.declared.controls.Local.{Local}
use Rattle.p416_syntax.specs.declared.program.Syntax16.{Syntax16}
use Rattle.p416_syntax.specs.Declarations.{layouts_of, table_in}
use Rattle.p416_signature.specs.internal.Gathered.{objects_seen, AreObjects}
use Rattle.v1_core.specs.Signatures.{own_object}
use Rattle.v1_core.specs.Programs.{frame_kinds, first_start}
use Rattle.v1_seats.specs.Seen.{seen_seat}
use Rattle.v1_seats.specs.Frame.{seats_from}
use Rattle.v1_ready_operands.specs.declared.callees.OwnAction.{OwnAction}
use Rattle.v1_ready_operands.specs.declared.callees.Callees.{Callees}
use Rattle.v1_ready_operands.specs.Callees.{seen_action, action_name, table_name, AreCallees}
use Rattle.v1_ready_controls.specs.Program.{slot_in_standard}

pub callees_are : (syntax : Syntax16) (k : Callees) → k.syntax.now ≡ syntax → k.locals.now ≡ [] → k.actions.now ≡ [] → k.action_names.now ≡ [] → k.tables.now ≡ [] → objects_seen k.own_objects.now ≡ [] → AreObjects syntax k.objects.now → map seen_seat k.seats.now ≡ seats_from (layouts_of syntax.decls) (frame_kinds syntax) first_start
    → k.checksum_error ≡ slot_in_standard syntax (codes "checksum_error") → k.packet_length ≡ slot_in_standard syntax (codes "packet_length") → AreCallees k
callees_are syntax k same locals actions names tables own objects seats checksum length = record {
  names = names ∙ sym (ap (λ (l : List OwnAction). map action_name (map seen_action l)) actions);
  tables = tables ∙ sym (ap (λ (l : List Local). map table_name (filter_map table_in l)) locals);
  own = own ∙ sym (ap (filter_map own_object) locals);
  objects = subst (λ (y : Syntax16). AreObjects y k.objects.now) (sym same) objects;
  seats = seats ∙ sym (ap (λ (y : Syntax16). seats_from (layouts_of y.decls) (frame_kinds y) first_start) same);
  checksum_error = checksum ∙ sym (ap (λ (y : Syntax16). slot_in_standard y (codes "checksum_error")) same);
  packet_length = length ∙ sym (ap (λ (y : Syntax16). slot_in_standard y (codes "packet_length")) same);
}
