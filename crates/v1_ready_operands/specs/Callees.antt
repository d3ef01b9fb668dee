-- Which block of v1_ready_statements what calls name is of, and that it is what that block declares.
use Rattle.std.specs.Prelude.{◌≡◌, map, filter_map, codes}
use Rattle.p416_syntax.specs.declared.controls.Table16.{Table16}
use Rattle.p416_syntax.specs.Names.{Name}
use Rattle.p416_syntax.specs.Declarations.{layouts_of, table_in}
use Rattle.v1_core.specs.Signatures.{own_object}
use Rattle.v1_core.specs.Programs.{frame_kinds, first_start}
use Rattle.p416_signature.specs.internal.Gathered.{objects_seen, AreObjects}
use Rattle.v1_seats.specs.Seen.{seen_seat}
use Rattle.v1_seats.specs.Frame.{seats_from}
use Rattle.v1_ready_statements.specs.Around.{ActionPlace, Around, Found, standard_slot}
use Rattle.v1_ready_operands.specs.declared.callees.OwnAction.{OwnAction}
use Rattle.v1_ready_operands.specs.declared.callees.FoundAction.{FoundAction}
use Rattle.v1_ready_operands.specs.declared.callees.Callees.{Callees}

abbrev pub seen_action : OwnAction → ActionPlace
seen_action a = record { of = a.action.now; first = a.first }

abbrev pub seen_found : FoundAction → Found
seen_found f = record { number = f.number; place = seen_action f.own }

abbrev pub around_of : Callees → Around
around_of c = record { syntax = c.syntax.now; locals = c.locals.now; actions = map seen_action c.actions.now }

abbrev pub action_name : ActionPlace → Name
action_name a = a.of.name

abbrev pub table_name : Table16 → Name
table_name t = t.name

pub record AreCallees (c : Callees) : Type 0 where
  pub names : c.action_names.now ≡ map action_name (around_of c).actions
  pub tables : c.tables.now ≡ map table_name (filter_map table_in c.locals.now)
  pub own : objects_seen c.own_objects.now ≡ filter_map own_object c.locals.now
  pub objects : AreObjects c.syntax.now c.objects.now
  pub seats : map seen_seat c.seats.now ≡ seats_from (layouts_of c.syntax.now.decls) (frame_kinds c.syntax.now) first_start
  pub checksum_error : c.checksum_error ≡ standard_slot (around_of c) (codes "checksum_error")
  pub packet_length : c.packet_length ≡ standard_slot (around_of c) (codes "packet_length")
