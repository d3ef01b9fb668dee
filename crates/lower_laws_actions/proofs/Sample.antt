-- That all that is asked of an action can be met, under both rules: an action of ten primitives, which writes a parameter to a
-- field, reads a register into another, writes a hash that is cut, adds to a saturating field, writes the register, executes a
-- meter, drops, asks for a clone, pushes a stack and adds a header, in a block with copies of its parameters.
use Rattle.std.proofs.Common.{◌≡◌, ℕ, ◌<◌, None, Some, List, [], ◌∷◌, refl, arith}
use Rattle.std.specs.Prelude.{codes}
use Rattle.p414_syntax.specs.declared.lexeme.Literal.{Literal}
use Rattle.p414_syntax.specs.declared.parts.Number.{Number}
use Rattle.p414_syntax.specs.declared.parts.Inst.{Inst}
use Rattle.p414_syntax.specs.declared.parts.Ref.{Ref}
use Rattle.p414_syntax.specs.declared.headers.FieldWidth.TheVariants.{Bits}
use Rattle.p414_syntax.specs.declared.headers.Field.{Field}
use Rattle.p414_syntax.specs.declared.objects.StateAttr.TheVariants as state_attr
use Rattle.p414_syntax.specs.declared.objects.CounterType.TheVariants as counter_type
use Rattle.p414_syntax.specs.declared.calculations.Item.{Item}
use Rattle.p414_syntax.specs.declared.calculations.Item.TheVariants as item
use Rattle.p414_syntax.specs.declared.syntax.Decl.{Decl}
use Rattle.p414_syntax.specs.declared.syntax.Decl.TheVariants as decl
use Rattle.p414_syntax.specs.declared.syntax.Rule14.TheVariants.{Sequential, Parallel}
use Rattle.p414_syntax.specs.Tree.{no_statements as nothing14}
use Rattle.p414_syntax.specs.Names.{Name}
use Rattle.p414_syntax.specs.Arguments.{number_argument, field_argument, parameter_argument, name_argument, Invocation}
use Rattle.p414_sem.specs.Controls.{Setting as Setting14}
use Rattle.p416_syntax.specs.declared.parts.Type16.TheVariants.{Bit}
use Rattle.p416_syntax.specs.declared.controls.Action16.{Action16}
use Rattle.v1_core.specs.Surroundings.{no_table_applies}
use Rattle.v1_core.specs.Blocks.{act_at}
use Rattle.lower_laws_base.specs.Context.{Lowering, words_of}
use Rattle.lower_laws_base.specs.Mirror.{plain}
use Rattle.lower_laws_base.proofs.Sample.{around, c as the_lowering, sees as its_sees, spares as its_spares, copies as its_copies}
use Rattle.lower_laws_actions.specs.Mirror.{body_stmt}
use Rattle.lower_laws_actions.specs.Fits.{AllFit}
use Rattle.lower_laws_actions.specs.Runs.{primitives_of}
use Rattle.lower_laws_actions.specs.Actions.{ActionIs}

abbrev plain14 : ℕ → Literal
plain14 n = record { width = None; value = n }

abbrev inst : Name → Inst
inst name = record { name = name; index = None }

abbrev of : Name → Name → Ref
of instance field = record { instance = inst instance; field = field }

abbrev bits_field : Name → ℕ → Field
bits_field name width = record { name = name; width = Bits (plain14 width); attributes = [] }

abbrev count : ℕ → Number
count n = record { sign = None; literal = plain14 n }

abbrev hashed_items : List Item
hashed_items = item.Field (of (codes "h") (codes "y")) ∷ item.Number (record { width = Some 3; value = 5 }) ∷ []

abbrev ds : List Decl
ds =
    decl.HeaderType (record { name = codes "h_t"; fields = bits_field (codes "x") 8 ∷ record { name = codes "y"; width = Bits (plain14 16); attributes = codes "saturating" ∷ [] } ∷ []; tails = [] })
    ∷ decl.Header (record { header_type = codes "h_t"; name = codes "h"; size = None })
    ∷ decl.HeaderType (record { name = codes "t_t"; fields = bits_field (codes "z") 8 ∷ []; tails = [] })
    ∷ decl.Header (record { header_type = codes "t_t"; name = codes "t"; size = Some (plain14 2) })
    ∷ decl.HeaderType (record { name = codes "m_t"; fields = bits_field (codes "q") 4 ∷ []; tails = [] })
    ∷ decl.Metadata (record { header_type = codes "m_t"; name = codes "m"; initials = None })
    ∷ decl.Register (record { name = codes "r"; attributes = state_attr.Width (plain14 32) ∷ state_attr.InstanceCount (plain14 2) ∷ [] })
    ∷ decl.Meter (record { name = codes "v"; attributes = state_attr.Counts counter_type.Bytes ∷ state_attr.InstanceCount (plain14 4) ∷ [] })
    ∷ decl.FieldList (record { name = codes "l"; items = hashed_items })
    ∷ decl.FieldListCalculation (record { name = codes "k"; input = codes "l" ∷ []; algorithm = codes "crc16"; output_width = plain14 12 })
    ∷ []

abbrev calls : List Invocation
calls =
    record { callee = codes "modify_field"; arguments = field_argument (of (codes "h") (codes "x")) ∷ parameter_argument 0 ∷ [] }
    ∷ record { callee = codes "register_read"; arguments = field_argument (of (codes "h") (codes "y")) ∷ name_argument (inst (codes "r")) ∷ field_argument (of (codes "h") (codes "x")) ∷ [] }
    ∷ record { callee = codes "modify_field_with_hash_based_offset"; arguments = field_argument (of (codes "h") (codes "x")) ∷ number_argument (count 0) ∷ name_argument (inst (codes "k")) ∷ number_argument (count 16) ∷ [] }
    ∷ record { callee = codes "add_to_field"; arguments = field_argument (of (codes "h") (codes "y")) ∷ number_argument (count 3) ∷ [] }
    ∷ record { callee = codes "register_write"; arguments = name_argument (inst (codes "r")) ∷ number_argument (count 0) ∷ field_argument (of (codes "h") (codes "x")) ∷ [] }
    ∷ record { callee = codes "execute_meter"; arguments = name_argument (inst (codes "v")) ∷ number_argument (count 0) ∷ field_argument (of (codes "m") (codes "q")) ∷ [] }
    ∷ record { callee = codes "drop"; arguments = [] }
    ∷ record { callee = codes "clone_ingress_pkt_to_egress"; arguments = number_argument (count 5) ∷ [] }
    ∷ record { callee = codes "push"; arguments = name_argument (inst (codes "t")) ∷ number_argument (count 1) ∷ [] }
    ∷ record { callee = codes "add_header"; arguments = name_argument (inst (codes "h")) ∷ [] } ∷ []

abbrev setting : Setting14
setting = record {
  decls = ds;
  expanded = record { actions = calls ∷ []; lists = hashed_items ∷ []; ingress = nothing14; egress = nothing14; order = [] };
  rule = Parallel;
  entries = record { tables = []; sessions = []; colours = [] };
}

abbrev c : Lowering
c = the_lowering (act_at around 0) no_table_applies

abbrev action : Action16
action = record {
  notes = [];
  name = codes "a";
  parameters = record { direction = None; of = Bit (plain 8); name = codes "p" } ∷ [];
  body = body_stmt ds (words_of c) Parallel None (primitives_of ds setting.expanded calls);
}

fits : AllFit c ds (primitives_of ds setting.expanded calls)
fits = (
  ((omega arith, omega arith, refl, omega arith), refl, omega arith, tt),
  (
    ((omega arith, omega arith, refl, omega arith), refl, ((omega arith, refl), (omega arith, omega arith, refl, omega arith)), tt),
    (
      ((omega arith, omega arith, refl, omega arith), refl, (tt, tt, omega arith, omega arith, (((omega arith, omega arith, refl, omega arith), refl), (omega arith, tt))), tt),
      (
        ((omega arith, omega arith, refl, omega arith), refl, ((omega arith, omega arith, refl, omega arith), tt), (tt, omega arith)),
        (
          ((omega arith, refl), tt, (omega arith, omega arith, refl, omega arith)),
          (
            ((omega arith, refl), tt, (omega arith, omega arith, refl, omega arith), refl),
            (
              (refl, refl, tt, tt),
              (
                (tt, tt),
                (
                  (record { called = codes "t"; fields = record { called = codes "z"; width = 8 } ∷ []; within = omega arith; shown = refl; root = refl }, omega arith),
                  (((omega arith, omega arith, refl), refl), tt),
                ),
              ),
            ),
          ),
        ),
      ),
    ),
  ),
)

-- the premises of the law that the action does the same
pub is : ActionIs c setting around 0 None 0 action
is = record {
  world = refl;
  sees = its_sees (act_at around 0) no_table_applies;
  spares = its_spares (act_at around 0) no_table_applies;
  parameters = (refl, refl, tt);
  counter = tt;
  fits = fits;
  rule = λ needs. (its_copies (act_at around 0) no_table_applies, record { headers = refl; metadata = refl; standard = refl });
  body = refl;
}

-- the same action under the sequential rule
abbrev in_turn : Action16
in_turn = record action { body = body_stmt ds (words_of c) Sequential None (primitives_of ds setting.expanded calls) }

pub is_in_turn : ActionIs c (record setting { rule = Sequential }) around 0 None 0 in_turn
is_in_turn = record { world = refl; sees = is.sees; spares = is.spares; parameters = is.parameters; counter = tt; fits = fits; rule = λ needs. absurd (cc needs); body = refl }

-- An action whose primitives are apart, with the first, the fourth and the seventh of these: under the parallel rule it asks
-- for no copies, and is written as under the sequential one.
abbrev apart_calls : List Invocation
apart_calls =
    record { callee = codes "modify_field"; arguments = field_argument (of (codes "h") (codes "x")) ∷ parameter_argument 0 ∷ [] }
    ∷ record { callee = codes "add_to_field"; arguments = field_argument (of (codes "h") (codes "y")) ∷ number_argument (count 3) ∷ [] }
    ∷ record { callee = codes "drop"; arguments = [] } ∷ []

abbrev apart_setting : Setting14
apart_setting = record setting { expanded = record { actions = apart_calls ∷ []; lists = hashed_items ∷ []; ingress = nothing14; egress = nothing14; order = [] } }

abbrev apart_action : Action16
apart_action = record action { body = body_stmt ds (words_of c) Parallel None (primitives_of ds setting.expanded apart_calls) }

pub written_alike : body_stmt ds (words_of c) Parallel None (primitives_of ds setting.expanded apart_calls) ≡ body_stmt ds (words_of c) Sequential None (primitives_of ds setting.expanded apart_calls)
written_alike = refl

pub is_apart : ActionIs c apart_setting around 0 None 0 apart_action
is_apart = record {
  world = refl;
  sees = is.sees;
  spares = is.spares;
  parameters = is.parameters;
  counter = tt;
  fits = (
    ((omega arith, omega arith, refl, omega arith), refl, omega arith, tt),
    (
      ((omega arith, omega arith, refl, omega arith), refl, ((omega arith, omega arith, refl, omega arith), tt), (tt, omega arith)),
      ((refl, refl, tt, tt), tt),
    ),
  );
  rule = λ needs. absurd (cc needs);
  body = refl;
}
