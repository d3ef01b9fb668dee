-- The first sample program, and programs of P4_16 that are each wrong in one place (this project's own).
use Rattle.std.specs.Prelude.{ℕ, List, [], ◌∷◌, Some, None, codes}
use Rattle.p414_syntax.specs.declared.parts.Inst.{Inst}
use Rattle.p414_syntax.specs.declared.headers.Field.{Field as DeclaredField}
use Rattle.p414_syntax.specs.declared.headers.FieldWidth.TheVariants.{Bits}
use Rattle.p414_syntax.specs.declared.parsers.PStmt.TheVariants.{Extract}
use Rattle.p414_syntax.specs.declared.parsers.Return.TheVariants.{State}
use Rattle.p414_syntax.specs.declared.actions.Arg.TheVariants as arg
use Rattle.p414_syntax.specs.declared.tables.TableAttr.TheVariants.{Actions, DefaultAction}
use Rattle.p414_syntax.specs.declared.syntax.Decl.TheVariants as decl
use Rattle.p414_syntax.specs.declared.syntax.Syntax14.{Syntax14}
use Rattle.p414_syntax.specs.Tree.{no_statements as nothing, then as behind, apply}
use Rattle.p414_one_table.specs.declared.program.OneTable14.{OneTable14}
use Rattle.p414_one_table.specs.declared.program.Field.{Field}
use Rattle.p416_syntax.specs.declared.parts.Note.TheVariants.{Name}
use Rattle.p416_syntax.specs.declared.controls.Local.{Local}
use Rattle.p416_syntax.specs.declared.controls.Local.TheVariants as local
use Rattle.p416_syntax.specs.declared.program.Syntax16.{Syntax16}
use Rattle.p416_syntax.specs.Tree.{Stmt16, no_statements}
use Rattle.one_table_text.specs.Programs.{header16, header_struct, metadata_struct, checksum_params, switch_params, deparser_params, only_statement, header_body, parser16, control16, empty_control, action16, table16, packet_dropped, table_applied, apply_or_drop, block_names}

-- A header of 14 octets; each packet that has them is sent to port 3.
abbrev pub sample : OneTable14
sample = record {
  fields = record { name = codes "a"; width = 48 } ∷ record { name = codes "b"; width = 48 }
      ∷ record { name = codes "c"; width = 16 } ∷ [];
  instance = codes "eth";
  action = codes "out3";
  port = 3;
  table = codes "t";
}

abbrev bits : List ℕ → ℕ → DeclaredField
bits text width = record { name = text; width = Bits record { width = None; value = width }; attributes = [] }

abbrev alone : List ℕ → Inst
alone text = record { name = text; index = None }

-- its syntax:
--   header_type eth_t { fields { a : 48; b : 48; c : 16; } }
--   header eth_t eth;
--   parser start { extract(eth); return ingress; }
--   action out3() { modify_field(standard_metadata.egress_spec, 3); }
--   table t { actions { out3; } default_action : out3(); }
--   control ingress { apply(t); }
abbrev pub sample_syntax : Syntax14
sample_syntax = record {
  decls = decl.HeaderType record {
    name = codes "eth_t";
    fields = bits (codes "a") 48 ∷ bits (codes "b") 48 ∷ bits (codes "c") 16 ∷ [];
    tails = [];
  }
      ∷ decl.Header record { header_type = codes "eth_t"; name = codes "eth"; size = None }
      ∷ decl.Parser record {
        name = codes "start";
        statements = Extract (alone (codes "eth")) ∷ [];
        end = State (codes "ingress");
      }
      ∷ decl.Action record {
        name = codes "out3";
        parameters = [];
        calls = record {
          name = codes "modify_field";
          arguments = arg.Field record { instance = alone (codes "standard_metadata"); field = codes "egress_spec" }
              ∷ arg.Number record { sign = None; literal = record { width = None; value = 3 } } ∷ [];
        } ∷ [];
      }
      ∷ decl.Table record {
        name = codes "t";
        attributes = Actions (codes "out3" ∷ []) ∷ DefaultAction (codes "out3") (Some []) ∷ [];
      }
      ∷ decl.Control record { name = codes "ingress"; body = behind nothing (apply (codes "t")) } ∷ [];
}

-- the fields of the written program
abbrev pub fields16 : List Field
fields16 =
    record { name = codes "f_a"; width = 48 } ∷ record { name = codes "f_b"; width = 48 }
    ∷ record { name = codes "f_c"; width = 16 } ∷ []

-- the written program with this action, this body of the ingress control, and this body of the deparser
abbrev pub written_with : Local → Stmt16 → Stmt16 → Syntax16
written_with action ingress deparser = record {
  decls = header16 fields16 ∷ header_struct ∷ metadata_struct ∷ parser16 ∷ empty_control (codes "V") checksum_params
      ∷ control16 (codes "I") switch_params (action ∷ table16 (codes "t") ∷ []) ingress
      ∷ empty_control (codes "E") switch_params ∷ empty_control (codes "C") checksum_params
      ∷ control16 (codes "D") deparser_params [] deparser ∷ [];
  main = block_names;
}

-- its action: sm.egress_spec = 9w3;
abbrev pub to_port_3 : Local
to_port_3 = action16 (codes "out3") 3

-- what its deparser does: p.emit(hdr.h);
abbrev pub emitting : Stmt16
emitting = header_body (codes "emit")

-- mark_to_drop(sm); in place of the action's statement
abbrev pub dropping : Syntax16
dropping = written_with (local.Action record {
  notes = Name (codes "out3") ∷ [];
  name = codes "a";
  parameters = [];
  body = only_statement packet_dropped;
}) apply_or_drop emitting

-- sm.egress_spec = 9w4; in its place
abbrev pub next_port : Syntax16
next_port = written_with (action16 (codes "out3") 4) apply_or_drop emitting

-- the deparser emits nothing
abbrev pub emitting_nothing : Syntax16
emitting_nothing = written_with to_port_3 apply_or_drop no_statements

-- t.apply(); without a question
abbrev pub not_asking : Syntax16
not_asking = written_with to_port_3 (only_statement table_applied) emitting
