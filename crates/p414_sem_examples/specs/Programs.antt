-- The programs of the examples.
use Rattle.std.specs.Prelude.{List, [], ◌∷◌, map, Some, None, codes}
use Rattle.p414_syntax.specs.declared.parts.Index.TheVariants.{Next}
use Rattle.p414_syntax.specs.declared.parts.Inst.{Inst}
use Rattle.p414_syntax.specs.declared.headers.Field.{Field}
use Rattle.p414_syntax.specs.declared.actions.Call.{Call}
use Rattle.p414_syntax.specs.declared.calculations.Item.TheVariants as item
use Rattle.p414_syntax.specs.declared.objects.CounterType.TheVariants.{Packets}
use Rattle.p414_syntax.specs.declared.objects.StateAttr.TheVariants as state_attr
use Rattle.p414_syntax.specs.declared.parsers.PValue.TheVariants as pvalue
use Rattle.p414_syntax.specs.declared.parsers.CaseValues.TheVariants as case_values
use Rattle.p414_syntax.specs.declared.parsers.CaseTarget.TheVariants as case_target
use Rattle.p414_syntax.specs.declared.parsers.Case.{Case}
use Rattle.p414_syntax.specs.declared.parsers.Return.TheVariants as end_of
use Rattle.p414_syntax.specs.declared.syntax.Decl.{Decl}
use Rattle.p414_syntax.specs.declared.syntax.Decl.TheVariants as decl
use Rattle.p414_syntax.specs.Tree.{Stmt, apply, no_statements}
use Rattle.p414_syntax.specs.Arguments.{actions, invocations_of}
use Rattle.p414_syntax.specs.Expansion.{lists, items_in}
use Rattle.p414_sem.specs.Expanded.{Expanded}
use Rattle.p414_sem_examples.specs.Parts.{plain, field, saturating, named, call, at, to_port_3, type, header, state, action, table}

-- What a program comes to whose actions call primitives alone, whose lists hold fields alone, and that has one header and
-- no control `egress`.
abbrev pub simply : List Decl → Stmt → Expanded
simply ds ingress = record {
  actions = map invocations_of (actions ds);
  lists = map items_in (lists ds);
  ingress = ingress;
  egress = no_statements;
  order = 0 ∷ [];
}

-- One header f of the fields x of 16 bits, y and z of 8, of which y may be saturating. The one table t without keys runs
-- the action act, which sends to port 3 and then does these calls.
abbrev pub four : Field → List Call → List Decl → List Decl
four y calls objects =
    type (codes "four_t") (field (codes "x") 16 ∷ y ∷ field (codes "z") 8 ∷ [])
    ∷ header (codes "four_t") (codes "f")
    ∷ state (codes "start") (named (codes "f")) (end_of.State (codes "ingress"))
    ∷ action (codes "act") [] (to_port_3 ∷ calls)
    ∷ table (codes "t") (codes "act")
    ∷ objects

abbrev pub p3 : List Call → List Decl
p3 calls = four (field (codes "y") 8) calls []

abbrev pub p3_saturating : List Call → List Decl
p3_saturating calls = four (saturating (codes "y") 8) calls []

abbrev pub applies_t : Stmt
applies_t = apply (codes "t")

-- a register r of one cell of 8 bits, and a meter m of one index
abbrev pub register_r : Decl
register_r =
    decl.Register (record {
      name = codes "r";
      attributes = state_attr.Width (plain 8) ∷ state_attr.InstanceCount (plain 1) ∷ [];
    })

abbrev pub meter_m : Decl
meter_m =
    decl.Meter (record {
      name = codes "m";
      attributes = state_attr.Counts Packets ∷ state_attr.InstanceCount (plain 1) ∷ [];
    })

-- a calculation c, `identity` of 16 bits, over the list l of f.x
abbrev pub list_l : Decl
list_l =
    decl.FieldList (record {
      name = codes "l";
      items = item.Field (record { instance = named (codes "f"); field = codes "x" }) ∷ [];
    })

abbrev pub calculation_c : Decl
calculation_c =
    decl.FieldListCalculation (record {
      name = codes "c";
      input = codes "l" ∷ [];
      algorithm = codes "identity";
      output_width = plain 16;
    })

-- One header eth of the fields a and b of 48 bits and c of 16. The action out3 sends to port 3, and then exchanges a
-- and b as if no call saw the other.
abbrev pub swap : List Decl
swap =
    type (codes "eth_t") (field (codes "a") 48 ∷ field (codes "b") 48 ∷ field (codes "c") 16 ∷ [])
    ∷ header (codes "eth_t") (codes "eth")
    ∷ state (codes "start") (named (codes "eth")) (end_of.State (codes "ingress"))
    ∷ action (codes "out3") []
    (to_port_3
    ∷ call (codes "modify_field") (at (codes "eth") (codes "a") ∷ at (codes "eth") (codes "b") ∷ [])
    ∷ call (codes "modify_field") (at (codes "eth") (codes "b") ∷ at (codes "eth") (codes "a") ∷ [])
    ∷ [])
    ∷ table (codes "t") (codes "out3")
    ∷ []

-- A stack of two labels, whose parser extracts the next label until one has the bit bos.
abbrev pub next_label : Inst
next_label = record { name = codes "labels"; index = Some Next }

abbrev pub bos_is_1 : Case
bos_is_1 =
    record {
      values = case_values.Values (record { value = plain 1; mask = None } ∷ []);
      target = case_target.State (codes "ingress");
    }

abbrev pub else_start : Case
else_start = record { values = case_values.Default; target = case_target.State (codes "start") }

abbrev pub labels : List Decl
labels =
    type (codes "lab_t") (field (codes "v") 7 ∷ field (codes "bos") 1 ∷ [])
    ∷ decl.Header (record { header_type = codes "lab_t"; name = codes "labels"; size = Some (plain 2) })
    ∷ state (codes "start") next_label
    (end_of.Select (pvalue.Latest (codes "bos") ∷ []) (bos_is_1 ∷ else_start ∷ []))
    ∷ action (codes "out3") [] (to_port_3 ∷ [])
    ∷ table (codes "t") (codes "out3")
    ∷ []
