-- A router: one exact header behind another, a longest prefix, a parameter of an action, a direct counter, and a checksum
-- that is verified and updated.
use Rattle.std.specs.Prelude.{ℕ, List, [], ◌∷◌, map, Some, None, codes}
use Rattle.match_core.specs.declared.entries.KeyMatch.TheVariants.{Lpm}
use Rattle.match_core.specs.declared.entries.Entry.{Entry}
use Rattle.match_core.specs.declared.entries.Entries.{Entries}
use Rattle.match_core.specs.Stores.{first_store}
use Rattle.p414_syntax.specs.declared.node.BinaryOperator.TheVariants.{And, Greater}
use Rattle.p414_syntax.specs.declared.calculations.Item.{Item}
use Rattle.p414_syntax.specs.declared.calculations.Item.TheVariants as item
use Rattle.p414_syntax.specs.declared.calculations.CalcUse.TheVariants.{Update, Verify}
use Rattle.p414_syntax.specs.declared.objects.CounterType.TheVariants.{Packets}
use Rattle.p414_syntax.specs.declared.objects.StateAttr.TheVariants as state_attr
use Rattle.p414_syntax.specs.declared.parsers.PValue.TheVariants as pvalue
use Rattle.p414_syntax.specs.declared.parsers.CaseValues.TheVariants as case_values
use Rattle.p414_syntax.specs.declared.parsers.CaseTarget.TheVariants as case_target
use Rattle.p414_syntax.specs.declared.parsers.Case.{Case}
use Rattle.p414_syntax.specs.declared.parsers.Return.TheVariants as end_of
use Rattle.p414_syntax.specs.declared.tables.ReadKey.TheVariants as read_key
use Rattle.p414_syntax.specs.declared.tables.TableAttr.TheVariants as table_attr
use Rattle.p414_syntax.specs.declared.syntax.Decl.{Decl}
use Rattle.p414_syntax.specs.declared.syntax.Decl.TheVariants as decl
use Rattle.p414_syntax.specs.declared.syntax.Rule14.TheVariants.{Sequential}
use Rattle.p414_syntax.specs.Tree.{Stmt, no_statements, then, apply, if_then, else_block, valid, number, binary}
use Rattle.p414_syntax.specs.Tree.{field as field_operand}
use Rattle.p414_syntax.specs.Names.{Name}
use Rattle.p414_syntax.specs.Arguments.{actions, invocations_of}
use Rattle.p414_syntax.specs.Expansion.{lists, items_in}
use Rattle.p414_sem.specs.Expanded.{Expanded}
use Rattle.p414_sem.specs.Controls.{Setting}
use Rattle.p414_sem.specs.Signatures.{signature14}
use Rattle.p414_sem_examples.specs.Parts.{plain, field, named, of, call, at, by_name, minus, type, header, state, action, table}
use Rattle.p414_sem_examples.specs.Packets.{Leaves, pass}

abbrev ipv4 : Name
ipv4 = codes "ipv4"

abbrev ipv4_item : Name → Item
ipv4_item name = item.Field (of ipv4 name)

abbrev list : Decl
list =
    decl.FieldList (record {
      name = codes "ipv4_list";
      items =
          ipv4_item (codes "version") ∷ ipv4_item (codes "ihl") ∷ ipv4_item (codes "diffserv")
          ∷ ipv4_item (codes "totalLen") ∷ ipv4_item (codes "identification") ∷ ipv4_item (codes "flags")
          ∷ ipv4_item (codes "fragOffset") ∷ ipv4_item (codes "ttl") ∷ ipv4_item (codes "protocol")
          ∷ ipv4_item (codes "srcAddr") ∷ ipv4_item (codes "dstAddr") ∷ [];
    })

abbrev sum_of_list : Decl
sum_of_list =
    decl.FieldListCalculation (record {
      name = codes "ipv4_sum";
      input = codes "ipv4_list" ∷ [];
      algorithm = codes "csum16";
      output_width = plain 16;
    })

abbrev checksum : Decl
checksum =
    decl.CalculatedField (record {
      field = of ipv4 (codes "hdrChecksum");
      entries =
          record { used_to = Verify; calculation = codes "ipv4_sum"; condition = None }
          ∷ record { used_to = Update; calculation = codes "ipv4_sum"; condition = None }
          ∷ [];
    })

abbrev is_ipv4 : Case
is_ipv4 =
    record {
      values = case_values.Values (record { value = plain 0x0800; mask = None } ∷ []);
      target = case_target.State (codes "parse_ipv4");
    }

abbrev otherwise : Case
otherwise = record { values = case_values.Default; target = case_target.State (codes "ingress") }

abbrev routes : Decl
routes =
    decl.Table (record {
      name = codes "routes";
      attributes =
          table_attr.Reads (record { key = read_key.Field (of ipv4 (codes "dstAddr")); mask = None; kind = codes "lpm" } ∷ [])
          ∷ table_attr.Actions (codes "route" ∷ codes "nowhere" ∷ [])
          ∷ table_attr.Size (plain 1024)
          ∷ table_attr.DefaultAction (codes "nowhere") (Some [])
          ∷ [];
    })

abbrev routed : Decl
routed =
    decl.Counter (record {
      name = codes "routed";
      attributes = state_attr.Counts Packets ∷ state_attr.Direct (codes "routes") ∷ [];
    })

abbrev pub router : List Decl
router =
    type (codes "ethernet_t") (field (codes "dst") 48 ∷ field (codes "src") 48 ∷ field (codes "kind") 16 ∷ [])
    ∷ type (codes "ipv4_t")
    (field (codes "version") 4 ∷ field (codes "ihl") 4 ∷ field (codes "diffserv") 8 ∷ field (codes "totalLen") 16
    ∷ field (codes "identification") 16 ∷ field (codes "flags") 3 ∷ field (codes "fragOffset") 13
    ∷ field (codes "ttl") 8 ∷ field (codes "protocol") 8 ∷ field (codes "hdrChecksum") 16
    ∷ field (codes "srcAddr") 32 ∷ field (codes "dstAddr") 32 ∷ [])
    ∷ header (codes "ethernet_t") (codes "ethernet")
    ∷ header (codes "ipv4_t") ipv4
    ∷ state (codes "start") (named (codes "ethernet"))
    (end_of.Select (pvalue.Latest (codes "kind") ∷ []) (is_ipv4 ∷ otherwise ∷ []))
    ∷ state (codes "parse_ipv4") (named ipv4) (end_of.State (codes "ingress"))
    ∷ list ∷ sum_of_list ∷ checksum
    ∷ action (codes "route") (codes "port" ∷ codes "mac" ∷ [])
    (call (codes "modify_field") (at (codes "standard_metadata") (codes "egress_spec") ∷ by_name (codes "port") ∷ [])
    ∷ call (codes "modify_field") (at (codes "ethernet") (codes "dst") ∷ by_name (codes "mac") ∷ [])
    ∷ call (codes "add_to_field") (at ipv4 (codes "ttl") ∷ minus 1 ∷ [])
    ∷ [])
    ∷ action (codes "nowhere") [] (call (codes "drop") [] ∷ [])
    ∷ routes
    ∷ table (codes "reject") (codes "nowhere")
    ∷ routed
    ∷ []

-- if (valid(ipv4) and ipv4.ttl > 1) { apply(routes); } else { apply(reject); }
abbrev routing : Stmt
routing =
    if_then
    (binary And (valid (named ipv4)) (binary Greater (field_operand (of ipv4 (codes "ttl"))) (number (plain 1))))
    (then no_statements (apply (codes "routes")))
    (else_block (then no_statements (apply (codes "reject"))))

abbrev router_expanded : Expanded
router_expanded = record {
  actions = map invocations_of (actions router);
  lists = map items_in (lists router);
  ingress = routing;
  egress = no_statements;
  order = 0 ∷ 1 ∷ [];
}

-- 192.168.0.0/24 => port 3, 02:00:00:00:00:07. By their names reject is the first table, and nowhere the first action.
abbrev route_entry : Entry
route_entry =
    record { keys = Lpm 0xc0a80000 24 ∷ []; priority = 0; action = 1; arguments = 3 ∷ 0x020000000007 ∷ [] }

abbrev one_route : Entries
one_route = record {
  tables =
      record { entries = []; default = None } ∷ record { entries = route_entry ∷ []; default = None } ∷ [];
  sessions = [];
  colours = [] ∷ [];
}

abbrev setting : Setting
setting = record { decls = router; expanded = router_expanded; rule = Sequential; entries = one_route }

-- what the router does with a packet
abbrev pub routed_packet : List ℕ → Leaves
routed_packet octets = pass setting (first_store (signature14 router) one_route) octets
