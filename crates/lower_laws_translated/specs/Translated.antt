-- The whole program that is written for a program of P4_14 under one of its rules: types and objects as they are
-- declared, the parser, ingress and egress with copies of their actions and with their tables, the calculated fields,
-- and the deparser (this project's own; P4_14 1.0.5, "Actions", "Table Declarations", "Packet Processing and Control
-- Flow", "Checksums and Hash-value Generators"; P4_16 1.2, "Control blocks", "Actions", "Tables", "Control-plane API
-- annotations"; `v1model.p4`, `V1Switch`).
use Rattle.std.specs.Prelude.{ℕ, zero, suc, ◌+◌, ◌^◌, nat_lt, replicate, Bool, true, false, not, if◌then◌else◌, codes, List, [], ◌∷◌, ◌++◌, map, flat_map, filter, filter_map, slice_get, Option, None, option_map, option_and_then, unwrap_or}
use Rattle.std.specs.List.{list_any}
use Rattle.std.specs.Option.{option_map_or}
use Rattle.p414_syntax.specs.declared.actions.Action.{Action}
use Rattle.p414_syntax.specs.declared.tables.Table.{Table}
use Rattle.p414_syntax.specs.declared.syntax.Decl.{Decl}
use Rattle.p414_syntax.specs.declared.syntax.Sort.TheVariants as sort
use Rattle.p414_syntax.specs.declared.syntax.Rule14.{Rule14}
use Rattle.p414_syntax.specs.declared.syntax.Rule14.TheVariants as rule
use Rattle.p414_syntax.specs.Subtrees.{subtrees}
use Rattle.p414_syntax.specs.Tree.{Stmt}
use Rattle.p414_syntax.specs.Names.{Name, names_in, has_name}
use Rattle.p414_syntax.specs.Arguments.{actions, action_number}
use Rattle.p414_syntax.specs.Pipelines.{own_table}
use Rattle.p414_syntax.specs.Tables.{tables}
use Rattle.p414_sem.specs.Expanded.{Expanded, primitives_at}
use Rattle.p414_sem.specs.Operations.{Primitive}
use Rattle.p414_sem.specs.Signatures.{parameter_width, counts_entries_of, first_name, direct_counter, table_of}
use Rattle.p416_syntax.specs.declared.parts.Note.TheVariants as note
use Rattle.p416_syntax.specs.declared.parts.Param.{Param}
use Rattle.p416_syntax.specs.declared.controls.Action16.{Action16}
use Rattle.p416_syntax.specs.declared.controls.Table16.{Table16}
use Rattle.p416_syntax.specs.declared.controls.Local.{Local}
use Rattle.p416_syntax.specs.declared.controls.Local.TheVariants as local
use Rattle.p416_syntax.specs.declared.controls.Control16.{Control16}
use Rattle.v1_core.specs.Frames.{Owner}
use Rattle.agreement_of_meanings.specs.Shown.{NamedField}
use Rattle.lower_laws_names.specs.Made.{called, line}
use Rattle.lower_laws_names.specs.NewNames.{variable_letter, made_thing, new_name, parameter_thing}
use Rattle.lower_laws_names.specs.Reaches.{outer_name}
use Rattle.lower_laws_names.specs.Objects.{top_decls}
use Rattle.lower_laws_names.specs.Copies.{Copy, copies, in_pipeline, is_same_bit}
use Rattle.lower_laws_base.specs.Context.{Words, ObjectName}
use Rattle.lower_laws_actions.specs.Apart.{needs_copies}
use Rattle.lower_laws_actions.specs.Runs.{primitives_of}
use Rattle.lower_laws_actions.specs.Mirror.{body_stmt}
use Rattle.lower_laws_controls.specs.Controls.{Plan, block, control_stmt}
use Rattle.lower_laws_controls.specs.Guards.{guarded_stmt}
use Rattle.lower_laws_controls.specs.Written.{table_text}
use Rattle.lower_laws_sums.specs.Sums.{sums_stmt}
use Rattle.lower_laws_program.specs.Program.{Parts, root_name, bit_type, checksum_parameters, pipeline_parameters}
use Rattle.lower_laws_program.specs.Fits.{nothing_copied, nothing_spare, old_name}
use Rattle.lower_laws_program.specs.Controls.{old_locals}
use Rattle.lower_laws_declared.specs.Layout.{new_names_of, size_at, layout_shaped}
use Rattle.lower_laws_declared.specs.Objects.{objects_by_number}
use Rattle.lower_laws_declared.specs.Parser.{parser_written}
use Rattle.lower_laws_declared.specs.Controls.{plan_of, deparser_written}

-- The variables of the primitive K of an action: `got_vK_` for what a register or a hash gives, `cut_wK_` for a hash before its
-- cut, `colour_xK_` for a meter's colour. There are no others; the laws ask a name for whatever number, so the rest get names that
-- are longer than each new name.

-- a name for what no program has
abbrev pub far_name : ℕ → ℕ → Name
far_name K i = replicate 65 line ++ (replicate K 97 ++ replicate i 98)

-- the names of the variables of a primitive
abbrev pub near_name : ℕ → ℕ → Name
near_name K zero = called (made_thing variable_letter K (codes "got"))
near_name K (suc zero) = called (made_thing (variable_letter + 1) K (codes "cut"))
near_name K (suc (suc zero)) = called (made_thing (variable_letter + 2) K (codes "colour"))
near_name K i = far_name K i

-- a name for each variable of each primitive
abbrev pub spare_name : ℕ → ℕ → Name
spare_name K i = if nat_lt K (2 ^ 32) then near_name K i else far_name K i

-- a parameter of an action
abbrev pub parameter_of : NamedField → Param
parameter_of f = record { direction = None; of = bit_type f.width; name = f.called }

-- a table of a name that isn't declared
abbrev pub no_table : Name → Table
no_table name = record { name = name; attributes = [] }

-- the tables that statements apply
abbrev pub applied_in : Stmt → List Name
applied_in body = flat_map own_table (subtrees body)

module _ (ds : List Decl) where
  -- what is written with, under new names

  -- the words of the program with these copies, objects, variables and parameters
  abbrev pub words_with : (Owner → Name) → List ObjectName → (ℕ → ℕ → Name) → List NamedField → Words
  words_with copy objects spare parameters = record {
    names = new_names_of ds;
    size_of = size_at ds;
    root = root_name;
    copy = copy;
    objects = objects;
    spare = spare;
    parameters = parameters;
  }

  -- those of the body of an action
  abbrev pub action_words : List NamedField → Words
  action_words parameters = words_with old_name (objects_by_number ds) spare_name parameters

  -- those of the statements of ingress and egress
  abbrev pub pipeline_words : Words
  pipeline_words = words_with old_name (objects_by_number ds) nothing_spare []

  -- those of the blocks that verify and update
  abbrev pub checksum_words : Words
  checksum_words = words_with nothing_copied (objects_by_number ds) nothing_spare []

  -- the parameters of an action under their new names, of which the first has the number p
  abbrev pub parameters_from : ℕ → ℕ → List Name → List NamedField
  parameters_from action p [] = []
  parameters_from action p (name ∷ names) =
      record { called = called (parameter_thing ds p name); width = parameter_width ds action p } ∷ parameters_from action (p + 1) names

  -- the parameters of the action with this number under their new names
  abbrev pub new_parameters_of : ℕ → List NamedField
  new_parameters_of action = option_map_or (λ (a : Action). parameters_from action 0 a.parameters) (slice_get (actions ds) action) []

  -- the name of the table with this number
  abbrev pub table_called : ℕ → Name
  table_called number = option_map_or (λ (t : Table). t.name) (slice_get (tables ds) number) []

  -- the direct counter of a table under its new name
  abbrev pub counter_called : Name → Option Name
  counter_called table = option_map (new_name ds sort.Object) (first_name (filter_map (counts_entries_of table) ds))

  -- the number of the action that a copy copies
  abbrev pub number_in : Copy → ℕ
  number_in c = unwrap_or (action_number ds c.action) 0

  -- the direct counter that a copy counts, by its number
  abbrev pub counter_in : Copy → Option ℕ
  counter_in c = option_and_then (λ number. direct_counter ds (table_called number)) c.table

  module _ (x : Expanded) where
    -- the primitives of the action with this number, expanded
    abbrev pub primitives_in : ℕ → List Primitive
    primitives_in action = primitives_of ds x (primitives_at x action)

    -- A table stands in egress where egress applies it, and else in ingress.

    -- egress applies the table
    abbrev pub is_of_egress : Name → Bool
    is_of_egress table = has_name (applied_in x.egress) table

    -- the same by the table's number
    abbrev pub is_in_egress : ℕ → Bool
    is_in_egress number = is_of_egress (table_called number)

    -- the table stands in this pipeline
    abbrev pub stands_in : Bool → Name → Bool
    stands_in egress table = is_same_bit egress (is_of_egress table)

    -- the names of the tables of a pipeline
    abbrev pub tables_in : Bool → List Name
    tables_in egress = filter (stands_in egress) (names_in sort.Table ds)

    -- the copies of actions of a pipeline
    abbrev pub copies_in : Bool → List Copy
    copies_in egress = filter (in_pipeline egress) (copies ds is_in_egress)

    -- the new names of tables, and of the copies that they list
    abbrev pub plan : Plan
    plan = plan_of ds is_in_egress

    -- the table of this name
    abbrev pub table_written : Name → Table16
    table_written name = table_text pipeline_words ds (plan.copy name) (plan.table name) (counter_called name) (unwrap_or (table_of ds name) (no_table name))

    -- the calculated fields, which a block verifies or updates
    abbrev pub sums_written : Bool → Name → Control16
    sums_written updates text =
        record { name = text; parameters = checksum_parameters; locals = []; body = sums_stmt checksum_words ds x updates }

    module _ (under : Rule14) where
      -- a copy of an action, under `@name` of its name in P4_14
      abbrev pub action_written : Copy → Action16
      action_written c =
          let parameters = new_parameters_of (number_in c) in
          record {
            notes = note.Name c.action ∷ [];
            name = outer_name ds c.outer;
            parameters = map parameter_of parameters;
            body = body_stmt ds (action_words parameters) under (counter_in c) (primitives_in (number_in c));
          }

      -- Only a pipeline with an action that needs copies has the variables of the parallel rule.

      -- a copy of an action that needs copies of the block's parameters
      abbrev pub copy_needs : Copy → Bool
      copy_needs c = needs_copies ds under (primitives_in (number_in c))

      -- the rule by which a pipeline has its variables
      abbrev pub rule_in : Bool → Rule14
      rule_in egress = if list_any copy_needs (copies_in egress) then rule.Parallel else rule.Sequential

      -- what a pipeline declares behind its variables: copies of actions, and tables
      abbrev pub locals_in : Bool → List Local
      locals_in egress =
          map (λ (c : Copy). local.Action (action_written c)) (copies_in egress) ++ map (λ (name : Name). local.Table (table_written name)) (tables_in egress)

      -- ingress or egress; egress isn't asked for sums that are wrong
      abbrev pub pipeline_written : Bool → Name → Stmt → Control16
      pipeline_written egress text body = record {
        name = text;
        parameters = pipeline_parameters;
        locals = old_locals (rule_in egress) ++ locals_in egress;
        body = guarded_stmt pipeline_words (not egress) (control_stmt pipeline_words ds plan block body);
      }

      -- the program that is written, by its parts
      abbrev pub translated : Parts
      translated = record {
        types = top_decls ds x;
        parser = parser_written (layout_shaped ds []) ds;
        verify = sums_written false (codes "V");
        ingress = pipeline_written false (codes "I") x.ingress;
        egress = pipeline_written true (codes "E") x.egress;
        compute = sums_written true (codes "C");
        deparser = deparser_written (layout_shaped ds []) x;
      }
