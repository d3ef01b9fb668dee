-- What is written for rows, which keep the calculations of hashes by number (this project's own; P4_14 1.0.5,
-- "Primitive Actions", "Checksums and Hash-value Generators"; `v1model.p4`, `hash`).
use Rattle.std.specs.Prelude.{ℕ, suc, ◌^◌, nat_lt, Bool, true, false, List, [], ◌∷◌, ◌++◌, Option, codes, if◌then◌else◌}
use Rattle.p414_sem.specs.Operations.{Source}
use Rattle.p414_slots.specs.Shown.{slot_in}
use Rattle.p414_ready_actions.specs.declared.rows.ReadyPrimitive.{ReadyPrimitive}
use Rattle.p414_ready_actions.specs.declared.rows.ReadyPrimitive.TheVariants as ready
use Rattle.p414_ready_actions.specs.Running.{shown_source, shown_element, shown}
use Rattle.p416_syntax.specs.declared.parts.Type16.TheVariants.{Bit}
use Rattle.p416_syntax.specs.Tree.{Exp16, literal, name, member, argument, listed, no_arguments, Stmt16, no_statements, then, var, assign}
use Rattle.p416_syntax.specs.Names.{Name}
use Rattle.lower_laws_base.specs.Context.{Words, At, now, entry, object_at}
use Rattle.lower_laws_base.specs.Mirror.{plain, sized, slot_exp, source_exp, part_exp, method_stmt, guarded, copies_stmt}
use Rattle.lower_laws_actions.specs.Mirror.{own_exp, function_stmt, object_stmt, add_stmt, request_stmt, one_argument, two_arguments, hash_stmt, algorithm_width, front, rest, behind_stmts, counts_first}
use Rattle.lower_rows.specs.declared.calculations.HashItem.{HashItem}
use Rattle.lower_rows.specs.declared.calculations.HashItem.TheVariants as item
use Rattle.lower_rows.specs.declared.calculations.CalculationRow.{CalculationRow}
use Rattle.lower_expressions.specs.declared.table.WordsTable.{WordsTable}
use Rattle.lower_expressions.specs.Table.{words_in}
use Rattle.lower_rows.specs.Calculations.{calculation_at}

-- hashes, as in the mirror

-- an item of a calculation
abbrev pub row_item_exp : Words → At → HashItem → Exp16
row_item_exp w at (item.Number width value) = literal (sized width value)
row_item_exp w at (item.Field slot) = slot_exp w at (slot_in slot)
row_item_exp w at item.Other = no_arguments

-- items, joined behind an expression
abbrev pub row_items_exp : Words → At → Exp16 → List HashItem → Exp16
row_items_exp w at given [] = given
row_items_exp w at given (i ∷ items) = row_items_exp w at (argument given (row_item_exp w at i)) items

-- a hash into what is named
abbrev pub hash_of : Exp16 → Name → Exp16 → Exp16 → Exp16 → Stmt16
hash_of to algorithm base items bound =
    function_stmt (codes "hash")
    (argument (argument (argument (argument (argument no_arguments to) (member (name (codes "HashAlgorithm")) algorithm)) base) (listed items)) bound)

-- a variable behind a statement, and a hash into it
abbrev pub filled_stmt : Stmt16 → ℕ → Name → Name → Exp16 → Exp16 → Exp16 → Stmt16
filled_stmt x width to algorithm base items bound = (then) ((then) x (var (Bit (plain width)) to)) (hash_of (name to) algorithm base items bound)

-- the result of a hash, cut to the bits of its calculation
abbrev pub row_cut_stmts : Words → At → Name → CalculationRow → List Stmt16
row_cut_stmts w at to row =
    var (Bit (plain row.width)) to
    ∷ hash_stmt to row.algorithm (literal (sized 1 0)) (row_items_exp w at no_arguments row.items) (literal (sized (suc row.width) (2 ^ row.width))) ∷ []

-- a hash and what becomes of its result
abbrev pub row_hash_stmts : Words → At → ℕ → ℕ → Source → CalculationRow → Source → Bool → List Stmt16
row_hash_stmts w at K width base row bound false =
    var (Bit (plain width)) (w.spare K 0)
    ∷ hash_stmt (w.spare K 0) row.algorithm (own_exp w at base) (row_items_exp w at no_arguments row.items) (own_exp w at bound) ∷ []
row_hash_stmts w at K width base row bound true =
    row_cut_stmts w at (w.spare K 1) row
    ++ var (Bit (plain width)) (w.spare K 0)
    ∷ hash_stmt (w.spare K 0) (codes "identity") (own_exp w at base) (argument no_arguments (name (w.spare K 1))) (own_exp w at bound) ∷ []

-- the front of a row, and its rest

-- what a primitive reads first
abbrev pub row_front : WordsTable → At → ℕ → ReadyPrimitive → List Stmt16
row_front t at K (ready.Hash target base calculation bound) =
    let row = calculation_at t.calculations.now calculation in
    row_hash_stmts (words_in t) at K target.width (shown_source base) row (shown_source bound) (nat_lt row.width (algorithm_width row.algorithm))
row_front t at K row = front [] (words_in t) at K (shown row)

-- what it does behind that
abbrev pub row_rest : WordsTable → At → ℕ → ReadyPrimitive → List Stmt16
row_rest t at K (ready.Hash target base calculation bound) =
    let w = words_in t in guarded w at (slot_in target.slot) (assign (slot_exp w now (slot_in target.slot)) (name (w.spare K 0))) ∷ []
row_rest t at K row = rest (words_in t) at K (shown row)

-- the one statement of what is no write, no hash, no move of a stack and no meter
abbrev pub single_stmt : WordsTable → At → ReadyPrimitive → Stmt16
single_stmt t at (ready.AddHeader h) = add_stmt (words_in t) at (shown_element h)
single_stmt t at (ready.RemoveHeader h) = method_stmt (part_exp (words_in t) now (shown_element h)) (codes "setInvalid")
single_stmt t at (ready.CopyHeader h from) = assign (part_exp (words_in t) now (shown_element h)) (part_exp (words_in t) at (shown_element from))
single_stmt t at (ready.Count object index) = object_stmt (words_in t) object (codes "count") (one_argument (source_exp (words_in t) at 32 (shown_source index)))
single_stmt t at (ready.WriteCell object index value) =
    object_stmt (words_in t) object (codes "write") (two_arguments (source_exp (words_in t) at 32 (shown_source index)) (source_exp (words_in t) at (object_at (words_in t).objects object).width (shown_source value)))
single_stmt t at (ready.Ask kind session list) = request_stmt (words_in t) at kind (shown_source session) list
single_stmt t at row = no_statements

-- a primitive by itself
abbrev pub row_stmts : WordsTable → At → ℕ → ReadyPrimitive → List Stmt16
row_stmts t at K row = row_front t at K row ++ row_rest t at K row
