-- The rows of a program that breaks no rule are kept by its layout.
use Rattle.std.proofs.Common.{◌≡◌, ℕ, ◌+◌, ◌^◌, ◌<◌, ◌≤◌, Bool, true, false, ◌||◌, ◌&&◌, List, [], ◌∷◌, ◌++◌, length, map, flat_map, sum, Option, Some, None, Result, Ok, Err, option_map, is_some, subst, refl, sym, ap, ◌∙◌, pow_pos, arith}
use Rattle.std.specs.Prelude.{IfOk, option_and_then, unwrap_or, nat_eq, nat_lt, ℤ, pos, negsuc, sum_by}
use Rattle.std.specs.Bool.{IsTrue}
use Rattle.std.specs.List.{All, list_any}
use Rattle.std.proofs.Math.Bool.{or-true}
use Rattle.std.proofs.Math.Nat.{mod-lt}
use Rattle.std.proofs.lemmas.Bool.{or_parts}
use Rattle.std.proofs.lemmas.Bool.Decides.{nat_tests}
use Rattle.std.proofs.lemmas.List.Elements.{All-cons, All-nil, All-append}
use Rattle.std.proofs.lemmas.List.Folds.{list_any-append}
use Rattle.std.proofs.lemmas.List.Sums.{sum_by-cons}
use Rattle.p414_syntax.specs.declared.lexeme.Literal.{Literal}
use Rattle.p414_syntax.specs.declared.headers.Initial.{Initial}
use Rattle.p414_syntax.specs.declared.parts.Index.{Index}
use Rattle.p414_syntax.specs.declared.parts.Index.TheVariants as index
use Rattle.p414_syntax.specs.declared.parts.Inst.{Inst}
use Rattle.p414_syntax.specs.declared.parsers.Parser.{Parser}
use Rattle.p414_syntax.specs.declared.parsers.PStmt.{PStmt}
use Rattle.p414_syntax.specs.declared.parsers.PStmt.TheVariants as pstmt
use Rattle.p414_syntax.specs.declared.parsers.PValue.{PValue}
use Rattle.p414_syntax.specs.declared.parsers.PValue.TheVariants as pvalue
use Rattle.p414_syntax.specs.declared.parsers.Return.{Return}
use Rattle.p414_syntax.specs.declared.parsers.Return.TheVariants as end_of
use Rattle.p414_syntax.specs.declared.syntax.Decl.{Decl}
use Rattle.p414_syntax.specs.declared.syntax.Decl.TheVariants as decl
use Rattle.p414_syntax.specs.declared.syntax.Sort.TheVariants as sort
use Rattle.p414_syntax.specs.declared.syntax.Syntax14.{Syntax14}
use Rattle.p414_syntax.specs.Attributes.{initials_of}
use Rattle.p414_syntax.specs.Names.{Name, number_of, numbered, names_in}
use Rattle.p414_syntax.specs.Cells.{literal_value}
use Rattle.p414_syntax.specs.Primitives.{is_standard}
use Rattle.p414_syntax.specs.Fields.{is_instance, size_in, stack_size}
use Rattle.p414_syntax.specs.ParserGraph.{instance_number, states}
use Rattle.p414_syntax.specs.Selects.{joins_too_much, state_joins_too_much, value_bits, has_bad_select}
use Rattle.p414_syntax.specs.Stacks.{has_bad_stack, is_misplaced, is_bad_extract}
use Rattle.p414_syntax.specs.Twice.{declares_twice}
use Rattle.p414_syntax.specs.Uses.{of_extracted, uses_of, uses_of_statements, uses_of_statement, uses_of_return, last_behind, last_of}
use Rattle.p414_syntax.specs.Widths.{looks_too_far, statement_looks_too_far, return_looks_too_far, state_looks_too_far, has_bad_layout}
use Rattle.p414_syntax.specs.Breaks.{IsBroken}
use Rattle.p414_body_check.specs.Answers.{IsAccepted}
use Rattle.p414_sem.specs.Wholes.{whole, wrapped}
use Rattle.p414_sem.specs.Slots.{bits_of_ref}
use Rattle.p414_sem.specs.Packing.{widths_of}
use Rattle.p414_sem.specs.Parsing.{field_named}
use Rattle.p414_layout.specs.Placed.{total}
use Rattle.p414_layout.specs.Shapes.{count_by, last_place_by, element_count, last_place, layout_of, shape_at, shape_in}
use Rattle.p414_layout.proofs.Programs.{shape_numbered, total_is}
use Rattle.p414_ready_parser.specs.declared.parser.ReadyParser.{ReadyParser}
use Rattle.p414_ready_parser.specs.Rows.{value_row, statement_row, statement_rows, fixed_element, select_part, part_width, key_bits, end_row, state_row, initial_row, initials_in, ready_rows}
use Rattle.p414_parse_run.specs.Fits.{FitsValue, FitsExtract, FitsStatement, FitsPart, FitsEnd, FitsState, FitsInitial, FitsParser}
use Rattle.p414_parse_run.proofs.Widths.{are_widths, ref_bits, shape_past}

-- what a field keeps is below 2 ^ width
wrapped_below : (width : ℕ) (z : ℤ) → wrapped width z < 2 ^ width
wrapped_below width (pos n) = mod-lt n (pow_pos width)
wrapped_below width (negsuc n) = let some : 0 < 2 ^ width = pow_pos width in omega arith

not_less : (a b : ℕ) → nat_lt a b ≡ false → b ≤ a
not_less a b is = grind (arith, nat_tests)

-- values: no bits past the 128th are asked for

fits_value : (ds : List Decl) (latest : Option Inst) (width : ℕ) (v : PValue) → looks_too_far v ≡ false → FitsValue (value_row ds latest width v)
fits_value ds latest width (pvalue.Current offset bits) near =
    let parts = or_parts (nat_eq bits.value 0) (nat_lt 128 (offset.value + bits.value)) near in
    let within : offset.value + bits.value ≤ 128 = not_less 128 (offset.value + bits.value) parts.1 in
    omega arith
fits_value ds None width (pvalue.Latest field) near = _
fits_value ds (Some i) width (pvalue.Latest field) near = _
fits_value ds latest width (pvalue.Field r) near = _
fits_value ds latest width (pvalue.Number n) near = _

fits_parts : (ds : List Decl) (latest : Option Inst) (values : List PValue) → list_any looks_too_far values ≡ false → All FitsPart (map (select_part ds latest) values)
fits_parts ds latest [] near = All-nil FitsPart
fits_parts ds latest (v ∷ values) near =
    let parts = or_parts (looks_too_far v) (list_any looks_too_far values) near in
    All-cons FitsPart (select_part ds latest v) (map (select_part ds latest) values)
    (fits_value ds latest (value_bits ds latest v) v parts.0) (fits_parts ds latest values parts.1)

key_is : (ds : List Decl) (latest : Option Inst) (values : List PValue) → key_bits (map (select_part ds latest) values) ≡ sum_by (value_bits ds latest) values
key_is ds latest [] = refl
key_is ds latest (v ∷ values) =
    sum_by-cons (λ (x : ℕ). x) (value_bits ds latest v) (map part_width (map (select_part ds latest) values))
    ∙ ap (λ (n : ℕ). value_bits ds latest v + n) (key_is ds latest values)
    ∙ sym (sum_by-cons (value_bits ds latest) v values)

fits_end : (ds : List Decl) (latest : Option Inst) (end : Return) → return_looks_too_far end ≡ false → joins_too_much ds latest end ≡ false → FitsEnd (end_row ds latest end)
fits_end ds latest (end_of.Select values cases) near few =
    (fits_parts ds latest values near, rw (key_is ds latest values) (not_less 128 (sum_by (value_bits ds latest) values) few))
fits_end ds latest (end_of.State name) near few = _
fits_end ds latest (end_of.ParseError name) near few = _

-- extractions: `next` stands for an element of a stack alone

next_size : (o : Option Literal) → is_bad_extract o (Some index.Next) ≡ false → count_by (option_map literal_value o) ≤ last_place_by (option_map literal_value o)
next_size (Some n) good = omega arith
next_size None good = absurd (cc good)

next_declared : (ds : List Decl) (d : Decl) → is_bad_extract (size_in d) (Some index.Next) ≡ false → element_count (shape_in ds d) ≤ last_place (shape_in ds d)
next_declared ds (decl.Header x) good = next_size x.size good
next_declared ds (decl.Metadata x) good = absurd (cc good)
next_declared ds (decl.HeaderType x) good = absurd (cc good)
next_declared ds (decl.FieldList x) good = absurd (cc good)
next_declared ds (decl.FieldListCalculation x) good = absurd (cc good)
next_declared ds (decl.CalculatedField x) good = absurd (cc good)
next_declared ds (decl.Parser x) good = absurd (cc good)
next_declared ds (decl.Action x) good = absurd (cc good)
next_declared ds (decl.Table x) good = absurd (cc good)
next_declared ds (decl.Counter x) good = absurd (cc good)
next_declared ds (decl.Meter x) good = absurd (cc good)
next_declared ds (decl.Register x) good = absurd (cc good)
next_declared ds (decl.Control x) good = absurd (cc good)
next_declared ds (decl.LeftOut x) good = absurd (cc good)

next_numbered : (ds : List Decl) (n : ℕ) (o : Option Decl) → numbered sort.Instance ds n ≡ o → is_bad_extract (option_and_then size_in o) (Some index.Next) ≡ false → element_count (shape_at (layout_of ds) n) ≤ last_place (shape_at (layout_of ds) n)
next_numbered ds n (Some d) is good = rw (shape_numbered ds n d is) (next_declared ds d good)
next_numbered ds n None is good = absurd (cc good)

next_found : (ds : List Decl) (name : Name) (o : Option ℕ) → number_of sort.Instance ds name ≡ o → ((is_standard name || is_some o) && is_bad_extract (option_and_then size_in (option_and_then (numbered sort.Instance ds) o)) (Some index.Next)) ≡ false → element_count (shape_at (layout_of ds) (unwrap_or o (length (names_in sort.Instance ds)))) ≤ last_place (shape_at (layout_of ds) (unwrap_or o (length (names_in sort.Instance ds))))
next_found ds name None is good = rw (shape_past ds) (omega arith)
next_found ds name (Some n) is good =
    let there : (is_standard name || true) ≡ true = or-true (is_standard name) in
    next_numbered ds n (numbered sort.Instance ds n) refl
    (ap (λ (b : Bool). b && is_bad_extract (option_and_then size_in (numbered sort.Instance ds n)) (Some index.Next)) (sym there) ∙ good)

next_fits : (ds : List Decl) (name : Name) (o : Option Index) → (is_instance ds name && is_bad_extract (stack_size ds name) o) ≡ false → fixed_element o ≡ None → element_count (shape_at (layout_of ds) (instance_number ds name)) ≤ last_place (shape_at (layout_of ds) (instance_number ds name))
next_fits ds name (Some index.Next) good next = next_found ds name (number_of sort.Instance ds name) refl good
next_fits ds name (Some (index.At k)) good next = absurd (cc next)
next_fits ds name (Some index.Last) good next = absurd (cc next)
next_fits ds name None good next = absurd (cc next)

fits_extract : (ds : List Decl) (i : Inst) → is_misplaced ds (of_extracted i) ≡ false → FitsExtract (layout_of ds) (instance_number ds i.name) (fixed_element i.index) (sum (widths_of ds i.name))
fits_extract ds i good = record {
  whole = sym (total_is (widths_of ds i.name)) ∙ ap total (sym (are_widths ds i.name));
  next = next_fits ds i.name i.index good;
}

module _ (ds : List Decl) (once : declares_twice ds ≡ false) where
  -- statements

  fits_statement : (latest : Option Inst) (s : PStmt) → statement_looks_too_far s ≡ false → list_any (is_misplaced ds) (uses_of_statement latest s) ≡ false → FitsStatement (layout_of ds) (statement_row ds latest s)
  fits_statement latest (pstmt.Extract i) near good = fits_extract ds i (or_parts (is_misplaced ds (of_extracted i)) false good).0
  fits_statement latest (pstmt.SetMetadata r v) near good = (sym (ref_bits ds r once), fits_value ds latest (bits_of_ref ds r) v near)

  fits_statements : (latest : Option Inst) (ss : List PStmt) → list_any statement_looks_too_far ss ≡ false → list_any (is_misplaced ds) (uses_of_statements latest ss) ≡ false → All (FitsStatement (layout_of ds)) (statement_rows ds latest ss)
  fits_statements latest [] near good = All-nil (FitsStatement (layout_of ds))
  fits_statements latest (s ∷ ss) near good =
      let nears = or_parts (statement_looks_too_far s) (list_any statement_looks_too_far ss) near in
      let goods = or_parts (list_any (is_misplaced ds) (uses_of_statement latest s)) (list_any (is_misplaced ds) (uses_of_statements (last_behind latest s) ss))
      (sym (list_any-append (is_misplaced ds) (uses_of_statement latest s) (uses_of_statements (last_behind latest s) ss)) ∙ good) in
      All-cons (FitsStatement (layout_of ds)) (statement_row ds latest s) (statement_rows ds (last_behind latest s) ss)
      (fits_statement latest s nears.0 goods.0) (fits_statements (last_behind latest s) ss nears.1 goods.1)

  -- states

  fits_state : (p : Parser) → state_looks_too_far (decl.Parser p) ≡ false → state_joins_too_much ds (decl.Parser p) ≡ false → list_any (is_misplaced ds) (uses_of (decl.Parser p)) ≡ false → FitsState (layout_of ds) (state_row ds p)
  fits_state p near few good =
      let nears = or_parts (list_any statement_looks_too_far p.statements) (return_looks_too_far p.end) near in
      let goods = or_parts (list_any (is_misplaced ds) (uses_of_statements None p.statements)) (list_any (is_misplaced ds) (uses_of_return (last_of None p.statements) p.end))
      (sym (list_any-append (is_misplaced ds) (uses_of_statements None p.statements) (uses_of_return (last_of None p.statements) p.end)) ∙ good) in
      record {
        statements = fits_statements None p.statements nears.0 goods.0;
        end = fits_end ds (last_of None p.statements) p.end nears.1 few;
      }

  abbrev fits_more : List Decl → Type 0
  fits_more decls =
      list_any state_looks_too_far decls ≡ false → list_any (state_joins_too_much ds) decls ≡ false
      → list_any (is_misplaced ds) (flat_map uses_of decls) ≡ false → All (FitsState (layout_of ds)) (map (state_row ds) (states decls))

  -- what holds of all of these holds of those behind the first
  behind : (d : Decl) (decls : List Decl) → fits_more decls → (state_looks_too_far d || list_any state_looks_too_far decls) ≡ false → (state_joins_too_much ds d || list_any (state_joins_too_much ds) decls) ≡ false → list_any (is_misplaced ds) (uses_of d ++ flat_map uses_of decls) ≡ false → All (FitsState (layout_of ds)) (map (state_row ds) (states decls))
  behind d decls more near few good =
      more (or_parts (state_looks_too_far d) (list_any state_looks_too_far decls) near).1
      (or_parts (state_joins_too_much ds d) (list_any (state_joins_too_much ds) decls) few).1
      (or_parts (list_any (is_misplaced ds) (uses_of d)) (list_any (is_misplaced ds) (flat_map uses_of decls)) (sym (list_any-append (is_misplaced ds) (uses_of d) (flat_map uses_of decls)) ∙ good)).1

  fits_states : (decls : List Decl) → fits_more decls
  fits_states [] near few good = All-nil (FitsState (layout_of ds))
  fits_states (decl.Parser p ∷ decls) near few good =
      All-cons (FitsState (layout_of ds)) (state_row ds p) (map (state_row ds) (states decls))
      (fits_state p (or_parts (state_looks_too_far (decl.Parser p)) (list_any state_looks_too_far decls) near).0
      (or_parts (state_joins_too_much ds (decl.Parser p)) (list_any (state_joins_too_much ds) decls) few).0
      (or_parts (list_any (is_misplaced ds) (uses_of (decl.Parser p))) (list_any (is_misplaced ds) (flat_map uses_of decls)) (sym (list_any-append (is_misplaced ds) (uses_of (decl.Parser p)) (flat_map uses_of decls)) ∙ good)).0)
      (behind (decl.Parser p) decls (fits_states decls) near few good)
  fits_states (decl.Header x ∷ decls) near few good = behind (decl.Header x) decls (fits_states decls) near few good
  fits_states (decl.Metadata x ∷ decls) near few good = behind (decl.Metadata x) decls (fits_states decls) near few good
  fits_states (decl.HeaderType x ∷ decls) near few good = behind (decl.HeaderType x) decls (fits_states decls) near few good
  fits_states (decl.FieldList x ∷ decls) near few good = behind (decl.FieldList x) decls (fits_states decls) near few good
  fits_states (decl.FieldListCalculation x ∷ decls) near few good = behind (decl.FieldListCalculation x) decls (fits_states decls) near few good
  fits_states (decl.CalculatedField x ∷ decls) near few good = behind (decl.CalculatedField x) decls (fits_states decls) near few good
  fits_states (decl.Action x ∷ decls) near few good = behind (decl.Action x) decls (fits_states decls) near few good
  fits_states (decl.Table x ∷ decls) near few good = behind (decl.Table x) decls (fits_states decls) near few good
  fits_states (decl.Counter x ∷ decls) near few good = behind (decl.Counter x) decls (fits_states decls) near few good
  fits_states (decl.Meter x ∷ decls) near few good = behind (decl.Meter x) decls (fits_states decls) near few good
  fits_states (decl.Register x ∷ decls) near few good = behind (decl.Register x) decls (fits_states decls) near few good
  fits_states (decl.Control x ∷ decls) near few good = behind (decl.Control x) decls (fits_states decls) near few good
  fits_states (decl.LeftOut x ∷ decls) near few good = behind (decl.LeftOut x) decls (fits_states decls) near few good

  -- initial values

  fits_initials_of : (name : Name) (initials : List Initial) → All (FitsInitial (layout_of ds)) (map (initial_row ds name) initials)
  fits_initials_of name [] = All-nil (FitsInitial (layout_of ds))
  fits_initials_of name (i ∷ initials) =
      let field = field_named name i.field in
      All-cons (FitsInitial (layout_of ds)) (initial_row ds name i) (map (initial_row ds name) initials)
      (rw (ref_bits ds field once) (wrapped_below (bits_of_ref ds field) (whole i.value))) (fits_initials_of name initials)

  fits_initials : (decls : List Decl) → All (FitsInitial (layout_of ds)) (flat_map (initials_in ds) decls)
  fits_initials [] = All-nil (FitsInitial (layout_of ds))
  fits_initials (decl.Metadata x ∷ decls) =
      All-append (FitsInitial (layout_of ds)) (map (initial_row ds x.name) (initials_of x.initials)) (flat_map (initials_in ds) decls)
      (fits_initials_of x.name (initials_of x.initials)) (fits_initials decls)
  fits_initials (decl.Header x ∷ decls) = fits_initials decls
  fits_initials (decl.HeaderType x ∷ decls) = fits_initials decls
  fits_initials (decl.FieldList x ∷ decls) = fits_initials decls
  fits_initials (decl.FieldListCalculation x ∷ decls) = fits_initials decls
  fits_initials (decl.CalculatedField x ∷ decls) = fits_initials decls
  fits_initials (decl.Parser x ∷ decls) = fits_initials decls
  fits_initials (decl.Action x ∷ decls) = fits_initials decls
  fits_initials (decl.Table x ∷ decls) = fits_initials decls
  fits_initials (decl.Counter x ∷ decls) = fits_initials decls
  fits_initials (decl.Meter x ∷ decls) = fits_initials decls
  fits_initials (decl.Register x ∷ decls) = fits_initials decls
  fits_initials (decl.Control x ∷ decls) = fits_initials decls
  fits_initials (decl.LeftOut x ∷ decls) = fits_initials decls

  fits_rows : has_bad_stack ds ≡ false → has_bad_layout ds ≡ false → has_bad_select ds ≡ false → FitsParser (layout_of ds) (ready_rows ds)
  fits_rows stacks layouts selects = record {
    initials = fits_initials ds;
    states = fits_states ds
        (or_parts _ (list_any state_looks_too_far ds) layouts).1
        (or_parts _ (list_any (state_joins_too_much ds) ds) selects).1
        (or_parts _ (list_any (is_misplaced ds) (flat_map uses_of ds)) stacks).1;
  }

not_true : (b : Bool) → (IsTrue b → ⊥) → b ≡ false
not_true false never = refl
not_true true never = absurd (never refl)

-- C1, and C4 to C6: names are declared once, `next` stands with stacks, `current` and selects have 128 bits at most
pub rows_fit : (s : Syntax14) → IsAccepted s → FitsParser (layout_of s.decls) (ready_rows s.decls)
unfolding IsBroken
rows_fit s accepted =
    fits_rows s.decls (not_true (declares_twice s.decls) accepted.0)
    (not_true (has_bad_stack s.decls) accepted.1.1.1.0)
    (not_true (has_bad_layout s.decls) accepted.1.1.1.1.0)
    (not_true (has_bad_select s.decls) accepted.1.1.1.1.1.0)

-- rows that were made of such a program, if there was memory for them
pub ready_fits : {E : Type 0} (s : Syntax14) (made : Result ReadyParser E) → IsAccepted s → IfOk made (λ p. p ≡ ready_rows s.decls) → IfOk made (FitsParser (layout_of s.decls))
ready_fits s (Ok parser) accepted is = subst (FitsParser (layout_of s.decls)) (sym is) (rows_fit s accepted)
ready_fits s (Err e) accepted is = _

-- C1: no name is declared twice in its sort
pub names_once : (s : Syntax14) → IsAccepted s → declares_twice s.decls ≡ false
unfolding IsBroken
names_once s accepted = not_true (declares_twice s.decls) accepted.0
