-- Of an accepted program `next` follows stacks alone (C4), and an action comes to primitives of the text, no call of which is wrong (C13).
use Rattle.std.proofs.Common.{◌≡◌, inl, inr, ℕ, ◌<◌, Bool, true, false, ◌||◌, ◌&&◌, Option, Some, None, List, [], ◌∷◌, length, slice_get, refl, sym, ap, ◌∙◌, subst, arith}
use Rattle.std.specs.Prelude.{option_and_then, unwrap_or}
use Rattle.std.specs.List.{AllByRecursion, list_any}
use Rattle.std.proofs.lemmas.Option.{slice_get_past}
use Rattle.p414_syntax.specs.declared.lexeme.Literal.{Literal}
use Rattle.p414_syntax.specs.declared.parts.Index.{Index}
use Rattle.p414_syntax.specs.declared.parts.Index.TheVariants.{Next}
use Rattle.p414_syntax.specs.declared.parts.Inst.{Inst}
use Rattle.p414_syntax.specs.declared.parsers.PStmt.{PStmt}
use Rattle.p414_syntax.specs.declared.parsers.PStmt.TheVariants as pstmt
use Rattle.p414_syntax.specs.declared.parsers.Parser.{Parser}
use Rattle.p414_syntax.specs.declared.syntax.Decl.{Decl}
use Rattle.p414_syntax.specs.declared.syntax.Decl.TheVariants as decl
use Rattle.p414_syntax.specs.declared.syntax.Sort.TheVariants as sort
use Rattle.p414_syntax.specs.Names.{Name, names_in, declared_in, number_of, numbered, is_declared}
use Rattle.p414_syntax.specs.Primitives.{is_standard}
use Rattle.p414_syntax.specs.Breaks.{BreaksNone, program_rules}
use Rattle.p414_syntax.specs.Arguments.{Invocation, actions}
use Rattle.p414_syntax.specs.Calls.{is_wrong_call}
use Rattle.p414_syntax.specs.Fields.{instance_of, is_instance, size_in, stack_size}
use Rattle.p414_syntax.specs.ParserGraph.{states, state_in, state_number, instance_number}
use Rattle.p414_syntax.specs.Stacks.{declares_bad_size, is_bad_extract, is_misplaced, has_bad_stack}
use Rattle.p414_syntax.specs.Uses.{of_extracted, last_behind, last_of, uses_of_statement, uses_of_statements, uses_of_return, uses_of, uses}
use Rattle.p414_sem.specs.Expanded.{Expanded, IsExpanded, primitives_at}
use Rattle.p414_sem.specs.Parsing.{state_named}
use Rattle.lower_laws_states.specs.Programs.{FitsStatement, StatesFit}
use Rattle.lower_laws_states.specs.Expansions.{Has, IsPrimitiveOf}
use Rattle.lower_laws_states.proofs.Named.{names_long}
use Rattle.lower_laws_states.proofs.Members.{has_left, has_right, has_joined, has_at, each_has, none_passes, neither, picked_has}
use Rattle.lower_laws_states.proofs.Rules.{none_twice, stacks_right, calls_right, expanded_right}
use Rattle.lower_laws_states.proofs.Declared.{is_there}
use Rattle.lower_laws_states.proofs.Expansion.{primitives_stand}
use Rattle.lower_laws_states.proofs.Written.{expanded_is_right, counts_fit}

-- what is extracted

extract_used : (i : Inst) (qs : List PStmt) (last : Option Inst) → Has qs (pstmt.Extract i) → Has (uses_of_statements last qs) (of_extracted i)
extract_used i [] last h = absurd h
extract_used i (q ∷ qs) last (inl e) = has_left (uses_of_statement last q) (uses_of_statements (last_behind last q) qs) (of_extracted i) (subst (λ (p : PStmt). Has (uses_of_statement last p) (of_extracted i)) (sym e) (inl refl))
extract_used i (q ∷ qs) last (inr h) = has_right (uses_of_statement last q) _ (of_extracted i) (extract_used i qs (last_behind last q) h)

pub declared_state : (d : Decl) (p : Parser) → state_in d ≡ Some p → d ≡ decl.Parser p
declared_state (decl.Parser x) p e = ap decl.Parser (cc e)
declared_state _ p e = absurd (cc e)

pub state_has : (ds : List Decl) (name : Name) (p : Parser) → state_named ds name ≡ Some p → Has ds (decl.Parser p)
state_has ds name p e = by (state_number ds name) e where
  by : (o : Option ℕ) → option_and_then (slice_get (states ds)) o ≡ Some p → Has ds (decl.Parser p)
  by None e = absurd (cc e)
  by (Some n) e = let d = picked_has state_in ds p (has_at (states ds) n p e) in subst (Has ds) (declared_state d.0 p d.2) d.1

pub instance_is : (ds : List Decl) (name : Name) (d : Decl) → numbered sort.Instance ds (instance_number ds name) ≡ Some d → instance_of ds name ≡ Some d
instance_is ds name d e = by (number_of sort.Instance ds name) e where
  by : (o : Option ℕ) → numbered sort.Instance ds (unwrap_or o (length (names_in sort.Instance ds))) ≡ Some d → option_and_then (numbered sort.Instance ds) o ≡ Some d
  by None e = absurd (cc (e, slice_get_past (declared_in sort.Instance ds) (length (names_in sort.Instance ds)) (omega (arith, names_long ds sort.Instance))))
  by (Some k) e = e

-- `next` follows a stack (C4)
extract_fits : (ds : List Decl) → has_bad_stack ds ≡ false → (i : Inst) → Has (uses ds) (of_extracted i) → FitsStatement ds (pstmt.Extract i)
extract_fits ds right i used next d is =
    let there = instance_is ds i.name d is in
    let judged : is_instance ds i.name && is_bad_extract (stack_size ds i.name) i.index ≡ false = none_passes (is_misplaced ds) (uses ds) (of_extracted i) (neither (list_any declares_bad_size ds) _ right).1 used in
    by (size_in d) (is_standard i.name || is_declared sort.Instance ds i.name) (declared_so (is_standard i.name) (is_there ds i.name d there))
    (ap (λ (o : Option Literal). is_instance ds i.name && is_bad_extract o (Some Next)) (sym (ap (λ (o : Option Decl). option_and_then size_in o) there)) ∙ (ap (λ (ix : Option Index). is_instance ds i.name && is_bad_extract (stack_size ds i.name) ix) (sym next) ∙ judged))
  where
    declared_so : (b : Bool) → is_declared sort.Instance ds i.name ≡ true → b || is_declared sort.Instance ds i.name ≡ true
    declared_so true e = refl
    declared_so false e = e

    by : (o : Option Literal) (b : Bool) → b ≡ true → b && is_bad_extract o (Some Next) ≡ false → (n : Literal) × (o ≡ Some n)
    by (Some n) b e f = (n, refl)
    by None true e f = absurd (cc f)
    by None false e f = absurd (cc e)

statement_fits : (ds : List Decl) → has_bad_stack ds ≡ false → (p : Parser) → Has ds (decl.Parser p) → (q : PStmt) → Has p.statements q → FitsStatement ds q
statement_fits ds right p declared (pstmt.SetMetadata r v) h = tt
statement_fits ds right p declared (pstmt.Extract i) h =
    extract_fits ds right i (has_joined uses_of ds (decl.Parser p) (of_extracted i) declared (has_left (uses_of_statements None p.statements) (uses_of_return (last_of None p.statements) p.end) (of_extracted i) (extract_used i p.statements None h)))

-- an accepted program

pub accepted_states : (ds : List Decl) → BreaksNone ds program_rules → StatesFit ds
accepted_states ds none name p e = each_has (FitsStatement ds) p.statements (statement_fits ds (stacks_right ds none) p (state_has ds name p e))

module _ (ds : List Decl) (none : BreaksNone ds program_rules) (x : Expanded) (is : IsExpanded ds x) where
  -- what an action comes to
  pub accepted_primitives : (n : ℕ) (lt : n < length (actions ds)) → AllByRecursion (IsPrimitiveOf ds (length (is.each_action n lt).action.parameters)) (primitives_at x n)
  accepted_primitives n lt = primitives_stand ds (counts_fit ds (none_twice ds none) (calls_right ds none)) n (primitives_at x n) (is.each_action n lt)

  -- and no call of it is wrong
  pub accepted_calls : (n : ℕ) → n < length (actions ds) → (i : Invocation) → Has (primitives_at x n) i → is_wrong_call ds i ≡ false
  accepted_calls n lt i h = none_passes (is_wrong_call ds) (primitives_at x n) i (expanded_is_right ds (expanded_right ds none) n (primitives_at x n) (is.each_action n lt)) h
