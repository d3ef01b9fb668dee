-- What the lowering of a parser writes (this project's own; P4_14 1.0.5, "Parser Specification"; P4_16 1.2, "Parser
-- states", "Transition statements", "Select expressions", "Data extraction", "Packet lookahead", "Operations on header
-- stacks").
use Rattle.std.specs.Prelude.{ℕ, ◌+◌, Bool, true, false, is_some, List, [], ◌∷◌, map, sum, Option, Some, None, codes}
use Rattle.p414_syntax.specs.declared.parts.Index.{Index}
use Rattle.p414_syntax.specs.declared.parts.Index.TheVariants.{Next}
use Rattle.p414_syntax.specs.declared.parts.Inst.{Inst}
use Rattle.p414_syntax.specs.declared.parsers.PValue.{PValue}
use Rattle.p414_syntax.specs.declared.parsers.PValue.TheVariants as pvalue
use Rattle.p414_syntax.specs.declared.parsers.PStmt.{PStmt}
use Rattle.p414_syntax.specs.declared.parsers.PStmt.TheVariants as pstmt
use Rattle.p414_syntax.specs.declared.parsers.Return.{Return}
use Rattle.p414_syntax.specs.declared.parsers.Return.TheVariants as end_of
use Rattle.p414_syntax.specs.declared.parsers.Parser.{Parser}
use Rattle.p414_syntax.specs.declared.syntax.Decl.{Decl}
use Rattle.p414_syntax.specs.Names.{Name}
use Rattle.p414_syntax.specs.Selects.{value_bits}
use Rattle.p414_syntax.specs.Uses.{last_behind, last_of}
use Rattle.p414_syntax.specs.ParserGraph.{instance_number}
use Rattle.p414_sem.specs.Wholes.{whole}
use Rattle.p414_sem.specs.Slots.{slot_of, element_number, field_number, bits_of_ref}
use Rattle.p414_sem.specs.Operations.{number, field}
use Rattle.p414_sem.specs.Parsing.{state_named}
use Rattle.p416_syntax.specs.declared.node.BinaryOperator.TheVariants.{Concatenate}
use Rattle.p416_syntax.specs.declared.parts.Type16.TheVariants.{Bit}
use Rattle.p416_syntax.specs.declared.parsers.Target.{Target}
use Rattle.p416_syntax.specs.declared.parsers.Target.TheVariants as target
use Rattle.p416_syntax.specs.declared.parsers.Transition.{Transition}
use Rattle.p416_syntax.specs.declared.parsers.Transition.TheVariants as transition
use Rattle.p416_syntax.specs.declared.parsers.State.{State}
use Rattle.p416_syntax.specs.Tree.{Exp16, literal, name, member, call, lookahead, binary, no_arguments, argument, Stmt16, no_statements, then, assign, expression}
use Rattle.agreement_of_meanings.specs.Shown.{Shown, fields_of, field_at, shown_at}
use Rattle.agreement_of_meanings.specs.Lowered.{select_cases}
use Rattle.lower_laws_base.specs.Context.{Words, now}
use Rattle.lower_laws_base.specs.Mirror.{plain, sized, instance_exp, element_exp, slot_exp, resized, source_exp}

-- the new names: those of Words, of the packet, and of the states
pub record ParserWords : Type 0 where
  pub words : Words
  pub packet : Name
  pub state : Name → Name

module _ (ds : List Decl) (p : ParserWords) where
  -- how the instance with this name is shown
  abbrev pub shown_as : Name → Shown
  shown_as called = shown_at p.words.names.instances (instance_number ds called)

  -- what is extracted, and what was

  -- an element of an instance, where `next` is the member with this word ("Operations on header stacks")
  abbrev pub indexed : Name → Shown → Option Index → Exp16
  indexed word x (Some Next) = member (instance_exp p.words now x) word
  indexed word x other = element_exp p.words now x (element_number other)

  -- the header or the element that is extracted; `next` is that of the stack (P4_14, "Parser Specification";
  -- "Operations on header stacks", `next`)
  abbrev pub inst_exp : Inst → Exp16
  inst_exp i = indexed (codes "next") (shown_as i.name) i.index

  -- what was extracted last: of a stack its last element (P4_14, "Parser Specification", `latest`; "Operations on
  -- header stacks", `last`)
  abbrev pub latest_exp : Inst → Exp16
  latest_exp i = indexed (codes "last") (shown_as i.name) i.index

  -- the new name of a field of an instance
  abbrev pub field_called : Inst → Name → Name
  field_called i called = (field_at (fields_of (shown_as i.name)) (field_number ds i.name called)).called

  -- the bits of a field of an instance
  abbrev pub field_bits : Inst → Name → ℕ
  field_bits i called = (field_at (fields_of (shown_as i.name)) (field_number ds i.name called)).width

  -- values, as so many bits

  -- so many bits ahead ("Packet lookahead")
  abbrev pub ahead_exp : ℕ → Exp16
  ahead_exp bits = lookahead (name p.packet) (Bit (plain bits)) no_arguments

  -- a field of what was extracted last; 0 where nothing was, which no accepted program has
  abbrev pub latest_field : Option Inst → ℕ → Name → Exp16
  latest_field None width called = literal (sized width 0)
  latest_field (Some i) width called = resized (field_bits i called) width (member (latest_exp i) (field_called i called))

  -- a value: `current`, of whose lookahead the last bits are meant, `latest`, a field or a number (P4_14, "Parser
  -- Specification")
  abbrev pub value_exp : Option Inst → ℕ → PValue → Exp16
  value_exp last width (pvalue.Current offset bits) =
      resized bits.value width (resized (offset.value + bits.value) bits.value (ahead_exp (offset.value + bits.value)))
  value_exp last width (pvalue.Latest called) = latest_field last width called
  value_exp last width (pvalue.Field r) = source_exp p.words now width (field (slot_of ds r))
  value_exp last width (pvalue.Number n) = source_exp p.words now width (number (whole n))

  -- statements

  -- what `extract` of a header is written as ("Data extraction")
  abbrev pub extract_stmt : Exp16 → Stmt16
  extract_stmt e = expression (call (member (name p.packet) (codes "extract")) (argument no_arguments e))

  -- what is written for a statement of a state: an extraction, or an assignment for `set_metadata` (P4_14, "Parser
  -- Specification"; "Data extraction", "Assignment statement")
  abbrev pub stmt_of : Option Inst → PStmt → Stmt16
  stmt_of last (pstmt.Extract i) = extract_stmt (inst_exp i)
  stmt_of last (pstmt.SetMetadata r v) =
      assign (slot_exp p.words now (slot_of ds r)) (value_exp last (bits_of_ref ds r) v)

  -- what is written for the statements of a state, behind others
  abbrev pub body_of : Option Inst → Stmt16 → List PStmt → Stmt16
  body_of last x [] = x
  body_of last x (q ∷ qs) = body_of (last_behind last q) ((then) x (stmt_of last q)) qs

  -- selects: one joined key

  -- a value of a select, at its own width
  abbrev pub part_exp : Option Inst → PValue → Exp16
  part_exp last v = value_exp last (value_bits ds last v) v

  -- further values joined behind ("Operations on fixed-width bit types (unsigned integers)", `++`)
  abbrev pub key_from : Option Inst → Exp16 → List PValue → Exp16
  key_from last e [] = e
  key_from last e (v ∷ vs) = key_from last (binary Concatenate e (part_exp last v)) vs

  -- the key of a select, first value first
  abbrev pub key_exp : Option Inst → List PValue → Exp16
  key_exp last [] = no_arguments
  key_exp last (v ∷ vs) = key_from last (part_exp last v) vs

  -- the bits of the joined key
  abbrev pub width_of_key : Option Inst → List PValue → ℕ
  width_of_key last vs = sum (map (value_bits ds last) vs)

  -- the target of a name that a state has, or else that of the control `ingress`
  abbrev pub next_by : Bool → Name → Target
  next_by true called = target.State (p.state called)
  next_by false called = target.Accept

  -- the target of a name: a state under its new name, or accept
  abbrev pub next_of : Name → Target
  next_of called = next_by (is_some (state_named ds called)) called

  -- what is written for the end of a state ("Transition statements", "Select expressions")
  abbrev pub transition_of : Option Inst → Return → Transition
  transition_of last (end_of.Select vs cases) =
      transition.Select (key_exp last vs ∷ []) (select_cases (width_of_key last vs) next_of cases)
  transition_of last (end_of.State called) = transition.Go (next_of called)
  transition_of last (end_of.ParseError called) = transition.Go target.Reject

  -- what is written for a state ("Parser states")
  abbrev pub state_of : Parser → State
  state_of x = record {
    name = p.state x.name;
    body = body_of None no_statements x.statements;
    transition = transition_of (last_of None x.statements) x.end;
  }
