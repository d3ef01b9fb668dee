-- How parsing ends, what is read ahead, what a second parsing does, and what arguments of an inner action stand for.
use Rattle.std.proofs.Common.{◌≡◌, ℕ, List, [], ◌∷◌, map, Option, Some, None, refl}
use Rattle.std.specs.Prelude.{codes}
use Rattle.p4x_bits.specs.BitLists.{num, bits}
use Rattle.fabric.specs.Queue.{run}
use Rattle.p414_syntax.specs.declared.parts.Sign.TheVariants.{Minus}
use Rattle.p414_syntax.specs.declared.parts.Index.TheVariants.{At}
use Rattle.p414_syntax.specs.declared.actions.Action.{Action}
use Rattle.p414_syntax.specs.declared.actions.Arg.{Arg}
use Rattle.p414_syntax.specs.declared.actions.Arg.TheVariants as arg
use Rattle.p414_syntax.specs.declared.actions.Call.{Call}
use Rattle.p414_syntax.specs.declared.calculations.Item.TheVariants as item
use Rattle.p414_syntax.specs.declared.parsers.PStmt.{PStmt}
use Rattle.p414_syntax.specs.declared.parsers.PStmt.TheVariants as pstmt
use Rattle.p414_syntax.specs.declared.parsers.PValue.TheVariants as pvalue
use Rattle.p414_syntax.specs.declared.parsers.CaseValues.TheVariants as case_values
use Rattle.p414_syntax.specs.declared.parsers.CaseTarget.TheVariants as case_target
use Rattle.p414_syntax.specs.declared.parsers.Case.{Case}
use Rattle.p414_syntax.specs.declared.parsers.Return.{Return}
use Rattle.p414_syntax.specs.declared.parsers.Return.TheVariants as end_of
use Rattle.p414_syntax.specs.declared.syntax.Decl.{Decl}
use Rattle.p414_syntax.specs.declared.syntax.Decl.TheVariants as decl
use Rattle.p414_syntax.specs.declared.syntax.Rule14.{Rule14}
use Rattle.p414_syntax.specs.declared.syntax.Rule14.TheVariants.{Sequential, Parallel}
use Rattle.p414_syntax.specs.Arguments.{Invocation, argument_of, invocation_of, invocations_of}
use Rattle.p414_syntax.specs.ActionExpansion.{ActionExpands, NoCalls, OfPrimitive, OfAction, body_with}
use Rattle.p414_sem.specs.declared.parsed.Parsed.{Parsed}
use Rattle.p414_sem.specs.declared.parsed.Parsed.TheVariants.{OutOfPacket, OutOfBounds}
use Rattle.p414_sem.specs.Controls.{Setting}
use Rattle.p414_sem.specs.State.{new_state}
use Rattle.p414_sem.specs.Parsing.{parsed}
use Rattle.p414_sem.specs.Signatures.{signature14}
use Rattle.p414_sem.specs.Passes.{ingress14, reparse14, egress14}
use Rattle.p414_sem.specs.Runs.{Run14}
use Rattle.p414_sem_examples.specs.Parts.{plain, field, named, of, call, n, at, by_name, to_port_3, type, header, action, table}
use Rattle.p414_sem_examples.specs.Programs.{simply, p3, applies_t, next_label, labels}
use Rattle.p414_sem_examples.specs.Packets.{no_entries, setting, sent}

-- how parsing ends

abbrev ends_of : List Decl → List ℕ → Parsed
ends_of ds octets = (parsed ds (new_state ds octets 0 0)).end

-- A full stack is asked for before the octets are: both elements of the stack of labels are taken, and no octet is left.
is_full : ends_of labels (2 ∷ 4 ∷ []) ≡ OutOfBounds
unfolding num bits parsed
is_full = refl

is_short_and_not_full : ends_of labels (2 ∷ []) ≡ OutOfPacket
unfolding num bits parsed
is_short_and_not_full = refl

-- Values are read before a case is tried: select(current(0, 8)) with these cases, behind f.
abbrev leads_to_ingress : ℕ → Case
leads_to_ingress value =
    record {
      values = case_values.Values (record { value = plain value; mask = None } ∷ []);
      target = case_target.State (codes "ingress");
    }

abbrev always : Case
always = record { values = case_values.Default; target = case_target.State (codes "ingress") }

-- one header f, this parser, and a table t that runs the action act
abbrev parsing : List PStmt → Return → List Call → List Decl → List Decl
parsing statements end calls more =
    type (codes "four_t") (field (codes "x") 16 ∷ field (codes "y") 8 ∷ field (codes "z") 8 ∷ [])
    ∷ header (codes "four_t") (codes "f")
    ∷ decl.Parser (record { name = codes "start"; statements = statements; end = end })
    ∷ action (codes "act") [] (to_port_3 ∷ calls)
    ∷ table (codes "t") (codes "act")
    ∷ more

abbrev extracts_f : List PStmt
extracts_f = pstmt.Extract (named (codes "f")) ∷ []

abbrev looking : List Case → List Decl
looking cases = parsing extracts_f (end_of.Select (pvalue.Current (plain 0) (plain 8) ∷ []) cases) [] []

abbrev sends : List Decl → List ℕ → Option (ℕ × List ℕ)
sends ds octets = sent (setting ds (simply ds applies_t) Sequential []) octets

sees_what_is_ahead : sends (looking (leads_to_ingress 7 ∷ [])) (0x12 ∷ 0x34 ∷ 0 ∷ 0 ∷ 7 ∷ []) ≡ Some (3, 0x12 ∷ 0x34 ∷ 0 ∷ 0 ∷ 7 ∷ [])
unfolding num bits parsed signature14 ingress14 egress14
sees_what_is_ahead = refl

drops_another : sends (looking (leads_to_ingress 7 ∷ [])) (0x12 ∷ 0x34 ∷ 0 ∷ 0 ∷ 8 ∷ []) ≡ None
unfolding num bits parsed signature14 ingress14 egress14
drops_another = refl

sees_past_the_end : ends_of (looking (always ∷ [])) (0x12 ∷ 0x34 ∷ 0 ∷ 0 ∷ []) ≡ OutOfPacket
unfolding num bits parsed
sees_past_the_end = refl

-- extract(labels[0]); extract(labels[next]); a number moves no place, so both fill element 0
abbrev by_number : List Decl
by_number =
    type (codes "lab_t") (field (codes "v") 7 ∷ field (codes "bos") 1 ∷ [])
    ∷ decl.Header (record { header_type = codes "lab_t"; name = codes "labels"; size = Some (plain 2) })
    ∷ decl.Parser (record {
      name = codes "start";
      statements = pstmt.Extract (record { name = codes "labels"; index = Some (At (plain 0)) }) ∷ pstmt.Extract next_label ∷ [];
      end = end_of.State (codes "ingress");
    })
    ∷ action (codes "act") [] (to_port_3 ∷ [])
    ∷ table (codes "t") (codes "act")
    ∷ []

moves_no_place : sends by_number (7 ∷ 8 ∷ 9 ∷ []) ≡ Some (3, 8 ∷ 9 ∷ [])
unfolding num bits parsed signature14 ingress14 egress14
moves_no_place = refl

-- What ingress of the first pass preserves a clone's parsing sees: m.k is 1, and select(m.k) has the case 0 alone, so that the
-- clone is dropped. The packet itself leaves.
abbrev failing_clone : List Decl
failing_clone =
    parsing extracts_f (end_of.Select (pvalue.Field (of (codes "m") (codes "k")) ∷ []) (leads_to_ingress 0 ∷ []))
    (call (codes "modify_field") (at (codes "m") (codes "k") ∷ n 1 ∷ [])
    ∷ call (codes "clone_i2e") (n 7 ∷ by_name (codes "keep") ∷ []) ∷ [])
    (type (codes "m_t") (field (codes "k") 8 ∷ [])
    ∷ decl.Metadata (record { header_type = codes "m_t"; name = codes "m"; initials = None })
    ∷ decl.FieldList (record { name = codes "keep"; items = item.Field (of (codes "m") (codes "k")) ∷ [] })
    ∷ [])

abbrev with_session : List Decl → Setting
with_session ds = record {
  decls = ds;
  expanded = simply ds applies_t;
  rule = Sequential;
  entries =
      record {
        tables = map no_entries (signature14 ds).tables;
        sessions = record { number = 7; port = 9 } ∷ [];
        colours = [];
      };
}

drops_the_clone : (Run14 (with_session failing_clone) 8 (record { octets = 0x12 ∷ 0x34 ∷ 0 ∷ 0 ∷ []; port = 0; seconds = 0; fraction = 0 } ∷ [])).sent ≡ record { arrival = 0; port = 3; octets = 0x12 ∷ 0x34 ∷ 0 ∷ 0 ∷ [] } ∷ []
unfolding num bits parsed signature14 ingress14 reparse14 egress14 Run14 run
drops_the_clone = refl

-- sources

-- modify_field(f.y, standard_metadata.packet_length)
reads_length : sends (p3 (call (codes "modify_field") (at (codes "f") (codes "y") ∷ at (codes "standard_metadata") (codes "packet_length") ∷ []) ∷ [])) (0x12 ∷ 0x34 ∷ 0 ∷ 0 ∷ 9 ∷ []) ≡ Some (3, 0x12 ∷ 0x34 ∷ 5 ∷ 0 ∷ 9 ∷ [])
unfolding num bits parsed signature14 ingress14 egress14
reads_length = refl

-- modify_field(f.y, -4'1): a width cuts the number that it stands with, and the source is -1
abbrev minus_1_of_4_bits : Arg
minus_1_of_4_bits = arg.Number (record { sign = Some Minus; literal = record { width = Some 4; value = 1 } })

width_counts_nothing : sends (p3 (call (codes "modify_field") (at (codes "f") (codes "y") ∷ minus_1_of_4_bits ∷ []) ∷ [])) (0x12 ∷ 0x34 ∷ 0 ∷ 0 ∷ []) ≡ Some (3, 0x12 ∷ 0x34 ∷ 0xff ∷ 0 ∷ [])
unfolding num bits parsed signature14 ingress14 egress14
width_counts_nothing = refl

-- an inner action: inner(p) does these calls, and the action act sends to port 3 and calls inner with this argument

abbrev inner : List Call → Action
inner calls = record { name = codes "inner"; parameters = codes "p" ∷ []; calls = calls }

abbrev calling : List Call → Arg → List Decl
calling calls argument =
    parsing extracts_f (end_of.State (codes "ingress")) (call (codes "inner") (argument ∷ []) ∷ [])
    (decl.Action (inner calls) ∷ [])

abbrev to_port : Invocation
to_port = invocation_of [] to_port_3

-- what act comes to: the calls of inner, with the argument in the place of p
abbrev comes_to : List Call → Arg → List Invocation
comes_to calls argument = to_port ∷ body_with (argument_of [] argument ∷ []) (inner calls)

abbrev leaves : List Call → Arg → Rule14 → Option (ℕ × List ℕ)
leaves calls argument rule =
    let ds = calling calls argument in
    let x = record (simply ds applies_t) { actions = comes_to calls argument ∷ invocations_of (inner calls) ∷ [] } in
    sent (setting ds x rule []) (0x12 ∷ 0x34 ∷ 0 ∷ 0 ∷ [])

-- modify_field(f.y, 9); modify_field(f.z, p); of f.y: a field is read where the primitive stands
abbrev writes_and_reads : List Call
writes_and_reads =
    call (codes "modify_field") (at (codes "f") (codes "y") ∷ n 9 ∷ [])
    ∷ call (codes "modify_field") (at (codes "f") (codes "z") ∷ by_name (codes "p") ∷ []) ∷ []

expands : ActionExpands (calling writes_and_reads (at (codes "f") (codes "y"))) 0 (comes_to writes_and_reads (at (codes "f") (codes "y")))
expands = record {
  action = record { name = codes "act"; parameters = []; calls = to_port_3 ∷ call (codes "inner") (at (codes "f") (codes "y") ∷ []) ∷ [] };
  numbered = refl;
  expands =
      OfPrimitive _ _ _ refl
      (OfAction _ _ _ _ (inner writes_and_reads) refl (OfPrimitive _ _ _ refl (OfPrimitive _ _ _ refl NoCalls)) NoCalls);
}

reads_where_it_stands : leaves writes_and_reads (at (codes "f") (codes "y")) Sequential ≡ Some (3, 0x12 ∷ 0x34 ∷ 9 ∷ 9 ∷ [])
unfolding num bits parsed signature14 ingress14 egress14
reads_where_it_stands = refl

reads_the_entry : leaves writes_and_reads (at (codes "f") (codes "y")) Parallel ≡ Some (3, 0x12 ∷ 0x34 ∷ 9 ∷ 0 ∷ [])
unfolding num bits parsed signature14 ingress14 egress14
reads_the_entry = refl

-- shift_right(f.y, p, 4); of 0x1234, which isn't cut to 8 bits
cuts_no_argument : leaves (call (codes "shift_right") (at (codes "f") (codes "y") ∷ by_name (codes "p") ∷ n 4 ∷ []) ∷ []) (n 0x1234) Sequential ≡ Some (3, 0x12 ∷ 0x34 ∷ 0x23 ∷ 0 ∷ [])
unfolding num bits parsed signature14 ingress14 egress14
cuts_no_argument = refl
