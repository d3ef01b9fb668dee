-- Short names for the parts of a program.
use Rattle.std.specs.Prelude.{ℕ, List, [], ◌∷◌, Option, Some, None, codes}
use Rattle.p416_syntax.specs.declared.lexeme.Literal16.{Literal16}
use Rattle.p416_syntax.specs.declared.parts.Note.TheVariants as note
use Rattle.p416_syntax.specs.declared.parts.Type16.{Type16}
use Rattle.p416_syntax.specs.declared.parts.Type16.TheVariants.{Bit, Named}
use Rattle.p416_syntax.specs.declared.parts.Direction.{Direction}
use Rattle.p416_syntax.specs.declared.parts.Param.{Param}
use Rattle.p416_syntax.specs.declared.parts.BitField.{BitField}
use Rattle.p416_syntax.specs.declared.parts.StructField.{StructField}
use Rattle.p416_syntax.specs.declared.parsers.Target.TheVariants as target
use Rattle.p416_syntax.specs.declared.parsers.Transition.{Transition}
use Rattle.p416_syntax.specs.declared.parsers.Transition.TheVariants as transition
use Rattle.p416_syntax.specs.declared.parsers.State.{State}
use Rattle.p416_syntax.specs.declared.controls.ActionName.{ActionName}
use Rattle.p416_syntax.specs.declared.controls.ActionName.TheVariants as action_name
use Rattle.p416_syntax.specs.declared.controls.Local.{Local}
use Rattle.p416_syntax.specs.declared.controls.Local.TheVariants as local
use Rattle.p416_syntax.specs.declared.controls.TableKey.{TableKey}
use Rattle.p416_syntax.specs.declared.controls.Property.{Property}
use Rattle.p416_syntax.specs.declared.node.BinaryOperator.TheVariants.{Equal}
use Rattle.p416_syntax.specs.Tree.{Exp16, literal, error, name, member, slice, call, binary, listed, no_arguments, argument, Stmt16, no_statements, then, expression}
use Rattle.p416_syntax.specs.Names.{Name}

-- numbers

abbrev pub number : ℕ → Literal16
number v = record { width = None; value = v }

abbrev pub sized : ℕ → ℕ → Literal16
sized w v = record { width = Some w; value = v }

-- WwV
abbrev pub n : ℕ → ℕ → Exp16
n w v = literal (sized w v)

-- V
abbrev pub plain : ℕ → Exp16
plain v = literal (number v)

-- declarations

abbrev pub bit_field : ℕ → Name → BitField
bit_field w called = record { width = number w; name = called }

abbrev pub named : Name → Type16
named text = Named text None

abbrev pub bits_type : ℕ → Type16
bits_type w = Bit (number w)

abbrev pub struct_field : Type16 → Name → StructField
struct_field t called = record { notes = []; of = t; name = called }

abbrev pub listed_field : ℕ → Type16 → Name → StructField
listed_field list t called = record { notes = note.FieldList (number list ∷ []) ∷ []; of = t; name = called }

abbrev pub param : Option Direction → Type16 → Name → Param
param d t called = record { direction = d; of = t; name = called }

abbrev pub action : Name → List Param → Stmt16 → Local
action called parameters body =
    local.Action (record { notes = []; name = called; parameters = parameters; body = body })

abbrev pub table : Name → List Property → Local
table called properties = local.Table (record { notes = []; name = called; properties = properties })

abbrev pub key : Exp16 → Name → TableKey
key e kind = record { exp = e; kind = kind; notes = [] }

abbrev pub an_action : Name → ActionName
an_action text = action_name.Declared text

-- expressions

abbrev pub var : Name → Exp16
var text = name text

-- `hdr.h`, `hdr.h.F`, `sm.F`, `meta.F`
abbrev pub hdr : Name → Exp16
hdr text = member (name (codes "hdr")) text

abbrev pub field : Name → Name → Exp16
field header text = member (hdr header) text

abbrev pub sm : Name → Exp16
sm text = member (name (codes "sm")) text

abbrev pub meta : Name → Exp16
meta text = member (name (codes "meta")) text

-- `sm.F[7:0]`
abbrev pub sm_octet : Name → Exp16
sm_octet text = slice (sm text) (number 7) (number 0)

-- `sm.instance_type == 32wKIND`
abbrev pub is_kind : ℕ → Exp16
is_kind kind = binary Equal (sm (codes "instance_type")) (n 32 kind)

-- `sm.parser_error == error.X`
abbrev pub is_error : Name → Exp16
is_error x = binary Equal (sm (codes "parser_error")) (member error x)

-- argument lists
abbrev pub given_behind : Exp16 → List Exp16 → Exp16
given_behind before [] = before
given_behind before (e ∷ es) = given_behind (argument before e) es

abbrev pub given : List Exp16 → Exp16
given es = given_behind no_arguments es

-- `e.METHOD(..)` and `NAME(..)`
abbrev pub method : Exp16 → Name → List Exp16 → Exp16
method e word es = call (member e word) (given es)

abbrev pub calls : Name → List Exp16 → Exp16
calls text es = call (name text) (given es)

-- statements
abbrev pub behind : Stmt16 → List Stmt16 → Stmt16
behind before [] = before
behind before (x ∷ rest) = behind ((then) before x) rest

abbrev pub statements : List Stmt16 → Stmt16
statements xs = behind no_statements xs

abbrev pub does : Exp16 → Stmt16
does e = expression e

-- `p.extract(e);`
abbrev pub extract : Exp16 → Stmt16
extract e = does (method (name (codes "p")) (codes "extract") (e ∷ []))

abbrev pub emit : Exp16 → Stmt16
emit e = does (method (name (codes "p")) (codes "emit") (e ∷ []))

abbrev pub drops_it : Stmt16
drops_it = does (calls (codes "mark_to_drop") (var (codes "sm") ∷ []))

-- `HashAlgorithm.A`
abbrev pub algorithm : Name → Exp16
algorithm text = member (name (codes "HashAlgorithm")) text

-- `hash(TO, HashAlgorithm.A, BASE, { ITEMS }, BOUND);`
abbrev pub hashes : Exp16 → Name → Exp16 → List Exp16 → Exp16 → Stmt16
hashes to text base items bound =
    does (calls (codes "hash") (to ∷ algorithm text ∷ base ∷ listed (given items) ∷ bound ∷ []))

-- `clone_preserving_field_list(CloneType.X, 32wSESSION, 8wLIST);`
abbrev pub clones_to : Name → ℕ → ℕ → Stmt16
clones_to x session list =
    does (calls (codes "clone_preserving_field_list") (member (name (codes "CloneType")) x ∷ n 32 session ∷ n 8 list ∷ []))

-- `resubmit_preserving_field_list(8wLIST);`
abbrev pub resubmits_with : ℕ → Stmt16
resubmits_with list = does (calls (codes "resubmit_preserving_field_list") (n 8 list ∷ []))

-- `recirculate_preserving_field_list(8wLIST);`
abbrev pub recirculates_with : ℕ → Stmt16
recirculates_with list = does (calls (codes "recirculate_preserving_field_list") (n 8 list ∷ []))

-- states
abbrev pub state : Name → List Stmt16 → Transition → State
state called body t = record { name = called; body = statements body; transition = t }

abbrev pub accept : Transition
accept = transition.Go target.Accept

abbrev pub goes_to : Name → Transition
goes_to text = transition.Go (target.State text)
