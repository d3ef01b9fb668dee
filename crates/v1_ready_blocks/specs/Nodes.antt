-- Which statements, and parts of statements, a list of nodes stands for, and which nodes fit the parts of a frame and the
-- objects of a program.
use Rattle.std.specs.Prelude.{ℕ, ◌+◌, ◌*◌, ◌^◌, ◌<◌, ◌≤◌, List, [], ◌∷◌, length, slice_index, Option, IfSome}
use Rattle.node_lists.specs.Trees.{tree_at, grow, AllInOrder}
use Rattle.state_store.specs.declared.shapes.Shape.{Shape}
use Rattle.state_store.specs.State.{IsCounterAt, IsRegisterAt, IsMeterAt}
use Rattle.v1_core.specs.Layouts.{Layout}
use Rattle.v1_core.specs.Ready.{Ready}
use Rattle.v1_core.specs.Nodes.{nothing as no_expression, ready_at, IsElement, IsWidth}
use Rattle.v1_ready_blocks.specs.declared.places.Slice.{Slice}
use Rattle.v1_ready_blocks.specs.declared.places.Target.{Target}
use Rattle.v1_ready_blocks.specs.declared.places.SlotPlace.{SlotPlace}
use Rattle.v1_ready_blocks.specs.declared.places.SlotPlace.TheVariants as slot_place
use Rattle.v1_ready_blocks.specs.declared.places.Range.{Range}
use Rattle.v1_ready_blocks.specs.declared.places.ToldRange.{ToldRange}
use Rattle.v1_ready_blocks.specs.declared.places.RangePlace.{RangePlace}
use Rattle.v1_ready_blocks.specs.declared.places.RangePlace.TheVariants as range_place
use Rattle.v1_ready_blocks.specs.declared.externs.Extern.{Extern}
use Rattle.v1_ready_blocks.specs.declared.externs.Extern.TheVariants as extern
use Rattle.v1_ready_blocks.specs.declared.nodes.Single.{Single}
use Rattle.v1_ready_blocks.specs.declared.nodes.Single.TheVariants as single
use Rattle.v1_ready_blocks.specs.declared.nodes.TestNode.{TestNode}
use Rattle.v1_ready_blocks.specs.declared.nodes.TestNode.TheVariants as test_node
use Rattle.v1_ready_blocks.specs.declared.nodes.SourceNode.{SourceNode}
use Rattle.v1_ready_blocks.specs.declared.nodes.SourceNode.TheVariants as source_node
use Rattle.v1_ready_blocks.specs.declared.nodes.ArgumentNode.{ArgumentNode}
use Rattle.v1_ready_blocks.specs.declared.nodes.ArgumentNode.TheVariants as argument_node
use Rattle.v1_ready_blocks.specs.declared.nodes.IncomingNode.{IncomingNode}
use Rattle.v1_ready_blocks.specs.declared.nodes.IncomingNode.TheVariants as incoming_node
use Rattle.v1_ready_blocks.specs.declared.nodes.OutgoingNode.{OutgoingNode}
use Rattle.v1_ready_blocks.specs.declared.nodes.OutgoingNode.TheVariants as outgoing_node
use Rattle.v1_ready_blocks.specs.declared.nodes.StatementNode.{StatementNode}
use Rattle.v1_ready_blocks.specs.declared.nodes.StatementNode.TheVariants as statement_node
use Rattle.v1_ready_blocks.specs.declared.nodes.Node.{Node}
use Rattle.v1_ready_blocks.specs.declared.nodes.Node.TheVariants as node
use Rattle.v1_ready_blocks.specs.Tests.{Test, plain, hits, misses, alone, both, either, pair, choice, Source, parts, chosen}
use Rattle.v1_ready_blocks.specs.Arguments.{Argument, a_value, an_item, Incoming, value_in, parts_in, zero_in, Outgoing, value_out, parts_out}
use Rattle.v1_ready_blocks.specs.Statements.{assign, assign_parts, set_valid, push_front, pop_front, extract_header, emit_headers, execute, apply, let_go, Statement, nothing, sequence, start, does, call, branch, switch, labelled, otherwise}

-- what stands at a place
pub data Tree : Type 0 where
  a_test : (of : Test) → Tree
  a_source : (of : Source) → Tree
  some_arguments : (of : List Argument) → Tree
  some_incoming : (of : List Incoming) → Tree
  some_outgoing : (of : List Outgoing) → Tree
  a_statement : (of : Statement) → Tree

abbrev pub no_tree : Tree
no_tree = a_statement nothing

abbrev pub at : List Tree → ℕ → Tree
at = tree_at no_tree

-- what a tree is, where it is that

abbrev pub as_test : Tree → Test
as_test (a_test of) = of
as_test _ = plain no_expression

abbrev pub no_range : Range
no_range = record { slot = 0; slots = 0; header = 0; headers = 0; stack = 0; stacks = 0 }

abbrev pub as_source : Tree → Source
as_source (a_source of) = of
as_source _ = parts (range_place.Fixed no_range)

abbrev pub as_arguments : Tree → List Argument
as_arguments (some_arguments of) = of
as_arguments _ = []

abbrev pub as_incoming : Tree → List Incoming
as_incoming (some_incoming of) = of
as_incoming _ = []

abbrev pub as_outgoing : Tree → List Outgoing
as_outgoing (some_outgoing of) = of
as_outgoing _ = []

abbrev pub as_statement : Tree → Statement
as_statement (a_statement of) = of
as_statement _ = nothing

abbrev pub test_at : List Tree → ℕ → Test
test_at ts i = as_test (at ts i)

abbrev pub source_at : List Tree → ℕ → Source
source_at ts i = as_source (at ts i)

abbrev pub arguments_at : List Tree → ℕ → List Argument
arguments_at ts i = as_arguments (at ts i)

abbrev pub incoming_at : List Tree → ℕ → List Incoming
incoming_at ts i = as_incoming (at ts i)

abbrev pub outgoing_at : List Tree → ℕ → List Outgoing
outgoing_at ts i = as_outgoing (at ts i)

abbrev pub statement_at : List Tree → ℕ → Statement
statement_at ts i = as_statement (at ts i)

-- the tree of a node, given the expressions and the trees before it

abbrev pub test_of : List Ready → List Tree → TestNode → Test
test_of es ts (test_node.Plain e) = plain (ready_at es e)
test_of es ts (test_node.Hits table) = hits table
test_of es ts (test_node.Misses table) = misses table
test_of es ts (test_node.Alone of a) = alone of (test_at ts a)
test_of es ts (test_node.Both a b) = both (test_at ts a) (test_at ts b)
test_of es ts (test_node.Either a b) = either (test_at ts a) (test_at ts b)
test_of es ts (test_node.Pair of a b) = pair of (test_at ts a) (test_at ts b)
test_of es ts (test_node.Choice c a b) = choice (test_at ts c) (test_at ts a) (test_at ts b)

abbrev pub source_of : List Tree → SourceNode → Source
source_of ts (source_node.Parts of) = parts of
source_of ts (source_node.Chosen c a b) = chosen (test_at ts c) (source_at ts a) (source_at ts b)

abbrev pub arguments_of : List Tree → ArgumentNode → List Argument
arguments_of ts argument_node.Nothing = []
arguments_of ts (argument_node.Value a rest) = a_value (test_at ts a) ∷ arguments_at ts rest
arguments_of ts (argument_node.Item a rest) = an_item (test_at ts a) ∷ arguments_at ts rest

abbrev pub incoming_of : List Tree → IncomingNode → List Incoming
incoming_of ts incoming_node.Nothing = []
incoming_of ts (incoming_node.Value to a rest) = value_in to (test_at ts a) ∷ incoming_at ts rest
incoming_of ts (incoming_node.Parts to a rest) = parts_in to (source_at ts a) ∷ incoming_at ts rest
incoming_of ts (incoming_node.Zero to rest) = zero_in to ∷ incoming_at ts rest

abbrev pub outgoing_of : List Tree → OutgoingNode → List Outgoing
outgoing_of ts outgoing_node.Nothing = []
outgoing_of ts (outgoing_node.Value from to rest) = value_out from to ∷ outgoing_at ts rest
outgoing_of ts (outgoing_node.Parts from to rest) = parts_out from to ∷ outgoing_at ts rest

abbrev pub statement_of : List Tree → StatementNode → Statement
statement_of ts statement_node.Nothing = nothing
statement_of ts (statement_node.Sequence a b) = sequence (statement_at ts a) (statement_at ts b)
statement_of ts (statement_node.Start r) = start r
statement_of ts (statement_node.Assign to slice a) = does (assign to slice (test_at ts a))
statement_of ts (statement_node.AssignParts to a) = does (assign_parts to (source_at ts a))
statement_of ts (statement_node.SetValid header on) = does (set_valid header on)
statement_of ts (statement_node.PushFront stack count) = does (push_front stack count)
statement_of ts (statement_node.PopFront stack count) = does (pop_front stack count)
statement_of ts (statement_node.Extract header) = does (extract_header header)
statement_of ts (statement_node.Emit a) = does (emit_headers (source_at ts a))
statement_of ts (statement_node.Execute what a) = does (execute what (arguments_at ts a))
statement_of ts (statement_node.Apply table) = does (apply table)
statement_of ts (statement_node.LetGo a) = does (let_go (test_at ts a))
statement_of ts (statement_node.Call action apart a b) = call action apart (incoming_at ts a) (outgoing_at ts b)
statement_of ts (statement_node.Branch c a b) = branch (test_at ts c) (statement_at ts a) (statement_at ts b)
statement_of ts (statement_node.Switch table a) = switch table (statement_at ts a)
statement_of ts (statement_node.Labelled action a b) = labelled action (statement_at ts a) (statement_at ts b)
statement_of ts (statement_node.Otherwise a) = otherwise (statement_at ts a)

abbrev pub tree_of : List Ready → List Tree → Node → Tree
tree_of es ts (node.Test of) = a_test (test_of es ts of)
tree_of es ts (node.Source of) = a_source (source_of ts of)
tree_of es ts (node.Argument of) = some_arguments (arguments_of ts of)
tree_of es ts (node.Incoming of) = some_incoming (incoming_of ts of)
tree_of es ts (node.Outgoing of) = some_outgoing (outgoing_of ts of)
tree_of es ts (node.Statement of) = a_statement (statement_of ts of)

-- nodes that fit

-- what statements are over: the parts of frames, the objects of the program, and how many expressions there are
pub record Ground : Type 0 where
  pub layout : Layout
  pub shapes : List Shape
  pub expressions : ℕ

abbrev pub IsSlot : Layout → ℕ → Type 0
IsSlot l slot = slot < length l.widths

-- 128 bits have this slice
pub record IsSlice (s : Slice) : Type 0 where
  pub some : 0 < s.width
  pub most : s.low + s.width ≤ 128

abbrev pub IsSliceOf : Option Slice → Type 0
IsSliceOf s = IfSome s IsSlice

pub record IsTarget (l : Layout) (t : Target) : Type 0 where
  pub slot : IsSlot l t.slot
  pub slice : IsSliceOf t.slice

abbrev pub IsSlotPlace : Layout → SlotPlace → Type 0
IsSlotPlace l (slot_place.Fixed slot) = IsSlot l slot
IsSlotPlace l (slot_place.Told e) = IsElement l (length l.widths) e

-- so many from a number on are among so many, and their numbers have 32 bits
pub record AreWithin (first count all : ℕ) : Type 0 where
  pub within : first + count ≤ all
  pub narrow : first + count < 2 ^ 32

pub record IsRange (l : Layout) (r : Range) : Type 0 where
  pub slots : AreWithin r.slot r.slots (length l.widths)
  pub headers : AreWithin r.header r.headers (length l.headers)
  pub stacks : AreWithin r.stack r.stacks (length l.sizes)

-- the parts of all elements of a stack
pub record IsToldRange (l : Layout) (t : ToldRange) : Type 0 where
  pub stack : t.stack < length l.sizes
  pub slots : AreWithin t.first.slot (slice_index l.sizes t.stack * t.first.slots) (length l.widths)
  pub headers : AreWithin t.first.header (slice_index l.sizes t.stack * t.first.headers) (length l.headers)
  pub stacks : AreWithin t.first.stack t.first.stacks (length l.sizes)

abbrev pub IsRangePlace : Layout → RangePlace → Type 0
IsRangePlace l (range_place.Fixed r) = IsRange l r
IsRangePlace l (range_place.Told t) = IsToldRange l t

-- the range of a header
abbrev pub has_header : RangePlace → ℕ
has_header (range_place.Fixed r) = r.headers
has_header (range_place.Told t) = t.first.headers

pub record IsHeaderPlace (l : Layout) (p : RangePlace) : Type 0 where
  pub range : IsRangePlace l p
  pub header : 0 < has_header p

abbrev pub IsSingle : Single → Type 0
IsSingle (single.Slice place width) = (place < 128) × IsWidth width
IsSingle (single.ToBits width) = IsWidth width
IsSingle single.ToTruth = Unit {0}
IsSingle (single.Operator of) = Unit {0}

abbrev pub IsExtern : Layout → List Shape → Extern → Type 0
IsExtern l shapes (extern.Count object length) = IsCounterAt shapes object × IsSlot l length
IsExtern l shapes (extern.CountEntry object length) = IsCounterAt shapes object × IsSlot l length
IsExtern l shapes (extern.Read object to) = IsRegisterAt shapes object × IsTarget l to
IsExtern l shapes (extern.Write object) = IsRegisterAt shapes object
IsExtern l shapes (extern.ExecuteMeter object to) = IsMeterAt shapes object × IsTarget l to
IsExtern l shapes (extern.Hash algorithm to) = IsTarget l to
IsExtern l shapes (extern.MarkToDrop slot) = IsSlot l slot
IsExtern l shapes (extern.Verify algorithm payload slot) = IsSlot l slot
IsExtern l shapes (extern.Update algorithm payload to) = IsTarget l to
IsExtern l shapes (extern.Clone kind list) = Unit {0}
IsExtern l shapes (extern.Request kind list) = Unit {0}

-- what a node is made of stands before it

abbrev pub IsTest : ℕ → ℕ → TestNode → Type 0
IsTest expressions n (test_node.Plain e) = e < expressions
IsTest expressions n (test_node.Hits table) = Unit {0}
IsTest expressions n (test_node.Misses table) = Unit {0}
IsTest expressions n (test_node.Alone of a) = IsSingle of × (a < n)
IsTest expressions n (test_node.Both a b) = (a < n) × (b < n)
IsTest expressions n (test_node.Either a b) = (a < n) × (b < n)
IsTest expressions n (test_node.Pair of a b) = (a < n) × (b < n)
IsTest expressions n (test_node.Choice c a b) = (c < n) × (a < n) × (b < n)

abbrev pub IsSource : Layout → ℕ → SourceNode → Type 0
IsSource l n (source_node.Parts of) = IsRangePlace l of
IsSource l n (source_node.Chosen c a b) = (c < n) × (a < n) × (b < n)

abbrev pub IsArgument : ℕ → ArgumentNode → Type 0
IsArgument n argument_node.Nothing = Unit {0}
IsArgument n (argument_node.Value a rest) = (a < n) × (rest < n)
IsArgument n (argument_node.Item a rest) = (a < n) × (rest < n)

abbrev pub IsIncoming : Layout → ℕ → IncomingNode → Type 0
IsIncoming l n incoming_node.Nothing = Unit {0}
IsIncoming l n (incoming_node.Value to a rest) = IsSlot l to × (a < n) × (rest < n)
IsIncoming l n (incoming_node.Parts to a rest) = IsRange l to × (a < n) × (rest < n)
IsIncoming l n (incoming_node.Zero to rest) = IsRange l to × (rest < n)

abbrev pub IsOutgoing : Layout → ℕ → OutgoingNode → Type 0
IsOutgoing l n outgoing_node.Nothing = Unit {0}
IsOutgoing l n (outgoing_node.Value from to rest) = IsSlot l from × IsTarget l to × (rest < n)
IsOutgoing l n (outgoing_node.Parts from to rest) = IsRange l from × IsRange l to × (rest < n)

abbrev pub IsStatement : Layout → List Shape → ℕ → StatementNode → Type 0
IsStatement l shapes n statement_node.Nothing = Unit {0}
IsStatement l shapes n (statement_node.Sequence a b) = (a < n) × (b < n)
IsStatement l shapes n (statement_node.Start r) = IsRange l r
IsStatement l shapes n (statement_node.Assign to slice a) = IsSlotPlace l to × IsSliceOf slice × (a < n)
IsStatement l shapes n (statement_node.AssignParts to a) = IsRangePlace l to × (a < n)
IsStatement l shapes n (statement_node.SetValid header on) = IsHeaderPlace l header
IsStatement l shapes n (statement_node.PushFront stack count) = IsRange l stack
IsStatement l shapes n (statement_node.PopFront stack count) = IsRange l stack
IsStatement l shapes n (statement_node.Extract header) = IsHeaderPlace l header
IsStatement l shapes n (statement_node.Emit a) = a < n
IsStatement l shapes n (statement_node.Execute what a) = IsExtern l shapes what × (a < n)
IsStatement l shapes n (statement_node.Apply table) = Unit {0}
IsStatement l shapes n (statement_node.LetGo a) = a < n
IsStatement l shapes n (statement_node.Call action apart a b) = (a < n) × (b < n)
IsStatement l shapes n (statement_node.Branch c a b) = (c < n) × (a < n) × (b < n)
IsStatement l shapes n (statement_node.Switch table a) = a < n
IsStatement l shapes n (statement_node.Labelled action a b) = (a < n) × (b < n)
IsStatement l shapes n (statement_node.Otherwise a) = a < n

abbrev pub IsNode : Ground → ℕ → Node → Type 0
IsNode g n (node.Test of) = IsTest g.expressions n of
IsNode g n (node.Source of) = IsSource g.layout n of
IsNode g n (node.Argument of) = IsArgument n of
IsNode g n (node.Incoming of) = IsIncoming g.layout n of
IsNode g n (node.Outgoing of) = IsOutgoing g.layout n of
IsNode g n (node.Statement of) = IsStatement g.layout g.shapes n of

abbrev pub AreNodes : Ground → List Node → Type 0
AreNodes g nodes = AllInOrder (IsNode g) 0 nodes

-- the trees of nodes
abbrev pub trees : List Ready → List Node → List Tree
trees es nodes = grow (tree_of es) [] nodes
