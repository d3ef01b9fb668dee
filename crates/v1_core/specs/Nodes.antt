-- Which ready expressions a list of nodes stands for, and which nodes fit the parts of a frame.
use Rattle.std.specs.Prelude.{ℕ, ◌+◌, ◌*◌, ◌^◌, ◌<◌, ◌≤◌, List, length, slice_index}
use Rattle.node_lists.specs.Trees.{tree_at, AllInOrder}
use Rattle.v1_core.specs.Values.{a_number, a_truth, an_error, no_value}
use Rattle.v1_core.specs.Layouts.{Layout}
use Rattle.v1_core.specs.declared.node.Element.{Element}
use Rattle.v1_core.specs.declared.node.Node.{Node}
use Rattle.v1_core.specs.declared.node.Node.TheVariants as node
use Rattle.v1_core.specs.Scalars.{IsWord}
use Rattle.v1_core.specs.Ready.{Ready, constant, slot, element_slot, valid, element_valid, ahead, slice, to_bits, to_truth, unary, both, either, binary, choice}

abbrev pub nothing : Ready
nothing = constant no_value

abbrev pub ready_at : List Ready → ℕ → Ready
ready_at = tree_at nothing

-- the expression of a node, given those of the nodes before it
abbrev pub ready_of : List Ready → Node → Ready
ready_of es (node.Number width number) = constant (a_number width number)
ready_of es (node.Truth holds) = constant (a_truth holds)
ready_of es (node.Error number) = constant (an_error number)
ready_of es (node.Slot of number) = slot of number
ready_of es (node.ElementSlot of) = element_slot of
ready_of es (node.Valid header) = valid header
ready_of es (node.ElementValid of) = element_valid of
ready_of es (node.Ahead width) = ahead width
ready_of es (node.Slice a place width) = slice (ready_at es a) place width
ready_of es (node.ToBits width a) = to_bits width (ready_at es a)
ready_of es (node.ToTruth a) = to_truth (ready_at es a)
ready_of es (node.Unary operator a) = unary operator (ready_at es a)
ready_of es (node.And a b) = both (ready_at es a) (ready_at es b)
ready_of es (node.Or a b) = either (ready_at es a) (ready_at es b)
ready_of es (node.Binary operator a b) = binary operator (ready_at es a) (ready_at es b)
ready_of es (node.Choice a b c) = choice (ready_at es a) (ready_at es b) (ready_at es c)

-- the parts of all elements of a stack are among so many, and their numbers have 32 bits
pub record IsElement (l : Layout) (count : ℕ) (e : Element) : Type 0 where
  pub stack : e.stack < length l.sizes
  pub within : e.first + slice_index l.sizes e.stack * e.apart < count + e.apart
  pub narrow : e.first + slice_index l.sizes e.stack * e.apart < 2 ^ 32

pub record IsWidth (width : ℕ) : Type 0 where
  pub some : 0 < width
  pub most : width ≤ 128

-- the operands of a node stand before it, and its slots, headers and stacks are those of a frame
abbrev pub IsNode : Layout → ℕ → Node → Type 0
IsNode l n (node.Number width number) = IsWord width number
IsNode l n (node.Truth holds) = Unit {0}
IsNode l n (node.Error number) = Unit {0}
IsNode l n (node.Slot of number) = number < length l.widths
IsNode l n (node.ElementSlot of) = IsElement l (length l.widths) of
IsNode l n (node.Valid header) = header < length l.headers
IsNode l n (node.ElementValid of) = IsElement l (length l.headers) of
IsNode l n (node.Ahead width) = IsWidth width
IsNode l n (node.Slice a place width) = (a < n) × (place < 128) × IsWidth width
IsNode l n (node.ToBits width a) = (a < n) × IsWidth width
IsNode l n (node.ToTruth a) = a < n
IsNode l n (node.Unary operator a) = a < n
IsNode l n (node.And a b) = (a < n) × (b < n)
IsNode l n (node.Or a b) = (a < n) × (b < n)
IsNode l n (node.Binary operator a b) = (a < n) × (b < n)
IsNode l n (node.Choice a b c) = (a < n) × (b < n) × (c < n)

abbrev pub AreNodes : Layout → List Node → Type 0
AreNodes l nodes = AllInOrder (IsNode l) 0 nodes
