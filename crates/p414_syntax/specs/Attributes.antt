-- What a header type, a metadata instance, a table, a counter, a meter or a register declares (P4_14 1.0.5, "Header
-- Type Declarations", "Header and Metadata Instances", "Table Declarations", "Counters", "Meters", "Registers"). Of two
-- attributes of one kind the first counts: that is this project's own, since the grammar has each at most once.
use Rattle.std.specs.Prelude.{ℕ, Bool, true, false, List, [], ◌∷◌, Option, Some, None}
use Rattle.p414_syntax.specs.declared.lexeme.Literal.{Literal}
use Rattle.p414_syntax.specs.declared.parts.Number.{Number}
use Rattle.p414_syntax.specs.declared.parts.Ref.{Ref}
use Rattle.p414_syntax.specs.declared.headers.Initial.{Initial}
use Rattle.p414_syntax.specs.declared.headers.Initials.{Initials}
use Rattle.p414_syntax.specs.declared.tables.Read.{Read}
use Rattle.p414_syntax.specs.declared.tables.TableAttr.{TableAttr}
use Rattle.p414_syntax.specs.declared.tables.TableAttr.TheVariants as table_attr
use Rattle.p414_syntax.specs.declared.objects.CounterType.{CounterType}
use Rattle.p414_syntax.specs.declared.objects.StateAttr.{StateAttr}
use Rattle.p414_syntax.specs.declared.objects.StateAttr.TheVariants as state_attr
use Rattle.p414_syntax.specs.Tree.{Expr}
use Rattle.p414_syntax.specs.Views.{TailTree, length_is, max_length_is}

-- the expression behind `length`
abbrev pub length_of : List TailTree → Option Expr
length_of [] = None
length_of (length_is e ∷ rest) = Some e
length_of (other ∷ rest) = length_of rest

-- the expression behind `max_length`
abbrev pub max_length_of : List TailTree → Option Expr
max_length_of [] = None
max_length_of (max_length_is e ∷ rest) = Some e
max_length_of (other ∷ rest) = max_length_of rest

-- the initial values of a metadata instance, in order; none where no braces stand
abbrev pub initials_of : Option Initials → List Initial
initials_of None = []
initials_of (Some initials) = initials.values

-- what the table reads, in order; nothing where there is no `reads`
abbrev pub reads_of : List TableAttr → List Read
reads_of [] = []
reads_of (table_attr.Reads rs ∷ rest) = rs
reads_of (other ∷ rest) = reads_of rest

-- the names of the table's actions, in order; none where there is no `actions`
abbrev pub actions_of : List TableAttr → List (List ℕ)
actions_of [] = []
actions_of (table_attr.Actions names ∷ rest) = names
actions_of (other ∷ rest) = actions_of rest

-- the number behind `min_size`
abbrev pub min_size_of : List TableAttr → Option Literal
min_size_of [] = None
min_size_of (table_attr.MinSize n ∷ rest) = Some n
min_size_of (other ∷ rest) = min_size_of rest

-- the number behind `max_size`
abbrev pub max_size_of : List TableAttr → Option Literal
max_size_of [] = None
max_size_of (table_attr.MaxSize n ∷ rest) = Some n
max_size_of (other ∷ rest) = max_size_of rest

-- the number behind `size`
abbrev pub size_of : List TableAttr → Option Literal
size_of [] = None
size_of (table_attr.Size n ∷ rest) = Some n
size_of (other ∷ rest) = size_of rest

-- what stands behind `support_timeout`
abbrev pub support_timeout_of : List TableAttr → Option Bool
support_timeout_of [] = None
support_timeout_of (table_attr.SupportTimeout on ∷ rest) = Some on
support_timeout_of (other ∷ rest) = support_timeout_of rest

-- the name of the default action
abbrev pub default_action_of : List TableAttr → Option (List ℕ)
default_action_of [] = None
default_action_of (table_attr.DefaultAction name arguments ∷ rest) = Some name
default_action_of (other ∷ rest) = default_action_of rest

-- the arguments of the default action, where parentheses stand behind its name
abbrev pub default_arguments_of : List TableAttr → Option (List Number)
default_arguments_of [] = None
default_arguments_of (table_attr.DefaultAction name arguments ∷ rest) = arguments
default_arguments_of (other ∷ rest) = default_arguments_of rest

-- the name of the action profile
abbrev pub action_profile_of : List TableAttr → Option (List ℕ)
action_profile_of [] = None
action_profile_of (table_attr.ActionProfile name ∷ rest) = Some name
action_profile_of (other ∷ rest) = action_profile_of rest

-- what a counter or a meter counts: what stands behind `type`
abbrev pub counts_of : List StateAttr → Option CounterType
counts_of [] = None
counts_of (state_attr.Counts t ∷ rest) = Some t
counts_of (other ∷ rest) = counts_of rest

-- the table behind `direct`
abbrev pub direct_table_of : List StateAttr → Option (List ℕ)
direct_table_of [] = None
direct_table_of (state_attr.Direct t ∷ rest) = Some t
direct_table_of (other ∷ rest) = direct_table_of rest

-- the table behind `static`
abbrev pub static_table_of : List StateAttr → Option (List ℕ)
static_table_of [] = None
static_table_of (state_attr.Static t ∷ rest) = Some t
static_table_of (other ∷ rest) = static_table_of rest

-- the header type behind `layout`
abbrev pub layout_of : List StateAttr → Option (List ℕ)
layout_of [] = None
layout_of (state_attr.Layout t ∷ rest) = Some t
layout_of (other ∷ rest) = layout_of rest

-- the field behind `result`
abbrev pub result_field_of : List StateAttr → Option Ref
result_field_of [] = None
result_field_of (state_attr.Result r ∷ rest) = Some r
result_field_of (other ∷ rest) = result_field_of rest

-- the number of cells: what stands behind `instance_count`
abbrev pub instance_count_of : List StateAttr → Option Literal
instance_count_of [] = None
instance_count_of (state_attr.InstanceCount n ∷ rest) = Some n
instance_count_of (other ∷ rest) = instance_count_of rest

-- the number of bits behind `width`
abbrev pub width_of : List StateAttr → Option Literal
width_of [] = None
width_of (state_attr.Width n ∷ rest) = Some n
width_of (other ∷ rest) = width_of rest

-- the number of bits behind `min_width`
abbrev pub min_width_of : List StateAttr → Option Literal
min_width_of [] = None
min_width_of (state_attr.MinWidth n ∷ rest) = Some n
min_width_of (other ∷ rest) = min_width_of rest

-- whether `saturating` stands
abbrev pub is_saturating_of : List StateAttr → Bool
is_saturating_of [] = false
is_saturating_of (state_attr.Saturating ∷ rest) = true
is_saturating_of (other ∷ rest) = is_saturating_of rest

-- whether `signed` stands
abbrev pub is_signed_of : List StateAttr → Bool
is_signed_of [] = false
is_signed_of (state_attr.Signed ∷ rest) = true
is_signed_of (other ∷ rest) = is_signed_of rest
