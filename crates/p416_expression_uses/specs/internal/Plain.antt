-- Uses of which nothing but a rule is found, that T9 asks nothing of; and direct counters that are counted, by what stands before the method.
use Rattle.std.specs.Prelude.{Bool, true, false, if◌then◌else◌, List, []}
use Rattle.p416_syntax.specs.Tree.{Exp16, name, member}
use Rattle.p416_syntax.specs.Kinds.{Kind}
use Rattle.p416_syntax.specs.Scopes.{Part}
use Rattle.p416_syntax.specs.Uses.{Use, an_expression, a_type, a_switch, some_parameters, some_counters, a_table_of}
use Rattle.p416_syntax.specs.Tables.{is_direct_counter}
use Rattle.p416_expression_uses.specs.Found.{CountedIn, counted_in}

abbrev pub is_plain_use : Use → Bool
is_plain_use (an_expression s p e) = false
is_plain_use (a_type s p t) = false
is_plain_use (a_switch s text labels) = false
is_plain_use (some_parameters parameters) = false
is_plain_use (some_counters names) = false
is_plain_use (a_table_of s t) = false
is_plain_use u = true

-- those that T9 asks something of
abbrev pub is_listed_use : Use → Bool
is_listed_use (a_switch s text labels) = true
is_listed_use (some_parameters parameters) = true
is_listed_use (some_counters names) = true
is_listed_use (a_table_of s t) = true
is_listed_use u = false

abbrev pub owner_counted : Part → Kind → Exp16 → List CountedIn
owner_counted part k (name text) = if is_direct_counter k then counted_in part text else []
owner_counted part k e = []

abbrev pub call_counted : Part → Kind → Exp16 → List CountedIn
call_counted part k (member e word) = owner_counted part k e
call_counted part k e = []
