-- Places at which a value is asked for, or what stands before a member or an element: none of what is called or assigned to, no
-- statement, no list in braces, and none at which nothing is asked for (P4_16 1.2, "Expressions").
use Rattle.p416_syntax.specs.Calls.{Place, item_list, target, callee, statement, unasked}

abbrev pub IsStrict : Place → Type 0
IsStrict callee = ⊥
IsStrict item_list = ⊥
IsStrict target = ⊥
IsStrict statement = ⊥
IsStrict unasked = ⊥
IsStrict p = Unit {0}
