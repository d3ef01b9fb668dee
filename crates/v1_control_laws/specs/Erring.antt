-- Where evaluating raises an error: at an element of a stack that a member tells, where a packet is looked ahead at, and where it is
-- read (P4_16 1.2, "Operations on header stacks", "Packet lookahead", "Packet parsing"; `core.p4`). Each is named with what has
-- to hold where an error may come; nothing can where none may.
use Rattle.std.specs.Prelude.{◌≡◌, Bool, true, false, List, [], ◌∷◌, Some}
use Rattle.p416_syntax.specs.declared.controls.Action16.{Action16}
use Rattle.p416_syntax.specs.Tree.{Exp16, member, index, slice, call, lookahead, cast, unary, binary, choice, argument, listed}
use Rattle.p416_syntax.specs.Names.{Name}
use Rattle.p416_syntax.specs.Kinds.{Kind, stack, packet_in}
use Rattle.p416_syntax.specs.Scopes.{Scope}
use Rattle.p416_syntax.specs.Calls.{Place}
use Rattle.p416_syntax.specs.Expressions.{kind_of}
use Rattle.p416_syntax.specs.Uses.{arguments_of}
use Rattle.p416_syntax.specs.Declarations.{action_scope}
use Rattle.v1_core.specs.Surroundings.{Surroundings, action_named}
use Rattle.v1_statement_laws.specs.Meeting.{StatementMeets}

-- expressions in which an error comes only where one may come

abbrev pub MayTell : Type 0 → Kind → Type 0
MayTell R (stack type many) = R
MayTell R k = Unit {0}

-- an expression, or a list of arguments
abbrev pub FreeIn : Type 0 → Scope → Bool → Exp16 → Type 0
FreeIn R s false (member e word) = MayTell R (kind_of s e) × FreeIn R s false e
FreeIn R s false (index e at) = FreeIn R s false e
FreeIn R s false (slice e high low) = FreeIn R s false e
FreeIn R s false (call (member e word) given) = FreeIn R s false e
FreeIn R s false (lookahead e to given) = R
FreeIn R s false (cast to e) = FreeIn R s false e
FreeIn R s false (unary operator e) = FreeIn R s false e
FreeIn R s false (binary operator a b) = FreeIn R s false a × FreeIn R s false b
FreeIn R s false (choice c a b) = FreeIn R s false c × FreeIn R s false a × FreeIn R s false b
FreeIn R s false (listed es) = FreeIn R s true es
FreeIn R s true (argument before last) = FreeIn R s true before × FreeIn R s false last
FreeIn R s _ e = Unit {0}

abbrev pub Free : Type 0 → Scope → Exp16 → Type 0
Free R s e = FreeIn R s false e

abbrev pub AllFree : Type 0 → Scope → List Exp16 → Type 0
AllFree R s [] = Unit {0}
AllFree R s (e ∷ es) = Free R s e × AllFree R s es

-- a call whose arguments are such, and which reads a packet only where an error may come

abbrev pub MayRead : Type 0 → Kind → Type 0
MayRead R packet_in = R
MayRead R k = Unit {0}

abbrev pub FreeCallee : Type 0 → Scope → Exp16 → Type 0
FreeCallee R s (member e word) = MayRead R (kind_of s e)
FreeCallee R s e = Unit {0}

abbrev pub FreeCall : Type 0 → Scope → Exp16 → Type 0
FreeCall R s (call e given) = FreeCallee R s e × AllFree R s (arguments_of given)
FreeCall R s e = Unit {0}

abbrev pub FreeAt : Type 0 → Scope → Place → Exp16 → Type 0
FreeAt R s p e = Free R s e × FreeCall R s e

-- the bodies of the actions of a block
abbrev pub BodiesFree : Type 0 → Surroundings → Type 0
BodiesFree R b = (text : Name) (a : Action16) → action_named b text ≡ Some a → StatementMeets (FreeAt R) (action_scope b.scope a) a.body
