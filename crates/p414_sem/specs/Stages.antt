-- How much a program asks of what runs or translates it (this project's own; P4_14 1.0.5, "Primitive Actions",
-- "Counters", "Meters", "Registers", "Checksums and Hash-value Generators"). Each declared action counts, also one that
-- no table lists.
use Rattle.std.specs.Prelude.{Bool, true, false, ◌||◌, if◌then◌else◌, List, [], ◌∷◌, codes}
use Rattle.std.specs.List.{list_any}
use Rattle.p414_syntax.specs.declared.actions.Call.{Call}
use Rattle.p414_syntax.specs.declared.syntax.Decl.{Decl}
use Rattle.p414_syntax.specs.declared.syntax.Decl.TheVariants as decl
use Rattle.p414_syntax.specs.Names.{Name, has_name}
use Rattle.p414_syntax.specs.Primitives.{hash}
use Rattle.p414_sem.specs.declared.stage.Stage14.{Stage14}
use Rattle.p414_sem.specs.declared.stage.Stage14.TheVariants.{Plain, Stateful, Reentrant}

-- the primitives that make a further item
abbrev pub making_items : List Name
making_items =
    codes "resubmit" ∷ codes "recirculate" ∷ codes "clone_ingress_pkt_to_egress" ∷ codes "clone_i2e"
    ∷ codes "clone_egress_pkt_to_egress" ∷ codes "clone_e2e" ∷ []

abbrev pub hashing : List Name
hashing = hash ∷ []

-- an action calls one of these primitives
abbrev pub is_call_of : List Name → Call → Bool
is_call_of primitives c = has_name primitives c.name

abbrev pub calls_in_decl : List Name → Decl → Bool
calls_in_decl primitives (decl.Action x) = list_any (is_call_of primitives) x.calls
calls_in_decl primitives _ = false

abbrev pub calls_some : List Name → List Decl → Bool
calls_some primitives ds = list_any (calls_in_decl primitives) ds

-- the declaration keeps something from packet to packet, or calculates a field
abbrev pub keeps_something : Decl → Bool
keeps_something (decl.Counter x) = true
keeps_something (decl.Meter x) = true
keeps_something (decl.Register x) = true
keeps_something (decl.CalculatedField x) = true
keeps_something _ = false

abbrev pub stage_without_items : Bool → Stage14
stage_without_items stateful = if stateful then Stateful else Plain

-- what a program asks of what runs or translates it
abbrev pub stage_of : List Decl → Stage14
stage_of ds =
    if calls_some making_items ds then Reentrant
    else stage_without_items (list_any keeps_something ds || calls_some hashing ds)
