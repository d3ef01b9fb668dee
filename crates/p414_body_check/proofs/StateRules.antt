-- What the graph of the states tells of C9 and C10.
use Rattle.std.proofs.Common.{◌≡◌, ℕ, Bool, true, false, List, [], ◌∷◌, Option, Some, None, MatchOption, Err, Ok, inl, inr, refl, sym, subst}
use Rattle.p414_syntax.specs.declared.syntax.Decl.{Decl}
use Rattle.p414_syntax.specs.declared.rule.ProgramRule.TheVariants.{C9, C10}
use Rattle.p414_syntax.specs.Breaks.{IsBroken, BreaksNone, rule_fault}
use Rattle.p414_syntax.specs.Exact.{IsExact}
use Rattle.p414_syntax.specs.ParserGraph.{HasIdleCycle, HasNoOrder}
use Rattle.parse_graph.specs.declared.nodes.Graph.{Graph}
use Rattle.parse_graph.specs.Graphs.{IsIdle, IsLeastIdle}
use Rattle.p414_body_check.specs.declared.fault.Check14.{Check14}
use Rattle.p414_body_check.specs.declared.fault.Check14.TheVariants.{Refused}
use Rattle.p414_body_check.proofs.Orders.{exactly_false, told_first, told_second}
use Rattle.p414_body_check.specs.internal.States.{IsGraphOf}
use Rattle.p414_body_check.specs.internal.Steps.{Keeps}

none_idle : (ds : List Decl) (g : Graph) → IsGraphOf ds g → ((s : ℕ) → IsIdle g.states s → ⊥) → HasIdleCycle ds → ⊥
none_idle ds g is none cycle = let found = is.idle.0 cycle in none found.0 found.1

pub no_cycle : (ds : List Decl) (g : Graph) (found : Option ℕ) → IsGraphOf ds g → MatchOption found ((s : ℕ) → IsIdle g.states s → ⊥) (IsLeastIdle g.states) → found ≡ None → HasIdleCycle ds → ⊥
no_cycle ds g found is h none = none_idle ds g is (subst (λ o. MatchOption o ((s : ℕ) → IsIdle g.states s → ⊥) (IsLeastIdle g.states)) none h)

pub told_c9 : (ds : List Decl) (idle : Bool) (fault : Check14) → IsExact idle (HasIdleCycle ds) → idle ≡ true → fault ≡ Refused (rule_fault C9) → Keeps ds (C9 ∷ C10 ∷ []) (Err fault)
unfolding IsBroken
told_c9 ds idle fault exact e is = told_first ds C9 (C10 ∷ []) idle fault exact e is

pub told_c10 : (ds : List Decl) (idle none : Bool) (fault : Check14) → IsExact idle (HasIdleCycle ds) → idle ≡ false → IsExact none (HasNoOrder ds) → none ≡ true → fault ≡ Refused (rule_fault C10) → Keeps ds (C9 ∷ C10 ∷ []) (Err fault)
unfolding IsBroken
told_c10 ds idle none fault exact e order f is = told_second ds C9 C10 [] idle none fault exact e order f is

pub keeps_both : (ds : List Decl) (idle none : Bool) → IsExact idle (HasIdleCycle ds) → idle ≡ false → IsExact none (HasNoOrder ds) → none ≡ false → BreaksNone ds (C9 ∷ C10 ∷ [])
unfolding IsBroken
keeps_both ds idle none exact e order f =
    (exactly_false (HasIdleCycle ds) idle exact e, (exactly_false (HasNoOrder ds) none order f, _))
