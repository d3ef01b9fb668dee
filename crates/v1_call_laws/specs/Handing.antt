-- The parameters of an action with what they are handed (P4_16 1.2, "Calling convention: call by copy in/copy out").
use Rattle.std.specs.Prelude.{◌≡◌, ◌≢◌, false, List, [], ◌∷◌}
use Rattle.std.specs.Str.{bytes_eq}
use Rattle.p416_syntax.specs.Names.{Name}
use Rattle.p416_syntax.specs.declared.parts.Param.{Param}
use Rattle.p416_syntax.specs.Scopes.{Scope, Handed, kind_of_type}
use Rattle.v1_core.specs.Slots.{parameter_kind}
use Rattle.v1_core.specs.Seats.{Content, slot_form, no_form, form_of}
use Rattle.v1_ready_statements.specs.Given.{is_back}

-- What is said of a parameter where its action is called is so in its block: whether it is written back, and the kind that its
-- type names, where there are values of it; that of a single value is also the one that the type names at the call.
pub record IsHanded (s block : Scope) (h : Handed) (p : Param) : Type 0 where
  pub written : h.is_written ≡ is_back p.direction
  pub kind : form_of (parameter_kind block p) ≢ no_form → h.kind ≡ parameter_kind block p
  pub named : (of : Content) → form_of (parameter_kind block p) ≡ slot_form of → kind_of_type s.names p.of ≡ parameter_kind block p

abbrev pub AreHanded : Scope → Scope → List Handed → List Param → Type 0
AreHanded s block [] [] = Unit {0}
AreHanded s block (h ∷ hs) (p ∷ ps) = IsHanded s block h p × AreHanded s block hs ps
AreHanded s block _ _ = ⊥

-- no two parameters have one name
abbrev pub NoneIsCalled : Name → List Param → Type 0
NoneIsCalled text [] = Unit {0}
NoneIsCalled text (p ∷ ps) = (bytes_eq text p.name ≡ false) × NoneIsCalled text ps

abbrev pub NamesDiffer : List Param → Type 0
NamesDiffer [] = Unit {0}
NamesDiffer (p ∷ ps) = NoneIsCalled p.name ps × NamesDiffer ps
