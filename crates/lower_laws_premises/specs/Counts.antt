-- What is said of an expanded primitive beside what it names (`PrimitiveStands` of lower_laws_states): its numbers, its
-- widths, the list and the calculation that it comes from, and which call asks for what (this project's own; P4_14
-- 1.0.5, "Primitive Actions", "Field Lists", "Checksums and Hash-value Generators", "Clone", "Resubmit",
-- "Recirculate").
use Rattle.std.specs.Prelude.{◌≡◌, ℕ, ◌≤◌, true, pos, codes, List, [], ◌∷◌, Option, Some, None, flat_map}
use Rattle.fabric.specs.declared.items.RequestKind.{RequestKind}
use Rattle.fabric.specs.declared.items.RequestKind.TheVariants.{CloneI2E, CloneE2E, Resubmit, Recirculate}
use Rattle.p414_syntax.specs.declared.parts.Inst.{Inst}
use Rattle.p414_syntax.specs.declared.syntax.Decl.{Decl}
use Rattle.p414_syntax.specs.declared.syntax.Sort.TheVariants as sort
use Rattle.p414_syntax.specs.declared.place.ArgumentPlace.TheVariants as place
use Rattle.p414_syntax.specs.Names.{Name, has_name, is_declared}
use Rattle.p414_syntax.specs.Arguments.{name_argument, Invocation, placed_argument, placed_arguments}
use Rattle.p414_syntax.specs.Expansion.{list_number}
use Rattle.p414_syntax.specs.Preserved.{list_of}
use Rattle.p414_sem.specs.Slots.{Target}
use Rattle.p414_sem.specs.Calculations.{Calculation, calculation_named}
use Rattle.p414_sem.specs.Expanded.{Expanded}
use Rattle.p414_sem.specs.Operations.{Source, number, Term, left_shift, right_shift, hashed, Primitive, write, push, pop, execute_meter, ask}
use Rattle.lower_laws_states.specs.Fits.{slot_bits}
use Rattle.lower_laws_states.specs.Expansions.{Has}
use Rattle.lower_laws_actions.specs.Fits.{IsNatural, KeptFits}

-- a target has the bits of its field
abbrev pub HasBits : List Decl → Target → Type 0
HasBits ds t = t.width ≡ slot_bits ds t.slot

-- the calculation of a hash: one that is declared, and that a hash of the text names
pub record IsHashed (ds : List Decl) (x : Expanded) (c : Calculation) : Type 0 where
  pub inst : Inst
  pub is : c ≡ calculation_named ds x inst.name
  pub there : is_declared sort.Calculation ds inst.name ≡ true
  pub written : Has (placed_arguments ds) (placed_argument place.Calculation (name_argument inst))

-- a list that a call of the text preserves, or none
abbrev pub IsPreserved : List Decl → Option ℕ → Type 0
IsPreserved ds None = Unit {0}
IsPreserved ds (Some list) = (name : Name) × Has (flat_map list_of (placed_arguments ds)) name × (list_number ds name ≡ Some list)

-- the calls that make a request of a kind ("Clone", "Resubmit", "Recirculate")
abbrev pub callers : RequestKind → List Name
callers CloneI2E = codes "clone_ingress_pkt_to_egress" ∷ codes "clone_i2e" ∷ []
callers CloneE2E = codes "clone_egress_pkt_to_egress" ∷ codes "clone_e2e" ∷ []
callers Resubmit = codes "resubmit" ∷ []
callers Recirculate = codes "recirculate" ∷ []

-- only a clone has a session (P4_14, "Clone")
abbrev pub SessionIs : RequestKind → Source → Type 0
SessionIs CloneI2E session = Unit {0}
SessionIs CloneE2E session = Unit {0}
SessionIs Resubmit session = session ≡ number (pos 0)
SessionIs Recirculate session = session ≡ number (pos 0)

-- the operands of a shift and of a hash aren't negative, and a hash is of a declared calculation
abbrev pub TermCounts : List Decl → Expanded → Term → Type 0
TermCounts ds x (left_shift a b) = IsNatural a × IsNatural b
TermCounts ds x (right_shift a b) = IsNatural a × IsNatural b
TermCounts ds x (hashed base calculation bound) = IsNatural base × IsNatural bound × IsHashed ds x calculation
TermCounts ds x _ = Unit {0}

-- a write and a meter have the bits of their field, a stack moves by 256 elements at most, and a request is one of its
-- callers', with the session and the list that it may have
abbrev pub PrimitiveCounts : List Decl → Expanded → Invocation → Primitive → Type 0
PrimitiveCounts ds x i (write sums t term) = HasBits ds t × TermCounts ds x term × KeptFits sums term
PrimitiveCounts ds x i (push stack elements) = elements ≤ 256
PrimitiveCounts ds x i (pop stack elements) = elements ≤ 256
PrimitiveCounts ds x i (execute_meter object index t) = HasBits ds t
PrimitiveCounts ds x i (ask kind session list) = (has_name (callers kind) i.callee ≡ true) × SessionIs kind session × IsPreserved ds list
PrimitiveCounts ds x i _ = Unit {0}
