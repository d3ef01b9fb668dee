-- What the rules ask of the actions that are written, beside what their meaning asks (this project's own, the limits,
-- too; P4_14 1.0.5, "Primitive Actions", "Checksums and Hash-value Generators"; P4_16 1.2, "Actions", "Statements";
-- `v1model.p4`, `HashAlgorithm` and where requests may be made).
use Rattle.std.specs.Prelude.{◌≡◌, ℕ, ◌<◌, ◌≤◌, true, false, List, [], ◌∷◌, ◌++◌, length}
use Rattle.std.specs.List.{AllByRecursion}
use Rattle.fabric.specs.declared.items.RequestKind.{RequestKind}
use Rattle.fabric.specs.declared.items.RequestKind.TheVariants.{CloneI2E, CloneE2E, Resubmit, Recirculate}
use Rattle.p414_sem.specs.Slots.{Slot}
use Rattle.p414_sem.specs.Operations.{Term, cell, hashed, Primitive, write, copy_header, ask}
use Rattle.p416_syntax.specs.Tree.{Stmt16}
use Rattle.p416_syntax.specs.Names.{Name, has_name, repeats}
use Rattle.p416_syntax.specs.Kinds.{bits, hash_algorithm, register}
use Rattle.p416_syntax.specs.BuiltIn.{members_of}
use Rattle.p416_syntax.specs.Scopes.{Scope}
use Rattle.p416_syntax.specs.Externs.{are_allowed}
use Rattle.v1_core.specs.Frames.{Owner}
use Rattle.agreement_of_meanings.specs.Shown.{field_at}
use Rattle.lower_laws_base.specs.Context.{Local, Lowering, words_of, object_at, HasRoot, IsSlot}
use Rattle.lower_laws_base.specs.Mirror.{width_in}
use Rattle.lower_laws_actions.specs.Fits.{IsObject}
use Rattle.lower_laws_rules.specs.Keeping.{Part}
use Rattle.lower_laws_rules.specs.Standing.{Among}

-- a width of 1 to 128 bits
abbrev pub IsWidth : ℕ → Type 0
IsWidth width = (0 < width) × (width ≤ 128)

-- widths are as the rules of P4_14 ask, and the parameters of the block can be written
pub record WidthsFit (c : Lowering) : Type 0 where
  pub slots : (slot : Slot) → IsSlot c.layout slot → IsWidth (width_in (words_of c) slot)
  pub parameters : (j : ℕ) → j < length c.parameters → IsWidth (field_at c.parameters j).width
  pub registers : (j : ℕ) → IsObject c register j → IsWidth (object_at c.objects j).width
  pub writes : (o : Owner) → HasRoot c.layout o → c.can_write o ≡ true

-- a hash is of an algorithm of P4_16, and has 1 to 128 bits
abbrev pub TermStands : Term → Type 0
TermStands (hashed base calculation bound) = (has_name (members_of hash_algorithm) calculation.algorithm ≡ true) × IsWidth calculation.width
TermStands _ = Unit {0}

-- the blocks in which a request is made, by their places in `main` (`v1model.p4`)
abbrev pub request_positions : RequestKind → List ℕ
request_positions CloneI2E = 2 ∷ []
request_positions CloneE2E = 3 ∷ []
request_positions Resubmit = 2 ∷ []
request_positions Recirculate = 3 ∷ []

-- headers that are copied have one type, and a request is made where it may be
abbrev pub PrimitiveStands : Lowering → List ℕ → Primitive → Type 0
PrimitiveStands c positions (write sums t term) = TermStands term
PrimitiveStands c positions (copy_header to from) = c.type_of to.instance ≡ c.type_of from.instance
PrimitiveStands c positions (ask kind session list) = are_allowed (request_positions kind) positions ≡ true
PrimitiveStands c positions p = Unit {0}

-- Statements one behind another, from a scope to a scope, with the names that they declare.
abbrev pub Steps : Scope → List Stmt16 → Scope → List Name → Type 0
Steps s [] t names = (s ≡ t) × (names ≡ [])
Steps s (y ∷ ys) t names = (u : Scope) × (a : List Name) × (b : List Name) × Part s u a 1 y × Steps u ys t b × (names ≡ a ++ b)

-- the variable that a term's front fills is known, with its width
abbrev pub TermKnown : Lowering → List Local → ℕ → ℕ → Term → Type 0
TermKnown c ls K width (cell object index) = Among ls (record { called = c.spare K 0; kind = bits (object_at c.objects object).width })
TermKnown c ls K width (hashed base calculation bound) = Among ls (record { called = c.spare K 0; kind = bits width })
TermKnown c ls K width term = Unit {0}

-- the variable that a primitive's front fills is known; only a write has one
abbrev pub PrimitiveKnown : Lowering → List Local → ℕ → Primitive → Type 0
PrimitiveKnown c ls K (write sums t term) = TermKnown c ls K t.width term
PrimitiveKnown c ls K p = Unit {0}

-- names of variables of primitives, with numbers of a kind, none of them twice
pub record Declared (c : Lowering) (names : List Name) (P : ℕ → ℕ → Type 0) : Type 0 where
  pub once : repeats names ≡ false
  pub each : AllByRecursion (λ x. (a : ℕ) × (i : ℕ) × (x ≡ c.spare a i) × P a i) names
