-- What a well-formed signature is (P4_16 1.2, "Control plane names"; the order and the limits are this project's own).
use Rattle.std.specs.Prelude.{◌≡◌, ℕ, ◌^◌, ◌<◌, ◌≤◌, Bool, true, false, Some, List, [], length, count_by, All, IfSome, slice_index_or}
use Rattle.std.specs.List.{AllPairs}
use Rattle.std.specs.Ordering.{nat_cmp}
use Rattle.std.specs.declared.cmp.Ordering.TheVariants.{Less}
use Rattle.std.specs.Cmp.Lexicographic.{slice_cmp}
use Rattle.state_store.specs.declared.shapes.Shape.{Shape}
use Rattle.state_store.specs.declared.shapes.Shape.TheVariants.{Counter, Direct, Register, Meter}
use Rattle.match_core.specs.declared.signatures.KeyKind.{KeyKind}
use Rattle.match_core.specs.declared.signatures.KeyKind.TheVariants as kind
use Rattle.match_core.specs.declared.signatures.KeySpec.{KeySpec}
use Rattle.match_core.specs.declared.signatures.ActionSig.{ActionSig}
use Rattle.match_core.specs.declared.signatures.TableSig.{TableSig}
use Rattle.match_core.specs.declared.signatures.ObjectSig.{ObjectSig}
use Rattle.match_core.specs.declared.signatures.Signature.{Signature}

-- how many bits a key, a parameter or a register can have
abbrev pub IsWidth : ℕ → Type 0
IsWidth width = (1 ≤ width) × (width ≤ 128)

-- how many keys a table can have
abbrev pub most_keys : ℕ
most_keys = 64

abbrev pub is_lpm : KeyKind → Bool
is_lpm kind.Exact = false
is_lpm kind.Ternary = false
is_lpm kind.Lpm = true
is_lpm kind.Range = false

-- keys that a table can have: of 1 to 128 bits, and one lpm key at most
pub record AreSpecs (specs : List KeySpec) : Type 0 where
  pub widths : All (λ (spec : KeySpec). IsWidth spec.width) specs
  pub one_lpm : count_by (λ spec. is_lpm spec.kind) specs ≤ 1

-- a name stands before another in the order of their octets, so they differ
abbrev pub ComesBefore : List ℕ → List ℕ → Type 0
ComesBefore name other = slice_cmp nat_cmp name other ≡ Less

-- actions in the order of their names, each of which stands once; their parameters have 1 to 128 bits
pub record AreActions (actions : List ActionSig) : Type 0 where
  pub few : length actions < 2 ^ 32
  pub widths : All (λ (action : ActionSig). All IsWidth action.widths) actions
  pub names : AllPairs (λ (action other : ActionSig). ComesBefore action.name other.name) actions

-- a stateful object: the cells of a register have 1 to 128 bits, and a direct counter has no cell here, since the
-- entries of its table give their number
abbrev pub IsObject : Shape → Type 0
IsObject (Counter kind cells) = cells < 2 ^ 32
IsObject (Direct kind cells) = cells ≡ 0
IsObject (Register width cells) = IsWidth width × (cells < 2 ^ 32)
IsObject (Meter cells) = cells < 2 ^ 32

-- objects in the order of their names, each of which stands once
pub record AreObjects (objects : List ObjectSig) : Type 0 where
  pub few : length objects < 2 ^ 32
  pub shapes : All (λ (object : ObjectSig). IsObject object.shape) objects
  pub names : AllPairs (λ (object other : ObjectSig). ComesBefore object.name other.name) objects

abbrev pub IsDirect : Shape → Type 0
IsDirect (Counter kind cells) = ⊥
IsDirect (Direct kind cells) = Unit {0}
IsDirect (Register width cells) = ⊥
IsDirect (Meter cells) = ⊥

-- a direct counter stands at this number among the objects
pub record IsDirectAt (objects : List ObjectSig) (object : ℕ) : Type 0 where
  pub within : object < length objects
  pub direct : IsDirect (slice_index_or objects object (record { name = []; shape = Meter 0 })).shape

-- a table of a program with these objects
pub record IsTable (objects : List ObjectSig) (table : TableSig) : Type 0 where
  pub keys : AreSpecs table.keys
  pub few_keys : length table.keys ≤ most_keys
  pub actions : AreActions table.actions
  pub size : table.size < 2 ^ 32
  pub direct : IfSome table.direct (IsDirectAt objects)

-- no direct counter belongs to both tables
abbrev pub ShareNone : TableSig → TableSig → Type 0
ShareNone table other = (object : ℕ) → table.direct ≡ Some object → other.direct ≡ Some object → ⊥

-- tables and objects stand in the order of their names, each of which stands once among its kind; each is well formed,
-- and a direct counter belongs to one table at most
pub record IsSignature (signature : Signature) : Type 0 where
  pub few : length signature.tables < 2 ^ 32
  pub tables : All (IsTable signature.objects) signature.tables
  pub names : AllPairs (λ (table other : TableSig). ComesBefore table.name other.name) signature.tables
  pub objects : AreObjects signature.objects
  pub counters : AllPairs ShareNone signature.tables
