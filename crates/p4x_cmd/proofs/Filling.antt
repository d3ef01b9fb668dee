-- The entries without anything fit any signature, and the signature of a program of the one-table form is well formed.
use Rattle.std.proofs.Common.{ℕ, zero, suc, List, [], ◌∷◌, map, refl, arith}
use Rattle.std.specs.List.{All, AllZip}
use Rattle.state_store.specs.declared.shapes.Shape.{Shape}
use Rattle.state_store.specs.declared.shapes.Shape.TheVariants.{Counter, Direct, Register, Meter}
use Rattle.match_core.specs.declared.signatures.ActionSig.{ActionSig}
use Rattle.match_core.specs.declared.signatures.TableSig.{TableSig}
use Rattle.match_core.specs.declared.signatures.ObjectSig.{ObjectSig}
use Rattle.match_core.specs.declared.signatures.Signature.{Signature}
use Rattle.match_core.specs.Fits.{Fits, FitsFill, FitsColours}
use Rattle.match_core.specs.Signatures.{IsWidth, AreActions, IsTable, IsSignature}
use Rattle.p414_one_table.specs.declared.program.OneTable14.{OneTable14}
use Rattle.p4x_cmd.specs.Meaning14.{table14, signature14}
use Rattle.p4x_cmd.specs.Entries.{no_fill, no_entries}

tables_fit : (tables : List TableSig) → AllZip FitsFill tables (map (λ _. no_fill) tables)
tables_fit [] = tt
tables_fit (t ∷ tables) =
    (record { size = omega arith; no_keys = λ none. refl; entries = λ k d inside. absurd (omega arith); call = tt }, tables_fit tables)

colours_fit : (objects : List ObjectSig) → AllZip (λ (object : ObjectSig). FitsColours object.shape) objects (map (λ _. []) objects)
colours_fit [] = tt
colours_fit (o ∷ objects) = (of o.shape, colours_fit objects)
  where
    of : (shape : Shape) → FitsColours shape []
    of (Counter kind cells) = refl
    of (Direct kind cells) = refl
    of (Register width cells) = refl
    of (Meter cells) = λ k d inside. absurd (omega arith)

pub no_entries_fit : (g : Signature) → Fits (no_entries g) g
no_entries_fit g = record {
  tables = tables_fit g.tables;
  sessions = record { each = λ k d inside. absurd (omega arith); distinct = λ i j d inside. absurd (omega arith) };
  colours = colours_fit g.objects;
}

-- The signature of a program of the one-table form is well formed.

action_is : (n : List ℕ) → AreActions (record { name = n; widths = [] } ∷ [])
action_is n = record { few = omega arith; widths = widths; names = λ i j d before inside. absurd (omega arith) }
  where
    widths : All (λ (action : ActionSig). All IsWidth action.widths) (record { name = n; widths = [] } ∷ [])
    widths zero d inside = λ k e within. absurd (omega arith)
    widths (suc k) d inside = absurd (omega arith)

table_is : (p : OneTable14) → IsTable [] (table14 p)
table_is p = record {
  keys = record { widths = λ k d inside. absurd (omega arith); one_lpm = omega arith };
  few_keys = omega arith;
  actions = action_is p.action;
  size = omega arith;
  direct = tt;
}

pub signature_is : (p : OneTable14) → IsSignature (signature14 p)
signature_is p = record {
  few = omega arith;
  tables = tables;
  names = λ i j d before inside. absurd (omega arith);
  objects = record {
    few = omega arith;
    shapes = λ k d inside. absurd (omega arith);
    names = λ i j d before inside. absurd (omega arith);
  };
  counters = λ i j d before inside. absurd (omega arith);
}
  where
    tables : All (IsTable []) (table14 p ∷ [])
    tables zero d inside = table_is p
    tables (suc k) d inside = absurd (omega arith)
