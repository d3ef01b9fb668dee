-- The lines of cells, one after another.
use Rattle.std.proofs.Common.{◌≡◌, ℕ, ◌+◌, ◌<◌, ◌≤◌, List, ◌∷◌, ◌++◌, length, get_or, drop, refl, sym, ap, ◌∙◌, subst, add-one, drop-cons, append_assoc, append-nil}
use Rattle.std.proofs.lemmas.List.{get_or_past}
use Rattle.state_store.specs.declared.shapes.Kind.{Kind}
use Rattle.state_store.specs.declared.shapes.Shape.{Shape}
use Rattle.state_store.specs.declared.shapes.Shape.TheVariants.{Counter, Direct, Register, Meter}
use Rattle.state_store.specs.Cells.{IsCounter, IsRegister}
use Rattle.state_store.specs.State.{Contents, IsCounterAt, IsRegisterAt, shape_at}
use Rattle.match_core.specs.declared.signatures.ObjectSig.{ObjectSig}
use Rattle.cell_lines.specs.Lines.{first_lines, lines_by, lines_from, object_lines}

next_items : {X : Type 0} (xs : List X) (i : ℕ) (d : X) → i < length xs → drop i xs ≡ get_or xs i d ∷ drop (i + 1) xs
next_items xs i d h = rw (add-one, drop-cons xs i d h) refl

-- one more cell
pub next_line : (line : ℕ → List ℕ) (index : ℕ) (old now new : List ℕ) → now ≡ old ++ first_lines line index → new ≡ now ++ line index → new ≡ old ++ first_lines line (index + 1)
next_line line index old now new before is =
    is
    ∙ (ap (λ (l : List ℕ). l ++ line index) before
    ∙ (append_assoc old (first_lines line index) (line index) ∙ ap (λ (n : ℕ). old ++ first_lines line n) (sym (add-one index))))

-- an object by its shape

pub counter_there : (shapes : List Shape) (object : ℕ) (kind : Kind) (cells : ℕ) → object < length shapes → shape_at shapes object ≡ Counter kind cells → IsCounterAt shapes object
counter_there shapes object kind cells lt is = record { within = lt; counter = subst IsCounter (sym is) tt }

pub direct_there : (shapes : List Shape) (object : ℕ) (kind : Kind) (cells : ℕ) → object < length shapes → shape_at shapes object ≡ Direct kind cells → IsCounterAt shapes object
direct_there shapes object kind cells lt is = record { within = lt; counter = subst IsCounter (sym is) tt }

pub register_there : (shapes : List Shape) (object : ℕ) (width cells : ℕ) → object < length shapes → shape_at shapes object ≡ Register width cells → IsRegisterAt shapes object
register_there shapes object width cells lt is = record { within = lt; register = subst IsRegister (sym is) tt }

pub by_shape : (store : Contents) (name : List ℕ) (object : ℕ) (shape : Shape) (old new : List ℕ) → shape_at store.shapes object ≡ shape → new ≡ old ++ lines_by shape store name object → new ≡ old ++ object_lines store name object
by_shape store name object shape old new is put =
    put ∙ ap (λ (s : Shape). old ++ lines_by s store name object) (sym is)

pub no_lines : (store : Contents) (name : List ℕ) (object : ℕ) (old : List ℕ) → length store.shapes ≤ object → old ≡ old ++ object_lines store name object
no_lines store name object old le = by_shape store name object (Meter 0) old old (get_or_past store.shapes object (Meter 0) le) (sym (append-nil old))

pub meter_lines : (store : Contents) (name : List ℕ) (object cells : ℕ) (old : List ℕ) → shape_at store.shapes object ≡ Meter cells → old ≡ old ++ object_lines store name object
meter_lines store name object cells old is = by_shape store name object (Meter cells) old old is (sym (append-nil old))

-- one more object
pub next_object : (store : Contents) (objects : List ObjectSig) (i : ℕ) (d : ObjectSig) (now new due : List ℕ) → i < length objects → new ≡ now ++ object_lines store (get_or objects i d).name i → now ++ lines_from store i (drop i objects) ≡ due → new ++ lines_from store (i + 1) (drop (i + 1) objects) ≡ due
next_object store objects i d now new due lt is all =
    ap (λ (l : List ℕ). l ++ lines_from store (i + 1) (drop (i + 1) objects)) is
    ∙ (append_assoc now (object_lines store (get_or objects i d).name i) (lines_from store (i + 1) (drop (i + 1) objects))
    ∙ (ap (λ (l : List ObjectSig). now ++ lines_from store i l) (sym (next_items objects i d lt)) ∙ all))
