-- Turns of the loops over rows.
use Rattle.std.proofs.Common.{◌≡◌, ℕ, ◌+◌, ◌<◌, List, ◌∷◌, length, get_or, drop, refl, sym, ap, ◌∙◌, drop-cons, add-one}
use Rattle.p414_sem.specs.State.{State}
use Rattle.p414_layout.specs.declared.shape.Shape.{Shape}
use Rattle.p414_state.specs.Packets.{Packet, with_state}
use Rattle.p414_calculated_fields.specs.declared.rows.CalculatedRow.{CalculatedRow}
use Rattle.p414_calculated_fields.specs.Running.{row_updated, rows_updated}

next_items : {X : Type 0} (xs : List X) (i : ℕ) (d : X) → i < length xs → drop i xs ≡ get_or xs i d ∷ drop (i + 1) xs
next_items xs i d h = rw (add-one, drop-cons xs i d h) refl

-- one more field was updated
pub next_updated : (layout : List Shape) (sums : ℕ → State → ℕ) (rows : List CalculatedRow) (i : ℕ) (d : CalculatedRow) (now new : Packet) (due : State) → i < length rows → now.layout ≡ layout → new ≡ with_state now (row_updated now.layout sums now.state (get_or rows i d)) → rows_updated layout sums now.state (drop i rows) ≡ due → rows_updated layout sums new.state (drop (i + 1) rows) ≡ due
next_updated layout sums rows i d now new due lt same is all =
    ap (λ (p : Packet). rows_updated layout sums p.state (drop (i + 1) rows)) is
    ∙ (ap (λ (l : List Shape). rows_updated layout sums (row_updated l sums now.state (get_or rows i d)) (drop (i + 1) rows)) same
    ∙ (ap (rows_updated layout sums now.state) (sym (next_items rows i d lt)) ∙ all))
