-- Two instances whose fields have the same widths.
use Rattle.std.proofs.Common.{◌≡◌, ℕ, ◌+◌, Bool, List, length, ⊎_elim, sym, subst, arith}
use Rattle.std.specs.Prelude.{IsTrue}
use Rattle.std.proofs.lemmas.Bool.{cases_lt}
use Rattle.std.proofs.lemmas.List.{ext_get_or}
use Rattle.p414_layout.specs.declared.shape.Shape.{Shape}
use Rattle.p414_layout.specs.Shapes.{shape_at}
use Rattle.p414_state.specs.Packets.{width_at}
use Rattle.p414_act_run.specs.Fits.{AreSame}

pub none_before : (layout : List Shape) (first second : ℕ) → AreSame layout first second 0
none_before layout first second = record { widths = λ f lt. absurd (omega (arith, lt)) }

pub one_more : (layout : List Shape) (first second i : ℕ) → AreSame layout first second i → width_at layout first i ≡ width_at layout second i → AreSame layout first second (i + 1)
one_more layout first second i before here = record {
  widths = λ f lt.
      ⊎_elim (λ below. before.widths f below)
      (λ le. let is : f ≡ i = omega (arith, lt, le) in subst (λ k. width_at layout first k ≡ width_at layout second k) (sym is) here)
      (cases_lt f i);
}

pub all_widths : (layout : List Shape) (first second fields : ℕ) (same : Bool) → fields ≡ length (shape_at layout first).widths → length (shape_at layout second).widths ≡ length (shape_at layout first).widths → (IsTrue same → AreSame layout first second fields) → IsTrue same → (shape_at layout first).widths ≡ (shape_at layout second).widths
all_widths layout first second fields same all long found true_so =
    let are = found true_so in
    ext_get_or 0 (shape_at layout first).widths (shape_at layout second).widths (sym long)
    (λ k lt. are.widths k (omega (arith, all, lt)))
