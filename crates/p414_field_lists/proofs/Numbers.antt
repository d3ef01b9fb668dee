-- The lowest bits of a number, and bits behind each other.
use Rattle.std.proofs.Common.{◌≡◌, ℕ, ◌+◌, ◌-◌, ◌*◌, ◌/◌, ◌%◌, ◌^◌, ◌<◌, ◌≤◌, Bool, List, [], ◌∷◌, ◌++◌, length, get_or, drop, bit_or, refl, sym, ap, ap₂, ◌∙◌, append_assoc, append-nil, arith, pow_pos, add-one, drop-cons}
use Rattle.std.proofs.lemmas.List.{drop_all}
use Rattle.std.proofs.Math.Nat.{mod-lt, div-eq_of_lt}
use Rattle.p4x_bits.specs.BitLists.{bits}
use Rattle.p4x_bits.proofs.BitLists.{bits-mod, bits-add, bits-append}
use Rattle.p4x_bits.proofs.Masks.{joined_below, pushed_is}
use Rattle.p414_sem.specs.State.{State}
use Rattle.p414_field_lists.specs.declared.rows.ItemRow.{ItemRow}
use Rattle.p414_field_lists.specs.Rows.{row_bits, rows_bits}

pub low_below : (width value low : ℕ) → low ≡ value % 2 ^ width → low < 2 ^ width
low_below width value low is = rw is (mod-lt value (pow_pos width))

pub low_bits : (old new : List Bool) (width value low : ℕ) → low ≡ value % 2 ^ width → new ≡ old ++ bits width low → new ≡ old ++ bits width value
low_bits old new width value low is put =
    put ∙ ap (λ (n : ℕ). old ++ bits width n) is ∙ ap (λ (l : List Bool). old ++ l) (bits-mod width value)

-- more bits than 128
pub wide_bits : (old mid new : List Bool) (width value : ℕ) → 128 < width → value < 2 ^ 128 → mid ≡ old ++ bits (width - 128) 0 → new ≡ mid ++ bits 128 value → new ≡ old ++ bits width value
wide_bits old mid new width value wide fits front back =
    let whole : (width - 128) + 128 ≡ width = omega arith in
    let none : value / 2 ^ 128 ≡ 0 = div-eq_of_lt fits in
    back
    ∙ ap (λ (l : List Bool). l ++ bits 128 value) front
    ∙ append_assoc old (bits (width - 128) 0) (bits 128 value)
    ∙ ap (λ (n : ℕ). old ++ (bits (width - 128) n ++ bits 128 value)) (sym none)
    ∙ ap (λ (l : List Bool). old ++ l) (sym (bits-add (width - 128) 128 value))
    ∙ ap (λ (n : ℕ). old ++ bits n value) whole

-- a number behind another one, where both are at most 128 bits

pub no_bits : bits 0 0 ≡ []
unfolding bits
no_bits = refl

pub joined_fits : (number done count value low : ℕ) → number < 2 ^ done → done + count ≤ 128 → low ≡ value % 2 ^ count → bit_or (number * 2 ^ count % 340282366920938463463374607431768211456) low < 2 ^ (done + count)
joined_fits number done count value low fits short is =
    let below : low < 2 ^ count = low_below count value low is in
    rw (pushed_is number done count low fits short below) (joined_below number low done count fits below)

pub joined_bits : (number done count value low : ℕ) → number < 2 ^ done → done + count ≤ 128 → low ≡ value % 2 ^ count → bits (done + count) (bit_or (number * 2 ^ count % 340282366920938463463374607431768211456) low) ≡ bits done number ++ bits count value
joined_bits number done count value low fits short is =
    let below : low < 2 ^ count = low_below count value low is in
    ap (bits (done + count)) (pushed_is number done count low fits short below)
    ∙ (sym (bits-append done count number low below)
    ∙ (ap (λ (n : ℕ). bits done number ++ bits count n) is
    ∙ ap (λ (l : List Bool). bits done number ++ l) (bits-mod count value)))

-- bits behind those of a run, which went into the list

pub put_before : (old mid run none one more : List Bool) → mid ≡ old ++ run → none ≡ [] → one ≡ none ++ more → mid ++ one ≡ old ++ (run ++ more)
put_before old mid run none one more put empty joins =
    ap₂ (λ (a b : List Bool). a ++ b) put (joins ∙ ap (λ (l : List Bool). l ++ more) empty) ∙ append_assoc old run more

pub put_behind : (old mid new run none more : List Bool) → mid ≡ old ++ run → none ≡ [] → new ≡ mid ++ more → new ++ none ≡ old ++ (run ++ more)
put_behind old mid new run none more put empty is =
    ap₂ (λ (a b : List Bool). a ++ b) is empty
    ∙ (append-nil (mid ++ more) ∙ (ap (λ (l : List Bool). l ++ more) put ∙ append_assoc old run more))

-- the loop over rows, with a run behind the list

pub rows_begin : (list none more : List Bool) → none ≡ [] → list ++ (none ++ more) ≡ list ++ more
rows_begin list none more empty = ap (λ (l : List Bool). list ++ (l ++ more)) empty

pub next_rows : (s : State) (rows : List ItemRow) (i : ℕ) (d : ItemRow) (list run new left due : List Bool) → i < length rows → new ++ left ≡ list ++ run ++ row_bits s (get_or rows i d) → list ++ (run ++ rows_bits s (drop i rows)) ≡ due → new ++ (left ++ rows_bits s (drop (i + 1) rows)) ≡ due
next_rows s rows i d list run new left due lt put all =
    let rest = rows_bits s (drop (i + 1) rows) in
    let next : drop i rows ≡ get_or rows i d ∷ drop (i + 1) rows = rw (add-one, drop-cons rows i d lt) refl in
    sym (append_assoc new left rest)
    ∙ (ap (λ (l : List Bool). l ++ rest) put
    ∙ (append_assoc (list ++ run) (row_bits s (get_or rows i d)) rest
    ∙ (append_assoc list run (row_bits s (get_or rows i d) ++ rest)
    ∙ (ap (λ (l : List ItemRow). list ++ (run ++ rows_bits s l)) (sym next) ∙ all))))

pub rows_end : (s : State) (rows : List ItemRow) (i : ℕ) (list run new due : List Bool) → length rows ≤ i → list ++ (run ++ rows_bits s (drop i rows)) ≡ due → new ≡ list ++ run → new ≡ due
rows_end s rows i list run new due le all put =
    put
    ∙ (ap (λ (l : List Bool). list ++ l) (sym (append-nil run))
    ∙ (ap (λ (l : List ItemRow). list ++ (run ++ rows_bits s l)) (sym (drop_all i rows le)) ∙ all))
