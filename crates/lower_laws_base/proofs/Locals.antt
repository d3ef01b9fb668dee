-- Parameters and variables of an action, as they stand in a frame.
use Rattle.std.proofs.Common.{◌≡◌, ℕ, zero, suc, ◌<◌, true, false, List, [], ◌∷◌, length, set, refl, ap, arith}
use Rattle.p416_syntax.specs.Names.{Name}
use Rattle.v1_core.specs.Values.{Value, a_member, to_member, member_in, has_member, with_member, part_of, with_part}
use Rattle.v1_core.specs.Frames.{variable_count}
use Rattle.agreement_of_meanings.proofs.Names.{same_name, other_name}
use Rattle.lower_laws_base.specs.Context.{Local, local_at, value_at, inner_of, AreDistinct, HasNone}

tail_distinct : (l : Local) (ls : List Local) → AreDistinct (l ∷ ls) → AreDistinct ls
tail_distinct l ls distinct j k a b apart = distinct (suc j) (suc k) (omega arith) (omega arith) (λ e. apart (omega (arith, e)))

pub no_member : (ls : List Local) (vs : List Value) (text : Name) → HasNone ls text → has_member (inner_of ls vs) text ≡ false
no_member [] vs text none = refl
no_member (l ∷ ls) [] text none = refl
no_member (l ∷ ls) (v ∷ vs) text none =
    rw (other_name l.called text (none 0 (omega arith))) (no_member ls vs text (λ j lt. none (suc j) (omega arith)))

pub some_member : (ls : List Local) (vs : List Value) (j : ℕ) → j < length ls → length vs ≡ length ls → AreDistinct ls → has_member (inner_of ls vs) (local_at ls j).called ≡ true
some_member [] vs j lt count distinct = absurd (omega (arith, lt))
some_member (l ∷ ls) [] j lt count distinct = absurd (omega (arith, count))
some_member (l ∷ ls) (v ∷ vs) zero lt count distinct = rw (same_name l.called) refl
some_member (l ∷ ls) (v ∷ vs) (suc j) lt count distinct =
    rw (other_name l.called (local_at ls j).called (distinct 0 (suc j) (omega arith) lt (λ e. absurd (omega (arith, e)))))
    (some_member ls vs j (omega arith) (omega arith) (tail_distinct l ls distinct))

pub member_value : (ls : List Local) (vs : List Value) (j : ℕ) → j < length ls → length vs ≡ length ls → AreDistinct ls → member_in (inner_of ls vs) (local_at ls j).called ≡ value_at vs j
member_value [] vs j lt count distinct = absurd (omega (arith, lt))
member_value (l ∷ ls) [] j lt count distinct = absurd (omega (arith, count))
member_value (l ∷ ls) (v ∷ vs) zero lt count distinct = rw (same_name l.called) refl
member_value (l ∷ ls) (v ∷ vs) (suc j) lt count distinct =
    rw (other_name l.called (local_at ls j).called (distinct 0 (suc j) (omega arith) lt (λ e. absurd (omega (arith, e)))))
    (member_value ls vs j (omega arith) (omega arith) (tail_distinct l ls distinct))

pub member_written : (ls : List Local) (vs : List Value) (j : ℕ) (w : Value) → j < length ls → length vs ≡ length ls → AreDistinct ls → with_member (inner_of ls vs) (local_at ls j).called w ≡ inner_of ls (set vs j w)
member_written [] vs j w lt count distinct = absurd (omega (arith, lt))
member_written (l ∷ ls) [] j w lt count distinct = absurd (omega (arith, count))
member_written (l ∷ ls) (v ∷ vs) zero w lt count distinct = rw (same_name l.called) refl
member_written (l ∷ ls) (v ∷ vs) (suc j) w lt count distinct =
    rw (other_name l.called (local_at ls j).called (distinct 0 (suc j) (omega arith) lt (λ e. absurd (omega (arith, e)))))
    (ap (a_member l.called v) (member_written ls vs j w (omega arith) (omega arith) (tail_distinct l ls distinct)))

-- what stands within a frame is a struct

pub inner_part : (ls : List Local) (vs : List Value) (text : Name) → part_of (inner_of ls vs) (to_member text) ≡ member_in (inner_of ls vs) text
inner_part [] vs text = refl
inner_part (l ∷ ls) [] text = refl
inner_part (l ∷ ls) (v ∷ vs) text = refl

pub inner_put : (ls : List Local) (vs : List Value) (text : Name) (w : Value) → with_part (inner_of ls vs) (to_member text) w ≡ with_member (inner_of ls vs) text w
inner_put [] vs text w = refl
inner_put (l ∷ ls) [] text w = refl
inner_put (l ∷ ls) (v ∷ vs) text w = refl

pub inner_count : (ls : List Local) (vs : List Value) → length vs ≡ length ls → variable_count (inner_of ls vs) ≡ length ls
inner_count [] vs count = refl
inner_count (l ∷ ls) [] count = absurd (omega (arith, count))
inner_count (l ∷ ls) (v ∷ vs) count = omega (arith, inner_count ls vs (omega arith))
