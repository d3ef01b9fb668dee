-- What a write does to all values of a program's frame.
use Rattle.std.proofs.Common.{◌≡◌, ℕ, zero, suc, true, Option, Some, List, [], ◌∷◌, length, get_or, set, refl, sym, ap, ◌∙◌, subst, IfSome}
use Rattle.p416_syntax.specs.Kinds.{Kind}
use Rattle.p416_syntax.specs.Scopes.{Layout as TypeLayout}
use Rattle.v1_core.specs.Values.{Value, no_value, Step, part_at, with_part_at, fitted}
use Rattle.v1_core.specs.Cells.{Cells, owner_valid}
use Rattle.v1_core.specs.Seats.{Form, form_of, Start, behind, Seat, seat, behind_seat, seat_at}
use Rattle.v1_core.specs.PackedValues.{value_from, seat_value}
use Rattle.v1_core.specs.Laid.{IsLaid}
use Rattle.v1_core.specs.Programs.{seat_in, behind_kinds, values_from, AreLaid}
use Rattle.v1_core.proofs.Starts.{Before, at_once, before_both, ends_behind, Within, within_more}
use Rattle.v1_core.proofs.Same.{Same, narrow, value_same}
use Rattle.v1_core.proofs.Reading.{seat_read}
use Rattle.v1_core.proofs.Writing.{Puts, replaced, write_replaces, seat_write}

-- one value

-- with what fits it in the place of a part
pub value_put : (types : List TypeLayout) (c d : Cells) (path : List Step) (n : ℕ) (k : Form) (b : Start) (t : Seat) (v : Value) → d.layout ≡ c.layout → IsLaid c.layout types n k b → seat_at types path (seat n k b) ≡ Some t → Same c d b t.start → Same c d (behind_seat types t) (behind types n k b) → (owner_valid c.valids t.owner ≡ true → fitted (seat_value types c t) v ≡ seat_value types d t) → with_part_at path v (value_from types c n k b) ≡ value_from types d n k b
value_put types c d path n k b t v layout laid is l m live =
    let old = value_from types c n k b in
    let x = fitted (part_at path old) v in
    let reads : part_at path old ≡ seat_value types c t =
    subst (λ (o : Option Seat). IfSome o (λ t. part_at path old ≡ seat_value types c t)) is (seat_read types c path n k b laid) in
    let puts : Puts types c d x b (behind types n k b) (replaced path x old) (value_from types d n k b) t =
    subst (λ (o : Option Seat). IfSome o (Puts types c d x b (behind types n k b) (replaced path x old) (value_from types d n k b))) is (seat_write types c d path n k b x layout laid) in
    write_replaces path v old ∙ puts.put l m (λ on. ap (λ (y : Value). fitted y v) reads ∙ live on)

pub value_within : (types : List TypeLayout) (c : Cells) (path : List Step) (n : ℕ) (k : Form) (b : Start) (t : Seat) → IsLaid c.layout types n k b → seat_at types path (seat n k b) ≡ Some t → Within types b (behind types n k b) t
value_within types c path n k b t laid is =
    let x = value_from types c n k b in
    let puts : Puts types c c x b (behind types n k b) (replaced path x x) x t =
    subst (λ (o : Option Seat). IfSome o (Puts types c c x b (behind types n k b) (replaced path x x) x)) is (seat_write types c c path n k b x refl laid) in
    puts.within

-- values one after another

pub kinds_end : (types : List TypeLayout) (kinds : List Kind) (b : Start) → Before b (behind_kinds types kinds b)
kinds_end types [] b = at_once b
kinds_end types (k ∷ kinds) b =
    let next = behind types (length types) (form_of k) b in
    before_both b next (behind_kinds types kinds next) (ends_behind types (length types) (form_of k) b) (kinds_end types kinds next)

pub values_same : (types : List TypeLayout) (c d : Cells) (kinds : List Kind) (b : Start) → Same c d b (behind_kinds types kinds b) → values_from types c kinds b ≡ values_from types d kinds b
values_same types c d [] b same = refl
values_same types c d (k ∷ kinds) b same =
    let n = length types in
    let next = behind types n (form_of k) b in
    let end = behind_kinds types kinds next in
    ap (λ (v : Value). v ∷ values_from types c kinds next) (value_same types c d n (form_of k) b (narrow c d b b next end (at_once b) (kinds_end types kinds next) same))
    ∙ ap (λ (l : List Value). value_from types d n (form_of k) b ∷ l) (values_same types c d kinds next (narrow c d b next end end (ends_behind types n (form_of k) b) (at_once end) same))

-- the value with a number, one of whose parts alone differs
pub record PutsValue (types : List TypeLayout) (c d : Cells) (path : List Step) (v : Value) (kinds : List Kind) (number : ℕ) (b : Start) (t : Seat) : Type 0 where
  pub within : Within types b (behind_kinds types kinds b) t
  pub put : Same c d b t.start → Same c d (behind_seat types t) (behind_kinds types kinds b) → (owner_valid c.valids t.owner ≡ true → fitted (seat_value types c t) v ≡ seat_value types d t) → set (values_from types c kinds b) number (with_part_at path v (get_or (values_from types c kinds b) number no_value)) ≡ values_from types d kinds b
  pub read : part_at path (get_or (values_from types c kinds b) number no_value) ≡ seat_value types c t

pub values_put : (types : List TypeLayout) (c d : Cells) (path : List Step) (v : Value) (kinds : List Kind) (number : ℕ) (b : Start) (o : Seat) (t : Seat) → d.layout ≡ c.layout → AreLaid c.layout types kinds b → seat_in types kinds b number ≡ Some o → seat_at types path o ≡ Some t → PutsValue types c d path v kinds number b t
values_put types c d path v [] number b o t layout laid is at = absurd (cc is)
values_put types c d path v (k ∷ kinds) zero b o t layout laid is at =
    let n = length types in
    let f = form_of k in
    let next = behind types n f b in
    let end = behind_kinds types kinds next in
    let here : seat_at types path (seat n f b) ≡ Some t = subst (λ (x : Option Seat). IfSome x (λ s. seat_at types path s ≡ Some t)) (sym is) at in
    let within : Within types b next t = value_within types c path n f b t laid.0 here in
    let rest : Before next end = kinds_end types kinds next in
    record {
      within = within_more types b b next end t (at_once b) rest within;
      put = λ l m live.
          ap (λ (x : Value). x ∷ values_from types c kinds next)
          (value_put types c d path n f b t v layout laid.0 here l (narrow c d (behind_seat types t) (behind_seat types t) next end (at_once (behind_seat types t)) rest m) live)
          ∙ ap (λ (l : List Value). value_from types d n f b ∷ l) (values_same types c d kinds next (narrow c d (behind_seat types t) next end end within.ends (at_once end) m));
      read = subst (λ (x : Option Seat). IfSome x (λ s. part_at path (value_from types c n f b) ≡ seat_value types c s)) here (seat_read types c path n f b laid.0);
    }
values_put types c d path v (k ∷ kinds) (suc number) b o t layout laid is at =
    let n = length types in
    let f = form_of k in
    let next = behind types n f b in
    let end = behind_kinds types kinds next in
    let grows : Before b next = ends_behind types n f b in
    let rest : PutsValue types c d path v kinds number next t = values_put types c d path v kinds number next o t layout laid.1 is at in
    record {
      within = within_more types b next end end t grows (at_once end) rest.within;
      put = λ l m live.
          ap (λ (x : Value). x ∷ set (values_from types c kinds next) number (with_part_at path v (get_or (values_from types c kinds next) number no_value)))
          (value_same types c d n f b (narrow c d b b next t.start (at_once b) rest.within.begins l))
          ∙ ap (λ (r : List Value). value_from types d n f b ∷ r) (rest.put (narrow c d b next t.start t.start grows (at_once t.start) l) m live);
      read = rest.read;
    }
