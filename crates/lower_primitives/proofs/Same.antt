-- What is written for a row is what the mirror writes for its primitive.
use Rattle.std.proofs.Common.{◌^◌, ◌≡◌, inl, inr, ℕ, suc, Bool, true, false, ◌&&◌, cond, pos, negsuc, List, [], ◌∷◌, map, nat_lt, refl, sym, ap, ap₂, ◌∙◌, subst}
use Rattle.std.specs.Prelude.{codes}
use Rattle.std.proofs.lemmas.Bool.{true≢false}
use Rattle.p414_syntax.specs.declared.calculations.Item.{Item}
use Rattle.p414_syntax.specs.declared.calculations.Item.TheVariants as old
use Rattle.p414_syntax.specs.declared.syntax.Decl.{Decl}
use Rattle.p414_sem.specs.declared.standard.Standard.TheVariants.{IngressPort, EgressSpec, EgressPort, PacketLength, InstanceType}
use Rattle.p414_sem.specs.Slots.{Slot, standard, declared, Target, slot_of}
use Rattle.p414_sem.specs.Calculations.{Calculation}
use Rattle.p414_sem.specs.Operations.{Source, number, field, parameter, Term, just, on_mask, sum, difference, conjunction, disjunction, exclusive, left_shift, right_shift, cell, hashed, Primitive, write, add_header, remove_header, copy_header, push, pop, count_cell, write_cell, execute_meter, ask, nothing}
use Rattle.p414_slots.specs.Shown.{slot_in, kept_slot}
use Rattle.p414_ready_actions.specs.declared.rows.ReadyPrimitive.{ReadyPrimitive}
use Rattle.p414_ready_actions.specs.Rows.{kept_source, kept_target, kept_term, kept_primitive}
use Rattle.p414_ready_actions.specs.Running.{shown_source, shown_target, shown_term}
use Rattle.p416_syntax.specs.declared.parts.Type16.TheVariants.{Bit}
use Rattle.p416_syntax.specs.Tree.{Exp16, literal, name, argument, no_arguments, Stmt16, var, assign}
use Rattle.lower_laws_base.specs.Context.{Words, At, now}
use Rattle.lower_laws_base.specs.Mirror.{plain, sized, slot_exp, drop_stmt, guarded}
use Rattle.lower_laws_actions.specs.Mirror.{signed, term_exp, write_exp, stopped_exp, item_exp, items_exp, own_exp, hash_stmt, hash_stmts, algorithm_width, read_front, front, rest, meter_stmts, drops, write_guarded}
use Rattle.lower_rows.specs.declared.calculations.CalculationRow.{CalculationRow}
use Rattle.lower_expressions.specs.declared.table.WordsTable.{WordsTable}
use Rattle.lower_expressions.specs.Table.{words_in}
use Rattle.lower_primitives.specs.Rows.{row_item_exp, row_items_exp, row_hash_stmts, row_front, row_rest}
use Rattle.lower_rows.specs.Calculations.{kept_item, kept_calculation}
use Rattle.lower_expressions.proofs.Kept.{slot_same, source_same}
use Rattle.lower_primitives.specs.Kept.{is_plain_term, is_plain, IsKept}

-- what is kept of a term and shown again

pub term_same : (x : Term) → is_plain_term x ≡ true → shown_term (kept_term x) ≡ x
term_same (just a) e = ap just (source_same a)
term_same (on_mask a b) e = ap₂ on_mask (source_same a) (source_same b)
term_same (sum a b) e = ap₂ sum (source_same a) (source_same b)
term_same (difference a b) e = ap₂ difference (source_same a) (source_same b)
term_same (conjunction a b) e = ap₂ conjunction (source_same a) (source_same b)
term_same (disjunction a b) e = ap₂ disjunction (source_same a) (source_same b)
term_same (exclusive a b) e = ap₂ exclusive (source_same a) (source_same b)
term_same (left_shift a b) e = ap₂ left_shift (source_same a) (source_same b)
term_same (right_shift a b) e = ap₂ right_shift (source_same a) (source_same b)
term_same (cell object a) e = ap (cell object) (source_same a)
term_same (hashed a c b) e = absurd (true≢false (sym e))

module _ (ds : List Decl) (w : Words) (at : At) (K : ℕ) where
  -- fronts

  front_same : (width : ℕ) (x : Term) → is_plain_term x ≡ true → read_front [] w at K width x ≡ read_front ds w at K width x
  front_same width (just a) e = refl
  front_same width (on_mask a b) e = refl
  front_same width (sum a b) e = refl
  front_same width (difference a b) e = refl
  front_same width (conjunction a b) e = refl
  front_same width (disjunction a b) e = refl
  front_same width (exclusive a b) e = refl
  front_same width (left_shift a b) e = refl
  front_same width (right_shift a b) e = refl
  front_same width (cell object a) e = refl
  front_same width (hashed a c b) e = absurd (true≢false (sym e))

  item_same : (i : Item) → row_item_exp w at (kept_item ds i) ≡ item_exp ds w at i
  item_same (old.Number n) = refl
  item_same (old.Field r) = ap (slot_exp w at) (slot_same (slot_of ds r))
  item_same old.Payload = refl
  item_same (old.Instance i) = refl

  items_same : (given : Exp16) (items : List Item) → row_items_exp w at given (map (kept_item ds) items) ≡ items_exp ds w at given items
  items_same given [] = refl
  items_same given (i ∷ items) = ap (λ e. row_items_exp w at (argument given e) (map (kept_item ds) items)) (item_same i) ∙ items_same (argument given (item_exp ds w at i)) items

  -- what is written does not ask whether the field saturates

  target_same : (t u : Target) (x : Term) → t.slot ≡ u.slot → t.width ≡ u.width → term_exp w at K t x ≡ term_exp w at K u x
  target_same t u x slots widths = subst (λ s. term_exp w at K (record { slot = t.slot; width = t.width; saturating = t.saturating }) x ≡ term_exp w at K (record { slot = s; width = u.width; saturating = u.saturating }) x) slots (subst (λ k. term_exp w at K (record { slot = t.slot; width = t.width; saturating = t.saturating }) x ≡ term_exp w at K (record { slot = t.slot; width = k; saturating = u.saturating }) x) widths (free t.slot t.width t.saturating u.saturating x)) where
    free : (s : Slot) (k : ℕ) (a b : Bool) (x : Term) → term_exp w at K (record { slot = s; width = k; saturating = a }) x ≡ term_exp w at K (record { slot = s; width = k; saturating = b }) x
    free s k a b (just c) = refl
    free s k a b (on_mask c d) = refl
    free s k a b (sum c d) = refl
    free s k a b (difference c d) = refl
    free s k a b (conjunction c d) = refl
    free s k a b (disjunction c d) = refl
    free s k a b (exclusive c d) = refl
    free s k a b (left_shift c d) = refl
    free s k a b (right_shift c d) = refl
    free s k a b (cell object c) = refl
    free s k a b (hashed c d f) = refl

  write_same : (sums : Bool) (t : Target) (x : Term) → is_plain_term x ≡ true → write_exp w at K true (shown_target (kept_target sums t)) (shown_term (kept_term x)) ≡ write_exp w at K sums t x
  write_same sums t x e =
      ap (write_exp w at K true (shown_target (kept_target sums t))) (term_same x e)
      ∙ ap (λ y. cond (sums && t.saturating) (stopped_exp w at t.width x) y) (target_same (shown_target (kept_target sums t)) t (signed x) (slot_same t.slot) refl)

  hash_same : (width : ℕ) (base : Source) (c : Calculation) (bound : Source) (b : Bool) → row_hash_stmts w at K width (shown_source (kept_source base)) (kept_calculation ds c) (shown_source (kept_source bound)) b ≡ hash_stmts ds w at K width base c bound b
  hash_same width base c bound b =
      ap₂ (λ (x y : Source). row_hash_stmts w at K width x (kept_calculation ds c) y b) (source_same base) (source_same bound) ∙ by b where
        by : (b : Bool) → row_hash_stmts w at K width base (kept_calculation ds c) bound b ≡ hash_stmts ds w at K width base c bound b
        by false =
            ap (λ e. var (Bit (plain width)) (w.spare K 0) ∷ hash_stmt (w.spare K 0) c.algorithm (own_exp w at base) e (own_exp w at bound) ∷ []) (items_same no_arguments c.items)
        by true =
            ap (λ e.
            var (Bit (plain c.width)) (w.spare K 1)
            ∷ hash_stmt (w.spare K 1) c.algorithm (literal (sized 1 0)) e (literal (sized (suc c.width) (2 ^ c.width)))
            ∷ var (Bit (plain width)) (w.spare K 0)
            ∷ hash_stmt (w.spare K 0) (codes "identity") (own_exp w at base) (argument no_arguments (name (w.spare K 1))) (own_exp w at bound) ∷ [])
            (items_same no_arguments c.items)

-- a field that is written
guarded_same : (w : Words) (at : At) (s u : Slot) (e f : Exp16) → s ≡ u → e ≡ f → guarded w at s (assign (slot_exp w now s) e) ≡ guarded w at u (assign (slot_exp w now u) f)
guarded_same w at s u e f slots values = ap₂ (λ (r : Slot) (x : Exp16). guarded w at r (assign (slot_exp w now r) x)) slots values

-- no hash drops the packet
no_drop : (s : Slot) (a : Source) (c : Calculation) (b : Source) → drops s (hashed a c b) ≡ false
no_drop (standard IngressPort) a c b = refl
no_drop (standard EgressSpec) a c b = refl
no_drop (standard EgressPort) a c b = refl
no_drop (standard PacketLength) a c b = refl
no_drop (standard InstanceType) a c b = refl
no_drop (declared i e k) a c b = refl

-- a meter asks only for the slot and the width of its field
metered_same : (w : Words) (at : At) (K object : ℕ) (a b : Source) (t u : Target) → a ≡ b → t.slot ≡ u.slot → t.width ≡ u.width → meter_stmts w at K object a t ≡ meter_stmts w at K object b u
metered_same w at K object a b t u sources slots widths =
    ap (λ x. meter_stmts w at K object x t) sources
    ∙ ap (λ r. meter_stmts w at K object b (record { slot = r; width = t.width; saturating = t.saturating })) slots
    ∙ ap (λ k. meter_stmts w at K object b (record { slot = u.slot; width = k; saturating = t.saturating })) widths

module _ (ds : List Decl) (t : WordsTable) (at : At) (K : ℕ) where
  plain_front : (p : Primitive) → is_plain p ≡ true → row_front t at K (kept_primitive p) ≡ front ds (words_in t) at K p
  plain_front (write sums target x) e = ap (read_front [] (words_in t) at K target.width) (term_same x e) ∙ front_same ds (words_in t) at K target.width x e
  plain_front (add_header h) e = refl
  plain_front (remove_header h) e = refl
  plain_front (copy_header h from) e = refl
  plain_front (push stack count) e = refl
  plain_front (pop stack count) e = refl
  plain_front (count_cell object index) e = refl
  plain_front (write_cell object index value) e = refl
  plain_front (execute_meter object index target) e = refl
  plain_front (ask kind session list) e = refl
  plain_front nothing e = refl

  plain_rest : (p : Primitive) → is_plain p ≡ true → row_rest t at K (kept_primitive p) ≡ rest (words_in t) at K p
  plain_rest (write sums target x) e =
      ap₂ (λ (b : Bool) (y : Stmt16). cond b (drop_stmt (words_in t)) y ∷ []) (ap₂ drops (slot_same target.slot) (term_same x e))
      (guarded_same (words_in t) at (slot_in (kept_slot target.slot)) target.slot _ _ (slot_same target.slot) (write_same ds (words_in t) at K sums target x e))
  plain_rest (add_header h) e = refl
  plain_rest (remove_header h) e = refl
  plain_rest (copy_header h from) e = refl
  plain_rest (push stack count) e = refl
  plain_rest (pop stack count) e = refl
  plain_rest (count_cell object index) e = ap (λ a. rest (words_in t) at K (count_cell object a)) (source_same index)
  plain_rest (write_cell object index value) e = ap₂ (λ (a b : Source). rest (words_in t) at K (write_cell object a b)) (source_same index) (source_same value)
  plain_rest (execute_meter object index target) e = metered_same (words_in t) at K object (shown_source (kept_source index)) index (shown_target (kept_target true target)) target (source_same index) (slot_same target.slot) refl
  plain_rest (ask kind session list) e = ap (λ a. rest (words_in t) at K (ask kind a list)) (source_same session)
  plain_rest nothing e = refl

  pub front_of : (p : Primitive) (row : ReadyPrimitive) → IsKept ds t p row → row_front t at K row ≡ front ds (words_in t) at K p
  front_of p row (inl k) = ap (row_front t at K) k.row_is ∙ plain_front p k.plain
  front_of p row (inr k) =
      ap (row_front t at K) k.row_is
      ∙ ap (λ (c : CalculationRow). row_hash_stmts (words_in t) at K k.target.width (shown_source (kept_source k.base)) c (shown_source (kept_source k.bound)) (nat_lt c.width (algorithm_width c.algorithm))) k.calculation_is
      ∙ hash_same ds (words_in t) at K k.target.width k.base k.calculation k.bound (nat_lt k.calculation.width (algorithm_width k.calculation.algorithm))
      ∙ ap (front ds (words_in t) at K) (sym k.primitive_is)

  pub rest_of : (p : Primitive) (row : ReadyPrimitive) → IsKept ds t p row → row_rest t at K row ≡ rest (words_in t) at K p
  rest_of p row (inl k) = ap (row_rest t at K) k.row_is ∙ plain_rest p k.plain
  rest_of p row (inr k) =
      ap (row_rest t at K) k.row_is
      ∙ ap (λ y. y ∷ []) (guarded_same (words_in t) at (slot_in (kept_slot k.target.slot)) k.target.slot _ _ (slot_same k.target.slot) refl)
      ∙ ap (λ b. cond b (drop_stmt (words_in t)) (write_guarded (words_in t) at K false k.target (hashed k.base k.calculation k.bound)) ∷ []) (sym (no_drop k.target.slot k.base k.calculation k.bound))
      ∙ ap (rest (words_in t) at K) (sym k.primitive_is)
