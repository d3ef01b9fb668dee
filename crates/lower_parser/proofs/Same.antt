-- What is written for the row of a state is what the mirror writes for the state: statements.
use Rattle.std.proofs.Common.{◌≡◌, ℕ, List, [], ◌∷◌, map, sum, refl, sym, ap, ap₂, ◌∙◌, Option, Some, None}
use Rattle.std.specs.Prelude.{codes}
use Rattle.p414_syntax.specs.declared.parts.Index.{Index}
use Rattle.p414_syntax.specs.declared.parts.Index.TheVariants as index
use Rattle.p414_syntax.specs.declared.parts.Inst.{Inst}
use Rattle.p414_syntax.specs.declared.parsers.PValue.{PValue}
use Rattle.p414_syntax.specs.declared.parsers.PValue.TheVariants as pvalue
use Rattle.p414_syntax.specs.declared.parsers.PStmt.{PStmt}
use Rattle.p414_syntax.specs.declared.parsers.PStmt.TheVariants as pstmt
use Rattle.p414_syntax.specs.declared.syntax.Decl.{Decl}
use Rattle.p414_syntax.specs.Names.{Name}
use Rattle.p414_syntax.specs.Uses.{last_behind, last_of}
use Rattle.p414_syntax.specs.Selects.{value_bits}
use Rattle.p414_syntax.specs.ParserGraph.{instance_number}
use Rattle.p414_sem.specs.Slots.{Slot, standard, declared, slot_of, bits_of_ref, field_number}
use Rattle.p414_sem.specs.Operations.{field}
use Rattle.p414_slots.specs.Shown.{slot_in, kept_slot}
use Rattle.p414_ready_parser.specs.Rows.{value_row, fixed_element, statement_row, statement_rows, select_part, part_width, key_bits}
use Rattle.p416_syntax.specs.declared.node.BinaryOperator.TheVariants.{Concatenate}
use Rattle.p416_syntax.specs.Tree.{Exp16, name, index as at_index, member, binary, Stmt16, then, assign}
use Rattle.agreement_of_meanings.specs.Shown.{Shown, as_header, as_stack, as_metadata, name_of, fields_of, field_at, shown_at, standard_word, slot_width}
use Rattle.lower_laws_base.specs.Context.{Words, now}
use Rattle.lower_laws_base.specs.Mirror.{plain, slot_exp, source_exp, resized, width_in, instance_exp, element_exp}
use Rattle.lower_laws_parser.specs.Words.{ParserWords, indexed, value_exp, extract_stmt, stmt_of, body_of, part_exp, key_from, key_exp, width_of_key}
use Rattle.lower_parser.specs.Rows.{row_part, row_value, row_stmt, element_behind, element_of, rows_behind, row_key_part, row_key_from, row_key}
use Rattle.lower_parser.specs.Elements.{element_in}
use Rattle.lower_parser.specs.Written.{NamesAre, parser_names}

-- what is kept of a slot shows it again
pub slot_same : (s : Slot) → slot_in (kept_slot s) ≡ s
slot_same (standard which) = refl
slot_same (declared i e k) = refl

pub behind_same : (ds : List Decl) (last : Option Inst) (q : PStmt) → element_behind (element_in last) (statement_row ds last q) ≡ element_in (last_behind last q)
behind_same ds last (pstmt.Extract i) = refl
behind_same ds last (pstmt.SetMetadata r v) = refl

pub last_same : (ds : List Decl) (last : Option Inst) (qs : List PStmt) → element_of (element_in last) (statement_rows ds last qs) ≡ element_in (last_of last qs)
last_same ds last [] = refl
last_same ds last (q ∷ qs) =
    ap (λ e. element_of e (statement_rows ds (last_behind last q) qs)) (behind_same ds last q) ∙ last_same ds (last_behind last q) qs

widths_same : (ds : List Decl) (last : Option Inst) (vs : List PValue) → map part_width (map (select_part ds last) vs) ≡ map (value_bits ds last) vs
widths_same ds last [] = refl
widths_same ds last (v ∷ vs) = ap (λ l. value_bits ds last v ∷ l) (widths_same ds last vs)

pub bits_same : (ds : List Decl) (last : Option Inst) (vs : List PValue) → key_bits (map (select_part ds last) vs) ≡ sum (map (value_bits ds last) vs)
bits_same ds last vs = ap sum (widths_same ds last vs)

-- the names that the mirror writes with
abbrev pub own : List Decl → Words
own ds = (parser_names ds).words

-- What is written with other words is the same, where instances and parameters have the same names.
module _ (ds : List Decl) (t : Words) (same : NamesAre ds t) where
  instance_words : (x : Shown) → instance_exp (own ds) now x ≡ instance_exp t now x
  instance_words (as_header called fields) = ap (λ z. member (name z) called) same.headers
  instance_words (as_stack called fields) = ap (λ z. member (name z) called) same.headers
  instance_words (as_metadata called fields) = ap (λ z. member (name z) called) same.metadata

  element_words : (x : Shown) (e : ℕ) → element_exp (own ds) now x e ≡ element_exp t now x e
  element_words (as_header called fields) e = instance_words (as_header called fields)
  element_words (as_stack called fields) e = ap (λ of. at_index of (plain e)) (instance_words (as_stack called fields))
  element_words (as_metadata called fields) e = instance_words (as_metadata called fields)

  pub shown_words : (k : ℕ) → instance_exp (own ds) now (shown_at (own ds).names.instances k) ≡ instance_exp t now (shown_at t.names.instances k)
  shown_words k = instance_words (shown_at (own ds).names.instances k) ∙ ap (λ xs. instance_exp t now (shown_at xs k)) same.instances

  pub part_words : (k e : ℕ) → element_exp (own ds) now (shown_at (own ds).names.instances k) e ≡ element_exp t now (shown_at t.names.instances k) e
  part_words k e = element_words (shown_at (own ds).names.instances k) e ∙ ap (λ xs. element_exp t now (shown_at xs k) e) same.instances

  pub slot_words : (s : Slot) → slot_exp (own ds) now s ≡ slot_exp t now s
  slot_words (standard which) = ap (λ z. member (name z) (standard_word which)) same.standard
  slot_words (declared i e k) = ap₂ (λ of xs. member of (field_at (fields_of (shown_at xs i)) k).called) (part_words i e) same.instances

  pub field_words : (width : ℕ) (s : Slot) → source_exp (own ds) now width (field s) ≡ source_exp t now width (field s)
  field_words width s = ap₂ (λ xs e. resized (slot_width xs s) width e) same.instances (slot_words s)

module _ (ds : List Decl) (t : Words) (same : NamesAre ds t) where
  abbrev p : ParserWords
  p = parser_names ds

  part_same : (word : Name) (k : ℕ) (at : Option Index) → row_part t word k (fixed_element at) ≡ indexed ds p word (shown_at (own ds).names.instances k) at
  part_same word k None = sym (part_words ds t same k 0)
  part_same word k (Some (index.At n)) = sym (part_words ds t same k n.value)
  part_same word k (Some index.Next) = ap (λ of. member of word) (sym (shown_words ds t same k))
  part_same word k (Some index.Last) = sym (part_words ds t same k 0)

  pub value_same : (last : Option Inst) (width : ℕ) (v : PValue) → row_value t (element_in last) width (value_row ds last width v) ≡ value_exp ds p last width v
  value_same last width (pvalue.Current offset bits) = refl
  value_same None width (pvalue.Latest called) = refl
  value_same (Some i) width (pvalue.Latest called) =
      let k = instance_number ds i.name in
      let j = field_number ds i.name called in
      ap₂ (λ xs e. resized (field_at (fields_of (shown_at xs k)) j).width width (member e (field_at (fields_of (shown_at xs k)) j).called)) (sym same.instances)
      (part_same (codes "last") k i.index)
  value_same last width (pvalue.Field r) =
      ap (λ s. source_exp t now width (field s)) (slot_same (slot_of ds r)) ∙ sym (field_words ds t same width (slot_of ds r))
  value_same last width (pvalue.Number n) = refl

  stmt_same : (last : Option Inst) (q : PStmt) → row_stmt t (element_in last) (statement_row ds last q) ≡ stmt_of ds p last q
  stmt_same last (pstmt.Extract i) = ap (extract_stmt ds p) (part_same (codes "next") (instance_number ds i.name) i.index)
  stmt_same last (pstmt.SetMetadata r v) =
      ap₂ assign (ap (slot_exp t now) (slot_same (slot_of ds r)) ∙ sym (slot_words ds t same (slot_of ds r))) (value_same last (bits_of_ref ds r) v)

  pub rows_same : (last : Option Inst) (x : Stmt16) (qs : List PStmt) → rows_behind t (element_in last) x (statement_rows ds last qs) ≡ body_of ds p last x qs
  rows_same last x [] = refl
  rows_same last x (q ∷ qs) =
      ap₂ (λ e y. rows_behind t e ((then) x y) (statement_rows ds (last_behind last q) qs)) (behind_same ds last q) (stmt_same last q)
      ∙ rows_same (last_behind last q) ((then) x (stmt_of ds p last q)) qs

  key_from_same : (last : Option Inst) (e : Exp16) (vs : List PValue) → row_key_from t (element_in last) e (map (select_part ds last) vs) ≡ key_from ds p last e vs
  key_from_same last e [] = refl
  key_from_same last e (v ∷ vs) =
      ap (λ y. row_key_from t (element_in last) (binary Concatenate e y) (map (select_part ds last) vs)) (value_same last (value_bits ds last v) v)
      ∙ key_from_same last (binary Concatenate e (part_exp ds p last v)) vs

  pub key_same : (last : Option Inst) (vs : List PValue) → row_key t (element_in last) (map (select_part ds last) vs) ≡ key_exp ds p last vs
  key_same last [] = refl
  key_same last (v ∷ vs) =
      ap (λ y. row_key_from t (element_in last) y (map (select_part ds last) vs)) (value_same last (value_bits ds last v) v)
      ∙ key_from_same last (part_exp ds p last v) vs
