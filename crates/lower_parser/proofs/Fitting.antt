-- Turns of the loops that ask whether rows can be written, and what lengths of rows tell.
use Rattle.std.proofs.Common.{◌≡◌, ℕ, ◌+◌, ◌<◌, ◌≤◌, List, [], ◌∷◌, length, get_or, drop, map, refl, sym, ap, ◌∙◌, subst}
use Rattle.std.proofs.lemmas.List.{drop_all, drop_more, length-map}
use Rattle.p414_slots.specs.Shown.{slot_in}
use Rattle.p414_ready_parser.specs.declared.rows.ReadyStatement.{ReadyStatement}
use Rattle.p414_ready_parser.specs.declared.rows.SelectPart.{SelectPart}
use Rattle.p414_ready_parser.specs.declared.rows.ReadyState.{ReadyState}
use Rattle.p414_ready_parser.specs.declared.rows.InitialRow.{InitialRow}
use Rattle.agreement_of_meanings.specs.Shown.{Shown, NamedField, fields_of, shown_at}
use Rattle.lower_laws_base.specs.Context.{Words}
use Rattle.lower_rows.specs.declared.instances.Form.{Form}
use Rattle.lower_rows.specs.declared.instances.Form.TheVariants as form
use Rattle.lower_rows.specs.declared.instances.InstanceRow.{InstanceRow}
use Rattle.lower_rows.specs.Named.{instance_shown, named_field, shown_as}
use Rattle.lower_expressions.specs.declared.table.WordsTable.{WordsTable}
use Rattle.lower_expressions.specs.Table.{words_in}
use Rattle.lower_expressions.specs.Has.{SlotHas}
use Rattle.lower_parser.specs.Has.{StatementHas, StatementsHave, ValueHas, PartsHave, StateHas, StatesHave, InitialsHave}
use Rattle.lower_parser.specs.Rows.{parts_in}

-- lengths

pub instance_within : (t : WordsTable) (k : ℕ) → k < length t.instances.now → k < length (words_in t).names.instances
instance_within t k lt = subst (λ n. k < n) (sym (length-map t.instances.now instance_shown)) lt

fields_as : (x : Form) (called : List ℕ) (fields : List NamedField) → fields_of (shown_as x called fields) ≡ fields
fields_as form.Header called fields = refl
fields_as form.Stack called fields = refl
fields_as form.Metadata called fields = refl

pub field_within : (x : InstanceRow) (s : Shown) (k : ℕ) → instance_shown x ≡ s → k < length x.fields → k < length (fields_of s)
field_within x s k is lt =
    subst (λ n. k < n)
    (sym (length-map x.fields named_field) ∙ ap length (sym (fields_as x.form x.called (map named_field x.fields))) ∙ ap (λ (y : Shown). length (fields_of y)) is) lt

-- where those that are left have it, all have

pub statement_more : (w : Words) (rows : List ReadyStatement) (i : ℕ) (d : ReadyStatement) → i < length rows → StatementHas w (get_or rows i d) → (StatementsHave w (drop i rows) → StatementsHave w rows) → StatementsHave w (drop (i + 1) rows) → StatementsHave w rows
statement_more w rows i d lt here all rest = all (subst (StatementsHave w) (sym (drop_more rows i d lt)) (here, rest))

pub statements_end : (w : Words) (rows : List ReadyStatement) (i : ℕ) → length rows ≤ i → (StatementsHave w (drop i rows) → StatementsHave w rows) → StatementsHave w rows
statements_end w rows i le all = all (subst (StatementsHave w) (sym (drop_all i rows le)) tt)

pub part_more : (w : Words) (rows : List SelectPart) (i : ℕ) (d : SelectPart) → i < length rows → ValueHas w (get_or rows i d).value → (PartsHave w (drop i rows) → PartsHave w rows) → PartsHave w (drop (i + 1) rows) → PartsHave w rows
part_more w rows i d lt here all rest = all (subst (PartsHave w) (sym (drop_more rows i d lt)) (here, rest))

pub parts_end : (w : Words) (rows : List SelectPart) (i : ℕ) → length rows ≤ i → (PartsHave w (drop i rows) → PartsHave w rows) → PartsHave w rows
parts_end w rows i le all = all (subst (PartsHave w) (sym (drop_all i rows le)) tt)

pub state_by : (w : Words) (row : ReadyState) (parts : List SelectPart) → StatementsHave w row.statements → parts ≡ parts_in row.end → PartsHave w parts → StateHas w row
state_by w row parts statements same have = record { statements = statements; parts = subst (PartsHave w) same have }

pub state_more : (w : Words) (rows : List ReadyState) (i : ℕ) (d : ReadyState) → i < length rows → StateHas w (get_or rows i d) → (StatesHave w (drop i rows) → StatesHave w rows) → StatesHave w (drop (i + 1) rows) → StatesHave w rows
state_more w rows i d lt here all rest = all (subst (StatesHave w) (sym (drop_more rows i d lt)) (here, rest))

pub states_end : (w : Words) (rows : List ReadyState) (i : ℕ) → length rows ≤ i → (StatesHave w (drop i rows) → StatesHave w rows) → StatesHave w rows
states_end w rows i le all = all (subst (StatesHave w) (sym (drop_all i rows le)) tt)

pub initial_more : (w : Words) (rows : List InitialRow) (i : ℕ) (d : InitialRow) → i < length rows → SlotHas w (slot_in (get_or rows i d).slot) → (InitialsHave w (drop i rows) → InitialsHave w rows) → InitialsHave w (drop (i + 1) rows) → InitialsHave w rows
initial_more w rows i d lt here all rest = all (subst (InitialsHave w) (sym (drop_more rows i d lt)) (here, rest))

pub initials_end : (w : Words) (rows : List InitialRow) (i : ℕ) → length rows ≤ i → (InitialsHave w (drop i rows) → InitialsHave w rows) → InitialsHave w rows
initials_end w rows i le all = all (subst (InitialsHave w) (sym (drop_all i rows le)) tt)
