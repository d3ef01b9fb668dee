-- What the code keeps beside what was read.
use Rattle.std.specs.Prelude.{◌≡◌, ℕ, ◌<◌, List, ◌∷◌, Option, Some, unwrap_or, if◌then◌else◌, Result, Ok, Err, length, map, slice_index_or}
use Rattle.std.specs.Ordering.{nat_cmp, is_eq}
use Rattle.std.specs.declared.cmp.Ordering.{Ordering}
use Rattle.std.specs.Cmp.Lexicographic.{slice_cmp}
use Rattle.std.specs.BTreeMap.{BTreeMap, get, get_by}
use Rattle.std.specs.BTreeSet.{contains}
use Rattle.match_core.specs.declared.signatures.TableSig.{TableSig}
use Rattle.match_core.specs.declared.signatures.Signature.{Signature}
use Rattle.match_core.specs.declared.entries.Entries.{Entries}
use Rattle.entries_file.specs.declared.fault.Stop.{Stop}
use Rattle.entries_file.specs.declared.fault.Stop.TheVariants.{Memory, Broken}
use Rattle.p4x_fault.specs.declared.Fault.{Fault}
use Rattle.entries_file.specs.declared.fault.EntryFault.{EntryFault}
use Rattle.entries_file.specs.declared.fault.EntryFault.TheVariants as fault
use Rattle.entries_file.specs.declared.draft.Draft.{Draft}
use Rattle.entries_file.specs.declared.name_index.NameIndex.{NameIndex}
use Rattle.entries_file.specs.declared.calls.Names.{Names}
use Rattle.text_lines.specs.Words.{Word}
use Rattle.entries_file.specs.internal.KeySets.{has_key}
use Rattle.entries_file.specs.Filling.{table_at, fill_at}
use Rattle.entries_file.specs.Rules.{place_of, table_name, action_name, meter_name, has_same, has_session}
use Rattle.entries_file.specs.Reading.{Judgement, fault_at}

-- the new map has the number at the key, where the old one had none, and else what the old one had
abbrev pub IsPut : {K : Type 0} → (K → K → Ordering) → BTreeMap K ℕ → BTreeMap K ℕ → K → ℕ → Type 0
IsPut {K} cmp old new key i =
    (other : K)
    → get cmp new other ≡ (if is_eq (cmp key other) then Some (unwrap_or (get cmp old key) i) else get cmp old other)

-- what a map from names has for a name
abbrev pub name_found : {K : Type 0} → (K → Word) → BTreeMap K ℕ → Word → Option ℕ
name_found now map name = get_by (λ key. slice_cmp nat_cmp name (now key)) map

-- for each name the map has the number of the first that has it
abbrev pub IsNameIndex : {K : Type 0} → (K → Word) → BTreeMap K ℕ → List (Option Word) → Type 0
IsNameIndex now map names = (name : Word) → name_found now map name ≡ place_of names name

-- the names of each table's actions are found
pub record AreActionIndexes (tables : List TableSig) (indexes : List NameIndex) : Type 0 where
  pub count : length indexes ≡ length tables
  pub each : (table : ℕ) (d : TableSig) (e : NameIndex) → table < length tables
      → IsNameIndex (λ key. key.now) (slice_index_or indexes table e).map
      (map action_name (slice_index_or tables table d).actions)

-- the names of the signature are found
pub record IsNames (g : Signature) (names : Names) : Type 0 where
  pub tables : IsNameIndex (λ key. key.now) names.tables.map (map table_name g.tables)
  pub actions : AreActionIndexes g.tables names.actions.items
  pub meters : IsNameIndex (λ key. key.now) names.meters.map (map meter_name g.objects)

-- what was read, as entries
abbrev pub drafted : Draft → Entries
drafted draft = record { tables = draft.tables.items; sessions = draft.sessions; colours = draft.colours.items }

-- There is a fill for each table and a list of colours for each object. The keys of the entries, each behind
-- the number of its table, and the numbers of the sessions are found.
pub record IsDraft (g : Signature) (draft : Draft) : Type 0 where
  pub tables : length draft.tables.items ≡ length g.tables
  pub colours : length draft.colours.items ≡ length g.objects
  pub keys : (table : ℕ) (same : List ℕ)
      → has_key draft.keys (table ∷ same)
      ≡ has_same (table_at g table).keys (fill_at (drafted draft) table) same
  pub numbers : (number : ℕ) → contains nat_cmp draft.numbers number ≡ has_session draft.sessions number

-- the draft is one of what was read then
pub record IsDraftOf (g : Signature) (read : Entries) (draft : Draft) : Type 0 where
  pub draft_is : IsDraft g draft
  pub read_is : drafted draft ≡ read

-- the line is judged so: the draft has what was read with it, or the rule is the one that it breaks
abbrev pub IsJudged : Signature → Judgement → Draft → Result (Unit {0}) Stop → Type 0
IsJudged g judgement draft (Ok done) = IsDraft g draft × (judgement ≡ Ok (drafted draft))
IsJudged g judgement draft (Err (Broken rule)) = judgement ≡ Err rule
IsJudged g judgement draft (Err Memory) = Unit {0}

-- why a line isn't taken, as the reader tells it
abbrev pub fault_of : ℕ → Stop → EntryFault
fault_of line Memory = fault.Memory
fault_of line (Broken rule) = fault.Refused (fault_at line rule)

-- the lines are read so: the draft has what they say, or the fault is that of the first broken one
abbrev pub IsRead : Signature → Result Entries Fault → Draft → Result (Unit {0}) EntryFault → Type 0
IsRead g read draft (Ok done) = IsDraft g draft × (read ≡ Ok (drafted draft))
IsRead g read draft (Err (fault.Refused broken)) = read ≡ Err broken
IsRead g read draft (Err fault.Memory) = Unit {0}
