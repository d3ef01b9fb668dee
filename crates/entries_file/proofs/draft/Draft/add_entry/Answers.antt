use Rattle.std.proofs.Common.{◌≡◌, ◌∙◌, ◌<◌, ◌∷◌, List, sym, ap, refl, subst, not, false, length, get_or, arith}
use Rattle.std.proofs.lemmas.List.{get_or_read, length-set}
use Rattle.match_core.specs.declared.signatures.KeySpec.{KeySpec}
use Rattle.match_core.specs.declared.signatures.TableSig.{TableSig}
use Rattle.match_core.specs.declared.entries.TableFill.{TableFill}
use Rattle.entries_file.specs.Filling.{table_at, empty_fill, entry_put}
use Rattle.match_core.specs.Identity.{identity}
use Rattle.entries_file.specs.Rules.{has_same, is_full}
use Rattle.entries_file.specs.internal.Drafts.{drafted}
use Rattle.entries_file.proofs.DraftLaws.{KeysFound, keys_put, key_new, not_full}
use Rattle.entries_file.proofs.draft.Draft.add_entry.Goals as goal

pub returns : goal.returns
returns c =
    let g = c.args.signature.now in
    let table = c.args.table in
    let fills = c.args.self.now.tables.items in
    let within : table < length fills = omega (arith, c.requires.table, c.requires.draft.tables) in
    let sig : c.index-as_slice-table.result ≡ table_at g table =
    get_or_read g.tables table c.index-as_slice-table.result c.requires.table (subst (λ (tables : List TableSig). c.index-as_slice-table.result ≡ get_or tables table c.index-as_slice-table.result) c.as_slice.ensures c.index-as_slice-table.is) _ in
    let fill : c.index.result.now ≡ get_or fills table empty_fill = get_or_read fills table c.index.result.now within c.index.ensures empty_fill in
    let key : c.in_ok-key.key ≡ table ∷ identity (table_at g table).keys c.args.entry =
    c.in_ok-key.ensures ∙ ap (λ (specs : List KeySpec). table ∷ identity specs c.args.entry) (c.as_slice-2.ensures ∙ ap (λ (t : TableSig). t.keys) sig) in
    let new : has_same (table_at g table).keys (get_or fills table empty_fill) (identity (table_at g table).keys c.args.entry) ≡ false =
    sym (key_new g fills c.args.self.now.keys table c.args.entry c.in_ok-key.key c.in-Ok.is_new key c.requires.draft.keys c.in-Ok.ensures.added) ∙ ap not c.if-not-is_new.false in
    let room : is_full (table_at g table) (get_or fills table empty_fill) ≡ false =
    not_full c.index-as_slice-table.result (table_at g table) c.index.result.now (get_or fills table empty_fill) c.len.result sig fill c.len.ensures c.if-len-sig.false in
    let put : entry_put fills table c.args.entry ≡ c.push_entry.new.fills.items = sym c.in_ok-push_entry.ensures in (
      rw (new, room) refl,
      record {
        draft_is = record {
          tables = ap (λ (fs : List TableFill). length fs) (sym put) ∙ (length-set fills table _ ∙ c.requires.draft.tables);
          colours = c.requires.draft.colours;
          keys = subst (λ (fs : List TableFill). KeysFound g fs c.insert.new.self) put
              (keys_put g fills c.args.self.now.keys c.insert.new.self table c.args.entry c.in_ok-key.key within key c.requires.draft.keys c.in-Ok.ensures.updates);
          numbers = c.requires.draft.numbers;
        };
        read_is = ap (λ (fs : List TableFill). record (drafted c.args.self.now) { tables = fs }) (sym put);
      },
    )
