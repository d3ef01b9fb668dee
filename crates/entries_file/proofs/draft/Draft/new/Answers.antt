use Rattle.std.proofs.Common.{rules, ℕ, List, ◌∷◌, length, ap, ◌∙◌, sym}
use Rattle.std.proofs.lemmas.List.{length-replicate}
use Rattle.match_core.specs.declared.entries.TableFill.{TableFill}
use Rattle.entries_file.specs.Filling.{empty_fill, table_at}
use Rattle.entries_file.proofs.DraftLaws.{none_same}
use Rattle.entries_file.proofs.draft.Draft.new.Goals as goal

pub returns : goal.returns
returns c = record {
  draft_is = record {
    tables = ap (λ (fills : List TableFill). length fills) c.in_ok-empty_fills.ensures ∙ (length-replicate c.len.result empty_fill ∙ c.len.ensures);
    colours = ap (λ (lists : List (List ℕ)). length lists) c.in_ok-no_colours.ensures ∙ (length-replicate c.len-2.result _ ∙ c.len-2.ensures);
    keys =
        λ table same. c.in_ok-new.ensures (table ∷ same)
        ∙ sym (none_same (table_at c.args.signature.now table).keys c.in_ok-empty_fills.field-0.items c.len.result table same c.in_ok-empty_fills.ensures);
    numbers = search rules;
  };
  read_is = search rules;
}
