-- A program that is made ready: its tables are filled with its entries, and its ready blocks do what its blocks do.
use Rattle.std.proofs.Common.{◌≡◌, List, sym, ap, subst, ◌∙◌}
use Rattle.state_store.specs.declared.shapes.Shape.{Shape}
use Rattle.state_store.specs.State.{Contents}
use Rattle.match_core.specs.declared.entries.Entries.{Entries}
use Rattle.match_core.specs.declared.signatures.Signature.{Signature}
use Rattle.match_core.specs.Fits.{Fits}
use Rattle.match_core.specs.Stores.{first_store}
use Rattle.match_core.specs.Tables.{tables_of}
use Rattle.p416_syntax.specs.declared.program.Syntax16.{Syntax16}
use Rattle.p416_syntax.specs.Breaks.{BreaksNone, program_rules}
use Rattle.v1_core.specs.Signatures.{signature16}
use Rattle.v1_core.specs.Surroundings.{Setting}
use Rattle.v1_core.specs.Layouts.{Layout}
use Rattle.v1_core.specs.Programs.{layout16}
use Rattle.v1_ready_blocks.specs.Tables.{Fill}
use Rattle.v1_control_run.specs.Prepared.{objects_of}
use Rattle.v1_program_laws.specs.Laws.{IsFilledWith}
use Rattle.v1_ready_whole.specs.declared.program.ReadyBlocks.{ReadyBlocks as Made}
use Rattle.v1_ready_whole.specs.Ready.{AreReadyBlocks}
use Rattle.v1model_runner.specs.declared.ready.ReadyBlocks.{ReadyBlocks}
use Rattle.v1model_runner.specs.Ready.{AreReady}
use Rattle.v1model_program.specs.Laws.{taken}
use Rattle.v1model_program.proofs.Blocks.{blocks_do}

abbrev setting : Syntax16 → Entries → Setting
setting s e = record { syntax = s; entries = e }

filled_with : (p : Syntax16) (g : Signature) (e : Entries) (fill : Fill) → g ≡ signature16 p → Fits e g → fill ≡ record { tables = tables_of g e; fills = e.tables } → IsFilledWith (setting p e) fill
filled_with p g e fill signed fits is = record {
  tables = ap (λ (f : Fill). f.tables) is ∙ ap (λ (x : Signature). tables_of x e) signed;
  fills = ap (λ (f : Fill). f.fills) is;
  fits = subst (Fits e) signed fits;
}

-- a store that a run begins with has the objects of the program
shaped : (p : Syntax16) (g : Signature) (e : Entries) (store : Contents) (shapes : List Shape) → g ≡ signature16 p → store ≡ first_store g e → shapes ≡ store.shapes → shapes ≡ objects_of (setting p e)
shaped p g e store shapes signed first are =
    are ∙ ap (λ (x : Contents). x.shapes) (first ∙ ap (λ (x : Signature). first_store x e) signed)

made_of : (p s : Syntax16) (l : Layout) (shapes more : List Shape) (made : Made) → s ≡ p → l ≡ layout16 p → shapes ≡ more → AreReadyBlocks s l shapes made → AreReadyBlocks p (layout16 p) more made
made_of p s l shapes more made same laid are is =
    subst (λ (x : Syntax16). AreReadyBlocks x (layout16 p) more made) same
    (subst (λ (x : Layout). AreReadyBlocks s x more made) laid (subst (λ (x : List Shape). AreReadyBlocks s l x made) are is))

pub are_ready : (p s q : Syntax16) (g : Signature) (e : Entries) (l : Layout) (fill : Fill) (store : Contents) (shapes : List Shape) (made : Made) (b : ReadyBlocks) → BreaksNone p program_rules → s ≡ p → q ≡ s → l ≡ layout16 p → g ≡ signature16 p → Fits e g → fill ≡ record { tables = tables_of g e; fills = e.tables } → store ≡ first_store g e → shapes ≡ store.shapes → AreReadyBlocks s l shapes made → b ≡ taken made → AreReady (setting q e) fill b
are_ready p s q g e l fill store shapes made b accepted same packets laid signed fits fills first are is takes =
    subst (λ (x : Syntax16). AreReady (setting x e) fill b) (sym (packets ∙ same))
    (subst (AreReady (setting p e) fill) (sym takes)
    (blocks_do (setting p e) fill made accepted (filled_with p g e fill signed fits fills) (made_of p s l shapes (objects_of (setting p e)) made same laid (shaped p g e store shapes signed first are) is)))

pub laid_so : (p s q : Syntax16) (l : Layout) → l ≡ layout16 p → s ≡ p → q ≡ s → l ≡ layout16 q
laid_so p s q l laid same packets = laid ∙ sym (ap layout16 (packets ∙ same))

-- what is made sees the program and its entries
pub seen_so : (p s q : Syntax16) (e : Entries) (c : Setting) → s ≡ p → q ≡ s → c ≡ setting q e → c ≡ setting p e
seen_so p s q e c same packets is = is ∙ ap (λ (x : Syntax16). setting x e) (packets ∙ same)
