-- The packets of a capture that was run are such as come in, and the entries fit.
use Rattle.std.proofs.Common.{◌≡◌, ℕ, All, OnOk, List, Option, Some, Result, Ok, Err, Vec, sym, ◌∙◌, ap, subst}
use Rattle.std.specs.declared.alloc.Global.{Global}
use Rattle.p4x_io.specs.Desk.{DeskView}
use Rattle.state_store.specs.Ports.{IsPort}
use Rattle.match_core.specs.Fits.{Fits}
use Rattle.match_core.specs.Signatures.{IsSignature}
use Rattle.match_core.specs.declared.entries.Entries.{Entries}
use Rattle.pcap_io.specs.Captures.{reading_of, IsRecord}
use Rattle.command_words.specs.Words.{Run16Files, run16_inputs}
use Rattle.file_work.specs.declared.stop.Stop.{Stop}
use Rattle.file_work.specs.Phases.{line_view}
use Rattle.file_work.specs.Works.{Tells}
use Rattle.command_inputs.specs.EntriesFile.{entries_in}
use Rattle.command_inputs.specs.PortsFile.{ports_end}
use Rattle.run_stream.proofs.Packets.{packets_fit}
use Rattle.p416_syntax.specs.declared.program.Syntax16.{Syntax16}
use Rattle.v1_core.specs.Signatures.{signature16}
use Rattle.program16_file.specs.Answers.{AnswersFile}
use Rattle.run16_cmd.specs.Calls.{PacketsFit, EntriesFit}
use Rattle.run16_cmd.specs.Run16.{filled}

pub packets_of : (f : Run16Files) (old mid : DeskView) (held : List ℕ) (result : Result (Vec ℕ Global) Stop)
    → ((files : List ℕ → Option (List ℕ)) → Tells (run16_inputs f) old files → ports_end files f.ports ≡ Ok held)
    → ((file : Option (List ℕ)) → old.told f.capture ≡ Some file → mid.told f.capture ≡ Some file) → All IsPort held
    → OnOk result ((text : List ℕ) → mid.told f.capture ≡ Some (Some text) → All IsRecord (reading_of text).records)
    → PacketsFit f old (line_view result)
packets_of f old mid held (Err stop) ends here fits known = tt
packets_of f old mid held (Ok line) ends here fits known = λ files octets ports told is taken.
    let mine : ports_end files f.ports ≡ Ok held = ends files told in
    let same : held ≡ ports = cc (mine, taken) in
    packets_fit ports (reading_of octets).records (subst (λ (l : List ℕ). All IsPort l) same fits)
    (known octets (here (Some octets) (told.1.1.0 ∙ ap (λ (o : Option (List ℕ)). Some o) is)))

-- what holds of the program that was read, and of its entries, holds of all that the files come to
pub entries_of : (f : Run16Files) (old : DeskView) (s : Syntax16) (e : Entries) (result : Result (Vec ℕ Global) Stop)
    → ((file : Option (List ℕ)) → old.told f.text ≡ Some file → AnswersFile file (Ok s))
    → ((file : Option (List ℕ)) → old.told f.entries ≡ Some file → entries_in (signature16 s) file ≡ Ok e)
    → IsSignature (signature16 s) → Fits e (signature16 s) → EntriesFit f old (line_view result)
entries_of f old s e (Err stop) answers fill formed fits = tt
entries_of f old s e (Ok line) answers fill formed fits = λ files t d told has.
    let found : ◌≡◌ {A = Result Syntax16 Stop} (Ok t) (Ok s) = (answers (files f.text) told.0).1 (Ok t) has.0 in
    let same : t ≡ s = cc found in
    let filling : ◌≡◌ {A = Result Entries Stop} (Ok d) (Ok e) = sym has.1 ∙ ap (filled f files) same ∙ fill (files f.entries) told.1.0 in
    let equal : d ≡ e = cc filling in (
      subst (λ (p : Syntax16). IsSignature (signature16 p)) (sym same) formed,
      subst (λ (p : Syntax16). Fits d (signature16 p)) (sym same) (subst (λ (c : Entries). Fits c (signature16 s)) (sym equal) fits),
    )

-- what is known of a file is known of it as it was
pub known_before : (result : Result (Vec ℕ Global) Stop) (old mid : Option (Option (List ℕ))) (P : List ℕ → Type 0) → mid ≡ old
    → OnOk result ((text : List ℕ) → mid ≡ Some (Some text) → P text) → OnOk result ((text : List ℕ) → old ≡ Some (Some text) → P text)
known_before (Ok line) old mid P same known = λ text is. known text (same ∙ is)
known_before (Err stop) old mid P same known = tt
