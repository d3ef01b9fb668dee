-- The packets of a capture that was read are such as come in.
use Rattle.std.proofs.Common.{◌≡◌, ℕ, All, OnOk, List, Option, Some, Result, Ok, Err, Vec, ◌∙◌, ap, subst}
use Rattle.std.specs.declared.alloc.Global.{Global}
use Rattle.p4x_io.specs.Desk.{DeskView}
use Rattle.state_store.specs.Ports.{IsPort}
use Rattle.pcap_io.specs.Captures.{reading_of, IsRecord}
use Rattle.command_words.specs.Words.{CarryFiles, carry_inputs}
use Rattle.file_work.specs.declared.stop.Stop.{Stop}
use Rattle.file_work.specs.Phases.{line_view}
use Rattle.file_work.specs.Works.{Tells}
use Rattle.command_inputs.specs.PortsFile.{ports_end}
use Rattle.run_stream.proofs.Packets.{packets_fit}
use Rattle.p4x_cmd.specs.Calls.{PacketsFit}

pub packets_of : (f : CarryFiles) (old mid : DeskView) (held : List ℕ) (result : Result (Vec ℕ Global) Stop)
    → ((files : List ℕ → Option (List ℕ)) → Tells (carry_inputs f) old files → ports_end files f.ports ≡ Ok held)
    → ((file : Option (List ℕ)) → old.told f.capture ≡ Some file → mid.told f.capture ≡ Some file) → All IsPort held
    → OnOk result ((text : List ℕ) → mid.told f.capture ≡ Some (Some text) → All IsRecord (reading_of text).records)
    → PacketsFit f old (line_view result)
packets_of f old mid held (Err stop) ends here fits known = tt
packets_of f old mid held (Ok line) ends here fits known = λ files octets ports told is taken.
    let mine : ports_end files f.ports ≡ Ok held = ends files told in
    let same : held ≡ ports = cc (mine, taken) in
    packets_fit ports (reading_of octets).records (subst (λ (l : List ℕ). All IsPort l) same fits)
    (known octets (here (Some octets) (told.1.1.0 ∙ ap (λ (o : Option (List ℕ)). Some o) is)))
