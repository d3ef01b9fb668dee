-- That a moment of a ready block, where no variable is in scope, fixes the moment of the program.
use Rattle.std.proofs.Common.{◌≡◌, ℕ, List, [], ◌∷◌, length, Option, None, refl, sym, ap, ◌∙◌, arith}
use Rattle.p4x_bits.specs.BitLists.{octet_bits, IsOctets}
use Rattle.p4x_bits.proofs.BitLists.{length-octet_bits, same_octets}
use Rattle.state_store.specs.State.{Contents}
use Rattle.p416_syntax.specs.declared.program.Syntax16.{Syntax16}
use Rattle.v1_core.specs.declared.parser_error.ParserError.{ParserError}
use Rattle.v1_core.specs.Frames.{Frame, Hit, Moment}
use Rattle.v1_core.specs.Numbered.{nobody}
use Rattle.v1_core.specs.Cells.{Cells}
use Rattle.v1_core.specs.PackedFrames.{IsFrameOf}
use Rattle.v1_statement_run.specs.declared.run.Run.{Run}
use Rattle.v1_statement_run.specs.Seen.{moment, seen_hit}
use Rattle.v1_packets.specs.Packets.{packet_frame}
use Rattle.v1_passes.specs.Moments.{moment_at}
use Rattle.v1_parser_laws.specs.Shown.{Shows}
use Rattle.v1_control_run.specs.internal.Runs.{HasEnded}

abbrev moment_by : Frame → Contents → List ℕ → List ℕ → ℕ → Option ParserError → Option Hit → Moment
moment_by frame store unparsed emitted work stopped hit =
    record { frame = frame; store = store; unparsed = unparsed; emitted = emitted; work = work; stopped = stopped; hit = hit }

-- by what the parts are
of_parts : (m : Moment) (frame : Frame) (store : Contents) (unparsed emitted : List ℕ) (work : ℕ) → m.frame ≡ frame → m.store ≡ store → m.unparsed ≡ unparsed → m.emitted ≡ emitted → m.work ≡ work → m.stopped ≡ None → m.hit ≡ None → m ≡ moment_by frame store unparsed emitted work None None
of_parts m frame store unparsed emitted work f s u e w t h =
    ap (λ x. moment_by x m.store m.unparsed m.emitted m.work m.stopped m.hit) f
    ∙ ap (λ x. moment_by frame x m.unparsed m.emitted m.work m.stopped m.hit) s
    ∙ ap (λ x. moment_by frame store x m.emitted m.work m.stopped m.hit) u
    ∙ ap (λ x. moment_by frame store unparsed x m.work m.stopped m.hit) e
    ∙ ap (λ x. moment_by frame store unparsed emitted x m.stopped m.hit) w
    ∙ ap (λ x. moment_by frame store unparsed emitted work x m.hit) t
    ∙ ap (λ x. moment_by frame store unparsed emitted work None x) h

-- what a moment shows that began with these octets emitted

pub begins_so : (s : Syntax16) (c : Cells) (store : Contents) (unparsed emitted : List ℕ) (r : Run) → IsFrameOf s c → octet_bits emitted ≡ r.emitted → r.stopped ≡ None → r.hit ≡ None → Shows s nobody (moment_at s c store unparsed emitted r.work) (moment c store unparsed r)
begins_so s c store unparsed emitted r whole bits stopped hit = record {
  frame = refl;
  whole = whole;
  store = refl;
  unparsed = refl;
  emitted = bits;
  work = refl;
  stopped = sym stopped;
  hit = sym (ap seen_hit hit);
}

pub fixed : (s : Syntax16) (m : Moment) (c : Cells) (store : Contents) (unparsed emitted : List ℕ) (r : Run) → Shows s nobody m (moment c store unparsed r) → IsOctets m.emitted → HasEnded r emitted → m ≡ moment_at s c store unparsed emitted r.work
fixed s m c store unparsed emitted r shows octets ends =
    of_parts m (packet_frame s c) store unparsed emitted r.work shows.frame shows.store shows.unparsed
    (same_octets m.emitted emitted octets ends.octets (shows.emitted ∙ sym ends.emitted)) shows.work (shows.stopped ∙ ends.stopped)
    (shows.hit ∙ ap seen_hit ends.hit)

-- where nothing was emitted
silent : (octets : List ℕ) → octet_bits octets ≡ [] → IsOctets octets
silent [] is = λ k d h. absurd (omega (arith, h))
silent (x ∷ octets) is = absurd (omega (arith, ap length is, length-octet_bits (x ∷ octets)))

pub fixed_silently : (s : Syntax16) (m : Moment) (c : Cells) (store : Contents) (unparsed : List ℕ) (r : Run) → Shows s nobody m (moment c store unparsed r) → HasEnded r [] → m ≡ moment_at s c store unparsed [] r.work
fixed_silently s m c store unparsed r shows ends =
    fixed s m c store unparsed [] r shows (silent m.emitted (shows.emitted ∙ sym ends.emitted)) ends
