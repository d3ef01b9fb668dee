-- A run of what is made ready is a run of the program.
use Rattle.std.proofs.Common.{◌≡◌, ℕ, ◌%◌, ◌^◌, List, sym, ap, subst, ◌∙◌}
use Rattle.fabric.specs.declared.packets.Arrival.{Arrival}
use Rattle.fabric.specs.declared.packets.RunResult.{RunResult}
use Rattle.match_core.specs.declared.entries.Entries.{Entries}
use Rattle.match_core.specs.declared.signatures.Signature.{Signature}
use Rattle.match_core.specs.Fits.{Fits}
use Rattle.p416_syntax.specs.declared.program.Syntax16.{Syntax16}
use Rattle.v1_core.specs.Signatures.{signature16}
use Rattle.v1_core.specs.Surroundings.{Setting}
use Rattle.v1_core.specs.Runs.{Run16, Work16}
use Rattle.v1model_program.specs.Ran.{IsRun16}

-- the signature that was made is that of what is ready
pub signed_so : (p s : Syntax16) (g : Signature) → s ≡ p → g ≡ signature16 s → g ≡ signature16 p
signed_so p s g same signed = signed ∙ ap signature16 same

pub ready_signed : (c : Setting) (e : Entries) (p : Syntax16) (g : Signature) → c ≡ record { syntax = p; entries = e } → g ≡ signature16 p → g ≡ signature16 c.syntax
ready_signed c e p g is signed = signed ∙ sym (ap (λ (x : Setting). signature16 x.syntax) is)

pub made_fits : (p : Syntax16) (e : Entries) (g : Signature) → g ≡ signature16 p → Fits e (signature16 p) → Fits e g
made_fits p e g signed fits = subst (Fits e) (sym signed) fits

pub ready_fits : (c : Setting) (p : Syntax16) (e : Entries) (g : Signature) → c ≡ record { syntax = p; entries = e } → Fits e g → Fits c.entries g
ready_fits c p e g is fits = subst (λ (x : Setting). Fits x.entries g) (sym is) fits

pub ran_so : (c d : Setting) (bound : ℕ) (arrivals : List Arrival) (ran : RunResult) → c ≡ d → ran.sent ≡ (Run16 c bound arrivals).sent → ran.store ≡ (Run16 c bound arrivals).state.store → ran.cut ≡ (Run16 c bound arrivals).cut % 2 ^ 64 → ran.work ≡ Work16 c bound arrivals → IsRun16 d bound arrivals ran
ran_so c d bound arrivals ran same sent store cut work = subst (λ (x : Setting). IsRun16 x bound arrivals ran) same (record { sent = sent; store = store; cut = cut; work = work })
