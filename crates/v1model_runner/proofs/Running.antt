-- The run of a program that is made ready.
use Rattle.std.proofs.Common.{◌≡◌, ℕ, ◌%◌, ◌^◌, List, [], ◌∷◌, ◌++◌, length, sym, ap, subst, ◌∙◌}
use Rattle.state_store.specs.declared.ports.Session.{Session}
use Rattle.state_store.specs.State.{Contents}
use Rattle.state_store.specs.Ports.{AreSessions}
use Rattle.match_core.specs.declared.signatures.Signature.{Signature}
use Rattle.match_core.specs.declared.entries.Entries.{Entries}
use Rattle.match_core.specs.Stores.{first_store}
use Rattle.match_core.specs.Fits.{Fits}
use Rattle.fabric.specs.declared.items.Event.{Event}
use Rattle.fabric.specs.declared.packets.Arrival.{Arrival}
use Rattle.fabric.specs.declared.packets.Out.{Out}
use Rattle.fabric.specs.declared.packets.Sent.{Sent}
use Rattle.fabric.specs.Queue.{Run}
use Rattle.fabric.specs.Fabric.{Whole, fabric, followed, one_of}
use Rattle.v1_core.specs.Surroundings.{Setting}
use Rattle.v1_core.specs.Signatures.{signature16}
use Rattle.v1_core.specs.Passes.{Between}
use Rattle.v1_core.specs.Runs.{Run16, Work16, before, machine16}
use Rattle.v1_passes.specs.Runs.{between_of, run_on}
use Rattle.v1_control_run.specs.Prepared.{objects_of}
use Rattle.v1_control_run.specs.Running.{Running}
use Rattle.v1model_runner.specs.Runs.{ComesNext, IsBehind}

pub first_is : (c : Setting) (g : Signature) (e : Entries) (store : Contents) → store ≡ first_store g e → g ≡ signature16 c.syntax → e ≡ c.entries → store ≡ first_store (signature16 c.syntax) c.entries
first_is c g e store is signature entries =
    is ∙ ap (λ (x : Signature). first_store x e) signature ∙ ap (first_store (signature16 c.syntax)) entries

-- a store that a run begins with has the objects of the program
pub first_shapes : (c : Setting) (g : Signature) (e : Entries) (store : Contents) → store ≡ first_store g e → g ≡ signature16 c.syntax → e ≡ c.entries → store.shapes ≡ objects_of c
first_shapes c g e store is signature entries = ap (λ (x : Contents). x.shapes) (first_is c g e store is signature entries)

pub state_before : (c : Setting) (state : Between) → state.store ≡ first_store (signature16 c.syntax) c.entries → state.work ≡ 0 → state.events ≡ [] → state ≡ before c
state_before c state store work events =
    let B : Contents → ℕ → List Event → Between = λ s n es. record { store = s; work = n; events = es } in
    ap (λ (s : Contents). B s state.work state.events) store
    ∙ ap (λ (n : ℕ). B (first_store (signature16 c.syntax) c.entries) n state.events) work
    ∙ ap (B (first_store (signature16 c.syntax) c.entries) 0) events

pub begins : (c : Setting) (bound : ℕ) (r blocks : Running) (sessions slice : List Session) (e : Entries) (work : ℕ) (events : List Event) → Run16 c bound [] ≡ record { state = before c; sent = []; cut = 0 } → r ≡ blocks → blocks.setting ≡ c → blocks.store ≡ first_store (signature16 c.syntax) c.entries → sessions ≡ slice → slice ≡ e.sessions → e ≡ c.entries → work ≡ 0 → events ≡ [] → IsBehind c bound [] r.setting sessions (between_of r.store work events)
begins c bound r blocks sessions slice e work events none same runs first are lie entries counted applied = record {
  runs_it = ap (λ (x : Running). x.setting) same ∙ runs;
  sessions_are = are ∙ lie ∙ ap (λ (x : Entries). x.sessions) entries;
  state_is =
      state_before c (between_of r.store work events) (ap (λ (x : Running). x.store) same ∙ first) counted applied
      ∙ sym (ap (λ (w : Whole Between). w.state) none);
}

abbrev fate_of : Setting → List Session → ℕ → Between → Arrival → Run Between
fate_of c sessions bound state arrival = fabric (machine16 c) sessions bound state arrival

pub comes_next : (c d : Setting) (bound : ℕ) (arrivals : List Arrival) (arrival : Arrival) (sessions : List Session) (state new : Between) (sent : List Out) (cut : ℕ) → IsBehind c bound arrivals d sessions state → fabric (machine16 d) sessions bound state arrival ≡ record { state = new; sent = sent; cut = cut } → Run16 c bound (arrivals ++ arrival ∷ []) ≡ run_on c bound (length arrivals) (Run16 c bound arrivals) arrival → ComesNext c bound arrivals arrival sent cut new
comes_next c d bound arrivals arrival sessions state new sent cut behind comes goes = record {
  run =
      goes ∙ ap (λ (r : Run Between). followed (Run16 c bound arrivals) (one_of (length arrivals) r))
      (sym (ap (λ (x : Setting). fate_of x c.entries.sessions bound (Run16 c bound arrivals).state arrival) behind.runs_it)
      ∙ sym (ap (λ (x : List Session). fate_of d x bound (Run16 c bound arrivals).state arrival) behind.sessions_are)
      ∙ sym (ap (λ (x : Between). fate_of d sessions bound x arrival) behind.state_is) ∙ comes);
}

pub behind_next : (c d e : Setting) (bound : ℕ) (arrivals : List Arrival) (arrival : Arrival) (sessions more : List Session) (state new : Between) (sent : List Out) (cut : ℕ) → IsBehind c bound arrivals d sessions state → fabric (machine16 d) sessions bound state arrival ≡ record { state = new; sent = sent; cut = cut } → Run16 c bound (arrivals ++ arrival ∷ []) ≡ run_on c bound (length arrivals) (Run16 c bound arrivals) arrival → e ≡ d → more ≡ sessions → IsBehind c bound (arrivals ++ arrival ∷ []) e more new
behind_next c d e bound arrivals arrival sessions more state new sent cut behind comes goes same still = record {
  runs_it = same ∙ behind.runs_it;
  sessions_are = still ∙ behind.sessions_are;
  state_is = sym (ap (λ (w : Whole Between). w.state) (comes_next c d bound arrivals arrival sessions state new sent cut behind comes goes).run);
}

-- the blocks run the program that is ready

pub first_of : (c d : Setting) (store : Contents) → store ≡ first_store (signature16 c.syntax) c.entries → d ≡ c → store ≡ first_store (signature16 d.syntax) d.entries
first_of c d store is same =
    is ∙ sym (ap (λ (x : Setting). first_store (signature16 x.syntax) x.entries) same)

pub sessions_of : (c d : Setting) (e : Entries) (sessions : List Session) → d ≡ c → e ≡ c.entries → sessions ≡ e.sessions → d.entries.sessions ≡ sessions
sessions_of c d e sessions same entries are =
    ap (λ (x : Setting). x.entries.sessions) same ∙ sym (ap (λ (x : Entries). x.sessions) entries) ∙ sym are

pub sessions_fit : (e : Entries) (g : Signature) (f : Entries) (sessions : List Session) → Fits e g → f ≡ e → sessions ≡ f.sessions → AreSessions sessions
sessions_fit e g f sessions fits is are =
    subst AreSessions (sym (are ∙ ap (λ (x : Entries). x.sessions) is)) fits.sessions

pub sent_so : (c d : Setting) (bound : ℕ) (arrivals : List Arrival) (sent : List Sent) → sent ≡ (Run16 d bound arrivals).sent → d ≡ c → sent ≡ (Run16 c bound arrivals).sent
sent_so c d bound arrivals sent is same = is ∙ ap (λ (x : Setting). (Run16 x bound arrivals).sent) same

pub store_so : (c d : Setting) (bound : ℕ) (arrivals : List Arrival) (store : Contents) → store ≡ (Run16 d bound arrivals).state.store → d ≡ c → store ≡ (Run16 c bound arrivals).state.store
store_so c d bound arrivals store is same =
    is ∙ ap (λ (x : Setting). (Run16 x bound arrivals).state.store) same

pub cut_so : (c d : Setting) (bound : ℕ) (arrivals : List Arrival) (cut : ℕ) → cut ≡ (Run16 d bound arrivals).cut % 2 ^ 64 → d ≡ c → cut ≡ (Run16 c bound arrivals).cut % 2 ^ 64
cut_so c d bound arrivals cut is same = is ∙ ap (λ (x : Setting). (Run16 x bound arrivals).cut % 2 ^ 64) same

pub work_so : (c d : Setting) (bound : ℕ) (arrivals : List Arrival) (work : ℕ) → work ≡ Work16 d bound arrivals → d ≡ c → work ≡ Work16 c bound arrivals
work_so c d bound arrivals work is same = is ∙ ap (λ (x : Setting). Work16 x bound arrivals) same

pub fits_so : (e f : Entries) (g : Signature) → Fits e g → f ≡ e → Fits f g
fits_so e f g fits is = subst (λ (x : Entries). Fits x g) (sym is) fits

pub setting_so : (b : Running) (c : Setting) (store : Contents) → b ≡ record { setting = c; store = store } → b.setting ≡ c
setting_so b c store is = ap (λ (x : Running). x.setting) is

pub begun_so : (b : Running) (c : Setting) (g : Signature) (e : Entries) (store : Contents) → b ≡ record { setting = c; store = store } → store ≡ first_store g e → g ≡ signature16 c.syntax → e ≡ c.entries → b.store ≡ first_store (signature16 c.syntax) c.entries
begun_so b c g e store is first signature entries =
    ap (λ (x : Running). x.store) is ∙ first_is c g e store first signature entries
