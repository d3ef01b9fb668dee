-- A whole run.
use Rattle.std.proofs.Common.{◌≡◌, ℕ, ◌%◌, ◌^◌, List, [], refl, ap, ap₂, ◌∙◌}
use Rattle.state_store.specs.State.{Contents}
use Rattle.state_store.specs.declared.ports.Session.{Session}
use Rattle.fabric.specs.declared.packets.Arrival.{Arrival}
use Rattle.fabric.specs.declared.packets.Sent.{Sent}
use Rattle.fabric.specs.Fabric.{Whole, fabric_of}
use Rattle.fabric.specs.Twins.{AlikeWhole}
use Rattle.match_core.specs.declared.entries.Entries.{Entries}
use Rattle.match_core.specs.declared.signatures.Signature.{Signature}
use Rattle.match_core.specs.Stores.{first_store}
use Rattle.p414_syntax.specs.declared.syntax.Decl.{Decl}
use Rattle.p414_syntax.specs.declared.syntax.Rule14.{Rule14}
use Rattle.p414_laws.proofs.Whole.{comes_to_one_thing}
use Rattle.p414_ready_tables.specs.Loaded.{Loaded, setting}
use Rattle.p414_sem.specs.Controls.{Setting}
use Rattle.p414_sem.specs.Expanded.{Expanded, IsExpanded}
use Rattle.p414_sem.specs.Runs.{Between, Run14, machine14}
use Rattle.p414_sem.specs.Signatures.{signature14}
use Rattle.p414_pipe_run.specs.Packed.{OneStore, packed_machine}
use Rattle.p414_pipe_run.specs.Prepared.{Prepared, comes_to, setting_of}
use Rattle.p414_pipe_run.specs.Ran.{IsRun14}

abbrev loading : List Decl → Rule14 → Entries → Loaded
loading ds rule entries = record { decls = ds; rule = rule; entries = entries }

abbrev pub fresh : Contents → Between
fresh store = record { store = store; events = [] }

-- the whole of a run begins with the first store, and has the sessions of the entries
whole_is : (ds : List Decl) (rule : Rule14) (entries : Entries) (x : Expanded) (c : Setting) (sessions : List Session) (store : Contents) (bound : ℕ) (arrivals : List Arrival) → c ≡ setting (loading ds rule entries) x → sessions ≡ entries.sessions → store ≡ first_store (signature14 ds) entries → fabric_of (machine14 c) sessions bound (fresh store) arrivals ≡ Run14 (setting (loading ds rule entries) x) bound arrivals
unfolding Run14
whole_is ds rule entries x c sessions store bound arrivals is same first =
    ap (λ (d : Setting). fabric_of (machine14 d) sessions bound (fresh store) arrivals) is
    ∙ ap₂ (λ (l : List Session) (s : Contents). fabric_of (machine14 (setting (loading ds rule entries) x)) l bound (fresh s) arrivals) same first

-- a store of a signature is one of an equal signature
pub first_of : (ds : List Decl) (signature : Signature) (entries : Entries) (store : Contents) → signature ≡ signature14 ds → store ≡ first_store signature entries → store ≡ first_store (signature14 ds) entries
first_of ds signature entries store same is = is ∙ ap (λ (g : Signature). first_store g entries) same

pub ran_as : (ds : List Decl) (rule : Rule14) (entries : Entries) (p : Prepared) (sessions : List Session) (store : Contents) (bound : ℕ) (arrivals : List Arrival) (sent : List Sent) (cut : ℕ) (left : Between) (last : Contents) → p.loaded ≡ loading ds rule entries → IsExpanded ds (comes_to p) → sessions ≡ entries.sessions → store ≡ first_store (signature14 ds) entries
    → AlikeWhole OneStore (fabric_of (packed_machine (setting_of p)) sessions bound (fresh store) arrivals) (fabric_of (machine14 (setting_of p)) sessions bound (fresh store) arrivals)
    → sent ≡ (fabric_of (packed_machine (setting_of p)) sessions bound (fresh store) arrivals).sent
    → cut ≡ (fabric_of (packed_machine (setting_of p)) sessions bound (fresh store) arrivals).cut % 2 ^ 64
    → left ≡ (fabric_of (packed_machine (setting_of p)) sessions bound (fresh store) arrivals).state
    → last ≡ left.store
    → (x : Expanded) → IsExpanded ds x → IsRun14 (Run14 (setting (loading ds rule entries) x) bound arrivals) (record { sent = sent; store = last; cut = cut; work = 0 })
ran_as ds rule entries p sessions store bound arrivals sent cut left last loaded expanded same first alike is_sent is_cut is_left is_last x expands =
    let one : comes_to p ≡ x = comes_to_one_thing ds (comes_to p) x expanded expands in
    let c_is : setting_of p ≡ setting (loading ds rule entries) x = ap₂ setting loaded one in
    let whole = whole_is ds rule entries x (setting_of p) sessions store bound arrivals c_is same first in
    record {
      sent = is_sent ∙ (alike.0 ∙ ap (λ (w : Whole Between). w.sent) whole);
      store = is_last ∙ (ap (λ (b : Between). b.store) is_left ∙ (alike.2 ∙ ap (λ (w : Whole Between). w.state.store) whole));
      cut = is_cut ∙ ap (λ (n : ℕ). n % 2 ^ 64) (alike.1 ∙ ap (λ (w : Whole Between). w.cut) whole);
      work = refl;
    }
