-- What each call of the passes gives is what the meaning gives.
use Rattle.std.proofs.lemmas.List.{take_all, length-drop}
use Rattle.std.proofs.Common.{arith, take, ◌-◌, ◌≡◌, ℕ, ◌%◌, ◌^◌, Bool, true, false, cond, List, [], length, drop, Option, Some, None, option_map, refl, sym, ap, ◌∙◌, subst}
use Rattle.std.specs.Prelude.{◌==◌}
use Rattle.state_store.specs.Ports.{drop_port}
use Rattle.state_store.specs.State.{Contents}
use Rattle.fabric.specs.declared.items.Event.{Event}
use Rattle.fabric.specs.declared.items.Item.{Item}
use Rattle.fabric.specs.declared.items.IngressEnd.{IngressEnd}
use Rattle.fabric.specs.declared.items.IngressNext.{IngressNext}
use Rattle.fabric.specs.declared.items.IngressNext.TheVariants as after_ingress
use Rattle.fabric.specs.Owned.{IsOwnClone}
use Rattle.fabric.specs.declared.items.EgressEnd.{EgressEnd}
use Rattle.fabric.specs.declared.items.EgressNext.{EgressNext}
use Rattle.fabric.specs.declared.items.EgressNext.TheVariants as after_egress
use Rattle.p416_syntax.specs.declared.program.Syntax16.{Syntax16}
use Rattle.v1_core.specs.declared.block.Block.TheVariants.{Ingress, Egress, Compute, Deparse}
use Rattle.v1_core.specs.declared.parser_error.ParserError.{ParserError}
use Rattle.v1_core.specs.Values.{Value}
use Rattle.v1_core.specs.Frames.{Frame, Moment, Request}
use Rattle.v1_core.specs.Surroundings.{Setting}
use Rattle.v1_core.specs.Blocks.{control16}
use Rattle.v1_core.specs.Parsing.{Parsed, parse16}
use Rattle.v1_core.specs.Passes.{Between, Held, new_frame, egress_spec, verified_and_run, asked_clone, next_after, ingress_end, ingress16, reparse16, handed_on, egress_frame, asked_egress_clone, put_together, octets_left, leaves, egress_end, egress16, moment_of, item_moment}
use Rattle.v1_core.specs.Cells.{Cells}
use Rattle.v1_core.specs.PackedFrames.{IsFrameOf}
use Rattle.v1_packets.specs.Packets.{packet_frame, kept_value, AreFitting, egress_begun}
use Rattle.v1_pass_slots.specs.Starts.{metadata_start}
use Rattle.v1_core.specs.Programs.{layout16}
use Rattle.v1_passes.specs.Moments.{moment_at}
use Rattle.v1_passes.specs.Runs.{between_of}
use Rattle.v1_passes.specs.Tags.{Tagged, tagged, tagged_clone, tagged_next, tagged_ingress, tagged_end, tagged_egress, plain_item, tagged_machine, own_tagged}
use Rattle.v1_passes.specs.internal.Steps.{StandsAt, ArePut, verified_by, kept_by, clone_kept, handed_from, next_from, clone_held, leaves_with, finished_by, finished, Finishes}

-- as a pass begins

abbrev moment_with : Between → List ℕ → Frame → Moment
moment_with b octets f = moment_of b f octets

begun : (c : Setting) (b : Between) (came : Item (Tagged Value)) (cells : Cells) → packet_frame c.syntax cells ≡ new_frame c.syntax came.port (length came.octets % 2 ^ 32) came.instance came.kept.value → moment_at c.syntax cells b.store came.octets [] b.work ≡ item_moment c b (plain_item came)
begun c b came cells is = ap (moment_with b came.octets) is

-- blocks one after another, whose setting stays

pub ran : (c d e : Setting) (p : Parsed) (first verified last : Moment) → parse16 c first ≡ p → d ≡ c → verified_by d p.error p.moment ≡ verified → e ≡ d → control16 e Ingress verified ≡ last → verified_and_run c (parse16 c first) ≡ last
ran c d e p first verified last parses stays verifies stays_on runs =
    ap (verified_and_run c) parses
    ∙ ap (control16 c Ingress) (ap (λ (x : Setting). verified_by x p.error p.moment) (sym stays) ∙ verifies)
    ∙ ap (λ (x : Setting). control16 x Ingress verified) (sym stays ∙ sym stays_on)
    ∙ runs

pub put_is : (c d : Setting) (first second last : Moment) → d ≡ c → control16 c Compute first ≡ second → control16 d Deparse second ≡ last → put_together c first ≡ last
put_is c d first second last stays computes deparses =
    ap (control16 c Deparse) computes ∙ ap (λ (x : Setting). control16 x Deparse second) (sym stays) ∙ deparses

-- a frame of a program is one of the same program
pub frame_of_same : (s t : Syntax16) (f : Cells) → s ≡ t → IsFrameOf s f → IsFrameOf t f
frame_of_same s t f same is = subst (λ (x : Syntax16). IsFrameOf x f) same is

-- what is kept, and who asked for it

pub numbers_are : (s : Syntax16) (numbers given : List ℕ) (k : Tagged Value) → record { program = s; value = kept_value s numbers } ≡ k → given ≡ numbers → k.value ≡ kept_value k.program given
numbers_are s numbers given k is same =
    ap (λ (x : Tagged Value). x.value) (sym is)
    ∙ ap (λ (x : Tagged Value). kept_value x.program numbers) is
    ∙ ap (kept_value k.program) (sym same)

pub numbers_fit : (s : Syntax16) (numbers given : List ℕ) (k : Tagged Value) → record { program = s; value = kept_value s numbers } ≡ k → given ≡ numbers → AreFitting (layout16 s).widths (metadata_start s).slot numbers → AreFitting (layout16 k.program).widths (metadata_start k.program).slot given
numbers_fit s numbers given k is same fits =
    subst (λ (ns : List ℕ). AreFitting (layout16 k.program).widths (metadata_start k.program).slot ns) (sym same)
    (subst (λ (x : Tagged Value). AreFitting (layout16 x.program).widths (metadata_start x.program).slot numbers) is fits)

pub clone_asked : (s : Syntax16) (f : Frame) (session list : ℕ) (kept : Tagged Value) (asked : Option Request) → Some (session, list) ≡ asked → ((n : ℕ) → kept ≡ kept_by s f (n, list)) → Some (session, kept) ≡ option_map (clone_kept s f) asked
clone_asked s f session list kept asked is keeps =
    ap (λ (k : Tagged Value). Some (session, k)) (keeps session) ∙ ap (option_map (clone_kept s f)) is

pub again_asked : (s : Syntax16) (f : Frame) (session list : ℕ) (kept : Tagged Value) (asked : Option Request) → Some (session, list) ≡ asked → ((n : ℕ) → kept ≡ kept_by s f (n, list)) → Some kept ≡ option_map (kept_by s f) asked
again_asked s f session list kept asked is keeps =
    ap (λ (k : Tagged Value). Some k) (keeps session) ∙ ap (option_map (kept_by s f)) is

-- as a pass begins, with what is kept by its numbers
pub begins_at : (s t : Syntax16) (cells : Cells) (k : Tagged Value) (numbers : List ℕ) (port octets kind : ℕ) → s ≡ t → k.program ≡ t → k.value ≡ kept_value k.program numbers → packet_frame s cells ≡ new_frame s port octets kind (kept_value s numbers) → packet_frame t cells ≡ new_frame t port octets kind k.value
begins_at s t cells k numbers port octets kind same own is begins =
    subst (λ (x : Syntax16). packet_frame x cells ≡ new_frame x port octets kind (kept_value x numbers)) same begins
    ∙ ap (new_frame t port octets kind) (sym (is ∙ ap (λ (x : Syntax16). kept_value x numbers) own))

-- the end of ingress

clone_same : (c : Setting) (f : Frame) (asked : Option Request) → option_map (clone_kept c.syntax f) asked ≡ option_map (tagged_clone c) (option_map (asked_clone c.syntax f) asked)
clone_same c f None = refl
clone_same c f (Some r) = refl

next_same : (c : Setting) (port : ℕ) (m : Moment) (asked : Option Request) → next_from c.syntax port m.frame m.unparsed asked ≡ tagged_next c (next_after c port m asked)
next_same c port m (Some r) = refl
next_same c port m None = by (egress_spec m.frame == drop_port) where
  by : (b : Bool) → cond b after_ingress.Drop (after_ingress.Go (egress_spec m.frame) (handed_from c.syntax port m.frame m.unparsed)) ≡ tagged_next c (cond b after_ingress.Drop (after_ingress.Go (egress_spec m.frame) (handed_on port m)))
  by true = refl
  by false = refl

abbrev ended : Option (ℕ × Tagged Value) → IngressNext (Tagged Value) (Tagged Held) → IngressEnd (Tagged Value) (Tagged Held)
ended clone next = record { clone = clone; next = next }

pub ingress_is : (c : Setting) (b : Between) (came : Item (Tagged Value)) (first last : Cells) (store : Contents) (unparsed : List ℕ) (work : ℕ) (clone : Option (ℕ × Tagged Value)) (next : IngressNext (Tagged Value) (Tagged Held)) → packet_frame c.syntax first ≡ new_frame c.syntax came.port (length came.octets % 2 ^ 32) came.instance came.kept.value → StandsAt c.syntax last store unparsed work (verified_and_run c (parse16 c (moment_at c.syntax first b.store came.octets [] b.work))) → clone ≡ option_map (clone_kept c.syntax (packet_frame c.syntax last)) last.clone_i2e → next ≡ next_from c.syntax came.port (packet_frame c.syntax last) unparsed last.resubmit → (tagged_machine c).ingress b came ≡ (ended clone next, between_of store work last.events)
unfolding ingress16
ingress_is c b came first last store unparsed work clone next begins stands cloned goes =
    ap (λ (m : Moment). (tagged_ingress c (ingress_end c came.port m).0, (ingress_end c came.port m).1))
    (ap (λ (m : Moment). verified_and_run c (parse16 c m)) (sym (begun c b came first begins)) ∙ stands.is)
    ∙ ap (λ (e : IngressEnd (Tagged Value) (Tagged Held)). (e, between_of store work last.events))
    (ap (λ (x : Option (ℕ × Tagged Value)). ended x (tagged_next c (next_after c came.port m last.resubmit)))
    (sym (clone_same c (packet_frame c.syntax last) last.clone_i2e) ∙ sym cloned)
    ∙ ap (ended clone) (sym (next_same c came.port m last.resubmit) ∙ sym goes)) where
      m : Moment
      m = moment_at c.syntax last store unparsed stands.emitted work

-- a second parsing

abbrev reparsed : ℕ → Moment → Held × Between
reparsed port m = (handed_on port m, record { store = m.store; work = m.work; events = m.frame.events })

pub reparse_is : (c : Setting) (b : Between) (came : Item (Tagged Value)) (first last : Cells) (store : Contents) (p : Parsed) (unparsed : List ℕ) (work : ℕ) (held : Tagged Held) → packet_frame c.syntax first ≡ new_frame c.syntax came.port (length came.octets % 2 ^ 32) came.instance came.kept.value → parse16 c (moment_at c.syntax first b.store came.octets [] b.work) ≡ p → p.moment ≡ moment_at c.syntax last store unparsed [] work → held ≡ handed_from c.syntax came.port (packet_frame c.syntax last) unparsed → (tagged_machine c).reparse b came ≡ (held, between_of store work last.events)
unfolding reparse16
reparse_is c b came first last store p unparsed work held begins parses is holds =
    ap (λ (m : Moment). (tagged c (reparsed came.port m).0, (reparsed came.port m).1))
    (ap (λ (m : Moment). (parse16 c m).moment) (sym (begun c b came first begins)) ∙ ap (λ (x : Parsed). x.moment) parses ∙ is)
    ∙ ap (λ (h : Tagged Held). (h, between_of store work last.events)) (sym holds)

-- the end of egress

clone_held_same : (c : Setting) (port : ℕ) (m : Moment) (asked : Option Request) → option_map (clone_held c.syntax port m.frame m.unparsed) asked ≡ option_map (tagged_clone c) (option_map (asked_egress_clone c.syntax port m) asked)
clone_held_same c port m None = refl
clone_held_same c port m (Some r) = refl

leaves_same : (c : Setting) (f : Frame) (octets : List ℕ) (asked : Option Request) → leaves_with octets (option_map (kept_by c.syntax f) asked) ≡ tagged_end c (leaves c f octets asked)
leaves_same c f octets None = refl
leaves_same c f octets (Some r) = refl

abbrev left_with : Option (ℕ × Tagged Held) → EgressNext (Tagged Value) → EgressEnd (Tagged Value) (Tagged Held)
left_with clone end = record { clone = clone; end = end }

abbrev egress_of : Setting → ℕ → Moment → EgressEnd (Tagged Value) (Tagged Held) × Between
egress_of c port m = (tagged_egress c (egress_end c port m).0, (egress_end c port m).1)

begins_egress : (c : Setting) (b : Between) (held : Held) (first : Cells) (port kind : ℕ) → packet_frame c.syntax first ≡ egress_begun port kind held.frame → moment_at c.syntax first b.store held.unparsed [] b.work ≡ moment_of b (egress_frame held port kind) held.unparsed
begins_egress c b held first port kind is = ap (moment_with b held.unparsed) is

at_egress : (c : Setting) (b : Between) (held : Tagged Held) (first : Cells) (m : Moment) (port kind : ℕ) → packet_frame c.syntax first ≡ egress_begun port kind held.value.frame → control16 c Egress (moment_at c.syntax first b.store held.value.unparsed [] b.work) ≡ m → (tagged_machine c).egress b held port kind ≡ egress_of c held.value.port m
unfolding egress16
at_egress c b held first m port kind begins runs =
    ap (egress_of c held.value.port) (ap (control16 c Egress) (sym (begins_egress c b held.value first port kind begins)) ∙ runs)

-- by whether it is dropped

abbrev closed_with : Setting → ℕ → Moment → EgressNext Value → Moment → EgressEnd Value Held × Between
closed_with c port m next left = (
  record { clone = option_map (asked_egress_clone c.syntax port m) m.frame.clone_e2e; end = next },
  record { store = left.store; work = left.work; events = left.frame.events },
)

abbrev tested : Setting → ℕ → Moment → Bool → EgressEnd Value Held × Between
tested c port m drops =
    cond drops (closed_with c port m after_egress.Drop m)
    (closed_with c port m (leaves c m.frame (octets_left (put_together c m)) m.frame.recirculate) (put_together c m))

abbrev egress_closed : Option (ℕ × Tagged Held) → EgressNext (Tagged Value) × Moment → EgressEnd (Tagged Value) (Tagged Held) × Between
egress_closed clone x = (left_with clone x.0, record { store = x.1.store; work = x.1.work; events = x.1.frame.events })

abbrev asked_tagged : Setting → ℕ → Moment → Option (ℕ × Tagged Held)
asked_tagged c port m = option_map (tagged_clone c) (option_map (asked_egress_clone c.syntax port m) m.frame.clone_e2e)

ends_as : (c : Setting) (port : ℕ) (m : Moment) (drops : Bool) → (tagged_egress c (tested c port m drops).0, (tested c port m drops).1) ≡ egress_closed (asked_tagged c port m) (finished_by c m drops)
ends_as c port m true = refl
ends_as c port m false =
    let out : Moment = put_together c m in
    ap (λ (e : EgressNext (Tagged Value)). (left_with (asked_tagged c port m) e, between_of out.store out.work out.frame.events)) (sym (leaves_same c m.frame (octets_left out) m.frame.recirculate))

pub egress_is : (c : Setting) (b : Between) (held : Tagged Held) (first last put : Cells) (store after : Contents) (emitted : List ℕ) (work done port kind : ℕ) (clone : Option (ℕ × Tagged Held)) (end : EgressNext (Tagged Value)) → packet_frame c.syntax first ≡ egress_begun port kind held.value.frame → control16 c Egress (moment_at c.syntax first b.store held.value.unparsed [] b.work) ≡ moment_at c.syntax last store held.value.unparsed emitted work → clone ≡ option_map (clone_held c.syntax held.value.port (packet_frame c.syntax last) held.value.unparsed) last.clone_e2e → Finishes c.syntax put after held.value.unparsed done end (finished c (moment_at c.syntax last store held.value.unparsed emitted work)) → (tagged_machine c).egress b held port kind ≡ (left_with clone end, between_of after done put.events)
egress_is c b held first last put store after emitted work done port kind clone end begins runs cloned ends =
    at_egress c b held first m port kind begins runs
    ∙ ends_as c held.value.port m (egress_spec (packet_frame c.syntax last) == drop_port)
    ∙ ap (egress_closed (asked_tagged c held.value.port m)) ends.is
    ∙ ap (λ (x : Option (ℕ × Tagged Held)). (left_with x end, between_of after done put.events)) (sym (clone_held_same c held.value.port m last.clone_e2e) ∙ sym cloned) where
      m : Moment
      m = moment_at c.syntax last store held.value.unparsed emitted work

-- what comes of a packet behind egress

pub finished_dropped : (c : Setting) (s : Syntax16) (cells : Cells) (store : Contents) (unparsed emitted : List ℕ) (work : ℕ) → s ≡ c.syntax → (egress_spec (packet_frame s cells) == drop_port) ≡ true → Finishes c.syntax cells store unparsed work after_egress.Drop (finished c (moment_at c.syntax cells store unparsed emitted work))
finished_dropped c s cells store unparsed emitted work same drops = record {
  emitted = emitted;
  is =
      ap (finished_by c (moment_at c.syntax cells store unparsed emitted work))
      (subst (λ (x : Syntax16). (egress_spec (packet_frame x cells) == drop_port) ≡ true) same drops);
}

pub finished_left : (c : Setting) (s t : Syntax16) (cells put : Cells) (store after : Contents) (unparsed emitted octets : List ℕ) (work done : ℕ) (again : Option (Tagged Value)) (end : EgressNext (Tagged Value)) → s ≡ c.syntax → (egress_spec (packet_frame s cells) == drop_port) ≡ false → again ≡ option_map (kept_by s (packet_frame s cells)) cells.recirculate → ArePut t put after unparsed done octets (put_together c (moment_at c.syntax cells store unparsed emitted work)) → end ≡ leaves_with octets again → Finishes t put after unparsed done end (finished c (moment_at c.syntax cells store unparsed emitted work))
finished_left c s t cells put store after unparsed emitted octets work done again end same stays kept together leaving = record {
  emitted = together.emitted;
  is =
      ap (finished_by c m) (subst (λ (x : Syntax16). (egress_spec (packet_frame x cells) == drop_port) ≡ false) same stays)
      ∙ ap (λ (out : Moment). (leaves_with (octets_left out) again_here, out)) together.is
      ∙ ap (λ (os : List ℕ). (leaves_with os again_here, last)) (sym together.octets_are)
      ∙ ap (λ (k : Option (Tagged Value)). (leaves_with octets k, last)) (sym (kept ∙ ap (λ (x : Syntax16). option_map (kept_by x (packet_frame x cells)) cells.recirculate) same))
      ∙ ap (λ (e : EgressNext (Tagged Value)). (e, last)) (sym leaving);
} where
  m : Moment
  m = moment_at c.syntax cells store unparsed emitted work

  again_here : Option (Tagged Value)
  again_here = option_map (kept_by c.syntax (packet_frame c.syntax cells)) cells.recirculate

  last : Moment
  last = moment_at t put after unparsed together.emitted done

-- what the calls leave, by what is left in each part

pub between_same : (s t : Contents) (work done : ℕ) (events now : List Event) → s ≡ t → work ≡ done → events ≡ now → between_of s work events ≡ between_of t done now
between_same s t work done events now same counted noted =
    ap (λ (x : Contents). between_of x work events) same ∙ ap (λ (n : ℕ). between_of t n events) counted ∙ ap (between_of t done) noted

pub held_parts : (s : Syntax16) (cells : Cells) (unparsed : List ℕ) (port : ℕ) (h : Tagged Held) → record { program = s; value = record { frame = packet_frame s cells; unparsed = unparsed; port = port } } ≡ h → h.value ≡ record { frame = packet_frame h.program cells; unparsed = unparsed; port = port }
held_parts s cells unparsed port h is =
    let F : Tagged Held → Held = λ x. record { frame = packet_frame x.program cells; unparsed = unparsed; port = port } in
    ap (λ (x : Tagged Held). x.value) (sym is) ∙ ap F is

pub fits_at : (s t : Syntax16) (numbers : List ℕ) → t ≡ s → AreFitting (layout16 t).widths (metadata_start t).slot numbers → AreFitting (layout16 s).widths (metadata_start s).slot numbers
fits_at s t numbers same fits = subst (λ (x : Syntax16). AreFitting (layout16 x).widths (metadata_start x).slot numbers) same fits

pub resubmitted_is : (s : Syntax16) (f : Frame) (session list port : ℕ) (unparsed : List ℕ) (kept : Tagged Value) (asked : Option Request) → Some (session, list) ≡ asked → ((n : ℕ) → kept ≡ kept_by s f (n, list)) → after_ingress.Resubmit kept ≡ next_from s port f unparsed asked
resubmitted_is s f session list port unparsed kept asked is keeps =
    let R : Tagged Value → IngressNext (Tagged Value) (Tagged Held) = λ k. after_ingress.Resubmit k in
    ap R (keeps session) ∙ ap (next_from s port f unparsed) is

pub own_clone : (c : Setting) (s : Syntax16) (f : Frame) (asked : Option Request) (clone : Option (ℕ × Tagged Value)) → s ≡ c.syntax → clone ≡ option_map (clone_kept s f) asked → IsOwnClone (own_tagged c).kept clone
own_clone c s f asked clone same is = subst (λ (x : Option (ℕ × Tagged Value)). IsOwnClone (own_tagged c).kept x) (sym is) (by asked) where
  by : (asked : Option Request) → IsOwnClone (own_tagged c).kept (option_map (clone_kept s f) asked)
  by None = tt
  by (Some r) = same

-- what a slice up to the end has
rest_taken : (at : ℕ) (octets : List ℕ) → take (length octets - at) (drop at octets) ≡ drop at octets
rest_taken at octets =
    let n : length (drop at octets) ≡ length octets - at = length-drop at octets in
    take_all (length octets - at) (drop at octets) (omega (arith, n))

module _ (c d : Setting) (s : Syntax16) (b after : Between) (came : Item (Tagged Value)) (first last : Cells) (store : Contents) (at : ℕ) (octets numbers : List ℕ) (work : ℕ) (same : s ≡ c.syntax) (own : came.kept.program ≡ c.syntax) (value : came.kept.value ≡ kept_value came.kept.program numbers) (octets_are : octets ≡ came.octets) (begin : packet_frame s first ≡ new_frame s came.port (length octets % 2 ^ 32) came.instance (kept_value s numbers)) (stays : d ≡ c) (leaves_that : after ≡ between_of store work last.events) where
  begins_here : packet_frame c.syntax first ≡ new_frame c.syntax came.port (length came.octets % 2 ^ 32) came.instance came.kept.value
  begins_here =
      begins_at s c.syntax first came.kept numbers came.port (length octets % 2 ^ 32) came.instance same own value begin
      ∙ ap (λ (os : List ℕ). new_frame c.syntax came.port (length os % 2 ^ 32) came.instance came.kept.value) octets_are

  pub ingress_gives : (clone : Option (ℕ × Tagged Value)) (next : IngressNext (Tagged Value) (Tagged Held)) → StandsAt d.syntax last store (drop at octets) work (verified_and_run c (parse16 c (moment_at c.syntax first b.store octets [] b.work))) → clone ≡ option_map (clone_kept s (packet_frame s last)) last.clone_i2e → next ≡ next_from s came.port (packet_frame s last) (take (length octets - at) (drop at octets)) last.resubmit → (tagged_machine c).ingress b came ≡ (ended clone next, after)
  ingress_gives clone next stands cloned goes =
      ingress_is c b came first last store (drop at octets) work clone next begins_here
      (subst (λ (os : List ℕ). StandsAt c.syntax last store (drop at octets) work (verified_and_run c (parse16 c (moment_at c.syntax first b.store os [] b.work)))) octets_are
      (subst (λ (x : Setting). StandsAt x.syntax last store (drop at octets) work (verified_and_run c (parse16 c (moment_at c.syntax first b.store octets [] b.work)))) stays stands))
      (cloned ∙ ap (λ (x : Syntax16). option_map (clone_kept x (packet_frame x last)) last.clone_i2e) same)
      (goes ∙ ap (λ (os : List ℕ). next_from s came.port (packet_frame s last) os last.resubmit) (rest_taken at octets) ∙ ap (λ (x : Syntax16). next_from x came.port (packet_frame x last) (drop at octets) last.resubmit) same)
      ∙ ap (λ (x : Between). (ended clone next, x)) (sym leaves_that)

  pub reparse_gives : (error : ParserError) (held : Tagged Held) → parse16 c (moment_at c.syntax first b.store octets [] b.work) ≡ record { error = error; moment = moment_at d.syntax last store (drop at octets) [] work } → held ≡ handed_from s came.port (packet_frame s last) (take (length octets - at) (drop at octets)) → (tagged_machine c).reparse b came ≡ (held, after)
  reparse_gives error held parses holds =
      reparse_is c b came first last store (record { error = error; moment = moment_at d.syntax last store (drop at octets) [] work }) (drop at octets) work held begins_here
      (ap (λ (os : List ℕ). parse16 c (moment_at c.syntax first b.store os [] b.work)) (sym octets_are) ∙ parses)
      (ap (λ (x : Setting). moment_at x.syntax last store (drop at octets) [] work) stays)
      (holds ∙ ap (handed_from s came.port (packet_frame s last)) (rest_taken at octets) ∙ ap (λ (x : Syntax16). handed_from x came.port (packet_frame x last) (drop at octets)) same)
      ∙ ap (λ (x : Between). (held, x)) (sym leaves_that)

pub egress_gives : (c d e : Setting) (s : Syntax16) (b after : Between) (held : Tagged Held) (start first last put : Cells) (unparsed was : List ℕ) (from : ℕ) (store done_store : Contents) (nothing emitted : List ℕ) (work done port kind : ℕ) (clone : Option (ℕ × Tagged Held)) (end : EgressNext (Tagged Value)) → s ≡ c.syntax → held.program ≡ c.syntax → held.value ≡ record { frame = packet_frame held.program start; unparsed = was; port = from } → packet_frame s first ≡ egress_begun port kind (packet_frame s start) → unparsed ≡ was → nothing ≡ [] → d ≡ c → control16 c Egress (moment_at c.syntax first b.store unparsed nothing b.work) ≡ moment_at d.syntax last store unparsed emitted work → clone ≡ option_map (clone_held s from (packet_frame s last) unparsed) last.clone_e2e → e ≡ d → Finishes e.syntax put done_store unparsed done end (finished d (moment_at d.syntax last store unparsed emitted work)) → after ≡ between_of done_store done put.events → (tagged_machine c).egress b held port kind ≡ (left_with clone end, after)
egress_gives c d e s b after held start first last put unparsed was from store done_store nothing emitted work done port kind clone end same own value begin unparsed_are none stays runs cloned stays_on ends leaves_that =
    egress_is c b held first last put store done_store emitted work done port kind clone end
    (subst (λ (x : Syntax16). packet_frame x first ≡ egress_begun port kind (packet_frame x start)) same begin
    ∙ ap (egress_begun port kind) (sym (ap (λ (h : Held). h.frame) value ∙ ap (λ (x : Syntax16). packet_frame x start) own)))
    (ap (λ (os : List ℕ). control16 c Egress (moment_at c.syntax first b.store os [] b.work)) (sym un)
    ∙ ap (λ (es : List ℕ). control16 c Egress (moment_at c.syntax first b.store unparsed es b.work)) (sym none)
    ∙ runs
    ∙ ap (λ (x : Setting). moment_at x.syntax last store unparsed emitted work) stays
    ∙ ap (λ (os : List ℕ). moment_at c.syntax last store os emitted work) un)
    (cloned
    ∙ ap (λ (x : Syntax16). option_map (clone_held x from (packet_frame x last) unparsed) last.clone_e2e) same
    ∙ ap (λ (p : ℕ). option_map (clone_held c.syntax p (packet_frame c.syntax last) unparsed) last.clone_e2e) (sym (ap (λ (h : Held). h.port) value))
    ∙ ap (λ (os : List ℕ). option_map (clone_held c.syntax held.value.port (packet_frame c.syntax last) os) last.clone_e2e) un)
    (subst (λ (os : List ℕ). Finishes c.syntax put done_store os done end (finished c (moment_at c.syntax last store os emitted work))) un
    (subst (λ (x : Setting). Finishes x.syntax put done_store unparsed done end (finished x (moment_at x.syntax last store unparsed emitted work))) stays
    (subst (λ (x : Setting). Finishes x.syntax put done_store unparsed done end (finished d (moment_at d.syntax last store unparsed emitted work))) stays_on ends)))
    ∙ ap (λ (x : Between). (left_with clone end, x)) (sym leaves_that) where
      un : unparsed ≡ held.value.unparsed
      un = unparsed_are ∙ sym (ap (λ (h : Held). h.unparsed) value)
