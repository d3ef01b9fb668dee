-- Moments between the calls of a block that verifies or updates.
use Rattle.std.proofs.Common.{◌≡◌, List, [], refl, sym, ap, ◌∙◌, subst}
use Rattle.std.specs.Prelude.{codes}
use Rattle.fabric.specs.declared.items.Event.{Event}
use Rattle.p414_sem.specs.State.{request_of as request14}
use Rattle.p414_sem.specs.Effects.{Moment as Moment14}
use Rattle.p416_syntax.specs.Names.{Name}
use Rattle.v1_core.specs.Values.{Value, a_number, member_in, with_member, with_part, fitted, to_member}
use Rattle.v1_core.specs.Frames.{Frame, Moment, of_headers, of_metadata, of_standard, of_variables, of_inner, of_nothing, ticked, with_frame, with_standard}
use Rattle.agreement_of_meanings.specs.Shown.{standard_word, shown_at}
use Rattle.agreement_of_meanings.specs.Agrees.{Agrees, RequestsAgree}
use Rattle.agreement_of_meanings.proofs.Names.{is_there, part_is, put_is, member_same, member_other, differ_names}
use Rattle.agreement_of_meanings.proofs.Written.{shown_stays, requests_by16}
use Rattle.lower_laws_base.specs.Context.{StateLayout, HasMembers, Aside}
use Rattle.lower_laws_base.proofs.States.{Leaves, member_kept, variables_left, stands_ticked}
use Rattle.lower_laws_base.proofs.Writes.{apart_checksum}
use Rattle.lower_laws_controls.specs.Alike.{Level}
use Rattle.lower_laws_controls.specs.Blocks.{HasAll}

-- the other ground's structs have their members, and these events stand
pub record Amid (g h : StateLayout) (events : List Event) (aside : Aside) (m : Moment14) (n : Moment) : Type 0 where
  pub level : Level h aside m n
  pub all : HasAll g n.frame
  pub events_are : n.frame.events ≡ events

pub amid_ticked : (g h : StateLayout) (events : List Event) (aside : Aside) (m : Moment14) (n : Moment) → Amid g h events aside m n → Amid g h events aside m (ticked n)
amid_ticked g h events aside m n amid =
    record { level = stands_ticked h [] [] aside m n amid.level; all = amid.all; events_are = amid.events_are }

-- a wrong checksum is noted
module _ (h : StateLayout) (aside : Aside) (m : Moment14) (n : Moment) (level : Level h aside m n) where
  abbrev word : Name
  word = codes "checksum_error"

  abbrev old : Value
  old = n.frame.standard

  abbrev pub noted : Frame
  noted = with_standard word (a_number 1 1) n.frame

  noted_is : noted.standard ≡ with_member old word (a_number 1 1)
  noted_is =
      ap (λ v. with_part old (to_member word) (fitted v (a_number 1 1))) (part_is old word (ap is_there level.checksum) ∙ level.checksum)
      ∙ put_is old word (a_number 1 1) (ap is_there level.checksum)

  pub all_noted : (g : StateLayout) → HasAll g n.frame → HasAll g noted
  all_noted g all of_headers there = all of_headers there
  all_noted g all of_metadata there = all of_metadata there
  all_noted g all of_standard there = subst (HasMembers (g.members of_standard)) (sym noted_is) (member_kept (g.members of_standard) old word (a_number 1 1) (all of_standard there))
  all_noted g all of_variables there = absurd there
  all_noted g all of_inner there = absurd there
  all_noted g all of_nothing there = absurd there

  kept : (other : Name) → (word ≡ other → ⊥) → member_in noted.standard other ≡ member_in old other
  kept other apart = ap (λ v. member_in v other) noted_is ∙ member_other old word other (a_number 1 1) apart

  agrees : Agrees h.names m.state noted
  agrees =
      let a = level.both.packet.agrees in
      record {
        instances = record { count = a.instances.count; each = λ k lt. shown_stays n.frame noted (shown_at h.names.instances k) _ refl refl (a.instances.each k lt) };
        standard = λ which. kept (standard_word which) (λ e. apart_checksum which (sym e)) ∙ a.standard which;
        requests = λ kind. subst (λ q. RequestsAgree h.names.marks (request14 m.state kind) q) (requests_by16 n.frame noted refl refl refl refl kind) (a.requests kind);
      }

  pub level_noted : Level h (record aside { checksum = 1 }) m (with_frame n noted)
  level_noted = record {
    both = record { packet = record { agrees = agrees; unparsed = level.both.packet.unparsed; events = level.both.packet.events; runs = level.both.packet.runs }; store = level.both.store };
    shaped = level.shaped;
    stored = level.stored;
    inner = level.inner;
    count = level.count;
    variables = variables_left h [] [] aside h.variables n.frame noted refl level.variables;
    members = all_noted h level.members;
    error = kept (codes "parser_error") (differ_names word (codes "parser_error") refl) ∙ level.error;
    checksum = ap (λ v. member_in v word) noted_is ∙ member_same old word (a_number 1 1) (ap is_there level.checksum);
    emitted = level.emitted;
    hit = level.hit;
  }

-- what a write to the packet leaves
pub all_left : (g : StateLayout) (f z : Frame) → Leaves f z → HasAll g f → HasAll g z
all_left g f z left all of_headers there = left.headers (g.members of_headers) (all of_headers there)
all_left g f z left all of_metadata there = left.metadata (g.members of_metadata) (all of_metadata there)
all_left g f z left all of_standard there = left.standard (g.members of_standard) (all of_standard there)
all_left g f z left all of_variables there = absurd there
all_left g f z left all of_inner there = absurd there
all_left g f z left all of_nothing there = absurd there
