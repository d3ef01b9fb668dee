-- That what is asked of actions can be met: six primitives in the scope of an action break no rule, under both rules of P4_14.
use Rattle.std.proofs.Common.{ℕ, zero, suc, ◌<◌, true, false, None, List, [], ◌∷◌, length, refl, arith}
use Rattle.std.specs.Prelude.{codes, pos}
use Rattle.p414_syntax.specs.declared.syntax.Decl.{Decl}
use Rattle.p414_syntax.specs.declared.syntax.Rule14.{Rule14}
use Rattle.p414_syntax.specs.declared.syntax.Rule14.TheVariants.{Sequential, Parallel}
use Rattle.p414_sem.specs.declared.standard.Standard.TheVariants.{IngressPort, EgressSpec, EgressPort, PacketLength, InstanceType}
use Rattle.state_store.specs.Ports.{drop_port}
use Rattle.p414_sem.specs.Slots.{Slot, standard, declared}
use Rattle.p414_sem.specs.Operations.{number, field, parameter, just, sum, cell, Primitive, write, add_header, push, write_cell}
use Rattle.p416_syntax.specs.Kinds.{register}
use Rattle.v1_core.specs.Surroundings.{no_table_applies, no_action_runs}
use Rattle.agreement_of_meanings.specs.Shown.{field_at}
use Rattle.lower_laws_base.specs.Context.{Lowering, words_of, object_at, IsSlot}
use Rattle.lower_laws_base.specs.Mirror.{width_in}
use Rattle.lower_laws_base.proofs.Sample.{scope, locals, c as any_c, copies as any_copies, sees as any_sees, spares as any_spares}
use Rattle.lower_laws_actions.specs.Mirror.{body_stmt}
use Rattle.lower_laws_actions.specs.Fits.{IsObject, AllFit}
use Rattle.lower_laws_rules.specs.Standing.{HasParameters}
use Rattle.lower_laws_rules.specs.Acting.{IsWidth, WidthsFit}
use Rattle.lower_laws_rules.proofs.Bodies.{BodyKeeps, body_keeps}

abbrev c : Lowering
c = any_c no_action_runs no_table_applies

pub widths : WidthsFit c
widths = record { slots = slots; parameters = parameters; registers = registers; writes = λ o is. refl } where
  slots : (slot : Slot) → IsSlot c.layout slot → IsWidth (width_in (words_of c) slot)
  slots (standard IngressPort) is = (omega arith, omega arith)
  slots (standard EgressSpec) is = (omega arith, omega arith)
  slots (standard EgressPort) is = (omega arith, omega arith)
  slots (standard PacketLength) is = (omega arith, omega arith)
  slots (standard InstanceType) is = (omega arith, omega arith)
  slots (declared zero e zero) is = (omega arith, omega arith)
  slots (declared zero e (suc zero)) is = (omega arith, omega arith)
  slots (declared zero e (suc (suc k))) is = absurd (let lt = is.3 in omega (arith, lt))
  slots (declared (suc zero) e zero) is = (omega arith, omega arith)
  slots (declared (suc zero) e (suc k)) is = absurd (let lt = is.3 in omega (arith, lt))
  slots (declared (suc (suc zero)) e zero) is = (omega arith, omega arith)
  slots (declared (suc (suc zero)) e (suc k)) is = absurd (let lt = is.3 in omega (arith, lt))
  slots (declared (suc (suc (suc i))) e k) is = absurd (let lt = is.0 in omega (arith, lt))

  parameters : (j : ℕ) → j < length c.parameters → IsWidth (field_at c.parameters j).width
  parameters zero lt = (omega arith, omega arith)
  parameters (suc j) lt = absurd (omega (arith, lt))

  registers : (j : ℕ) → IsObject c register j → IsWidth (object_at c.objects j).width
  registers zero is = (omega arith, omega arith)
  registers (suc zero) is = absurd (cc is.1)
  registers (suc (suc j)) is = absurd (let lt = is.0 in omega (arith, lt))

given : HasParameters c locals
given zero lt = record { place = 0; within = omega arith; stands = refl }
given (suc j) lt = absurd (omega (arith, lt))

abbrev primitives : List Primitive
primitives =
    write true (record { slot = declared 0 0 0; width = 8; saturating = true }) (sum (field (declared 0 0 0)) (parameter 0))
    ∷ write true (record { slot = declared 0 0 1; width = 16; saturating = false }) (cell 0 (number (pos 1)))
    ∷ add_header (record { instance = 1; element = 1 }) ∷ push 1 1 ∷ write_cell 0 (parameter 0) (field (declared 2 0 0))
    ∷ write false (record { slot = standard EgressSpec; width = 9; saturating = false }) (just (number (pos drop_port))) ∷ []

fits : (ds : List Decl) → AllFit c ds primitives
fits ds = (
  ((omega arith, omega arith, refl, omega arith), refl, ((omega arith, omega arith, refl, omega arith), omega arith), (tt, tt)),
  (
    ((omega arith, omega arith, refl, omega arith), refl, ((omega arith, refl), tt), tt),
    (
      ((omega arith, omega arith, refl), refl),
      (
        (record { called = codes "t"; fields = _; within = omega arith; shown = refl; root = refl }, omega arith),
        (((omega arith, refl), omega arith, (omega arith, omega arith, refl, omega arith)), ((refl, refl, tt, tt), tt)),
      ),
    ),
  ),
)

pub bodies_kept : (ds : List Decl) (rule : Rule14) → BodyKeeps c ds widths (2 ∷ []) refl scope (body_stmt ds (words_of c) rule None primitives)
bodies_kept ds Sequential = body_keeps c ds widths (2 ∷ []) refl scope locals (any_sees no_action_runs no_table_applies) given (any_spares no_action_runs no_table_applies) refl primitives (fits ds) (tt, (tt, (tt, (tt, (tt, (tt, tt)))))) (codes "a") None tt Sequential (λ needs. absurd (cc needs))
bodies_kept ds Parallel = body_keeps c ds widths (2 ∷ []) refl scope locals (any_sees no_action_runs no_table_applies) given (any_spares no_action_runs no_table_applies) refl primitives (fits ds) (tt, (tt, (tt, (tt, (tt, (tt, tt)))))) (codes "a") None tt Parallel (λ needs. (any_copies no_action_runs no_table_applies, refl, refl, refl))
