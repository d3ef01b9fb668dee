use Rattle.std.proofs.Common.{ℕ, ◌+◌, List, length, ap, ◌∙◌, subst}
use Rattle.p416_syntax.specs.declared.program.Decl16.{Decl16}
use Rattle.p416_syntax.specs.Declarations.{layouts_of}
use Rattle.p416_names.specs.SeenKinds.{seen_kind}
use Rattle.v1_pass_slots.specs.declared.slots.PassSlots.{PassSlots}
use Rattle.v1_pass_slots.specs.Found.{IsMetadata}
use Rattle.v1_pass_slots.proofs.Found.{slots_found}
use Rattle.v1_pass_slots.proofs.find.pass_slots.Goals as goal

pub returns : goal.returns
returns c =
    let slots : PassSlots = record { fields = c.in_ok-fields.fields; standard = c.in_ok-standard.standard; metadata = c.in_ok-between.between; lists = c.in_ok-lists.lists } in
    slots_found c.args.syntax.now c.in_ok-table.table c.args.layout.now (seen_kind c.args.headers) (seen_kind c.args.metadata) c.in_ok-starts.starts slots
    (c.in_ok-table.ensures ∙ ap layouts_of c.requires.top) c.requires.layout c.requires.headers c.requires.metadata
    c.in_ok-starts.ensures c.in_ok-fields.ensures c.in_ok-between.ensures.between c.in_ok-standard.ensures.between c.in_ok-standard.ensures.order
    (subst (λ (ds : List Decl16). IsMetadata ds (seen_kind c.args.metadata) c.in_ok-lists.lists.items) (c.in_ok-types.ensures.top ∙ c.requires.top) c.in_ok-lists.ensures)
    (c.has_slots.ensures c.if-not-has_slots.false ∙ ap (λ (ls : List (List ℕ)). c.in_ok-between.between.from + length ls) c.deref.ensures.value)
