-- Parameters that go back, one after another.
use Rattle.std.proofs.Common.{◌≡◌, ℕ, ◌<◌, List, [], ◌∷◌, refl, sym, ap, subst, ◌∙◌, arith}
use Rattle.v1_core.specs.Cells.{Cells, slot_value}
use Rattle.v1_core.specs.Layouts.{Layout}
use Rattle.v1_ready_blocks.specs.declared.places.Target.{Target}
use Rattle.v1_ready_blocks.specs.declared.places.Range.{Range}
use Rattle.v1_ready_blocks.specs.Places.{put_at, copied}
use Rattle.v1_ready_blocks.specs.Arguments.{Outgoing, value_out, parts_out, all_back}
use Rattle.v1_ready_blocks.specs.declared.nodes.OutgoingNode.TheVariants as outgoing_node
use Rattle.v1_ready_blocks.specs.Nodes.{Tree, outgoing_at, IsSlot, IsTarget, IsRange, IsOutgoing}

pub slot_there : (l : Layout) (old now : Cells) (slot : ℕ) → old.layout ≡ l → now.layout ≡ old.layout → IsSlot l slot → IsSlot now.layout slot
slot_there l old now slot a b is = subst (λ (k : Layout). IsSlot k slot) (sym (b ∙ a)) is

pub target_there : (l : Layout) (old now : Cells) (t : Target) → old.layout ≡ l → now.layout ≡ old.layout → IsTarget l t → IsTarget now.layout t
target_there l old now t a b is = subst (λ (k : Layout). IsTarget k t) (sym (b ∙ a)) is

pub range_there : (l : Layout) (old now : Cells) (r : Range) → old.layout ≡ l → now.layout ≡ old.layout → IsRange l r → IsRange now.layout r
range_there l old now r a b is = subst (λ (k : Layout). IsRange k r) (sym (b ∙ a)) is

pub record Leaving (ts : List Tree) (count at : ℕ) (due old now : Cells) : Type 0 where
  pub there : at < count
  pub layout : now.layout ≡ old.layout
  pub same : all_back (outgoing_at ts at) now ≡ due

module _ (ts : List Tree) (count : ℕ) (l : Layout) where
  pub back_begins : (place : ℕ) (c : Cells) → place < count → Leaving ts count place (all_back (outgoing_at ts place) c) c c
  back_begins place c there = record { there = there; layout = refl; same = refl }

  pub back_value : (at from rest number : ℕ) (to : Target) (due old now new : Cells) → IsOutgoing l at (outgoing_node.Value from to rest) → outgoing_at ts at ≡ value_out from to ∷ outgoing_at ts rest → number ≡ slot_value now from → new ≡ put_at to number now → Leaving ts count at due old now → Leaving ts count rest due old new
  back_value at from rest number to due old now new fits tree reads puts g = record {
    there = omega (arith, fits.2, g.there);
    layout = ap (λ (c : Cells). c.layout) puts ∙ g.layout;
    same =
        ap (all_back (outgoing_at ts rest)) puts
        ∙ ap (λ (k : ℕ). all_back (outgoing_at ts rest) (put_at to k now)) reads
        ∙ ap (λ (l : List Outgoing). all_back l now) (sym tree)
        ∙ g.same;
  }

  pub back_parts : (at rest : ℕ) (from to : Range) (due old now new : Cells) → IsOutgoing l at (outgoing_node.Parts from to rest) → outgoing_at ts at ≡ parts_out from to ∷ outgoing_at ts rest → new ≡ copied from to now → new.layout ≡ now.layout → Leaving ts count at due old now → Leaving ts count rest due old new
  back_parts at rest from to due old now new fits tree copies layout g = record {
    there = omega (arith, fits.2, g.there);
    layout = layout ∙ g.layout;
    same = ap (all_back (outgoing_at ts rest)) copies ∙ ap (λ (l : List Outgoing). all_back l now) (sym tree) ∙ g.same;
  }

  pub back_ends : (at : ℕ) (due old now : Cells) → outgoing_at ts at ≡ [] → Leaving ts count at due old now → now ≡ due
  back_ends at due old now tree g = sym (ap (λ (l : List Outgoing). all_back l now) tree) ∙ g.same
