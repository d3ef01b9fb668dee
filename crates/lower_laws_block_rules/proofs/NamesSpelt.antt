-- What is asked of the names of instances and fields for the blocks to be spelt.
use Rattle.std.proofs.Common.{◌≡◌, ℕ, ◌<◌, ◌≤◌, [], ◌∷◌, length, refl, ap, arith}
use Rattle.v1_core.specs.Frames.{of_headers, of_metadata}
use Rattle.v1_core.specs.Surroundings.{World}
use Rattle.agreement_of_meanings.specs.Shown.{name_of, fields_of, field_at}
use Rattle.lower_laws_base.specs.Context.{StateLayout, shown_on}
use Rattle.lower_laws_program.specs.Program.{root_struct}
use Rattle.lower_laws_program.specs.TypesFit.{TypeWords}
use Rattle.lower_laws_program.specs.Scopes.{BlockWords, block_lowering}
use Rattle.lower_laws_rules.specs.Spelling.{SpeltName}
use Rattle.lower_laws_block_rules.specs.Widths.{SpeltHere}
use Rattle.lower_laws_block_rules.specs.Spelt.{RootsSpelt}
use Rattle.lower_laws_block_rules.specs.Program.{fixed_roots}

-- new names of instances and fields are spelt, and stacks have at most 256 elements (C4)
pub record LayoutNamed (g : StateLayout) : Type 0 where
  pub instances : (i : ℕ) → i < length g.names.instances → SpeltName (name_of (shown_on g i))
  pub fields : (i k : ℕ) → i < length g.names.instances → k < length (fields_of (shown_on g i)) → SpeltName (field_at (fields_of (shown_on g i)) k).called
  pub sizes : (i : ℕ) → i < length g.names.instances → g.size_of i ≤ 256

-- in each block
pub named_here : (g : StateLayout) (t : TypeWords) → LayoutNamed g → (b : BlockWords) (w : World) → b.parameters ≡ [] → SpeltHere (block_lowering g t b w)
named_here g t named b w none = record {
  words = record { roots = (refl, refl, refl); instances = named.instances; fields = named.fields; parameters = λ j lt. absurd (omega (arith, lt, ap length none)) };
  sizes = named.sizes;
}

pub roots : RootsSpelt (root_struct of_headers) (root_struct of_metadata) fixed_roots
roots = record { packet = refl; headers = refl; metadata = refl; standard = refl; header_struct = refl; metadata_struct = refl }
