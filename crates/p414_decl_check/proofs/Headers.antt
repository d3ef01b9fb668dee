-- The bits of a header, by the number of its elements and its type.
use Rattle.std.proofs.Common.{◌≡◌, ℕ, ◌*◌, List, sym, ap, ap₂, ◌∙◌}
use Rattle.p414_syntax.specs.declared.headers.Header.{Header}
use Rattle.p414_syntax.specs.declared.syntax.Decl.{Decl}
use Rattle.p414_syntax.specs.declared.syntax.Decl.TheVariants as decl
use Rattle.p414_syntax.specs.Names.{Name}
use Rattle.p414_syntax.specs.Totals.{elements_of, bits_of_type, header_bits}

pub header_bits_is : (ds : List Decl) (d : Decl) (x : Header) (n : ℕ) (name : Name) → d ≡ decl.Header x → n ≡ elements_of x.size → name ≡ x.header_type → n * bits_of_type ds name ≡ header_bits ds d
header_bits_is ds d x n name is elements named = ap₂ (λ k m. k * bits_of_type ds m) elements named ∙ sym (ap (header_bits ds) is)
