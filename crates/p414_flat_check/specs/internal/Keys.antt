-- Fields by the name of their instance, their index and their own name.
use Rattle.std.specs.Prelude.{◌≡◌, ℕ, Bool, ◌&&◌, nat_eq, List, Option, Some, None}
use Rattle.std.specs.Borrow.{Bor}
use Rattle.std.specs.List.{list_any}
use Rattle.std.specs.Str.{bytes_eq}
use Rattle.p414_syntax.specs.declared.parts.Index.{Index}
use Rattle.p414_syntax.specs.declared.parts.Index.TheVariants.{At, Next, Last}
use Rattle.p414_syntax.specs.declared.parts.Ref.{Ref}
use Rattle.p414_syntax.specs.declared.syntax.Decl.{Decl}
use Rattle.p414_syntax.specs.Names.{Name}
use Rattle.p414_syntax.specs.CalculatedFields.{is_calculated}

-- the kind and the number of an index; each index has its own
abbrev pub place_of : Option Index → ℕ × ℕ
place_of None = (0, 0)
place_of (Some (At n)) = (1, n.value)
place_of (Some Next) = (2, 0)
place_of (Some Last) = (3, 0)

abbrev pub FieldKey : Type 0
FieldKey = Name × ((ℕ × ℕ) × Name)

abbrev pub key_of : Ref → FieldKey
key_of r = (r.instance.name, (place_of r.instance.index, r.field))

-- what a key refers to
abbrev pub shown_key : Bor Name × ((ℕ × ℕ) × Bor Name) → FieldKey
shown_key k = (k.0.now, (k.1.0, k.1.1.now))

abbrev pub is_same_key : FieldKey → FieldKey → Bool
is_same_key a b = bytes_eq a.0 b.0 && ((nat_eq a.1.0.0 b.1.0.0 && nat_eq a.1.0.1 b.1.0.1) && bytes_eq a.1.1 b.1.1)

-- these are the calculated fields of a program
pub record AreCalculated (ds : List Decl) (keys : List FieldKey) : Type 0 where
  pub same : (r : Ref) → list_any (is_same_key (key_of r)) keys ≡ is_calculated ds r
