-- What a first look at the entries file says.
use Rattle.std.proofs.Common.{◌≡◌, ℕ, ◌<◌, List, [], ◌∷◌, length, true, false, Option, Some, None, refl, arith}
use Rattle.std.specs.Bool.{IsTrue}
use Rattle.std.specs.Prelude.{◌↔◌}
use Rattle.file_work.specs.declared.stop.Stop.TheVariants.{Unfit}
use Rattle.p4x_cmd.specs.Carry.{entries_stop, not_taken}

pub entries_none : (file : Option (List ℕ)) → (file ≡ None → ⊥) → ((text : List ℕ) → file ≡ Some text → IsTrue false ↔ (0 < length text)) → entries_stop file ≡ None
entries_none None there none = absurd (there refl)
entries_none (Some []) there none = refl
entries_none (Some (b ∷ text)) there none = let no = (none (b ∷ text) refl).1 (omega arith) in absurd (cc)

pub entries_some : (file : Option (List ℕ)) → (file ≡ None → ⊥) → ((text : List ℕ) → file ≡ Some text → IsTrue true ↔ (0 < length text)) → entries_stop file ≡ Some (Unfit not_taken)
entries_some None there some = absurd (there refl)
entries_some (Some []) there some = absurd (omega (arith, (some [] refl).0 refl))
entries_some (Some (b ∷ text)) there some = refl
