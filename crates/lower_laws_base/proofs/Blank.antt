-- Instances in which nothing stands.
use Rattle.std.proofs.Common.{◌≡◌, ℕ, ◌<◌, ◌^◌, false, List, length, get_or, sym, ap, ◌∙◌, subst, arith}
use Rattle.std.proofs.lemmas.List.{length-replicate, get_or-replicate}
use Rattle.std.proofs.lemmas.Nat.{pow_pos}
use Rattle.p414_syntax.specs.declared.syntax.Decl.{Decl}
use Rattle.p414_syntax.specs.declared.syntax.Decl.TheVariants as decl
use Rattle.p414_sem.specs.State.{Header, no_header, blank, blank_instance}
use Rattle.agreement_of_meanings.specs.Shown.{Shown, as_header, as_stack, as_metadata, is_metadata, fields_of, field_at, element}
use Rattle.agreement_of_meanings.specs.Agrees.{IsElement}
use Rattle.lower_laws_base.specs.Context.{IsShaped}
use Rattle.lower_laws_base.proofs.Shapes.{InstanceFits}
use Rattle.lower_laws_base.specs.Types.{ShownDecl}

-- it is of the program

abbrev pub SizeFits : Shown → ℕ → Type 0
SizeFits (as_stack called fields) size = Unit {0}
SizeFits x size = size ≡ 1

pub size_fits : (ds : List Decl) (d : Decl) (x : Shown) (size : ℕ) → ShownDecl ds d x size → SizeFits x size
size_fits ds (decl.Header h) (as_header called fields) size is = is.0
size_fits ds (decl.Header h) (as_stack called fields) size is = tt
size_fits ds (decl.Metadata m) (as_metadata called fields) size is = is.0
size_fits ds (decl.Header h) (as_metadata called fields) size is = absurd is
size_fits ds (decl.Metadata m) (as_header called fields) size is = absurd is
size_fits ds (decl.Metadata m) (as_stack called fields) size is = absurd is
size_fits ds _ x size is = absurd is

pub blank_there : (size n e : ℕ) → e < size → element (blank_instance false size n) e ≡ blank false n
blank_there size n e lt = get_or-replicate size e (blank false n) no_header lt

pub blank_shaped : (x : Shown) (size e : ℕ) → e < size → IsElement x (blank_instance false size (length (fields_of x))) e → IsShaped x (blank_instance false size (length (fields_of x))) e
blank_shaped x size e lt which =
    let n = length (fields_of x) in
    record {
      which = which;
      count = ap (λ (h : Header). length h.numbers) (blank_there size n e lt) ∙ length-replicate {A = ℕ} n 0;
      bounds = λ k b. subst (λ z. z < 2 ^ (field_at (fields_of x) k).width) (sym (ap (λ (h : Header). get_or h.numbers k 0) (blank_there size n e lt) ∙ get_or-replicate n k 0 0 b)) (pow_pos (field_at (fields_of x) k).width);
    }

pub blank_fits : (x : Shown) (size : ℕ) → is_metadata x ≡ false → SizeFits x size → InstanceFits x size (blank_instance false size (length (fields_of x)))
blank_fits (as_header called fields) size plain one =
    record { size_is = length-replicate size (blank false (length fields)); place = omega arith; each = λ e lt. blank_shaped (as_header called fields) size e lt (omega (arith, lt, one)) }
blank_fits (as_stack called fields) size plain one =
    record { size_is = length-replicate size (blank false (length fields)); place = omega arith; each = λ e lt. blank_shaped (as_stack called fields) size e lt tt }
blank_fits (as_metadata called fields) size plain one = absurd (cc plain)
