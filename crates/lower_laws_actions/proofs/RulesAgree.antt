-- Where primitives are apart, both rules say the same.
use Rattle.std.proofs.Common.{◌≡◌, ℕ, Bool, true, false, List, [], ◌∷◌, refl, sym, ap, ◌∙◌}
use Rattle.std.specs.Prelude.{not, ◌&&◌, ◌||◌, flat_map}
use Rattle.std.specs.List.{list_any}
use Rattle.p414_syntax.specs.declared.syntax.Decl.{Decl}
use Rattle.p414_syntax.specs.declared.syntax.Rule14.{Rule14}
use Rattle.p414_syntax.specs.declared.syntax.Rule14.TheVariants.{Sequential, Parallel}
use Rattle.p414_syntax.specs.Arguments.{Invocation}
use Rattle.p414_sem.specs.Expanded.{Expanded}
use Rattle.p414_sem.specs.Operations.{Primitive, primitive_of}
use Rattle.p414_sem.specs.Effects.{Moment, Effect, all_fallen, in_sequence, in_parallel, acted}
use Rattle.lower_laws_actions.specs.Apart.{Part, number_of, form_of, whole_of, elements_of, cells_of, changes, reads, are_apart, needs_copies}
use Rattle.lower_laws_actions.specs.Runs.{after, after_sequence, after_parallel, after_rule, primitives_of}
use Rattle.lower_laws_actions.specs.Same.{Same, SameElse}
use Rattle.lower_laws_actions.proofs.Kept.{nothing_changed, primitive_keeps, primitive_keeps_else}
use Rattle.lower_laws_actions.proofs.Alike.{AllSame, both_same, same_effects}

-- tests

pub both_true : (a b : Bool) → a && b ≡ true → (a ≡ true) × (b ≡ true)
both_true true b is = (refl, is)
both_true false b is = absurd (cc is)

not_true : (a : Bool) → not a ≡ true → a ≡ false
not_true true is = absurd (cc is)
not_true false is = refl

none_of : (a b : Bool) → a || b ≡ false → (a ≡ false) × (b ≡ false)
none_of true b is = absurd (cc is)
none_of false b is = (refl, is)

-- parts

same_again : (r m n : Moment) (x : Part) → Same r m x → Same m n x → Same r n x
same_again r m n (number_of slot) a b = a ∙ b
same_again r m n (form_of header) a b = (a.0 ∙ b.0, a.1 ∙ b.1)
same_again r m n (whole_of header) a b = a ∙ b
same_again r m n (elements_of instance) a b = a ∙ b
same_again r m n (cells_of object) a b = λ k. a k ∙ b k

all_unchanged : (m : Moment) (parts : List Part) → AllSame m m parts
all_unchanged m [] = tt
all_unchanged m (x ∷ parts) = (nothing_changed m x, all_unchanged m parts)

module _ (ds : List Decl) (arguments : List ℕ) where
  -- what stays the same behind a primitive
  all_kept : (r m : Moment) (p : Primitive) (parts : List Part) → list_any (changes p) parts ≡ false → AllSame r m parts → AllSame r (after ds arguments r p m) parts
  all_kept r m p [] none all = tt
  all_kept r m p (x ∷ parts) none all =
      let two = none_of (changes p x) (list_any (changes p) parts) none in
      (same_again r m (after ds arguments r p m) x all.0 (primitive_keeps ds arguments r m p x two.0), all_kept r m p parts two.1 all.1)

  else_kept : (r m : Moment) (p : Primitive) → SameElse r m → SameElse r (after ds arguments r p m)
  else_kept r m p rest =
      let more = primitive_keeps_else ds arguments r m p in
      record { unparsed = rest.unparsed ∙ more.unparsed; shapes = rest.shapes ∙ more.shapes }

  apart_from : (ps : List Primitive) → are_apart ds ps ≡ true → (r m : Moment) → SameElse r m → AllSame r m (flat_map (reads ds) ps) → after_sequence ds arguments ps m ≡ after_parallel ds arguments r ps m
  apart_from [] apart r m rest all = refl
  apart_from (p ∷ ps) apart r m rest all =
      let two = both_true (not (list_any (changes p) (flat_map (reads ds) ps))) (are_apart ds ps) apart in
      let read = both_same r m (reads ds p) (flat_map (reads ds) ps) all in
      ap (λ (e : List Effect). after_sequence ds arguments ps (all_fallen m e)) (sym (same_effects ds arguments r m rest p read.0))
      ∙ apart_from ps two.1 r (after ds arguments r p m) (else_kept r m p rest) (all_kept r m p (flat_map (reads ds) ps) (not_true (list_any (changes p) (flat_map (reads ds) ps)) two.0) read.1)

  -- for lists of primitives
  pub apart_lists : (ps : List Primitive) → are_apart ds ps ≡ true → (m : Moment) → after_sequence ds arguments ps m ≡ after_parallel ds arguments m ps m
  apart_lists ps apart m = apart_from ps apart m m (record { unparsed = refl; shapes = refl }) (all_unchanged m (flat_map (reads ds) ps))

-- with copies a list is run as the parallel rule says, and without them as the sequential one says

pub run_with_copies : (ds : List Decl) (rule : Rule14) (arguments : List ℕ) (ps : List Primitive) (m : Moment) → needs_copies ds rule ps ≡ true → after_rule ds rule arguments ps m ≡ after_parallel ds arguments m ps m
run_with_copies ds Sequential arguments ps m needs = absurd (cc needs)
run_with_copies ds Parallel arguments ps m needs = refl

pub run_without_copies : (ds : List Decl) (rule : Rule14) (arguments : List ℕ) (ps : List Primitive) (m : Moment) → needs_copies ds rule ps ≡ false → after_rule ds rule arguments ps m ≡ after_sequence ds arguments ps m
run_without_copies ds Sequential arguments ps m needs = refl
run_without_copies ds Parallel arguments ps m needs = sym (apart_lists ds arguments ps (is_true (are_apart ds ps) needs) m) where
  is_true : (a : Bool) → not a ≡ false → a ≡ true
  is_true true is = refl
  is_true false is = absurd (cc is)

-- the lists are those of the calls

pub sequence_is : (ds : List Decl) (x : Expanded) (arguments : List ℕ) (all : List Invocation) (m : Moment) → after_sequence ds arguments (primitives_of ds x all) m ≡ in_sequence ds x arguments all m
sequence_is ds x arguments [] m = refl
sequence_is ds x arguments (i ∷ all) m = sequence_is ds x arguments all (after ds arguments m (primitive_of ds x i) m)

pub parallel_is : (ds : List Decl) (x : Expanded) (arguments : List ℕ) (r : Moment) (all : List Invocation) (m : Moment) → after_parallel ds arguments r (primitives_of ds x all) m ≡ in_parallel ds x arguments r all m
parallel_is ds x arguments r [] m = refl
parallel_is ds x arguments r (i ∷ all) m = parallel_is ds x arguments r all (after ds arguments r (primitive_of ds x i) m)

pub rule_is : (ds : List Decl) (x : Expanded) (rule : Rule14) (arguments : List ℕ) (all : List Invocation) (m : Moment) → after_rule ds rule arguments (primitives_of ds x all) m ≡ acted ds x rule arguments all m
rule_is ds x Sequential arguments all m = sequence_is ds x arguments all m
rule_is ds x Parallel arguments all m = parallel_is ds x arguments m all m

-- An action whose primitives are apart does the same under both rules, with any arguments, in any moment.
pub rules_agree : (ds : List Decl) (x : Expanded) (all : List Invocation) → are_apart ds (primitives_of ds x all) ≡ true → (arguments : List ℕ) (m : Moment) → acted ds x Parallel arguments all m ≡ acted ds x Sequential arguments all m
rules_agree ds x all apart arguments m =
    sym (parallel_is ds x arguments m all m)
    ∙ sym (apart_lists ds arguments (primitives_of ds x all) apart m)
    ∙ sequence_is ds x arguments all m
