-- What stands around the statements of ingress and egress breaks no rule and is spelt.
use Rattle.std.proofs.Common.{◌≡◌, ℕ, suc, Bool, true, false, [], ◌∷◌, Some, refl, ap, subst, arith}
use Rattle.std.specs.Prelude.{codes}
use Rattle.p416_syntax.specs.declared.node.BinaryOperator.TheVariants.{Equal}
use Rattle.p416_syntax.specs.Conditions.{statements}
use Rattle.p416_syntax.specs.Tree.{name, member, Stmt16}
use Rattle.p416_syntax.specs.Names.{Name}
use Rattle.p416_syntax.specs.Kinds.{Kind, bits, boolean, error_code, struct}
use Rattle.p416_syntax.specs.BuiltIn.{standard_name}
use Rattle.p416_syntax.specs.Scopes.{Scope, fields_in}
use Rattle.p416_syntax.specs.Expressions.{field_kind_in}
use Rattle.p416_syntax.specs.Externs.{are_allowed}
use Rattle.v1_core.specs.Frames.{of_standard}
use Rattle.lower_laws_base.specs.Context.{Lowering, words_of, now, HasRoot, a_function, Sees}
use Rattle.lower_laws_controls.specs.Guards.{error_exp, checksum_exp, guard_exp, guarded_stmt}
use Rattle.lower_laws_base.specs.Mirror.{drop_stmt}
use Rattle.lower_laws_rules.specs.Keeping.{Sound, Part}
use Rattle.lower_laws_rules.specs.Spelling.{SpeltExp, SpeltStmt}
use Rattle.lower_laws_rules.proofs.Places.{deeper, read_only, writable}
use Rattle.lower_laws_rules.proofs.Parts.{part_none, part_then, part_block, part_if_else, nests_deeper}
use Rattle.lower_laws_rules.proofs.Sound.{sound_literal, sound_member, sound_pair, sound_and, sound_no_error}
use Rattle.lower_laws_rules.proofs.Externs.{part_drop}
use Rattle.lower_laws_rules.proofs.Sources.{sound_root}
use Rattle.lower_laws_block_rules.specs.Widths.{SpeltHere}

module _ (c : Lowering) (s : Scope) (sees : Sees c s []) (has : HasRoot c.layout of_standard) where
  sound_word : (word : Name) (k : Kind) → field_kind_in (fields_in s.layouts (c.root_type of_standard)) word ≡ Some k → Sound s (member (name (c.root of_standard)) word) k false 2
  sound_word word k there = read_only (sound_member s (name (c.root of_standard)) (struct (c.root_type of_standard)) (c.can_write of_standard) 1 word k (sound_root c s [] sees now tt of_standard has) there refl refl)

  sound_error : Sound s (error_exp (words_of c)) boolean false 3
  sound_error = sound_no_error (sound_word (codes "parser_error") error_code (sees.declares.error has))

  sound_checksum : Sound s (checksum_exp (words_of c)) boolean false 3
  sound_checksum = sound_pair Equal refl (sound_word (codes "checksum_error") (bits 1) (sees.declares.checksum has)) (sound_literal s 1 0 (omega arith))

  pub sound_guard : (checks : Bool) → Sound s (guard_exp (words_of c) checks) boolean false 4
  sound_guard true = sound_and sound_error sound_checksum
  sound_guard false = deeper 4 (omega arith) sound_error

  module _ (is : c.root_type of_standard ≡ standard_name) (writes : c.can_write of_standard ≡ true) (at : are_allowed (2 ∷ 3 ∷ []) s.positions ≡ true) where
    drops : Part s s [] 0 (drop_stmt (words_of c))
    drops = part_drop (sees.declares.named (a_function (codes "mark_to_drop")) refl) at (subst (λ (k : Kind). Sound s (name (c.root of_standard)) k true 1) (ap (λ (t : Name). struct t) is) (writable writes (sound_root c s [] sees now tt of_standard has))) (omega arith)

    pub part_guarded : (checks : Bool) (m : ℕ) (x : Stmt16) → Part s s [] m x → Part s s [] (suc m) (guarded_stmt (words_of c) checks x)
    part_guarded checks m x p =
        nests_deeper (suc m) (omega arith)
        (part_then part_none (part_if_else (sound_guard checks) (omega arith) (part_block p refl) (part_block (part_then part_none drops) refl)))

pub guard_here : (c : Lowering) → SpeltHere c → (checks : Bool) → SpeltExp (guard_exp (words_of c) checks)
guard_here c facts true = let sm = facts.words.roots.2 in (((sm, refl), (tt, refl)), ((sm, refl), refl))
guard_here c facts false = let sm = facts.words.roots.2 in ((sm, refl), (tt, refl))

pub guarded_here : (c : Lowering) → SpeltHere c → (checks : Bool) (x : Stmt16) → SpeltStmt statements x → SpeltStmt statements (guarded_stmt (words_of c) checks x)
guarded_here c facts checks x is = let sm = facts.words.roots.2 in (tt, (guard_here c facts checks, is, refl, (tt, ((refl, (tt, sm)), refl))))
