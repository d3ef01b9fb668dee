-- What a step leaves to be written.
use Rattle.std.proofs.Common.{◌≡◌, ◌+◌, ◌<◌, true, List, [], ◌∷◌, ◌++◌, sym, ap, ◌∙◌, arith}
use Rattle.std.proofs.lemmas.List.Concat.{flat_map-append}
use Rattle.std.proofs.lemmas.List.Folds.{list_all-append}
use Rattle.std.proofs.lemmas.Bool.{and_from}
use Rattle.p416_syntax.specs.Tree.{Stmt16}
use Rattle.p416_syntax.specs.Written.{written_stmt}
use Rattle.p416_parentheses.specs.Syntax.{full_stmt}
use Rattle.p416_spelling.specs.Words.{words16}
use Rattle.p416_stmt_writer.specs.declared.work.Work.{Work}
use Rattle.p416_stmt_writer.specs.Layouts.{Step, part, steps, said, all_said, are_spelt, is_spelt_step, are_spelt_steps, stmt_weight, weight, all_weight, layout, IsPushed}
use Rattle.p416_stmt_writer.proofs.Table.{layout_said, layout_spelt, layout_lighter}

weight_append : (xs ys : List Step) → all_weight (xs ++ ys) ≡ all_weight xs + all_weight ys
weight_append [] ys = omega arith
weight_append (x ∷ xs) ys = omega (arith, weight_append xs ys)

module _ (s : Stmt16) (old new : List Work) (p : IsPushed s old new) where
  pub pushed_said : all_said (steps new) ≡ said (part s) ++ all_said (steps old)
  pushed_said =
      ap all_said p.parts ∙ flat_map-append said (layout p.outermost) (steps old)
      ∙ ap (λ ws. ws ++ all_said (steps old)) (layout_said p.outermost ∙ ap (λ x. words16 (written_stmt (full_stmt x))) (sym p.tree))

  pub pushed_spelt : are_spelt (written_stmt s) ≡ true → are_spelt_steps (steps old) ≡ true → are_spelt_steps (steps new) ≡ true
  pushed_spelt h o =
      ap are_spelt_steps p.parts ∙ list_all-append is_spelt_step (layout p.outermost) (steps old)
      ∙ and_from (are_spelt_steps (layout p.outermost)) (are_spelt_steps (steps old)) (layout_spelt p.outermost (ap (λ x. are_spelt (written_stmt x)) (sym p.tree) ∙ h)) o

  pub pushed_lighter : all_weight (steps new) < weight (part s) + all_weight (steps old)
  pushed_lighter = omega (arith, ap all_weight p.parts ∙ weight_append (layout p.outermost) (steps old), layout_lighter p.outermost, ap stmt_weight p.tree)
