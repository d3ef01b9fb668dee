-- What a step leaves to be written.
use Rattle.std.proofs.Common.{◌≡◌, ◌+◌, ◌<◌, Bool, true, false, List, [], ◌∷◌, ◌++◌, refl, ap, ◌∙◌, arith}
use Rattle.std.proofs.lemmas.List.Concat.{flat_map-append}
use Rattle.std.proofs.lemmas.List.Folds.{list_all-append}
use Rattle.std.proofs.lemmas.Bool.{and_from}
use Rattle.p416_syntax.specs.declared.views.ExpHead.{ExpHead}
use Rattle.p416_syntax.specs.Tree.{Exp16}
use Rattle.p416_syntax.specs.Heads.{of_exp_head}
use Rattle.token_sheet.specs.declared.blanks.Gap.{Gap}
use Rattle.p416_exp_writer.specs.declared.work.Form.{Form}
use Rattle.p416_exp_writer.specs.declared.work.Form.TheVariants as form
use Rattle.p416_exp_writer.specs.declared.work.Work.{Work}
use Rattle.p416_exp_writer.specs.declared.work.Work.TheVariants.{Visit}
use Rattle.p416_exp_writer.specs.Placed.{is_wrapped_as}
use Rattle.p416_exp_writer.specs.Spelt.{is_spelt_exp}
use Rattle.p416_exp_writer.specs.Layouts.{said, all_said, is_spelt_work, are_spelt_works, exp_weight, form_weight, weight, all_weight, wrapped_layout, IsPushed}
use Rattle.p416_exp_writer.proofs.Table.{wrapped_said, wrapped_spelt, layout_lighter}

weight_append : (xs ys : List Work) → all_weight (xs ++ ys) ≡ all_weight xs + all_weight ys
weight_append [] ys = omega arith
weight_append (x ∷ xs) ys = omega (arith, weight_append xs ys)

wrapped_lighter : (f : Form) (t : Bool) (gap : Gap) (h : ExpHead) (e : Exp16) → is_wrapped_as f e ≡ t → e ≡ of_exp_head h → all_weight (wrapped_layout t gap h e) < form_weight f + exp_weight e
wrapped_lighter form.Within true gap h e q w = absurd (cc)
wrapped_lighter form.Full true gap h e q w = omega arith
wrapped_lighter form.Base true gap h e q w = omega arith
wrapped_lighter f false gap h e q w = omega (arith, layout_lighter gap h, ap exp_weight w)

module _ (gap : Gap) (f : Form) (e : Exp16) (old new : List Work) (p : IsPushed gap f e old new) where
  pub pushed_said : all_said new ≡ said (Visit gap f e) ++ all_said old
  pushed_said =
      ap all_said p.parts ∙ flat_map-append said (wrapped_layout (is_wrapped_as f e) gap p.outermost e) old
      ∙ ap (λ ws. ws ++ all_said old) (wrapped_said (is_wrapped_as f e) gap p.outermost e p.tree)

  pub pushed_spelt : is_spelt_exp e ≡ true → are_spelt_works old ≡ true → are_spelt_works new ≡ true
  pushed_spelt s o =
      let parts = wrapped_layout (is_wrapped_as f e) gap p.outermost e in
      ap are_spelt_works p.parts ∙ list_all-append is_spelt_work parts old
      ∙ and_from (are_spelt_works parts) (are_spelt_works old) (wrapped_spelt (is_wrapped_as f e) gap p.outermost e p.tree s) o

  pub pushed_lighter : all_weight new < weight (Visit gap f e) + all_weight old
  pushed_lighter =
      let parts = wrapped_layout (is_wrapped_as f e) gap p.outermost e in
      omega (arith, ap all_weight p.parts ∙ weight_append parts old, wrapped_lighter f (is_wrapped_as f e) gap p.outermost e refl p.tree)
