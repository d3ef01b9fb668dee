use Rattle.std.proofs.Common.{◌≡◌, ◌∙◌, sym, ap, subst, IfOk}
use Rattle.match_core.specs.declared.signatures.KeyKind.{KeyKind}
use Rattle.entries_file.specs.KeyForms.{key_by, key_of}
use Rattle.entries_file.specs.internal.Kept.{read_as}
use Rattle.entries_file.proofs.key_forms.read_key.Goals as goal

pub returns-in-Exact : goal.returns-in-Exact
unfolding key_of
returns-in-Exact c = c.read_exact.ensures ∙ ap (λ (k : KeyKind). read_as c.args.spec.width (key_by k c.args.spec.width c.args.word.now)) (sym c.in-Exact.is)

pub returns-in-Ternary : goal.returns-in-Ternary
unfolding key_of
returns-in-Ternary c = c.read_ternary.ensures ∙ ap (λ (k : KeyKind). read_as c.args.spec.width (key_by k c.args.spec.width c.args.word.now)) (sym c.in-Ternary.is)

pub returns-in-Lpm : goal.returns-in-Lpm
unfolding key_of
returns-in-Lpm c = c.read_lpm.ensures ∙ ap (λ (k : KeyKind). read_as c.args.spec.width (key_by k c.args.spec.width c.args.word.now)) (sym c.in-Lpm.is)

pub returns-in-Range : goal.returns-in-Range
unfolding key_of
returns-in-Range c =
    subst (λ (k : KeyKind). IfOk c.read_range.result (λ read. read ≡ read_as c.args.spec.width (key_by k c.args.spec.width c.args.word.now))) (sym c.in-Range.is) c.read_range.ensures
